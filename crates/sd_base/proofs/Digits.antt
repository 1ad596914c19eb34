use Rattle.std.proofs.Common.{arith, ◌≡◌, ℕ, ◌+◌, ◌-◌, ◌*◌, ◌<◌, ◌≤◌, List, [], ◌∷◌, length, get_or, take, Bool, true}
use Rattle.std.proofs.Common.{◌&&◌, refl, ap}
use Rattle.std.proofs.lemmas.Int.Digits.{digits_value_more}
use Rattle.std.proofs.lemmas.Str.{digit_value_digit}
use Rattle.std.proofs.lemmas.Str.Parse.{numerals_by_value, tells_all_ascii_digits, digit_at, digits_value-take-le}
use Rattle.std.proofs.lemmas.Str.Parse.{IsNumeralModel}
use Rattle.std.specs.Char.{is_ascii_digit}
use Rattle.std.specs.Int.{IsInRange}
use Rattle.std.specs.List.{list_all}
use Rattle.std.specs.Str.{all_ascii_digits}
use Rattle.std.specs.Str.Parse.{digits_value}

-- a text whose bytes are all digits, as std reads it
pub own : IsNumeralModel (λ ds. all_ascii_digits ds ≡ true) (digits_value 10)
own = numerals_by_value _ tells_all_ascii_digits

-- each byte tested for itself is the text tested whole
pub each_is_digit : (text : List ℕ) → list_all is_ascii_digit text ≡ all_ascii_digits text
each_is_digit [] = refl
each_is_digit (byte ∷ bytes) = ap (λ (b : Bool). is_ascii_digit byte && b) (each_is_digit bytes)

-- a byte of such a text is from `0` to `9`
pub digit_within : (text : List ℕ) (i : ℕ) → all_ascii_digits text ≡ true → i < length text
    → IsInRange 48 57 (get_or text i 0)
digit_within text i h m = digit_at text i (own.to text h) m

-- one digit more is ten times the number so far and the digit
pub value_more : (text : List ℕ) (i : ℕ) → all_ascii_digits text ≡ true → i < length text
    → digits_value 10 (take (i + 1) text) ≡ digits_value 10 (take i text) * 10 + (get_or text i 0 - 48)
value_more text i h m =
    let more = digits_value_more 10 text i m in
    let digit = digit_value_digit (get_or text i 0) (digit_within text i h m) in
    omega arith

-- ten times the number so far and the digit are at most the whole
pub value_at_least : (text : List ℕ) (i : ℕ) → all_ascii_digits text ≡ true → i < length text
    → digits_value 10 (take i text) * 10 + (get_or text i 0 - 48) ≤ digits_value 10 text
value_at_least text i h m =
    let more = value_more text i h m in
    let part = digits_value-take-le 10 text (i + 1) (omega arith) in
    omega arith
