use Rattle.std.proofs.Common.{arith, ◌≡◌, ℕ, zero, suc, ◌<◌, ◌^◌, List, [], ◌∷◌, ◌++◌, length, get_or, true, refl, ap}
use Rattle.std.proofs.Common.{sym, Some, ◌∙◌}
use Rattle.std.proofs.lemmas.Grind.{common_steps}
use Rattle.std.proofs.lemmas.Fmt.{decimal_nonempty, digits_decimal, digits_value-decimal, first_decimal, decimal_digit}
use Rattle.std.proofs.lemmas.Fmt.{decimal-digits_value}
use Rattle.std.proofs.lemmas.List.{take_at, drop_at}
use Rattle.std.proofs.lemmas.Slice.Eq.{bytes_eq-Decides}
use Rattle.std.specs.Fmt.{decimal}
use Rattle.std.specs.Char.{is_ascii_digit}
use Rattle.std.specs.Str.{all_ascii_digits, bytes_eq}
use Rattle.std.specs.Str.Parse.{digits_value}
use Rattle.sd_base.specs.Lines.{is_line}
use Rattle.sd_base.specs.Number.{is_decimal, decimal_value, rest_after, decimal_after}
use Rattle.sd_base.proofs.Digits.{own}

-- what `{}` writes of a number is a decimal
pub decimal_is_decimal : (n : ℕ) → n < 2 ^ 64 → is_decimal (decimal n) ≡ true
decimal_is_decimal zero h = rw (decimal_digit zero (omega arith)) refl
decimal_is_decimal (suc n) h =
    grind (
      arith,
      common_steps,
      decimal_nonempty (suc n) h,
      digits_decimal own (suc n) h,
      first_decimal (suc n) (omega arith) h,
    )

-- and says that number
pub number_of_decimal : (n : ℕ) → n < 2 ^ 64 → decimal_value (decimal n) ≡ Some n
unfolding decimal_value
number_of_decimal n h = rw (decimal_is_decimal n h) (ap Some (digits_value-decimal own n h))

-- a decimal of 64 bits is what `{}` writes of the number that it says
pub decimal_of_number : (text : List ℕ) (n : ℕ) → n < 2 ^ 64 → decimal_value text ≡ Some n → text ≡ decimal n
unfolding decimal_value
decimal_of_number text n h e =
    let form : is_decimal text ≡ true = grind (arith, common_steps) in
    let digits : all_ascii_digits text ≡ true = grind (arith, common_steps) in
    let some : 0 < length text = grind (arith, common_steps) in
    let alone : get_or text 0 0 ≡ 48 → length text ≡ 1 = λ zero. grind (arith, common_steps) in
    let says : digits_value 10 text ≡ n = grind (arith, common_steps) in
    let small : digits_value 10 text < 2 ^ 64 = omega arith in
    sym (decimal-digits_value own text digits some alone small) ∙ ap decimal says

-- what stands after a word is read back
pub after_word : (word text : List ℕ) → rest_after word (word ++ text) ≡ Some text
unfolding rest_after
after_word word text =
    let prefix = take_at word text (length word) refl in
    let rest = drop_at word text (length word) refl in
    let same : bytes_eq word word ≡ true = (bytes_eq-Decides word word).1 refl in
    rw prefix (rw rest (rw same refl))

-- a word and a number after it are read back
pub decimal_after_decimal : (word : List ℕ) (n : ℕ) → n < 2 ^ 64 → decimal_after word (word ++ decimal n) ≡ Some n
decimal_after_decimal word n h = rw (after_word word (decimal n)) (number_of_decimal n h)

-- no digit is a line feed
digits_in_line : (text : List ℕ) → all_ascii_digits text ≡ true → is_line text ≡ true
digits_in_line [] h = refl
digits_in_line (byte ∷ bytes) h =
    let parts : (is_ascii_digit byte ≡ true) × (all_ascii_digits bytes ≡ true) = grind (arith, common_steps) in
    let rest = digits_in_line bytes parts.1 in
    grind (arith, common_steps)

-- what `{}` writes of a number stands on one line
pub decimal_in_line : (n : ℕ) → n < 2 ^ 64 → is_line (decimal n) ≡ true
decimal_in_line n h = digits_in_line (decimal n) (digits_decimal own n h)
