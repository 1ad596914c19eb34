-- How long lines and texts are.
use Rattle.std.proofs.Common.{arith, ◌≡◌, ℕ, ◌+◌, ◌^◌, ◌<◌, ◌≤◌, Bool, true, false, cond, List, [], ◌∷◌, length}
use Rattle.std.proofs.Common.{drop, take, Option, Some, None, ap, length-drop}
use Rattle.std.specs.Prelude.{◌==◌, option_and_then}
use Rattle.std.proofs.Common.{refl}
use Rattle.std.specs.Str.{bytes_eq}
use Rattle.std.proofs.lemmas.Fmt.{length-decimal-le}
use Rattle.std.proofs.lemmas.Option.{same_Some}
use Rattle.sd_base.specs.Lines.{lines_of, onto_first_line}
use Rattle.sd_base.specs.Number.{rest_after, decimal_value, decimal_after}
use Rattle.sd_base.proofs.DecimalNumbers.{decimal_of_number}

-- the length of these lines, each with a line feed
abbrev pub long_lines : List (List ℕ) → ℕ
long_lines [] = 0
long_lines (line ∷ lines) = length line + 1 + long_lines lines

onto_long : (byte : ℕ) (lines : List (List ℕ)) →
    1 + long_lines lines ≤ long_lines (onto_first_line byte lines)
onto_long byte [] = omega arith
onto_long byte (line ∷ lines) = omega arith

-- a text has no more bytes than its lines, each with a line feed
pub text_length : (bytes : List ℕ) → length bytes ≤ long_lines (lines_of bytes)
text_length [] = omega arith
text_length (byte ∷ bytes) = by_feed (byte == 10) (text_length bytes)
  where
    by_feed : (b : Bool) → length bytes ≤ long_lines (lines_of bytes) →
        length (byte ∷ bytes)
        ≤ long_lines (cond b ([] ∷ lines_of bytes) (onto_first_line byte (lines_of bytes)))
    by_feed true h = omega (arith, h)
    by_feed false h = omega (arith, h, onto_long byte (lines_of bytes))

-- what stands after a word
pub after_length : (word line rest : List ℕ) → rest_after word line ≡ Some rest →
    length line ≤ length word + length rest
unfolding rest_after
after_length word line rest e = by_test (bytes_eq (take (length word) line) word) e
  where
    by_test : (b : Bool) → cond b (Some (drop (length word) line)) None ≡ Some rest →
        length line ≤ length word + length rest
    by_test true is =
        let same = ap (λ (l : List ℕ). length l) (same_Some (drop (length word) line) rest is) in
        omega (arith, same, length-drop (length word) line)
    by_test false is = absurd (cc)

-- a line that is a word and a number
pub said_length : (word line : List ℕ) (n k : ℕ) → 0 < k → n < 10 ^ k → n < 2 ^ 64 →
    decimal_after word line ≡ Some n → length line ≤ length word + k
said_length word line n k some small low e = by_after (rest_after word line) refl e
  where
    by_after : (found : Option (List ℕ)) → rest_after word line ≡ found → option_and_then decimal_value found ≡ Some n →
        length line ≤ length word + k
    by_after None is f = absurd (cc)
    by_after (Some rest) is f =
        let said = ap (λ (l : List ℕ). length l) (decimal_of_number rest n low f) in
        omega (arith, after_length word line rest is, said, length-decimal-le k n some small low)
