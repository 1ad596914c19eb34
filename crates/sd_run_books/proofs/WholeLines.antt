-- The lines of a text that is empty or ends with a line feed.
use Rattle.std.proofs.Common.{arith, ◌≡◌, ℕ, suc, ◌+◌, ◌-◌, ◌==◌, ◌||◌, nat_le, Bool, true, false}
use Rattle.std.proofs.Common.{List, [], ◌∷◌, ◌++◌, length, get_or, refl, sym, ap, ◌∙◌, cond}
use Rattle.std.specs.List.{count_by}
use Rattle.std.proofs.lemmas.Bool.Decides.{nat_tests}
use Rattle.std.proofs.lemmas.List.Sums.{sum_by-cons}
use Rattle.sd_base.specs.Lines.{lines_of, onto_first_line}
use Rattle.sd_command_base.specs.Files.{ends_lines}

-- a text with a byte ends with a line feed if its last byte is one
last_byte : (byte : ℕ) (bytes : List ℕ) → ends_lines (byte ∷ bytes) ≡ (get_or (byte ∷ bytes) (length bytes) 0 == 10)
last_byte byte bytes =
    let last : length (byte ∷ bytes) - 1 ≡ length bytes = omega arith in
    let some : nat_le (suc (length bytes)) 0 ≡ false = grind (arith, nat_tests) in
    ap (λ (t : Bool). t || (get_or (byte ∷ bytes) (length (byte ∷ bytes) - 1) 0 == 10)) some
    ∙ ap (λ (k : ℕ). get_or (byte ∷ bytes) k 0 == 10) last

-- behind its first byte a text of more than one byte ends as it did
ends_behind : (byte next : ℕ) (bytes : List ℕ) → ends_lines (byte ∷ next ∷ bytes) ≡ true →
    ends_lines (next ∷ bytes) ≡ true
ends_behind byte next bytes h = last_byte next bytes ∙ sym (last_byte byte (next ∷ bytes)) ∙ h

-- a text with a byte has a line
some_line : (byte : ℕ) (bytes : List ℕ) →
    (line : List ℕ) × (lines : List (List ℕ)) × (lines_of (byte ∷ bytes) ≡ line ∷ lines)
some_line byte bytes = by_feed (byte == 10) (lines_of bytes)
  where
    by_feed : (feed : Bool) (lines : List (List ℕ)) → (line : List ℕ) × (others : List (List ℕ))
        × (cond feed ([] ∷ lines) (onto_first_line byte lines) ≡ line ∷ others)
    by_feed true lines = ([], lines, refl)
    by_feed false [] = (byte ∷ [], [], refl)
    by_feed false (line ∷ lines) = (byte ∷ line, lines, refl)

-- the lines of such a text, and of what comes after it
pub lines_joined : (a b : List ℕ) → ends_lines a ≡ true → lines_of (a ++ b) ≡ lines_of a ++ lines_of b
lines_joined [] b h = refl
lines_joined (byte ∷ []) b h =
    let feed : (byte == 10) ≡ true = sym (last_byte byte []) ∙ h in
    ap (λ (t : Bool). cond t ([] ∷ lines_of b) (onto_first_line byte (lines_of b))) feed
    ∙ sym (ap (λ (t : Bool). cond t ([] ∷ []) (onto_first_line byte []) ++ lines_of b) feed)
lines_joined (byte ∷ next ∷ bytes) b h =
    let rest = lines_joined (next ∷ bytes) b (ends_behind byte next bytes h) in
    let (line, lines, is) = some_line next bytes in
    by_feed (byte == 10) rest line lines is
  where
    by_feed : (feed : Bool) → lines_of ((next ∷ bytes) ++ b) ≡ lines_of (next ∷ bytes) ++ lines_of b →
        (line : List ℕ) (lines : List (List ℕ)) → lines_of (next ∷ bytes) ≡ line ∷ lines →
        cond feed ([] ∷ lines_of ((next ∷ bytes) ++ b)) (onto_first_line byte (lines_of ((next ∷ bytes) ++ b)))
        ≡ cond feed ([] ∷ lines_of (next ∷ bytes)) (onto_first_line byte (lines_of (next ∷ bytes))) ++ lines_of b
    by_feed true rest line lines is = ap (λ (ls : List (List ℕ)). [] ∷ ls) rest
    by_feed false rest line lines is =
        ap (onto_first_line byte) rest
        ∙ ap (λ (ls : List (List ℕ)). onto_first_line byte (ls ++ lines_of b)) is
        ∙ sym (ap (λ (ls : List (List ℕ)). onto_first_line byte ls ++ lines_of b) is)

-- such a text has as many lines as line feeds
pub feeds_are_lines : (bytes : List ℕ) → ends_lines bytes ≡ true →
    count_by (λ byte. byte == 10) bytes ≡ length (lines_of bytes)
feeds_are_lines [] h = refl
feeds_are_lines (byte ∷ []) h =
    let feed : (byte == 10) ≡ true = sym (last_byte byte []) ∙ h in
    rw feed refl
feeds_are_lines (byte ∷ next ∷ bytes) h =
    let rest = feeds_are_lines (next ∷ bytes) (ends_behind byte next bytes h) in
    let (line, lines, is) = some_line next bytes in
    sum_by-cons (λ b. cond (b == 10) 1 0) byte (next ∷ bytes) ∙ by_feed (byte == 10) rest line lines is
  where
    by_feed : (feed : Bool) → count_by (λ byte. byte == 10) (next ∷ bytes) ≡ length (lines_of (next ∷ bytes)) →
        (line : List ℕ) (lines : List (List ℕ)) → lines_of (next ∷ bytes) ≡ line ∷ lines →
        cond feed 1 0 + count_by (λ byte. byte == 10) (next ∷ bytes)
        ≡ length (cond feed ([] ∷ lines_of (next ∷ bytes)) (onto_first_line byte (lines_of (next ∷ bytes))))
    by_feed true rest line lines is = omega (arith, rest)
    by_feed false rest line lines is =
        let none : 0 + count_by (λ byte. byte == 10) (next ∷ bytes) ≡ length (lines_of (next ∷ bytes)) =
        omega (arith, rest) in
        none ∙ ap (λ (ls : List (List ℕ)). length ls) is
        ∙ sym (ap (λ (ls : List (List ℕ)). length (onto_first_line byte ls)) is)
