use Rattle.std.proofs.Common.{arith, ◌≡◌, ◌≢◌, ℕ, ◌+◌, ◌-◌, ◌<◌, List, [], ◌∷◌, ◌++◌, length, get_or, take, drop, suc}
use Rattle.std.proofs.Common.{zero, refl, true, false, ◌==◌}
use Rattle.std.proofs.lemmas.Grind.{common_steps}
use Rattle.std.proofs.lemmas.List.{take_rest}
use Rattle.sd_base.specs.Lines.{lines_of, is_line}

-- a byte that is no line feed stands on the first line
off_feed : (byte : ℕ) (bytes line : List ℕ) (lines : List (List ℕ)) → byte ≢ 10 → lines_of bytes ≡ line ∷ lines
    → lines_of (byte ∷ bytes) ≡ (byte ∷ line) ∷ lines
off_feed byte bytes line lines ne e = grind (arith, common_steps)

-- the first line ends at the first line feed
pub cut_at_feed : (bytes : List ℕ) (end : ℕ) → end < length bytes → get_or bytes end 0 ≡ 10
    → ((k : ℕ) → k < end → get_or bytes k 0 ≢ 10) → lines_of bytes ≡ take end bytes ∷ lines_of (drop (end + 1) bytes)
cut_at_feed [] end h e before = absurd (omega arith)
cut_at_feed (byte ∷ bytes) zero h e before = grind (arith, common_steps)
cut_at_feed (byte ∷ bytes) (suc end) h e before =
    let more : suc end + 1 ≡ suc (end + 1) = omega arith in
    rw more (off_feed byte bytes (take end bytes) (lines_of (drop (end + 1) bytes)) (before 0 (omega arith))
    (cut_at_feed bytes end (omega arith) e (λ k m. before (suc k) (omega arith))))

-- without a line feed the text is one line
pub no_feed : (bytes : List ℕ) → 0 < length bytes → ((k : ℕ) → k < length bytes → get_or bytes k 0 ≢ 10)
    → lines_of bytes ≡ bytes ∷ []
no_feed [] h before = absurd (omega arith)
no_feed (byte ∷ []) h before = grind (arith, common_steps, before 0 (omega arith))
no_feed (byte ∷ (next ∷ bytes)) h before =
    off_feed byte (next ∷ bytes) (next ∷ bytes) [] (before 0 (omega arith))
    (no_feed (next ∷ bytes) (omega arith) (λ k m. before (suc k) (omega arith)))

-- a range up to the end is all that is left
pub to_the_end : (n : ℕ) (bytes : List ℕ) → take (length bytes - n) (drop n bytes) ≡ drop n bytes
to_the_end n bytes = take_rest bytes n

-- a line and its line feed before a text are the first of its lines
pub line_cut : (line rest : List ℕ) → is_line line ≡ true → lines_of (line ++ 10 ∷ rest) ≡ line ∷ lines_of rest
line_cut [] rest h = refl
line_cut (byte ∷ bytes) rest h =
    let parts : (byte ≢ 10) × (is_line bytes ≡ true) = grind (arith, common_steps) in
    off_feed byte (bytes ++ 10 ∷ rest) bytes (lines_of rest) parts.0 (line_cut bytes rest parts.1)

-- where a byte is left, what is there is no `None`
pub line_left : (bytes : List ℕ) → (length bytes == 0) ≡ false →
    (true ≡ false → bytes ≡ []) × (bytes ≡ [] → true ≡ false)
line_left bytes some = ((λ e. absurd (cc)), (λ e. absurd (cc)))
