-- The first space of a text.
use Rattle.std.proofs.Common.{arith, ◌≡◌, ◌≢◌, ℕ, ◌+◌, ◌<◌, List, [], ◌∷◌, length, get_or, take, drop, zero, suc}
use Rattle.std.proofs.Common.{Some, None, refl, ap, ◌∙◌}
use Rattle.std.proofs.lemmas.Grind.{common_steps}
use Rattle.std.specs.Prelude.{option_map}
use Rattle.sd_base.specs.Lines.{cut_at_space, onto_first_part}

-- a byte that is no space stands before it
off_space : (byte : ℕ) (bytes : List ℕ) → byte ≢ 32 →
    cut_at_space (byte ∷ bytes) ≡ option_map (onto_first_part byte) (cut_at_space bytes)
off_space byte bytes ne = grind (arith, common_steps)

-- the cut is at the first space
pub cut_there : (text : List ℕ) (space : ℕ) → space < length text → get_or text space 0 ≡ 32 →
    ((k : ℕ) → k < space → get_or text k 0 ≢ 32) → cut_at_space text ≡ Some (take space text, drop (space + 1) text)
cut_there [] space h e before = absurd (omega arith)
cut_there (byte ∷ bytes) zero h e before = grind (arith, common_steps)
cut_there (byte ∷ bytes) (suc space) h e before =
    let more : suc space + 1 ≡ suc (space + 1) = omega arith in
    rw more (off_space byte bytes (before 0 (omega arith)) ∙
    ap (option_map (onto_first_part byte))
    (cut_there bytes space (omega arith) e (λ k m. before (suc k) (omega arith))))

-- without a space there is none
pub no_cut : (text : List ℕ) → ((k : ℕ) → k < length text → get_or text k 0 ≢ 32) → cut_at_space text ≡ None
no_cut [] before = refl
no_cut (byte ∷ bytes) before =
    off_space byte bytes (before 0 (omega arith)) ∙
    ap (option_map (onto_first_part byte)) (no_cut bytes (λ k m. before (suc k) (omega arith)))
