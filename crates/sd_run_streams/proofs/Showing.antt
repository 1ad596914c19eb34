-- What an assembler lends is shown and learned, one section after the other.
use Rattle.std.proofs.Common.{ℕ, ◌≡◌, Bool, true, false, ◌==◌, ◌||◌, List, [], ◌∷◌, ◌++◌, get_or, cond, refl, sym, ap}
use Rattle.std.proofs.Common.{◌∙◌, append_assoc, append-nil}
use Rattle.std.specs.Prelude.{Some, slice_get, drop}
use Rattle.std.specs.List.{flat_map, list_any}
use Rattle.std.proofs.lemmas.List.Folds.{list_any-append}
use Rattle.sd_base.proofs.Bools.{or_false, or_assoc}
use Rattle.sd_run_streams.specs.TableLines.{section_line}
use Rattle.sd_run_streams.specs.Inspected.{pids_named_by}
use Rattle.sd_run_streams.specs.Watching.{is_named_pid, naming, AreSectionsLearned, IsLearning}

-- the section that is lent is the first that waits
pub first_is : (waiting rest : List (List ℕ)) (section : List ℕ) → Some section ≡ slice_get waiting 0 →
    rest ≡ drop 1 waiting →
    waiting ≡ section ∷ rest
first_is [] rest section is after = absurd (cc)
first_is (first ∷ waiting) rest section is after =
    let same : first ≡ section = cc in
    ap (λ (s : List ℕ). s ∷ waiting) same ∙ ap (λ (r : List (List ℕ)). section ∷ r) (sym after)

-- a line more
pub lines_more : (number pid : ℕ) (all text new section : List ℕ) (waiting rest : List (List ℕ)) →
    waiting ≡ section ∷ rest →
    new ≡ text ++ section_line number pid section → text ++ flat_map (section_line number pid) waiting ≡ all →
    new ++ flat_map (section_line number pid) rest ≡ all
lines_more number pid all text new section waiting rest is pushed so_far =
    ap (λ (l : List ℕ). l ++ flat_map (section_line number pid) rest) pushed
    ∙ append_assoc text (section_line number pid section) (flat_map (section_line number pid) rest)
    ∙ sym (ap (λ (w : List (List ℕ)). text ++ flat_map (section_line number pid) w) is)
    ∙ so_far

-- what a section and those after it name
named_by : (b : Bool) (q : ℕ) (section : List ℕ) (rest : List (List ℕ)) →
    (is_named_pid q (cond b (section ∷ []) []) || is_named_pid q (cond b rest [])) ≡ is_named_pid q
    (cond b (section ∷ rest) [])
unfolding is_named_pid
named_by true q section rest =
    ap (λ (maps : List ℕ). list_any (λ (named : ℕ). named == q) maps || list_any (λ (named : ℕ). named == q)
    (flat_map pids_named_by rest))
    (append-nil (pids_named_by section))
    ∙ sym (list_any-append (λ (named : ℕ). named == q) (pids_named_by section) (flat_map pids_named_by rest))
named_by false q section rest = refl

none_by : (b : Bool) (q : ℕ) → is_named_pid q (cond b [] []) ≡ false
unfolding is_named_pid
none_by true q = refl
none_by false q = refl

-- no section names none
pub none_named : (pid q : ℕ) → is_named_pid q (naming pid []) ≡ false
unfolding is_named_pid
none_named pid q = none_by (pid == 0) q

-- a section more
pub learned_more : (pid : ℕ) (all waiting rest : List (List ℕ)) (section : List ℕ) (old marks new : List Bool) →
    waiting ≡ section ∷ rest →
    AreSectionsLearned (naming pid (section ∷ [])) marks new → IsLearning pid all waiting old marks →
    IsLearning pid all rest old new
learned_more pid all waiting rest section old marks new is learned so_far = record {
  at = λ q h.
      ap (λ (a : Bool). a || is_named_pid q (naming pid rest)) (learned.at q h)
      ∙ or_assoc (get_or marks q false) (is_named_pid q (naming pid (section ∷ []))) (is_named_pid q (naming pid rest))
      ∙ ap (λ (a : Bool). get_or marks q false || a) (named_by (pid == 0) q section rest)
      ∙ ap (λ (w : List (List ℕ)). get_or marks q false || is_named_pid q (naming pid w)) (sym is)
      ∙ so_far.at q h;
}

-- all sections
pub all_learned : (pid : ℕ) (all waiting : List (List ℕ)) (old marks : List Bool) → waiting ≡ [] →
    IsLearning pid all waiting old marks →
    AreSectionsLearned (naming pid all) old marks
all_learned pid all waiting old marks none so_far = record {
  at = λ q h.
      sym (ap (λ (w : List (List ℕ)). get_or marks q false || is_named_pid q (naming pid w)) none
      ∙ ap (λ (a : Bool). get_or marks q false || a) (none_named pid q)
      ∙ or_false (get_or marks q false))
      ∙ so_far.at q h;
}
