-- Who is revoked knows nothing, and who is entitled knows all.
use Rattle.std.proofs.Common.{ℕ, ◌^◌, ◌<◌, ◌≤◌, ◌≡◌, not, nat_eq, List, sym, ap, subst}
use Rattle.std.proofs.Common.{◌∙◌, inl, inr, arith}
use Rattle.std.specs.Prelude.{◌↔◌, Contains, All, Any, Some, slice_get}
use Rattle.std.specs.List.{list_any}
use Rattle.std.proofs.lemmas.Bool.{false_from_ne_true, cases_lt}
use Rattle.std.proofs.lemmas.Option.{slice_get-get_or}
use Rattle.std.proofs.lemmas.List.Elements.{All-contains}
use Rattle.sd_book.specs.Commands.{entitled}
use Rattle.sd_cover_tracing.proofs.Lists.{found_member}
use Rattle.sd_cover_tracing.proofs.Partitions.{among_unrevoked}
use Rattle.sd_law_coalition.specs.Know.{PeriodKey, ControlWord}
use Rattle.sd_law_coalition.proofs.Known.{entitled_free}
use Rattle.sd_spec.specs.Plan.{period_in}
use Rattle.sd_law_broadcast.specs.Runs.{Run, IsRun, HaveOwnWords, HasWords, UsesWord, UsesPeriod, revoked_in, AllAgree}
use Rattle.sd_law_broadcast.specs.Known.{IsKnownInRuns, AreOneTree}
use Rattle.sd_law_broadcast.proofs.Words.{at_place, used_words, one_run, one_at}
use Rattle.sd_law_broadcast.proofs.Knowing.{height_is, key_is_known, key_comes, words_known}

-- a member stands at its place
stands : {A : Type 0} (xs : List A) (x : A) → Contains xs x → (k : ℕ) × (slice_get xs k ≡ Some x)
stands xs x (k, within, is) = (k, slice_get-get_or xs k x within ∙ ap Some is)

-- the key of a period is known to nobody whose leaves are all revoked by each run that uses it
pub key_unknown : (runs : List Run) (h : ℕ) (coalition : List ℕ) (q : ℕ) → h ≤ 20 → AreOneTree h runs
    → All (λ u. u < 2 ^ h) coalition → All (λ run. UsesPeriod run q → All (Contains (revoked_in run q)) coalition) runs
    → ¬ IsKnownInRuns runs h coalition (PeriodKey q)
key_unknown runs h coalition q low tree leaves gone known =
    let (run, there, uses, (k, u, within, is, free)) = key_comes runs h coalition q low tree leaves known in
    let all = All-contains (λ r. UsesPeriod r q → All (Contains (revoked_in r q)) coalition) runs run gone there uses in
    free (All-contains (Contains (revoked_in run q)) coalition u all (k, within, is))

-- a control word is used in one period alone where no two sites have a word in common
pub one_period : (master : List ℕ) (runs : List Run) (a b : Run) (t p q : ℕ) → All (IsRun master) runs →
    HaveOwnWords runs
    → Contains runs a → Contains runs b → UsesWord a t p → UsesWord b t q → p ≡ q
one_period master runs a b t p q all own first second uses other =
    let (i, at) = stands runs a first in
    let (j, beside) = stands runs b second in
    let word = used_words master a t p (at_place (IsRun master) runs i a at all)
    (at_place (λ r. HasWords r.plan.site) runs i a at own.some) uses in
    let same = used_words master b t q (at_place (IsRun master) runs j b beside all)
    (at_place (λ r. HasWords r.plan.site) runs j b beside own.some) other in
    let run = one_at runs i j a b at beside (one_run runs i j a b t own at beside word same) in
    in_one b t p q (subst (λ (r : Run). UsesWord r t p) run uses) other
  where
    in_one : (run : Run) (word first second : ℕ) → UsesWord run word first → UsesWord run word second → first ≡ second
    in_one run word first second (n, below, is, period) (m, within, its, later) =
        let same : n ≡ m = omega (arith, is, its) in
        period ∙ (ap (period_in run.plan) same ∙ sym later)

-- a control word of a run is known just where the key of its period is
word_by_key : (master : List ℕ) (runs : List Run) (h : ℕ) (coalition : List ℕ) (run : Run) (t q : ℕ)
    → All (IsRun master) runs → HaveOwnWords runs → Contains runs run → UsesWord run t q
    → IsKnownInRuns runs h coalition (ControlWord t) → IsKnownInRuns runs h coalition (PeriodKey q)
word_by_key master runs h coalition run t q all own there uses known =
    let (k, other, within, is, (p, its, key)) = (words_known runs h coalition t).0 known in
    subst (λ (n : ℕ). IsKnownInRuns runs h coalition (PeriodKey n))
    (one_period master runs other run t p q all own (k, within, is) there its uses) key

key_gives : (runs : List Run) (h : ℕ) (coalition : List ℕ) (run : Run) (t q : ℕ) → Contains runs run → UsesWord run t q
    → IsKnownInRuns runs h coalition (PeriodKey q) → IsKnownInRuns runs h coalition (ControlWord t)
key_gives runs h coalition run t q (k, within, is) uses key =
    (words_known runs h coalition t).1 (k, run, within, is, (q, uses, key))

pub word_unknown : (master : List ℕ) (runs : List Run) (h : ℕ) (coalition : List ℕ) (run : Run) (t q : ℕ) → h ≤ 20
    → AreOneTree h runs → All (λ u. u < 2 ^ h) coalition → All (IsRun master) runs → HaveOwnWords runs
    → All (λ other. UsesPeriod other q → All (Contains (revoked_in other q)) coalition) runs
    → Contains runs run → UsesWord run t q → ¬ IsKnownInRuns runs h coalition (ControlWord t)
word_unknown master runs h coalition run t q low tree leaves all own gone there uses known =
    key_unknown runs h coalition q low tree leaves gone
    (word_by_key master runs h coalition run t q all own there uses known)

-- two of the runs revoke the same in a period that both use
agreed : (runs : List Run) (a b : Run) (q : ℕ) → AllAgree runs → Contains runs a → Contains runs b → UsesPeriod a q
    → UsesPeriod b q → revoked_in a q ≡ revoked_in b q
agreed runs a b q agree first second uses other =
    let (i, at) = stands runs a first in
    let (j, beside) = stands runs b second in
    elim (cases_lt i j) [
      | inl before ↦ agree i j a b at beside before q uses other
      | inr above ↦ elim (cases_lt j i) [
        | inl after ↦ sym (agree j i b a beside at after q other uses)
        | inr below ↦ ap (λ (r : Run). revoked_in r q) (one_at runs i j a b at beside (omega (arith, above, below)))
      ]
    ]

-- a leaf of the tree that isn't revoked is entitled
unrevoked_entitled : (h : ℕ) (run : Run) (q u : ℕ) → run.plan.site.height ≡ h → u < 2 ^ h
    → ¬ Contains (revoked_in run q) u → Contains (entitled h run.plan.commands q) u
unrevoked_entitled h run q u same leaf free =
    subst (λ (d : ℕ). Contains (entitled d run.plan.commands q) u) same
    (found_member u (entitled run.plan.site.height run.plan.commands q)
    (among_unrevoked run.plan.site.height (revoked_in run q) u (subst (λ (d : ℕ). u < 2 ^ d) (sym same) leaf)
    ∙ ap not (false_from_ne_true (list_any (nat_eq u) (revoked_in run q)) (λ found.
    free (found_member u (revoked_in run q) found)))))

-- and an entitled one isn't revoked
entitled_unrevoked : (h : ℕ) (run : Run) (q u : ℕ) → run.plan.site.height ≡ h
    → Contains (entitled h run.plan.commands q) u → ¬ Contains (revoked_in run q) u
entitled_unrevoked h run q u same there =
    entitled_free
    (record { height = run.plan.site.height; span = run.plan.site.span; commands = run.plan.commands }) q u
    (subst (λ (d : ℕ). Contains (entitled d run.plan.commands q) u) (sym same) there)

-- who knows the key of a period of a run is entitled in it
key_entitles : (runs : List Run) (h : ℕ) (coalition : List ℕ) (run : Run) (q : ℕ) → h ≤ 20 → AreOneTree h runs
    → All (λ u. u < 2 ^ h) coalition → AllAgree runs → Contains runs run → UsesPeriod run q
    → IsKnownInRuns runs h coalition (PeriodKey q) → Any (Contains (entitled h run.plan.commands q)) coalition
key_entitles runs h coalition run q low tree leaves agree there uses known =
    let (other, beside, its, (k, u, within, is, free)) = key_comes runs h coalition q low tree leaves known in
    let leaf = All-contains (λ w. w < 2 ^ h) coalition u leaves (k, within, is) in
    let same = agreed runs other run q agree beside there its uses in
    let unrevoked = subst (λ (gone : List ℕ). ¬ Contains gone u) same free in
    (k, u, within, is, unrevoked_entitled h run q u (height_is h runs run tree there) leaf unrevoked)

-- who is entitled in a period of a run, and nobody else, knows its key
pub entitled_know_key : (runs : List Run) (h : ℕ) (coalition : List ℕ) (run : Run) (q : ℕ) → h ≤ 20
    → AreOneTree h runs → All (λ u. u < 2 ^ h) coalition → AllAgree runs → Contains runs run → UsesPeriod run q
    → IsKnownInRuns runs h coalition (PeriodKey q) ↔ Any (Contains (entitled h run.plan.commands q)) coalition
entitled_know_key runs h coalition run q low tree leaves agree there uses = (
  key_entitles runs h coalition run q low tree leaves agree there uses,
  λ (k, u, within, is, own).
      key_is_known runs h coalition run q low tree leaves there uses
      (k, u, within, is, entitled_unrevoked h run q u (height_is h runs run tree there) own),
)

-- and each control word of it
pub entitled_know_word : (master : List ℕ) (runs : List Run) (h : ℕ) (coalition : List ℕ) (run : Run) (t q : ℕ)
    → h ≤ 20 → AreOneTree h runs → All (λ u. u < 2 ^ h) coalition → AllAgree runs → All (IsRun master) runs
    → HaveOwnWords runs → Contains runs run → UsesWord run t q
    → IsKnownInRuns runs h coalition (ControlWord t) ↔ Any (Contains (entitled h run.plan.commands q)) coalition
entitled_know_word master runs h coalition run t q low tree leaves agree all own there uses =
    let key = entitled_know_key runs h coalition run q low tree leaves agree there (t, uses) in (
      λ known. key.0 (word_by_key master runs h coalition run t q all own there uses known),
      λ some. key_gives runs h coalition run t q there uses (key.1 some),
    )
