-- What is known from several broadcasts, by the periods and the control words that they use.
use Rattle.std.proofs.Common.{ℕ, ◌^◌, ◌<◌, ◌≤◌, ◌≡◌, Bool, true, List, [], ◌∷◌, refl, sym, subst}
use Rattle.std.proofs.Common.{inl, inr}
use Rattle.std.specs.Prelude.{◌↔◌, Contains, All, Any}
use Rattle.std.specs.List.{flat_map}
use Rattle.std.proofs.lemmas.List.Elements.{All-contains}
use Rattle.sd_tree_keys.specs.declared.set.SetName.{SetName}
use Rattle.sd_tree_keys.specs.Names.{names_of_receiver}
use Rattle.sd_cover_tracing.proofs.Lists.{member_cases, member_first, no_member}
use Rattle.sd_cover_tracing.specs.Reach.{Secret, Named, Key, IsGeneratorStep, IsHeld, IsReached}
use Rattle.sd_cover_tracing.proofs.Derivation.{Reach, at_first, by_rule, from_derived, to_derived, passes}
use Rattle.sd_cover_tracing.proofs.Reached.{from_one, to_all, held_is_reached, next_is_reached, reached_by_one}
use Rattle.sd_law_coalition.specs.Know.{Service, Knowable, OfTree, PeriodKey, ControlWord, IsPooled, service_sets}
use Rattle.sd_law_coalition.proofs.Known.{unrevoked_reaches, reached_at}
use Rattle.sd_spec.specs.Plan.{sets_at}
use Rattle.sd_law_broadcast.specs.Runs.{Run, UsesWord, UsesPeriod, revoked_in}
use Rattle.sd_law_broadcast.specs.Known.{IsStepInRuns, generated, entitled as of_set, controlled, IsKnownInRuns}
use Rattle.sd_law_broadcast.specs.Known.{AreOneTree}

-- what is known, by how it came in
abbrev Had : List Run → ℕ → List ℕ → Knowable → Type 0
Had runs h coalition item = Reach (IsPooled h coalition) (IsStepInRuns runs) item

-- what is known has come in by the rules
from_known : (runs : List Run) (h : ℕ) (coalition : List ℕ) (item : Knowable) → IsKnownInRuns runs h coalition item
    → Had runs h coalition item
unfolding IsKnownInRuns
from_known runs h coalition item k = from_derived (IsPooled h coalition) (IsStepInRuns runs) item k

-- what has come in by the rules is known
to_known : (runs : List Run) (h : ℕ) (coalition : List ℕ) (item : Knowable) → Had runs h coalition item
    → IsKnownInRuns runs h coalition item
unfolding IsKnownInRuns
to_known runs h coalition item r = to_derived (IsPooled h coalition) (IsStepInRuns runs) item r

-- what the cards hold is known
pub held_is_known : (runs : List Run) (h : ℕ) (coalition : List ℕ) (item : Knowable) → IsPooled h coalition item
    → IsKnownInRuns runs h coalition item
held_is_known runs h coalition item is = to_known runs h coalition item (at_first is)

-- what follows from what is known is known
pub next_is_known : (runs : List Run) (h : ℕ) (coalition : List ℕ) (from to : Knowable) →
    IsKnownInRuns runs h coalition from
    → IsStepInRuns runs from to → IsKnownInRuns runs h coalition to
next_is_known runs h coalition from to k y =
    to_known runs h coalition to (by_rule (from_known runs h coalition from k) y)

-- a test that what the cards hold passes, and what follows from what passes, is passed by all that is known
pub known_passes : (runs : List Run) (h : ℕ) (coalition : List ℕ) (test : Knowable → Bool)
    → ((item : Knowable) → IsPooled h coalition item → test item ≡ true)
    → ((from to : Knowable) → IsStepInRuns runs from to → test from ≡ true → test to ≡ true) → (item : Knowable)
    → IsKnownInRuns runs h coalition item → test item ≡ true
known_passes runs h coalition test is closed item k =
    passes (IsPooled h coalition) (IsStepInRuns runs) test is closed (from_known runs h coalition item k)

-- the last step of what is known: a secret is reached, a period's key was sent under the key of a set, and a control
-- word under the key of its period
abbrev Comes : List Run → ℕ → List ℕ → Knowable → Type 0
Comes runs h coalition (OfTree secret) = IsReached (flat_map (names_of_receiver h) coalition) secret
Comes runs h coalition (PeriodKey q) = (run : Run) × Contains runs run × UsesPeriod run q
    × ((name : SetName) × Contains (sets_at run.plan q) name × IsReached (flat_map (names_of_receiver h) coalition)
    (Key name))
Comes runs h coalition (ControlWord t) = (run : Run) × Contains runs run
    × ((q : ℕ) × UsesWord run t q × IsKnownInRuns runs h coalition (PeriodKey q))

comes : (runs : List Run) (h : ℕ) (coalition : List ℕ) {item : Knowable} → Had runs h coalition item
    → Comes runs h coalition item
comes runs h coalition (at_first {x = OfTree (Named name)} m) =
    held_is_reached (flat_map (names_of_receiver h) coalition) name m
comes runs h coalition (at_first {x = OfTree (Key name)} m) = absurd m
comes runs h coalition (at_first {x = PeriodKey q} m) = absurd m
comes runs h coalition (at_first {x = ControlWord t} m) = absurd m
comes runs h coalition (by_rule r (generated {from = from} {to = to} f)) =
    next_is_reached (flat_map (names_of_receiver h) coalition) from to (comes runs h coalition r) f
comes runs h coalition (by_rule r (of_set {run = run} {name = name} there uses sets)) =
    (run, there, uses, (name, sets, comes runs h coalition r))
comes runs h coalition (by_rule r (controlled {run = run} {t = t} {q = q} there uses)) =
    (run, there, (q, uses, to_known runs h coalition (PeriodKey q) r))

-- a secret that has come in by the generator is known
lifted : (runs : List Run) (h : ℕ) (coalition : List ℕ) {secret : Secret}
    → Reach (IsHeld (flat_map (names_of_receiver h) coalition)) IsGeneratorStep secret →
    Had runs h coalition (OfTree secret)
lifted runs h coalition (at_first m) = at_first m
lifted runs h coalition (by_rule r f) = by_rule (lifted runs h coalition r) (generated f)

reached_is_known : (runs : List Run) (h : ℕ) (coalition : List ℕ) (secret : Secret)
    → IsReached (flat_map (names_of_receiver h) coalition) secret → IsKnownInRuns runs h coalition (OfTree secret)
unfolding IsReached
reached_is_known runs h coalition secret r =
    to_known runs h coalition (OfTree secret)
    (lifted runs h coalition (from_derived (IsHeld (flat_map (names_of_receiver h) coalition)) IsGeneratorStep secret
    r))

-- just the secrets that are reached are known
pub secrets_known : (runs : List Run) (h : ℕ) (coalition : List ℕ) (secret : Secret)
    → IsKnownInRuns runs h coalition (OfTree secret) ↔ IsReached (flat_map (names_of_receiver h) coalition) secret
secrets_known runs h coalition secret = (
  λ k. comes runs h coalition (from_known runs h coalition (OfTree secret) k),
  reached_is_known runs h coalition secret,
)

-- just the control words that a run uses in a period whose key is known are known
pub words_known : (runs : List Run) (h : ℕ) (coalition : List ℕ) (t : ℕ) →
    IsKnownInRuns runs h coalition (ControlWord t)
    ↔ Any (λ run. (q : ℕ) × UsesWord run t q × IsKnownInRuns runs h coalition (PeriodKey q)) runs
words_known runs h coalition t = (
  λ k. let (run, (place, within, is), (q, uses, key)) =
      comes runs h coalition (from_known runs h coalition (ControlWord t) k) in
      (place, run, within, is, (q, uses, key)),
  λ (place, run, within, is, (q, uses, key)).
      next_is_known runs h coalition (PeriodKey q) (ControlWord t) key (controlled (place, within, is) uses),
)

-- what counts of a run to its pooled cards
abbrev service_of : Run → Service
service_of run =
    record { height = run.plan.site.height; span = run.plan.site.span; commands = run.plan.commands }

same_sets : (run : Run) (q : ℕ) → sets_at run.plan q ≡ service_sets (service_of run) q
unfolding sets_at service_sets
same_sets run q = refl

-- some leaf of the coalition isn't revoked in period q by the run's book
abbrev pub HasUnrevoked : Run → List ℕ → ℕ → Type 0
HasUnrevoked run coalition q = Any (λ u. ¬ Contains (revoked_in run q) u) coalition

-- where the key of a set of a period is reached, some leaf isn't revoked in it
set_unrevoked : (h : ℕ) (run : Run) (coalition : List ℕ) (q : ℕ) (name : SetName) → run.plan.site.height ≡ h → h ≤ 20
    → All (λ u. u < 2 ^ h) coalition → Contains (sets_at run.plan q) name
    → IsReached (flat_map (names_of_receiver h) coalition) (Key name) → HasUnrevoked run coalition q
set_unrevoked h run coalition q name same low leaves there =
    subst (λ (d : ℕ). IsReached (flat_map (names_of_receiver d) coalition) (Key name) →
    HasUnrevoked run coalition q) same
    (unrevoked_reaches (service_of run) coalition q name (subst (λ (d : ℕ). d ≤ 20) (sym same) low)
    (subst (λ (d : ℕ). All (λ u. u < 2 ^ d) coalition) (sym same) leaves)
    (subst (λ (sets : List SetName). Contains sets name) (same_sets run q) there))

-- a leaf that isn't revoked reaches the key of a set
leaf_reaches : (h : ℕ) (run : Run) (q u : ℕ) → run.plan.site.height ≡ h → h ≤ 20 → u < 2 ^ h
    → ¬ Contains (revoked_in run q) u
    → (name : SetName) × Contains (sets_at run.plan q) name × IsReached (names_of_receiver h u) (Key name)
leaf_reaches h run q u same low leaf free =
    let (k, name, within, is, own) = (reached_at (service_of run) q u (subst (λ (d : ℕ). d ≤ 20) (sym same) low)
    (subst (λ (d : ℕ). u < 2 ^ d) (sym same) leaf)).1 free in (
      name,
      subst (λ (sets : List SetName). Contains sets name) (sym (same_sets run q)) (k, within, is),
      subst (λ (d : ℕ). IsReached (names_of_receiver d u) (Key name)) same own,
    )

-- the height of a run among those of one tree
pub height_is : (h : ℕ) (runs : List Run) (run : Run) → AreOneTree h runs → Contains runs run → run.plan.site.height ≡ h
height_is h runs run tree there = All-contains (λ r. r.plan.site.height ≡ h) runs run tree there

-- the key of a period is known where some run uses it and some leaf isn't revoked in it
pub key_is_known : (runs : List Run) (h : ℕ) (coalition : List ℕ) (run : Run) (q : ℕ) → h ≤ 20 → AreOneTree h runs
    → All (λ u. u < 2 ^ h) coalition → Contains runs run → UsesPeriod run q → HasUnrevoked run coalition q
    → IsKnownInRuns runs h coalition (PeriodKey q)
key_is_known runs h coalition run q low tree leaves there uses (place, u, inside, at, free) =
    let leaf = All-contains (λ w. w < 2 ^ h) coalition u leaves (place, inside, at) in
    let (name, sets, own) = leaf_reaches h run q u (height_is h runs run tree there) low leaf free in
    let pooled = (reached_by_one h coalition (Key name)).1 (place, u, inside, at, own) in
    next_is_known runs h coalition (OfTree (Key name)) (PeriodKey q)
    (reached_is_known runs h coalition (Key name) pooled) (of_set there uses sets)

-- and just there
pub key_comes : (runs : List Run) (h : ℕ) (coalition : List ℕ) (q : ℕ) → h ≤ 20 → AreOneTree h runs
    → All (λ u. u < 2 ^ h) coalition → IsKnownInRuns runs h coalition (PeriodKey q)
    → (run : Run) × Contains runs run × UsesPeriod run q × HasUnrevoked run coalition q
key_comes runs h coalition q low tree leaves known =
    let (run, there, uses, (name, sets, reached)) =
    comes runs h coalition (from_known runs h coalition (PeriodKey q) known) in (
      run,
      there,
      uses,
      set_unrevoked h run coalition q name (height_is h runs run tree there) low leaves sets reached,
    )

pub periods_known : (runs : List Run) (h : ℕ) (coalition : List ℕ) (q : ℕ) → h ≤ 20 → AreOneTree h runs
    → All (λ u. u < 2 ^ h) coalition → IsKnownInRuns runs h coalition (PeriodKey q)
    ↔ Any (λ run. UsesPeriod run q × Any (λ u. ¬ Contains (revoked_in run q) u) coalition) runs
periods_known runs h coalition q low tree leaves = (
  λ known. let (run, (place, within, is), uses, free) = key_comes runs h coalition q low tree leaves known in
      (place, run, within, is, (uses, free)),
  λ (place, run, within, is, (uses, free)).
      key_is_known runs h coalition run q low tree leaves (place, within, is) uses free,
)

-- what the coalition holds one of its leaves holds
held_by_one : (h : ℕ) (coalition : List ℕ) (item : Knowable) → IsPooled h coalition item
    → Any (λ u. IsPooled h (u ∷ []) item) coalition
held_by_one h coalition (OfTree (Named name)) m =
    let (u, (k, within, is), own) = from_one (names_of_receiver h) coalition name m in
    (k, u, within, is, to_all (names_of_receiver h) (u ∷ []) u name (member_first u []) own)
held_by_one h coalition (OfTree (Key name)) m = absurd m
held_by_one h coalition (PeriodKey q) m = absurd m
held_by_one h coalition (ControlWord t) m = absurd m

-- what is known by all of a coalition together is known by one of its leaves
to_one : (runs : List Run) (h : ℕ) (coalition : List ℕ) {item : Knowable} → Had runs h coalition item
    → Any (λ u. IsKnownInRuns runs h (u ∷ []) item) coalition
to_one runs h coalition (at_first {x = item} m) =
    let (k, u, within, is, own) = held_by_one h coalition item m in
    (k, u, within, is, held_is_known runs h (u ∷ []) item own)
to_one runs h coalition (by_rule {from = from} {to = to} r y) =
    let (k, u, within, is, known) = to_one runs h coalition r in
    (k, u, within, is, next_is_known runs h (u ∷ []) from to known y)

-- what a leaf of the coalition holds the coalition holds
held_by_all : (h : ℕ) (coalition : List ℕ) (u : ℕ) (item : Knowable) → Contains coalition u → IsPooled h (u ∷ []) item
    → IsPooled h coalition item
held_by_all h coalition u (OfTree (Named name)) there m =
    let (w, only, own) = from_one (names_of_receiver h) (u ∷ []) name m in
    elim (member_cases u [] w only) [
      | inl same ↦ to_all (names_of_receiver h) coalition u name there
          (subst (λ (v : ℕ). Contains (names_of_receiver h v) name) (sym same) own)
      | inr none ↦ absurd (no_member w none)
    ]
held_by_all h coalition u (OfTree (Key name)) there m = absurd m
held_by_all h coalition u (PeriodKey q) there m = absurd m
held_by_all h coalition u (ControlWord t) there m = absurd m

-- what one leaf of a coalition knows alone is known by all together
to_all_known : (runs : List Run) (h : ℕ) (coalition : List ℕ) (u : ℕ) {item : Knowable} → Contains coalition u
    → Had runs h (u ∷ []) item → Had runs h coalition item
to_all_known runs h coalition u there (at_first {x = item} m) = at_first (held_by_all h coalition u item there m)
to_all_known runs h coalition u there (by_rule r y) = by_rule (to_all_known runs h coalition u there r) y

-- a coalition knows together just what one of its leaves knows alone
pub known_by_one : (runs : List Run) (h : ℕ) (coalition : List ℕ) (item : Knowable) →
    IsKnownInRuns runs h coalition item
    ↔ Any (λ u. IsKnownInRuns runs h (u ∷ []) item) coalition
known_by_one runs h coalition item = (
  λ known. to_one runs h coalition (from_known runs h coalition item known),
  λ (k, u, within, is, known). to_known runs h coalition item
      (to_all_known runs h coalition u (k, within, is) (from_known runs h (u ∷ []) item known)),
)
