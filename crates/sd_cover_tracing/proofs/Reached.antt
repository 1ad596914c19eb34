-- What is reached is what one of the held names leads to.
use Rattle.std.proofs.Common.{ℕ, suc, zero, ◌+◌, ◌*◌, ◌/◌, ◌^◌, ◌<◌, ◌≤◌, ◌≡◌, Bool, true, List, [], ◌∷◌, length}
use Rattle.std.proofs.Common.{slice_index_or, refl, sym, subst, ap, ◌∙◌, inl, inr, ⊎_elim, arith}
use Rattle.std.specs.Prelude.{◌↔◌, ◌⊎◌, Contains, Any}
use Rattle.std.specs.List.{flat_map}
use Rattle.std.proofs.Math.Nat.{div-one}
use Rattle.std.proofs.Math.Pow.{shr-shr}
use Rattle.std.proofs.lemmas.Bool.{cases_lt}
use Rattle.std.proofs.lemmas.List.{get_or_default}
use Rattle.std.proofs.lemmas.List.Concat.{flat_map-cons}
use Rattle.std.proofs.lemmas.List.Elements.{Contains-append_left, Contains-append_right, Contains-append_cases}
use Rattle.sd_tree_keys.specs.Node.{IsAbove}
use Rattle.sd_tree_keys.proofs.Ancestors.{above_self, above_left, above_right, above_le, above_trans}
use Rattle.sd_tree_keys.specs.declared.set.SetName.TheVariants.{Whole as WholeSet, Diff}
use Rattle.sd_tree_keys.specs.declared.name.Name.{Name}
use Rattle.sd_tree_keys.specs.declared.name.Name.TheVariants.{Whole, Pair}
use Rattle.sd_tree_keys.specs.Names.{names_of_receiver}
use Rattle.sd_cover_tracing.proofs.Lists.{member_cases, member_first, member_later, no_member}
use Rattle.sd_cover_tracing.proofs.Derivation.{Reach, at_first, by_rule, from_derived, to_derived, passes}
use Rattle.sd_cover_tracing.specs.Reach.{Secret, Named, Key, IsGeneratorStep, left, right, middle, whole, IsHeld}
use Rattle.sd_cover_tracing.specs.Reach.{IsReached, DerivesSecret}

-- what is reached, by how it came in
abbrev Had : List Name → Secret → Type 0
Had held secret = Reach (IsHeld held) IsGeneratorStep secret

-- what is reached has come in by the rules
from_reached : (held : List Name) (secret : Secret) → IsReached held secret → Had held secret
unfolding IsReached
from_reached held secret r = from_derived (IsHeld held) IsGeneratorStep secret r

-- what has come in by the rules is reached
to_reached : (held : List Name) (secret : Secret) → Had held secret → IsReached held secret
unfolding IsReached
to_reached held secret r = to_derived (IsHeld held) IsGeneratorStep secret r

-- what is held is reached
pub held_is_reached : (held : List Name) (name : Name) → Contains held name → IsReached held (Named name)
held_is_reached held name m = to_reached held (Named name) (at_first m)

-- what follows from what is reached is reached
pub next_is_reached : (held : List Name) (from to : Secret) → IsReached held from → IsGeneratorStep from to →
    IsReached held to
next_is_reached held from to r f = to_reached held to (by_rule (from_reached held from r) f)

-- a held secret is that of a held name
held_named : (held : List Name) (test : Secret → Bool) → ((name : Name) → Contains held name → test (Named name) ≡ true)
    → (secret : Secret) → IsHeld held secret → test secret ≡ true
held_named held test is (Named name) m = is name m
held_named held test is (Key name) m = absurd m

-- a test that what is held passes, and what follows from what passes, is passed by all that is reached
pub reached_passes : (held : List Name) (test : Secret → Bool)
    → ((name : Name) → Contains held name → test (Named name) ≡ true)
    → ((from to : Secret) → IsGeneratorStep from to → test from ≡ true → test to ≡ true) → (secret : Secret)
    → IsReached held secret → test secret ≡ true
reached_passes held test is closed secret r =
    passes (IsHeld held) IsGeneratorStep test (held_named held test is) closed (from_reached held secret r)

-- a name leads to itself
leads_to_itself : (name : Name) → DerivesSecret name (Named name)
leads_to_itself Whole = tt
leads_to_itself (Pair i w) = (refl, inl refl)

-- a node that is another or above it is above the other's children
above_children : (w v : ℕ) → 1 ≤ v → (w ≡ v) ⊎ ((1 ≤ w) × IsAbove w v) → (1 ≤ w) × IsAbove w v
above_children w v low (inl same) = (omega arith, subst (IsAbove w) same (above_self w))
above_children w v low (inr above) = above

-- a node that is another or above it is above it
pub at_or_above : (w v : ℕ) → (w ≡ v) ⊎ ((1 ≤ w) × IsAbove w v) → IsAbove w v
at_or_above w v (inl same) = subst (IsAbove w) same (above_self w)
at_or_above w v (inr above) = above.1

-- a name leads to what follows from what it leads to
leads_further : (name : Name) {from to : Secret} → DerivesSecret name from → IsGeneratorStep from to →
    DerivesSecret name to
leads_further Whole l (left h) = l
leads_further Whole l (right h) = l
leads_further Whole l (middle h) = l
leads_further Whole l whole = tt
leads_further (Pair k v) l (left {w = w} h) = let a =
    above_children v w h l.1 in (l.0, inr (a.0, above_trans v w (2 * w) a.1 (above_left w)))
leads_further (Pair k v) l (right {w = w} h) = let a =
    above_children v w h l.1 in (l.0, inr (a.0, above_trans v w (2 * w + 1) a.1 (above_right w)))
leads_further (Pair k v) l (middle {w = w} h) = (l.0, above_children v w h l.1)
leads_further (Pair k v) l whole = l

-- what has come in by the rules is led to by a held name
found : (held : List Name) {secret : Secret} → Had held secret → (name : Name) × Contains held name
    × DerivesSecret name secret
found held (at_first {x = Named name} m) = (name, m, leads_to_itself name)
found held (at_first {x = Key name} m) = absurd m
found held (by_rule r f) = let l = found held r in (l.0, l.1, leads_further l.0 l.2 f)

-- a label leads to those of all nodes below
descends : (held : List Name) (i w k v : ℕ) → 1 ≤ w → v / 2 ^ k ≡ w → Had held (Named (Pair i w))
    → Had held (Named (Pair i v))
descends held i w zero v low e r = subst (λ (n : ℕ). Had held (Named (Pair i n))) (sym e ∙ div-one v) r
descends held i w (suc k) v low e r =
    let s : 1 + k ≡ suc k = omega arith in
    let halved : v / 2 / 2 ^ k ≡ w = shr-shr v 1 k ∙ (ap (λ (n : ℕ). v / 2 ^ n) s ∙ e) in
    let up = descends held i w k (v / 2) low halved r in
    let some = above_le w (v / 2) (k, halved) in
    ⊎_elim
    (λ (h : v < 2 * (v / 2) + 1). let is : 2 * (v / 2) ≡ v =
    omega arith in subst (λ (n : ℕ). Had held (Named (Pair i n))) is (by_rule up (left (omega arith))))
    (λ (h : 2 * (v / 2) + 1 ≤ v). let is : 2 * (v / 2) + 1 ≡ v =
    omega arith in subst (λ (n : ℕ). Had held (Named (Pair i n))) is (by_rule up (right (omega arith))))
    (cases_lt v (2 * (v / 2) + 1))

-- what a name that has come in leads to has come in too
arrives : (held : List Name) (name : Name) (secret : Secret) → Had held (Named name) → DerivesSecret name secret
    → Had held secret
arrives held Whole (Named Whole) r l = r
arrives held Whole (Named (Pair k v)) r l = absurd l
arrives held Whole (Key WholeSet) r l = by_rule r whole
arrives held Whole (Key (Diff k v)) r l = absurd l
arrives held (Pair i w) (Named Whole) r l = absurd l
arrives held (Pair i w) (Named (Pair k v)) r (same, inl is) = rw (sym same, sym is) r
arrives held (Pair i w) (Named (Pair k v)) r (same, inr (low, above)) =
    rw (sym same) (descends held i w above.0 v low above.1 r)
arrives held (Pair i w) (Key WholeSet) r l = absurd l
arrives held (Pair i w) (Key (Diff k v)) r (same, (low, above)) =
    let le = above_le w v above in
    rw (sym same) (by_rule (descends held i w above.0 v low above.1 r) (middle {i = i} {w = v} (omega arith)))

-- what is reached is led to by a held name
pub reached_is_found : (held : List Name) (secret : Secret) → IsReached held secret → (name : Name) × Contains held name
    × DerivesSecret name secret
reached_is_found held secret r = found held (from_reached held secret r)

-- what a held name leads to is reached
pub found_is_reached : (held : List Name) (secret : Secret) (name : Name) → Contains held name →
    DerivesSecret name secret
    → IsReached held secret
found_is_reached held secret name m l = to_reached held secret (arrives held name secret (at_first m) l)

-- what is reached is just what a held name leads to
pub reached_by_ancestry : (held : List Name) (secret : Secret) → IsReached held secret
    ↔ Any (λ name. DerivesSecret name secret) held
reached_by_ancestry held secret = (
  λ r. let (name, (k, within, is), leads) = reached_is_found held secret r in (k, name, within, is, leads),
  λ (k, name, within, is, leads). found_is_reached held secret name (k, within, is) leads,
)

-- what is in the lists of several together is in the list of one of them
pub from_one : {A X : Type 0} (f : A → List X) (keys : List A) (x : X) → Contains (flat_map f keys) x → (a : A)
    × Contains keys a × Contains (f a) x
from_one f [] x m = absurd (no_member x m)
from_one f (a ∷ keys) x m =
    elim (Contains-append_cases (f a) (flat_map f keys) x (rw (flat_map-cons f a keys) at m)) [
      | inl here ↦ (a, member_first a keys, here)
      | inr there ↦ let (b, member, own) = from_one f keys x there in (b, member_later a keys b member, own)
    ]

-- what is in the list of one of several is in their lists together
pub to_all : {A X : Type 0} (f : A → List X) (keys : List A) (a : A) (x : X) → Contains keys a → Contains (f a) x
    → Contains (flat_map f keys) x
to_all f [] a x member m = absurd (no_member a member)
to_all f (b ∷ keys) a x member m =
    rw (flat_map-cons f b keys) (elim (member_cases b keys a member) [
      | inl same ↦ Contains-append_left (f b) (flat_map f keys) x (subst (λ (c : _). Contains (f c) x) (sym same) m)
      | inr later ↦ Contains-append_right (f b) (flat_map f keys) x (to_all f keys a x later m)
    ])

-- where no element at any place has a property, no member has it
pub none_of_all : {X : Type 0} (xs : List X) (P : X → Type 0) (d : X)
    → ((k : ℕ) → k < length xs → P (slice_index_or xs k d) → ⊥) → (x : X) → Contains xs x → P x → ⊥
none_of_all xs P d none x (k, within, is) p = none k within (subst P (sym (get_or_default xs k d x within ∙ is)) p)

-- what is reached from the names of several leaves is reached from those of one
pub reached_by_one : (d : ℕ) (coalition : List ℕ) (secret : Secret) →
    IsReached (flat_map (names_of_receiver d) coalition) secret
    ↔ Any (λ u. IsReached (names_of_receiver d u) secret) coalition
reached_by_one d coalition secret = (
  λ r. let (name, held, leads) = reached_is_found (flat_map (names_of_receiver d) coalition) secret r in
      let (u, (k, within, is), own) = from_one (names_of_receiver d) coalition name held in
      (k, u, within, is, found_is_reached (names_of_receiver d u) secret name own leads),
  λ (k, u, within, is, r). let (name, held, leads) = reached_is_found (names_of_receiver d u) secret r in
      found_is_reached (flat_map (names_of_receiver d) coalition) secret name
      (to_all (names_of_receiver d) coalition u name (k, within, is) held) leads,
)
