-- What is derived is the least that has what is held and is closed under the rules.
use Rattle.std.proofs.Common.{◌≡◌, Bool, true, List, [], ◌∷◌, subst, inl, inr}
use Rattle.std.specs.Prelude.{Contains}
use Rattle.sd_cover_tracing.proofs.Lists.{member_cases, member_first, no_member}
use Rattle.sd_cover_tracing.specs.Derivation.{IsDerivation, IsDerived}

-- what is had, by how it came in
pub data Reach {S : Type 0} (held : S → Type 0) (follows : S → S → Type 0) : S → Type 0 where
  at_first : {x : S} → held x → Reach held follows x
  by_rule : {from to : S} → Reach held follows from → follows from to → Reach held follows to

-- each member of a derivation is had
derived : {S : Type 0} (held : S → Type 0) (follows : S → S → Type 0) (list : List S) → IsDerivation held follows list
    → (x : S) → Contains list x → Reach held follows x
derived held follows [] d x m = absurd (no_member x m)
derived held follows (first ∷ earlier) d x m = elim (member_cases first earlier x m) [
  | inr later ↦ derived held follows earlier d.1 x later
  | inl same ↦ subst (Reach held follows) same (elim d.0 [
    | inl is ↦ at_first is
    | inr made ↦ by_rule (derived held follows earlier d.1 made.0 made.1) made.2
  ])
]

-- a derivation ends with what is had
derivation : {S : Type 0} (held : S → Type 0) (follows : S → S → Type 0) {x : S} → Reach held follows x
    → (earlier : List S) × IsDerivation held follows (x ∷ earlier)
derivation held follows (at_first is) = ([], (inl is, tt))
derivation held follows (by_rule {from = s} r f) =
    let d = derivation held follows r in
    (s ∷ d.0, (inr (s, member_first s d.0, f), d.1))

-- what ends a derivation has come in by the rules
pub from_derived : {S : Type 0} (held : S → Type 0) (follows : S → S → Type 0) (x : S) → IsDerived held follows x
    → Reach held follows x
unfolding IsDerived
from_derived held follows x r = derived held follows (x ∷ r.0) r.1 x (member_first x r.0)

-- what has come in by the rules ends a derivation
pub to_derived : {S : Type 0} (held : S → Type 0) (follows : S → S → Type 0) (x : S) → Reach held follows x
    → IsDerived held follows x
unfolding IsDerived
to_derived held follows x r = derivation held follows r

-- what has come in passes each test that what is held passes, and what follows from what passes
pub passes : {S : Type 0} (held : S → Type 0) (follows : S → S → Type 0) (test : S → Bool)
    → ((x : S) → held x → test x ≡ true) → ((from to : S) → follows from to → test from ≡ true → test to ≡ true)
    → {x : S} → Reach held follows x → test x ≡ true
passes held follows test is closed (at_first {x = x} m) = is x m
passes held follows test is closed (by_rule {from = s} {to = t} r f) =
    closed s t f (passes held follows test is closed r)
