-- The parts of one message, of which some are lost.
use Rattle.std.proofs.Common.{◌≡◌, refl, ℕ, suc, ◌+◌, ◌==◌, ◌&&◌, Bool, true, false, nat_le}
use Rattle.std.proofs.Common.{List, [], ◌∷◌, length, arith, ◌∙◌, ap}
use Rattle.std.proofs.Math.Dec.{eqb-suc-suc}
use Rattle.std.proofs.lemmas.Bool.Decides.{nat_tests}
use Rattle.sd_message.specs.declared.ecm_part.EcmPart.{EcmPart}
use Rattle.sd_spec.specs.Stretches.{run_of_parts, message_parts_with}

-- the part follows this one
abbrev pub follows : EcmPart → EcmPart → Bool
follows before part = (before.number == part.number) && (before.part + 1 == part.part)

-- part 0 begins a run
pub run_first : (part : EcmPart) (earlier : List EcmPart) → (part.part == 0) ≡ true → run_of_parts
    (part ∷ earlier) ≡ part ∷ []
unfolding run_of_parts
run_first part earlier h = rw h refl

-- any other part goes on with one or ends it
pub run_later : (part : EcmPart) (earlier : List EcmPart) → (part.part == 0) ≡ false →
    run_of_parts (part ∷ earlier) ≡ message_parts_with part (run_of_parts earlier)
unfolding run_of_parts
run_later part earlier later = rw later refl

-- the run stands at part x of message a
abbrev pub stands_at : ℕ → ℕ → List EcmPart → Bool
stands_at a x [] = false
stands_at a x (part ∷ run) = (part.number == a) && (part.part == x)

-- the run stands at part x of message a or at a later one of it
abbrev pub stands_from : ℕ → ℕ → List EcmPart → Bool
stands_from a x [] = false
stands_from a x (part ∷ run) = (part.number == a) && nat_le x part.part

same_test : (u v x : ℕ) → v ≡ suc x → (u + 1 == v) ≡ (u == x)
same_test u v x h =
    let one : u + 1 ≡ suc u = omega arith in
    ap (λ w. u + 1 == w) h ∙ (ap (λ w. w == suc x) one ∙ eqb-suc-suc u x)

follows_is : (before part : EcmPart) (a x : ℕ) → part.number ≡ a → part.part ≡ suc x →
    follows before part ≡ ((before.number == a) && (before.part == x))
follows_is before part a x number later =
    ap (λ n. (before.number == n) && (before.part + 1 == part.part)) number
    ∙ ap (λ b. (before.number == a) && b) (same_test before.part part.part x later)

-- the next part is put to the run
pub with_next : (part : EcmPart) (run : List EcmPart) (a x : ℕ) → part.number ≡ a → part.part ≡ suc x →
    stands_at a x run ≡ true → message_parts_with part run ≡ part ∷ run
with_next part [] a x number later h = absurd (grind (arith, h))
with_next part (before ∷ run) a x number later h = rw (follows_is before part a x number later ∙ h) refl

-- another one ends it
pub with_other : (part : EcmPart) (run : List EcmPart) (a x : ℕ) → part.number ≡ a → part.part ≡ suc x →
    stands_at a x run ≡ false → message_parts_with part run ≡ []
with_other part [] a x number later h = refl
with_other part (before ∷ run) a x number later h = rw (follows_is before part a x number later ∙ h) refl

-- Where the run stands after some parts of message a, the newest first, came or were lost: at the last of them where
-- all came, else at none of message a from there on.
abbrev pub Stands : Bool → ℕ → List EcmPart → List EcmPart → Type 0
Stands true a [] run = stands_from a 0 run ≡ false
Stands true a (part ∷ parts) run = (run ≡ part ∷ parts) × (stands_at a (length parts) (part ∷ parts) ≡ true)
Stands false a [] run = ⊥
Stands false a (part ∷ parts) run = stands_from a (length parts) run ≡ false

-- a run that stands at none from x on stands at none from x + 1 on, and not at x
from_next : (a x : ℕ) (run : List EcmPart) → stands_from a x run ≡ false → stands_from a (suc x) run ≡ false
from_next a x [] h = refl
from_next a x (part ∷ run) h = grind (arith, nat_tests, h)

not_at : (a x : ℕ) (run : List EcmPart) → stands_from a x run ≡ false → stands_at a x run ≡ false
not_at a x [] none = refl
not_at a x (part ∷ run) none = grind (arith, nat_tests, none)

-- one that stands at x stands at none from x + 1 on
past_it : (a x : ℕ) (run : List EcmPart) → stands_at a x run ≡ true → stands_from a (suc x) run ≡ false
past_it a x [] h = refl
past_it a x (part ∷ run) h = grind (arith, nat_tests, h)

-- a part that is lost ends it
pub lost_next : (all : Bool) (a : ℕ) (part : EcmPart) (parts run : List EcmPart) → Stands all a parts run →
    Stands false a (part ∷ parts) run
lost_next true a part [] run stands = stands
lost_next true a part (before ∷ parts) run stands =
    rw (stands.0) (past_it a (length parts) (before ∷ parts) stands.1)
lost_next false a part [] run stands = absurd stands
lost_next false a part (before ∷ parts) run stands = from_next a (length parts) run stands

-- a part that comes is put to a run of all parts before it
pub whole_next : (a : ℕ) (part : EcmPart) (parts earlier : List EcmPart) → part.number ≡ a →
    part.part ≡ length parts → Stands true a parts (run_of_parts earlier) → run_of_parts (part ∷ earlier) ≡ part ∷ parts
whole_next a part [] earlier number first stands =
    run_first part earlier (grind (arith, nat_tests, first))
whole_next a part (before ∷ parts) earlier number later stands =
    run_later part earlier (grind (arith, nat_tests, later))
    ∙ (ap (message_parts_with part) stands.0 ∙ with_next part (before ∷ parts) a (length parts) number later stands.1)

-- and where one was lost there is no run after it
pub broken_next : (a : ℕ) (part : EcmPart) (parts earlier : List EcmPart) → part.number ≡ a →
    part.part ≡ length parts → Stands false a parts (run_of_parts earlier) → run_of_parts (part ∷ earlier) ≡ []
broken_next a part [] earlier number first stands = absurd stands
broken_next a part (before ∷ parts) earlier number later stands =
    run_later part earlier (grind (arith, nat_tests, later))
    ∙ with_other part (run_of_parts earlier) a (length parts) number later
    (not_at a (length parts) (run_of_parts earlier) stands)

-- where the run stands with a part that comes
pub kept_next : (all : Bool) (a : ℕ) (part : EcmPart) (parts earlier : List EcmPart) → part.number ≡ a →
    part.part ≡ length parts → Stands all a parts (run_of_parts earlier) → Stands all a (part ∷ parts) (run_of_parts
    (part ∷ earlier))
kept_next true a part parts earlier number place stands =
    (whole_next a part parts earlier number place stands, grind (arith, nat_tests, number, place))
kept_next false a part [] earlier number place stands = absurd stands
kept_next false a part (before ∷ parts) earlier number place stands =
    rw (broken_next a part (before ∷ parts) earlier number place stands) refl
