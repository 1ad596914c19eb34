-- Tests and what they are joined to.
use Rattle.std.proofs.Common.{◌≡◌, Bool, true, false, not, ◌&&◌, ◌||◌, if◌then◌else◌, refl}

-- either is true if the second is
pub or_true : (b : Bool) → (b || true) ≡ true
or_true true = refl
or_true false = refl

-- either is the first if the second is false
pub or_false : (b : Bool) → (b || false) ≡ b
or_false true = refl
or_false false = refl

-- either of two, in the other order
pub or_swap : (a b : Bool) → (a || b) ≡ (b || a)
or_swap true true = refl
or_swap true false = refl
or_swap false true = refl
or_swap false false = refl

-- any of three, grouped the other way
pub or_assoc : (a b c : Bool) → ((a || b) || c) ≡ (a || (b || c))
or_assoc true b c = refl
or_assoc false b c = refl

-- both are false if the second is
pub and_false : (b : Bool) → (b && false) ≡ false
and_false true = refl
and_false false = refl

-- a test is true if its negation is false
pub true_from_not : (b : Bool) → not b ≡ false → b ≡ true
true_from_not true h = refl
true_from_not false h = absurd (cc)

-- a test is false if its negation is true
pub false_from_not : (b : Bool) → not b ≡ true → b ≡ false
false_from_not true h = absurd (cc)
false_from_not false h = refl

-- true if a test holds, and else false, is the test
pub chosen_itself : (b : Bool) → (if b then true else false) ≡ b
chosen_itself true = refl
chosen_itself false = refl

-- a test holds or doesn't
pub tested : {X : Type 0} (test : Bool) → (test ≡ true → X) → (test ≡ false → X) → X
tested true holds fails = holds refl
tested false holds fails = fails refl
