-- Places in a book, and the commands of a period.
use Rattle.std.proofs.Common.{arith, ◌≡◌, ℕ, zero, suc, ◌+◌, ◌<◌, ◌≤◌, List, [], ◌∷◌, ◌++◌, length, ◌-◌, take, drop}
use Rattle.std.proofs.Common.{length-drop, refl, ap, subst, ◌∙◌, inl, inr, true, Option, Some, None}
use Rattle.std.specs.Prelude.{All, IfSome}
use Rattle.std.proofs.lemmas.Bool.{cases_lt}
use Rattle.std.proofs.lemmas.List.{length-append, take_rest}
use Rattle.std.proofs.lemmas.List.Elements.{All-nil, All-cons, All-head, All-tail}
use Rattle.sd_book.specs.declared.command.Command.{Command}
use Rattle.sd_book.specs.declared.command.Command.TheVariants.{Subscribe, Revoke, Period}
use Rattle.sd_book.specs.Commands.{is_within, last_period, commands_until, commands_in}
use Rattle.sd_book.specs.Place.{PlaceValue, commands_before, IsPlaceIn, after_period}
use Rattle.sd_book.proofs.Cuts.{period_none, period_subscribe, period_revoke, period_period, until_end}

-- the first place is one in each book
pub first_place : (commands : List Command) → IsPlaceIn commands (record { taken = 0; next = 0 })
first_place commands = record { within = omega arith; taken = refl }

-- the commands of period 0 are those that decide it
pub first_in : (commands : List Command) → commands_until zero commands ≡ commands_in commands zero
first_in [] = refl
first_in (Subscribe u ∷ commands) = ap (λ (r : List Command). Subscribe u ∷ r) (first_in commands)
first_in (Revoke u ∷ commands) = ap (λ (r : List Command). Revoke u ∷ r) (first_in commands)
first_in (Period ∷ commands) = refl

-- a Period and the commands of the next period come after those that decide a period
pub until_next : (q : ℕ) (commands : List Command) → q < last_period commands
    → commands_until (suc q) commands ≡ commands_until q commands ++ Period ∷ commands_in commands (suc q)
until_next q [] h = absurd (omega (arith, period_none))
until_next zero (Subscribe u ∷ commands) h = ap (λ (r : List Command). Subscribe u ∷ r)
    (until_next zero commands (omega (arith, period_subscribe u commands)))
until_next zero (Revoke u ∷ commands) h = ap (λ (r : List Command). Revoke u ∷ r)
    (until_next zero commands (omega (arith, period_revoke u commands)))
until_next zero (Period ∷ commands) h = ap (λ (r : List Command). Period ∷ r) (first_in commands)
until_next (suc q) (Subscribe u ∷ commands) h = ap (λ (r : List Command). Subscribe u ∷ r)
    (until_next (suc q) commands (omega (arith, period_subscribe u commands)))
until_next (suc q) (Revoke u ∷ commands) h = ap (λ (r : List Command). Revoke u ∷ r)
    (until_next (suc q) commands (omega (arith, period_revoke u commands)))
until_next (suc q) (Period ∷ commands) h = ap (λ (r : List Command). Period ∷ r)
    (until_next q commands (omega (arith, period_period commands)))

-- one command less is left of a list with one more before
one_less : (n : ℕ) (command : Command) (commands : List Command) → drop (suc n + 1) (command ∷ commands)
    ≡ drop (n + 1) commands
one_less n command commands =
    let same : suc n + 1 ≡ suc (n + 1) = omega arith in
    ap (λ (k : ℕ). drop k (command ∷ commands)) same

-- what is left after a period begins with the commands of the next
rest_in : (q : ℕ) (commands : List Command) → q < last_period commands
    → commands_until zero (drop (length (commands_until q commands) + 1) commands) ≡ commands_in commands (suc q)
rest_in q [] h = absurd (omega (arith, period_none))
rest_in zero (Subscribe u ∷ commands) h = ap (commands_until zero) (one_less _ (Subscribe u) commands) ∙
    rest_in zero commands (omega (arith, period_subscribe u commands))
rest_in zero (Revoke u ∷ commands) h = ap (commands_until zero) (one_less _ (Revoke u) commands) ∙
    rest_in zero commands (omega (arith, period_revoke u commands))
rest_in zero (Period ∷ commands) h = first_in commands
rest_in (suc q) (Subscribe u ∷ commands) h = ap (commands_until zero) (one_less _ (Subscribe u) commands) ∙
    rest_in (suc q) commands (omega (arith, period_subscribe u commands))
rest_in (suc q) (Revoke u ∷ commands) h = ap (commands_until zero) (one_less _ (Revoke u) commands) ∙
    rest_in (suc q) commands (omega (arith, period_revoke u commands))
rest_in (suc q) (Period ∷ commands) h = ap (commands_until zero) (one_less _ Period commands) ∙
    rest_in q commands (omega (arith, period_period commands))

-- the commands that decide a period which is not the last are not all
until_short : (q : ℕ) (commands : List Command) → q < last_period commands → length (commands_until q commands)
    < length commands
until_short q [] h = absurd (omega (arith, period_none))
until_short zero (Subscribe u ∷ commands) h = omega
    (arith, until_short zero commands (omega (arith, period_subscribe u commands)))
until_short zero (Revoke u ∷ commands) h = omega
    (arith, until_short zero commands (omega (arith, period_revoke u commands)))
until_short zero (Period ∷ commands) h = omega arith
until_short (suc q) (Subscribe u ∷ commands) h = omega
    (arith, until_short (suc q) commands (omega (arith, period_subscribe u commands)))
until_short (suc q) (Revoke u ∷ commands) h = omega
    (arith, until_short (suc q) commands (omega (arith, period_revoke u commands)))
until_short (suc q) (Period ∷ commands) h = omega
    (arith, until_short q commands (omega (arith, period_period commands)))

-- the commands before a period are there
before_within : (commands : List Command) (q : ℕ) → q ≤ last_period commands → commands_before commands q
    ≤ length commands
before_within commands zero h = omega arith
before_within commands (suc q) h = omega (arith, until_short q commands (omega arith))

-- and after the last one none is left
before_all : (commands : List Command) (q : ℕ) → q ≡ last_period commands + 1 → length commands < commands_before
    commands q
before_all commands zero h = absurd (omega arith)
before_all commands (suc q) h =
    let all : length (commands_until q commands) ≡ length commands = ap length (until_end q commands (omega arith)) in
    omega arith

-- a place tells by the number of commands whether a period comes next
pub next_there : (commands : List Command) (place : PlaceValue) → IsPlaceIn commands place →
    place.taken ≤ length commands
    → place.next ≤ last_period commands
next_there commands place at h =
    elim (cases_lt (last_period commands) place.next) [
      | inl lt ↦ absurd (omega (arith, at.taken, before_all commands place.next (omega (arith, at.within))))
      | inr le ↦ le
    ]

pub none_there : (commands : List Command) (place : PlaceValue) → IsPlaceIn commands place → length commands
    < place.taken
    → last_period commands < place.next
none_there commands place at h =
    elim (cases_lt (last_period commands) place.next) [
      | inl lt ↦ lt
      | inr le ↦ absurd (omega (arith, at.taken, before_within commands place.next le))
    ]

-- what is left begins with the commands of the period
before_in : (commands : List Command) (q : ℕ) → q ≤ last_period commands
    → commands_until zero (drop (commands_before commands q) commands) ≡ commands_in commands q
before_in commands zero h = first_in commands
before_in commands (suc q) h = rest_in q commands (omega arith)

pub next_in : (commands : List Command) (place : PlaceValue) → IsPlaceIn commands place →
    place.next ≤ last_period commands
    → commands_until zero (drop place.taken commands) ≡ commands_in commands place.next
next_in commands place at h = ap (λ (n : ℕ). commands_until zero (drop n commands)) at.taken ∙
    before_in commands place.next h

-- and the next period begins after them and a Period
before_next : (commands : List Command) (q : ℕ) → q ≤ last_period commands
    → commands_before commands (suc q) ≡ commands_before commands q + length (commands_in commands q) + 1
before_next commands zero h = omega (arith, ap length (first_in commands))
before_next commands (suc q) h =
    omega (
      arith,
      ap length (until_next q commands (omega arith)),
      length-append (commands_until q commands)
          (Period ∷ commands_in commands (suc q)),
    )

pub next_place : (commands : List Command) (place : PlaceValue) (n : ℕ) → IsPlaceIn commands place →
    place.next ≤ last_period commands
    → n ≡ length (commands_in commands place.next) → IsPlaceIn commands (after_period place n)
next_place commands place n at h same =
    let more : suc place.next ≡ place.next + 1 = omega arith in
    record {
      within = omega arith;
      taken = subst (λ (q : ℕ). place.taken + (n + 1) ≡ commands_before commands q) more
          (omega (arith, at.taken, before_next commands place.next h));
    }

-- what holds of all commands holds of those of a period
all_in : (P : Command → Type 0) (commands : List Command) (q : ℕ) → All P commands → All P (commands_in commands q)
all_in P [] q h = h
all_in P (Subscribe u ∷ commands) zero h = All-cons P _ _ (All-head P _ _ h) (all_in P commands zero (All-tail P _ _ h))
all_in P (Revoke u ∷ commands) zero h = All-cons P _ _ (All-head P _ _ h) (all_in P commands zero (All-tail P _ _ h))
all_in P (Period ∷ commands) zero h = All-nil P
all_in P (Subscribe u ∷ commands) (suc q) h = all_in P commands (suc q) (All-tail P _ _ h)
all_in P (Revoke u ∷ commands) (suc q) h = all_in P commands (suc q) (All-tail P _ _ h)
all_in P (Period ∷ commands) (suc q) h = all_in P commands q (All-tail P _ _ h)

-- the commands of a period are of the tree
pub within_in : (d : ℕ) (commands : List Command) (q : ℕ) → All (λ command. is_within d command ≡ true) commands
    → All (λ command. is_within d command ≡ true) (commands_in commands q)
within_in d commands q h = all_in (λ command. is_within d command ≡ true) commands q h

-- so are those that are found to be a period's
pub within_found : {A : Type 0} (list : A → List Command) (d : ℕ) (commands : List Command) (q : ℕ) (found : Option A) →
    All (λ command. is_within d command ≡ true) commands → IfSome found (λ x. list x ≡ commands_in commands q) →
    IfSome found (λ x. All (λ command. is_within d command ≡ true) (list x))
within_found list d commands q None leaves same = tt
within_found list d commands q (Some x) leaves same = rw same (within_in d commands q leaves)

-- the commands that decide period 0 are no more than all
until_length : (commands : List Command) → length (commands_until zero commands) ≤ length commands
until_length [] = omega arith
until_length (Subscribe u ∷ commands) = omega (arith, until_length commands)
until_length (Revoke u ∷ commands) = omega (arith, until_length commands)
until_length (Period ∷ commands) = omega arith

-- so many are there after those that were taken
pub until_fits : (commands : List Command) (taken : ℕ) → taken ≤ length commands →
    taken + length (commands_until zero (drop taken commands)) ≤ length commands
until_fits commands taken h = omega (arith, until_length (drop taken commands), length-drop taken commands)

-- what is cut from the commands at a place, up to the next Period
pub cut_in : (commands period : List Command) (place : PlaceValue) (taken : ℕ) → IsPlaceIn commands place →
    taken ≡ place.taken → taken ≤ length commands
    → period ≡ commands_until zero (take (length commands - taken) (drop taken commands)) →
    period ≡ commands_in commands place.next
cut_in commands period place taken at same h cut =
    let left : take (length commands - taken) (drop taken commands) ≡ drop place.taken commands = take_rest commands
    taken ∙ ap (λ (n : ℕ). drop n commands) same in
    cut ∙ ap (commands_until zero) left ∙ next_in commands place at (next_there commands place at (omega (arith, same)))

-- is no longer than what is left
pub cut_fits : (commands period : List Command) (place : PlaceValue) (taken : ℕ) → taken ≡ place.taken →
    taken ≤ length commands
    → period ≡ commands_until zero (take (length commands - taken) (drop taken commands)) → place.taken + length period
    ≤ length commands
cut_fits commands period place taken same h cut =
    let left : period ≡ commands_until zero (drop taken commands) = cut ∙
    ap (commands_until zero) (take_rest commands taken) in
    omega (arith, same, ap length left, until_fits commands taken h)

-- and the place moves over it
pub cut_place : (commands period : List Command) (place : PlaceValue) (taken : ℕ) → IsPlaceIn commands place →
    taken ≡ place.taken → taken ≤ length commands
    → period ≡ commands_until zero (take (length commands - taken) (drop taken commands)) →
    IsPlaceIn commands (after_period place (length period))
cut_place commands period place taken at same h cut =
    next_place commands place (length period) at (next_there commands place at (omega (arith, same)))
    (ap length (cut_in commands period place taken at same h cut))
