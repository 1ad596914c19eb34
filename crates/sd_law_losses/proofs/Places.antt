-- The positions that a message tells.
use Rattle.std.proofs.Common.{◌≡◌, refl, ℕ, zero, suc, ◌+◌, ◌<◌, ◌≤◌, ◌==◌, Bool, true, false, List}
use Rattle.std.proofs.Common.{map, filter, Option, Some, None, arith, sym, ap, ◌∙◌, inl, inr, ◌⊎◌}
use Rattle.std.specs.Prelude.{if◌then◌else◌, option_map}
use Rattle.std.specs.List.{range_with_len, find}
use Rattle.std.specs.Option.{option_map_or}
use Rattle.std.proofs.lemmas.Bool.{cases_Bool, cases_eq}
use Rattle.std.proofs.lemmas.Bool.Decides.{nat_tests}
use Rattle.sd_packet.specs.Positions.{position_of}
use Rattle.sd_packet.proofs.Positions.{none_moves}
use Rattle.sd_message.specs.declared.ecm_part.Place.{Place}
use Rattle.sd_spec.specs.Kinds.{has_moved, moved_pids, positional_pids}
use Rattle.sd_spec.specs.Messages.{places_after}
use Rattle.sd_spec.specs.Confirmed.{position_in}

-- the place of a PID among some
abbrev find_place : ℕ → List Place → Option Place
find_place pid places = find (λ place. place.pid == pid) places

-- among greater numbers there is none
none_above : (f : ℕ → Bool) (at : ℕ → Place) (pid a n : ℕ) → ((q : ℕ) → (at q).pid ≡ q) → pid < a →
    find_place pid (map at (filter f (range_with_len a n))) ≡ None
none_above f at pid a zero named above = refl
none_above f at pid a (suc n) named above = elim (cases_Bool (f a)) [
  | inl is ↦
      let other : ((at a).pid == pid) ≡ false = grind (arith, nat_tests, named a, above) in
      rw is (rw other (none_above f at pid (a + 1) n named (omega (arith, above))))
  | inr is ↦ rw is (none_above f at pid (a + 1) n named (omega (arith, above)))
]

-- the place of a number in the range is there where the number passes the test
pub found_in_range : (f : ℕ → Bool) (at : ℕ → Place) (pid a n : ℕ) → ((q : ℕ) → (at q).pid ≡ q) → a ≤ pid →
    pid < a + n → find_place pid (map at (filter f (range_with_len a n))) ≡ (if f pid then Some (at pid) else None)
found_in_range f at pid a zero named low high = absurd (omega (arith, low, high))
found_in_range f at pid a (suc n) named low high = elim (cases_eq a pid) [
  | inl here ↦ rw (← here) (at_first (cases_Bool (f a)))
  | inr later ↦ past_first (cases_Bool (f a)) later
      (found_in_range f at pid (a + 1) n named (omega (arith, low, later)) (omega (arith, high)))
]
  where
    at_first : (f a ≡ true) ⊎ (f a ≡ false) →
        find_place a (map at (filter f (range_with_len a (suc n)))) ≡ (if f a then Some (at a) else None)
    at_first (inl is) =
        let same : ((at a).pid == a) ≡ true = grind (arith, nat_tests, named a) in
        rw is (rw same refl)
    at_first (inr is) = rw is (none_above f at a (a + 1) n named (omega arith))

    past_first : (f a ≡ true) ⊎ (f a ≡ false) → (a ≡ pid → ⊥) →
        find_place pid (map at (filter f (range_with_len (a + 1) n))) ≡ (if f pid then Some (at pid) else None) →
        find_place pid (map at (filter f (range_with_len a (suc n)))) ≡ (if f pid then Some (at pid) else None)
    past_first (inl is) later rest =
        let other : ((at a).pid == pid) ≡ false = grind (arith, nat_tests, named a, later) in
        rw is (rw other rest)
    past_first (inr is) later rest = rw is rest

-- the position of a PID in a message, where it has moved
pub told_position : (before : List (List ℕ)) (pid : ℕ) → 0x20 ≤ pid → pid ≤ 0x1FEF →
    position_in (places_after before) pid ≡ (if has_moved before pid then Some (position_of pid before) else None)
unfolding position_in places_after moved_pids positional_pids
told_position before pid low high =
    ap (option_map (λ (place : Place). place.position))
    (found_in_range (has_moved before) (λ q. record { pid = q; position = position_of q before }) pid 0x20 0x1FD0
    (λ q. refl) low (omega (arith, high)))
    ∙ by_test (has_moved before pid)
  where
    by_test : (b : Bool) →
        option_map (λ (place : Place). place.position)
        (if b then Some (record { pid = pid; position = position_of pid before }) else None)
        ≡ (if b then Some (position_of pid before) else None)
    by_test true = refl
    by_test false = refl

-- so tracking starts at the true position
pub told_start : (before : List (List ℕ)) (pid : ℕ) → 0x20 ≤ pid → pid ≤ 0x1FEF →
    option_map_or (λ p. p) (position_in (places_after before) pid) 15 ≡ position_of pid before
told_start before pid low high =
    ap (λ (told : Option ℕ). option_map_or (λ p. p) told 15) (told_position before pid low high)
    ∙ by_test (cases_Bool (has_moved before pid))
  where
    by_test : (has_moved before pid ≡ true) ⊎ (has_moved before pid ≡ false) →
        option_map_or (λ p. p) (if has_moved before pid then Some (position_of pid before) else None) 15
        ≡ position_of pid before
    by_test (inl is) = rw is refl
    by_test (inr is) = rw is (sym (none_moves pid 15 before is))
