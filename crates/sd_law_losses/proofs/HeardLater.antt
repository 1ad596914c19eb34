-- A later message never goes back before an earlier one.
use Rattle.std.proofs.Common.{◌≡◌, ◌≢◌, ℕ, ◌-◌, ◌*◌, ◌<◌, ◌≤◌, ◌==◌, Bool, true, false, nat_lt}
use Rattle.std.proofs.Common.{List, [], ◌∷◌, ◌++◌, length, take, drop, map, filter, Some}
use Rattle.std.proofs.Common.{refl, sym, ap, subst, ◌∙◌, inl, inr, arith, length-append}
use Rattle.std.specs.Prelude.{Contains, find}
use Rattle.std.specs.List.{list_any}
use Rattle.std.specs.Option.{option_map_or}
use Rattle.std.proofs.Math.Nat.{mul-le-mul_right}
use Rattle.std.proofs.lemmas.Bool.{cases_Bool, cases_lt}
use Rattle.std.proofs.lemmas.Bool.Decides.{nat_tests}
use Rattle.std.proofs.lemmas.List.{take-append-drop, take-take}
use Rattle.std.proofs.lemmas.List.Elements.{All-contains, filter_passes}
use Rattle.std.proofs.lemmas.List.Folds.{list_any-append}
use Rattle.sd_cover_tracing.proofs.Lists.{member_cases, member_first, member_later, no_member}
use Rattle.sd_packet.specs.Positions.{is_moving, position_of}
use Rattle.sd_packet.proofs.Positions.{more_packets, moved_by_near}
use Rattle.sd_site_cards.specs.SiteFields.{AreInRange}
use Rattle.sd_message.specs.declared.ecm_part.Place.{Place}
use Rattle.sd_spec.specs.Plan.{Plan, IsPlan, word_of, period_of, closing_number}
use Rattle.sd_spec.specs.Kinds.{has_moved, positional_pids, moved_pids}
use Rattle.sd_spec.specs.Messages.{places_after, message_at}
use Rattle.sd_spec.proofs.Schedule.{words_rise, periods_rise, closing_needed}
use Rattle.sd_law_broadcast.specs.Numbered.{numbered_message}
use Rattle.sd_law_broadcast.proofs.Numbers.{numbered_before, numbered_closing}
use Rattle.sd_spec.specs.Confirmed.{position_in}
use Rattle.sd_spec.specs.Offered.{is_before}

-- the place of a PID
abbrev place_at : List (List ℕ) → ℕ → Place
place_at before pid = record { pid = pid; position = position_of pid before }

-- it is found among those of PIDs that have it
place_found : (before : List (List ℕ)) (pids : List ℕ) (pid : ℕ) → Contains pids pid →
    find (λ place. place.pid == pid) (map (place_at before) pids) ≡ Some (place_at before pid)
place_found before [] pid m = absurd (no_member pid m)
place_found before (q ∷ pids) pid m = elim (cases_Bool (q == pid)) [
  | inl here ↦
      let same : q ≡ pid = grind (arith, nat_tests, here) in
      rw here (ap (λ (p : ℕ). Some (place_at before p)) same)
  | inr other ↦ elim (member_cases q pids pid m) [
    | inl same ↦ absurd (let apart : q ≢ pid = grind (arith, nat_tests, other) in apart same)
    | inr later ↦ rw other (place_found before pids pid later)
  ]
]

-- members that pass are kept
passing_kept : (test : ℕ → Bool) (xs : List ℕ) (x : ℕ) → Contains xs x → test x ≡ true → Contains (filter test xs) x
passing_kept test [] x m passes = absurd (no_member x m)
passing_kept test (y ∷ ys) x m passes = elim (cases_Bool (test y)) [
  | inl here ↦ rw here (elim (member_cases y ys x m) [
    | inl same ↦ subst (Contains (y ∷ filter test ys)) same (member_first y (filter test ys))
    | inr later ↦ member_later y (filter test ys) x (passing_kept test ys x later passes)
  ])
  | inr other ↦ rw other (elim (member_cases y ys x m) [
    | inl same ↦ absurd (let wrong = subst (λ (z : ℕ). test z ≡ false) same other in cc)
    | inr later ↦ passing_kept test ys x later passes
  ])
]

-- what is kept was a member, and passes
kept_member : (test : ℕ → Bool) (xs : List ℕ) (x : ℕ) → Contains (filter test xs) x → Contains xs x
kept_member test [] x m = m
kept_member test (y ∷ ys) x m = elim (cases_Bool (test y)) [
  | inl here ↦ elim (member_cases y (filter test ys) x (rw here at m)) [
    | inl same ↦ subst (Contains (y ∷ ys)) same (member_first y ys)
    | inr later ↦ member_later y ys x (kept_member test ys x later)
  ]
  | inr other ↦ member_later y ys x (kept_member test ys x (rw other at m))
]

-- a PID that has moved has moved after more packets
moved_stays : (xs ys : List (List ℕ)) (pid : ℕ) → Contains (moved_pids xs) pid → Contains (moved_pids (xs ++ ys)) pid
unfolding moved_pids
moved_stays xs ys pid m =
    let passes = All-contains (λ (q : ℕ). has_moved xs q ≡ true) (filter (has_moved xs) positional_pids) pid
    (filter_passes (has_moved xs) positional_pids) m in
    let more : has_moved (xs ++ ys) pid ≡ true = list_any-append (is_moving pid) xs ys ∙ rw passes refl in
    passing_kept (has_moved (xs ++ ys)) positional_pids pid (kept_member (has_moved xs) positional_pids pid m) more

-- its position doesn't fall
position_rises : (xs ys : List (List ℕ)) (pid : ℕ) → position_of pid xs ≤ position_of pid (xs ++ ys)
position_rises xs ys pid =
    rw (more_packets pid 15 xs ys) (moved_by_near pid (position_of pid xs) ys).0

-- no place goes back
place_after_more : (xs ys : List (List ℕ)) (pid : ℕ) → Contains (moved_pids xs) pid →
    option_map_or (λ position. nat_lt position (position_of pid xs)) (position_in (places_after
    (xs ++ ys)) pid) true ≡ false
unfolding position_in places_after
place_after_more xs ys pid m =
    let found = place_found (xs ++ ys) (moved_pids (xs ++ ys)) pid (moved_stays xs ys pid m) in
    let up = position_rises xs ys pid in
    let less : nat_lt (position_of pid (xs ++ ys)) (position_of pid xs) ≡ false = grind (arith, nat_tests, up) in
    rw found less

no_place_back : (xs ys : List (List ℕ)) →
    list_any (λ place. option_map_or (λ position. nat_lt position place.position)
    (position_in (places_after (xs ++ ys)) place.pid) true) (places_after xs) ≡ false
unfolding places_after
no_place_back xs ys = none_of (places_after (xs ++ ys)) (moved_pids xs) (λ pid m. place_after_more xs ys pid m)
  where
    none_of : (places : List Place) (pids : List ℕ)
        → ((pid : ℕ) → Contains pids pid → option_map_or (λ position. nat_lt position (position_of pid xs))
        (position_in places pid) true ≡ false)
        → list_any (λ place. option_map_or (λ position. nat_lt position place.position)
        (position_in places place.pid) true)
        (map (place_at xs) pids) ≡ false
    none_of places [] each = refl
    none_of places (pid ∷ pids) each =
        rw (each pid (member_first pid pids)) (none_of places pids (λ q m. each q (member_later pid pids q m)))

-- a message after more packets, with the word and the period of the same packet or a later one
later_at : (plan : Plan) (xs ys : List (List ℕ)) (a b j k : ℕ) (first second : Bool) → AreInRange plan.site → j ≤ k →
    is_before (message_at plan (xs ++ ys) b k second) (message_at plan xs a j first) ≡ false
unfolding is_before message_at
later_at plan xs ys a b j k first second r up =
    let periods = periods_rise plan j k r up in
    let words = words_rise plan.site j k r up in
    let long = length-append xs ys in
    let one : nat_lt (period_of plan k) (period_of plan j) ≡ false = grind (arith, nat_tests, periods) in
    let two : nat_lt (word_of plan.site k) (word_of plan.site j) ≡ false = grind (arith, nat_tests, words) in
    let three : nat_lt (length (xs ++ ys)) (length xs) ≡ false = grind (arith, nat_tests, long) in
    rw (one, two, three, no_place_back xs ys) refl

-- of the first packets fewer are first
first_of_more : (clear : List (List ℕ)) (j k : ℕ) → j ≤ k → take j clear ++ drop j (take k clear) ≡ take k clear
first_of_more clear j k below =
    ap (λ (b : List (List ℕ)). b ++ drop j (take k clear)) (sym (take-take j k clear below))
    ∙ take-append-drop j (take k clear)

-- a later control message
pub never_back : (plan : Plan) (clear : List (List ℕ)) (a b : ℕ) → IsPlan plan → a < b →
    b ≤ closing_number plan.site (length clear) → is_before (numbered_message plan clear b)
    (numbered_message plan clear a) ≡ false
never_back plan clear a b is below within =
    let e : ℕ = plan.site.every in
    let inner : a < closing_number plan.site (length clear) = omega (arith, below, within) in
    rw (numbered_before plan clear a inner) (elim (cases_lt b (closing_number plan.site (length clear))) [
      | inl before ↦
          let up : a * e ≤ b * e = mul-le-mul_right e (omega (arith, below)) in
          rw (numbered_before plan clear b before)
          (subst (λ (more : List (List ℕ)). is_before (message_at plan more b (b * e) false)
          (message_at plan (take (a * e) clear) a (a * e) false) ≡ false) (first_of_more clear (a * e) (b * e) up)
          (later_at plan (take (a * e) clear) (drop (a * e) (take (b * e) clear)) a b (a * e)
          (b * e) false false is.site up))
      | inr past ↦
          let same : closing_number plan.site (length clear) ≡ b = omega (arith, within, past) in
          let needed = closing_needed plan.site (length clear) a is.site inner in
          let last : ℕ = length clear - 1 in
          subst (λ (n : ℕ). is_before (numbered_message plan clear n) (message_at plan (take (a * e) clear) a
          (a * e) false) ≡ false)
          same (rw (numbered_closing plan clear)
          (subst (λ (more : List (List ℕ)). is_before
          (message_at plan more (closing_number plan.site (length clear)) last true)
          (message_at plan (take (a * e) clear) a (a * e) false) ≡ false) (take-append-drop (a * e) clear)
          (later_at plan (take (a * e) clear) (drop (a * e) clear) a (closing_number plan.site (length clear))
          (a * e) last
          false true is.site (omega (arith, needed)))))
    ])
