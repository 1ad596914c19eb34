-- The packets that a receiver is offered were sent, and their numbers rise.
use Rattle.std.proofs.Common.{arith, ◌≡◌, ℕ, suc, ◌+◌, ◌==◌, ◌<◌, ◌≤◌, List, [], ◌∷◌, ◌++◌, refl, ap, sym, ◌∙◌}
use Rattle.std.proofs.Common.{Bool, true, false, inl, inr, length, length-append, append-nil, subst}
use Rattle.std.specs.Prelude.{◌&&◌, All, map, nat_lt, not, reverse, if◌then◌else◌}
use Rattle.std.specs.List.{concat}
use Rattle.std.specs.List.Sorted.{IsStrictlyIncreasing}
use Rattle.std.proofs.lemmas.Bool.{cases_lt}
use Rattle.std.proofs.lemmas.Bool.Decides.{nat_tests}
use Rattle.std.proofs.lemmas.List.{get_or_append_left, get_or_push, reverse-append}
use Rattle.std.proofs.lemmas.List.Elements.{All-nil, All-cons, All-get_or, All-head, All-tail}
use Rattle.std.proofs.lemmas.List.Folds.{concat-append}
use Rattle.std.proofs.lemmas.List.Sorted.{All-permutation, IsPermutation-reverse}
use Rattle.sd_spec.specs.Plan.{Plan}
use Rattle.sd_spec.specs.declared.event.Event.{Event}
use Rattle.sd_spec.specs.declared.event.Event.TheVariants.{Subscribe, Revoke, Send, Offer, Lose, Off, On}
use Rattle.sd_spec.specs.Book.{sends}
use Rattle.sd_spec.specs.Events.{sends_with}
use Rattle.sd_spec.specs.Watch.{Watch, offered_to, passed_by, switched_off, switched_on, watch_after_event, count_sent}
use Rattle.sd_spec.specs.Watch.{watch}
use Rattle.sd_spec.specs.Watch.{times}
use Rattle.sd_spec.proofs.Sends.{sends_up}
use Rattle.sd_spec.proofs.Streams.{counts_rise}

-- the numbers of all packets that a receiver was offered, the newest first
abbrev pub all_offered : Watch → List ℕ
all_offered w = concat (w.now ∷ w.earlier)

-- in all times together they are in order
times_reversed : (xss : List (List ℕ)) → concat (reverse (map reverse xss)) ≡ reverse (concat xss)
times_reversed [] = refl
times_reversed (xs ∷ xss) =
    ap concat (reverse-append (reverse xs ∷ []) (map reverse xss))
    ∙ (concat-append (reverse (map reverse xss)) (reverse xs ∷ [])
    ∙ (ap (λ (first : List ℕ). first ++ (reverse xs ++ [])) (times_reversed xss)
    ∙ (ap (λ (last : List ℕ). reverse (concat xss) ++ last) (append-nil (reverse xs))
    ∙ sym (reverse-append xs (concat xss)))))

pub times_are : (w : Watch) → concat (times w) ≡ reverse (all_offered w)
unfolding times
times_are w = times_reversed (w.now ∷ w.earlier)

-- what an event does to a receiver: it is offered the next packet, or passes it, or doesn't
pub data Move (n : ℕ) (w to : Watch) : Type 0 where
  offers : w.cursor < n → to.cursor ≡ suc w.cursor → all_offered to ≡ w.cursor ∷ all_offered w → Move n w to
  passes : w.cursor < n → to.cursor ≡ suc w.cursor → all_offered to ≡ all_offered w → Move n w to
  waits : to.cursor ≡ w.cursor → all_offered to ≡ all_offered w → Move n w to

-- the second of two tests that both pass
second_passes : (a b : Bool) → (a && b) ≡ true → b ≡ true
second_passes true b both = both
second_passes false b both = absurd cc

-- a packet is left if the test passes
one_left : (n : ℕ) (w : Watch) (a : Bool) → (a && nat_lt w.cursor n) ≡ true → w.cursor < n
one_left n w a both =
    let test = second_passes a (nat_lt w.cursor n) both in grind (arith, nat_tests, test)

-- an offer, by whether the receiver is on
offer_moves : (n : ℕ) (on : Bool) (cursor : ℕ) (now : List ℕ) (earlier : List (List ℕ)) → cursor < n →
    Move n (record { on = on; cursor = cursor; now = now; earlier = earlier })
    (offered_to (record { on = on; cursor = cursor; now = now; earlier = earlier }))
offer_moves n true cursor now earlier left = offers left refl refl
offer_moves n false cursor now earlier left = passes left refl refl

offer_turn : (n : ℕ) (w : Watch) (b : Bool) → (b ≡ true → w.cursor < n) → Move n w (if b then offered_to w else w)
offer_turn n w true left = offer_moves n w.on w.cursor w.now w.earlier (left refl)
offer_turn n w false left = waits refl refl

lose_turn : (n : ℕ) (w : Watch) (b : Bool) → (b ≡ true → w.cursor < n) → Move n w (if b then passed_by w else w)
lose_turn n w true left = passes (left refl) refl refl
lose_turn n w false left = waits refl refl

off_turn : (n : ℕ) (w : Watch) (b : Bool) → Move n w (if b then switched_off w else w)
off_turn n w true = waits refl refl
off_turn n w false = waits refl refl

on_turn : (n : ℕ) (w : Watch) (b : Bool) → Move n w (if b then switched_on w else w)
on_turn n w true = waits refl refl
on_turn n w false = waits refl refl

pub move_of : (u n : ℕ) (event : Event) (w : Watch) → Move n w (watch_after_event u n event w)
move_of u n (Subscribe v) w = waits refl refl
move_of u n (Revoke v) w = waits refl refl
move_of u n Send w = waits refl refl
move_of u n (Offer v) w = offer_turn n w ((v == u) && nat_lt w.cursor n) (one_left n w (v == u))
move_of u n (Lose v) w = lose_turn n w ((v == u) && nat_lt w.cursor n) (one_left n w (v == u))
move_of u n (Off v) w = off_turn n w (v == u)
move_of u n (On v) w = on_turn n w ((v == u) && not w.on)

-- a number above all others goes after them
rising_more : (xs : List ℕ) (c : ℕ) → All (λ i. i < c) xs → IsStrictlyIncreasing xs →
    IsStrictlyIncreasing (xs ++ c ∷ [])
rising_more xs c all rising k within = elim (cases_lt (k + 1) (length xs)) [
  | inl inside ↦
      rw (get_or_append_left xs (c ∷ []) 0 k (omega (arith, inside)), get_or_append_left xs (c ∷ []) 0 (k + 1) inside)
      (rising k inside)
  | inr last ↦
      let long = length-append xs (c ∷ []) in
      let here : k < length xs = omega (arith, within, long) in
      let end : length xs ≡ k + 1 = omega (arith, within, long, last) in
      rw (get_or_append_left xs (c ∷ []) 0 k here, get_or_push xs c 0 (k + 1) end)
      (All-get_or (λ i. i < c) xs k 0 here all)
]

-- what is below a number is below a greater one
pub all_below : (a b : ℕ) (xs : List ℕ) → a ≤ b → All (λ i. i < a) xs → All (λ i. i < b) xs
all_below a b [] up all = All-nil (λ i. i < b)
all_below a b (x ∷ xs) up all =
    let here : x < a = All-head (λ i. i < a) x xs all in
    All-cons (λ i. i < b) x xs (omega (arith, here, up)) (all_below a b xs up (All-tail (λ i. i < a) x xs all))

-- what a receiver was offered are packets that were sent, in their order
pub record Fits (n : ℕ) (w : Watch) : Type 0 where
  pub cursor : w.cursor ≤ n
  pub below : All (λ i. i < w.cursor) (all_offered w)
  pub rising : IsStrictlyIncreasing (reverse (all_offered w))

-- one packet more
offered_rises : (c : ℕ) (xs : List ℕ) → All (λ i. i < c) xs → IsStrictlyIncreasing (reverse xs) →
    IsStrictlyIncreasing (reverse (c ∷ xs))
offered_rises c xs all rising =
    subst IsStrictlyIncreasing (sym (reverse-append (c ∷ []) xs))
    (rising_more (reverse xs) c (All-permutation (λ i. i < c) xs (reverse xs) (IsPermutation-reverse xs) all) rising)

-- one event more
fits_more : (n later : ℕ) (w to : Watch) → n ≤ later → Move n w to → Fits n w → Fits later to
fits_more n later w to up (offers left next is) fits = record {
  cursor = omega (arith, up, left, next);
  below =
      subst (All (λ i. i < to.cursor)) (sym is)
      (All-cons (λ i. i < to.cursor) w.cursor (all_offered w) (omega (arith, next))
      (all_below w.cursor to.cursor (all_offered w) (omega (arith, next)) fits.below));
  rising = rw is (offered_rises w.cursor (all_offered w) fits.below fits.rising);
}
fits_more n later w to up (passes left next is) fits = record {
  cursor = omega (arith, up, left, next);
  below =
      subst (All (λ i. i < to.cursor)) (sym is)
      (all_below w.cursor to.cursor (all_offered w) (omega (arith, next)) fits.below);
  rising = rw is fits.rising;
}
fits_more n later w to up (waits next is) fits = record {
  cursor = let most = fits.cursor in omega (arith, up, next, most);
  below =
      subst (All (λ i. i < to.cursor)) (sym is)
      (all_below w.cursor to.cursor (all_offered w) (omega (arith, next)) fits.below);
  rising = rw is fits.rising;
}

pub watch_fits : (plan : Plan) (clear : List (List ℕ)) (u : ℕ) (past : List Event) →
    Fits (count_sent plan clear (sends (length clear) past)) (watch plan clear u past)
unfolding watch sends
watch_fits plan clear u [] = record {
  cursor = omega arith;
  below = All-nil (λ i. i < 0);
  rising = λ k within. absurd (omega (arith, within));
}
watch_fits plan clear u (event ∷ past) =
    let k : ℕ = sends (length clear) past in
    fits_more (count_sent plan clear k) (count_sent plan clear (sends_with (length clear) event k))
    (watch plan clear u past) (watch_after_event u (count_sent plan clear k) event (watch plan clear u past))
    (counts_rise plan clear k (sends_with (length clear) event k) (sends_up (length clear) k event))
    (move_of u (count_sent plan clear k) event (watch plan clear u past)) (watch_fits plan clear u past)

-- in all times together a receiver was offered packets that it has passed
pub times_below : (plan : Plan) (clear : List (List ℕ)) (u : ℕ) (past : List Event) →
    All (λ i. i < (watch plan clear u past).cursor) (concat (times (watch plan clear u past)))
times_below plan clear u past =
    let w : Watch = watch plan clear u past in
    let fits = watch_fits plan clear u past in
    subst (All (λ i. i < w.cursor)) (sym (times_are w))
    (All-permutation (λ i. i < w.cursor) (all_offered w) (reverse (all_offered w))
    (IsPermutation-reverse (all_offered w)) fits.below)

-- each once, and in order
pub times_rise : (plan : Plan) (clear : List (List ℕ)) (u : ℕ) (past : List Event) →
    IsStrictlyIncreasing (concat (times (watch plan clear u past)))
times_rise plan clear u past =
    let fits = watch_fits plan clear u past in
    subst IsStrictlyIncreasing (sym (times_are (watch plan clear u past))) fits.rising

-- a receiver has passed no more packets than were sent
pub cursor_within : (plan : Plan) (clear : List (List ℕ)) (u : ℕ) (past : List Event) →
    (watch plan clear u past).cursor ≤ count_sent plan clear (sends (length clear) past)
cursor_within plan clear u past = (watch_fits plan clear u past).cursor
