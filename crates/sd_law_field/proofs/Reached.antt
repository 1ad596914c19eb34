-- Events by which receivers are offered what is chosen for them.
use Rattle.std.proofs.Common.{arith, ◌≡◌, ◌≢◌, ℕ, zero, suc, ◌+◌, ◌-◌, ◌^◌, ◌<◌, ◌≤◌, ◌==◌, ◌∙◌, refl, ap, sym, subst}
use Rattle.std.proofs.Common.{Bool, true, false, List, [], ◌∷◌, ◌++◌, append-nil, append_assoc, map, inl, inr, length}
use Rattle.std.specs.Prelude.{◌&&◌, All, nat_lt, replicate, reverse}
use Rattle.std.specs.List.{concat}
use Rattle.std.proofs.lemmas.Bool.{cases_lt}
use Rattle.std.proofs.lemmas.Bool.Decides.{nat_tests}
use Rattle.std.proofs.lemmas.List.{length-map, length-reverse, reverse-append}
use Rattle.std.proofs.lemmas.List.Elements.{All-nil, All-cons, All-append, All-head, All-tail, All-weaker}
use Rattle.sd_base.proofs.Lists.{all_first}
use Rattle.sd_base.specs.Types.{Packets}
use Rattle.sd_site_cards.specs.SiteFields.{SiteFields}
use Rattle.sd_book.specs.declared.command.Command.{Command}
use Rattle.sd_spec.specs.Plan.{Plan}
use Rattle.sd_spec.specs.declared.event.Event.{Event}
use Rattle.sd_spec.specs.declared.event.Event.TheVariants.{Subscribe, Revoke, Send, Offer, Lose, Off, On}
use Rattle.sd_spec.specs.Events.{is_of, sends_with}
use Rattle.sd_spec.specs.Book.{sends, book_after_event, event_book, plan_after}
use Rattle.sd_spec.specs.Watch.{Watch, watch_after_event, watch, count_sent, times}
use Rattle.sd_spec.proofs.Offers.{others_wait}
use Rattle.sd_spec.proofs.Watching.{all_below, cursor_within, times_below, times_rise}
use Rattle.sd_law_losses.proofs.Losses.{all_second}
use Rattle.sd_law_field.specs.Choices.{is_of_head, IsChoice}
use Rattle.sd_law_field.proofs.Rising.{Rises, increasing_rises, rises_first}

-- a receiver, by its parts
abbrev at : Bool → ℕ → List ℕ → List (List ℕ) → Watch
at on cursor now earlier = record { on = on; cursor = cursor; now = now; earlier = earlier }

-- the receiver of leaf u after these events, while n packets are sent
abbrev run : ℕ → ℕ → List Event → Watch → Watch
run u n [] w = w
run u n (event ∷ events) w = watch_after_event u n event (run u n events w)

run_join : (u n : ℕ) (later events : List Event) (w : Watch) →
    run u n (later ++ events) w ≡ run u n later (run u n events w)
run_join u n [] events w = refl
run_join u n (event ∷ later) events w = ap (watch_after_event u n event) (run_join u n later events w)

-- One event.

left_test : (u n c : ℕ) → c < n → ((u == u) && nat_lt c n) ≡ true
left_test u n c left = grind (arith, nat_tests, left)

lost_one : (u n c : ℕ) (on : Bool) (now : List ℕ) (earlier : List (List ℕ)) → c < n →
    watch_after_event u n (Lose u) (at on c now earlier) ≡ at on (suc c) now earlier
lost_one u n c on now earlier left = rw (left_test u n c left) refl

offered_one : (u n c : ℕ) (now : List ℕ) (earlier : List (List ℕ)) → c < n →
    watch_after_event u n (Offer u) (at true c now earlier) ≡ at true (suc c) (c ∷ now) earlier
offered_one u n c now earlier left = rw (left_test u n c left) refl

-- off, and on again
anew : (u n c : ℕ) (now : List ℕ) (earlier : List (List ℕ)) →
    watch_after_event u n (On u) (watch_after_event u n (Off u) (at true c now earlier)) ≡ at true c [] (now ∷ earlier)
anew u n c now earlier =
    let test : (u == u) ≡ true = grind (arith, nat_tests) in rw test refl

-- k losses
lost_all : (u n c k : ℕ) (now : List ℕ) (earlier : List (List ℕ)) → c + k ≤ n →
    run u n (replicate k (Lose u)) (at true c now earlier) ≡ at true (c + k) now earlier
lost_all u n c zero now earlier within =
    let none : c ≡ c + 0 = omega arith in ap (λ (x : ℕ). at true x now earlier) none
lost_all u n c (suc k) now earlier within =
    let next : suc (c + k) ≡ c + suc k = omega arith in
    ap (watch_after_event u n (Lose u)) (lost_all u n c k now earlier (omega (arith, within)))
    ∙ (lost_one u n (c + k) true now earlier (omega (arith, within))
    ∙ ap (λ (x : ℕ). at true x now earlier) next)

-- One time.

-- what offers these packets to a receiver that has passed c packets, and those that it has then passed
abbrev time_events : ℕ → ℕ → List ℕ → List Event
time_events u c [] = []
time_events u c (p ∷ ps) = time_events u (suc p) ps ++ (Offer u ∷ replicate (p - c) (Lose u))

abbrev time_end : ℕ → List ℕ → ℕ
time_end c [] = c
time_end c (p ∷ ps) = time_end (suc p) ps

-- these packets after others, the newest first
abbrev laid : List ℕ → List ℕ → List ℕ
laid [] now = now
laid (p ∷ ps) now = laid ps (p ∷ now)

laid_back : (ps now : List ℕ) → reverse (laid ps now) ≡ reverse now ++ ps
laid_back [] now = sym (append-nil (reverse now))
laid_back (p ∷ ps) now =
    laid_back ps (p ∷ now)
    ∙ (ap (λ (xs : List ℕ). xs ++ ps) (reverse-append (p ∷ []) now)
    ∙ append_assoc (reverse now) (p ∷ []) ps)

time_made : (u n c : ℕ) (ps now : List ℕ) (earlier : List (List ℕ)) → Rises c ps → All (λ i. i < n) ps →
    run u n (time_events u c ps) (at true c now earlier) ≡ at true (time_end c ps) (laid ps now) earlier
time_made u n c [] now earlier rises below = refl
time_made u n c (p ∷ ps) now earlier rises below =
    let from : c ≤ p = rises.0 in
    let inside : p < n = All-head (λ i. i < n) p ps below in
    let there : c + (p - c) ≡ p = omega (arith, from) in
    let losses : List Event = replicate (p - c) (Lose u) in
    run_join u n (time_events u (suc p) ps) (Offer u ∷ losses) (at true c now earlier)
    ∙ (ap (λ (w : Watch). run u n (time_events u (suc p) ps) (watch_after_event u n (Offer u) w))
    (lost_all u n c (p - c) now earlier (omega (arith, from, inside))
    ∙ ap (λ (x : ℕ). at true x now earlier) there)
    ∙ (ap (run u n (time_events u (suc p) ps)) (offered_one u n p now earlier inside)
    ∙ time_made u n (suc p) ps (p ∷ now) earlier rises.1 (All-tail (λ i. i < n) p ps below)))

-- what comes after one time rises from its end on
rises_end : (c : ℕ) (xs ys : List ℕ) → Rises c (xs ++ ys) → Rises (time_end c xs) ys
rises_end c [] ys rises = rises
rises_end c (x ∷ xs) ys rises = rises_end (suc x) xs ys rises.1

-- All times.

abbrev times_events : ℕ → ℕ → List ℕ → List (List ℕ) → List Event
times_events u c xs [] = time_events u c xs
times_events u c xs (ys ∷ more) = times_events u (time_end c xs) ys more ++ (On u ∷ Off u ∷ time_events u c xs)

last_time : (xs : List ℕ) (earlier : List (List ℕ)) →
    reverse (map reverse (laid xs [] ∷ earlier)) ≡ reverse (map reverse earlier) ++ xs ∷ []
last_time xs earlier =
    reverse-append (reverse (laid xs []) ∷ []) (map reverse earlier)
    ∙ ap (λ (last : List ℕ). reverse (map reverse earlier) ++ last ∷ []) (laid_back xs [])

times_made : (u n c : ℕ) (xs : List ℕ) (more earlier : List (List ℕ)) → Rises c (concat (xs ∷ more)) →
    All (λ i. i < n) (concat (xs ∷ more)) →
    times (run u n (times_events u c xs more) (at true c [] earlier)) ≡ reverse (map reverse earlier) ++ xs ∷ more
unfolding times
times_made u n c xs [] earlier rises below =
    let made = time_made u n c xs [] earlier (rises_first c xs (concat []) rises)
    (all_first (λ i. i < n) xs (concat []) below) in
    ap (λ (w : Watch). reverse (map reverse (w.now ∷ w.earlier))) made ∙ last_time xs earlier
times_made u n c xs (ys ∷ more) earlier rises below =
    let rest : List (List ℕ) = ys ∷ more in
    let made = time_made u n c xs [] earlier (rises_first c xs (concat rest) rises)
    (all_first (λ i. i < n) xs (concat rest) below) in
    let events : List Event = times_events u (time_end c xs) ys more in
    ap (λ (w : Watch). reverse (map reverse (w.now ∷ w.earlier)))
    (run_join u n events (On u ∷ Off u ∷ time_events u c xs) (at true c [] earlier)
    ∙ (ap (λ (w : Watch). run u n events (watch_after_event u n (On u) (watch_after_event u n (Off u) w))) made
    ∙ ap (run u n events) (anew u n (time_end c xs) (laid xs []) earlier)))
    ∙ (times_made u n (time_end c xs) ys more (laid xs [] ∷ earlier) (rises_end c xs (concat rest) rises)
    (all_second (λ i. i < n) xs (concat rest) below)
    ∙ (ap (λ (first : List (List ℕ)). first ++ rest) (last_time xs earlier)
    ∙ append_assoc (reverse (map reverse earlier)) (xs ∷ []) rest))

-- what makes a choice of a receiver that is on and was offered nothing
abbrev events_of : ℕ → List (List ℕ) → List Event
events_of u [] = []
events_of u (xs ∷ more) = times_events u 0 xs more

choice_made : (u n : ℕ) (choice : List (List ℕ)) → IsChoice n choice →
    times (run u n (events_of u choice) (at true 0 [] [])) ≡ choice
choice_made u n [] is = absurd (let some = is.some in omega (arith, some))
choice_made u n (xs ∷ more) is =
    times_made u n 0 xs more [] (increasing_rises (concat (xs ∷ more)) is.rising) is.sent

-- These are events of leaf u alone.

abbrev IsAt : ℕ → Event → Type 0
IsAt u (Subscribe v) = ⊥
IsAt u (Revoke v) = ⊥
IsAt u Send = ⊥
IsAt u (Offer v) = v ≡ u
IsAt u (Lose v) = v ≡ u
IsAt u (Off v) = v ≡ u
IsAt u (On v) = v ≡ u

lost_at : (u k : ℕ) → All (IsAt u) (replicate k (Lose u))
lost_at u zero = All-nil (IsAt u)
lost_at u (suc k) = All-cons (IsAt u) (Lose u) (replicate k (Lose u)) refl (lost_at u k)

time_at : (u c : ℕ) (ps : List ℕ) → All (IsAt u) (time_events u c ps)
time_at u c [] = All-nil (IsAt u)
time_at u c (p ∷ ps) =
    All-append (IsAt u) (time_events u (suc p) ps) (Offer u ∷ replicate (p - c) (Lose u)) (time_at u (suc p) ps)
    (All-cons (IsAt u) (Offer u) (replicate (p - c) (Lose u)) refl (lost_at u (p - c)))

times_at : (u c : ℕ) (xs : List ℕ) (more : List (List ℕ)) → All (IsAt u) (times_events u c xs more)
times_at u c xs [] = time_at u c xs
times_at u c xs (ys ∷ more) =
    All-append (IsAt u) (times_events u (time_end c xs) ys more) (On u ∷ Off u ∷ time_events u c xs)
    (times_at u (time_end c xs) ys more)
    (All-cons (IsAt u) (On u) (Off u ∷ time_events u c xs) refl
    (All-cons (IsAt u) (Off u) (time_events u c xs) refl (time_at u c xs)))

events_at : (u : ℕ) (choice : List (List ℕ)) → All (IsAt u) (events_of u choice)
events_at u [] = All-nil (IsAt u)
events_at u (xs ∷ more) = times_at u 0 xs more

-- what they are about
at_of_tree : (d u : ℕ) (event : Event) → u < 2 ^ d → IsAt u event → is_of d event ≡ true
at_of_tree d u (Subscribe v) low is = absurd is
at_of_tree d u (Revoke v) low is = absurd is
at_of_tree d u Send low is = absurd is
at_of_tree d u (Offer v) low is = grind (arith, nat_tests, low, is)
at_of_tree d u (Lose v) low is = grind (arith, nat_tests, low, is)
at_of_tree d u (Off v) low is = grind (arith, nat_tests, low, is)
at_of_tree d u (On v) low is = grind (arith, nat_tests, low, is)

at_no_head : (u : ℕ) (event : Event) → IsAt u event → is_of_head event ≡ false
at_no_head u (Subscribe v) is = absurd is
at_no_head u (Revoke v) is = absurd is
at_no_head u Send is = absurd is
at_no_head u (Offer v) is = refl
at_no_head u (Lose v) is = refl
at_no_head u (Off v) is = refl
at_no_head u (On v) is = refl

-- another leaf's receiver waits
at_waits : (u v n : ℕ) (event : Event) (w : Watch) → u ≢ v → IsAt v event → watch_after_event u n event w ≡ w
at_waits u v n (Subscribe x) w apart is = refl
at_waits u v n (Revoke x) w apart is = refl
at_waits u v n Send w apart is = refl
at_waits u v n (Offer x) w apart is = (others_wait u n x w (λ same. apart (sym same ∙ is))).0
at_waits u v n (Lose x) w apart is = (others_wait u n x w (λ same. apart (sym same ∙ is))).1
at_waits u v n (Off x) w apart is = (others_wait u n x w (λ same. apart (sym same ∙ is))).2
at_waits u v n (On x) w apart is = (others_wait u n x w (λ same. apart (sym same ∙ is))).3

run_waits : (u v n : ℕ) (events : List Event) (w : Watch) → u ≢ v → All (IsAt v) events → run u n events w ≡ w
run_waits u v n [] w apart all = refl
run_waits u v n (event ∷ events) w apart all =
    at_waits u v n event (run u n events w) apart (All-head (IsAt v) event events all)
    ∙ run_waits u v n events w apart (All-tail (IsAt v) event events all)

-- All leaves.

-- what makes the choices of the leaves below k
abbrev all_events : (ℕ → List (List ℕ)) → ℕ → List Event
all_events choice zero = []
all_events choice (suc k) = events_of k (choice k) ++ all_events choice k

all_of_tree : (d : ℕ) (choice : ℕ → List (List ℕ)) (k : ℕ) → k ≤ 2 ^ d →
    All (λ event. is_of d event ≡ true) (all_events choice k)
all_of_tree d choice zero within = All-nil (λ event. is_of d event ≡ true)
all_of_tree d choice (suc k) within =
    All-append (λ event. is_of d event ≡ true) (events_of k (choice k)) (all_events choice k)
    (All-weaker (IsAt k) (λ event. is_of d event ≡ true) (λ event is. at_of_tree d k event (omega (arith, within)) is)
    (events_of k (choice k)) (events_at k (choice k)))
    (all_of_tree d choice k (omega (arith, within)))

all_no_head : (choice : ℕ → List (List ℕ)) (k : ℕ) → All (λ event. is_of_head event ≡ false) (all_events choice k)
all_no_head choice zero = All-nil (λ event. is_of_head event ≡ false)
all_no_head choice (suc k) =
    All-append (λ event. is_of_head event ≡ false) (events_of k (choice k)) (all_events choice k)
    (All-weaker (IsAt k) (λ event. is_of_head event ≡ false) (at_no_head k) (events_of k (choice k))
    (events_at k (choice k)))
    (all_no_head choice k)

-- the other leaves' receivers wait
all_wait : (u n : ℕ) (choice : ℕ → List (List ℕ)) (k : ℕ) (w : Watch) → k ≤ u →
    run u n (all_events choice k) w ≡ w
all_wait u n choice zero w above = refl
all_wait u n choice (suc k) w above =
    run_join u n (events_of k (choice k)) (all_events choice k) w
    ∙ (run_waits u k n (events_of k (choice k)) (run u n (all_events choice k) w) (λ same. omega (arith, above, same))
    (events_at k (choice k))
    ∙ all_wait u n choice k w (omega (arith, above)))

all_made : (u n : ℕ) (choice : ℕ → List (List ℕ)) (k : ℕ) → IsChoice n (choice u) → u < k →
    times (run u n (all_events choice k) (at true 0 [] [])) ≡ choice u
all_made u n choice zero is below = absurd (omega (arith, below))
all_made u n choice (suc k) is below = elim (cases_lt u k) [
  | inl inside ↦
      ap times (run_join u n (events_of k (choice k)) (all_events choice k) (at true 0 [] [])
      ∙ run_waits u k n (events_of k (choice k)) (run u n (all_events choice k) (at true 0 [] []))
      (λ same. omega (arith, inside, same)) (events_at k (choice k)))
      ∙ all_made u n choice k is inside
  | inr last ↦
      let same : k ≡ u = omega (arith, last, below) in
      subst (λ (x : ℕ). times (run u n (events_of x (choice x) ++ all_events choice k) (at true 0 [] [])) ≡ choice u)
      (sym same)
      (ap times (run_join u n (events_of u (choice u)) (all_events choice k) (at true 0 [] [])
      ∙ ap (run u n (events_of u (choice u))) (all_wait u n choice k (at true 0 [] []) (omega (arith, last))))
      ∙ choice_made u n (choice u) is)
]

-- In a field.

-- events that aren't of the head end send nothing, and add nothing to the book
none_sent : (m k : ℕ) (event : Event) → is_of_head event ≡ false → sends_with m event k ≡ k
none_sent m k (Subscribe v) free = absurd cc
none_sent m k (Revoke v) free = absurd cc
none_sent m k Send free = absurd cc
none_sent m k (Offer v) free = refl
none_sent m k (Lose v) free = refl
none_sent m k (Off v) free = refl
none_sent m k (On v) free = refl

none_booked : (site : SiteFields) (m k : ℕ) (event : Event) (book : List Command) → is_of_head event ≡ false →
    book_after_event site m k event book ≡ book
none_booked site m k (Subscribe v) book free = absurd cc
none_booked site m k (Revoke v) book free = absurd cc
none_booked site m k Send book free = absurd cc
none_booked site m k (Offer v) book free = refl
none_booked site m k (Lose v) book free = refl
none_booked site m k (Off v) book free = refl
none_booked site m k (On v) book free = refl

sends_same : (m : ℕ) (events past : List Event) → All (λ event. is_of_head event ≡ false) events →
    sends m (events ++ past) ≡ sends m past
unfolding sends
sends_same m [] past free = refl
sends_same m (event ∷ events) past free =
    none_sent m (sends m (events ++ past)) event (All-head (λ e. is_of_head e ≡ false) event events free)
    ∙ sends_same m events past (All-tail (λ e. is_of_head e ≡ false) event events free)

book_same : (site : SiteFields) (m : ℕ) (events past : List Event) → All (λ event. is_of_head event ≡ false) events →
    event_book site m (events ++ past) ≡ event_book site m past
unfolding event_book
book_same site m [] past free = refl
book_same site m (event ∷ events) past free =
    none_booked site m (sends m (events ++ past)) event (event_book site m (events ++ past))
    (All-head (λ e. is_of_head e ≡ false) event events free)
    ∙ book_same site m events past (All-tail (λ e. is_of_head e ≡ false) event events free)

-- so the receivers run on
watch_runs : (plan : Plan) (clear : List (List ℕ)) (u : ℕ) (events past : List Event) →
    All (λ event. is_of_head event ≡ false) events →
    watch plan clear u (events ++ past)
    ≡ run u (count_sent plan clear (sends (length clear) past)) events (watch plan clear u past)
unfolding watch
watch_runs plan clear u [] past free = refl
watch_runs plan clear u (event ∷ events) past free =
    let rest = All-tail (λ e. is_of_head e ≡ false) event events free in
    ap (λ (k : ℕ). watch_after_event u (count_sent plan clear k) event (watch plan clear u (events ++ past)))
    (sends_same (length clear) events past rest)
    ∙ ap (watch_after_event u (count_sent plan clear (sends (length clear) past)) event)
    (watch_runs plan clear u events past rest)

-- at the head end's events they wait
head_waits : (u n : ℕ) (event : Event) (w : Watch) → is_of_head event ≡ true → watch_after_event u n event w ≡ w
head_waits u n (Subscribe v) w is = refl
head_waits u n (Revoke v) w is = refl
head_waits u n Send w is = refl
head_waits u n (Offer v) w is = absurd cc
head_waits u n (Lose v) w is = absurd cc
head_waits u n (Off v) w is = absurd cc
head_waits u n (On v) w is = absurd cc

watch_new : (plan : Plan) (clear : List (List ℕ)) (u : ℕ) (past : List Event) →
    All (λ event. is_of_head event ≡ true) past → watch plan clear u past ≡ at true 0 [] []
unfolding watch
watch_new plan clear u [] all = refl
watch_new plan clear u (event ∷ past) all =
    head_waits u (count_sent plan clear (sends (length clear) past)) event (watch plan clear u past)
    (All-head (λ e. is_of_head e ≡ true) event past all)
    ∙ watch_new plan clear u past (All-tail (λ e. is_of_head e ≡ true) event past all)

-- whatever happens, a receiver is offered a choice
pub choices_alone : (plan : Plan) (clear : Packets) (u : ℕ) (past : List Event) →
    IsChoice (count_sent plan clear (sends (length clear) past)) (times (watch plan clear u past))
unfolding times
choices_alone plan clear u past =
    let w : Watch = watch plan clear u past in record {
      some =
          let long = length-reverse (map reverse (w.now ∷ w.earlier)) in
          let many = length-map (w.now ∷ w.earlier) (λ (xs : List ℕ). reverse xs) in
          omega (arith, long, many);
      rising = times_rise plan clear u past;
      sent =
          all_below w.cursor (count_sent plan clear (sends (length clear) past)) (concat (times w))
          (cursor_within plan clear u past) (times_below plan clear u past);
    }

-- every choice of every receiver is made by events, after any of the head end
pub choices_made : (site : SiteFields) (clear : Packets) (past : List Event) (choice : ℕ → List (List ℕ)) →
    All (λ event. is_of_head event ≡ true) past →
    ((u : ℕ) → u < 2 ^ site.height →
    IsChoice (count_sent (plan_after site (length clear) past) clear (sends (length clear) past)) (choice u)) →
    (events : List Event) × All (λ event. is_of site.height event ≡ true) events
    × All (λ event. is_of_head event ≡ false) events
    × ((u : ℕ) → u < 2 ^ site.height →
    times (watch (plan_after site (length clear) (events ++ past)) clear u (events ++ past)) ≡ choice u)
choices_made site clear past choice all is =
    let k : ℕ = 2 ^ site.height in
    let m : ℕ = length clear in
    let events : List Event = all_events choice k in
    let free = all_no_head choice k in
    let n : ℕ = count_sent (plan_after site m past) clear (sends m past) in (
      events,
      all_of_tree site.height choice k (omega arith),
      free,
      λ u low.
          ap (λ (book : List Command). times (watch (record { site = site; commands = book }) clear u (events ++ past)))
          (book_same site m events past free)
          ∙ (ap times (watch_runs (plan_after site m past) clear u events past free
          ∙ ap (run u n events) (watch_new (plan_after site m past) clear u past all))
          ∙ all_made u n choice k (is u low) low),
    )
