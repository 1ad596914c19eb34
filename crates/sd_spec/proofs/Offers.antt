-- What one event more makes a receiver write.
use Rattle.std.proofs.Common.{arith, ◌≡◌, ◌≢◌, ℕ, suc, ◌==◌, ◌<◌, ◌≤◌, List, [], ◌∷◌, ◌++◌, refl, ap, sym, ◌∙◌}
use Rattle.std.proofs.Common.{Bool, true, false, append-nil, append_assoc, length, take}
use Rattle.std.specs.Prelude.{◌&&◌, All, get_or, is_none, map, nat_lt, not, reverse, if◌then◌else◌, Option, Some, None}
use Rattle.std.specs.List.{concat, flat_map}
use Rattle.std.specs.Option.{option_map_or}
use Rattle.std.proofs.lemmas.Bool.Decides.{nat_tests}
use Rattle.std.proofs.lemmas.List.{reverse-append, length-take}
use Rattle.std.proofs.lemmas.List.Concat.{flat_map-append}
use Rattle.std.proofs.lemmas.List.Elements.{All-nil, All-cons, All-head, All-tail}
use Rattle.std.proofs.lemmas.List.Sorted.{All-permutation, IsPermutation-reverse}
use Rattle.sd_base.proofs.Lists.{last_out}
use Rattle.sd_site_cards.specs.SiteFields.{SiteFields, AreInRange}
use Rattle.sd_site_cards.specs.CardFields.{CardFields}
use Rattle.sd_engine.specs.Stream.{packets_of}
use Rattle.sd_spec.specs.Plan.{Plan}
use Rattle.sd_message.specs.declared.stream_fault.StreamFault.{StreamFault}
use Rattle.sd_spec.specs.Offered.{offered, out_from, break_from}
use Rattle.sd_spec.specs.declared.event.Event.{Event}
use Rattle.sd_spec.specs.declared.event.Event.TheVariants.{Offer, Lose, Off, On}
use Rattle.sd_spec.specs.Book.{sends, plan_after}
use Rattle.sd_spec.specs.Watch.{Watch, offered_to, passed_by, switched_off, switched_on, watch_after_event, stream}
use Rattle.sd_spec.specs.Watch.{count_sent}
use Rattle.sd_spec.specs.Watch.{watch, times, at_places, present, written}
use Rattle.sd_spec.proofs.Sends.{sends_up}
use Rattle.sd_spec.proofs.Agreeing.{what_was_sent_stays}
use Rattle.sd_spec.proofs.Streams.{streams_begin, places_stay, place_more}
use Rattle.sd_spec.proofs.Watching.{all_below, cursor_within, times_below, watch_fits}

-- packets before others
before_past : (packet : List ℕ) (packets past : List (List ℕ)) →
    reverse packets ++ packet ∷ past ≡ reverse (packet ∷ packets) ++ past
before_past packet packets past =
    sym (ap (λ (ps : List (List ℕ)). ps ++ past) (reverse-append (packet ∷ []) packets)
    ∙ append_assoc (reverse packets) (packet ∷ []) past)

-- the first packet, by whether it is refused
first_out : (fault rest : Option StreamFault) (wrote all some last : List (List ℕ)) →
    (fault ≡ None → all ≡ some ++ (if is_none rest then last else [])) →
    wrote ++ (if is_none fault then all else [])
    ≡ (wrote ++ (if is_none fault then some else []))
    ++ (if is_none (option_map_or Some fault rest) then last else [])
first_out None rest wrote all some last is =
    ap (λ (more : List (List ℕ)). wrote ++ more) (is refl)
    ∙ sym (append_assoc wrote some (if is_none rest then last else []))
first_out (Some why) rest wrote all some last is = sym (append-nil (wrote ++ []))

-- one packet more adds what it makes the receiver write, if none before it is refused
pub out_of_one_more : (card : CardFields) (past packets : List (List ℕ)) (packet : List ℕ) →
    out_from card past (packets ++ packet ∷ []) ≡ out_from card past packets
    ++ (if is_none (break_from card past packets) then (offered card (reverse packets ++ past) packet).wrote else [])
unfolding out_from break_from
out_of_one_more card past [] packet =
    last_out (offered card past packet).wrote (is_none (offered card past packet).fault)
out_of_one_more card past (first ∷ packets) packet =
    first_out (offered card past first).fault (break_from card (first ∷ past) packets) (offered card past first).wrote
    (out_from card (first ∷ past) (packets ++ packet ∷ [])) (out_from card (first ∷ past) packets)
    (offered card (reverse (first ∷ packets) ++ past) packet).wrote
    (λ calm. out_of_one_more card (first ∷ past) packets packet
    ∙ ap (λ (before : List (List ℕ)). out_from card (first ∷ past) packets
    ++ (if is_none (break_from card (first ∷ past) packets) then (offered card before packet).wrote else []))
    (before_past first packets past))

-- what was written in earlier times, and in the present one
pub written_parts : (plan : Plan) (card : CardFields) (clear : List (List ℕ)) (w : Watch) →
    written plan card clear w
    ≡ flat_map (λ places. out_from card [] (at_places [] (stream plan clear) places)) (reverse (map reverse w.earlier))
    ++ out_from card [] (present plan clear w)
unfolding written times present
written_parts plan card clear w =
    let out : List ℕ → List (List ℕ) = λ places. out_from card [] (at_places [] (stream plan clear) places) in
    ap (flat_map out) (reverse-append (reverse w.now ∷ []) (map reverse w.earlier))
    ∙ (flat_map-append out (reverse (map reverse w.earlier)) (reverse w.now ∷ [])
    ∙ ap (λ (last : List (List ℕ)). flat_map out (reverse (map reverse w.earlier)) ++ last)
    (append-nil (out (reverse w.now))))

-- a receiver that is on and has a packet left is offered it
pub heard_is : (u n : ℕ) (w : Watch) → w.on ≡ true → w.cursor < n → watch_after_event u n (Offer u) w
    ≡ record { on = w.on; cursor = suc w.cursor; now = w.cursor ∷ w.now; earlier = w.earlier }
heard_is u n w on left =
    let test : ((u == u) && nat_lt w.cursor n) ≡ true = grind (arith, nat_tests, left) in
    rw test (rw on refl)

-- with a packet more in the present time
present_more : (plan : Plan) (clear : List (List ℕ)) (w to : Watch) → to.now ≡ w.cursor ∷ w.now →
    present plan clear to ≡ present plan clear w ++ get_or (stream plan clear) w.cursor [] ∷ []
unfolding present
present_more plan clear w to is =
    ap (λ (now : List ℕ). at_places [] (stream plan clear) (reverse now)) is
    ∙ (ap (at_places [] (stream plan clear)) (reverse-append (w.cursor ∷ []) w.now)
    ∙ place_more [] (stream plan clear) (reverse w.now) w.cursor)

pub offer_is_present : (plan : Plan) (clear : List (List ℕ)) (u n : ℕ) (w : Watch) → w.on ≡ true → w.cursor < n →
    present plan clear (watch_after_event u n (Offer u) w)
    ≡ present plan clear w ++ get_or (stream plan clear) w.cursor [] ∷ []
offer_is_present plan clear u n w on left =
    present_more plan clear w (watch_after_event u n (Offer u) w) (ap (λ (to : Watch). to.now) (heard_is u n w on left))

-- what is written with a packet more, by whether one before it was refused
offer_writes : (plan : Plan) (card : CardFields) (clear : List (List ℕ)) (u n : ℕ) (w : Watch) → w.on ≡ true →
    w.cursor < n → written plan card clear (watch_after_event u n (Offer u) w) ≡ written plan card clear w
    ++ (if is_none (break_from card [] (present plan clear w))
    then (offered card (reverse (present plan clear w) ++ []) (get_or (stream plan clear) w.cursor [])).wrote
    else [])
offer_writes plan card clear u n w on left =
    let out : List ℕ → List (List ℕ) = λ places. out_from card [] (at_places [] (stream plan clear) places) in
    let to : Watch = watch_after_event u n (Offer u) w in
    let packet : List ℕ = get_or (stream plan clear) w.cursor [] in
    let past : List (List ℕ) = flat_map out (reverse (map reverse w.earlier)) in
    let more : List (List ℕ) =
    if is_none (break_from card [] (present plan clear w))
    then (offered card (reverse (present plan clear w) ++ []) packet).wrote
    else [] in
    written_parts plan card clear to
    ∙ (ap (λ (x : Watch). flat_map out (reverse (map reverse x.earlier)) ++ out_from card [] (present plan clear to))
    (heard_is u n w on left)
    ∙ (ap (λ (packets : List (List ℕ)). past ++ out_from card [] packets) (offer_is_present plan clear u n w on left)
    ∙ (ap (λ (wrote : List (List ℕ)). past ++ wrote) (out_of_one_more card [] (present plan clear w) packet)
    ∙ (sym (append_assoc past (out_from card [] (present plan clear w)) more)
    ∙ ap (λ (wrote : List (List ℕ)). wrote ++ more) (sym (written_parts plan card clear w))))))

-- if none was refused, it is what the packet makes the receiver write
pub offer_is_written : (plan : Plan) (card : CardFields) (clear : List (List ℕ)) (u n : ℕ) (w : Watch) → w.on ≡ true →
    w.cursor < n → break_from card [] (present plan clear w) ≡ None →
    written plan card clear (watch_after_event u n (Offer u) w) ≡ written plan card clear w
    ++ (offered card (reverse (present plan clear w)) (get_or (stream plan clear) w.cursor [])).wrote
offer_is_written plan card clear u n w on left calm =
    let packet : List ℕ = get_or (stream plan clear) w.cursor [] in
    offer_writes plan card clear u n w on left
    ∙ ap (λ (wrote : List (List ℕ)). written plan card clear w ++ wrote)
    (ap (λ (fault : Option StreamFault). if is_none fault
    then (offered card (reverse (present plan clear w) ++ []) packet).wrote else []) calm
    ∙ ap (λ (before : List (List ℕ)). (offered card before packet).wrote)
    (append-nil (reverse (present plan clear w))))

-- if one was refused, nothing
pub refused_writes_nothing : (plan : Plan) (card : CardFields) (clear : List (List ℕ)) (u n : ℕ) (w : Watch)
    (why : StreamFault) → w.on ≡ true → w.cursor < n → break_from card [] (present plan clear w) ≡ Some why →
    written plan card clear (watch_after_event u n (Offer u) w) ≡ written plan card clear w
refused_writes_nothing plan card clear u n w why on left broken =
    let packet : List ℕ = get_or (stream plan clear) w.cursor [] in
    offer_writes plan card clear u n w on left
    ∙ (ap (λ (fault : Option StreamFault). written plan card clear w ++ (if is_none fault
    then (offered card (reverse (present plan clear w) ++ []) packet).wrote else [])) broken
    ∙ append-nil (written plan card clear w))

-- the same was offered, in the same times
pub record SameTimes (w to : Watch) : Type 0 where
  pub now : to.now ≡ w.now
  pub earlier : to.earlier ≡ w.earlier

-- so the same is present, and written
same_present : (plan : Plan) (clear : List (List ℕ)) (w to : Watch) → SameTimes w to →
    present plan clear to ≡ present plan clear w
unfolding present
same_present plan clear w to same =
    ap (λ (now : List ℕ). at_places [] (stream plan clear) (reverse now)) same.now

same_written : (plan : Plan) (card : CardFields) (clear : List (List ℕ)) (w to : Watch) → SameTimes w to →
    written plan card clear to ≡ written plan card clear w
unfolding written times
same_written plan card clear w to same =
    let out : List ℕ → List (List ℕ) = λ places. out_from card [] (at_places [] (stream plan clear) places) in
    ap (λ (now : List ℕ). flat_map out (reverse (map reverse (now ∷ to.earlier)))) same.now
    ∙ ap (λ (earlier : List (List ℕ)). flat_map out (reverse (map reverse (w.now ∷ earlier)))) same.earlier

-- a packet that is lost is offered to none
lost_same : (u n v : ℕ) (w : Watch) → SameTimes w (watch_after_event u n (Lose v) w)
lost_same u n v w = by_test ((v == u) && nat_lt w.cursor n)
  where
    by_test : (b : Bool) → SameTimes w (if b then passed_by w else w)
    by_test true = record { now = refl; earlier = refl }
    by_test false = record { now = refl; earlier = refl }

-- nor is anything when a receiver is switched off
off_same : (u n v : ℕ) (w : Watch) → SameTimes w (watch_after_event u n (Off v) w)
off_same u n v w = by_test (v == u)
  where
    by_test : (b : Bool) → SameTimes w (if b then switched_off w else w)
    by_test true = record { now = refl; earlier = refl }
    by_test false = record { now = refl; earlier = refl }

-- nor a packet to one that is off
unheard_by : (on : Bool) (cursor : ℕ) (now : List ℕ) (earlier : List (List ℕ)) → on ≡ false →
    SameTimes (record { on = on; cursor = cursor; now = now; earlier = earlier })
    (offered_to (record { on = on; cursor = cursor; now = now; earlier = earlier }))
unheard_by true cursor now earlier off = absurd cc
unheard_by false cursor now earlier off = record { now = refl; earlier = refl }

unheard_same : (u n v : ℕ) (w : Watch) → w.on ≡ false → SameTimes w (watch_after_event u n (Offer v) w)
unheard_same u n v w off = by_test ((v == u) && nat_lt w.cursor n)
  where
    by_test : (b : Bool) → SameTimes w (if b then offered_to w else w)
    by_test true = unheard_by w.on w.cursor w.now w.earlier off
    by_test false = record { now = refl; earlier = refl }

-- so nothing is written at any of these
same_both : (plan : Plan) (card : CardFields) (clear : List (List ℕ)) (w to : Watch) → SameTimes w to →
    (present plan clear to ≡ present plan clear w) × (written plan card clear to ≡ written plan card clear w)
same_both plan card clear w to same = (same_present plan clear w to same, same_written plan card clear w to same)

pub lost_writes_nothing : (plan : Plan) (card : CardFields) (clear : List (List ℕ)) (u n v : ℕ) (w : Watch) →
    (present plan clear (watch_after_event u n (Lose v) w) ≡ present plan clear w)
    × (written plan card clear (watch_after_event u n (Lose v) w) ≡ written plan card clear w)
lost_writes_nothing plan card clear u n v w =
    same_both plan card clear w (watch_after_event u n (Lose v) w) (lost_same u n v w)

pub off_writes_nothing : (plan : Plan) (card : CardFields) (clear : List (List ℕ)) (u n v : ℕ) (w : Watch) →
    (present plan clear (watch_after_event u n (Off v) w) ≡ present plan clear w)
    × (written plan card clear (watch_after_event u n (Off v) w) ≡ written plan card clear w)
off_writes_nothing plan card clear u n v w =
    same_both plan card clear w (watch_after_event u n (Off v) w) (off_same u n v w)

pub unheard_writes_nothing : (plan : Plan) (card : CardFields) (clear : List (List ℕ)) (u n v : ℕ) (w : Watch) →
    w.on ≡ false → (present plan clear (watch_after_event u n (Offer v) w) ≡ present plan clear w)
    × (written plan card clear (watch_after_event u n (Offer v) w) ≡ written plan card clear w)
unheard_writes_nothing plan card clear u n v w off =
    same_both plan card clear w (watch_after_event u n (Offer v) w) (unheard_same u n v w off)

-- a receiver that is off is switched on as a new one
pub on_is : (u n : ℕ) (w : Watch) → w.on ≡ false → watch_after_event u n (On u) w ≡ switched_on w
on_is u n w off =
    let test : ((u == u) && not w.on) ≡ true = grind (arith, nat_tests, off) in rw test refl

pub new_is_offered_nothing : (plan : Plan) (clear : List (List ℕ)) (u n : ℕ) (w : Watch) → w.on ≡ false →
    present plan clear (watch_after_event u n (On u) w) ≡ []
unfolding present at_places
new_is_offered_nothing plan clear u n w off =
    ap (λ (to : Watch). map (λ i. get_or (stream plan clear) i []) (reverse to.now)) (on_is u n w off)

-- and has written nothing
pub switched_writes_nothing : (plan : Plan) (card : CardFields) (clear : List (List ℕ)) (w : Watch) →
    written plan card clear (switched_on w) ≡ written plan card clear w
unfolding written times present at_places out_from
switched_writes_nothing plan card clear w =
    written_parts plan card clear (switched_on w) ∙ append-nil (written plan card clear w)

pub new_writes_nothing : (plan : Plan) (card : CardFields) (clear : List (List ℕ)) (u n : ℕ) (w : Watch) →
    w.on ≡ false → written plan card clear (watch_after_event u n (On u) w) ≡ written plan card clear w
new_writes_nothing plan card clear u n w off =
    ap (written plan card clear) (on_is u n w off) ∙ switched_writes_nothing plan card clear w

-- nothing happens to a receiver at an event of another leaf
pub others_wait : (u n v : ℕ) (w : Watch) → v ≢ u →
    (watch_after_event u n (Offer v) w ≡ w) × (watch_after_event u n (Lose v) w ≡ w) ×
    (watch_after_event u n (Off v) w ≡ w)
    × (watch_after_event u n (On v) w ≡ w)
others_wait u n v w apart =
    let test : (v == u) ≡ false = grind (arith, nat_tests, apart) in
    (rw test refl, rw test refl, rw test refl, rw test refl)

-- what holds of two lists holds of the first, and of the second
all_first : (n : ℕ) (xs ys : List ℕ) → All (λ i. i < n) (xs ++ ys) → All (λ i. i < n) xs
all_first n [] ys all = All-nil (λ i. i < n)
all_first n (x ∷ xs) ys all =
    All-cons (λ i. i < n) x xs (All-head (λ i. i < n) x (xs ++ ys) all)
    (all_first n xs ys (All-tail (λ i. i < n) x (xs ++ ys) all))

all_second : (n : ℕ) (xs ys : List ℕ) → All (λ i. i < n) (xs ++ ys) → All (λ i. i < n) ys
all_second n [] ys all = all
all_second n (x ∷ xs) ys all = all_second n xs ys (All-tail (λ i. i < n) x (xs ++ ys) all)

-- what is made of lists of numbers below n is the same by what is the same for each such list
flat_stays : (n : ℕ) (f g : List ℕ → List (List ℕ)) (xss : List (List ℕ)) → All (λ i. i < n) (concat xss) →
    ((xs : List ℕ) → All (λ i. i < n) xs → f xs ≡ g xs) → flat_map f xss ≡ flat_map g xss
flat_stays n f g [] all same = refl
flat_stays n f g (xs ∷ xss) all same =
    rw (same xs (all_first n xs (concat xss) all))
    (ap (λ (rest : List (List ℕ)). g xs ++ rest)
    (flat_stays n f g xss (all_second n xs (concat xss) all) same))

-- what is at places of what was sent stays if more is sent
at_stays : (plan : Plan) (clear : List (List ℕ)) (j k : ℕ) (places : List ℕ) → j ≤ k →
    All (λ i. i < count_sent plan clear j) places →
    at_places [] (stream plan (take k clear)) places ≡ at_places [] (stream plan (take j clear)) places
at_stays plan clear j k places below all =
    let (rest, is) = streams_begin plan clear j k below in
    ap (λ (packets : List (List ℕ)). at_places [] packets places) is
    ∙ places_stay [] (stream plan (take j clear)) rest places all

-- so what a receiver was offered stays if more is sent
pub present_stays : (plan : Plan) (clear : List (List ℕ)) (u : ℕ) (past : List Event) (k : ℕ) →
    sends (length clear) past ≤ k → present plan (take k clear) (watch plan clear u past)
    ≡ present plan (take (sends (length clear) past) clear) (watch plan clear u past)
unfolding present
present_stays plan clear u past k below =
    let j : ℕ = sends (length clear) past in
    let w : Watch = watch plan clear u past in
    let fits = watch_fits plan clear u past in
    let all = all_below w.cursor (count_sent plan clear j) w.now fits.cursor
    (all_first w.cursor w.now (concat w.earlier) fits.below) in
    at_stays plan clear j k (reverse w.now) below
    (All-permutation (λ i. i < count_sent plan clear j) w.now (reverse w.now) (IsPermutation-reverse w.now) all)

-- and what it wrote
pub written_stays : (plan : Plan) (card : CardFields) (clear : List (List ℕ)) (u : ℕ) (past : List Event) (k : ℕ) →
    sends (length clear) past ≤ k → written plan card (take k clear) (watch plan clear u past)
    ≡ written plan card (take (sends (length clear) past) clear) (watch plan clear u past)
unfolding written
written_stays plan card clear u past k below =
    let j : ℕ = sends (length clear) past in
    let w : Watch = watch plan clear u past in
    let all = all_below w.cursor (count_sent plan clear j) (concat (times w)) (cursor_within plan clear u past)
    (times_below plan clear u past) in
    flat_stays (count_sent plan clear j)
    (λ places. out_from card [] (at_places [] (stream plan (take k clear)) places))
    (λ places. out_from card [] (at_places [] (stream plan (take j clear)) places)) (times w) all
    (λ places inside. ap (out_from card []) (at_stays plan clear j k places below inside))

-- receivers are alike if as many packets are sent
watches_agree : (a b : Plan) (clear : List (List ℕ)) (u most : ℕ) (past : List Event) →
    ((k : ℕ) → k ≤ most → stream a (take k clear) ≡ stream b (take k clear)) → sends (length clear) past ≤ most →
    watch a clear u past ≡ watch b clear u past
unfolding watch sends
watches_agree a b clear u most [] same within = refl
watches_agree a b clear u most (event ∷ past) same within =
    let k : ℕ = sends (length clear) past in
    let below : k ≤ most = omega (arith, within, sends_up (length clear) k event) in
    ap (λ (n : ℕ). watch_after_event u n event (watch a clear u past)) (ap length (same k below))
    ∙ ap (watch_after_event u (count_sent b clear k) event) (watches_agree a b clear u most past same below)

-- what was sent for the first packets depends on no later event
streams_agree : (site : SiteFields) (m : ℕ) (later past : List Event) (clear : List (List ℕ)) (k : ℕ) →
    AreInRange site → k ≤ sends m past →
    stream (plan_after site m (later ++ past)) (take k clear) ≡ stream (plan_after site m past) (take k clear)
unfolding stream
streams_agree site m later past clear k r below =
    let short = length-take k clear in
    ap (λ (packets : List (List ℕ)). packets_of (concat packets))
    (what_was_sent_stays site m later past (take k clear) r (omega (arith, below, short)))

-- nor does what a receiver was offered
pub watch_stays : (site : SiteFields) (later past : List Event) (clear : List (List ℕ)) (u : ℕ) → AreInRange site →
    watch (plan_after site (length clear) (later ++ past)) clear u past
    ≡ watch (plan_after site (length clear) past) clear u past
watch_stays site later past clear u r =
    watches_agree (plan_after site (length clear) (later ++ past)) (plan_after site (length clear) past) clear u
    (sends (length clear) past) past (λ k below. streams_agree site (length clear) later past clear k r below)
    (omega arith)

-- nor what it wrote
pub written_stays_later : (site : SiteFields) (later past : List Event) (card : CardFields) (clear : List (List ℕ))
    (u : ℕ) → AreInRange site →
    written (plan_after site (length clear) (later ++ past)) card (take (sends (length clear) past) clear)
    (watch (plan_after site (length clear) (later ++ past)) clear u past)
    ≡ written (plan_after site (length clear) past) card (take (sends (length clear) past) clear)
    (watch (plan_after site (length clear) past) clear u past)
unfolding written
written_stays_later site later past card clear u r =
    let m : ℕ = length clear in
    ap (λ (w : Watch). flat_map (λ places. out_from card [] (at_places []
    (stream (plan_after site m (later ++ past)) (take (sends m past) clear)) places)) (times w))
    (watch_stays site later past clear u r)
    ∙ ap (λ (packets : List (List ℕ)). flat_map (λ places. out_from card [] (at_places [] packets places))
    (times (watch (plan_after site m past) clear u past)))
    (streams_agree site m later past clear (sends m past) r (omega arith))
