-- What a receiver of a field writes.
use Rattle.std.proofs.Common.{◌≡◌, ℕ, ◌*◌, ◌<◌, ◌≤◌, ◌^◌, false, List, [], ◌∷◌, ◌++◌, map, length, get_or}
use Rattle.std.proofs.Common.{reverse, arith, sym, ap, subst, ◌∙◌, append-nil}
use Rattle.std.specs.Prelude.{All, Some, None, option_map, slice_get}
use Rattle.std.specs.List.{concat}
use Rattle.std.specs.List.Sorted.{IsStrictlyIncreasing}
use Rattle.std.proofs.lemmas.List.{length-map, length-take, reverse-append}
use Rattle.std.proofs.lemmas.List.Elements.{All-get_or, All-map, All-weaker}
use Rattle.std.proofs.lemmas.List.Folds.{concat-append}
use Rattle.std.proofs.lemmas.Option.{slice_get-map, slice_get_within, get_or_from_slice_get}
use Rattle.std.proofs.Math.Seq.{get_or-take}
use Rattle.sd_spec.specs.Plan.{Plan, IsPlan, period_of}
use Rattle.sd_spec.specs.Refused.{IsClear}
use Rattle.sd_spec.specs.Sent.{sent, body}
use Rattle.sd_spec.proofs.Bodies.{packets_many}
use Rattle.sd_law_broadcast.specs.Packets.{AreWholePackets}
use Rattle.sd_law_broadcast.specs.Synced.{IsSynced, AreSynced}
use Rattle.sd_law_broadcast.proofs.Joined.{joined_long}
use Rattle.sd_spec.specs.Offered.{break_from}
use Rattle.sd_law_losses.specs.Confirmed.{packet_at, packets_at, is_revoked_in}
use Rattle.sd_law_losses.proofs.Losses.{all_second}
use Rattle.sd_spec.specs.declared.event.Event.{Event}
use Rattle.sd_spec.specs.Book.{sends}
use Rattle.sd_spec.specs.Watch.{Watch, stream, watch, times, present, written}
use Rattle.sd_spec.proofs.Watching.{all_below, cursor_within, times_below, times_rise}
use Rattle.sd_law_field.specs.Times.{plan_card, clear_sent_in, confirmed_to_leaf}
use Rattle.sd_law_field.proofs.Rising.{Rises, increasing_rises, rises_increase, rises_second, rises_short}
use Rattle.sd_law_field.proofs.Streams.{stream_is}
use Rattle.sd_law_field.proofs.Entitled.{places_are_entitled}
use Rattle.sd_law_field.proofs.OneTime.{none_refused}
use Rattle.sd_law_field.proofs.AllTimes as all

-- as many packets as things are sent
body_long : (plan : Plan) (clear : List (List ℕ)) → length (body plan clear) ≡ length (sent plan clear)
unfolding body
body_long plan clear = packets_many plan.site [] (sent plan clear)

-- what a receiver was offered was sent
offered_within : (plan : Plan) (clear : List (List ℕ)) (u : ℕ) (past : List Event) → IsPlan plan →
    IsClear plan.site (clear_sent_in clear past) → AreWholePackets (clear_sent_in clear past) →
    AreSynced (clear_sent_in clear past) →
    All (λ i. i < length (sent plan (clear_sent_in clear past))) (concat (times (watch plan clear u past)))
offered_within plan clear u past is fit whole synced =
    let w : Watch = watch plan clear u past in
    let passed = cursor_within plan clear u past in
    let same : length (stream plan (clear_sent_in clear past)) ≡ length (sent plan (clear_sent_in clear past)) =
    ap length (stream_is plan (clear_sent_in clear past) is fit whole synced) ∙ body_long plan
    (clear_sent_in clear past) in
    all_below w.cursor (length (sent plan (clear_sent_in clear past))) (concat (times w)) (omega (arith, passed, same))
    (times_below plan clear u past)

offered_rise : (plan : Plan) (clear : List (List ℕ)) (u : ℕ) (past : List Event) →
    Rises 0 (concat (times (watch plan clear u past)))
offered_rise plan clear u past =
    increasing_rises (concat (times (watch plan clear u past))) (times_rise plan clear u past)

-- what it writes is confirmed
pub written_is_confirmed : (plan : Plan) (clear : List (List ℕ)) (u : ℕ) (past : List Event) → IsPlan plan →
    IsClear plan.site (clear_sent_in clear past) → AreWholePackets (clear_sent_in clear past) →
    AreSynced (clear_sent_in clear past) →
    u < 2 ^ plan.site.height → written plan (plan_card plan u) (clear_sent_in clear past) (watch plan clear u past)
    ≡ packets_at (clear_sent_in clear past) (confirmed_to_leaf plan u (clear_sent_in clear past)
    (watch plan clear u past))
unfolding written confirmed_to_leaf
written_is_confirmed plan clear u past is fit whole synced leaf =
    all.times_write plan (clear_sent_in clear past) u is fit whole synced leaf (times (watch plan clear u past))
    (offered_rise plan clear u past) (offered_within plan clear u past is fit whole synced)

-- the places rise
confirmed_rise : (plan : Plan) (clear : List (List ℕ)) (u : ℕ) (past : List Event) →
    Rises 0 (confirmed_to_leaf plan u (clear_sent_in clear past) (watch plan clear u past))
unfolding confirmed_to_leaf
confirmed_rise plan clear u past =
    all.places_rise plan (clear_sent_in clear past) u (times (watch plan clear u past)) (offered_rise plan clear u past)

pub places_rise : (plan : Plan) (clear : List (List ℕ)) (u : ℕ) (past : List Event) → IsPlan plan →
    IsClear plan.site (clear_sent_in clear past) → AreWholePackets (clear_sent_in clear past) →
    AreSynced (clear_sent_in clear past) →
    u < 2 ^ plan.site.height →
    IsStrictlyIncreasing (confirmed_to_leaf plan u (clear_sent_in clear past) (watch plan clear u past))
places_rise plan clear u past is fit whole synced leaf =
    rises_increase 0 (confirmed_to_leaf plan u (clear_sent_in clear past) (watch plan clear u past))
    (confirmed_rise plan clear u past)

-- they were sent
confirmed_inside : (plan : Plan) (clear : List (List ℕ)) (u : ℕ) (past : List Event) →
    All (λ j. j < length (clear_sent_in clear past)) (confirmed_to_leaf plan u (clear_sent_in clear past)
    (watch plan clear u past))
unfolding confirmed_to_leaf
confirmed_inside plan clear u past =
    all.each_time plan (clear_sent_in clear past) u (λ j. j < length (clear_sent_in clear past))
    (all.places_inside plan (clear_sent_in clear past) u) (times (watch plan clear u past))

pub places_are_sent : (plan : Plan) (clear : List (List ℕ)) (u : ℕ) (past : List Event) → IsPlan plan →
    IsClear plan.site (clear_sent_in clear past) → AreWholePackets (clear_sent_in clear past) →
    AreSynced (clear_sent_in clear past) →
    u < 2 ^ plan.site.height → All (λ j. j < length (clear_sent_in clear past))
    (confirmed_to_leaf plan u (clear_sent_in clear past) (watch plan clear u past))
places_are_sent plan clear u past is fit whole synced leaf = confirmed_inside plan clear u past

-- and are of periods in which the leaf isn't revoked
pub places_entitled : (plan : Plan) (clear : List (List ℕ)) (u : ℕ) (past : List Event) → IsPlan plan →
    IsClear plan.site (clear_sent_in clear past) → AreWholePackets (clear_sent_in clear past) →
    AreSynced (clear_sent_in clear past) →
    u < 2 ^ plan.site.height → All (λ j. is_revoked_in plan u (period_of plan j) ≡ false)
    (confirmed_to_leaf plan u (clear_sent_in clear past) (watch plan clear u past))
unfolding confirmed_to_leaf
places_entitled plan clear u past is fit whole synced leaf =
    all.each_time plan (clear_sent_in clear past) u (λ j. is_revoked_in plan u (period_of plan j) ≡ false)
    (λ xs. places_are_entitled plan (clear_sent_in clear past) u xs is leaf) (times (watch plan clear u past))

-- what it writes for a place is the clear packet
pub written_for : (plan : Plan) (clear : List (List ℕ)) (u i j : ℕ) (past : List Event) → IsPlan plan →
    IsClear plan.site (clear_sent_in clear past) → AreWholePackets (clear_sent_in clear past) →
    AreSynced (clear_sent_in clear past) →
    u < 2 ^ plan.site.height →
    slice_get (confirmed_to_leaf plan u (clear_sent_in clear past) (watch plan clear u past)) i ≡ Some j →
    slice_get (written plan (plan_card plan u) (clear_sent_in clear past) (watch plan clear u past)) i
    ≡ Some (get_or clear j [])
written_for plan clear u i j past is fit whole synced leaf at =
    let places : List ℕ = confirmed_to_leaf plan u (clear_sent_in clear past) (watch plan clear u past) in
    let here = All-get_or (λ x. x < length (clear_sent_in clear past)) places i 0 (slice_get_within places i j at)
    (confirmed_inside plan clear u past) in
    let same = get_or_from_slice_get places i j 0 at in
    let long = length-take (sends (length clear) past) clear in
    let within : j < sends (length clear) past = omega (arith, here, same, long) in
    ap (λ (packets : List (List ℕ)). slice_get packets i)
    (written_is_confirmed plan clear u past is fit whole synced leaf)
    ∙ (slice_get-map (packet_at (clear_sent_in clear past)) places i
    ∙ (ap (option_map (packet_at (clear_sent_in clear past))) at
    ∙ ap (λ (packet : List ℕ). Some packet) (get_or-take (sends (length clear) past) clear j [] within)))

pub one_packet : (plan : Plan) (clear : List (List ℕ)) (u v i k j : ℕ) (past other : List Event) → IsPlan plan →
    IsClear plan.site (clear_sent_in clear past) → AreWholePackets (clear_sent_in clear past) →
    AreSynced (clear_sent_in clear past) →
    IsClear plan.site (clear_sent_in clear other) → AreWholePackets (clear_sent_in clear other) →
    AreSynced (clear_sent_in clear other) →
    u < 2 ^ plan.site.height → v < 2 ^ plan.site.height →
    slice_get (confirmed_to_leaf plan u (clear_sent_in clear past) (watch plan clear u past)) i ≡ Some j →
    slice_get (confirmed_to_leaf plan v (clear_sent_in clear other) (watch plan clear v other)) k ≡ Some j →
    slice_get (written plan (plan_card plan u) (clear_sent_in clear past) (watch plan clear u past)) i
    ≡ slice_get (written plan (plan_card plan v) (clear_sent_in clear other) (watch plan clear v other)) k
one_packet plan clear u v i k j past other is fit whole synced fits wholes syncs leaf other_leaf at there =
    written_for plan clear u i j past is fit whole synced leaf at
    ∙ sym (written_for plan clear v k j other is fits wholes syncs other_leaf there)

-- the present time comes last
last_time : (w : Watch) →
    concat (times w) ≡ concat (reverse (map reverse w.earlier)) ++ reverse w.now
unfolding times
last_time w =
    ap concat (reverse-append (reverse w.now ∷ []) (map reverse w.earlier))
    ∙ (concat-append (reverse (map reverse w.earlier)) (reverse w.now ∷ [])
    ∙ ap (λ (last : List ℕ). concat (reverse (map reverse w.earlier)) ++ last) (append-nil (reverse w.now)))

-- nothing is refused in it
pub present_unrefused : (plan : Plan) (clear : List (List ℕ)) (u : ℕ) (past : List Event) → IsPlan plan →
    IsClear plan.site (clear_sent_in clear past) → AreWholePackets (clear_sent_in clear past) →
    AreSynced (clear_sent_in clear past) →
    u < 2 ^ plan.site.height →
    break_from (plan_card plan u) [] (present plan (clear_sent_in clear past) (watch plan clear u past)) ≡ None
unfolding present
present_unrefused plan clear u past is fit whole synced leaf =
    let w : Watch = watch plan clear u past in
    let before : List ℕ = concat (reverse (map reverse w.earlier)) in
    none_refused plan (clear_sent_in clear past) u (reverse w.now) is fit whole synced leaf
    (rises_increase 0 (reverse w.now)
    (rises_second 0 before (reverse w.now) (subst (Rises 0) (last_time w) (offered_rise plan clear u past))))
    (all_second (λ i. i < length (sent plan (clear_sent_in clear past))) before (reverse w.now)
    (subst (All (λ i. i < length (sent plan (clear_sent_in clear past)))) (last_time w)
    (offered_within plan clear u past is fit whole synced)))

-- no more is written than was sent clear
places_few : (plan : Plan) (clear : List (List ℕ)) (u : ℕ) (past : List Event) →
    length (confirmed_to_leaf plan u (clear_sent_in clear past) (watch plan clear u past))
    ≤ length (clear_sent_in clear past)
places_few plan clear u past =
    let few = rises_short 0 (length (clear_sent_in clear past))
    (confirmed_to_leaf plan u (clear_sent_in clear past) (watch plan clear u past)) (confirmed_rise plan clear u past)
    (confirmed_inside plan clear u past) (omega arith) in
    omega (arith, few)

pub written_few : (plan : Plan) (clear : List (List ℕ)) (u : ℕ) (past : List Event) → IsPlan plan →
    IsClear plan.site (clear_sent_in clear past) → AreWholePackets (clear_sent_in clear past) →
    AreSynced (clear_sent_in clear past) →
    u < 2 ^ plan.site.height →
    length (written plan (plan_card plan u) (clear_sent_in clear past) (watch plan clear u past))
    ≤ length (clear_sent_in clear past)
written_few plan clear u past is fit whole synced leaf =
    let places : List ℕ = confirmed_to_leaf plan u (clear_sent_in clear past) (watch plan clear u past) in
    let same = ap length (written_is_confirmed plan clear u past is fit whole synced leaf) in
    let long = length-map places (packet_at (clear_sent_in clear past)) in
    let few = places_few plan clear u past in
    omega (arith, same, long, few)

pub written_short : (plan : Plan) (clear : List (List ℕ)) (u : ℕ) (past : List Event) → IsPlan plan →
    IsClear plan.site (clear_sent_in clear past) → AreWholePackets (clear_sent_in clear past) →
    AreSynced (clear_sent_in clear past) →
    u < 2 ^ plan.site.height →
    length (concat (written plan (plan_card plan u) (clear_sent_in clear past) (watch plan clear u past)))
    ≤ 188 * length (clear_sent_in clear past)
written_short plan clear u past is fit whole synced leaf =
    let places : List ℕ = confirmed_to_leaf plan u (clear_sent_in clear past) (watch plan clear u past) in
    let packets : List (List ℕ) = packets_at (clear_sent_in clear past) places in
    let same = ap (λ (ps : List (List ℕ)). length (concat ps))
    (written_is_confirmed plan clear u past is fit whole synced leaf) in
    let each : AreSynced packets =
    All-map IsSynced (packet_at (clear_sent_in clear past)) places
    (All-weaker (λ j. j < length (clear_sent_in clear past)) (λ j. IsSynced (packet_at (clear_sent_in clear past) j))
    (λ j within. All-get_or IsSynced (clear_sent_in clear past) j [] within synced) places
    (confirmed_inside plan clear u past)) in
    let bytes = joined_long packets each in
    let long = length-map places (packet_at (clear_sent_in clear past)) in
    let few = places_few plan clear u past in
    omega (arith, same, bytes, long, few)

pub written_has_room : (plan : Plan) (clear : List (List ℕ)) (u : ℕ) (past : List Event) → IsPlan plan →
    IsClear plan.site (clear_sent_in clear past) → AreWholePackets (clear_sent_in clear past) →
    AreSynced (clear_sent_in clear past) →
    u < 2 ^ plan.site.height →
    length (concat (written plan (plan_card plan u) (clear_sent_in clear past) (watch plan clear u past)))
    ≤ 188 * length clear
written_has_room plan clear u past is fit whole synced leaf =
    let short = written_short plan clear u past is fit whole synced leaf in
    let long = length-take (sends (length clear) past) clear in
    omega (arith, short, long)
