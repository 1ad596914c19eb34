-- Held packets written one after the other.
use Rattle.std.proofs.Common.{ℕ, zero, suc, ◌+◌, ◌<◌, ◌≤◌, ◌≡◌, List, [], ◌∷◌, ◌++◌, length, get_or, take, drop, map}
use Rattle.std.proofs.Common.{refl, sym, ap, subst, ◌∙◌, arith, append_assoc, append-nil, length-append}
use Rattle.std.specs.Prelude.{Some, None, Result, Ok, Err}
use Rattle.std.specs.List.{concat}
use Rattle.std.proofs.lemmas.List.{take_more, take_all, take-append-drop, drop_more, take-map, length-map, map-append}
use Rattle.std.proofs.lemmas.List.Folds.{concat-append}
use Rattle.sd_base.proofs.Lists.{concat_one}
use Rattle.sd_packet.specs.Header.{pid_of}
use Rattle.sd_engine.specs.Stage.{SinkState, TookBytes}
use Rattle.sd_engine.proofs.Chains.{took_none, took_more}
use Rattle.sd_message.specs.EcmParts.{Message}
use Rattle.sd_spec.specs.Confirmed.{Segment, WrittenPackets, then_segment_output, judged_packet, written_from, tracked}
use Rattle.sd_spec.specs.Confirmed.{is_confirmed}
use Rattle.sd_spec.specs.Confirmed.{unmarked}
use Rattle.sd_receive.specs.declared.buffer.BufferFault.TheVariants as Fault
use Rattle.sd_receive.specs.declared.buffer.release.Release.{Release}
use Rattle.sd_receive.specs.declared.buffer.tracked.HeldPacket.{HeldPacket}
use Rattle.sd_receive.specs.PacketBuffer.{held_pair, after_message}
use Rattle.sd_receive.specs.Tracking.{packets_in, HavePositionsLedTo, AreTracksKept}
use Rattle.sd_receive.specs.Writing.{HasStopped, WriteOutcome, holding_in, segment_in, segment_of, bare}
use Rattle.sd_receive.specs.Writing.{first_wrote}
use Rattle.sd_receive.specs.Writing.{ArePacketsWritten, HasPositionLedTo}
use Rattle.sd_receive.proofs.Sinks.{cut_after}
use Rattle.sd_receive.proofs.Tables.{led_further}
use Rattle.sd_receive.proofs.HoldKeeping.{pid_within}
use Rattle.sd_receive.proofs.HoldJudging.{packets_are}

-- what was written, and then more
joined : WrittenPackets → WrittenPackets → WrittenPackets
joined a b = record { packets = a.packets ++ b.packets; refused = b.refused }

then_calm : (r : Result (List (List ℕ)) ℕ) (a : WrittenPackets) → (then_segment_output r a).refused ≡ None →
    a.refused ≡ None
then_calm (Err n) a calm = absurd (cc calm)
then_calm (Ok ps) a calm = calm

then_joined : (r : Result (List (List ℕ)) ℕ) (a b : WrittenPackets) → (then_segment_output r a).refused ≡ None →
    then_segment_output r (joined a b) ≡ joined (then_segment_output r a) b
unfolding joined
then_joined (Err n) a b calm = absurd (cc calm)
then_joined (Ok ps) a b calm = ap (λ (xs : List (List ℕ)). record { packets = xs; refused = b.refused })
    (sym (append_assoc ps a.packets b.packets))

-- packets after others are written after them, where none of these is refused
in_turn : (s : Segment) (before : List (List ℕ)) (xs ys : List (ℕ × List ℕ)) →
    (written_from s before xs).refused ≡ None →
    written_from s before (xs ++ ys) ≡ joined (written_from s before xs)
    (written_from s (before ++ map (λ (e : ℕ × List ℕ). e.1) xs) ys)
unfolding written_from joined
in_turn s before [] ys calm = ap (λ (b : List (List ℕ)). written_from s b ys) (sym (append-nil before))
in_turn s before (x ∷ xs) ys calm =
    let rest = written_from s (before ++ x.1 ∷ []) xs in
    let there : (before ++ x.1 ∷ []) ++ map (λ (e : ℕ × List ℕ). e.1) xs ≡ before ++
    (x.1 ∷ map (λ (e : ℕ × List ℕ). e.1) xs) =
    append_assoc before (x.1 ∷ []) (map (λ (e : ℕ × List ℕ). e.1) xs) in
    ap (λ (w : WrittenPackets). then_segment_output (judged_packet s before x) w)
    (in_turn s (before ++ x.1 ∷ []) xs ys (then_calm (judged_packet s before x) rest calm)
    ∙ ap (λ (b : List (List ℕ)). joined rest (written_from s b ys)) there)
    ∙ then_joined (judged_packet s before x) rest (written_from s (before ++ (x.1 ∷ map (λ (e : ℕ × List ℕ). e.1) xs))
    ys) calm

-- the packets before one
pub before_in : Release → ℕ → List (List ℕ)
before_in c k = map (λ (e : ℕ × List ℕ). e.1) (take k (holding_in c).held)

entry_at : (c : Release) (k : ℕ) (d : HeldPacket) → k < length c.tracks.now.held.items →
    take (k + 1) (holding_in c).held ≡ take k (holding_in c).held ++ held_pair (get_or c.tracks.now.held.items k d) ∷ []
entry_at c k d within =
    let held = c.tracks.now.held.items in
    take-map held_pair (k + 1) held
    ∙ (ap (map held_pair) (take_more held k d within)
    ∙ (map-append held_pair (take k held) (get_or held k d ∷ [])
    ∙ ap (λ (es : List (ℕ × List ℕ)). es ++ held_pair (get_or held k d) ∷ []) (sym (take-map held_pair k held))))

mapped_at : (held : List HeldPacket) (k : ℕ) (d : HeldPacket) → k < length held →
    get_or (map held_pair held) k (held_pair (get_or held k d)) ≡ held_pair (get_or held k d)
mapped_at [] k d within = absurd (omega (arith, within))
mapped_at (h ∷ hs) zero d within = refl
mapped_at (h ∷ hs) (suc k) d within = mapped_at hs k d (omega (arith, within))

entry_found : (c : Release) (k : ℕ) (d : HeldPacket) → k < length c.tracks.now.held.items →
    get_or (holding_in c).held k (held_pair (get_or c.tracks.now.held.items k d)) ≡ held_pair
    (get_or c.tracks.now.held.items k d)
entry_found c k d within = mapped_at c.tracks.now.held.items k d within

-- one packet more
first_more : (c : Release) (k : ℕ) (d : HeldPacket) → k < length c.tracks.now.held.items →
    (first_wrote c k).refused ≡ None →
    first_wrote c (k + 1) ≡ joined (first_wrote c k)
    (then_segment_output (judged_packet (segment_in c) (before_in c k) (held_pair (get_or c.tracks.now.held.items k d)))
    (record { packets = []; refused = None }))
unfolding first_wrote written_from before_in
first_more c k d within calm =
    ap (λ (es : List (ℕ × List ℕ)). written_from (segment_in c) [] es) (entry_at c k d within)
    ∙ in_turn (segment_in c) [] (take k (holding_in c).held) (held_pair (get_or c.tracks.now.held.items k d) ∷ []) calm

-- all of them
all_first : (c : Release) (k : ℕ) → (first_wrote c k).refused ≡ None →
    written_from (segment_in c) [] (holding_in c).held ≡ joined (first_wrote c k)
    (written_from (segment_in c) (before_in c k) (drop k (holding_in c).held))
unfolding first_wrote before_in
all_first c k calm =
    ap (λ (es : List (ℕ × List ℕ)). written_from (segment_in c) [] es) (sym (take-append-drop k (holding_in c).held))
    ∙ in_turn (segment_in c) [] (take k (holding_in c).held) (drop k (holding_in c).held) calm

pub written_none : (c : Release) (u : SinkState) → ArePacketsWritten c 0 u u 0
unfolding first_wrote written_from
written_none c u = record { calm = refl; counted = refl; took = took_none u }

step_by : (c : Release) (k : ℕ) (ps : List (List ℕ)) (d : HeldPacket) → k < length c.tracks.now.held.items →
    (first_wrote c k).refused ≡ None →
    judged_packet (segment_in c) (before_in c k) (held_pair (get_or c.tracks.now.held.items k d)) ≡ Ok ps →
    first_wrote c (k + 1) ≡ record { packets = (first_wrote c k).packets ++ ps; refused = None }
unfolding joined
step_by c k ps d within calm is =
    first_more c k d within calm
    ∙ (ap (λ (r : Result (List (List ℕ)) ℕ). joined (first_wrote c k)
    (then_segment_output r (record { packets = []; refused = None }))) is
    ∙ ap (λ (xs : List (List ℕ)). record { packets = (first_wrote c k).packets ++ xs; refused = None }) (append-nil ps))

-- a packet of which nothing is written
pub written_still : (c : Release) (k : ℕ) (d : HeldPacket) (u v : SinkState) (n : ℕ) → k < length
    c.tracks.now.held.items →
    ArePacketsWritten c k u v n →
    judged_packet (segment_in c) (before_in c k) (held_pair (get_or c.tracks.now.held.items k d)) ≡ Ok [] →
    ArePacketsWritten c (k + 1) u v n
written_still c k d u v n within is far =
    let next : first_wrote c (k + 1) ≡ record { packets = (first_wrote c k).packets; refused = None } =
    step_by c k [] d within is.calm far ∙ ap (λ (xs : List (List ℕ)). record { packets = xs; refused = None })
    (append-nil (first_wrote c k).packets) in
    record {
      calm = ap (λ (w : WrittenPackets). w.refused) next;
      counted = is.counted ∙ sym (ap (λ (w : WrittenPackets). length w.packets) next);
      took = rw next is.took;
    }

-- a packet that is written
pub written_more : (c : Release) (k : ℕ) (d : HeldPacket) (p : List ℕ) (u v w : SinkState) (n : ℕ) →
    k < length c.tracks.now.held.items → ArePacketsWritten c k u v n →
    judged_packet (segment_in c) (before_in c k) (held_pair (get_or c.tracks.now.held.items k d)) ≡ Ok (p ∷ []) →
    TookBytes v w p →
    ArePacketsWritten c (k + 1) u w (n + 1)
written_more c k d p u v w n within is close took =
    let next = step_by c k (p ∷ []) d within is.calm close in
    let more : concat ((first_wrote c k).packets ++ p ∷ []) ≡ concat (first_wrote c k).packets ++ p =
    concat_one (first_wrote c k).packets p in
    record {
      calm = ap (λ (w : WrittenPackets). w.refused) next;
      counted = omega (
        arith,
        is.counted,
        ap (λ (w : WrittenPackets). length w.packets) next,
        length-append (first_wrote c k).packets (p ∷ []),
      );
      took = rw next (rw more (took_more u v w (concat (first_wrote c k).packets) p is.took took));
    }

-- all, where the next comes to this
all_by : (c : Release) (k : ℕ) (r : Result (List (List ℕ)) ℕ) (d : HeldPacket) → k < length c.tracks.now.held.items →
    (first_wrote c k).refused ≡ None →
    judged_packet (segment_in c) (before_in c k) (held_pair (get_or c.tracks.now.held.items k d)) ≡ r →
    (rest : WrittenPackets) × (written_from (segment_in c) [] (holding_in c).held ≡ joined (first_wrote c k)
    (then_segment_output r rest))
unfolding written_from
all_by c k r d within calm is =
    let held = c.tracks.now.held.items in
    let entry = held_pair (get_or held k d) in
    let long : k < length (holding_in c).held = omega (arith, within, length-map held held_pair) in
    let left : drop k (holding_in c).held ≡ entry ∷ drop (k + 1) (holding_in c).held =
    drop_more (holding_in c).held k entry long
    ∙ ap (λ (e : ℕ × List ℕ). e ∷ drop (k + 1) (holding_in c).held) (entry_found c k d within) in
    let rest = written_from (segment_in c) (before_in c k ++ entry.1 ∷ []) (drop (k + 1) (holding_in c).held) in (
      rest,
      all_first c k calm
          ∙ (ap (λ (es : List (ℕ × List ℕ)). joined (first_wrote c k) (written_from (segment_in c) (before_in c k) es))
          left
          ∙ ap (λ (q : Result (List (List ℕ)) ℕ). joined (first_wrote c k) (then_segment_output q rest)) is),
    )

-- a packet that is refused ends all
pub written_refused : (c : Release) (k m : ℕ) (d : HeldPacket) (u v : SinkState) (n : ℕ) →
    k < length c.tracks.now.held.items → ArePacketsWritten c k u v n →
    judged_packet (segment_in c) (before_in c k) (held_pair (get_or c.tracks.now.held.items k d)) ≡ Err m →
    WriteOutcome (written_from (segment_in c) [] (holding_in c).held) u v (Err (Fault.Parity m))
unfolding joined
written_refused c k m d u v n within is foreign =
    let all = all_by c k (Err m) d within is.calm foreign in
    let same : written_from (segment_in c) [] (holding_in c).held ≡ record {
      packets =
          (first_wrote c k).packets;
      refused = Some m;
    } =
    all.1 ∙ ap (λ (xs : List (List ℕ)). record { packets = xs; refused = Some m })
    (append-nil (first_wrote c k).packets) in
    rw same (refl, is.took)

-- and so does a write that fails
pub written_short : (c : Release) (k : ℕ) (d : HeldPacket) (p : List ℕ) (u v w : SinkState) (n : ℕ) →
    k < length c.tracks.now.held.items → ArePacketsWritten c k u v n →
    judged_packet (segment_in c) (before_in c k) (held_pair (get_or c.tracks.now.held.items k d)) ≡ Ok (p ∷ []) →
    HasStopped v w p →
    WriteOutcome (written_from (segment_in c) [] (holding_in c).held) u w (Err Fault.Write)
unfolding joined
written_short c k d p u v w n within is close stopped =
    let all = all_by c k (Ok (p ∷ [])) d within is.calm close in
    let bytes : concat ((first_wrote c k).packets ++ (p ∷ all.0.packets)) ≡ concat (first_wrote c k).packets ++
    (p ++ concat all.0.packets) =
    concat-append (first_wrote c k).packets (p ∷ all.0.packets) in
    rw all.1 (rw bytes (cut_after u v w (concat (first_wrote c k).packets) p (concat all.0.packets) is.took stopped))

-- at the end all is written
pub written_all : (c : Release) (k : ℕ) (u v : SinkState) (n : ℕ) → length c.tracks.now.held.items ≤ k →
    ArePacketsWritten c k u v n →
    WriteOutcome (written_from (segment_in c) [] (holding_in c).held) u v (Ok n)
unfolding first_wrote
written_all c k u v n end is =
    let all : take k (holding_in c).held ≡ (holding_in c).held =
    take_all k (holding_in c).held (omega (arith, end, length-map c.tracks.now.held.items held_pair)) in
    let s = segment_in c in
    let done : ((written_from s [] (take k (holding_in c).held)).refused ≡ None)
    × (n ≡ length (written_from s [] (take k (holding_in c).held)).packets)
    × TookBytes u v (concat (written_from s [] (take k (holding_in c).held)).packets) =
    (is.calm, is.counted, is.took) in
    rw all at done

-- a held packet has the position to which it led its PID after those before it
pub own_at : (c : Release) (k : ℕ) (d : HeldPacket) → k < length c.tracks.now.held.items →
    HavePositionsLedTo c.tracks.now.places.items c.tracks.now.held.items →
    HasPositionLedTo c (before_in c k) (get_or c.tracks.now.held.items k d)
unfolding before_in
own_at c k d within own =
    let held = c.tracks.now.held.items in
    let first : map (λ (e : ℕ × List ℕ). e.1) (take k (holding_in c).held) ≡ take k (packets_in held) =
    sym (take-map (λ (e : ℕ × List ℕ). e.1) k (holding_in c).held) ∙ ap (take k) (packets_are held) in
    let more : take (k + 1) (packets_in held) ≡ take k (packets_in held) ++ (get_or held k d).packet ∷ [] =
    take-map (λ (h : HeldPacket). h.packet) (k + 1) held
    ∙ (ap packets_in (take_more held k d within)
    ∙ (map-append (λ (h : HeldPacket). h.packet) (take k held) (get_or held k d ∷ [])
    ∙ ap (λ (ps : List (List ℕ)). ps ++ (get_or held k d).packet ∷ [])
    (sym (take-map (λ (h : HeldPacket). h.packet) k held)))) in
    record { position = rw first (rw (sym more) (own k d within)) }

-- so a packet at this place has
pub own_here : (c : Release) (k : ℕ) (h : HeldPacket) → k < length c.tracks.now.held.items →
    HavePositionsLedTo c.tracks.now.places.items c.tracks.now.held.items →
    h ≡ get_or c.tracks.now.held.items k h → HasPositionLedTo c (before_in c k) h
own_here c k h within own is = subst (λ (x : HeldPacket). HasPositionLedTo c (before_in c k) x) (sym is)
    (own_at c k h within own)

-- which is no further than all packets lead
pub own_within : (c : Release) (k : ℕ) (h : HeldPacket) → k < length c.tracks.now.held.items →
    AreTracksKept c.tracks.now →
    h ≡ get_or c.tracks.now.held.items k h → h.position ≤ get_or c.tracks.now.table.items (pid_of h.packet) 0
own_within c k h within kept is =
    let x = get_or c.tracks.now.held.items k h in
    let low : x.position ≤ get_or c.tracks.now.table.items (pid_of x.packet) 0 =
    omega (
      arith,
      kept.own k h within,
      led_further c.tracks.now.places.items (packets_in c.tracks.now.held.items) (k + 1) (pid_of x.packet),
      kept.tracked.at (pid_of x.packet) (pid_within x.packet),
    ) in
    subst (λ (y : HeldPacket). y.position ≤ get_or c.tracks.now.table.items (pid_of y.packet) 0) (sym is) low

-- what a packet at this place comes to
pub at_place : (c : Release) (k : ℕ) (h : HeldPacket) (r : Result (List (List ℕ)) ℕ) →
    h ≡ get_or c.tracks.now.held.items k h →
    judged_packet (segment_in c) (before_in c k) (h.number, h.packet) ≡ r →
    judged_packet (segment_in c) (before_in c k) (held_pair (get_or c.tracks.now.held.items k h)) ≡ r
at_place c k h r is j = subst (λ (x : HeldPacket). judged_packet (segment_in c) (before_in c k) (held_pair x) ≡ r) is j

-- one packet comes to the same between two messages that say no more than is asked of them
alike : (a b : Message) (word : List ℕ) (ca ecm : ℕ) (packets before : List (List ℕ)) (e : ℕ × List ℕ) →
    judged_packet (record {
      first = bare a.word a.places;
      last = bare 0 b.places;
      word = word;
      ca = ca;
      ecm = ecm;
      packets =
          packets;
    }) before e
    ≡ judged_packet (record { first = a; last = b; word = word; ca = ca; ecm = ecm; packets = packets }) before e
unfolding judged_packet tracked is_confirmed unmarked
alike a b word ca ecm packets before e = refl

all_alike : (a b : Message) (word : List ℕ) (ca ecm : ℕ) (packets before : List (List ℕ)) (es : List (ℕ × List ℕ)) →
    written_from (record {
      first = bare a.word a.places;
      last = bare 0 b.places;
      word = word;
      ca = ca;
      ecm =
          ecm;
      packets = packets;
    }) before es
    ≡ written_from (record { first = a; last = b; word = word; ca = ca; ecm = ecm; packets = packets }) before es
unfolding written_from
all_alike a b word ca ecm packets before [] = refl
all_alike a b word ca ecm packets before (e ∷ es) =
    let s : Segment = record {
      first = bare a.word a.places;
      last = bare 0 b.places;
      word = word;
      ca = ca;
      ecm =
          ecm;
      packets = packets;
    } in
    let t : Segment = record { first = a; last = b; word = word; ca = ca; ecm = ecm; packets = packets } in
    ap (λ (r : Result (List (List ℕ)) ℕ). then_segment_output r (written_from s (before ++ e.1 ∷ []) es))
    (alike a b word ca ecm packets before e)
    ∙ ap (λ (w : WrittenPackets). then_segment_output (judged_packet t before e) w) (all_alike a b word ca ecm packets
    (before ++ e.1 ∷ []) es)

-- all packets do
pub between_messages : (a b : Message) (word : List ℕ) (ca ecm : ℕ) (held : List (ℕ × List ℕ)) →
    written_from (segment_of (after_message a word held) ca ecm b.places) [] held
    ≡ written_from (record {
      first = a;
      last = b;
      word = word;
      ca = ca;
      ecm = ecm;
      packets =
          map (λ (e : ℕ × List ℕ). e.1) held;
    }) [] held
unfolding segment_of
between_messages a b word ca ecm held = all_alike a b word ca ecm (map (λ (e : ℕ × List ℕ). e.1) held) [] held
