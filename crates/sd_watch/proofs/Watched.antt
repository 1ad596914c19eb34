-- What a watcher keeps, writes and tells of packets with one more.
use Rattle.std.proofs.Common.{arith, ◌≡◌, ℕ, suc, ◌+◌, ◌-◌, ◌*◌, ◌^◌, ◌<◌, ◌≤◌, List, [], ◌∷◌, ◌++◌, refl, ap, sym, ◌∙◌}
use Rattle.std.proofs.Common.{Bool, true, false, subst, length, length-append}
use Rattle.std.specs.Prelude.{◌&&◌, ◌||◌, not, is_none, min, reverse, if◌then◌else◌, Option, Some, None, option_map}
use Rattle.std.specs.Prelude.{Result, Ok, Err, IfOk}
use Rattle.std.specs.List.{concat}
use Rattle.std.specs.Option.{option_or}
use Rattle.std.proofs.KnownBytes.{Appends-nil}
use Rattle.std.proofs.lemmas.List.{length-reverse, reverse-reverse}
use Rattle.sd_base.specs.Types.{Packet, Packets}
use Rattle.sd_site_cards.specs.CardFields.{CardFields, card_fields_of}
use Rattle.sd_message.specs.declared.stream_fault.StreamFault.{StreamFault}
use Rattle.sd_ports.specs.Rooms.{HasTaken}
use Rattle.sd_engine.specs.Stage.{SinkState, HasGrown, IsCutShort}
use Rattle.sd_spec.specs.declared.ending.Ending.{Ending}
use Rattle.sd_spec.specs.declared.report.Report.{Report}
use Rattle.sd_spec.specs.declared.report.Tally.{Tally}
use Rattle.sd_spec.specs.Tuned.{tuning_of}
use Rattle.sd_spec.specs.Runs.{run_name_in}
use Rattle.sd_spec.specs.Offered.{heard, offered, tuned_offering, out_from}
use Rattle.sd_spec.specs.Ending.{turns_at}
use Rattle.sd_spec.specs.Taken.{takes_key_at}
use Rattle.sd_spec.specs.Counting.{is_marked, is_doubled, is_stray_at, counts, counting, tried_keys}
use Rattle.sd_spec.specs.Reports.{run_end, tally_from, report_of, turns_after}
use Rattle.sd_receive.specs.Session.{capped_count}
use Rattle.sd_receive.specs.Receiving.{steps_at}
use Rattle.sd_receive.specs.declared.receiver.Receiver.{Receiver}
use Rattle.sd_watch.specs.Numbered.{stream_fault_at}
use Rattle.sd_watch.specs.Tallied.{tally_add, tally_refuse}
use Rattle.sd_watch.specs.Taking.{uncounted_at, report_on, NextOutcome, IsNextOf, taker_does}
use Rattle.sd_watch.specs.Taking.{taker_stops}
use Rattle.sd_watch.specs.Watching.{watcher_card, counted_of, IsWatchKept, IsWatching, IsNumberable, WatchesPacket}
use Rattle.sd_watch.specs.Watching.{watcher_does, watcher_stops}
use Rattle.sd_watch.specs.declared.uncounted.Uncounted.{Uncounted}
use Rattle.sd_watch.specs.declared.uncounted.Uncounted.TheVariants.{Marked, Doubled, Odd}
use Rattle.sd_watch.specs.declared.watcher.Watcher.{Watcher}
use Rattle.sd_watch.proofs.Counted.{counted_more}
use Rattle.sd_watch.proofs.Renumbered.{offered_at}
use Rattle.sd_watch.proofs.Strays.{nothing_odd}
use Rattle.sd_watch.proofs.Tallies.{IsLow, refused_last, last_by, with_last, tally_low, tally_more}

-- the reason for which a packet doesn't count, by the tests in their order
abbrev pub reason_by : Bool → Bool → Bool → Option Uncounted
reason_by m d o = if m then Some Marked else if d then Some Doubled else if o then Some Odd else None

-- the reason for which a packet doesn't count, if these are the tests
pub reason_is : (card : CardFields) (past : Packets) (packet : Packet) (m d o : Bool) → m ≡ is_marked packet →
    d ≡ is_doubled card past packet → o ≡ is_stray_at card past packet → reason_by m d o ≡ uncounted_at card past packet
unfolding uncounted_at
reason_is card past packet m d o marked doubled odd = rw (marked, doubled, odd) refl

-- a packet that doesn't count for a reason
not_counted : (m d o rest : Bool) (reason : Uncounted) → reason_by m d o ≡ Some reason →
    (not m && (not d && (not o && rest))) ≡ false
not_counted true d o rest reason is = refl
not_counted false true o rest reason is = refl
not_counted false false true rest reason is = refl
not_counted false false false rest reason is = absurd cc

pub reason_uncounts : (card : CardFields) (past : Packets) (packet : Packet) (reason : Uncounted) →
    uncounted_at card past packet ≡ Some reason → counts card past packet ≡ false
unfolding uncounted_at counts
reason_uncounts card past packet reason is =
    not_counted (is_marked packet) (is_doubled card past packet) (is_stray_at card past packet)
    (is_none (offered card past packet).fault) reason is

-- a packet that counts if it isn't refused
counted_by : (m d o rest : Bool) → reason_by m d o ≡ None → (not m && (not d && (not o && rest))) ≡ rest
counted_by true d o rest is = absurd cc
counted_by false true o rest is = absurd cc
counted_by false false true rest is = absurd cc
counted_by false false false rest is = refl

pub counts_if_good : (card : CardFields) (past : Packets) (packet : Packet) → uncounted_at card past packet ≡ None →
    counts card past packet ≡ is_none (offered card past packet).fault
unfolding uncounted_at counts
counts_if_good card past packet is =
    counted_by (is_marked packet) (is_doubled card past packet) (is_stray_at card past packet)
    (is_none (offered card past packet).fault) is

-- numbers below 2^48 don't stand still
one_more : (k most : ℕ) → k ≤ most → most < 2 ^ 48 → min (k + 1) (2 ^ 64 - 1) ≡ k + 1
one_more k most few low = omega (arith, few, low)

-- the tally with a packet that doesn't count for a reason
added_by : (m d o : Bool) (fault : Option StreamFault) (most : ℕ) (tally : Tally) (reason : Uncounted) →
    IsLow most tally → most < 2 ^ 48 → reason_by m d o ≡ Some reason →
    tally_add tally reason ≡ last_by m d o fault tally
added_by true d o fault most tally reason small low is =
    let e : Marked ≡ reason = cc in
    rw (sym e) (ap (λ (k : ℕ). record {
      marked = k;
      doubled = tally.doubled;
      odd = tally.odd;
      refused = tally.refused;
      first = tally.first;
    }) (one_more tally.marked most small.marked low))
added_by false true o fault most tally reason small low is =
    let e : Doubled ≡ reason = cc in
    rw (sym e) (ap (λ (k : ℕ). record {
      marked = tally.marked;
      doubled = k;
      odd = tally.odd;
      refused = tally.refused;
      first = tally.first;
    }) (one_more tally.doubled most small.doubled low))
added_by false false true fault most tally reason small low is =
    let e : Odd ≡ reason = cc in
    rw (sym e) (ap (λ (k : ℕ). record {
      marked = tally.marked;
      doubled = tally.doubled;
      odd = k;
      refused = tally.refused;
      first = tally.first;
    }) (one_more tally.odd most small.odd low))
added_by false false false fault most tally reason small low is = absurd cc

pub tally_added : (card : CardFields) (s : Packets) (packet : Packet) (reason : Uncounted) → IsNumberable s →
    uncounted_at card (counted_of card s) packet ≡ Some reason →
    tally_add (tally_from card 0 [] s) reason ≡ tally_from card 0 [] (s ++ packet ∷ [])
unfolding uncounted_at with_last
tally_added card s packet reason low is =
    let past = counted_of card s in
    added_by (is_marked packet) (is_doubled card past packet) (is_stray_at card past packet)
    (tuned_offering card (tuning_of card.ca past) (length s) (heard card past) packet).fault (length s)
    (tally_from card 0 [] s) reason (tally_low card 0 [] s) low is
    ∙ sym (tally_more card s packet)

-- the tally with a packet that is refused for this cause, or for none
last_if : (m d o : Bool) (fault : Option StreamFault) (tally : Tally) → reason_by m d o ≡ None →
    last_by m d o fault tally ≡ refused_last fault tally
last_if true d o fault tally is = absurd cc
last_if false true o fault tally is = absurd cc
last_if false false true fault tally is = absurd cc
last_if false false false fault tally is = refl

tally_last : (card : CardFields) (s : Packets) (packet : Packet) → uncounted_at card (counted_of card s) packet ≡ None →
    tally_from card 0 [] (s ++ packet ∷ []) ≡ refused_last
    (option_map (stream_fault_at (length s)) (offered card (counted_of card s) packet).fault) (tally_from card 0 [] s)
unfolding uncounted_at with_last
tally_last card s packet is =
    let past = counted_of card s in
    tally_more card s packet
    ∙ (last_if (is_marked packet) (is_doubled card past packet) (is_stray_at card past packet)
    (tuned_offering card (tuning_of card.ca past) (length s) (heard card past) packet).fault
    (tally_from card 0 [] s) is
    ∙ ap (λ (fault : Option StreamFault). refused_last fault (tally_from card 0 [] s))
    (offered_at card (length s) past packet))

refuse_is : (most : ℕ) (tally : Tally) (fault : StreamFault) → IsLow most tally → most < 2 ^ 48 →
    tally_refuse tally fault ≡ refused_last (Some fault) tally
refuse_is most tally fault small low =
    ap (λ (k : ℕ). record {
      marked = tally.marked;
      doubled = tally.doubled;
      odd = tally.odd;
      refused = k;
      first = option_or tally.first (Some fault);
    }) (one_more tally.refused most small.refused low)

-- what is kept after one packet more, by what is kept of it
pub watching_more : (card : CardFields) (s : Packets) (packet : Packet) (past : Packets) (tally : Tally) (v : Watcher) →
    watcher_card v ≡ card → counted_of card (s ++ packet ∷ []) ≡ past → tally_from card 0 [] (s ++ packet ∷ [])
    ≡ tally →
    IsWatchKept past (length s + 1) tally v → IsWatching (s ++ packet ∷ []) v
watching_more card s packet past tally v same is told kept =
    let long : length s + 1 ≡ length (s ++ packet ∷ []) =
    let joined = length-append s (packet ∷ []) in omega (arith, joined) in
    subst (λ (c : CardFields). IsWatchKept (counted_of c (s ++ packet ∷ [])) (length (s ++ packet ∷ []))
    (tally_from c 0 [] (s ++ packet ∷ [])) v) (sym same)
    (subst (λ (k : ℕ). IsWatchKept (counted_of card (s ++ packet ∷ [])) k (tally_from card 0 [] (s ++ packet ∷ [])) v)
    long
    (subst (λ (p : Packets). IsWatchKept p (length s + 1) (tally_from card 0 [] (s ++ packet ∷ [])) v) (sym is)
    (subst (λ (t : Tally). IsWatchKept past (length s + 1) t v) (sym told) kept)))

-- those that count with one packet more, if it doesn't count and if it does
past_no : (card : CardFields) (s : Packets) (packet : Packet) → counts card (counted_of card s) packet ≡ false →
    counted_of card (s ++ packet ∷ []) ≡ counted_of card s
past_no card s packet is = counted_more card s packet ∙ rw is refl

past_yes : (card : CardFields) (s : Packets) (packet : Packet) → counts card (counted_of card s) packet ≡ true →
    counted_of card (s ++ packet ∷ []) ≡ packet ∷ counted_of card s
past_yes card s packet is = counted_more card s packet ∙ rw is refl

-- a packet that doesn't count turns to no run
turned_no : (card : CardFields) (s : Packets) (packet : Packet) → counts card (counted_of card s) packet ≡ false →
    None ≡ (if turns_after card s packet then Some (report_of card s) else None)
unfolding turns_after
turned_no card s packet is = rw is refl

-- nothing was written, and no room was taken
taken_none : (room : Option ℕ) → HasTaken room room 0
taken_none None = tt
taken_none (Some room) = let none : room - 0 ≡ room = omega arith in (omega arith, ap (λ (k : ℕ). Some k) (sym none))

-- a packet that doesn't count for a reason
pub passed_watched : (state : SinkState) (from : ℕ) (w v : Watcher) (packet : Packet) (reason : Uncounted) →
    ((past : Packets) (n : ℕ) (tally : Tally) → IsWatchKept past n tally w →
    Some reason ≡ uncounted_at (watcher_card w) past packet) →
    ((past : Packets) (n : ℕ) (tally : Tally) → IsWatchKept past n tally w → n < 2 ^ 48 →
    IsWatchKept past (n + 1) (tally_add tally reason) v) → v.receiver ≡ w.receiver →
    HasGrown state state from from (watcher_does w packet v None)
passed_watched state from w v packet reason judged keeps same = record {
  bytes = [];
  steps = 0;
  says = λ s watching low.
      let card = watcher_card w in
      let past = counted_of card s in
      let is = sym (judged past (length s) (tally_from card 0 [] s) watching) in
      let uncounted = reason_uncounts card past packet reason is in
      record {
        bytes_are = rw uncounted refl;
        turned = turned_no card s packet uncounted;
        few = omega arith;
        after = watching_more card s packet past (tally_add (tally_from card 0 [] s) reason) v
            (ap (λ (r : Receiver). card_fields_of r.card) same) (past_no card s packet uncounted)
            (sym (tally_added card s packet reason low is))
            (keeps past (length s) (tally_from card 0 [] s) watching low);
        same = ap (λ (r : Receiver). r.card) same;
      };
  taken = Appends-nil state.held;
  room = taken_none state.room;
  counted = omega arith;
}

-- those that count are at most all
few_if : (b : Bool) (packet : Packet) (one other : Packets) (most : ℕ) → length one ≤ most → length other ≤ most →
    length (if b then packet ∷ one else other) ≤ suc most
few_if true packet one other most few fewer = omega (arith, few)
few_if false packet one other most few fewer = omega (arith, fewer)

few_count : (card : CardFields) (past s : Packets) → length (counting card past s) ≤ length s
unfolding counting
few_count card past [] = omega arith
few_count card past (packet ∷ s) =
    few_if (counts card past packet) packet (counting card (packet ∷ past) s) (counting card past s) (length s)
    (few_count card (packet ∷ past) s) (few_count card past s)

-- a packet can be numbered after these, and nothing odd is buffered
next_of : (s : Packets) (w : Watcher) → IsNumberable s → IsNextOf (counted_of (watcher_card w) s) (length s) w
next_of s w low =
    let all = length-reverse (counting (watcher_card w) [] s) in
    let few = few_count (watcher_card w) [] s in
    record { fewer = omega (arith, all, few); number = low; calm = nothing_odd (watcher_card w) s }

-- a key that is tried is one of those that are counted
steps_by : (m d o takes : Bool) (height steps : ℕ) → reason_by m d o ≡ None →
    steps ≤ (if takes then height else 0) →
    steps ≤ height * ((if (m || (d || o)) then 0 else if takes then 1 else 0) + 0)
steps_by true d o takes height steps is few = absurd cc
steps_by false true o takes height steps is few = absurd cc
steps_by false false true takes height steps is few = absurd cc
steps_by false false false true height steps is few = omega (arith, few)
steps_by false false false false height steps is few = omega (arith, few)

few_tried : (card : CardFields) (past : Packets) (packet : Packet) (steps : ℕ) → uncounted_at card past packet ≡ None →
    steps ≤ steps_at card past packet → steps ≤ card.height * tried_keys card past (packet ∷ [])
unfolding uncounted_at tried_keys
few_tried card past packet steps is few =
    steps_by (is_marked packet) (is_doubled card past packet) (is_stray_at card past packet)
    (takes_key_at card past packet) card.height steps is few

-- the report before a packet that turns to another run
report_if : (card : CardFields) (s : Packets) (turns : Bool) →
    option_map (report_on (tally_from card 0 [] s) (length s)
    (capped_count (length (out_from card [] (reverse (counted_of card s))))))
    (if turns then Some (record {
      run = run_name_in (heard card (counted_of card s));
      ending = run_end card (counted_of card s);
    }) else None)
    ≡ (if turns then Some (report_of card s) else None)
unfolding report_of
report_if card s true =
    ap (λ (ps : Packets). Some (report_on (tally_from card 0 [] s) (length s)
    (capped_count (length (out_from card [] ps)))
    (record { run = run_name_in (heard card (counted_of card s)); ending = run_end card (counted_of card s) })))
    (reverse-reverse (counting card [] s))
report_if card s false = refl

turns_if : (card : CardFields) (s : Packets) (packet : Packet) → counts card (counted_of card s) packet ≡ true →
    turns_after card s packet ≡ turns_at card (counted_of card s) packet
unfolding turns_after
turns_if card s packet is = rw is refl

-- the result of a packet that the receiver is given, by whether it refuses it
given : (s : Packets) (w v : Watcher) (packet : Packet) (report : Option Report) (bytes : List ℕ) (steps : ℕ)
    (fault : Option StreamFault) → IsNumberable s →
    uncounted_at (watcher_card w) (counted_of (watcher_card w) s) packet ≡ None →
    (offered (watcher_card w) (counted_of (watcher_card w) s) packet).fault ≡ fault →
    NextOutcome fault (counted_of (watcher_card w) s) (length s) (tally_from (watcher_card w) 0 [] s)
    (watcher_card w) packet v report
    bytes → steps ≤ steps_at (watcher_card w) (counted_of (watcher_card w) s) packet →
    v.receiver.card ≡ w.receiver.card →
    WatchesPacket s w packet v report bytes steps
given s w v packet report bytes steps None low is good outcome few same =
    let card = watcher_card w in
    let past = counted_of card s in
    let tally = tally_from card 0 [] s in
    let counted : counts card past packet ≡ true = counts_if_good card past packet is ∙ ap is_none good in
    record {
      bytes_are = outcome.0 ∙ ap (λ (b : Bool). concat (if b then (offered card past packet).wrote else []))
          (sym counted);
      turned = outcome.1.0 ∙ (report_if card s (turns_at card past packet)
          ∙ ap (λ (b : Bool). if b then Some (report_of card s) else None) (sym (turns_if card s packet counted)));
      few = few_tried card past packet steps is few;
      after = watching_more card s packet (packet ∷ past) tally v (ap card_fields_of same)
          (past_yes card s packet counted)
          (tally_last card s packet is
          ∙ ap (λ (fault : Option StreamFault). refused_last (option_map (stream_fault_at (length s)) fault) tally)
          good)
          outcome.1.1;
      same = same;
    }
given s w v packet report bytes steps (Some fault) low is bad outcome few same =
    let card = watcher_card w in
    let past = counted_of card s in
    let tally = tally_from card 0 [] s in
    let uncounted : counts card past packet ≡ false = counts_if_good card past packet is ∙ ap is_none bad in
    record {
      bytes_are = outcome.0 ∙ ap (λ (b : Bool). concat (if b then (offered card past packet).wrote else []))
          (sym uncounted);
      turned = outcome.1.0 ∙ turned_no card s packet uncounted;
      few = few_tried card past packet steps is few;
      after = watching_more card s packet past (tally_refuse tally (stream_fault_at (length s) fault)) v
          (ap card_fields_of same) (past_no card s packet uncounted)
          (tally_last card s packet is
          ∙ (ap (λ (fault : Option StreamFault). refused_last (option_map (stream_fault_at (length s)) fault) tally) bad
          ∙ sym (refuse_is (length s) tally (stream_fault_at (length s) fault) (tally_low card 0 [] s) low)))
          outcome.1.1;
      same = same;
    }

-- a packet that the receiver is given
pub taken_watched : (old new : SinkState) (from to : ℕ) (w v : Watcher) (packet : Packet) (report : Option Report) →
    ((past : Packets) (n : ℕ) (tally : Tally) → IsWatchKept past n tally w →
    None ≡ uncounted_at (watcher_card w) past packet) →
    HasGrown old new from to (taker_does w packet v report) →
    HasGrown old new from to (watcher_does w packet v report)
taken_watched old new from to w v packet report judged grown = record {
  bytes = grown.bytes;
  steps = grown.steps;
  says = λ s watching low.
      let card = watcher_card w in
      let past = counted_of card s in
      let tally = tally_from card 0 [] s in
      let took = grown.says past (length s) tally watching (next_of s w low) in
      given s w v packet report grown.bytes grown.steps (offered card past packet).fault low
      (sym (judged past (length s) tally watching)) refl took.outcome took.few took.same;
  taken = grown.taken;
  room = grown.room;
  counted = grown.counted;
}

pub taken_if_ok : {E : Type 0} (old new : SinkState) (from to : ℕ) (w v : Watcher) (packet : Packet)
    (result : Result (Option Report) E) →
    ((past : Packets) (n : ℕ) (tally : Tally) → IsWatchKept past n tally w →
    None ≡ uncounted_at (watcher_card w) past packet) →
    IfOk result (λ report. HasGrown old new from to (taker_does w packet v report)) →
    IfOk result (λ report. HasGrown old new from to (watcher_does w packet v report))
taken_if_ok old new from to w v packet (Ok report) judged grown =
    taken_watched old new from to w v packet report judged grown
taken_if_ok old new from to w v packet (Err fault) judged grown = grown

-- a write failed of a packet that the receiver is given
pub cut_watched : (old new : SinkState) (from to : ℕ) (w : Watcher) (packet : Packet) →
    ((past : Packets) (n : ℕ) (tally : Tally) → IsWatchKept past n tally w →
    None ≡ uncounted_at (watcher_card w) past packet) →
    IsCutShort old new (taker_stops w packet from to) → IsCutShort old new (watcher_stops w packet from to)
cut_watched old new from to w packet judged cut = record {
  bytes = cut.bytes;
  says = (
    cut.says.0,
    cut.says.1,
    λ s watching low.
        let card = watcher_card w in
        let past = counted_of card s in
        let tally = tally_from card 0 [] s in
        let is = sym (judged past (length s) tally watching) in
        let stopped = cut.says.2 past (length s) tally watching (next_of s w low) in
        record {
          counted = counts_if_good card past packet is ∙ ap is_none stopped.fault;
          bytes_are = stopped.bytes_are;
          few = few_tried card past packet cut.says.0 is stopped.few;
        },
  );
  prefix = cut.prefix;
  short = cut.short;
  taken = cut.taken;
  room = cut.room;
}

-- what a watcher tells of what it keeps
pub report_is : (s : Packets) (w : Watcher) (written : ℕ) (run : Option (Option ℕ)) (ending : Ending) →
    IsWatching s w →
    written ≡ capped_count (length (out_from (watcher_card w) [] (reverse (counted_of (watcher_card w) s)))) →
    run ≡ run_name_in (heard (watcher_card w) (counted_of (watcher_card w) s)) →
    ending ≡ run_end (watcher_card w) (counted_of (watcher_card w) s) →
    (record { tally = w.tally; packets = w.packets; written = written; run = run; ending = ending })
    ≡ report_of (watcher_card w) s
unfolding report_of
report_is s w written run ending watching wrote named ended =
    let card = watcher_card w in
    let all : written ≡ capped_count (length (out_from card [] (counting card [] s))) =
    wrote ∙ ap (λ (ps : Packets). capped_count (length (out_from card [] ps))) (reverse-reverse (counting card [] s)) in
    rw (all, named, ended, watching.tally_is, watching.packets_are) refl
