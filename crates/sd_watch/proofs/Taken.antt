-- What a watcher makes of a packet that its receiver is given.
use Rattle.std.proofs.Common.{arith, false, ◌≡◌, ℕ, ◌+◌, ◌-◌, ◌^◌, ◌<◌, [], ◌∷◌, refl, ap, sym, ◌∙◌, subst, length}
use Rattle.std.specs.Prelude.{reverse, Option, None, option_map}
use Rattle.sd_base.specs.Types.{Packet, Packets}
use Rattle.sd_message.specs.declared.stream_fault.StreamFault.{StreamFault}
use Rattle.sd_engine.specs.Stage.{SinkState, HasGrown, IsCutShort}
use Rattle.sd_spec.specs.declared.report.Report.{Report}
use Rattle.sd_spec.specs.declared.report.Tally.{Tally}
use Rattle.sd_spec.specs.Offered.{out_from}
use Rattle.sd_receive.specs.Session.{capped_count}
use Rattle.sd_receive.specs.Receiving.{HasReceived, IsSoundReceiver, receiver_does, Leaving, CutsBy, ended_at}
use Rattle.sd_receive.specs.declared.receiver.Receiver.{Receiver}
use Rattle.sd_watch.specs.Numbered.{stream_fault_at}
use Rattle.sd_watch.specs.Tallied.{tally_refuse}
use Rattle.sd_watch.specs.Taking.{report_on, NextOutcome, IsNextOf, taker_does, taker_stops}
use Rattle.sd_watch.specs.Watching.{watcher_card, IsWatchKept, IsWatcherReady, IsRecent}
use Rattle.sd_watch.specs.declared.watcher.Watcher.{Watcher}

-- the packets that counted are fewer than a receiver can count
countable : (past : Packets) (n : ℕ) (w : Watcher) → IsNextOf past n w → length past < 2 ^ 64 - 1
countable past n w next = let few = next.fewer in let low = next.number in omega (arith, few, low)

-- the receiver took the packet
pub grown_taken : (old new : SinkState) (from to : ℕ) (w : Watcher) (r : Receiver) (packet : Packet) (v : Watcher)
    (report : Option Report) (written : ℕ) → HasGrown old new from to (receiver_does w.receiver packet r) →
    w.receiver.ended.last ≡ None →
    ((past : Packets) → HasReceived past w.receiver →
    written ≡ capped_count (length (out_from (watcher_card w) [] (reverse past)))) →
    report ≡ option_map (report_on w.tally w.packets written) r.ended.last →
    ((past : Packets) (n : ℕ) → HasReceived (packet ∷ past) r → IsRecent past w.recent → w.packets ≡ n → n < 2 ^ 48 →
    IsWatchKept (packet ∷ past) (n + 1) w.tally v) →
    v.receiver.card ≡ r.card → HasGrown old new from to (taker_does w packet v report)
grown_taken old new from to w r packet v report written grown told wrote reported keeps same = record {
  bytes = grown.bytes;
  steps = grown.steps;
  says = λ past n tally kept next.
      let took = grown.says past kept.receiver (countable past n w next) in
      let told_of : report ≡ option_map (report_on tally n (capped_count
      (length (out_from (watcher_card w) [] (reverse past)))))
      (ended_at (watcher_card w) past packet None) =
      reported
      ∙ (ap (λ (t : Tally). option_map (report_on t w.packets written) r.ended.last) kept.tally_is
      ∙ (ap (λ (k : ℕ). option_map (report_on tally k written) r.ended.last) kept.packets_are
      ∙ (ap (λ (k : ℕ). option_map (report_on tally n k) r.ended.last) (wrote past kept.receiver)
      ∙ ap (option_map (report_on tally n (capped_count (length (out_from (watcher_card w) [] (reverse past))))))
      (took.ended ∙ ap (ended_at (watcher_card w) past packet) told)))) in
      let kept_then : IsWatchKept (packet ∷ past) (n + 1) tally v =
      subst (λ (t : Tally). IsWatchKept (packet ∷ past) (n + 1) t v) kept.tally_is
      (keeps past n took.after kept.recent kept.packets_are next.number) in
      record {
        outcome = subst (λ (fault : Option StreamFault).
            NextOutcome fault past n tally (watcher_card w) packet v report grown.bytes) (sym took.fault)
            (took.bytes_are, (told_of, kept_then));
        few = took.few;
        same = same ∙ took.same;
      };
  taken = grown.taken;
  room = grown.room;
  counted = grown.counted;
}

-- the receiver refused the packet
pub grown_refused : (old new : SinkState) (from to : ℕ) (w m v : Watcher) (packet : Packet) (fault : StreamFault) →
    HasGrown old new from to (Leaving w.receiver packet fault) →
    ((past : Packets) → HasReceived past w.receiver → HasReceived past m.receiver) → m.receiver.card ≡ w.receiver.card →
    m.recent ≡ w.recent → m.packets ≡ w.packets → m.tally ≡ w.tally →
    ((past : Packets) (n : ℕ) (tally : Tally) → IsWatchKept past n tally m → n < 2 ^ 48 →
    IsWatchKept past (n + 1) (tally_refuse tally (stream_fault_at n fault)) v) → v.receiver ≡ m.receiver →
    HasGrown old new from to (taker_does w packet v None)
grown_refused old new from to w m v packet fault grown stands card recent packets tally_same keeps same = record {
  bytes = grown.bytes;
  steps = grown.steps;
  says = λ past n tally kept next.
      let left = grown.says past kept.receiver (countable past n w next) next.calm in
      let was : IsWatchKept past n tally m = record {
        receiver = stands past kept.receiver;
        recent = subst (IsRecent past) (sym recent) kept.recent;
        packets_are = packets ∙ kept.packets_are;
        tally_is = tally_same ∙ kept.tally_is;
      } in
      record {
        outcome = subst (λ (f : Option StreamFault).
            NextOutcome f past n tally (watcher_card w) packet v None grown.bytes) (sym left.fault)
            (left.bytes_are, (refl, keeps past n tally was next.number));
        few = left.few;
        same = ap (λ (r : Receiver). r.card) same ∙ card;
      };
  taken = grown.taken;
  room = grown.room;
  counted = grown.counted;
}

-- a write failed
pub cut_taken : (old new : SinkState) (from to : ℕ) (w : Watcher) (packet : Packet) →
    IsCutShort old new (CutsBy false w.receiver packet from to) →
    IsCutShort old new (taker_stops w packet from to)
cut_taken old new from to w packet cut = record {
  bytes = cut.bytes;
  says = (
    cut.says.0,
    cut.says.1,
    λ past n tally kept next.
        let took = cut.says.3 past kept.receiver (countable past n w next) next.calm in
        record { fault = took.fault; bytes_are = took.bytes_are; few = took.few },
  );
  prefix = cut.prefix;
  short = cut.short;
  taken = cut.taken;
  room = cut.room;
}

-- a watcher whose receiver refused a packet may be given the next
pub ready_again : (w m v : Watcher) → IsWatcherReady w → IsSoundReceiver m.receiver → m.receiver.refusal ≡ None →
    m.receiver.ended.last ≡ w.receiver.ended.last → v.receiver ≡ m.receiver → IsWatcherReady v
ready_again w m v ready fit unrefused same is = record {
  fit = subst IsSoundReceiver (sym is) fit;
  unrefused = ap (λ (r : Receiver). r.refusal) is ∙ unrefused;
  told = ap (λ (r : Receiver). r.ended.last) is ∙ (same ∙ ready.told);
}
