-- What comes of one packet that is watched.
use Rattle.std.proofs.Common.{◌≡◌, ◌<◌, ◌^◌, ◌∙◌, ℕ, Bool, true, false, List, [], ◌∷◌, length}
use Rattle.std.proofs.Common.{Option, Some}
use Rattle.std.proofs.Common.{None, unwrap_or, refl, sym, ap, subst, inl, inr, arith, append-nil}
use Rattle.std.specs.Prelude.{if◌then◌else◌}
use Rattle.std.specs.List.{concat}
use Rattle.std.specs.Io.KnownBytes.{Appends}
use Rattle.std.proofs.KnownBytes.{Appends-nil}
use Rattle.sd_base.specs.Types.{Packet, Packets}
use Rattle.sd_ports.specs.Bytes.{IsPrefix}
use Rattle.sd_engine.specs.Stage.{SinkState, HasGrown, IsCutShort}
use Rattle.sd_site_cards.specs.CardFields.{CardFields, card_fields_of}
use Rattle.sd_site_cards.specs.declared.card.Card.{Card}
use Rattle.sd_spec.specs.declared.report.Report.{Report}
use Rattle.sd_spec.specs.Offered.{offered}
use Rattle.sd_spec.specs.Counting.{counts}
use Rattle.sd_spec.specs.Reports.{report_of, turns_after}
use Rattle.sd_watch.specs.Watching.{watcher_card, counted_of, IsWatching, WatchesPacket, watcher_does}
use Rattle.sd_watch.specs.Watching.{watcher_stops}
use Rattle.sd_watch.specs.declared.watcher.Watcher.{Watcher}
use Rattle.sd_command_base.specs.declared.status.Status.{Status}
use Rattle.sd_command_base.specs.declared.status.Status.TheVariants.{Done, DepotFault}
use Rattle.sd_command_base.specs.Outside.{PageState}
use Rattle.sd_command_base.specs.Prints.{PrintsPiece}
use Rattle.sd_command_base.proofs.Turning.{all_prefix}
use Rattle.sd_run_broadcasts.specs.Watch.{watch_report_line}
use Rattle.sd_run_broadcasts.specs.Watched.{counted_out, line_before, WatchedPacketOutcome, passed, stopped, unprinted}
use Rattle.sd_run_broadcasts.specs.Watched.{IsWithinTries}
use Rattle.sd_run_broadcasts.proofs.WatchedMore.{one_out}

-- a report is told exactly if the packet turns
none_told : (turns : Bool) (report : Report) → None ≡ (if turns then Some report else None) → turns ≡ false
none_told true report is = cc
none_told false report is = refl

some_told : (turns : Bool) (told report : Report) → Some told ≡ (if turns then Some report else None) →
    (turns ≡ true) × (told ≡ report)
some_told true told report is = (refl, some_is is)
  where
    some_is : {x y : Report} → Some x ≡ Some y → x ≡ y
    some_is {x} e = ap (λ (o : Option Report). unwrap_or o x) e
some_told false told report is = cc

-- what was written of a packet
wrote_all : (s : Packets) (w v : Watcher) (packet : Packet) (report : Option Report) (bytes : List ℕ) (steps : ℕ) →
    WatchesPacket s w packet v report bytes steps →
    bytes ≡ concat (counted_out (watcher_card w) (counted_of (watcher_card w) s) (packet ∷ []))
wrote_all s w v packet report bytes steps h =
    h.bytes_are ∙ ap concat (sym (one_out (watcher_card w) (counted_of (watcher_card w) s) packet))

-- the card stays
card_stays : (w v : Watcher) → v.receiver.card ≡ w.receiver.card → watcher_card v ≡ watcher_card w
card_stays w v same = ap (λ (card : Card). card_fields_of card) same

-- a packet that doesn't turn
pub passes : (w v : Watcher) (packet : Packet) (old new : SinkState) (a : PageState) (from to skipped : ℕ) →
    HasGrown old new from to (watcher_does w packet v None) → (s : Packets) → IsWatching s w → length s < 2 ^ 48 →
    WatchedPacketOutcome (watcher_card w) s packet skipped old.held new.held a a v Done
passes w v packet old new a from to skipped grown s keeps low =
    let h = grown.says s keeps low in
    let stays = none_told (turns_after (watcher_card w) s packet) (report_of (watcher_card w) s) h.turned in
    passed refl h.after (card_stays w v h.same)
    (subst (Appends old.held new.held) (wrote_all s w v packet None grown.bytes grown.steps h) grown.taken)
    (rw stays (Appends-nil a.printed)) refl

-- a packet that turns, with its line
pub passes_told : (w v : Watcher) (packet : Packet) (report : Report) (old new : SinkState) (a b : PageState)
    (from to skipped : ℕ) (status : Status) → HasGrown old new from to (watcher_does w packet v (Some report)) →
    PrintsPiece (watch_report_line (watcher_card v).leaf skipped report) a b status →
    (s : Packets) → IsWatching s w → length s < 2 ^ 48 →
    WatchedPacketOutcome (watcher_card w) s packet skipped old.held new.held a b v status
passes_told w v packet report old new a b from to skipped status grown prints s keeps low =
    let h = grown.says s keeps low in
    let card = watcher_card w in
    let turned = some_told (turns_after card s packet) report (report_of card s) h.turned in
    let wrote : Appends old.held new.held (concat (counted_out card (counted_of card s) (packet ∷ []))) =
    subst (Appends old.held new.held) (wrote_all s w v packet (Some report) grown.bytes grown.steps h) grown.taken in
    let line : watch_report_line (watcher_card v).leaf skipped report ≡ concat (line_before card skipped s packet) =
    ap (λ (x : CardFields). watch_report_line x.leaf skipped report) (card_stays w v h.same)
    ∙ ap (λ (r : Report). watch_report_line card.leaf skipped r) turned.1
    ∙ rw turned.0 (sym (append-nil (watch_report_line card.leaf skipped (report_of card s)))) in
    by h wrote (subst (λ (xs : List ℕ). PrintsPiece xs a b status) line prints)
  where
    by : WatchesPacket s w packet v (Some report) grown.bytes grown.steps →
        Appends old.held new.held (concat (counted_out (watcher_card w) (counted_of (watcher_card w) s) (packet ∷ [])))
        →
        PrintsPiece (concat (line_before (watcher_card w) skipped s packet)) a b status →
        WatchedPacketOutcome (watcher_card w) s packet skipped old.held new.held a b v status
    by h wrote (inl (inl (done, printed, calm))) = passed done h.after (card_stays w v h.same) wrote printed calm
    by h wrote (inl (inr (fault, printed, rose))) =
        unprinted fault (all_prefix old.held new.held _ wrote) printed rose
    by h wrote (inr (memory, none)) = stopped (inl memory) (all_prefix old.held new.held _ wrote) none

-- a packet at which a write failed
pub stops : (w v : Watcher) (packet : Packet) (old new : SinkState) (a : PageState) (from to skipped : ℕ) →
    IsCutShort old new (watcher_stops w packet from to) → (s : Packets) → IsWatching s w → length s < 2 ^ 48 →
    WatchedPacketOutcome (watcher_card w) s packet skipped old.held new.held a a v DepotFault
stops w v packet old new a from to skipped cut s keeps low =
    let h = cut.says.2 s keeps low in
    let card = watcher_card w in
    let past = counted_of card s in
    let all : cut.bytes ≡ concat (counted_out card past (packet ∷ [])) =
    h.bytes_are ∙ ap concat (sym (one_out card past packet ∙ counted (counts card past packet) h.counted)) in
    stopped (inr refl) (cut.prefix, subst (IsPrefix cut.prefix) all cut.short, cut.taken) refl
  where
    counted : (b : Bool) → b ≡ true →
        (if b then (offered (watcher_card w) (counted_of (watcher_card w) s) packet).wrote else [])
        ≡ (offered (watcher_card w) (counted_of (watcher_card w) s) packet).wrote
    counted true is = refl
    counted false is = cc

-- the steps of a packet
pub passed_steps : (w v : Watcher) (packet : Packet) (report : Option Report) (old new : SinkState) (from to : ℕ) →
    HasGrown old new from to (watcher_does w packet v report) → (s : Packets) → IsWatching s w → length s < 2 ^ 48 →
    IsWithinTries (watcher_card w) s packet from to
passed_steps w v packet report old new from to grown s keeps low =
    let few = (grown.says s keeps low).few in
    let counted = grown.counted in
    omega (arith, few, counted)

pub stopped_steps : (w : Watcher) (packet : Packet) (old new : SinkState) (from to : ℕ) →
    IsCutShort old new (watcher_stops w packet from to) → (s : Packets) → IsWatching s w → length s < 2 ^ 48 →
    IsWithinTries (watcher_card w) s packet from to
stopped_steps w packet old new from to cut s keeps low =
    let few = (cut.says.2 s keeps low).few in
    let counted = cut.says.1 in
    omega (arith, few, counted)
