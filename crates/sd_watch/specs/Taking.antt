-- Inner: what a watcher makes of one packet.
use Rattle.std.specs.Prelude.{◌≡◌, ℕ, ◌+◌, ◌^◌, ◌<◌, ◌≤◌, false, [], List, ◌∷◌, length, reverse, if◌then◌else◌}
use Rattle.std.specs.Prelude.{Option, Some, None, option_map}
use Rattle.std.specs.List.{concat}
use Rattle.sd_base.specs.Types.{Packet, Packets}
use Rattle.sd_site_cards.specs.CardFields.{CardFields}
use Rattle.sd_message.specs.declared.stream_fault.StreamFault.{StreamFault}
use Rattle.sd_spec.specs.declared.report.Report.{Report}
use Rattle.sd_spec.specs.declared.report.Tally.{Tally}
use Rattle.sd_spec.specs.Offered.{heard, offered, out_from}
use Rattle.sd_spec.specs.Counting.{is_marked, is_doubled, is_stray_at, holds_stray}
use Rattle.sd_receive.specs.Session.{capped_count}
use Rattle.sd_receive.specs.Receiving.{ended_at, steps_at}
use Rattle.sd_receive.specs.declared.receiver.ended.EndedRun.{EndedRun}
use Rattle.sd_watch.specs.Numbered.{stream_fault_at}
use Rattle.sd_watch.specs.Tallied.{tally_refuse}
use Rattle.sd_watch.specs.Watching.{watcher_card, IsWatchKept}
use Rattle.sd_watch.specs.declared.uncounted.Uncounted.{Uncounted}
use Rattle.sd_watch.specs.declared.uncounted.Uncounted.TheVariants.{Marked, Doubled, Odd}
use Rattle.sd_watch.specs.declared.watcher.Watcher.{Watcher}

-- why a packet doesn't count after these that counted, before the receiver takes it [this project, docs/FORMATS.md,
-- Receiver]
unfoldable pub uncounted_at : CardFields → Packets → Packet → Option Uncounted
uncounted_at card past packet =
    if is_marked packet then Some Marked
    else if is_doubled card past packet then Some Doubled
    else if is_stray_at card past packet then Some Odd
    else None

-- the report before a packet, if that ends a run
abbrev pub report_on : Tally → ℕ → ℕ → EndedRun → Report
report_on tally packets written ended =
    record { tally = tally; packets = packets; written = written; run = ended.run; ending = ended.ending }

-- the result of a packet that the receiver takes, or refuses for this cause
abbrev pub NextOutcome : Option StreamFault → Packets → ℕ → Tally → CardFields → Packet → Watcher → Option Report →
    List ℕ → Type 0
NextOutcome None past n tally card packet v report bytes =
    (bytes ≡ concat (offered card past packet).wrote)
    × ((report ≡ option_map (report_on tally n (capped_count (length (out_from card [] (reverse past)))))
    (ended_at card past packet None))
    × IsWatchKept (packet ∷ past) (n + 1) tally v)
NextOutcome (Some fault) past n tally card packet v report bytes =
    (bytes ≡ []) × ((report ≡ None) × IsWatchKept past (n + 1) (tally_refuse tally (stream_fault_at n fault)) v)

-- the result of a packet that the receiver is given
pub record TakesNext (past : Packets) (n : ℕ) (tally : Tally) (w : Watcher) (packet : Packet) (v : Watcher)
    (report : Option Report) (bytes : List ℕ) (steps : ℕ) : Type 0 where
  pub outcome : NextOutcome (offered (watcher_card w) past packet).fault past n tally (watcher_card w) packet v report
      bytes
  pub few : steps ≤ steps_at (watcher_card w) past packet
  pub same : v.receiver.card ≡ w.receiver.card

-- a packet can be numbered after these, and nothing odd is buffered
pub record IsNextOf (past : Packets) (n : ℕ) (w : Watcher) : Type 0 where
  pub fewer : length past ≤ n
  pub number : n < 2 ^ 48
  pub calm : holds_stray (heard (watcher_card w) past) ≡ false

abbrev pub taker_does : Watcher → Packet → Watcher → Option Report → List ℕ → ℕ → Type 0
taker_does w packet v report bytes steps = (past : Packets) (n : ℕ) (tally : Tally) → IsWatchKept past n tally w →
    IsNextOf past n w → TakesNext past n tally w packet v report bytes steps

-- a write failed of a packet that the receiver takes
pub record StopsNext (past : Packets) (w : Watcher) (packet : Packet) (bytes : List ℕ) (steps : ℕ) : Type 0 where
  pub fault : (offered (watcher_card w) past packet).fault ≡ None
  pub bytes_are : bytes ≡ concat (offered (watcher_card w) past packet).wrote
  pub few : steps ≤ steps_at (watcher_card w) past packet

abbrev pub taker_stops : Watcher → Packet → ℕ → ℕ → List ℕ → Type 0
taker_stops w packet from to bytes = (steps : ℕ) × (to ≤ from + steps)
    × ((past : Packets) (n : ℕ) (tally : Tally) → IsWatchKept past n tally w → IsNextOf past n w →
    StopsNext past w packet bytes steps)
