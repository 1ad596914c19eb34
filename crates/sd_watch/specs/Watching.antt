-- Public meaning: what a watcher keeps, writes and tells of packets that may be damaged.
use Rattle.std.specs.Prelude.{◌≡◌, ℕ, ◌+◌, ◌*◌, ◌^◌, ◌<◌, ◌≤◌, true, List, [], ◌∷◌, ◌++◌, length, map, reverse, take}
use Rattle.std.specs.Prelude.{drop}
use Rattle.std.specs.Prelude.{filter, if◌then◌else◌, Option, Some, None}
use Rattle.std.specs.List.{concat}
use Rattle.sd_base.specs.Types.{Packet, Packets}
use Rattle.sd_site_cards.specs.CardFields.{CardFields}
use Rattle.sd_spec.specs.declared.report.Report.{Report}
use Rattle.sd_spec.specs.declared.report.Tally.{Tally}
use Rattle.sd_spec.specs.Offered.{offered}
use Rattle.sd_spec.specs.Counting.{most_again, is_scrambled_packet, counts, counting, tried_keys}
use Rattle.sd_spec.specs.Reports.{tally_from, report_of, turns_after}
use Rattle.sd_receive.specs.Receiving.{receiver_card, HasReceived, IsSoundReceiver}
use Rattle.sd_watch.specs.Tags.{packet_tag}
use Rattle.sd_watch.specs.declared.recent.Recent.{Recent}
use Rattle.sd_watch.specs.declared.watcher.Watcher.{Watcher}

-- The last 15 scrambled packets of these are kept, from the oldest one on and round to it. These have the newest first.
-- Each one's tag is kept too.
pub record IsRecent (past : Packets) (recent : Recent) : Type 0 where
  pub few : length recent.packets.items ≤ most_again
  pub begins : length recent.packets.items < most_again → recent.oldest ≡ 0
  pub last : drop recent.oldest recent.packets.items ++ take recent.oldest recent.packets.items
      ≡ reverse (take most_again (filter is_scrambled_packet past))
  pub tagged : take (length recent.packets.items) recent.tags ≡ map packet_tag recent.packets.items

-- what the watcher's card says
abbrev pub watcher_card : Watcher → CardFields
watcher_card watcher = receiver_card watcher.receiver

-- those of these packets that count, the newest first
abbrev pub counted_of : CardFields → Packets → Packets
counted_of card packets = reverse (counting card [] packets)

-- what is kept after packets of which these counted, the newest first: so many in all, and what is told of them
pub record IsWatchKept (past : Packets) (packets : ℕ) (tally : Tally) (watcher : Watcher) : Type 0 where
  pub receiver : HasReceived past watcher.receiver
  pub recent : IsRecent past watcher.recent
  pub packets_are : watcher.packets ≡ packets
  pub tally_is : watcher.tally ≡ tally

-- what is kept after these packets, in the order in which they were cut [this project, docs/FORMATS.md, Receiver]
abbrev pub IsWatching : Packets → Watcher → Type 0
IsWatching s watcher =
    IsWatchKept (counted_of (watcher_card watcher) s) (length s) (tally_from (watcher_card watcher) 0 [] s) watcher

-- one packet more can be numbered
abbrev pub IsNumberable : Packets → Type 0
IsNumberable s = length s < 2 ^ 48

-- a watcher may be given a packet: no write failed, and each run that ended was reported
pub record IsWatcherReady (watcher : Watcher) : Type 0 where
  pub fit : IsSoundReceiver watcher.receiver
  pub unrefused : watcher.receiver.refusal ≡ None
  pub told : watcher.receiver.ended.last ≡ None

-- the result of a packet after these: what is written, the report on those before it if it turns to another run, a
-- bound on the steps, and what is kept [this project, docs/FORMATS.md, Receiver]
pub record WatchesPacket (s : Packets) (w : Watcher) (packet : Packet) (v : Watcher) (report : Option Report)
    (bytes : List ℕ) (steps : ℕ) : Type 0 where
  pub bytes_are : bytes ≡ concat (if counts (watcher_card w) (counted_of (watcher_card w) s) packet
      then (offered (watcher_card w) (counted_of (watcher_card w) s) packet).wrote else [])
  pub turned : report ≡ (if turns_after (watcher_card w) s packet then Some (report_of (watcher_card w) s) else None)
  pub few : steps ≤ (watcher_card w).height * tried_keys (watcher_card w) (counted_of (watcher_card w) s) (packet ∷ [])
  pub after : IsWatching (s ++ packet ∷ []) v
  pub same : v.receiver.card ≡ w.receiver.card

-- a write failed: these bytes are what was to be written of a packet that counts
pub record StopsWatching (s : Packets) (w : Watcher) (packet : Packet) (bytes : List ℕ) (steps : ℕ) : Type 0 where
  pub counted : counts (watcher_card w) (counted_of (watcher_card w) s) packet ≡ true
  pub bytes_are : bytes ≡ concat (offered (watcher_card w) (counted_of (watcher_card w) s) packet).wrote
  pub few : steps ≤ (watcher_card w).height * tried_keys (watcher_card w) (counted_of (watcher_card w) s) (packet ∷ [])

-- a packet is watched, whatever packets led to what the watcher keeps
abbrev pub watcher_does : Watcher → Packet → Watcher → Option Report → List ℕ → ℕ → Type 0
watcher_does w packet v report bytes steps =
    (s : Packets) → IsWatching s w → IsNumberable s → WatchesPacket s w packet v report bytes steps

-- a packet's write fails, whatever packets led to what the watcher keeps, and at most so many steps were counted
abbrev pub watcher_stops : Watcher → Packet → ℕ → ℕ → List ℕ → Type 0
watcher_stops w packet from to bytes = (steps : ℕ) × (to ≤ from + steps)
    × ((s : Packets) → IsWatching s w → IsNumberable s → StopsWatching s w packet bytes steps)
