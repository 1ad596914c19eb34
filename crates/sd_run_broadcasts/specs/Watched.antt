-- Inner: how a stream is watched, from one packet to the next.
use Rattle.std.specs.Prelude.{◌≡◌, ◌⊎◌, ℕ, ◌+◌, ◌*◌, ◌^◌, ◌≤◌, Bool, true, false, List, [], ◌∷◌, ◌++◌, length, Option}
use Rattle.std.specs.Prelude.{if◌then◌else◌}
use Rattle.std.specs.List.{concat}
use Rattle.std.specs.Io.KnownBytes.{Appends, Consumes, IsAtEnd}
use Rattle.sd_base.specs.Count.{HasRisen}
use Rattle.sd_base.specs.Types.{Packet, Packets}
use Rattle.sd_ports.specs.Bytes.{AppendsPrefix}
use Rattle.sd_engine.specs.Cut.{readable}
use Rattle.sd_engine.specs.Seeking.{MayCome}
use Rattle.sd_engine.specs.Taken.{AreBytesLeft}
use Rattle.sd_engine.specs.declared.seeking.SeekFault.{SeekFault}
use Rattle.sd_engine.specs.declared.seeking.SeekFault.TheVariants as seek
use Rattle.sd_site_cards.specs.CardFields.{CardFields}
use Rattle.sd_spec.specs.Offered.{out_from}
use Rattle.sd_spec.specs.Counting.{counting, tried_keys}
use Rattle.sd_spec.specs.Reports.{report_of, turns_after, turned_reports}
use Rattle.sd_watch.specs.Watching.{watcher_card, counted_of, IsWatching}
use Rattle.sd_watch.specs.declared.watcher.Watcher.{Watcher}
use Rattle.sd_command_base.specs.declared.status.Status.{Status}
use Rattle.sd_command_base.specs.declared.status.Status.TheVariants.{Done, BadStream, DepotFault, PrintFault, NoMemory}
use Rattle.sd_command_base.specs.declared.stream_refusal.StreamRefusal.TheVariants.{TooLong}
use Rattle.sd_command_base.specs.Outside.{PageState}
use Rattle.sd_run_broadcasts.specs.Found.{HasFound}
use Rattle.sd_run_broadcasts.specs.Live.{Lived, is_outside}
use Rattle.sd_run_broadcasts.specs.Watch.{report_lines, watch_report_line, skipped_at, watched_lines, watched_of}
use Rattle.sd_run_broadcasts.specs.Watch.{watched_status}
use Rattle.sd_run_broadcasts.specs.Watch.{watched_steps}

-- what those of these packets that count write, after others, which have the newest first
abbrev pub counted_out : CardFields → Packets → Packets → Packets
counted_out card past s = out_from card past (counting card past s)

-- the lines before the turns of these packets, in a stream of these bytes
abbrev pub turned_lines : CardFields → List ℕ → Packets → List (List ℕ)
turned_lines card bytes s = report_lines card bytes (turned_reports card [] s)

-- the line before a packet, if it turns to another run: so many bytes before it are in no packet
abbrev pub line_before : CardFields → ℕ → Packets → Packet → List (List ℕ)
line_before card skipped s packet =
    if turns_after card s packet then watch_report_line card.leaf skipped (report_of card s) ∷ [] else []

-- the result of a packet after these: all that it writes was written, and its line printed; or memory was out for the
-- line, or a write failed; or printing failed
pub data WatchedPacketOutcome (card : CardFields) (s : Packets) (packet : Packet) (skipped : ℕ)
    (held held' : Option (List ℕ))
    (a b : PageState) (watcher : Watcher) (status : Status) : Type 0 where
  passed : status ≡ Done → IsWatching (s ++ packet ∷ []) watcher → watcher_card watcher ≡ card →
      Appends held held' (concat (counted_out card (counted_of card s) (packet ∷ []))) →
      Appends a.printed b.printed (concat (line_before card skipped s packet)) → b.faults ≡ a.faults →
      WatchedPacketOutcome card s packet skipped held held' a b watcher status
  stopped : (status ≡ NoMemory) ⊎ (status ≡ DepotFault) →
      AppendsPrefix held held' (concat (counted_out card (counted_of card s) (packet ∷ []))) → b ≡ a →
      WatchedPacketOutcome card s packet skipped held held' a b watcher status
  unprinted : status ≡ PrintFault →
      AppendsPrefix held held' (concat (counted_out card (counted_of card s) (packet ∷ []))) →
      AppendsPrefix a.printed b.printed (concat (line_before card skipped s packet)) → HasRisen a.faults b.faults →
      WatchedPacketOutcome card s packet skipped held held' a b watcher status

-- no more steps were counted at a packet after these than it takes
abbrev pub IsWithinTries : CardFields → Packets → Packet → ℕ → ℕ → Type 0
IsWithinTries card s packet from to = to ≤ from + card.height * tried_keys card (counted_of card s) (packet ∷ [])

-- how a stream ends in which nothing more is found for this cause
abbrev pub seek_stop_status : SeekFault → Status
seek_stop_status seek.Read = DepotFault
seek_stop_status seek.Write = DepotFault
seek_stop_status seek.TooLong = BadStream TooLong

-- so far: these bytes were read, and of these packets all that they write was written and their lines were printed
pub record IsUnderWay (card : CardFields) (left left' held held' : Option (List ℕ)) (a b : PageState) (from to : ℕ)
    (watcher : Watcher) (waiting : List ℕ) (ended : Bool) (skipped count : ℕ) : Type 0 where
  pub bytes : List ℕ
  pub packets : Packets
  pub pieces : List (List ℕ)
  pub read : Consumes left left' bytes
  pub end : ended ≡ true → IsAtEnd left'
  pub found : HasFound bytes packets waiting ended skipped
  pub counted : length packets ≡ count
  pub lines : (more : List ℕ) → MayCome ended more → turned_lines card (bytes ++ more) packets ≡ pieces
  pub keeps : IsWatching packets watcher
  pub same : watcher_card watcher ≡ card
  pub wrote : Appends held held' (concat (counted_out card [] packets))
  pub printed : Appends a.printed b.printed (concat pieces)
  pub calm : b.faults ≡ a.faults
  pub steps : to ≤ from + card.height * tried_keys card [] packets

-- what is known once a stream was read that the outside didn't stop: all its packets were watched
pub record KeepsAll (card : CardFields) (bytes : List ℕ) (watcher : Watcher) (skipped : ℕ) : Type 0 where
  pub keeps : IsWatching (readable bytes) watcher
  pub same : watcher_card watcher ≡ card
  pub skipped_is : skipped ≡ skipped_at bytes (length (readable bytes))
  pub few : length (readable bytes) ≤ 2 ^ 48

-- what a card opens of the rest of a stream was written, and the lines but the last one were printed, as far as the
-- ports went, within the steps
pub record WatchesLeft (card : CardFields) (left held held' : Option (List ℕ)) (a b : PageState) (from to : ℕ)
    (watcher : Watcher) (skipped : ℕ) (status : Status) : Type 0 where
  pub bytes : List ℕ
  pub is_left : AreBytesLeft left bytes
  pub lived : Lived (watched_of card bytes) (watched_lines card bytes) (turned_lines card bytes (readable bytes))
      (watched_status card bytes) held held' a b status
  pub steps : to ≤ from + watched_steps card bytes
  pub last : is_outside status ≡ false → KeepsAll card bytes watcher skipped
