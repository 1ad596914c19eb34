-- The lines of the messages in a stream, packet by packet.
use Rattle.std.proofs.Common.{◌≡◌, ℕ, zero, suc, ◌+◌, ◌-◌, ◌^◌, ◌≤◌, List, [], ◌∷◌, ◌++◌, length, take}
use Rattle.std.proofs.Common.{append-nil}
use Rattle.std.proofs.Common.{append_assoc, Option, Some, None, Result, Ok, Err, refl, sym, ap, subst, ◌∙◌, arith, inl}
use Rattle.std.proofs.Common.{inr}
use Rattle.std.specs.Prelude.{slice_get, IsErrOf}
use Rattle.std.specs.List.{concat}
use Rattle.std.specs.Io.KnownBytes.{Appends}
use Rattle.std.proofs.KnownBytes.{Appends-trans}
use Rattle.sd_base.specs.Count.{IsCaused}
use Rattle.sd_base.specs.declared.memory.NoMemory.{NoMemory as OutOfMemory}
use Rattle.sd_base.proofs.Lists.{nothing_joined, same_held}
use Rattle.sd_ports.specs.Bytes.{IsPrefix, AppendsPrefix}
use Rattle.sd_ports.proofs.Starts.{prefix_of_prefix, after_first, nothing_after, pieces_first}
use Rattle.sd_engine.specs.Stage.{Chain}
use Rattle.sd_engine.specs.Driving.{DriveState, ChainToEnd, ChainToRefusal, IsAllowedAt, DriveOutcome}
use Rattle.sd_engine.specs.Taken.{packets_taken, CutAt, DriveOutcomeOver}
use Rattle.sd_engine.proofs.Taken.{any_prefix, is_over, few_taken, all_few}
use Rattle.sd_engine.specs.declared.driver.DriveFault.{DriveFault}
use Rattle.sd_engine.specs.declared.driver.DriveFault.TheVariants as drive
use Rattle.sd_site_cards.specs.SiteFields.{SiteFields}
use Rattle.sd_run_streams.specs.MessageLines.{message_line, message_lines}
use Rattle.sd_run_streams.specs.MonitorStaged.{IsBegun, monitor_does, monitor_ends, monitor_refuses}
use Rattle.sd_run_streams.specs.declared.monitor.Monitor.{Monitor}
use Rattle.sd_run_streams.proofs.MonitorChained.{IsAt, begun_lines, chain_lines, line_at}
use Rattle.sd_command_base.specs.declared.status.Status.{Status}
use Rattle.sd_command_base.specs.Prints.{PrintsReading}
use Rattle.sd_command_base.specs.Streams.{stream_status}
use Rattle.sd_run_streams.specs.Tables.{drive_status}
use Rattle.sd_run_streams.specs.Messages.{monitoring, MonitorsLeft}

-- the lines of some first packets are the first lines
first_lines : (site : SiteFields) (j k : ℕ) (packets : List (List ℕ)) →
    message_lines site j (take k packets) ≡ take k (message_lines site j packets)
unfolding message_lines
first_lines site j zero packets = refl
first_lines site j (suc k) [] = refl
first_lines site j (suc k) (packet ∷ packets) =
    ap (λ (ls : List (List ℕ)). message_line site j packet ∷ ls) (first_lines site (suc j) k packets)

-- the line of the packet after them is the next one
next_line : (site : SiteFields) (j k : ℕ) (packets : List (List ℕ)) (packet : List ℕ) →
    slice_get packets k ≡ Some packet →
    concat (take k (message_lines site j packets)) ++ message_line site (j + length (take k packets)) packet
    ≡ concat (take (suc k) (message_lines site j packets))
unfolding message_lines
next_line site j k [] packet at = absurd (let e : slice_get {X = List ℕ} [] k ≡ Some packet = at in cc)
next_line site j zero (first ∷ packets) packet at =
    let place : j + 0 ≡ j = omega arith in
    ap (λ (n : ℕ). message_line site n packet) place
    ∙ ap (λ (p : List ℕ). message_line site j p) (sym (same_held first packet at))
    ∙ sym (append-nil (message_line site j first))
next_line site j (suc k) (first ∷ packets) packet at =
    let place : j + suc (length (take k packets)) ≡ suc j + length (take k packets) = omega arith in
    let before = message_line site j first in
    let lines = concat (take k (message_lines site (suc j) packets)) in
    append_assoc before lines (message_line site (j + suc (length (take k packets))) packet)
    ∙ ap (λ (n : ℕ). before ++ (lines ++ message_line site n packet)) place
    ∙ ap (λ (xs : List ℕ). before ++ xs) (next_line site (suc j) k packets packet at)

-- the lines of packets that went through
all_through : (site : SiteFields) (packets : List (List ℕ)) (s t : Monitor) (bytes : List ℕ) (n : ℕ) →
    IsBegun site s → length packets ≤ 2 ^ 64 - 1 → Chain monitor_does s packets t bytes n →
    bytes ≡ concat (message_lines site 0 packets)
all_through site packets s t bytes n begun few chain = (begun_lines site packets s t bytes n begun few chain).0

some_through : (site : SiteFields) (k : ℕ) (packets : List (List ℕ)) (s t : Monitor) (bytes : List ℕ) (n : ℕ) →
    IsBegun site s → length (take k packets) ≤ 2 ^ 64 - 1 → Chain monitor_does s (take k packets) t bytes n →
    bytes ≡ concat (take k (message_lines site 0 packets))
some_through site k packets s t bytes n begun few chain =
    all_through site (take k packets) s t bytes n begun few chain ∙ ap concat (first_lines site 0 k packets)

first_begin : (site : SiteFields) (k : ℕ) (packets : List (List ℕ)) (s t : Monitor) (bytes : List ℕ) (n : ℕ) →
    IsBegun site s → length (take k packets) ≤ 2 ^ 64 - 1 → Chain monitor_does s (take k packets) t bytes n →
    IsPrefix bytes (concat (message_lines site 0 packets))
first_begin site k packets s t bytes n begun few chain =
    let pieces = message_lines site 0 packets in
    subst (λ (xs : List ℕ). IsPrefix xs (concat pieces))
    (sym (some_through site k packets s t bytes n begun few chain)) (pieces_first k pieces)

-- and the line of the packet after them goes on with them
next_begin : (site : SiteFields) (k : ℕ) (packets : List (List ℕ)) (s mid t : Monitor) (first bytes packet : List ℕ)
    (n m : ℕ) → IsBegun site s → length (take k packets) ≤ 2 ^ 64 - 1 →
    Chain monitor_does s (take k packets) mid first n → slice_get packets k ≡ Some packet →
    monitor_does mid packet t bytes m → IsPrefix (first ++ bytes) (concat (message_lines site 0 packets))
next_begin site k packets s mid t first bytes packet n m begun few chain at does =
    let pieces = message_lines site 0 packets in
    let at_first : IsAt site 0 s = record { site = begun.site; number = begun.number } in
    let all = chain_lines site 0 (take k packets) s mid first n at_first (omega (arith, few)) chain in
    let both : first ++ bytes ≡ concat (take (suc k) pieces) =
    ap (λ (xs : List ℕ). xs ++ bytes) (some_through site k packets s mid first n begun few chain)
    ∙ ap (λ (xs : List ℕ). concat (take k pieces) ++ xs)
    (line_at site (0 + length (take k packets)) mid t packet bytes m all.1 does)
    ∙ next_line site 0 k packets packet at in
    subst (λ (xs : List ℕ). IsPrefix xs (concat pieces)) (sym both) (pieces_first (suc k) pieces)

-- what the monitor may write of a packet, or of the end, goes on with the lines of all packets
part_of_lines : (site : SiteFields) (k : ℕ) (packets : List (List ℕ)) (s mid : Monitor) (first bytes : List ℕ)
    (n from to : ℕ) (here : Option (List ℕ)) → IsBegun site s → length (take k packets) ≤ 2 ^ 64 - 1 →
    Chain monitor_does s (take k packets) mid first n → slice_get packets k ≡ here →
    IsAllowedAt monitor_does monitor_ends monitor_refuses mid here from to bytes →
    IsPrefix (first ++ bytes) (concat (message_lines site 0 packets))
part_of_lines site k packets s mid first bytes n from to None begun few chain at (m, within, inl (t, ends)) =
    nothing_after first bytes (concat (message_lines site 0 packets)) ends.nothing
    (first_begin site k packets s mid first n begun few chain)
part_of_lines site k packets s mid first bytes n from to None begun few chain at (m, within, inr (fault, t, refuses)) =
    nothing_after first bytes (concat (message_lines site 0 packets)) refuses.nothing
    (first_begin site k packets s mid first n begun few chain)
part_of_lines site k packets s mid first bytes n from to (Some packet) begun few chain at (m, within, inl (t, does)) =
    next_begin site k packets s mid t first bytes packet n m begun few chain at does
part_of_lines site k packets s mid first bytes n from to (Some packet) begun few chain at
    (m, within, inr (fault, t, refuses)) =
    nothing_after first bytes (concat (message_lines site 0 packets)) refuses.nothing
    (first_begin site k packets s mid first n begun few chain)

-- a write failed
cut_lines : (site : SiteFields) (bytes : List ℕ) (a b : DriveState Monitor) → IsBegun site a.stage →
    CutAt monitor_does monitor_ends monitor_refuses bytes a b →
    AppendsPrefix a.sink.held b.sink.held (concat (message_lines site 0 (packets_taken bytes)))
cut_lines site bytes a b begun h =
    let packets = packets_taken bytes in
    let whole = concat (message_lines site 0 packets) in
    let part = part_of_lines site h.count packets a.stage h.mid.stage h.passed.bytes h.cut.bytes h.passed.steps
    h.mid.steps b.steps (slice_get packets h.count)
    begun (few_taken h.count bytes) h.passed.says refl h.cut.says in (
      h.passed.bytes ++ h.cut.prefix,
      prefix_of_prefix (h.passed.bytes ++ h.cut.prefix) (h.passed.bytes ++ h.cut.bytes) whole
          (after_first h.passed.bytes h.cut.prefix h.cut.bytes h.cut.short) part,
      Appends-trans a.sink.held h.mid.sink.held b.sink.held h.passed.bytes h.cut.prefix h.passed.taken h.cut.taken,
    )

-- what was printed of a stream that was driven
drives_print : (site : SiteFields) (bytes : List ℕ) (a b : DriveState Monitor) (f g : ℕ)
    (result : Result ℕ (DriveFault OutOfMemory)) →
    IsBegun site a.stage → IsCaused f g (IsErrOf result drive.WriteFault) →
    DriveOutcomeOver monitor_does monitor_ends monitor_refuses bytes a b result →
    PrintsReading (monitoring site bytes) (record { printed = a.sink.held; faults = f })
    (record { printed = b.sink.held; faults = g }) (drive_status result)
drives_print site bytes a b f g (Ok count) begun cause (whole, counted, grew) = inl (inl (
  ap stream_status (sym whole),
  subst (λ (xs : List ℕ). Appends a.sink.held b.sink.held xs) (all_and_end grew.bytes grew.steps grew.says) grew.taken,
  cause.calm (λ e. cc),
))
  where
    all_and_end : (xs : List ℕ) (n : ℕ) → ChainToEnd monitor_does monitor_ends a.stage (packets_taken bytes) b.stage xs
        n →
        xs ≡ concat (message_lines site 0 (packets_taken bytes))
    all_and_end xs n (mid, first, last, m, k, chain, ends, joined, counted) =
        nothing_joined first last xs ends.nothing joined
        ∙ all_through site (packets_taken bytes) a.stage mid first m begun (all_few bytes) chain
drives_print site bytes a b f g (Err (drive.Broken found)) begun cause (end, grew) = inl (inl (
  ap stream_status (sym end),
  subst (λ (xs : List ℕ). Appends a.sink.held b.sink.held xs)
      (all_through site (packets_taken bytes) a.stage b.stage grew.bytes grew.steps begun (all_few bytes) grew.says)
      grew.taken,
  cause.calm (λ e. cc),
))
drives_print site bytes a b f g (Err drive.TooLong) begun cause (end, grew) = inl (inl (
  ap stream_status (sym end),
  subst (λ (xs : List ℕ). Appends a.sink.held b.sink.held xs)
      (all_through site (packets_taken bytes) a.stage b.stage grew.bytes grew.steps begun (all_few bytes) grew.says)
      grew.taken,
  cause.calm (λ e. cc),
))
drives_print site bytes a b f g (Err drive.ReadFault) begun cause (count, within, grew) = inr (
  refl,
  (
    count,
    subst (λ (xs : List ℕ). Appends a.sink.held b.sink.held xs)
        (some_through site count (packets_taken bytes) a.stage b.stage grew.bytes grew.steps begun
        (few_taken count bytes)
        grew.says) grew.taken,
  ),
  cause.calm (λ e. cc),
)
drives_print site bytes a b f g (Err drive.WriteFault) begun cause (inl h) =
    inl (inr (inr (refl, cut_lines site bytes a b begun h, cause.failed refl)))
drives_print site bytes a b f g (Err drive.WriteFault) begun cause (inr h) =
    inl (inr (inr (refl, any_prefix _ _ _ h.untold, cause.failed refl)))
drives_print site bytes a b f g (Err (drive.Refused fault)) begun cause h = inl (inr (inl (
  refl,
  (
    h.count,
    subst (λ (xs : List ℕ). Appends a.sink.held b.sink.held xs)
        (some_and_none h.count (slice_get (packets_taken bytes) h.count)
        h.passed.bytes h.passed.steps h.passed.says) h.passed.taken,
  ),
  cause.calm (λ e. cc),
)))
  where
    some_and_none : (count : ℕ) (here : Option (List ℕ)) (xs : List ℕ) (n : ℕ) →
        ChainToRefusal monitor_does monitor_refuses a.stage (take count (packets_taken bytes)) here fault b.stage xs n →
        xs ≡ concat (take count (message_lines site 0 (packets_taken bytes)))
    some_and_none count here xs n (mid, first, last, m, k, chain, refuses, joined, counted) =
        nothing_joined first last xs refuses.nothing joined
        ∙ some_through site count (packets_taken bytes) a.stage mid first m begun (few_taken count bytes) chain

-- the stream that was left was monitored
pub is_monitored : (site : SiteFields) (a b : DriveState Monitor) (f g : ℕ) (result : Result ℕ (DriveFault OutOfMemory))
    (status : Status) →
    IsBegun site a.stage → IsCaused f g (IsErrOf result drive.WriteFault) →
    DriveOutcome monitor_does monitor_ends monitor_refuses a b result → status ≡ drive_status result →
    MonitorsLeft site a.left (record { printed = a.sink.held; faults = f })
    (record { printed = b.sink.held; faults = g }) status
is_monitored site a b f g result status begun cause drives is =
    let over = is_over monitor_does monitor_ends monitor_refuses a b result drives in record {
      bytes = over.bytes;
      is_left = over.left;
      prints = subst (λ (s : Status). PrintsReading (monitoring site over.bytes)
          (record { printed = a.sink.held; faults = f })
          (record { printed = b.sink.held; faults = g }) s) (sym is)
          (drives_print site over.bytes a b f g result begun cause over.drives);
    }
