-- The lines of the tables in a stream, packet by packet.
use Rattle.std.proofs.Common.{◌≡◌, ℕ, zero, suc, ◌+◌, ◌-◌, ◌^◌, ◌<◌, ◌≤◌, List, [], ◌∷◌, ◌++◌, length, take}
use Rattle.std.proofs.Common.{get_or, reverse, append-nil, append_assoc, Option, Some, None, Result, Ok, Err, refl, sym}
use Rattle.std.proofs.Common.{ap, subst, ◌∙◌, take_all, arith, inl, inr}
use Rattle.std.specs.Prelude.{slice_get, IsErrOf}
use Rattle.std.proofs.lemmas.List.{reverse-append, take_more}
use Rattle.std.proofs.lemmas.Option.{slice_get_within, get_or_from_slice_get}
use Rattle.std.specs.List.{concat, flat_map}
use Rattle.std.specs.Io.KnownBytes.{Appends}
use Rattle.std.proofs.KnownBytes.{Appends-trans, Appends-nil}
use Rattle.sd_base.specs.Count.{IsCaused}
use Rattle.sd_base.specs.declared.memory.NoMemory.{NoMemory as OutOfMemory}
use Rattle.sd_base.proofs.Lists.{nothing_joined}
use Rattle.sd_packet.specs.Header.{pid_of}
use Rattle.sd_run_streams.specs.TableLines.{section_line}
use Rattle.sd_ports.specs.Bytes.{IsPrefix, AppendsPrefix}
use Rattle.sd_ports.proofs.Starts.{prefix_of_prefix, after_first, nothing_after, pieces_first}
use Rattle.sd_engine.specs.Stage.{Chain}
use Rattle.sd_engine.specs.Driving.{DriveState, ChainToEnd, ChainToRefusal, IsAllowedAt, DriveOutcome}
use Rattle.sd_engine.specs.Taken.{StreamEnd, Whole, Breaks, RunsOn, packets_taken, AreBytesLeft, CutAt}
use Rattle.sd_engine.specs.Taken.{DriveOutcomeOver}
use Rattle.sd_engine.proofs.Taken.{any_prefix, is_over, few_taken, all_few, some_left}
use Rattle.sd_engine.specs.declared.driver.DriveFault.{DriveFault}
use Rattle.sd_engine.specs.declared.driver.DriveFault.TheVariants as drive
use Rattle.sd_run_streams.specs.Inspected.{lines_in, sections_at}
use Rattle.sd_run_streams.specs.InspectorStaged.{inspector_state, inspector_does, inspector_ends, inspector_refuses}
use Rattle.sd_run_streams.specs.InspectorStaged.{IsStateAfter}
use Rattle.sd_run_streams.specs.declared.inspector.Inspector.{Inspector}
use Rattle.sd_run_streams.proofs.InspectorChained.{all_written, all_after}
use Rattle.sd_command_base.specs.declared.status.Status.{Status}
use Rattle.sd_command_base.specs.declared.status.Status.TheVariants.{DepotFault, NoMemory}
use Rattle.sd_command_base.specs.Outside.{PageState}
use Rattle.sd_command_base.specs.Outcome.{IsEnding}
use Rattle.sd_command_base.specs.Prints.{PrintsReading}
use Rattle.sd_run_streams.specs.Tables.{packet_lines, inspecting, drive_status, InspectsLeft}
use Rattle.sd_command_base.specs.Streams.{stream_status}

-- the end of a stream may stand at the end of work
pub stream_ends : (end : StreamEnd) → IsEnding (stream_status end)
stream_ends Whole = tt
stream_ends (Breaks found) = tt
stream_ends RunsOn = tt

-- after a packet the lines go on with those of the next ones
grown : (k : ℕ) (before packets : List (List ℕ)) →
    lines_in (reverse (take k packets) ++ before) ≡ lines_in before ++ concat (take k (packet_lines before packets))
unfolding lines_in
grown zero before packets = sym (append-nil (lines_in before))
grown (suc k) before [] = sym (append-nil (lines_in before))
grown (suc k) before (packet ∷ packets) =
    ap (λ (ps : List (List ℕ)). lines_in (ps ++ before)) (reverse-append (packet ∷ []) (take k packets))
    ∙ ap lines_in (append_assoc (reverse (take k packets)) (packet ∷ []) before)
    ∙ grown k (packet ∷ before) packets
    ∙ append_assoc (lines_in before)
    (flat_map (section_line (length before) (pid_of packet)) (sections_at packet before))
    (concat (take k (packet_lines (packet ∷ before) packets)))

-- the lines of some first packets
first_lines : (k : ℕ) (packets : List (List ℕ)) → lines_in (reverse (take k packets))
    ≡ concat (take k (packet_lines [] packets))
unfolding lines_in
first_lines k packets = ap lines_in (sym (append-nil (reverse (take k packets)))) ∙ grown k [] packets

count_lines : (before packets : List (List ℕ)) → length (packet_lines before packets) ≡ length packets
count_lines before [] = refl
count_lines before (packet ∷ packets) = ap suc (count_lines (packet ∷ before) packets)

-- the lines of all packets
all_lines : (packets : List (List ℕ)) → lines_in (reverse packets) ≡ concat (packet_lines [] packets)
all_lines packets =
    let pieces = packet_lines [] packets in
    ap (λ (ps : List (List ℕ)). lines_in (reverse ps)) (sym (take_all (length packets) packets (omega arith)))
    ∙ first_lines (length packets) packets
    ∙ ap concat (take_all (length packets) pieces (omega (arith, count_lines [] packets)))

-- those of the packet after them
next_lines : (k : ℕ) (packets : List (List ℕ)) (packet : List ℕ) → k < length packets → get_or packets k packet
    ≡ packet →
    lines_in (reverse (take (k + 1) packets))
    ≡ lines_in (reverse (take k packets))
    ++ flat_map (section_line (length (reverse (take k packets))) (pid_of packet))
    (sections_at packet (reverse (take k packets)))
unfolding lines_in
next_lines k packets packet inside is =
    ap lines_in
    (ap reverse (take_more packets k packet inside)
    ∙ reverse-append (take k packets) (get_or packets k packet ∷ [])
    ∙ ap (λ (p : List ℕ). p ∷ reverse (take k packets)) is)

-- the lines of packets that went through
went_through : (s t : Inspector) (packets : List (List ℕ)) (bytes : List ℕ) (n : ℕ) →
    IsStateAfter [] (inspector_state s) →
    length packets ≤ 2 ^ 64 - 1 → Chain inspector_does s packets t bytes n → bytes ≡ lines_in (reverse packets)
went_through s t packets bytes n stands few chain = all_written packets s t bytes n stands few chain

some_through : (k : ℕ) (packets : List (List ℕ)) (s t : Inspector) (bytes : List ℕ) (n : ℕ) →
    IsStateAfter [] (inspector_state s) →
    length (take k packets) ≤ 2 ^ 64 - 1 → Chain inspector_does s (take k packets) t bytes n →
    bytes ≡ concat (take k (packet_lines [] packets))
some_through k packets s t bytes n stands few chain =
    went_through s t (take k packets) bytes n stands few chain ∙ first_lines k packets

all_through : (packets : List (List ℕ)) (s t : Inspector) (bytes : List ℕ) (n : ℕ) →
    IsStateAfter [] (inspector_state s) →
    length packets ≤ 2 ^ 64 - 1 → Chain inspector_does s packets t bytes n → bytes ≡ concat (packet_lines [] packets)
all_through packets s t bytes n stands few chain = went_through s t packets bytes n stands few chain ∙ all_lines packets

-- the lines of some first packets begin all
first_begin : (k : ℕ) (packets : List (List ℕ)) (s t : Inspector) (bytes : List ℕ) (n : ℕ) →
    IsStateAfter [] (inspector_state s) →
    length (take k packets) ≤ 2 ^ 64 - 1 → Chain inspector_does s (take k packets) t bytes n →
    IsPrefix bytes (concat (packet_lines [] packets))
first_begin k packets s t bytes n stands few chain =
    let pieces = packet_lines [] packets in
    subst (λ (xs : List ℕ). IsPrefix xs (concat pieces)) (sym (some_through k packets s t bytes n stands few chain))
    (pieces_first k pieces)

-- and the lines of the packet after them go on with them
next_begin : (k : ℕ) (packets : List (List ℕ)) (s mid t : Inspector) (first bytes packet : List ℕ) (n m : ℕ) →
    IsStateAfter [] (inspector_state s) → length (take k packets) ≤ 2 ^ 64 - 1 →
    Chain inspector_does s (take k packets) mid first
    n →
    slice_get packets k ≡ Some packet → inspector_does mid packet t bytes m →
    IsPrefix (first ++ bytes) (concat (packet_lines [] packets))
next_begin k packets s mid t first bytes packet n m stands few chain at inspects =
    let pieces = packet_lines [] packets in
    let before = reverse (take k packets) in
    let after : IsStateAfter before (inspector_state mid) = all_after (take k packets) s mid first n stands few chain in
    let lines : bytes ≡ flat_map (section_line (length before) (pid_of packet)) (sections_at packet before) =
    inspects.lines before after
    ∙ ap (λ (number : ℕ). flat_map (section_line number (pid_of packet)) (sections_at packet before)) after.number in
    let both : first ++ bytes ≡ concat (take (k + 1) pieces) =
    ap (λ (xs : List ℕ). xs ++ bytes) (went_through s mid (take k packets) first n stands few chain)
    ∙ ap (λ (xs : List ℕ). lines_in before ++ xs) lines
    ∙ sym (next_lines k packets packet (slice_get_within packets k packet at)
    (get_or_from_slice_get packets k packet packet at))
    ∙ first_lines (k + 1) packets in
    subst (λ (xs : List ℕ). IsPrefix xs (concat pieces)) (sym both) (pieces_first (k + 1) pieces)

-- what the inspector may write of a packet, or of the end, goes on with the lines of all packets
part_of_lines : (k : ℕ) (packets : List (List ℕ)) (s mid : Inspector) (first bytes : List ℕ) (n from to : ℕ)
    (here : Option (List ℕ)) →
    IsStateAfter [] (inspector_state s) → length (take k packets) ≤ 2 ^ 64 - 1 →
    Chain inspector_does s (take k packets) mid first
    n →
    slice_get packets k ≡ here → IsAllowedAt inspector_does inspector_ends inspector_refuses mid here from to bytes →
    IsPrefix (first ++ bytes) (concat (packet_lines [] packets))
part_of_lines k packets s mid first bytes n from to None stands few chain at (m, within, inl (t, ends)) =
    nothing_after first bytes (concat (packet_lines [] packets)) ends.nothing
    (first_begin k packets s mid first n stands few chain)
part_of_lines k packets s mid first bytes n from to None stands few chain at (m, within, inr (fault, t, refuses)) =
    nothing_after first bytes (concat (packet_lines [] packets)) refuses.nothing
    (first_begin k packets s mid first n stands few chain)
part_of_lines k packets s mid first bytes n from to (Some packet) stands few chain at (m, within, inl (t, inspects)) =
    next_begin k packets s mid t first bytes packet n m stands few chain at inspects
part_of_lines k packets s mid first bytes n from to (Some packet) stands few chain at
    (m, within, inr (fault, t, refuses)) =
    nothing_after first bytes (concat (packet_lines [] packets)) refuses.nothing
    (first_begin k packets s mid first n stands few chain)

-- a write failed
cut_lines : (bytes : List ℕ) (a b : DriveState Inspector) → IsStateAfter [] (inspector_state a.stage) →
    CutAt inspector_does inspector_ends inspector_refuses bytes a b →
    AppendsPrefix a.sink.held b.sink.held (concat (packet_lines [] (packets_taken bytes)))
cut_lines bytes a b stands h =
    let packets = packets_taken bytes in
    let part = part_of_lines h.count packets a.stage h.mid.stage h.passed.bytes h.cut.bytes h.passed.steps
    h.mid.steps b.steps (slice_get packets h.count)
    stands (few_taken h.count bytes) h.passed.says refl h.cut.says in (
      h.passed.bytes ++ h.cut.prefix,
      prefix_of_prefix (h.passed.bytes ++ h.cut.prefix) (h.passed.bytes ++ h.cut.bytes)
          (concat (packet_lines [] packets))
          (after_first h.passed.bytes h.cut.prefix h.cut.bytes h.cut.short) part,
      Appends-trans a.sink.held h.mid.sink.held b.sink.held h.passed.bytes h.cut.prefix h.passed.taken h.cut.taken,
    )

-- what was printed of a stream that was driven
pub drives_print : (bytes : List ℕ) (a b : DriveState Inspector) (f g : ℕ)
    (result : Result ℕ (DriveFault OutOfMemory)) →
    IsStateAfter [] (inspector_state a.stage) → IsCaused f g (IsErrOf result drive.WriteFault) →
    DriveOutcomeOver inspector_does inspector_ends inspector_refuses bytes a b result →
    PrintsReading (inspecting bytes) (record { printed = a.sink.held; faults = f })
    (record { printed = b.sink.held; faults = g })
    (drive_status result)
drives_print bytes a b f g (Ok count) stands cause (whole, counted, grew) = inl (inl (
  ap stream_status (sym whole),
  subst (λ (xs : List ℕ). Appends a.sink.held b.sink.held xs) (all_and_end grew.bytes grew.steps grew.says) grew.taken,
  cause.calm (λ e. cc),
))
  where
    all_and_end : (xs : List ℕ) (n : ℕ) →
        ChainToEnd inspector_does inspector_ends a.stage (packets_taken bytes) b.stage xs n →
        xs ≡ concat (packet_lines [] (packets_taken bytes))
    all_and_end xs n (mid, first, last, m, k, chain, ends, joined, counted) =
        nothing_joined first last xs ends.nothing joined
        ∙ all_through (packets_taken bytes) a.stage mid first m stands (all_few bytes) chain
drives_print bytes a b f g (Err (drive.Broken found)) stands cause (end, grew) = inl (inl (
  ap stream_status (sym end),
  subst (λ (xs : List ℕ). Appends a.sink.held b.sink.held xs)
      (all_through (packets_taken bytes) a.stage b.stage grew.bytes grew.steps stands (all_few bytes) grew.says)
      grew.taken,
  cause.calm (λ e. cc),
))
drives_print bytes a b f g (Err drive.TooLong) stands cause (end, grew) = inl (inl (
  ap stream_status (sym end),
  subst (λ (xs : List ℕ). Appends a.sink.held b.sink.held xs)
      (all_through (packets_taken bytes) a.stage b.stage grew.bytes grew.steps stands (all_few bytes) grew.says)
      grew.taken,
  cause.calm (λ e. cc),
))
drives_print bytes a b f g (Err drive.ReadFault) stands cause (count, within, grew) = inr (
  refl,
  (
    count,
    subst (λ (xs : List ℕ). Appends a.sink.held b.sink.held xs)
        (some_through count (packets_taken bytes) a.stage b.stage grew.bytes grew.steps stands (few_taken count bytes)
        grew.says) grew.taken,
  ),
  cause.calm (λ e. cc),
)
drives_print bytes a b f g (Err drive.WriteFault) stands cause (inl h) =
    inl (inr (inr (refl, cut_lines bytes a b stands h, cause.failed refl)))
drives_print bytes a b f g (Err drive.WriteFault) stands cause (inr h) =
    inl (inr (inr (refl, any_prefix _ _ _ h.untold, cause.failed refl)))
drives_print bytes a b f g (Err (drive.Refused fault)) stands cause h = inl (inr (inl (
  refl,
  (
    h.count,
    subst (λ (xs : List ℕ). Appends a.sink.held b.sink.held xs)
        (some_and_none h.count (slice_get (packets_taken bytes) h.count)
        h.passed.bytes h.passed.steps h.passed.says) h.passed.taken,
  ),
  cause.calm (λ e. cc),
)))
  where
    some_and_none : (count : ℕ) (here : Option (List ℕ)) (xs : List ℕ) (n : ℕ) →
        ChainToRefusal inspector_does inspector_refuses a.stage (take count (packets_taken bytes)) here fault b.stage
        xs n →
        xs ≡ concat (take count (packet_lines [] (packets_taken bytes)))
    some_and_none count here xs n (mid, first, last, m, k, chain, refuses, joined, counted) =
        nothing_joined first last xs refuses.nothing joined
        ∙ some_through count (packets_taken bytes) a.stage mid first m stands (few_taken count bytes) chain

-- before any of it was read memory was out
pub none_inspected : (left : Option (List ℕ)) (bytes : List ℕ) (page : PageState) → AreBytesLeft left bytes →
    InspectsLeft left page page NoMemory
none_inspected left bytes page is = record {
  bytes = bytes;
  is_left = is;
  prints = inl (inr (inl (refl, (0, Appends-nil page.printed), refl)));
}

pub not_inspected : (left : Option (List ℕ)) (page : PageState) → InspectsLeft left page page NoMemory
not_inspected left page = let some = some_left left in none_inspected left some.0 page some.1

-- the stream that was left was inspected
pub is_inspected : (a b : DriveState Inspector) (f g : ℕ) (result : Result ℕ (DriveFault OutOfMemory))
    (status : Status) →
    IsStateAfter [] (inspector_state a.stage) → IsCaused f g (IsErrOf result drive.WriteFault) →
    DriveOutcome inspector_does inspector_ends inspector_refuses a b result → status ≡ drive_status result →
    InspectsLeft a.left (record { printed = a.sink.held; faults = f }) (record { printed = b.sink.held; faults = g })
    status
is_inspected a b f g result status stands cause drives is =
    let over = is_over inspector_does inspector_ends inspector_refuses a b result drives in record {
      bytes = over.bytes;
      is_left = over.left;
      prints = subst (λ (s : Status). PrintsReading (inspecting over.bytes)
          (record { printed = a.sink.held; faults = f })
          (record { printed = b.sink.held; faults = g }) s) (sym is)
          (drives_print over.bytes a b f g result stands cause over.drives);
    }

-- reading failed just where the drive says so
pub read_caused : (f g : ℕ) (result : Result ℕ (DriveFault OutOfMemory)) (status : Status) →
    status ≡ drive_status result →
    IsCaused f g (IsErrOf result drive.ReadFault) → IsCaused f g (status ≡ DepotFault)
read_caused f g result status is cause = record {
  later = cause.later;
  failed = λ e. cause.failed (only_reading result (sym is ∙ e));
  calm = λ n. cause.calm (λ e. n (is ∙ reading_status result e));
}
  where
    only_reading : (result : Result ℕ (DriveFault OutOfMemory)) → drive_status result ≡ DepotFault →
        IsErrOf result drive.ReadFault
    only_reading (Ok count) e = absurd (cc)
    only_reading (Err (drive.Broken found)) e = absurd (cc)
    only_reading (Err drive.TooLong) e = absurd (cc)
    only_reading (Err drive.ReadFault) e = refl
    only_reading (Err drive.WriteFault) e = absurd (cc)
    only_reading (Err (drive.Refused fault)) e = absurd (cc)

    reading_status : (result : Result ℕ (DriveFault OutOfMemory)) → IsErrOf result drive.ReadFault → drive_status result
        ≡ DepotFault
    reading_status result e = ap drive_status e
