-- How a stream is watched, from one packet to the next, and to its end.
use Rattle.std.proofs.Common.{◌≡◌, ◌⊎◌, ◌+◌, ◌*◌, ◌^◌, ◌<◌, ◌≤◌, ◌∙◌, ℕ, zero, Bool, true, false, List, [], ◌∷◌, ◌++◌}
use Rattle.std.proofs.Common.{length}
use Rattle.std.proofs.Common.{◌≢◌, ◌-◌, take, reverse, refl, sym, ap, subst, inl, inr, arith, append_assoc}
use Rattle.std.proofs.Common.{append-nil}
use Rattle.std.proofs.Common.{length-append, Option, Some, None}
use Rattle.std.specs.List.{concat}
use Rattle.std.specs.Io.KnownBytes.{Appends, Consumes, IsAtEnd}
use Rattle.std.proofs.KnownBytes.{Appends-nil, Appends-trans, Consumes-nil, Consumes-trans}
use Rattle.std.proofs.lemmas.List.{map-append}
use Rattle.std.proofs.lemmas.List.Folds.{concat-append}
use Rattle.std.proofs.Math.Seq.{take-append_seam}
use Rattle.sd_base.specs.Count.{HasRisen}
use Rattle.sd_base.specs.Types.{Packet, Packets}
use Rattle.sd_base.proofs.Bools.{tested}
use Rattle.sd_ports.specs.Bytes.{IsPrefix, LosesPrefix}
use Rattle.sd_engine.specs.Cut.{cut_packets, skipped_before, read_from, readable}
use Rattle.sd_engine.specs.Seeking.{MayCome, SeekOutcome, SeekStop, SkipsTooMany}
use Rattle.sd_engine.specs.Stage.{SinkState}
use Rattle.sd_engine.specs.Taken.{AreBytesLeft}
use Rattle.sd_engine.specs.declared.seeking.SeekFault.{SeekFault}
use Rattle.sd_engine.specs.declared.seeking.SeekFault.TheVariants as seek
use Rattle.sd_site_cards.specs.CardFields.{CardFields}
use Rattle.sd_spec.specs.declared.report.Report.{Report}
use Rattle.sd_spec.specs.Offered.{out_from}
use Rattle.sd_spec.specs.Ending.{ending_of}
use Rattle.sd_spec.specs.Counting.{counting, tried_keys}
use Rattle.sd_spec.specs.Reports.{report_of, turns_after, turned_reports, reports}
use Rattle.sd_watch.specs.Watching.{watcher_card, counted_of, IsWatching}
use Rattle.sd_watch.specs.declared.watcher.Watcher.{Watcher}
use Rattle.sd_command_base.specs.declared.status.Status.{Status}
use Rattle.sd_command_base.specs.declared.status.Status.TheVariants.{Done, BadStream, DepotFault, PrintFault, NoMemory}
use Rattle.sd_command_base.specs.declared.stream_refusal.StreamRefusal.TheVariants.{TooLong}
use Rattle.sd_command_base.specs.Outside.{PageState}
use Rattle.sd_command_base.specs.Outcome.{IsEnding}
use Rattle.sd_run_broadcasts.specs.Receive.{ending_status}
use Rattle.sd_run_broadcasts.specs.Live.{all_lived, some_lived, unprinted, is_outside}
use Rattle.sd_run_broadcasts.specs.Watch.{report_lines, watch_report_line, skipped_at, watched_lines, watched_of}
use Rattle.sd_run_broadcasts.specs.Watch.{watched_status}
use Rattle.sd_run_broadcasts.specs.Watch.{watched_steps}
use Rattle.sd_run_broadcasts.specs.Found.{HasFound, IsReadable}
use Rattle.sd_run_broadcasts.specs.Watched.{counted_out, turned_lines, line_before, WatchedPacketOutcome, passed}
use Rattle.sd_run_broadcasts.specs.Watched.{stopped}
use Rattle.sd_run_broadcasts.specs.Watched.{unprinted as page_fault, IsWithinTries, IsUnderWay, WatchesLeft}
use Rattle.sd_run_broadcasts.specs.Watched.{seek_stop_status}
use Rattle.sd_run_broadcasts.proofs.Found.{found_none, found_more, found_before, found_all, found_last, found_many}
use Rattle.sd_run_broadcasts.proofs.Found.{found_readable, may_both, readable_begins, all_readable, most_readable}
use Rattle.sd_run_broadcasts.proofs.Found.{far_readable}
use Rattle.sd_run_broadcasts.proofs.Left.{left_behind, prefix_of_all, short_of_all}
use Rattle.sd_run_broadcasts.proofs.WatchedMore.{out_joined, tried_joined, turned_joined}

-- the past after packets of which none is before
past_of : (card : CardFields) (s : Packets) → reverse (counting card [] s) ++ [] ≡ counted_of card s
past_of card s = append-nil (counted_of card s)

-- what packets write, and then what others do
out_then : (card : CardFields) (s t : Packets) →
    concat (counted_out card [] (s ++ t))
    ≡ concat (counted_out card [] s) ++ concat (counted_out card (counted_of card s) t)
out_then card s t =
    ap concat (out_joined card [] s t
    ∙ ap (λ (past : Packets). counted_out card [] s ++ counted_out card past t) (past_of card s))
    ∙ concat-append (counted_out card [] s) (counted_out card (counted_of card s) t)

tried_then : (card : CardFields) (s t : Packets) →
    tried_keys card [] (s ++ t) ≡ tried_keys card [] s + tried_keys card (counted_of card s) t
tried_then card s t = tried_joined card [] s t
    ∙ ap (λ (past : Packets). tried_keys card [] s + tried_keys card past t) (past_of card s)

turned_then : (card : CardFields) (bytes : List ℕ) (s t : Packets) →
    turned_lines card bytes (s ++ t) ≡ turned_lines card bytes s ++ report_lines card bytes (turned_reports card s t)
turned_then card bytes s t =
    ap (report_lines card bytes) (turned_joined card [] s t)
    ∙ map-append (λ report. watch_report_line card.leaf (skipped_at bytes report.packets) report)
    (turned_reports card [] s)
    (turned_reports card s t)

-- the line before one packet
line_then : (card : CardFields) (bytes : List ℕ) (s : Packets) (packet : Packet) (skipped : ℕ) →
    skipped_at bytes (length s) ≡ skipped →
    report_lines card bytes (turned_reports card s (packet ∷ [])) ≡ line_before card skipped s packet
unfolding turned_reports report_of
line_then card bytes s packet skipped is = tested (turns_after card s packet)
    (λ turns. rw (turns, is) refl)
    (λ stays. rw stays refl)

-- how many steps a sum of keys takes
times_sum : (h a b : ℕ) → h * (a + b) ≡ h * a + h * b
times_sum h a b = grind (arith)

-- these are the first packets that are read of a stream, and these are their lines
record Begins (card : CardFields) (bytes : List ℕ) (s : Packets) (pieces : List (List ℕ)) : Type 0 where
  more : Packets
  is : readable bytes ≡ s ++ more
  lines : turned_lines card bytes s ≡ pieces

out_begins : (card : CardFields) (bytes : List ℕ) (s : Packets) (pieces : List (List ℕ)) →
    Begins card bytes s pieces → IsPrefix (concat (counted_out card [] s)) (watched_of card bytes)
unfolding watched_of
out_begins card bytes s pieces h = (
  concat (counted_out card (counted_of card s) h.more),
  sym (out_then card s h.more) ∙ ap (λ (ps : Packets). concat (counted_out card [] ps)) (sym h.is),
)

lines_begin : (card : CardFields) (bytes : List ℕ) (s : Packets) (pieces : List (List ℕ)) →
    Begins card bytes s pieces → (others : List (List ℕ)) × (watched_lines card bytes ≡ pieces ++ others)
unfolding watched_lines reports
lines_begin card bytes s pieces h =
    let turned = turned_reports card s h.more in
    let last = report_of card (readable bytes) ∷ [] in
    let line = λ (report : Report). watch_report_line card.leaf (skipped_at bytes report.packets) report in (
      report_lines card bytes turned ++ report_lines card bytes last,
      map-append line (turned_reports card [] (readable bytes)) last
          ∙ ap (λ (ps : Packets). turned_lines card bytes ps ++ report_lines card bytes last) h.is
          ∙ ap (λ (ls : List (List ℕ)). ls ++ report_lines card bytes last)
          (turned_then card bytes s h.more ∙ ap (λ (ls : List (List ℕ)). ls ++ report_lines card bytes turned) h.lines)
          ∙ append_assoc pieces (report_lines card bytes turned) (report_lines card bytes last),
    )

steps_begin : (card : CardFields) (bytes : List ℕ) (s : Packets) (pieces : List (List ℕ)) (from to : ℕ) →
    Begins card bytes s pieces → to ≤ from + card.height * tried_keys card [] s → to ≤ from + watched_steps card bytes
unfolding watched_steps
steps_begin card bytes s pieces from to h few =
    let all : tried_keys card [] (readable bytes) ≡ tried_keys card [] s + tried_keys card (counted_of card s) h.more =
    ap (tried_keys card []) h.is ∙ tried_then card s h.more in
    let times : card.height * tried_keys card [] (readable bytes)
    ≡ card.height * tried_keys card [] s + card.height * tried_keys card (counted_of card s) h.more =
    ap (λ (n : ℕ). card.height * n) all ∙ times_sum card.height (tried_keys card [] s) (tried_keys card (counted_of
    card s) h.more) in
    omega (arith, few, times)

-- what was found is read first of all that is left
begins_here : (card : CardFields) (bytes waiting rest : List ℕ) (s : Packets) (pieces : List (List ℕ)) (ended : Bool)
    (skipped : ℕ) → HasFound bytes s waiting ended skipped → MayCome ended rest → length s ≤ 2 ^ 48 →
    turned_lines card (bytes ++ rest) s ≡ pieces → Begins card (bytes ++ rest) s pieces
begins_here card bytes waiting rest s pieces ended skipped found may low lines =
    let can = found_readable bytes waiting rest s ended skipped found may low in
    record {
      more = read_from (bytes ++ rest) (length s) can.rest;
      is = readable_begins (bytes ++ rest) s can;
      lines = lines;
    }

-- nothing was read yet
pub not_begun : (card : CardFields) (left held : Option (List ℕ)) (a : PageState) (from : ℕ) (watcher : Watcher)
    (waiting : List ℕ) → waiting ≡ [] → IsWatching [] watcher → watcher_card watcher ≡ card →
    IsUnderWay card left left held held a a from from watcher waiting false 0 0
unfolding counting out_from turned_reports
not_begun card left held a from watcher waiting none keeps same = record {
  bytes = [];
  packets = [];
  pieces = [];
  read = Consumes-nil left;
  end = λ is. cc;
  found = rw none found_none;
  counted = refl;
  lines = λ more may. refl;
  keeps = keeps;
  same = same;
  wrote = Appends-nil held;
  printed = Appends-nil a.printed;
  calm = refl;
  steps = omega arith;
}

-- what is known once a packet was found, before it is taken
pub record IsFound (card : CardFields) (left now held held' : Option (List ℕ)) (a b : PageState) (from to : ℕ)
    (watcher : Watcher) (waiting : List ℕ) (ended : Bool) (skipped count : ℕ) (packet : Packet) : Type 0 where
  pub bytes : List ℕ
  pub packets : Packets
  pub pieces : List (List ℕ)
  pub read : Consumes left now bytes
  pub end : ended ≡ true → IsAtEnd now
  pub found : HasFound bytes (packets ++ packet ∷ []) waiting ended skipped
  pub counted : length packets ≡ count
  pub lines : (more : List ℕ) → MayCome ended more →
      turned_lines card (bytes ++ more) (packets ++ packet ∷ []) ≡ pieces ++ line_before card skipped packets packet
  pub keeps : IsWatching packets watcher
  pub same : watcher_card watcher ≡ card
  pub wrote : Appends held held' (concat (counted_out card [] packets))
  pub printed : Appends a.printed b.printed (concat pieces)
  pub calm : b.faults ≡ a.faults
  pub steps : to ≤ from + card.height * tried_keys card [] packets

-- the count of bytes that are in no packet, of few
skipped_few : (bytes : List ℕ) (k skipped : ℕ) → skipped_before k zero bytes ≡ skipped → skipped < 2 ^ 64 - 1 →
    skipped_at bytes k ≡ skipped
skipped_few bytes k skipped is low = omega (arith, is, low)

-- a search that found a packet
pub packet_found : (card : CardFields) (left left' now held held' : Option (List ℕ)) (a b : PageState) (from to : ℕ)
    (watcher : Watcher) (waiting next : List ℕ) (was ended : Bool) (skipped more_skipped count : ℕ) (packet : Packet) →
    IsUnderWay card left left' held held' a b from to watcher waiting was skipped count →
    SeekOutcome left' now waiting was next ended skipped more_skipped (Some packet) →
    IsFound card left now held held' a b from to watcher next ended more_skipped count packet
packet_found card left left' now held held' a b from to watcher waiting next was ended skipped more_skipped count packet
    way sought =
    let nothing = sought.reads.nothing in
    let still = sought.reads.still in
    let low : more_skipped < 2 ^ 64 - 1 = sought.few way.found.low in
    let sum = sought.skipped in
    let found : HasFound (way.bytes ++ sought.bytes) (way.packets ++ packet ∷ []) next ended (skipped + sought.passed) =
    found_more way.bytes sought.bytes waiting next packet way.packets was ended skipped sought.passed way.found nothing
    still sought.finds (omega (arith, low, sum)) in
    record {
      bytes = way.bytes ++ sought.bytes;
      packets = way.packets;
      pieces = way.pieces;
      read = Consumes-trans left left' now way.bytes sought.bytes way.read sought.reads.read;
      end = sought.reads.end way.end;
      found = subst (HasFound (way.bytes ++ sought.bytes) (way.packets ++ packet ∷ []) next ended) (sym sum) found;
      counted = way.counted;
      lines = λ more may.
          let both = may_both sought.bytes more was ended nothing still may in
          let all = (way.bytes ++ sought.bytes) ++ more in
          let before : skipped_before (length way.packets) zero all ≡ skipped + sought.passed =
          found_before way.bytes sought.bytes waiting next packet more way.packets was ended skipped sought.passed
          way.found nothing still may sought.finds in
          let here : skipped_at all (length way.packets) ≡ more_skipped =
          skipped_few all (length way.packets) more_skipped (before ∙ sym sum) low in
          turned_then card all way.packets (packet ∷ [])
          ∙ ap (λ (ls : List (List ℕ)). ls ++ report_lines card all (turned_reports card way.packets (packet ∷ [])))
          (ap (λ (xs : List ℕ). turned_lines card xs way.packets) (append_assoc way.bytes sought.bytes more)
          ∙ way.lines (sought.bytes ++ more) both)
          ∙ ap (λ (ls : List (List ℕ)). way.pieces ++ ls) (line_then card all way.packets packet more_skipped here);
      keeps = way.keeps;
      same = way.same;
      wrote = way.wrote;
      printed = way.printed;
      calm = way.calm;
      steps = way.steps;
    }

-- a packet that passed
pub packet_passed : (card : CardFields) (left now held held' held2 : Option (List ℕ)) (a b c : PageState)
    (from to more : ℕ) (watcher next_watcher : Watcher) (waiting : List ℕ) (ended : Bool) (skipped count : ℕ)
    (packet : Packet) (status : Status) →
    IsFound card left now held held' a b from to watcher waiting ended skipped count packet → count < 2 ^ 48 →
    ((s : Packets) → IsWatching s watcher → length s < 2 ^ 48 →
    WatchedPacketOutcome (watcher_card watcher) s packet skipped held' held2 b c next_watcher status) → status ≡ Done →
    ((s : Packets) → IsWatching s watcher → length s < 2 ^ 48 → IsWithinTries (watcher_card watcher) s packet to more) →
    IsUnderWay card left now held held2 a c from more next_watcher waiting ended skipped (count + 1)
packet_passed card left now held held' held2 a b c from to more watcher next_watcher waiting ended skipped count packet
    status h low outcome done tries =
    let under : length h.packets < 2 ^ 48 = let n = h.counted in omega (arith, n, low) in
    let tried : IsWithinTries card h.packets packet to more =
    subst (λ (x : CardFields). IsWithinTries x h.packets packet to more) h.same (tries h.packets h.keeps under) in
    go (subst (λ (x : CardFields). WatchedPacketOutcome x h.packets packet skipped held' held2 b c next_watcher status)
    h.same
    (outcome h.packets h.keeps under)) tried
  where
    go : WatchedPacketOutcome card h.packets packet skipped held' held2 b c next_watcher status →
        IsWithinTries card h.packets packet to more →
        IsUnderWay card left now held held2 a c from more next_watcher waiting ended skipped (count + 1)
    go (stopped (inl why) short none) tried = let wrong : NoMemory ≡ Done = sym why ∙ done in cc
    go (stopped (inr why) short none) tried = let wrong : DepotFault ≡ Done = sym why ∙ done in cc
    go (page_fault why short cut_packets rose) tried = let wrong : PrintFault ≡ Done = sym why ∙ done in cc
    go (passed is keeps same wrote printed calm) tried = record {
      bytes = h.bytes;
      packets = h.packets ++ packet ∷ [];
      pieces = h.pieces ++ line_before card skipped h.packets packet;
      read = h.read;
      end = h.end;
      found = h.found;
      counted = let n = h.counted in omega (arith, n, length-append h.packets (packet ∷ []));
      lines = h.lines;
      keeps = keeps;
      same = same;
      wrote = subst (Appends held held2) (sym (out_then card h.packets (packet ∷ [])))
          (Appends-trans held held' held2 _ _ h.wrote wrote);
      printed = subst (Appends a.printed c.printed)
          (sym (concat-append h.pieces (line_before card skipped h.packets packet)))
          (Appends-trans a.printed b.printed c.printed _ _ h.printed printed);
      calm = calm ∙ h.calm;
      steps =
          let few = h.steps in
          let sum : card.height * tried_keys card [] (h.packets ++ packet ∷ [])
          ≡ card.height * tried_keys card [] h.packets
          + card.height * tried_keys card (counted_of card h.packets) (packet ∷ []) =
          ap (λ (n : ℕ). card.height * n) (tried_then card h.packets (packet ∷ []))
          ∙ times_sum card.height (tried_keys card [] h.packets)
          (tried_keys card (counted_of card h.packets) (packet ∷ [])) in
          omega (arith, few, tried, sum);
    }

-- a status of the outside
outside_last : {X : Type 0} (status : Status) → is_outside status ≡ true → is_outside status ≡ false → X
outside_last status is other = let wrong : true ≡ false = sym is ∙ other in cc

outside_why : (status : Status) → (status ≡ NoMemory) ⊎ (status ≡ DepotFault) → is_outside status ≡ true
outside_why status (inl is) = ap is_outside is
outside_why status (inr is) = ap is_outside is

-- pieces that were printed are so many of all
pieces_of_all : (a b : Option (List ℕ)) (pieces others all : List (List ℕ)) → all ≡ pieces ++ others →
    Appends a b (concat pieces) → Appends a b (concat (take (length pieces) all))
pieces_of_all a b pieces others all is printed =
    subst (λ (xs : List (List ℕ)). Appends a b (concat xs))
    (sym (ap (take (length pieces)) is ∙ take-append_seam pieces others)) printed

-- pieces begin all
pieces_begin : (pieces others all : List (List ℕ)) → all ≡ pieces ++ others → IsPrefix (concat pieces) (concat all)
pieces_begin pieces others all is = (concat others, sym (concat-append pieces others) ∙ ap concat (sym is))

-- a packet at which the outside stopped it
pub packet_stopped : (card : CardFields) (left now held held' held2 : Option (List ℕ)) (a b c : PageState)
    (from to more : ℕ) (watcher next_watcher : Watcher) (waiting : List ℕ) (ended : Bool) (skipped count : ℕ)
    (packet : Packet) (status : Status) →
    IsFound card left now held held' a b from to watcher waiting ended skipped count packet → count < 2 ^ 48 →
    ((s : Packets) → IsWatching s watcher → length s < 2 ^ 48 →
    WatchedPacketOutcome (watcher_card watcher) s packet skipped held' held2 b c next_watcher status) → status ≢ Done →
    ((s : Packets) → IsWatching s watcher → length s < 2 ^ 48 → IsWithinTries (watcher_card watcher) s packet to more) →
    WatchesLeft card left held held2 a c from more next_watcher skipped status
packet_stopped card left now held held' held2 a b c from to more watcher next_watcher waiting ended skipped count packet
    status h low outcome other tries =
    let under : length h.packets < 2 ^ 48 = let n = h.counted in omega (arith, n, low) in
    let tried : IsWithinTries card h.packets packet to more =
    subst (λ (x : CardFields). IsWithinTries x h.packets packet to more) h.same (tries h.packets h.keeps under) in
    let behind = left_behind left now h.bytes h.read in
    let rest = behind.rest in
    let may : MayCome ended rest = λ is. behind.none (h.end is) in
    let long : length (h.packets ++ packet ∷ []) ≤ 2 ^ 48 =
    omega (arith, under, length-append h.packets (packet ∷ [])) in
    let line = line_before card skipped h.packets packet in
    let first : Begins card (h.bytes ++ rest) (h.packets ++ packet ∷ []) (h.pieces ++ line) =
    begins_here card h.bytes waiting rest (h.packets ++ packet ∷ []) (h.pieces ++ line) ended skipped h.found may long
    (h.lines rest may) in
    go (h.bytes ++ rest) behind.is_left first
    (subst (λ (x : CardFields). WatchedPacketOutcome x h.packets packet skipped held' held2 b c next_watcher status)
    h.same
    (outcome h.packets h.keeps under)) tried
  where
    go : (bytes : List ℕ) → AreBytesLeft left bytes →
        Begins card bytes (h.packets ++ packet ∷ []) (h.pieces ++ line_before card skipped h.packets packet) →
        WatchedPacketOutcome card h.packets packet skipped held' held2 b c next_watcher status →
        IsWithinTries card h.packets packet to more →
        WatchesLeft card left held held2 a c from more next_watcher skipped status
    go bytes is_left first outcome tried =
        let line = line_before card skipped h.packets packet in
        let out_all : IsPrefix (concat (counted_out card [] h.packets)
        ++ concat (counted_out card (counted_of card h.packets) (packet ∷ []))) (watched_of card bytes) =
        subst (λ (xs : List ℕ). IsPrefix xs (watched_of card bytes)) (out_then card h.packets (packet ∷ []))
        (out_begins card bytes (h.packets ++ packet ∷ []) (h.pieces ++ line) first) in
        let lines = lines_begin card bytes (h.packets ++ packet ∷ []) (h.pieces ++ line) first in
        let few = h.steps in
        let sum : card.height * tried_keys card [] (h.packets ++ packet ∷ [])
        ≡ card.height * tried_keys card [] h.packets
        + card.height * tried_keys card (counted_of card h.packets) (packet ∷ []) =
        ap (λ (n : ℕ). card.height * n) (tried_then card h.packets (packet ∷ []))
        ∙ times_sum card.height (tried_keys card [] h.packets)
        (tried_keys card (counted_of card h.packets) (packet ∷ [])) in
        let steps = steps_begin card bytes (h.packets ++ packet ∷ []) (h.pieces ++ line) from more first
        (omega (arith, few, tried, sum)) in
        so bytes is_left out_all lines steps outcome
      where
        so : (bytes : List ℕ) → AreBytesLeft left bytes →
            IsPrefix (concat (counted_out card [] h.packets)
            ++ concat (counted_out card (counted_of card h.packets) (packet ∷ []))) (watched_of card bytes) →
            ((others : List (List ℕ)) ×
            (watched_lines card bytes ≡ (h.pieces ++ line_before card skipped h.packets packet) ++ others)) →
            more ≤ from + watched_steps card bytes →
            WatchedPacketOutcome card h.packets packet skipped held' held2 b c next_watcher status →
            WatchesLeft card left held held2 a c from more next_watcher skipped status
        so bytes is_left out_all lines steps (passed is keeps same wrote printed calm) = absurd (other is)
        so bytes is_left out_all lines steps (stopped why short none) = record {
          bytes = bytes;
          is_left = is_left;
          lived = some_lived why (prefix_of_all held held' held2 _ _ (watched_of card bytes) h.wrote short out_all)
              (length h.pieces)
              (subst (λ (page : PageState). Appends a.printed page.printed
              (concat (take (length h.pieces) (watched_lines card bytes)))) (sym none)
              (pieces_of_all a.printed b.printed h.pieces (line_before card skipped h.packets packet ++ lines.0)
              (watched_lines card bytes)
              (lines.1 ∙ append_assoc h.pieces (line_before card skipped h.packets packet) lines.0) h.printed))
              (ap (λ (page : PageState). page.faults) none ∙ h.calm);
          steps = steps;
          last = outside_last status (outside_why status why);
        }
        so bytes is_left out_all lines steps (page_fault why short cut_packets rose) = record {
          bytes = bytes;
          is_left = is_left;
          lived = unprinted why (prefix_of_all held held' held2 _ _ (watched_of card bytes) h.wrote short out_all)
              (prefix_of_all a.printed b.printed c.printed (concat h.pieces)
              (concat (line_before card skipped h.packets packet)) (concat (watched_lines card bytes)) h.printed
              cut_packets
              (subst (λ (xs : List ℕ). IsPrefix xs (concat (watched_lines card bytes)))
              (concat-append h.pieces (line_before card skipped h.packets packet))
              (pieces_begin (h.pieces ++ line_before card skipped h.packets packet) lines.0 (watched_lines card bytes)
              lines.1)))
              (subst (λ (n : ℕ). HasRisen n c.faults) h.calm rose);
          steps = steps;
          last = outside_last status (ap is_outside why);
        }

-- a search that the outside stopped
pub search_stopped : (card : CardFields) (left left' now held held' : Option (List ℕ)) (a b : PageState) (from to : ℕ)
    (watcher : Watcher) (waiting : List ℕ) (was : Bool) (skipped any count : ℕ) (status : Status) →
    IsUnderWay card left left' held held' a b from to watcher waiting was skipped count → count ≤ 2 ^ 48 →
    was ≡ false → LosesPrefix left' now → status ≡ DepotFault →
    WatchesLeft card left held held' a b from to watcher any status
search_stopped card left left' now held held' a b from to watcher waiting was skipped any count status way low going
    lost is =
    let behind = left_behind left now (way.bytes ++ lost.0)
    (Consumes-trans left left' now way.bytes lost.0 way.read lost.1) in
    let all = lost.0 ++ behind.rest in
    let may : MayCome was all = λ end. let wrong : true ≡ false = sym end ∙ going in cc in
    let long : length way.packets ≤ 2 ^ 48 = let n = way.counted in omega (arith, n, low) in
    let first : Begins card (way.bytes ++ all) way.packets way.pieces =
    begins_here card way.bytes waiting all way.packets way.pieces was skipped way.found may long (way.lines all may) in
    let bytes = way.bytes ++ all in
    let lines = lines_begin card bytes way.packets way.pieces first in
    record {
      bytes = bytes;
      is_left = subst (AreBytesLeft left) (append_assoc way.bytes lost.0 behind.rest) behind.is_left;
      lived = some_lived (inr is)
          (short_of_all held held' _ (watched_of card bytes) way.wrote
          (out_begins card bytes way.packets way.pieces first))
          (length way.pieces)
          (pieces_of_all a.printed b.printed way.pieces lines.0 (watched_lines card bytes) lines.1 way.printed)
          way.calm;
      steps = steps_begin card bytes way.packets way.pieces from to first way.steps;
      last = outside_last status (ap is_outside is);
    }

-- a stream of which these packets are all that is read
ends_so : (card : CardFields) (left left' held held' : Option (List ℕ)) (a b : PageState) (from to : ℕ)
    (watcher : Watcher) (waiting : List ℕ) (was : Bool) (skipped count : ℕ)
    (way : IsUnderWay card left left' held held' a b from to watcher waiting was skipped count) → count ≤ 2 ^ 48 →
    (all : List ℕ) → MayCome was all → (bytes : List ℕ) → bytes ≡ way.bytes ++ all → AreBytesLeft left bytes →
    readable bytes ≡ way.packets → (status : Status) → status ≡ watched_status card bytes → IsEnding status →
    (last : ℕ) → last ≡ skipped_at bytes (length way.packets) →
    WatchesLeft card left held held' a b from to watcher last status
unfolding watched_of watched_steps
ends_so card left left' held held' a b from to watcher waiting was skipped count way low all may bytes joined is_left
    is status ends ending last last_is = record {
      bytes = bytes;
      is_left = is_left;
      lived = all_lived ends ending
          (subst (λ (ps : Packets). Appends held held' (concat (counted_out card [] ps))) (sym is) way.wrote)
          (subst (λ (ls : List (List ℕ)). Appends a.printed b.printed (concat ls))
          (sym (ap (turned_lines card bytes) is ∙ ap (λ (xs : List ℕ). turned_lines card xs way.packets) joined
          ∙ way.lines all may)) way.printed)
          way.calm;
      steps = rw is way.steps;
      last = λ inside. record {
        keeps = subst (λ (ps : Packets). IsWatching ps watcher) (sym is) way.keeps;
        same = way.same;
        skipped_is = last_is ∙ ap (λ (ps : Packets). skipped_at bytes (length ps)) (sym is);
        few = rw is (let n = way.counted in omega (arith, n, low));
      };
    }

-- the end of a stream
pub all_watched : (card : CardFields) (left left' now held held' : Option (List ℕ)) (a b : PageState) (from to : ℕ)
    (watcher : Watcher) (waiting next : List ℕ) (was ended : Bool) (skipped more_skipped count : ℕ) (status : Status) →
    IsUnderWay card left left' held held' a b from to watcher waiting was skipped count → count ≤ 2 ^ 48 →
    SeekOutcome left' now waiting was next ended skipped more_skipped None →
    ((s : Packets) → IsWatching s watcher →
    status ≡ ending_status (watcher_card watcher).leaf (ending_of (watcher_card watcher)
    (counted_of (watcher_card watcher) s))) →
    IsEnding status →
    WatchesLeft card left held held' a b from to watcher more_skipped status
unfolding watched_status
all_watched card left left' now held held' a b from to watcher waiting next was ended skipped more_skipped count status
    way low sought ends ending =
    let behind = left_behind left now (way.bytes ++ sought.bytes)
    (Consumes-trans left left' now way.bytes sought.bytes way.read sought.reads.read) in
    let bytes = way.bytes ++ sought.bytes in
    let none = sought.finds.2 in
    let end : IsAtEnd now = sought.reads.end way.end sought.finds.0 in
    let is_left : AreBytesLeft left bytes =
    subst (AreBytesLeft left) (ap (λ (xs : List ℕ). bytes ++ xs) (behind.none end) ∙ append-nil bytes) behind.is_left in
    let sum = sought.skipped in
    let few : more_skipped < 2 ^ 64 - 1 = sought.few way.found.low in
    let cuts : cut_packets bytes ≡ way.packets =
    found_all way.bytes sought.bytes waiting way.packets was skipped sought.passed way.found sought.reads.nothing
    none in
    let before : skipped_before (length way.packets) zero bytes ≡ skipped + sought.passed =
    found_last way.bytes sought.bytes waiting way.packets was skipped sought.passed way.found sought.reads.nothing
    none in
    let long : length way.packets ≤ 2 ^ 48 = let n = way.counted in omega (arith, n, low) in
    let all = all_readable bytes way.packets cuts long (way.found.few sought.bytes sought.reads.nothing)
    (omega (arith, before, sum, few)) in
    let here : status ≡ ending_status card.leaf (ending_of card (counted_of card way.packets)) =
    subst (λ (x : CardFields). status ≡ ending_status x.leaf (ending_of x (counted_of x way.packets))) way.same
    (ends way.packets way.keeps) in
    let status_is : status ≡ watched_status card bytes = rw (all.1, all.0) here in
    ends_so card left left' held held' a b from to watcher waiting was skipped count way low sought.bytes
    sought.reads.nothing bytes refl is_left all.0 status status_is ending more_skipped
    (sym (skipped_few bytes (length way.packets) more_skipped (before ∙ sym sum) few))

-- a packet behind the most
pub most_watched : (card : CardFields) (left left' now held held' : Option (List ℕ)) (a b : PageState) (from to : ℕ)
    (watcher : Watcher) (waiting next : List ℕ) (was ended : Bool) (skipped more_skipped count : ℕ) (packet : Packet)
    (status : Status) →
    IsUnderWay card left left' held held' a b from to watcher waiting was skipped count → count ≡ 2 ^ 48 →
    SeekOutcome left' now waiting was next ended skipped more_skipped (Some packet) → status ≡ BadStream TooLong →
    WatchesLeft card left held held' a b from to watcher more_skipped status
unfolding watched_status
most_watched card left left' now held held' a b from to watcher waiting next was ended skipped more_skipped count packet
    status way most sought is =
    let behind = left_behind left now (way.bytes ++ sought.bytes)
    (Consumes-trans left left' now way.bytes sought.bytes way.read sought.reads.read) in
    let rest = behind.rest in
    let bytes = (way.bytes ++ sought.bytes) ++ rest in
    let nothing = sought.reads.nothing in
    let still = sought.reads.still in
    let may : MayCome ended rest = λ e. behind.none (sought.reads.end way.end e) in
    let both = may_both sought.bytes rest was ended nothing still may in
    let sum = sought.skipped in
    let few : more_skipped < 2 ^ 64 - 1 = sought.few way.found.low in
    let found : HasFound (way.bytes ++ sought.bytes) (way.packets ++ packet ∷ []) next ended (skipped + sought.passed) =
    found_more way.bytes sought.bytes waiting next packet way.packets was ended skipped sought.passed way.found nothing
    still sought.finds (omega (arith, few, sum)) in
    let cuts : cut_packets bytes ≡ way.packets ++ packet ∷ cut_packets (next ++ rest) =
    found.cuts rest may ∙ append_assoc way.packets (packet ∷ []) (cut_packets (next ++ rest)) in
    let before : skipped_before (length way.packets) zero bytes ≡ skipped + sought.passed =
    found_before way.bytes sought.bytes waiting next packet rest way.packets was ended skipped sought.passed way.found
    nothing still may sought.finds in
    let long : length way.packets ≡ 2 ^ 48 = way.counted ∙ most in
    let all = most_readable bytes way.packets packet (cut_packets (next ++ rest)) cuts long
    (λ n under. found.few rest may n (omega (arith, under, length-append way.packets (packet ∷ [])))) in
    let status_is : status ≡ watched_status card bytes = rw all.1 is in
    ends_so card left left' held held' a b from to watcher waiting was skipped count way (omega (arith, most))
    (sought.bytes ++ rest) both bytes (append_assoc way.bytes sought.bytes rest) behind.is_left all.0 status status_is
    (subst IsEnding (sym is) tt) more_skipped
    (sym (skipped_few bytes (length way.packets) more_skipped (before ∙ sym sum) few))

-- too many bytes that are in no packet
pub far_watched : (card : CardFields) (left left' now held held' : Option (List ℕ)) (a b : PageState) (from to : ℕ)
    (watcher : Watcher) (waiting : List ℕ) (was : Bool) (skipped last count : ℕ) (status : Status) →
    IsUnderWay card left left' held held' a b from to watcher waiting was skipped count → count ≤ 2 ^ 48 →
    SkipsTooMany left' now waiting was skipped → status ≡ BadStream TooLong → last ≡ 2 ^ 64 - 1 →
    WatchesLeft card left held held' a b from to watcher last status
unfolding watched_status
far_watched card left left' now held held' a b from to watcher waiting was skipped last count status way low sought is
    last_is =
    let behind = left_behind left now (way.bytes ++ sought.bytes)
    (Consumes-trans left left' now way.bytes sought.bytes way.read sought.reads.read) in
    let rest = behind.rest in
    let bytes = (way.bytes ++ sought.bytes) ++ rest in
    let nothing = sought.reads.nothing in
    let still = sought.reads.still in
    let may : MayCome sought.ended rest = λ e. behind.none (sought.reads.end way.end e) in
    let both = may_both sought.bytes rest was sought.ended nothing still may in
    let long : length way.packets ≤ 2 ^ 48 = let n = way.counted in omega (arith, n, low) in
    let many : (k : ℕ) → 2 ^ 64 - 1 ≤ skipped_before (length way.packets + k) zero bytes = λ k.
    found_many way.bytes sought.bytes waiting rest way.packets was sought.ended skipped k way.found nothing still may
    (sought.many rest may k) in
    let joined : bytes ≡ way.bytes ++ (sought.bytes ++ rest) = append_assoc way.bytes sought.bytes rest in
    let can : IsReadable bytes way.packets = subst (λ (xs : List ℕ). IsReadable xs way.packets) (sym joined)
    (found_readable way.bytes waiting (sought.bytes ++ rest) way.packets was skipped way.found both long) in
    let all = far_readable bytes way.packets can many in
    let status_is : status ≡ watched_status card bytes = rw all.1 is in
    let same : length way.packets + 0 ≡ length way.packets = omega arith in
    let far : 2 ^ 64 - 1 ≤ skipped_before (length way.packets) zero bytes = rw same at (many 0) in
    ends_so card left left' held held' a b from to watcher waiting was skipped count way low (sought.bytes ++ rest) both
    bytes joined behind.is_left all.0 status status_is (subst IsEnding (sym is) tt) last (omega (arith, last_is, far))

-- a search that found nothing more, for this cause
pub seek_stopped : (card : CardFields) (left left' now held held' : Option (List ℕ)) (a b : PageState) (from to : ℕ)
    (watcher : Watcher) (waiting : List ℕ) (was : Bool) (skipped last count : ℕ) (fault : SeekFault) (status : Status) →
    IsUnderWay card left left' held held' a b from to watcher waiting was skipped count → count ≤ 2 ^ 48 →
    SeekStop left' now waiting was skipped fault → status ≡ seek_stop_status fault →
    (fault ≡ seek.TooLong → last ≡ 2 ^ 64 - 1) →
    WatchesLeft card left held held' a b from to watcher last status
seek_stopped card left left' now held held' a b from to watcher waiting was skipped last count seek.Read status way low
    stop is many =
    search_stopped card left left' now held held' a b from to watcher waiting was skipped last count status way low
    stop.0 stop.1 is
seek_stopped card left left' now held held' a b from to watcher waiting was skipped last count seek.Write status way low
    stop is many =
    search_stopped card left left' now held held' a b from to watcher waiting was skipped last count status way low
    stop.0 stop.1 is
seek_stopped card left left' now held held' a b from to watcher waiting was skipped last count seek.TooLong status
    way low stop is many =
    far_watched card left left' now held held' a b from to watcher waiting was skipped last count status way low stop is
    (many refl)

-- what waits in the sink was handed on, and no more
pub handed : (card : CardFields) (left left' held : Option (List ℕ)) (old new : SinkState) (a b : PageState)
    (from to : ℕ) (watcher : Watcher) (waiting : List ℕ) (was : Bool) (skipped count : ℕ) →
    IsUnderWay card left left' held old.held a b from to watcher waiting was skipped count → new ≡ old →
    IsUnderWay card left left' held new.held a b from to watcher waiting was skipped count
handed card left left' held old new a b from to watcher waiting was skipped count way same =
    subst (λ (sink : SinkState). IsUnderWay card left left' held sink.held a b from to watcher waiting was skipped
    count)
    (sym same) way

-- a status of the outside isn't that all is done
pub outside_undone : (status : Status) → is_outside status ≡ true → status ≢ Done
outside_undone status is done = let wrong : true ≡ false = sym is ∙ ap is_outside done in cc
