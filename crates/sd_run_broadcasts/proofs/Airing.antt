-- What is sent of a live stream, from one packet to the next, and to its end.
use Rattle.std.proofs.Common.{◌≡◌, ◌⊎◌, ◌+◌, ◌-◌, ◌^◌, ◌<◌, ◌≤◌, ◌∙◌, ℕ, zero, suc, Bool, true, false, List, [], ◌∷◌}
use Rattle.std.proofs.Common.{◌++◌, length, refl, sym, ap, subst, inl, inr, arith, append_assoc, append-nil}
use Rattle.std.proofs.Common.{length-append, Option, Some, None, Result, Ok, Err}
use Rattle.std.specs.Prelude.{is_some}
use Rattle.std.specs.List.{concat}
use Rattle.std.specs.Io.KnownBytes.{Appends, Consumes, IsAtEnd}
use Rattle.std.proofs.KnownBytes.{Appends-nil, Appends-trans, Consumes-nil, Consumes-trans}
use Rattle.sd_base.specs.Types.{Packet, Packets, PacketNumber}
use Rattle.sd_ports.specs.Bytes.{IsPrefix, LosesPrefix}
use Rattle.sd_engine.specs.Cut.{cut_packets, skipped_before, read_from, readable, is_stream_too_long}
use Rattle.sd_engine.specs.Seeking.{MayCome, SeekOutcome, SeekStop, SkipsTooMany}
use Rattle.sd_engine.specs.Stage.{SinkState}
use Rattle.sd_engine.specs.Taken.{AreBytesLeft}
use Rattle.sd_engine.specs.declared.seeking.SeekFault.{SeekFault}
use Rattle.sd_engine.specs.declared.seeking.SeekFault.TheVariants as seek
use Rattle.sd_site_cards.specs.SiteFields.{SiteFields}
use Rattle.sd_spec.specs.Aired.{Verdict, Marked, Refused, Sent, Ends, verdict_of, by_verdict, aired, aired_from}
use Rattle.sd_spec.specs.Aired.{ended_from, left_by, left_from, none_left, left_out_marked, left_out_refused}
use Rattle.sd_spec.specs.Aired.{left_out_with_sent}
use Rattle.sd_spec.specs.Plan.{Plan}
use Rattle.sd_spec.specs.Sent.{body, broadcast, bytes_added, sent_bytes_from, closing_of, packets_from, sent}
use Rattle.sd_spec.proofs.Bodies.{body_bytes as bytes_of_body, closed_bytes}
use Rattle.sd_head.specs.Live.{IsLiveAfter, verdict_after}
use Rattle.sd_head.specs.declared.live.Live.{Live}
use Rattle.sd_head.proofs.Airing.{aired_alone, aired_end, aired_more, ended_alone, ended_end, ended_more}
use Rattle.sd_command_base.specs.declared.status.Status.{Status}
use Rattle.sd_command_base.specs.declared.status.Status.TheVariants.{DepotFault, SiteUsedUp}
use Rattle.sd_run_broadcasts.specs.Air.{air_report, aired_status, live_clear, live_end, live_sent, live_status}
use Rattle.sd_run_broadcasts.specs.Found.{HasFound, IsReadable}
use Rattle.sd_run_broadcasts.specs.OnAir.{body_bytes, bytes_for, closing_bytes, finished_status, report_after}
use Rattle.sd_run_broadcasts.specs.OnAir.{sent_status_at}
use Rattle.sd_run_broadcasts.specs.OnAir.{Finishes, IsSending, SendsLiveStream, SendsLive, SendsPacket, Stops}
use Rattle.sd_run_broadcasts.specs.Watch.{skipped_at}
use Rattle.sd_run_broadcasts.specs.declared.air_send.Finished.{Finished}
use Rattle.sd_run_broadcasts.proofs.Found.{all_readable, far_readable, found_all, found_before, found_last, found_many}
use Rattle.sd_run_broadcasts.proofs.Found.{found_more, found_none, found_readable, may_both, most_readable}
use Rattle.sd_run_broadcasts.proofs.Found.{readable_begins}
use Rattle.sd_run_broadcasts.proofs.HeadSending.{bytes_in_turn}
use Rattle.sd_run_broadcasts.proofs.Left.{left_behind, prefix_of_all, short_of_all}

-- a body and what other packets add to it
body_more : (plan : Plan) (before more : Packets) →
    concat (body plan (before ++ more)) ≡ concat (body plan before) ++ sent_bytes_from plan before more
body_more plan before more =
    bytes_of_body plan (before ++ more) ∙ bytes_in_turn plan [] before more
    ∙ ap (λ (bytes : List ℕ). bytes ++ sent_bytes_from plan before more) (sym (bytes_of_body plan before))

body_one : (plan : Plan) (before : Packets) (packet : Packet) →
    concat (body plan (before ++ packet ∷ [])) ≡ concat (body plan before) ++ bytes_added plan before packet
unfolding sent_bytes_from
body_one plan before packet =
    body_more plan before (packet ∷ [])
    ∙ ap (λ (bytes : List ℕ). concat (body plan before) ++ bytes) (append-nil (bytes_added plan before packet))

-- the packets that are sent, with one packet more
aired_one : (site : SiteFields) (past : Packets) (packet : Packet) → ended_from site [] 0 past ≡ None →
    aired site (past ++ packet ∷ [])
    ≡ aired site past ++ by_verdict (verdict_of site (aired site past) (length past) packet) (packet ∷ []) [] []
aired_one site past packet goes =
    let same : 0 + length past ≡ length past = omega arith in
    rw same at (aired_more site (packet ∷ []) [] 0 past goes
    ∙ ap (λ (ps : Packets). aired site past ++ ps) (aired_alone site (aired site past) (0 + length past) packet))

-- the bytes of what is sent, with one packet more
body_step : (plan : Plan) (past : Packets) (packet : Packet) → ended_from plan.site [] 0 past ≡ None →
    body_bytes plan (past ++ packet ∷ []) ≡ body_bytes plan past ++ bytes_for plan past packet
body_step plan past packet goes =
    ap (λ (ps : Packets). concat (body plan ps)) (aired_one plan.site past packet goes)
    ∙ by (verdict_after plan past packet)
  where
    before : Packets
    before = aired plan.site past

    same : concat (body plan (before ++ [])) ≡ concat (body plan before) ++ []
    same = ap (λ (ps : Packets). concat (body plan ps)) (append-nil before)
        ∙ sym (append-nil (concat (body plan before)))

    by : (v : Verdict) → concat (body plan (before ++ by_verdict v (packet ∷ []) [] []))
        ≡ concat (body plan before) ++ by_verdict v (bytes_added plan before packet) [] []
    by Marked = same
    by (Refused fault) = same
    by Sent = body_one plan before packet
    by Ends = same

-- what is sent of some first packets begins all that is sent
sent_begins : (plan : Plan) (bytes : List ℕ) (past more : Packets) → readable bytes ≡ past ++ more →
    ended_from plan.site [] 0 past ≡ None → IsPrefix (body_bytes plan past) (live_sent plan bytes)
unfolding live_sent
sent_begins plan bytes past more is goes =
    let before = aired plan.site past in
    let after = aired_from plan.site before (0 + length past) more in
    let all : live_clear plan.site bytes ≡ before ++ after =
    ap (aired plan.site) is ∙ aired_more plan.site more [] 0 past goes in
    let closing = concat (packets_from plan.site (sent plan (before ++ after)) (closing_of plan (before ++ after))) in (
      sent_bytes_from plan before after ++ closing,
      sym (append_assoc (concat (body plan before)) (sent_bytes_from plan before after) closing)
          ∙ ap (λ (xs : List ℕ). xs ++ closing) (sym (body_more plan before after))
          ∙ sym (closed_bytes plan (before ++ after))
          ∙ ap (λ (ps : Packets). concat (broadcast plan ps)) (sym all),
    )

-- the broadcast goes on behind one packet more, or ends before it
goes_by : (v : Verdict) (n : PacketNumber) → (by_verdict v None None (Some n) ≡ None) ⊎ (v ≡ Ends)
goes_by Marked n = inl refl
goes_by (Refused fault) n = inl refl
goes_by Sent n = inl refl
goes_by Ends n = inr refl

-- what is sent of some first packets, with what one more adds, begins all that is sent
one_begins : (plan : Plan) (bytes : List ℕ) (past more : Packets) (packet : Packet) →
    readable bytes ≡ (past ++ packet ∷ []) ++ more → ended_from plan.site [] 0 past ≡ None →
    IsPrefix (body_bytes plan past ++ bytes_for plan past packet) (live_sent plan bytes)
one_begins plan bytes past more packet is goes =
    let same : 0 + length past ≡ length past = omega arith in
    let one : ended_from plan.site [] 0 (past ++ packet ∷ [])
    ≡ by_verdict (verdict_after plan past packet) None None (Some (length past)) =
    rw same at (ended_more plan.site (packet ∷ []) [] 0 past goes
    ∙ ended_alone plan.site (aired plan.site past) (0 + length past) packet) in
    elim (goes_by (verdict_after plan past packet) (length past)) [
      | inl on ↦ subst (λ (xs : List ℕ). IsPrefix xs (live_sent plan bytes)) (body_step plan past packet goes)
          (sent_begins plan bytes (past ++ packet ∷ []) more is (one ∙ on))
      | inr ends ↦
          let none : bytes_for plan past packet ≡ [] =
          ap (λ (v : Verdict). by_verdict v (bytes_added plan (aired plan.site past) packet) [] []) ends in
          subst (λ (xs : List ℕ). IsPrefix xs (live_sent plan bytes))
          (sym (ap (λ (xs : List ℕ). body_bytes plan past ++ xs) none ∙ append-nil (body_bytes plan past)))
          (sent_begins plan bytes past (packet ∷ more) (is ∙ append_assoc past (packet ∷ []) more) goes)
    ]

-- nothing more is left out from a packet on before which the broadcast ends
module _ (site : SiteFields) (packet : Packet) (rest : Packets) where
  left_step : (v : Verdict) (before : Packets) (n : PacketNumber) (first : Packet) (past : Packets) →
      by_verdict v (ended_from site (before ++ first ∷ []) (n + 1) past) (ended_from site before (n + 1) past) (Some n)
      ≡ None →
      verdict_of site (before ++ by_verdict v (first ∷ aired_from site (before ++ first ∷ []) (n + 1) past)
      (aired_from site before (n + 1) past) []) ((n + 1) + length past) packet ≡ Ends →
      (ended_from site (before ++ first ∷ []) (n + 1) past ≡ None →
      verdict_of site ((before ++ first ∷ []) ++ aired_from site (before ++ first ∷ []) (n + 1) past)
      ((n + 1) + length past) packet ≡ Ends →
      left_from site (before ++ first ∷ []) (n + 1) (past ++ packet ∷ rest)
      ≡ left_from site (before ++ first ∷ []) (n + 1) past) →
      (ended_from site before (n + 1) past ≡ None →
      verdict_of site (before ++ aired_from site before (n + 1) past) ((n + 1) + length past) packet ≡ Ends →
      left_from site before (n + 1) (past ++ packet ∷ rest) ≡ left_from site before (n + 1) past) →
      left_by v first (left_from site (before ++ first ∷ []) (n + 1) (past ++ packet ∷ rest))
      (left_from site before (n + 1) (past ++ packet ∷ rest)) none_left
      ≡ left_by v first (left_from site (before ++ first ∷ []) (n + 1) past)
      (left_from site before (n + 1) past) none_left
  left_step Marked before n first past goes ends sent left = ap left_out_marked (left goes ends)
  left_step (Refused fault) before n first past goes ends sent left = ap (left_out_refused fault) (left goes ends)
  left_step Sent before n first past goes ends sent left =
      ap (left_out_with_sent first) (sent goes (ap (λ (ps : Packets). verdict_of site ps ((n + 1) + length past) packet)
      (append_assoc before (first ∷ []) (aired_from site (before ++ first ∷ []) (n + 1) past)) ∙ ends))
  left_step Ends before n first past goes ends sent left = refl

  left_end : (before : Packets) (n : PacketNumber) (past : Packets) → ended_from site before n past ≡ None →
      verdict_of site (before ++ aired_from site before n past) (n + length past) packet ≡ Ends →
      left_from site before n (past ++ packet ∷ rest) ≡ left_from site before n past
  unfolding aired_from ended_from left_from
  left_end before n [] goes ends =
      let same : n + 0 ≡ n = omega arith in
      let here : verdict_of site before n packet ≡ Ends =
      rw same at (ap (λ (ps : Packets). verdict_of site ps (n + 0) packet) (sym (append-nil before)) ∙ ends) in
      rw here refl
  left_end before n (first ∷ past) goes ends =
      let same : n + suc (length past) ≡ (n + 1) + length past = omega arith in
      left_step (verdict_of site before n first) before n first past goes (rw same at ends)
      (left_end (before ++ first ∷ []) (n + 1) past) (left_end before (n + 1) past)

-- the status at the end of a stream of which nothing more is sent
status_longer : (longer : Bool) (count : ℕ) → sent_status_at longer count ≡ aired_status None longer count
status_longer true count = refl
status_longer false count = refl

-- these packets are all that is read of what is left, and so many bytes are in none
record ReadsAll (left : Option (List ℕ)) (packets : Packets) (last : ℕ) (longer : Bool) : Type 0 where
  bytes : List ℕ
  is_left : AreBytesLeft left bytes
  is : readable bytes ≡ packets
  longer_is : is_stream_too_long bytes ≡ longer
  last_is : skipped_at bytes (length packets) ≡ last

-- the count of bytes that are in no packet, of few
skipped_few : (bytes : List ℕ) (k skipped : ℕ) → skipped_before k zero bytes ≡ skipped → skipped < 2 ^ 64 - 1 →
    skipped_at bytes k ≡ skipped
skipped_few bytes k skipped is low = omega (arith, is, low)

-- the broadcast of all packets that are read
module _ (plan : Plan) (left held held' held2 : Option (List ℕ)) (past : Packets) (last : ℕ) (longer : Bool)
    (goes : ended_from plan.site [] 0 past ≡ None) (wrote : Appends held held' (body_bytes plan past))
    (reads : ReadsAll left past last longer) where
  sent_is : live_sent plan reads.bytes ≡ body_bytes plan past ++ closing_bytes plan past
  unfolding live_sent
  sent_is = ap (λ (ps : Packets). concat (broadcast plan (aired plan.site ps))) reads.is
      ∙ closed_bytes plan (aired plan.site past)

  report_is : report_after plan past last ≡ air_report plan reads.bytes
  unfolding air_report
  report_is = rw (reads.is, goes, reads.last_is) refl

  status_is : sent_status_at longer (length past) ≡ live_status plan.site reads.bytes
  unfolding live_status
  status_is = rw (reads.is, goes, reads.longer_is) (status_longer longer (length past))

  finishes : (result : Result Finished Status) → Finishes plan past last longer held' held2 result →
      SendsLiveStream plan reads.bytes held held2 result
  finishes (Ok finished) h = (
    ap (λ (f : Finished). f.report) h.0 ∙ report_is,
    ap finished_status h.0 ∙ status_is,
    subst (Appends held held2) (sym sent_is) (Appends-trans held held' held2 _ _ wrote h.1),
  )
  finishes (Err status) h = (
    h.0,
    prefix_of_all held held' held2 _ _ (live_sent plan reads.bytes) wrote h.1 ([], append-nil _ ∙ sym sent_is),
  )

  ends_so : (result : Result Finished Status) → Finishes plan past last longer held' held2 result →
      SendsLive plan left held held2 result
  ends_so result h = record { bytes = reads.bytes; is_left = reads.is_left; sends = finishes result h }

-- nothing was read yet
pub not_begun : (plan : Plan) (left held : Option (List ℕ)) (live : Live) (waiting : List ℕ) → waiting ≡ [] →
    IsLiveAfter plan [] live → IsSending plan left left held held live waiting false 0 0
unfolding sent_bytes_from aired_from
not_begun plan left held live waiting none keeps = record {
  bytes = [];
  packets = [];
  read = Consumes-nil left;
  end = λ is. cc;
  found = rw none found_none;
  counted = refl;
  keeps = keeps;
  wrote = begins;
}
  where
    begins : Appends held held (body_bytes plan [])
    begins = subst (Appends held held) (sym (bytes_of_body plan [])) (Appends-nil held)

module _ (plan : Plan) (left left' now held held' : Option (List ℕ)) (live : Live) (waiting next : List ℕ)
    (was ended : Bool) (skipped more_skipped count : ℕ)
    (way : IsSending plan left left' held held' live waiting was skipped count) where
  -- the end of a stream
  all_read : count ≤ 2 ^ 48 → SeekOutcome left' now waiting was next ended skipped more_skipped None →
      ReadsAll left way.packets more_skipped false
  all_read low sought =
      let behind = left_behind left now (way.bytes ++ sought.bytes)
      (Consumes-trans left left' now way.bytes sought.bytes way.read sought.reads.read) in
      let bytes = way.bytes ++ sought.bytes in
      let none = sought.finds.2 in
      let end : IsAtEnd now = sought.reads.end way.end sought.finds.0 in
      let sum = sought.skipped in
      let few : more_skipped < 2 ^ 64 - 1 = sought.few way.found.low in
      let cuts : cut_packets bytes ≡ way.packets =
      found_all way.bytes sought.bytes waiting way.packets was skipped sought.passed way.found sought.reads.nothing
      none in
      let before : skipped_before (length way.packets) zero bytes ≡ skipped + sought.passed =
      found_last way.bytes sought.bytes waiting way.packets was skipped sought.passed way.found sought.reads.nothing
      none in
      let long : length way.packets ≤ 2 ^ 48 = let n = way.counted in omega (arith, n, low) in
      let all = all_readable bytes way.packets cuts long (way.found.few sought.bytes sought.reads.nothing)
      (omega (arith, before, sum, few)) in
      record {
        bytes = bytes;
        is_left = subst (AreBytesLeft left) (ap (λ (xs : List ℕ). bytes ++ xs) (behind.none end) ∙ append-nil bytes)
            behind.is_left;
        is = all.0;
        longer_is = all.1;
        last_is = skipped_few bytes (length way.packets) more_skipped (before ∙ sym sum) few;
      }

  -- a packet behind the most
  most_read : (packet : Packet) → count ≡ 2 ^ 48 →
      SeekOutcome left' now waiting was next ended skipped more_skipped (Some packet) →
      ReadsAll left way.packets more_skipped true
  most_read packet most sought =
      let behind = left_behind left now (way.bytes ++ sought.bytes)
      (Consumes-trans left left' now way.bytes sought.bytes way.read sought.reads.read) in
      let rest = behind.rest in
      let bytes = (way.bytes ++ sought.bytes) ++ rest in
      let nothing = sought.reads.nothing in
      let still = sought.reads.still in
      let may : MayCome ended rest = λ e. behind.none (sought.reads.end way.end e) in
      let sum = sought.skipped in
      let few : more_skipped < 2 ^ 64 - 1 = sought.few way.found.low in
      let found : HasFound (way.bytes ++ sought.bytes) (way.packets ++ packet ∷ []) next ended
      (skipped + sought.passed) =
      found_more way.bytes sought.bytes waiting next packet way.packets was ended skipped sought.passed way.found
      nothing still sought.finds (omega (arith, few, sum)) in
      let cuts : cut_packets bytes ≡ way.packets ++ packet ∷ cut_packets (next ++ rest) =
      found.cuts rest may ∙ append_assoc way.packets (packet ∷ []) (cut_packets (next ++ rest)) in
      let before : skipped_before (length way.packets) zero bytes ≡ skipped + sought.passed =
      found_before way.bytes sought.bytes waiting next packet rest way.packets was ended skipped sought.passed
      way.found nothing still may sought.finds in
      let long : length way.packets ≡ 2 ^ 48 = way.counted ∙ most in
      let all = most_readable bytes way.packets packet (cut_packets (next ++ rest)) cuts long
      (λ n under. found.few rest may n (omega (arith, under, length-append way.packets (packet ∷ [])))) in
      record {
        bytes = bytes;
        is_left = behind.is_left;
        is = all.0;
        longer_is = all.1;
        last_is = skipped_few bytes (length way.packets) more_skipped (before ∙ sym sum) few;
      }

  -- too many bytes that are in no packet
  far_read : count ≤ 2 ^ 48 → SkipsTooMany left' now waiting was skipped →
      ReadsAll left way.packets (2 ^ 64 - 1) true
  far_read low sought =
      let behind = left_behind left now (way.bytes ++ sought.bytes)
      (Consumes-trans left left' now way.bytes sought.bytes way.read sought.reads.read) in
      let rest = behind.rest in
      let bytes = (way.bytes ++ sought.bytes) ++ rest in
      let nothing = sought.reads.nothing in
      let still = sought.reads.still in
      let may : MayCome sought.ended rest = λ e. behind.none (sought.reads.end way.end e) in
      let both = may_both sought.bytes rest was sought.ended nothing still may in
      let long : length way.packets ≤ 2 ^ 48 = let n = way.counted in omega (arith, n, low) in
      let many : (k : ℕ) → 2 ^ 64 - 1 ≤ skipped_before (length way.packets + k) zero bytes = λ k.
      found_many way.bytes sought.bytes waiting rest way.packets was sought.ended skipped k way.found nothing still may
      (sought.many rest may k) in
      let joined : bytes ≡ way.bytes ++ (sought.bytes ++ rest) = append_assoc way.bytes sought.bytes rest in
      let can : IsReadable bytes way.packets = subst (λ (xs : List ℕ). IsReadable xs way.packets) (sym joined)
      (found_readable way.bytes waiting (sought.bytes ++ rest) way.packets was skipped way.found both long) in
      let all = far_readable bytes way.packets can many in
      let same : length way.packets + 0 ≡ length way.packets = omega arith in
      let far : 2 ^ 64 - 1 ≤ skipped_before (length way.packets) zero bytes = rw same at (many 0) in
      record {
        bytes = bytes;
        is_left = behind.is_left;
        is = all.0;
        longer_is = all.1;
        last_is = omega (arith, far);
      }

  -- the stream ended
  pub all_sent : (held2 : Option (List ℕ)) (result : Result Finished Status) → count ≤ 2 ^ 48 →
      SeekOutcome left' now waiting was next ended skipped more_skipped None →
      Finishes plan way.packets more_skipped false held' held2 result → SendsLive plan left held held2 result
  all_sent held2 result low sought h =
      ends_so plan left held held' held2 way.packets more_skipped false way.keeps.goes_on way.wrote
      (all_read low sought) result h

  -- there are more packets than are read
  pub most_sent : (packet : Packet) (held2 : Option (List ℕ)) (result : Result Finished Status) → count ≡ 2 ^ 48 →
      SeekOutcome left' now waiting was next ended skipped more_skipped (Some packet) →
      Finishes plan way.packets more_skipped true held' held2 result → SendsLive plan left held held2 result
  most_sent packet held2 result most sought h =
      ends_so plan left held held' held2 way.packets more_skipped true way.keeps.goes_on way.wrote
      (most_read packet most sought) result h

  -- the last search, behind as many packets as are read
  pub last_sent : (found : Option Packet) (used_up : Bool) (held2 : Option (List ℕ)) (result : Result Finished Status) →
      used_up ≡ is_some found → count ≡ 2 ^ 48 →
      SeekOutcome left' now waiting was next ended skipped more_skipped found →
      Finishes plan way.packets more_skipped used_up held' held2 result → SendsLive plan left held held2 result
  last_sent None used_up held2 result is most sought h =
      all_sent held2 result (omega (arith, most)) sought
      (subst (λ (b : Bool). Finishes plan way.packets more_skipped b held' held2 result) is h)
  last_sent (Some packet) used_up held2 result is most sought h =
      most_sent packet held2 result most sought
      (subst (λ (b : Bool). Finishes plan way.packets more_skipped b held' held2 result) is h)

  -- a search that the outside stopped
  search_stopped : count ≤ 2 ^ 48 → was ≡ false → LosesPrefix left' now →
      SendsLive plan left held held' (Err DepotFault)
  search_stopped low going lost =
      let behind = left_behind left now (way.bytes ++ lost.0)
      (Consumes-trans left left' now way.bytes lost.0 way.read lost.1) in
      let all = lost.0 ++ behind.rest in
      let may : MayCome was all = λ end. let wrong : true ≡ false = sym end ∙ going in cc in
      let long : length way.packets ≤ 2 ^ 48 = let n = way.counted in omega (arith, n, low) in
      let bytes = way.bytes ++ all in
      let can = found_readable way.bytes waiting all way.packets was skipped way.found may long in
      record {
        bytes = bytes;
        is_left = subst (AreBytesLeft left) (append_assoc way.bytes lost.0 behind.rest) behind.is_left;
        sends = (
          inr refl,
          short_of_all held held' _ (live_sent plan bytes) way.wrote
              (sent_begins plan bytes way.packets (read_from bytes (length way.packets) can.rest)
              (readable_begins bytes way.packets can) way.keeps.goes_on),
        );
      }

  -- a search that found nothing more, for this cause
  pub seek_stopped : (fault : SeekFault) (held2 : Option (List ℕ)) (result : Result Finished Status) → count ≤ 2 ^ 48 →
      SeekStop left' now waiting was skipped fault → Stops plan way.packets fault held' held2 result →
      SendsLive plan left held held2 result
  seek_stopped seek.Read held2 result low stop h =
      subst (SendsLive plan left held held2) (sym h.0)
      (subst (λ (last : Option (List ℕ)). SendsLive plan left held last (Err DepotFault)) (sym h.1)
      (search_stopped low stop.0 stop.1))
  seek_stopped seek.Write held2 result low stop h =
      subst (SendsLive plan left held held2) (sym h.0)
      (subst (λ (last : Option (List ℕ)). SendsLive plan left held last (Err DepotFault)) (sym h.1)
      (search_stopped low stop.0 stop.1))
  seek_stopped seek.TooLong held2 result low stop h =
      ends_so plan left held held' held2 way.packets (2 ^ 64 - 1) true way.keeps.goes_on way.wrote (far_read low stop)
      result h

-- what is known once a packet was found, before it is taken
pub record IsFound (plan : Plan) (left now held held' : Option (List ℕ)) (live : Live) (waiting : List ℕ) (ended : Bool)
    (skipped count : ℕ) (packet : Packet) : Type 0 where
  pub bytes : List ℕ
  pub packets : Packets
  pub read : Consumes left now bytes
  pub end : ended ≡ true → IsAtEnd now
  pub found : HasFound bytes (packets ++ packet ∷ []) waiting ended skipped
  pub before : (more : List ℕ) → MayCome ended more → skipped_at (bytes ++ more) (length packets) ≡ skipped
  pub counted : length packets ≡ count
  pub keeps : IsLiveAfter plan packets live
  pub wrote : Appends held held' (body_bytes plan packets)

-- a search that found a packet
pub packet_found : (plan : Plan) (left left' now held held' : Option (List ℕ)) (live : Live) (waiting next : List ℕ)
    (was ended : Bool) (skipped more_skipped count : ℕ) (packet : Packet) →
    IsSending plan left left' held held' live waiting was skipped count →
    SeekOutcome left' now waiting was next ended skipped more_skipped (Some packet) →
    IsFound plan left now held held' live next ended more_skipped count packet
packet_found plan left left' now held held' live waiting next was ended skipped more_skipped count packet way sought =
    let nothing = sought.reads.nothing in
    let still = sought.reads.still in
    let low : more_skipped < 2 ^ 64 - 1 = sought.few way.found.low in
    let sum = sought.skipped in
    let found : HasFound (way.bytes ++ sought.bytes) (way.packets ++ packet ∷ []) next ended (skipped + sought.passed) =
    found_more way.bytes sought.bytes waiting next packet way.packets was ended skipped sought.passed way.found nothing
    still sought.finds (omega (arith, low, sum)) in
    record {
      bytes = way.bytes ++ sought.bytes;
      packets = way.packets;
      read = Consumes-trans left left' now way.bytes sought.bytes way.read sought.reads.read;
      end = sought.reads.end way.end;
      found = subst (HasFound (way.bytes ++ sought.bytes) (way.packets ++ packet ∷ []) next ended) (sym sum) found;
      before = λ more may.
          let all = (way.bytes ++ sought.bytes) ++ more in
          let before : skipped_before (length way.packets) zero all ≡ skipped + sought.passed =
          found_before way.bytes sought.bytes waiting next packet more way.packets was ended skipped sought.passed
          way.found nothing still may sought.finds in
          skipped_few all (length way.packets) more_skipped (before ∙ sym sum) low;
      counted = way.counted;
      keeps = way.keeps;
      wrote = way.wrote;
    }

module _ (plan : Plan) (left now held held' held2 : Option (List ℕ)) (live later : Live) (waiting : List ℕ)
    (ended : Bool) (skipped count : ℕ) (packet : Packet)
    (h : IsFound plan left now held held' live waiting ended skipped count packet) (low : count < 2 ^ 48) where
  under : length h.packets < 2 ^ 48
  under = let n = h.counted in omega (arith, n, low)

  -- a packet with which the broadcast goes on
  pub packet_passed : (on : Bool) → on ≡ true →
      ((past : Packets) → IsLiveAfter plan past live → length past < 2 ^ 48 →
      SendsPacket plan past packet held' held2 live later (Ok on)) →
      IsSending plan left now held held2 later waiting ended skipped (count + 1)
  packet_passed on is sends =
      let sent : SendsPacket plan h.packets packet held' held2 live later (Ok true) =
      subst (λ (b : Bool). SendsPacket plan h.packets packet held' held2 live later (Ok b)) is
      (sends h.packets h.keeps under) in
      record {
        bytes = h.bytes;
        packets = h.packets ++ packet ∷ [];
        read = h.read;
        end = h.end;
        found = h.found;
        counted = let n = h.counted in omega (arith, n, length-append h.packets (packet ∷ []));
        keeps = sent.0;
        wrote = subst (Appends held held2) (sym (body_step plan h.packets packet h.keeps.goes_on))
            (Appends-trans held held' held2 _ _ h.wrote sent.1);
      }

  -- all the bytes, and the packets that are read of them
  record Behind : Type 0 where
    bytes : List ℕ
    is_left : AreBytesLeft left bytes
    more : Packets
    is : readable bytes ≡ (h.packets ++ packet ∷ []) ++ more
    before : skipped_at bytes (length h.packets) ≡ skipped

  behind : Behind
  behind =
      let left_over = left_behind left now h.bytes h.read in
      let rest = left_over.rest in
      let may : MayCome ended rest = λ is. left_over.none (h.end is) in
      let long : length (h.packets ++ packet ∷ []) ≤ 2 ^ 48 =
      omega (arith, under, length-append h.packets (packet ∷ [])) in
      let can = found_readable h.bytes waiting rest (h.packets ++ packet ∷ []) ended skipped h.found may long in
      record {
        bytes = h.bytes ++ rest;
        is_left = left_over.is_left;
        more = read_from (h.bytes ++ rest) (length (h.packets ++ packet ∷ [])) can.rest;
        is = readable_begins (h.bytes ++ rest) (h.packets ++ packet ∷ []) can;
        before = h.before rest may;
      }

  -- a packet at which the outside stopped it
  pub packet_stopped : (status : Status) →
      ((past : Packets) → IsLiveAfter plan past live → length past < 2 ^ 48 →
      SendsPacket plan past packet held' held2 live later (Err status)) →
      SendsLive plan left held held2 (Err status)
  packet_stopped status sends =
      let sent = sends h.packets h.keeps under in
      record {
        bytes = behind.bytes;
        is_left = behind.is_left;
        sends = (
          sent.0,
          prefix_of_all held held' held2 _ _ (live_sent plan behind.bytes) h.wrote sent.1
              (one_begins plan behind.bytes h.packets behind.more packet behind.is h.keeps.goes_on),
        );
      }

  -- what is read of a stream whose broadcast ends before the packet
  module _ (ends : verdict_after plan h.packets packet ≡ Ends) where
    same : 0 + length h.packets ≡ length h.packets
    same = omega arith

    read_is : readable behind.bytes ≡ h.packets ++ packet ∷ behind.more
    read_is = behind.is ∙ append_assoc h.packets (packet ∷ []) behind.more

    here : verdict_of plan.site (aired plan.site h.packets) (0 + length h.packets) packet ≡ Ends
    here = ap (λ (n : ℕ). verdict_of plan.site (aired plan.site h.packets) n packet) same ∙ ends

    sent_all : live_clear plan.site behind.bytes ≡ aired plan.site h.packets
    sent_all = ap (aired plan.site) read_is
        ∙ aired_more plan.site (packet ∷ behind.more) [] 0 h.packets h.keeps.goes_on
        ∙ ap (λ (ps : Packets). aired plan.site h.packets ++ ps)
        (aired_end plan.site (aired plan.site h.packets) (0 + length h.packets) packet behind.more here)
        ∙ append-nil (aired plan.site h.packets)

    end_is : live_end plan.site behind.bytes ≡ Some (length h.packets)
    end_is = ap (ended_from plan.site [] 0) read_is
        ∙ ended_more plan.site (packet ∷ behind.more) [] 0 h.packets h.keeps.goes_on
        ∙ ended_end plan.site (aired plan.site h.packets) (0 + length h.packets) packet behind.more here
        ∙ ap (λ (n : ℕ). Some n) same

    left_is : left_from plan.site [] 0 (readable behind.bytes) ≡ left_from plan.site [] 0 h.packets
    left_is = ap (left_from plan.site [] 0) read_is
        ∙ left_end plan.site packet behind.more [] 0 h.packets h.keeps.goes_on here

    full_report : report_after plan h.packets skipped ≡ air_report plan behind.bytes
    unfolding air_report
    full_report = rw (sent_all, end_is, left_is, behind.before) refl

    full_status : SiteUsedUp (length h.packets) ≡ live_status plan.site behind.bytes
    unfolding live_status
    full_status = rw end_is refl

    full_is : live_sent plan behind.bytes ≡ body_bytes plan h.packets ++ closing_bytes plan h.packets
    unfolding live_sent
    full_is = ap (λ (ps : Packets). concat (broadcast plan ps)) sent_all
        ∙ closed_bytes plan (aired plan.site h.packets)

    wrote_still : Appends held' held2 [] → Appends held held2 (body_bytes plan h.packets)
    wrote_still none = subst (Appends held held2) (append-nil (body_bytes plan h.packets))
        (Appends-trans held held' held2 _ [] h.wrote none)

    full_finishes : (held3 : Option (List ℕ)) (result : Result Finished Status) → Appends held' held2 [] →
        Finishes plan h.packets skipped true held2 held3 result → SendsLiveStream plan behind.bytes held held3 result
    full_finishes held3 (Ok finished) none f = (
      ap (λ (x : Finished). x.report) f.0 ∙ full_report,
      ap finished_status f.0 ∙ full_status,
      subst (Appends held held3) (sym full_is) (Appends-trans held held2 held3 _ _ (wrote_still none) f.1),
    )
    full_finishes held3 (Err status) none f = (
      f.0,
      prefix_of_all held held2 held3 _ _ (live_sent plan behind.bytes) (wrote_still none) f.1
          ([], append-nil _ ∙ sym full_is),
    )

  -- the broadcast ends before the packet
  pub full_sent : (on : Bool) (held3 : Option (List ℕ)) (result : Result Finished Status) → on ≡ false →
      ((past : Packets) → IsLiveAfter plan past live → length past < 2 ^ 48 →
      SendsPacket plan past packet held' held2 live later (Ok on)) →
      ((past : Packets) → IsLiveAfter plan past later → Finishes plan past skipped true held2 held3 result) →
      SendsLive plan left held held3 result
  full_sent on held3 result is sends f =
      let sent : SendsPacket plan h.packets packet held' held2 live later (Ok false) =
      subst (λ (b : Bool). SendsPacket plan h.packets packet held' held2 live later (Ok b)) is
      (sends h.packets h.keeps under) in
      record {
        bytes = behind.bytes;
        is_left = behind.is_left;
        sends = full_finishes sent.0 held3 result sent.2
            (f h.packets (subst (IsLiveAfter plan h.packets) (sym sent.1) h.keeps));
      }

-- what waits in the sink was handed on, and no more
pub handed : (plan : Plan) (left left' held : Option (List ℕ)) (old new : SinkState) (live : Live) (waiting : List ℕ)
    (was : Bool) (skipped count : ℕ) → IsSending plan left left' held old.held live waiting was skipped count →
    new ≡ old → IsSending plan left left' held new.held live waiting was skipped count
handed plan left left' held old new live waiting was skipped count way same =
    subst (λ (sink : SinkState). IsSending plan left left' held sink.held live waiting was skipped count) (sym same) way
