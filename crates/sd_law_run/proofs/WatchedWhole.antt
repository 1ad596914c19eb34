-- What `watch` leaves of the whole broadcast of a steady clear stream.
use Rattle.std.proofs.Common.{◌≡◌, ℕ, ◌-◌, ◌*◌, ◌^◌, ◌<◌, ◌++◌, Bool, true, false, List, [], ◌∷◌, length, reverse}
use Rattle.std.proofs.Common.{Some, refl, sym, ap, subst, ◌∙◌, arith, append-nil}
use Rattle.std.specs.Prelude.{min, if◌then◌else◌}
use Rattle.std.specs.List.{concat, list_any}
use Rattle.std.specs.Io.KnownBytes.{Appends}
use Rattle.sd_base.specs.Types.{Bytes, Packets}
use Rattle.sd_site_cards.specs.CardFields.{CardFields, card_of, site_card}
use Rattle.sd_site_cards.proofs.Made.{made_is_card}
use Rattle.sd_engine.specs.Cut.{is_stream_too_long, readable}
use Rattle.sd_spec.specs.Plan.{Plan, IsPlan}
use Rattle.sd_spec.specs.Refused.{IsSendable}
use Rattle.sd_spec.specs.Sent.{broadcast}
use Rattle.sd_spec.specs.Offered.{out_from}
use Rattle.sd_spec.specs.Ending.{ending_of}
use Rattle.sd_spec.specs.Taken.{taken_keys}
use Rattle.sd_spec.specs.declared.report.Tally.{Tally}
use Rattle.sd_spec.specs.Counting.{counting, is_marked, tried_keys}
use Rattle.sd_spec.specs.Reports.{report_of, reports, run_end}
use Rattle.sd_law_broadcast.specs.Packets.{AreWholePackets}
use Rattle.sd_law_broadcast.specs.Synced.{AreSynced}
use Rattle.sd_law_broadcast.proofs.Counted.{broadcast_short}
use Rattle.sd_law_broadcast.proofs.Synced.{broadcast_synced}
use Rattle.sd_law_losses.specs.Confirmed.{opened_by}
use Rattle.sd_law_losses.specs.Endings.{first_revoked, whole_ending}
use Rattle.sd_law_losses.proofs.OneRun.{AreOneRun}
use Rattle.sd_law_losses.proofs.Theorem.{whole_ended, whole_opened}
use Rattle.sd_law_losses.proofs.Writing.{onto}
use Rattle.sd_law_watch.specs.Steady.{are_steady}
use Rattle.sd_law_watch.proofs.Broadcast.{steady_counts}
use Rattle.sd_law_watch.proofs.Trying.{few_refused, tried_are}
use Rattle.sd_command_base.specs.declared.status.Status.{Status}
use Rattle.sd_command_base.specs.declared.status.Status.TheVariants.{BadStream}
use Rattle.sd_command_base.specs.declared.stream_refusal.StreamRefusal.TheVariants.{TooLong}
use Rattle.sd_command_base.specs.Texts.{line_of_status}
use Rattle.sd_command_base.specs.Outside.{IoState}
use Rattle.sd_command_base.specs.Results.{RunResult}
use Rattle.sd_command_base.specs.Shown.{word_at}
use Rattle.sd_run_broadcasts.specs.Receive.{ending_status}
use Rattle.sd_run_broadcasts.specs.Watch.{report_lines, watch_report_line, watch_meaning, watched_lines, watched_of}
use Rattle.sd_run_broadcasts.specs.Watch.{watched_status}
use Rattle.sd_run_broadcasts.proofs.Found.{all_readable}
use Rattle.sd_law_run.specs.Headline.{Names, file_in, IsUndisturbed, card_file_for}
use Rattle.sd_law_run.specs.Opened.{unrevoked_periods, revoked_status}
use Rattle.sd_law_run.specs.Sendable.{AreSendable}
use Rattle.sd_law_run.specs.Watched.{WholeResult, all_count_tally}
use Rattle.sd_law_run.proofs.Broadcasts.{whole_line, whole_status}
use Rattle.sd_law_run.proofs.Keyed.{keys_taken}
use Rattle.sd_law_run.proofs.Parts.{card_same}
use Rattle.sd_law_run.proofs.Reported.{packets_told}
use Rattle.sd_law_run.proofs.Watched.{watch_part}
use Rattle.sd_law_run.proofs.WholeTold.{joined_cut, joined_skips, none_told, one_report, run_ends, whole_one_run}

module _ (plan : Plan) (clear : List (List ℕ)) (sends : AreSendable plan clear)
    (steady : are_steady clear ≡ true) (unmarked : list_any is_marked clear ≡ false) (u : ℕ)
    (leaf : u < 2 ^ plan.site.height) where
  abbrev card : CardFields
  card = site_card plan.site u

  abbrev packets : Packets
  packets = broadcast plan clear

  abbrev stream : Bytes
  stream = concat packets

  is : IsPlan plan
  is = sends.is_plan

  can : IsSendable plan.site clear
  can = sends.sendable

  whole : AreWholePackets clear
  whole = sends.whole

  all : counting card [] packets ≡ packets
  all = steady_counts plan clear u is can whole leaf steady unmarked

  synced : AreSynced packets
  synced = broadcast_synced plan clear is can whole sends.synced

  leaf_is : card.leaf ≡ u
  unfolding card_of
  leaf_is = refl

  height_is : card.height ≡ plan.site.height
  unfolding card_of
  height_is = refl

  -- all packets of the stream are read
  read : (readable stream ≡ packets) × (is_stream_too_long stream ≡ false)
  read =
      all_readable stream packets (joined_cut packets synced)
      (omega (arith, broadcast_short plan is clear can))
      (λ n under. omega (arith, joined_skips n packets synced))
      (omega (arith, joined_skips (length packets) packets synced))

  opened : out_from card [] packets ≡ opened_by plan u clear
  opened = whole_opened plan clear u is can whole leaf

  ended : ending_of card (reverse packets) ≡ whole_ending (first_revoked plan u clear)
  ended = whole_ended plan clear u is can whole leaf

  one : AreOneRun card (onto packets [])
  one = whole_one_run plan clear u is can whole leaf

  bytes_are : watched_of card stream ≡ concat (opened_by plan u clear)
  unfolding watched_of
  bytes_are =
      ap (λ (ps : Packets). concat (out_from card [] (counting card [] ps))) read.0
      ∙ ap (λ (ps : Packets). concat (out_from card [] ps)) all
      ∙ ap (λ (ps : Packets). concat ps) opened

  status_is : watched_status card stream ≡ revoked_status u (first_revoked plan u clear)
  unfolding watched_status
  status_is =
      ap (λ (b : Bool). if b then BadStream TooLong
      else ending_status card.leaf (ending_of card (reverse (counting card [] (readable stream))))) read.1
      ∙ ap (λ (ps : Packets). ending_status card.leaf (ending_of card (reverse (counting card [] ps)))) read.0
      ∙ ap (λ (ps : Packets). ending_status card.leaf (ending_of card (reverse ps))) all
      ∙ ap (ending_status card.leaf) ended
      ∙ ap (λ (v : ℕ). ending_status v (whole_ending (first_revoked plan u clear))) leaf_is
      ∙ whole_status u (first_revoked plan u clear)

  lines_are : watched_lines card stream ≡ watch_report_line u 0 (report_of card packets) ∷ []
  unfolding watched_lines
  lines_are =
      ap (λ (ps : Packets). report_lines card stream (reports card ps)) read.0
      ∙ ap (report_lines card stream) (one_report card packets all one)
      ∙ ap (λ (n : ℕ). watch_report_line card.leaf (min n (2 ^ 64 - 1)) (report_of card packets) ∷ [])
      (joined_skips (report_of card packets).packets packets synced)
      ∙ ap (λ (v : ℕ). watch_report_line v 0 (report_of card packets) ∷ []) leaf_is

  tally_is : (report_of card packets).tally ≡ all_count_tally
  unfolding report_of
  tally_is = none_told card [] packets all

  wrote_is : (report_of card packets).written ≡ min (length (opened_by plan u clear)) (2 ^ 64 - 1)
  unfolding report_of
  wrote_is =
      ap (λ (ps : Packets). min (length (out_from card [] ps)) (2 ^ 64 - 1)) all
      ∙ ap (λ (ps : Packets). min (length ps) (2 ^ 64 - 1)) opened

  ending_is : (report_of card packets).ending ≡ whole_ending (first_revoked plan u clear)
  unfolding report_of
  ending_is =
      ap (λ (ps : Packets). run_end card (reverse ps)) all
      ∙ run_ends card packets one
      ∙ ended

  keys_are : tried_keys card [] (readable stream) ≡ unrevoked_periods plan u clear
  unfolding report_of
  keys_are =
      let tried = ap (tried_keys card []) read.0 in
      let refused = ap (λ (t : Tally). t.refused) (none_told card [] packets all) in
      let taken = ap (taken_keys card []) all ∙ keys_taken plan clear u is can whole leaf in
      omega (arith, tried, tried_are card packets, few_refused card packets, refused, taken)

  pub whole_part : (names : Names) (a b : IoState) (answer : Status) →
      file_in a names.card ≡ Some (card_file_for plan.site u) →
      file_in a names.stream ≡ Some stream →
      RunResult (watch_meaning (word_at 1 names.card) (word_at 2 names.stream) (word_at 3 names.out)) a b answer →
      IsUndisturbed a b answer → WholeResult names plan u clear a b answer
  whole_part names a b answer card_there stream_there answers well =
      let site = is.site in
      let made = made_is_card plan.site.master plan.site.ca plan.site.height u is.ca site.height.0 site.height.1 leaf in
      let left = watch_part names card stream a b answer made
      (card_there ∙ ap (λ (bs : Bytes). Some bs) (sym (card_same plan.site u))) stream_there answers well in
      let ends = left.ends ∙ status_is in
      let steps = left.steps in
      let most : card.height * tried_keys card [] (readable stream)
      ≡ plan.site.height * unrevoked_periods plan u clear =
      ap (λ (h : ℕ). h * tried_keys card [] (readable stream)) height_is
      ∙ ap (λ (n : ℕ). plan.site.height * n) keys_are in
      record {
        written = left.written ∙ ap (λ (bs : Bytes). Some bs) bytes_are;
        ends = ends;
        report = report_of card packets;
        told = subst (λ (l : Bytes). Appends a.page.printed b.page.printed l)
            (ap (λ (ls : List Bytes). concat ls ++ line_of_status answer) lines_are
            ∙ ap (λ (l : Bytes). l ++ line_of_status answer)
            (append-nil (watch_report_line u 0 (report_of card packets)))
            ∙ ap (λ (l : Bytes). watch_report_line u 0 (report_of card packets) ++ l)
            (ap line_of_status ends ∙ whole_line u (first_revoked plan u clear))) left.told;
        packets = packets_told card packets;
        wrote = wrote_is;
        tally = tally_is;
        ending = ending_is;
        steps = omega (arith, steps, most);
        others = left.others;
      }
