-- What is told of a broadcast that is whole, if all of it counts.
use Rattle.std.proofs.Common.{◌≡◌, refl, ℕ, zero, suc, ◌+◌, ◌<◌, ◌≤◌, ◌^◌, Bool, true, false}
use Rattle.std.proofs.Common.{List, [], ◌∷◌, ◌++◌, length, map, drop, reverse, Option, sym, ap, subst}
use Rattle.std.proofs.Common.{◌∙◌, inl, inr, arith, append-nil, length-append}
use Rattle.std.specs.Prelude.{slice_index, ◌⊎◌, ◌&&◌, is_none, if◌then◌else◌}
use Rattle.std.specs.List.{concat, list_any, range_with_len}
use Rattle.std.proofs.lemmas.List.{get_or_append_left, get_or-append-add, take_at, drop_at}
use Rattle.std.proofs.lemmas.List.Elements.{All-head, All-tail}
use Rattle.sd_base.specs.Types.{Packet, Packets}
use Rattle.sd_site_cards.specs.CardFields.{CardFields, card_of, site_card}
use Rattle.sd_engine.specs.Cut.{begins_packet, cut_packets, skipped_before}
use Rattle.sd_engine.proofs.Begins.{followed}
use Rattle.sd_engine.proofs.Cutting.{cut_end, cut_packet, skipped_end, skipped_none, skipped_packet}
use Rattle.sd_spec.specs.declared.report.Report.{Report}
use Rattle.sd_spec.specs.declared.report.Tally.{Tally}
use Rattle.sd_spec.specs.Plan.{Plan, IsPlan}
use Rattle.sd_spec.specs.Refused.{IsSendable}
use Rattle.sd_spec.specs.Sent.{Item, broadcast, closing_of, sent}
use Rattle.sd_message.specs.declared.stream_fault.StreamFault.{StreamFault}
use Rattle.sd_spec.specs.Tuned.{tuning_of}
use Rattle.sd_spec.specs.Offered.{heard, offered}
use Rattle.sd_spec.specs.Counting.{counting, counts, is_doubled, is_marked, is_stray_at}
use Rattle.sd_spec.specs.declared.ending.Ending.{Ending}
use Rattle.sd_spec.specs.declared.ending.Ending.TheVariants.{NoCat}
use Rattle.sd_spec.specs.Ending.{ended_before, ending_of, endings_joined, run_ending, run_wrote, turns_at}
use Rattle.sd_spec.specs.Reports.{refused_or, report_of, reports, run_end, tally_from, turned_reports, turns_after}
use Rattle.sd_spec.proofs.Runs.{opened_joins}
use Rattle.sd_law_broadcast.specs.Packets.{AreWholePackets}
use Rattle.sd_law_broadcast.specs.Synced.{AreSynced, IsSynced}
use Rattle.sd_law_losses.specs.Chosen.{chosen}
use Rattle.sd_law_losses.proofs.AllOpened.{chosen_true}
use Rattle.sd_law_losses.proofs.Endings.{onto_reverse}
use Rattle.sd_law_losses.proofs.Ends.{EndsBefore, losses_stand}
use Rattle.sd_law_losses.proofs.Hearing.{is_cat_item}
use Rattle.sd_law_losses.proofs.Lawful.{can_be_heard, laws_hold, setting}
use Rattle.sd_law_losses.proofs.OneRun.{AreOneRun, none_ended, one_before}
use Rattle.sd_law_losses.proofs.Untuned.{untuned_one_run}
use Rattle.sd_law_losses.proofs.Setting.{Setting}
use Rattle.sd_law_losses.proofs.Writing.{onto, onto_append}
use Rattle.sd_law_run.specs.Watched.{all_count_tally}
use Rattle.sd_law_watch.proofs.Counted.{counting_more, counts_even, counts_once, counts_unmarked, counts_unrefused}

-- the first byte behind some bytes
seam : (xs ys : List ℕ) (n : ℕ) → length xs ≡ n → slice_index (xs ++ ys) n ≡ slice_index ys 0
seam xs ys n is =
    ap (λ (i : ℕ). slice_index (xs ++ ys) i) (sym is ∙ omega arith) ∙ get_or-append-add xs ys 0 0

-- packets that are put one after the other are cut of their bytes
packet_first : (packet : Packet) (packets : Packets) → AreSynced (packet ∷ packets) →
    begins_packet (packet ++ concat packets) ≡ true
packet_first packet packets all =
    let one = All-head IsSynced packet packets all in
    let here = one.long in
    followed (packet ++ concat packets)
    (get_or_append_left packet (concat packets) 0 0 (omega (arith, here)) ∙ one.sync)
    (omega (arith, here, length-append packet (concat packets)))
    (next packet here packets (All-tail IsSynced packet packets all))
  where
    next : (packet : Packet) → length packet ≡ 188 → (packets : Packets) → AreSynced packets →
        (length (packet ++ concat packets) ≡ 188) ⊎ (slice_index (packet ++ concat packets) 188 ≡ 0x47)
    next packet here [] all = inl (omega (arith, here, length-append packet []))
    next packet here (other ∷ packets) all =
        let two = All-head IsSynced other packets all in
        let size = two.long in
        inr (seam packet (other ++ concat packets) 188 here
        ∙ get_or_append_left other (concat packets) 0 0 (omega (arith, size)) ∙ two.sync)

pub joined_cut : (packets : Packets) → AreSynced packets → cut_packets (concat packets) ≡ packets
joined_cut [] all = cut_end
joined_cut (packet ∷ packets) all =
    let here = (All-head IsSynced packet packets all).long in
    cut_packet (packet ++ concat packets) (packet_first packet packets all)
    ∙ ap (λ (p : Packet). p ∷ cut_packets (drop 188 (packet ++ concat packets)))
    (take_at packet (concat packets) 188 here)
    ∙ ap (λ (bytes : List ℕ). packet ∷ cut_packets bytes) (drop_at packet (concat packets) 188 here)
    ∙ ap (λ (ps : Packets). packet ∷ ps) (joined_cut packets (All-tail IsSynced packet packets all))

-- and none of these is in no packet
pub joined_skips : (k : ℕ) (packets : Packets) → AreSynced packets → skipped_before k zero (concat packets) ≡ 0
joined_skips k [] all = skipped_end k
joined_skips zero (packet ∷ packets) all =
    skipped_none (packet ++ concat packets) (packet_first packet packets all)
joined_skips (suc k) (packet ∷ packets) all =
    let here = (All-head IsSynced packet packets all).long in
    skipped_packet k (packet ++ concat packets) (packet_first packet packets all)
    ∙ ap (skipped_before k zero) (drop_at packet (concat packets) 188 here)
    ∙ joined_skips k packets (All-tail IsSynced packet packets all)

-- no more packets count than there are
few_count : (card : CardFields) (past packets : Packets) → length (counting card past packets) ≤ length packets
unfolding counting
few_count card past [] = omega arith
few_count card past (packet ∷ packets) =
    by (counts card past packet) (few_count card (packet ∷ past) packets) (few_count card past packets)
  where
    by : (b : Bool) → length (counting card (packet ∷ past) packets) ≤ length packets →
        length (counting card past packets) ≤ length packets →
        length (if b then packet ∷ counting card (packet ∷ past) packets else counting card past packets)
        ≤ suc (length packets)
    by true one other = omega (arith, one)
    by false one other = omega (arith, other)

-- if all count, the first does, and the others do behind it
record AllCount (card : CardFields) (past : Packets) (packet : Packet) (packets : Packets) : Type 0 where
  first : counts card past packet ≡ true
  rest : counting card (packet ∷ past) packets ≡ packets

all_count : (card : CardFields) (past : Packets) (packet : Packet) (packets : Packets) →
    counting card past (packet ∷ packets) ≡ packet ∷ packets → AllCount card past packet packets
unfolding counting
all_count card past packet packets all =
    by (counts card past packet) refl all
  where
    by : (b : Bool) → counts card past packet ≡ b →
        (if b then packet ∷ counting card (packet ∷ past) packets else counting card past packets) ≡ packet ∷ packets →
        AllCount card past packet packets
    by true is same = record { first = is; rest = cc }
    by false is same = absurd (omega (arith, ap length same, few_count card past packets))

-- a packet that counts counts alone
one_counts : (card : CardFields) (past : Packets) (packet : Packet) → counts card past packet ≡ true →
    counting card past (packet ∷ []) ≡ packet ∷ []
unfolding counting
one_counts card past packet is =
    ap (λ (b : Bool). if b then packet ∷ [] else []) is

-- nothing but that is told of packets that all count
told_so : (marked doubled odd : Bool) (one two three four : Tally) → marked ≡ false → doubled ≡ false → odd ≡ false →
    (if marked then one else if doubled then two else if odd then three else four) ≡ four
told_so false false false one two three four a b c = refl
told_so true doubled odd one two three four a b c = absurd cc
told_so false true odd one two three four a b c = absurd cc
told_so false false true one two three four a b c = absurd cc

pub none_told : (card : CardFields) (past packets : Packets) → counting card past packets ≡ packets →
    tally_from card (length past) past packets ≡ all_count_tally
unfolding tally_from tuning_of offered
none_told card past [] all = refl
none_told card past (packet ∷ packets) all =
    let is = all_count card past packet packets all in
    let longer : length past + 1 ≡ suc (length past) = omega arith in
    told_so (is_marked packet) (is_doubled card past packet) (is_stray_at card past packet) _ _ _ _
    (counts_unmarked card past packet is.first) (counts_once card past packet is.first)
    (counts_even card past packet is.first)
    ∙ ap (λ (fault : Option StreamFault). refused_or fault (tally_from card (length past + 1) (packet ∷ past) packets)
    (tally_from card (length past + 1) past packets)) (counts_unrefused card past packet is.first)
    ∙ ap (λ (n : ℕ). tally_from card n (packet ∷ past) packets) longer
    ∙ none_told card (packet ∷ past) packets is.rest

-- no report is before a packet that does not turn
turn_so : (counted turns : Bool) (report : Report) → turns ≡ false →
    (if counted && turns then report ∷ [] else []) ≡ []
turn_so true false report is = refl
turn_so false false report is = refl
turn_so true true report is = absurd cc
turn_so false true report is = absurd cc

-- what counted of packets, turned round, is all of them
reversed_onto : (packets : Packets) → reverse packets ≡ onto packets []
reversed_onto packets = sym (onto_reverse packets [] ∙ append_nil_of (reverse packets))
  where
    append_nil_of : (xs : Packets) → xs ++ [] ≡ xs
    append_nil_of xs = append-nil xs

-- packets of one run that all count, behind others that all count, have no turn
none_turned : (card : CardFields) (before packets : Packets) → counting card [] before ≡ before →
    counting card (onto before []) packets ≡ packets → AreOneRun card (onto packets (onto before [])) →
    turned_reports card before packets ≡ []
unfolding turned_reports turns_after
none_turned card before [] all_before all one = refl
none_turned card before (packet ∷ packets) all_before all one =
    let past : Packets = onto before [] in
    let is = all_count card past packet packets all in
    let round : reverse (counting card [] before) ≡ past =
    ap (λ (ps : Packets). reverse ps) all_before ∙ reversed_onto before in
    let straight : turns_at card (reverse (counting card [] before)) packet ≡ false =
    ap (λ (ps : Packets). turns_at card ps packet) round ∙ (one_before card packets (packet ∷ past) one).0 in
    let next : onto (before ++ packet ∷ []) [] ≡ packet ∷ past = onto_append before (packet ∷ []) [] in
    let counted : counting card [] (before ++ packet ∷ []) ≡ before ++ packet ∷ [] =
    counting_more card before (packet ∷ [])
    ∙ ap (λ (ps : Packets). ps ++ counting card (reverse (counting card [] before)) (packet ∷ [])) all_before
    ∙ ap (λ (ps : Packets). before ++ counting card ps (packet ∷ [])) round
    ∙ ap (λ (ps : Packets). before ++ ps) (one_counts card past packet is.first) in
    ap (λ (rs : List Report). rs ++ turned_reports card (before ++ packet ∷ []) packets)
    (turn_so (counts card (reverse (counting card [] before)) packet) _ (report_of card before) straight)
    ∙ none_turned card (before ++ packet ∷ []) packets counted
    (ap (λ (ps : Packets). counting card ps packets) next ∙ is.rest)
    (subst (λ (ps : Packets). AreOneRun card (onto packets ps)) (sym next) one)

-- so there is one report on them
pub one_report : (card : CardFields) (packets : Packets) → counting card [] packets ≡ packets →
    AreOneRun card (onto packets []) → reports card packets ≡ report_of card packets ∷ []
unfolding reports counting
one_report card packets all one =
    ap (λ (rs : List Report). rs ++ report_of card packets ∷ []) (none_turned card [] packets refl all one)

-- the run ends as all ends
pub run_ends : (card : CardFields) (packets : Packets) → AreOneRun card (onto packets []) →
    run_end card (reverse packets) ≡ ending_of card (reverse packets)
unfolding ending_of
run_ends card packets one =
    let round : reverse packets ≡ onto packets [] = reversed_onto packets in
    let past : Packets = onto packets [] in
    let ends : endings_joined (ended_before card past) (run_ending card (heard card past) (run_wrote card past))
    ≡ run_ending card (heard card past) (run_wrote card past) =
    ap (λ (e : Ending). endings_joined e (run_ending card (heard card past) (run_wrote card past)))
    (none_ended card past one)
    ∙ opened_joins (run_ending card (heard card past) (run_wrote card past)) in
    ap (λ (ps : Packets). run_end card ps) round
    ∙ ap (λ (e : Ending). if is_none (tuning_of card.ca past) then NoCat else e) (sym ends)
    ∙ ap (λ (ps : Packets). ending_of card ps) (sym round)

-- a whole broadcast is of one run
pub whole_one_run : (plan : Plan) (clear : Packets) (u : ℕ) → IsPlan plan → IsSendable plan.site clear →
    AreWholePackets clear → u < 2 ^ plan.site.height →
    AreOneRun (site_card plan.site u) (onto (broadcast plan clear) [])
unfolding card_of
whole_one_run plan clear u is all whole leaf =
    let s = setting plan clear u in
    let n = length (broadcast plan clear) in
    let flags = map (λ (j : ℕ). true) (range_with_len 0 n) in
    let chooses : chosen flags (broadcast plan clear) ≡ broadcast plan clear =
    chosen_true (λ j. true) 0 n (broadcast plan clear) (λ j low high. refl) (omega arith) in
    subst (λ (ps : Packets). AreOneRun s.card (onto ps [])) chooses
    (by s (list_any is_cat_item (chosen flags (sent plan clear ++ closing_of plan clear)))
    (chosen flags (sent plan clear ++ closing_of plan clear)) (onto (chosen flags (broadcast plan clear)) [])
    (losses_stand s (laws_hold plan clear u is all whole leaf) (can_be_heard plan clear u is all whole) flags))
  where
    by : (s : Setting) (b : Bool) (kept : List Item) (past : Packets) → EndsBefore s b kept past → AreOneRun s.card past
    by s true kept past stands = stands.tuned.one
    by s false kept past none = untuned_one_run s.card past none
