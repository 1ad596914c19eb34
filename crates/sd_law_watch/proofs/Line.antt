-- Of a whole broadcast of a steady clear stream that isn't marked one line tells, and it tells of no loss.
use Rattle.std.proofs.Common.{◌≡◌, refl, ℕ, ◌+◌, ◌<◌, ◌^◌, ◌&&◌, ◌++◌, Bool, true, false, List, [], ◌∷◌, reverse}
use Rattle.std.proofs.Common.{Option, Some, None, sym, ap, ◌∙◌, subst, append-nil}
use Rattle.std.specs.Prelude.{if◌then◌else◌}
use Rattle.std.specs.List.{list_any}
use Rattle.std.proofs.lemmas.List.{reverse-append}
use Rattle.sd_base.proofs.Bools.{and_false}
use Rattle.sd_site_cards.specs.CardFields.{CardFields, site_card}
use Rattle.sd_message.specs.declared.stream_fault.StreamFault.{StreamFault}
use Rattle.sd_spec.specs.declared.report.Report.{Report}
use Rattle.sd_spec.specs.declared.report.Tally.{Tally}
use Rattle.sd_spec.specs.Plan.{Plan, IsPlan}
use Rattle.sd_spec.specs.Refused.{IsSendable}
use Rattle.sd_spec.specs.Sent.{Item, sent, closing_of, broadcast, is_cat_item}
use Rattle.sd_spec.specs.Tuned.{tuning_of}
use Rattle.sd_spec.specs.Offered.{heard, offered, tuned_offering, break_from}
use Rattle.sd_spec.specs.Ending.{turns_at}
use Rattle.sd_spec.specs.Counting.{is_marked, is_doubled, is_stray_at, counts, counting}
use Rattle.sd_spec.specs.Reports.{tally_from, tally_marked, one_doubled, one_odd, refused_or, report_of, turns_after}
use Rattle.sd_spec.specs.Reports.{turned_reports, reports}
use Rattle.sd_law_broadcast.specs.Packets.{AreWholePackets}
use Rattle.sd_law_losses.proofs.OneRun.{AreOneRun, one_before}
use Rattle.sd_law_losses.proofs.Runs.{begins_by}
use Rattle.sd_law_losses.proofs.Writing.{onto}
use Rattle.sd_law_losses.proofs.Setting.{Setting, AreLaws}
use Rattle.sd_law_losses.proofs.Hearing.{AreHearable}
use Rattle.sd_law_losses.proofs.Ends.{EndsBefore}
use Rattle.sd_law_losses.proofs.Lawful.{setting, laws_hold, can_be_heard}
use Rattle.sd_law_losses.proofs.Theorem.{whole_refused}
use Rattle.sd_law_watch.specs.Steady.{are_steady}
use Rattle.sd_law_watch.proofs.Counted.{counts_by, counting_one, counting_more, nothing_counts, unbroken}
use Rattle.sd_law_watch.proofs.Going.{fault_at}
use Rattle.sd_law_watch.proofs.Prefix.{past_of, stands_after}
use Rattle.sd_law_watch.proofs.Steady.{AllFine}
use Rattle.sd_law_watch.proofs.Air.{on_air}
use Rattle.sd_law_watch.proofs.Broadcast.{all_fine, none_marked}

-- nothing is told
abbrev pub no_tally : Tally
no_tally = record { marked = 0; doubled = 0; odd = 0; refused = 0; first = None }

told_by_tests : (marked doubled odd : Bool) (fault : Option StreamFault) (m d o counted refused : Tally) →
    marked ≡ false → doubled ≡ false → odd ≡ false → fault ≡ None →
    (if marked then tally_marked m else if doubled then one_doubled d else if odd then one_odd o
    else refused_or fault counted refused) ≡ counted
told_by_tests false false false None m d o counted refused a b c e = refl
told_by_tests false false false (Some f) m d o counted refused a b c e = absurd (cc e)
told_by_tests false false true fault m d o counted refused a b c e = absurd (cc c)
told_by_tests false true odd fault m d o counted refused a b c e = absurd (cc b)
told_by_tests true doubled odd fault m d o counted refused a b c e = absurd (cc a)

fine_tally : (card : CardFields) (n : ℕ) (past packets : List (List ℕ)) → break_from card past packets ≡ None →
    AllFine card past packets → tally_from card n past packets ≡ no_tally
unfolding break_from tally_from
fine_tally card n past [] none all = refl
fine_tally card n past (packet ∷ packets) none all =
    let whole = unbroken (offered card past packet).fault (break_from card (packet ∷ past) packets) none in
    let others : Tally = tally_from card (n + 1) past packets in
    told_by_tests (is_marked packet) (is_doubled card past packet) (is_stray_at card past packet)
    (tuned_offering card (tuning_of card.ca past) n (heard card past) packet).fault others others others
    (tally_from card (n + 1) (packet ∷ past) packets) others all.0.unmarked all.0.once all.0.even
    (fault_at card n past packet whole.0)
    ∙ fine_tally card (n + 1) (packet ∷ past) packets whole.1 all.1

-- no packet turns to another run
no_turn_after : (card : CardFields) (before past : List (List ℕ)) (packet : List ℕ) →
    reverse (counting card [] before) ≡ past → turns_at card past packet ≡ false →
    turns_after card before packet ≡ false
unfolding turns_after
no_turn_after card before past packet is stays =
    ap (λ (these : List (List ℕ)). counts card these packet && turns_at card these packet) is
    ∙ (ap (λ (b : Bool). counts card past packet && b) stays ∙ and_false (counts card past packet))

one_more_counts : (card : CardFields) (before past : List (List ℕ)) (packet : List ℕ) →
    reverse (counting card [] before) ≡ past → counts card past packet ≡ true →
    reverse (counting card [] (before ++ packet ∷ [])) ≡ packet ∷ past
one_more_counts card before past packet is one =
    ap reverse (counting_more card before (packet ∷ [])
    ∙ ap (λ (these : List (List ℕ)). counting card [] before ++ these)
    (ap (λ (these : List (List ℕ)). counting card these (packet ∷ [])) is
    ∙ (counting_one card past [] packet one
    ∙ ap (λ (these : List (List ℕ)). packet ∷ these) (nothing_counts card (packet ∷ past)))))
    ∙ (reverse-append (counting card [] before) (packet ∷ [])
    ∙ ap (λ (these : List (List ℕ)). packet ∷ these) is)

no_turns : (card : CardFields) (before past packets : List (List ℕ)) → reverse (counting card [] before) ≡ past →
    break_from card past packets ≡ None → AllFine card past packets → AreOneRun card (onto packets past) →
    turned_reports card before packets ≡ []
unfolding break_from turned_reports
no_turns card before past [] is none all one = refl
no_turns card before past (packet ∷ packets) is none all one =
    let whole = unbroken (offered card past packet).fault (break_from card (packet ∷ past) packets) none in
    let here = one_before card packets (packet ∷ past) one in
    let counted = counts_by card past packet all.0.unmarked all.0.once all.0.even whole.0 in
    ap (λ (b : Bool). (if b then report_of card before ∷ [] else [])
    ++ turned_reports card (before ++ packet ∷ []) packets) (no_turn_after card before past packet is here.0)
    ∙ no_turns card (before ++ packet ∷ []) (packet ∷ past) packets
    (one_more_counts card before past packet is counted) whole.1 all.1 one

-- a whole broadcast is one run
one_run : (s : Setting) (laws : AreLaws s) (able : AreHearable s) →
    AreOneRun s.card (onto (broadcast s.plan s.clear) [])
unfolding broadcast
one_run s laws able =
    let begins = begins_by s.plan s.clear in
    let items : List Item = sent s.plan s.clear ++ closing_of s.plan s.clear in
    (subst (λ (b : Bool). EndsBefore s b items (past_of s items)) (ap (list_any is_cat_item) begins.1)
    (stands_after s laws able items [] (sym (append-nil items)))).tuned.one

fine_broadcast : (plan : Plan) (clear : List (List ℕ)) (u : ℕ) → IsPlan plan → IsSendable plan.site clear →
    AreWholePackets clear → u < 2 ^ plan.site.height → are_steady clear ≡ true → list_any is_marked clear ≡ false →
    AllFine (site_card plan.site u) [] (broadcast plan clear)
fine_broadcast plan clear u is all whole leaf steady none =
    all_fine (setting plan clear u) (laws_hold plan clear u is all whole leaf) (can_be_heard plan clear u is all whole)
    (record {
      clear = λ k within. none_marked clear k none within;
      air = λ k within. on_air plan clear u k all whole within;
    }) steady

-- the tally of the broadcast
pub steady_tally : (plan : Plan) (clear : List (List ℕ)) (u : ℕ) → IsPlan plan → IsSendable plan.site clear →
    AreWholePackets clear → u < 2 ^ plan.site.height → are_steady clear ≡ true → list_any is_marked clear ≡ false →
    tally_from (site_card plan.site u) 0 [] (broadcast plan clear)
    ≡ record { marked = 0; doubled = 0; odd = 0; refused = 0; first = None }
steady_tally plan clear u is all whole leaf steady none =
    fine_tally (site_card plan.site u) 0 [] (broadcast plan clear)
    (whole_refused plan clear u is all whole leaf) (fine_broadcast plan clear u is all whole leaf steady none)

-- the one line
pub steady_line : (plan : Plan) (clear : List (List ℕ)) (u : ℕ) → IsPlan plan → IsSendable plan.site clear →
    AreWholePackets clear → u < 2 ^ plan.site.height → are_steady clear ≡ true → list_any is_marked clear ≡ false →
    reports (site_card plan.site u) (broadcast plan clear)
    ≡ report_of (site_card plan.site u) (broadcast plan clear) ∷ []
unfolding reports
steady_line plan clear u is all whole leaf steady none =
    ap (λ (these : List Report).
    these ++ report_of (site_card plan.site u) (broadcast plan clear) ∷ [])
    (no_turns (site_card plan.site u) [] [] (broadcast plan clear)
    (ap reverse (nothing_counts (site_card plan.site u) []))
    (whole_refused plan clear u is all whole leaf) (fine_broadcast plan clear u is all whole leaf steady none)
    (one_run (setting plan clear u) (laws_hold plan clear u is all whole leaf)
    (can_be_heard plan clear u is all whole)))
