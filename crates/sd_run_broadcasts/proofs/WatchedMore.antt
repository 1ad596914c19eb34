-- What counts of packets that come one after the other, what is written and what is told of them.
use Rattle.std.proofs.Common.{◌≡◌, ◌+◌, ◌++◌, true, false, List, [], ◌∷◌, reverse, refl, sym, ap, ◌∙◌, arith}
use Rattle.std.proofs.Common.{append-nil, append_assoc, Option, Some, None, is_none}
use Rattle.std.specs.Prelude.{if◌then◌else◌, ◌&&◌, not}
use Rattle.std.proofs.lemmas.Bool.{and_parts}
use Rattle.sd_base.specs.Types.{Packet, Packets}
use Rattle.sd_base.proofs.Bools.{tested}
use Rattle.sd_base.proofs.Lists.{reversed}
use Rattle.sd_site_cards.specs.CardFields.{CardFields}
use Rattle.sd_message.specs.declared.stream_fault.StreamFault.{StreamFault}
use Rattle.sd_spec.specs.declared.report.Report.{Report}
use Rattle.sd_spec.specs.Offered.{offered, out_from}
use Rattle.sd_spec.specs.Counting.{is_marked, is_doubled, is_stray_at, counts, counting, tried_keys}
use Rattle.sd_spec.specs.Reports.{report_of, turns_after, turned_reports}
use Rattle.sd_spec.proofs.Turns.{one_more}
use Rattle.sd_run_broadcasts.specs.Watched.{counted_out}

-- those of packets that count after others, and those others, the newest first
abbrev pub past_after : CardFields → Packets → Packets → Packets
past_after card past s = reverse (counting card past s) ++ past

-- one that counts is among them
past_counted : (card : CardFields) (past s : Packets) (packet : Packet) → counts card past packet ≡ true →
    past_after card past (packet ∷ s) ≡ past_after card (packet ∷ past) s
unfolding counting
past_counted card past s packet is = rw is (reversed packet (counting card (packet ∷ past) s) past)

-- and another isn't
past_uncounted : (card : CardFields) (past s : Packets) (packet : Packet) → counts card past packet ≡ false →
    past_after card past (packet ∷ s) ≡ past_after card past s
unfolding counting
past_uncounted card past s packet is = rw is refl

-- one that counts isn't refused
none_of : (fault : Option StreamFault) → is_none fault ≡ true → fault ≡ None
none_of None is = refl
none_of (Some fault) is = cc

counts_unrefused : (card : CardFields) (past : Packets) (packet : Packet) → counts card past packet ≡ true →
    (offered card past packet).fault ≡ None
unfolding counts
counts_unrefused card past packet is =
    let fine = (offered card past packet).fault in
    let one = and_parts (not (is_marked packet)) (not (is_doubled card past packet)
    && (not (is_stray_at card past packet) && is_none fine)) is in
    let two = and_parts (not (is_doubled card past packet)) (not (is_stray_at card past packet) && is_none fine) one.1
    in
    none_of fine (and_parts (not (is_stray_at card past packet)) (is_none fine) two.1).1

-- what those that count write, and then what those behind them do
pub out_joined : (card : CardFields) (past s t : Packets) →
    counted_out card past (s ++ t) ≡ counted_out card past s ++ counted_out card (past_after card past s) t
unfolding counting out_from
out_joined card past [] t = refl
out_joined card past (packet ∷ s) t = tested (counts card past packet)
    (λ is.
    let fine = counts_unrefused card past packet is in
    rw (past_counted card past s packet is) (rw is
    (one_more card past packet (counting card (packet ∷ past) (s ++ t)) fine
    ∙ ap (λ (ps : Packets). (offered card past packet).wrote ++ ps) (out_joined card (packet ∷ past) s t)
    ∙ sym (append_assoc (offered card past packet).wrote (counted_out card (packet ∷ past) s)
    (counted_out card (past_after card (packet ∷ past) s) t))
    ∙ ap (λ (ps : Packets). ps ++ counted_out card (past_after card (packet ∷ past) s) t)
    (sym (one_more card past packet (counting card (packet ∷ past) s) fine)))))
    (λ is. rw (past_uncounted card past s packet is) (rw is (out_joined card past s t)))

-- what one packet writes
pub one_out : (card : CardFields) (past : Packets) (packet : Packet) →
    counted_out card past (packet ∷ []) ≡ (if counts card past packet then (offered card past packet).wrote else [])
unfolding counting out_from
one_out card past packet = tested (counts card past packet)
    (λ is. rw is (one_more card past packet [] (counts_unrefused card past packet is)
    ∙ append-nil (offered card past packet).wrote))
    (λ is. rw is refl)

-- how often keys are tried
pub tried_joined : (card : CardFields) (past s t : Packets) →
    tried_keys card past (s ++ t) ≡ tried_keys card past s + tried_keys card (past_after card past s) t
unfolding tried_keys counting
tried_joined card past [] t =
    let same : tried_keys card past t ≡ 0 + tried_keys card past t = omega arith in same
tried_joined card past (packet ∷ s) t = tested (counts card past packet)
    (λ is. rw (past_counted card past s packet is) (rw is
    (let rest = tried_joined card (packet ∷ past) s t in omega (arith, rest))))
    (λ is. rw (past_uncounted card past s packet is) (rw is
    (let rest = tried_joined card past s t in omega (arith, rest))))

-- the reports before turns
pub turned_joined : (card : CardFields) (before s t : Packets) →
    turned_reports card before (s ++ t) ≡ turned_reports card before s ++ turned_reports card (before ++ s) t
unfolding turned_reports
turned_joined card before [] t = ap (λ (b : Packets). turned_reports card b t) (sym (append-nil before))
turned_joined card before (packet ∷ s) t =
    let first : List Report = if turns_after card before packet then report_of card before ∷ [] else [] in
    let next = before ++ packet ∷ [] in
    ap (λ (rest : List Report). first ++ rest) (turned_joined card next s t
    ∙ ap (λ (b : Packets). turned_reports card next s ++ turned_reports card b t) (append_assoc before (packet ∷ []) s))
    ∙ sym (append_assoc first (turned_reports card next s) (turned_reports card (before ++ packet ∷ s) t))
