-- The reports on a stream, and those on its first packets.
use Rattle.std.proofs.Common.{◌≡◌, refl, ℕ, suc, ◌+◌, ◌≤◌, Bool, true, false, List, [], ◌∷◌, ◌++◌, length, map}
use Rattle.std.proofs.Common.{take, drop, sym, ap, subst, ◌∙◌, inl, inr, arith, append_assoc, append-nil, length-append}
use Rattle.std.proofs.Common.{take-append-drop}
use Rattle.std.specs.Prelude.{is_none, if◌then◌else◌}
use Rattle.std.specs.List.{concat}
use Rattle.std.proofs.lemmas.Bool.{cases_Bool, cond-true, cond-false}
use Rattle.std.proofs.lemmas.List.Folds.{concat-append}
use Rattle.sd_base.specs.Types.{Packet, Packets}
use Rattle.sd_site_cards.specs.CardFields.{CardFields}
use Rattle.sd_spec.specs.declared.report.Report.{Report}
use Rattle.sd_spec.specs.Offered.{offered, out_from}
use Rattle.sd_spec.specs.Counting.{counting, counts}
use Rattle.sd_spec.specs.Reports.{report_of, turned_reports, turns_after}

-- a report among those on packets after others is the last of those on the first of these packets
pub record IsLastOf (card : CardFields) (before packets : Packets) (first : List Report) (report : Report) : Type 0
  where
    pub count : ℕ
    pub low : count ≤ length packets
    pub here : report_of card (before ++ take count packets) ≡ report
    pub earlier : turned_reports card before (take count packets) ≡ first

pub same_head : {A : Type 0} (x y : A) (xs ys : List A) → x ∷ xs ≡ y ∷ ys → x ≡ y
same_head x y xs ys e = cc

pub same_tail : {A : Type 0} (x y : A) (xs ys : List A) → x ∷ xs ≡ y ∷ ys → xs ≡ ys
same_tail x y xs ys e = cc

-- at the end
last_alone : (card : CardFields) (before packets : Packets) (first rest : List Report) (report : Report) →
    report_of card before ∷ [] ≡ first ++ report ∷ rest → IsLastOf card before packets first report
unfolding turned_reports
last_alone card before packets [] rest report e = record {
  count = 0;
  low = omega arith;
  here = ap (report_of card) (append-nil before) ∙ same_head (report_of card before) report [] rest e;
  earlier = refl;
}
last_alone card before packets (one ∷ []) rest report e = absurd (let x = same_tail _ one [] (report ∷ rest) e in cc)
last_alone card before packets (one ∷ two ∷ first) rest report e =
    absurd (let x = same_tail _ one [] (two ∷ (first ++ report ∷ rest)) e in cc)

-- the report before a packet that turns is first
turns_first : (card : CardFields) (before packets : Packets) (packet : Packet) → turns_after card before packet ≡ true →
    turned_reports card before (packet ∷ packets)
    ≡ report_of card before ∷ turned_reports card (before ++ packet ∷ []) packets
unfolding turned_reports
turns_first card before packets packet turns =
    ap (λ (rs : List Report). rs ++ turned_reports card (before ++ packet ∷ []) packets)
    (cond-true (turns_after card before packet) (report_of card before ∷ []) [] turns)

stays_first : (card : CardFields) (before packets : Packets) (packet : Packet) →
    turns_after card before packet ≡ false →
    turned_reports card before (packet ∷ packets) ≡ turned_reports card (before ++ packet ∷ []) packets
unfolding turned_reports
stays_first card before packets packet stays =
    ap (λ (rs : List Report). rs ++ turned_reports card (before ++ packet ∷ []) packets)
    (cond-false (turns_after card before packet) (report_of card before ∷ []) [] stays)

-- a packet more in front
one_later : (card : CardFields) (before packets : Packets) (packet : Packet) (first : List Report) (report : Report) →
    turns_after card before packet ≡ false → IsLastOf card (before ++ packet ∷ []) packets first report →
    IsLastOf card before (packet ∷ packets) first report
one_later card before packets packet first report stays is = record {
  count = suc is.count;
  low = let low = is.low in omega (arith, low);
  here = ap (report_of card) (sym (append_assoc before (packet ∷ []) (take is.count packets))) ∙ is.here;
  earlier = stays_first card before (take is.count packets) packet stays ∙ is.earlier;
}

turn_later : (card : CardFields) (before packets : Packets) (packet : Packet) (first : List Report) (report : Report) →
    turns_after card before packet ≡ true → IsLastOf card (before ++ packet ∷ []) packets first report →
    IsLastOf card before (packet ∷ packets) (report_of card before ∷ first) report
turn_later card before packets packet first report turns is = record {
  count = suc is.count;
  low = let low = is.low in omega (arith, low);
  here = ap (report_of card) (sym (append_assoc before (packet ∷ []) (take is.count packets))) ∙ is.here;
  earlier = turns_first card before (take is.count packets) packet turns
      ∙ ap (λ (rs : List Report). report_of card before ∷ rs) is.earlier;
}

-- all reports on packets after others
abbrev told_after : CardFields → Packets → Packets → List Report
told_after card before packets = turned_reports card before packets ++ report_of card (before ++ packets) ∷ []

first_report : (card : CardFields) (before packets : Packets) (rest : List Report) (report : Report)
    (later : List Report) → report_of card before ∷ later ≡ report ∷ rest → IsLastOf card before packets [] report
unfolding turned_reports
first_report card before packets rest report later e = record {
  count = 0;
  low = omega arith;
  here = ap (report_of card) (append-nil before) ∙ same_head (report_of card before) report later rest e;
  earlier = refl;
}

pub last_of : (card : CardFields) (before packets : Packets) (first rest : List Report) (report : Report) →
    told_after card before packets ≡ first ++ report ∷ rest → IsLastOf card before packets first report
unfolding turned_reports
last_of card before [] first rest report e =
    last_alone card before [] first rest report
    (ap (λ (ps : Packets). report_of card ps ∷ []) (sym (append-nil before)) ∙ e)
last_of card before (packet ∷ packets) first rest report e =
    let next : Packets = before ++ packet ∷ [] in
    let later : List Report = told_after card next packets in
    let all : report_of card (before ++ packet ∷ packets) ∷ [] ≡ report_of card (next ++ packets) ∷ [] =
    ap (λ (ps : Packets). report_of card ps ∷ []) (sym (append_assoc before (packet ∷ []) packets)) in
    elim (cases_Bool (turns_after card before packet)) [
      | inr stays ↦ one_later card before packets packet first report stays
          (last_of card next packets first rest report
          (ap (λ (rs : List Report). turned_reports card next packets ++ rs) (sym all)
          ∙ (ap (λ (rs : List Report). rs ++ report_of card (before ++ packet ∷ packets) ∷ [])
          (sym (stays_first card before packets packet stays)) ∙ e)))
      | inl turns ↦
          let told : report_of card before ∷ later ≡ first ++ report ∷ rest =
          ap (λ (rs : List Report). report_of card before ∷ (turned_reports card next packets ++ rs)) (sym all)
          ∙ (ap (λ (rs : List Report). rs ++ report_of card (before ++ packet ∷ packets) ∷ [])
          (sym (turns_first card before packets packet turns)) ∙ e) in
          by_first first told (λ others. last_of card next packets others rest report) turns
    ]
  where
    by_first : (first : List Report) →
        report_of card before ∷ told_after card (before ++ packet ∷ []) packets ≡ first ++ report ∷ rest →
        ((others : List Report) → told_after card (before ++ packet ∷ []) packets ≡ others ++ report ∷ rest →
        IsLastOf card (before ++ packet ∷ []) packets others report) → turns_after card before packet ≡ true →
        IsLastOf card before (packet ∷ packets) first report
    by_first [] told more turns = first_report card before (packet ∷ packets) rest report
        (told_after card (before ++ packet ∷ []) packets) told
    by_first (one ∷ others) told more turns =
        let same = same_head (report_of card before) one (told_after card (before ++ packet ∷ []) packets)
        (others ++ report ∷ rest) told in
        let tail = same_tail (report_of card before) one (told_after card (before ++ packet ∷ []) packets)
        (others ++ report ∷ rest) told in
        subst (λ (r : Report). IsLastOf card before (packet ∷ packets) (r ∷ others) report) same
        (turn_later card before packets packet others report turns (more others tail))

-- what is written of packets and of more behind them
out_longer : (card : CardFields) (past first more : Packets) →
    (rest : Packets) × (out_from card past (first ++ more) ≡ out_from card past first ++ rest)
unfolding out_from
out_longer card past [] more = (out_from card past more, refl)
out_longer card past (packet ∷ first) more =
    let later = out_longer card (packet ∷ past) first more in
    by (is_none (offered card past packet).fault) (offered card past packet).wrote
    (out_from card (packet ∷ past) (first ++ more)) (out_from card (packet ∷ past) first) later.0 later.1
  where
    by : (good : Bool) (wrote all some rest : Packets) → all ≡ some ++ rest →
        (more : Packets) × (wrote ++ (if good then all else []) ≡ (wrote ++ (if good then some else [])) ++ more)
    by true wrote all some rest is =
        (rest, ap (λ (ps : Packets). wrote ++ ps) is ∙ sym (append_assoc wrote some rest))
    by false wrote all some rest is = ([], sym (append-nil (wrote ++ [])))

-- the packets that count of packets and of more behind them
counting_longer : (card : CardFields) (past first more : Packets) →
    (rest : Packets) × (counting card past (first ++ more) ≡ counting card past first ++ rest)
unfolding counting
counting_longer card past [] more = (counting card past more, refl)
counting_longer card past (packet ∷ first) more =
    let one = counting_longer card (packet ∷ past) first more in
    let other = counting_longer card past first more in
    by (counts card past packet) (counting card (packet ∷ past) (first ++ more)) (counting card past (first ++ more))
    (counting card (packet ∷ past) first) (counting card past first) one.0 other.0 one.1 other.1
  where
    by : (b : Bool) (all all_but some some_but rest rest_but : Packets) → all ≡ some ++ rest →
        all_but ≡ some_but ++ rest_but →
        (more : Packets)
        × ((if b then packet ∷ all else all_but) ≡ (if b then packet ∷ some else some_but) ++ more)
    by true all all_but some some_but rest rest_but is but = (rest, ap (λ (ps : Packets). packet ∷ ps) is)
    by false all all_but some some_but rest rest_but is but = (rest_but, but)

-- what a receiver that goes on writes of the first packets is a prefix of what it writes of all
pub written_first : (card : CardFields) (k : ℕ) (packets : Packets) →
    (rest : List ℕ) × (concat (out_from card [] (counting card [] (take k packets))) ++ rest
    ≡ concat (out_from card [] (counting card [] packets)))
written_first card k packets =
    let count = counting_longer card [] (take k packets) (drop k packets) in
    let out = out_longer card [] (counting card [] (take k packets)) count.0 in
    let all : counting card [] packets ≡ counting card [] (take k packets) ++ count.0 =
    ap (counting card []) (sym (take-append-drop k packets)) ∙ count.1 in (
      concat out.0,
      sym (concat-append (out_from card [] (counting card [] (take k packets))) out.0)
          ∙ ap concat (sym out.1) ∙ ap (λ (ps : Packets). concat (out_from card [] ps)) (sym all),
    )

-- a report tells of so many packets
pub packets_told : (card : CardFields) (packets : Packets) → (report_of card packets).packets ≡ length packets
unfolding report_of
packets_told card packets = refl

-- a text for each report is the same by two ways that agree on reports of no more packets than there are
mapped_if : {A : Type 0} (f g : Report → A) (b : Bool) (report : Report) (later : List Report) → f report ≡ g report →
    map f later ≡ map g later →
    map f ((if b then report ∷ [] else []) ++ later) ≡ map g ((if b then report ∷ [] else []) ++ later)
mapped_if f g true report later same rest =
    ap (λ (y : _). y ∷ map f later) same ∙ ap (λ (ys : List _). g report ∷ ys) rest
mapped_if f g false report later same rest = rest

pub told_alike : {A : Type 0} (f g : Report → A) (card : CardFields) (before packets : Packets) →
    ((report : Report) → report.packets ≤ length before + length packets → f report ≡ g report) →
    map f (turned_reports card before packets) ≡ map g (turned_reports card before packets)
unfolding turned_reports report_of
told_alike f g card before [] same = refl
told_alike f g card before (packet ∷ packets) same =
    mapped_if f g (turns_after card before packet) (report_of card before)
    (turned_reports card (before ++ packet ∷ []) packets) (same (report_of card before) (omega arith))
    (told_alike f g card (before ++ packet ∷ []) packets (λ report low.
    same report (omega (arith, low, length-append before (packet ∷ [])))))
