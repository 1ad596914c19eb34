use Rattle.std.proofs.Common.{List, ℕ, length, drop, length-drop, get_or, arith, refl, sym, ap, ◌∙◌, subst}
use Rattle.std.proofs.lemmas.Bool.{false≢true}
use Rattle.std.proofs.lemmas.List.{take_rest}
use Rattle.sd_message.specs.EcmVersions.{flags_at}
use Rattle.sd_message.specs.EcmForm.{ArePositioned}
use Rattle.sd_message.specs.EcmFields.{ecm_positions_in, padded_places, ecm_in, IsMatched, IsGoodEcm, BreaksEcmRule}
use Rattle.sd_message.specs.declared.ecm_part.EcmPart.{EcmPart}
use Rattle.sd_message.specs.declared.ecm_fault.EcmFault.TheVariants.{Count, Order, Pid, Mixed}
use Rattle.sd_message.proofs.EcmJudging.{IsJudged, AreRead, count_breaks, pid_breaks, order_breaks, mixed_breaks}
use Rattle.sd_message.proofs.EcmJudging.{is_good}
use Rattle.sd_message.proofs.EcmJudging.{is_whole, version_in_is}
use Rattle.sd_message.proofs.ecm_read.read_body.Goals as goal
use Rattle.sd_message.proofs.ecm_read.read_body.Goals.{After-from-count, In-Some}

-- the head was read, and the count is good
is_judged : (c : After-from-count) → IsJudged c.version_in-version.result c.args.number c.args.last_number
    c.args.body.now c.read_head-part.result c.from-count.result
is_judged c = record {
  is = c.read_head-part.ensures;
  has = c.is_counted.ensures.value.0 c.if-not-is_counted.false;
  counted = c.from-count.ensures;
}

-- so were the positions
are_read : (c : In-Some) → AreRead c.version_in-version.result c.args.body.now c.from-count.result c.in-Some.positions
are_read c =
    let after = take_rest c.tail_of-tail.result.now 50 ∙ ap (drop 50) c.tail_of-tail.ensures.value in record {
      all = subst (λ (l : List ℕ). ArePositioned (ecm_positions_in c.from-count.result l)) after
          (c.in-Some.ensures.places.0 refl);
      read = c.in-Some.ensures.value ∙ ap (λ (l : List ℕ). padded_places (ecm_positions_in c.from-count.result l))
          after;
    }

pub read_places-requires-clause-room : goal.read_places-requires-clause-room
read_places-requires-clause-room c =
    let v = c.version_in-version.result in
    let tail = c.tail_of-tail.result.now in
    let has = c.is_counted.ensures.value.0 c.if-not-is_counted.false in
    let version =
    ap (λ (p : EcmPart). p.version) c.read_head-part.ensures ∙ version_in_is v c.args.number c.args.last_number
    c.args.body.now in
    omega (
      arith,
      has.0,
      ap flags_at version,
      c.tail_of-tail.ensures.length,
      ap (λ (l : List ℕ). length l) (take_rest tail 50),
      length-drop 50 tail,
      c.from-count.ensures,
    )

pub returns-then-not-is_counted-clause-fault : goal.returns-then-not-is_counted-clause-fault
returns-then-not-is_counted-clause-fault c =
    subst (λ (v : ℕ). BreaksEcmRule c.args.table_id c.args.body.now
    (ecm_in v c.args.number c.args.last_number c.args.body.now) Count) c.version_in-version.ensures.value
    (count_breaks c.args.table_id c.args.body.now (ecm_in c.version_in-version.result c.args.number c.args.last_number
    c.args.body.now) c.read_head-part.result
    c.read_head-part.ensures (λ has. false≢true (c.if-not-is_counted.ensures.value.1 has)))

pub returns-in_default-clause-fault : goal.returns-in_default-clause-fault
returns-in_default-clause-fault c =
    let judged = is_judged (goal.at.returns-in_default-clause-fault c).After-from-count in
    let after = take_rest c.tail_of-tail.result.now 50 ∙ ap (drop 50) c.tail_of-tail.ensures.value in
    subst (λ (v : ℕ). BreaksEcmRule c.args.table_id c.args.body.now
    (ecm_in v c.args.number c.args.last_number c.args.body.now) Pid) c.version_in-version.ensures.value
    (pid_breaks c.args.table_id _ _ _ _ _ _ judged
    (λ all. false≢true
    (c.in_default.ensures.places.1 (subst (λ (l : List ℕ). ArePositioned (ecm_positions_in c.from-count.result l))
    (sym after)
    all))))

pub returns-then-not-are_ascending-clause-fault : goal.returns-then-not-are_ascending-clause-fault
returns-then-not-are_ascending-clause-fault c =
    let judged = is_judged (goal.at.returns-then-not-are_ascending-clause-fault c).After-from-count in
    let are = are_read (goal.at.returns-then-not-are_ascending-clause-fault c).In-Some in
    subst (λ (v : ℕ). BreaksEcmRule c.args.table_id c.args.body.now
    (ecm_in v c.args.number c.args.last_number c.args.body.now) Order) c.version_in-version.ensures.value
    (order_breaks c.args.table_id _ _ _ _ _ _ _ judged are
    (λ up. false≢true (c.if-not-are_ascending.ensures.1 up)))

pub returns-then-not-is_matched-clause-fault : goal.returns-then-not-is_matched-clause-fault
returns-then-not-is_matched-clause-fault c =
    let judged = is_judged (goal.at.returns-then-not-is_matched-clause-fault c).After-from-count in
    let are = are_read (goal.at.returns-then-not-is_matched-clause-fault c).In-Some in
    let flags = ap (λ (l : List ℕ). get_or l 0 0) c.tail_of-tail.ensures.value in
    subst (λ (v : ℕ). BreaksEcmRule c.args.table_id c.args.body.now
    (ecm_in v c.args.number c.args.last_number c.args.body.now) Mixed) c.version_in-version.ensures.value
    (mixed_breaks c.args.table_id _ _ _ _ _ _ _ judged are
    (c.are_ascending.ensures.0 c.if-not-are_ascending.false)
    (λ matched. false≢true (c.if-not-is_matched.ensures.1
    (subst (λ (n : ℕ). IsMatched c.args.table_id n c.read_head-part.result) (sym flags) matched))))

pub returns-clause-value : goal.returns-clause-value
returns-clause-value c =
    let judged = is_judged (goal.at.returns-clause-value c).After-from-count in
    let are = are_read (goal.at.returns-clause-value c).In-Some in
    is_whole _ _ _ _ _ _ _ judged.is judged.counted are.read
    ∙ ap (λ (n : ℕ). ecm_in n c.args.number c.args.last_number c.args.body.now) c.version_in-version.ensures.value

pub returns-clause-good : goal.returns-clause-good
returns-clause-good c =
    let judged = is_judged (goal.at.returns-clause-good c).After-from-count in
    let are = are_read (goal.at.returns-clause-good c).In-Some in
    let flags = ap (λ (l : List ℕ). get_or l 0 0) c.tail_of-tail.ensures.value in
    subst (λ (v : ℕ). IsGoodEcm c.args.table_id c.args.body.now
    (ecm_in v c.args.number c.args.last_number c.args.body.now)) c.version_in-version.ensures.value
    (is_good c.args.table_id _ _ _ _ _ _ _ judged are
    (c.are_ascending.ensures.0 c.if-not-are_ascending.false)
    (subst (λ (n : ℕ). IsMatched c.args.table_id n c.read_head-part.result) flags
    (c.is_matched.ensures.0 c.if-not-is_matched.false)))
