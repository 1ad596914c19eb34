use Rattle.std.proofs.Common.{List, ℕ, length, drop, length-drop, arith, sym, ap, ◌∙◌, subst}
use Rattle.std.proofs.lemmas.Bool.{false≢true}
use Rattle.std.proofs.lemmas.List.{take_rest}
use Rattle.sd_message.specs.EmmForm.{AreSets}
use Rattle.sd_message.specs.EmmFields.{emm_head_length, entries_in}
use Rattle.sd_message.proofs.EmmJudging.{AreRead, are_read, node_breaks, order_breaks, is_good, is_whole}
use Rattle.sd_message.proofs.EmmSpelling.{named_read}
use Rattle.sd_message.proofs.emm_read.read_body.Goals as goal

pub read_entries-requires-clause-room : goal.read_entries-requires-clause-room
read_entries-requires-clause-room c =
    let has = c.is_counted.ensures.0 c.if-not-is_counted.false in
    let named =
    named_read c.args.named c.args.index c.args.body.now c.read_head-emm.result c.read_head-emm.ensures in
    omega (
      arith,
      has.0,
      ap emm_head_length named,
      c.head_length.ensures.value,
      ap (λ (l : List ℕ). length l) (take_rest c.args.body.now c.head_length.result),
      length-drop c.head_length.result c.args.body.now,
      c.from-count.ensures,
    )

pub returns-then-not-read_entries-clause-fault : goal.returns-then-not-read_entries-clause-fault
returns-then-not-read_entries-clause-fault c =
    let after = take_rest c.args.body.now c.head_length.result
    ∙ ap (λ (n : ℕ). drop n c.args.body.now) c.head_length.ensures.value in
    node_breaks c.args.h c.args.named c.args.index c.args.body.now c.read_head-emm.result c.from-count.result
    c.read_head-emm.ensures (c.is_counted.ensures.0 c.if-not-is_counted.false) c.from-count.ensures
    (λ all. false≢true (c.if-not-read_entries.ensures.sets.1
    (subst (λ (l : List ℕ). AreSets c.args.h c.read_head-emm.result.sets (entries_in c.from-count.result l)) (sym after)
    all)))

pub returns-then-not-are_ascending-clause-fault : goal.returns-then-not-are_ascending-clause-fault
returns-then-not-are_ascending-clause-fault c =
    order_breaks _ _ _ _ _ _ _
    (are_read _ _ _ _ _ _ _ _ c.read_head-emm.ensures (c.is_counted.ensures.0 c.if-not-is_counted.false)
    c.from-count.ensures c.head_length.ensures.value (c.read_entries.ensures.sets.0 c.if-not-read_entries.false)
    (c.read_entries.ensures.value c.if-not-read_entries.false))
    (λ up. false≢true (c.if-not-are_ascending.ensures.1 up))

-- what was read where all is well
all_read : (c : goal.Else-not-are_ascending) → AreRead c.args.h c.args.named c.args.index c.args.body.now
    c.read_head-emm.result c.from-count.result c.read_entries.new.entries
all_read c =
    are_read _ _ _ _ _ _ _ _ c.read_head-emm.ensures (c.is_counted.ensures.0 c.if-not-is_counted.false)
    c.from-count.ensures c.head_length.ensures.value (c.read_entries.ensures.sets.0 c.if-not-read_entries.false)
    (c.read_entries.ensures.value c.if-not-read_entries.false)

pub returns-clause-value : goal.returns-clause-value
returns-clause-value c = is_whole _ _ _ _ _ _ (all_read c).is (all_read c).counted (all_read c).read

pub returns-clause-good : goal.returns-clause-good
returns-clause-good c =
    is_good _ _ _ _ _ _ _ (all_read c) (c.are_ascending.ensures.0 c.if-not-are_ascending.false)
