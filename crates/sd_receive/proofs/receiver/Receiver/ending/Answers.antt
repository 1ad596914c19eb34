use Rattle.std.proofs.Common.{◌≡◌, ◌∙◌, arith, true, false}
use Rattle.std.specs.Prelude.{is_none}
use Rattle.sd_spec.specs.Offered.{heard}
use Rattle.sd_spec.specs.Ending.{run_wrote}
use Rattle.sd_receive.specs.Receiving.{receiver_card}
use Rattle.sd_receive.proofs.Endings.{no_cat, all_runs}
use Rattle.sd_receive.proofs.receiver.Receiver.ending.Goals as goal

pub returns-then-is_none : goal.returns-then-is_none
returns-then-is_none c = λ past after.
    let none : is_none c.args.self.now.tuning ≡ true = grind (arith, c.is_none.ensures, c.if-is_none.true) in
    no_cat c.args.self.now past after none

pub returns : goal.returns
returns c = λ past after.
    let r = c.args.self.now in
    let some : is_none r.tuning ≡ false = grind (arith, c.is_none.ensures, c.if-is_none.false) in
    c.with.ensures ∙ all_runs r past c.ending.result after some
    (c.ending.ensures (receiver_card r) (heard (receiver_card r) past) (run_wrote (receiver_card r) past) after.follows
    after.written)
