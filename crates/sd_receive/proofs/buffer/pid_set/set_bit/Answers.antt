use Rattle.std.proofs.Common.{◌∙◌, sym}
use Rattle.sd_receive.proofs.PidBits.{put_own, put_other, out_own, out_other}
use Rattle.sd_receive.proofs.buffer.pid_set.set_bit.Goals as goal

pub returns-then-is_one-clause-own : goal.returns-then-is_one-clause-own
returns-then-is_one-clause-own c =
    put_own c.args.words.now c.args.index c.requires.long c.requires.index ∙ sym c.if-is_one.true

pub returns-then-is_one-clause-others : goal.returns-then-is_one-clause-others
returns-then-is_one-clause-others c = λ other apart.
    put_other c.args.words.now c.args.index other c.requires.long c.requires.index apart

pub returns-else-is_one-clause-own : goal.returns-else-is_one-clause-own
returns-else-is_one-clause-own c =
    out_own c.args.words.now c.args.index c.requires.long c.requires.index ∙ sym c.if-is_one.false

pub returns-else-is_one-clause-others : goal.returns-else-is_one-clause-others
returns-else-is_one-clause-others c = λ other apart.
    out_other c.args.words.now c.args.index other c.requires.long c.requires.index apart
