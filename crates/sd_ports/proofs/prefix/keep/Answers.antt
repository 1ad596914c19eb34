use Rattle.std.proofs.Common.{◌∙◌, arith}
use Rattle.sd_ports.proofs.Prefixes.{kept_first, left_over}
use Rattle.sd_ports.proofs.prefix.keep.Goals as goal

pub returns-in-Ok-clause-kept : goal.returns-in-Ok-clause-kept
returns-in-Ok-clause-kept c =
    c.in-Ok.ensures.items ∙ kept_first c.args.most _ c.args.bytes.now.items c.args.more.now c.requires (omega arith)

pub returns-in-Ok-clause-over : goal.returns-in-Ok-clause-over
returns-in-Ok-clause-over c =
    left_over c.args.most _ c.args.bytes.now.items c.args.more.now c.requires (omega arith)
