use Rattle.std.proofs.Common.{subst, rules}
use Rattle.std.specs.Prelude.{IsTrue, ◌↔◌}
use Rattle.sd_message.specs.Framed.{IsPlainHeader}
use Rattle.sd_message.proofs.Numbers.{IsBytes}
use Rattle.sd_message.proofs.Spelling.{plain_spelled}
use Rattle.sd_message.proofs.frame.is_plain.Goals as goal

pub returns-clause-spelled : goal.returns-clause-spelled
returns-clause-spelled c =
    let section = c.args.section.now in
    let plain : IsTrue c.begins_with.result ↔ IsPlainHeader section.bytes.now = search rules in
    let bytes : IsBytes section.bytes.now = subst IsBytes c.whole.ensures c.begins_with.ensures.bytes in
    λ begins. plain_spelled section.bytes.now bytes section.whole section.low (plain.0 begins) section.sealed
