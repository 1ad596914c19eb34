use Rattle.std.proofs.Common.{◌<◌, length, arith}
use Rattle.sd_psi.proofs.Cutting.{some_items}
use Rattle.sd_psi.proofs.items.first.Goals as goal

-- bytes have an item
pub returns-clause-none : goal.returns-clause-none
returns-clause-none c =
    let some : 0 < length c.args.bytes.now = grind (arith, c.if-is_empty.false, c.is_empty.ensures) in
    ((λ h. absurd (cc)), (λ none. absurd (some_items c.args.kind c.args.bytes.now some none)))
