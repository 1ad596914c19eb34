use Rattle.std.proofs.Common.{arith}
use Rattle.sd_site_cards.proofs.Spellings.{read_is_spelled}
use Rattle.sd_site_cards.proofs.card_read.whole.Goals as goal

-- what is read is a card that the bytes spell
pub returns-clause-sound : goal.returns-clause-sound
returns-clause-sound c =
    let named = c.in_ok-height.ensures.value in
    read_is_spelled c.args.bytes.now c.in_ok-height.height c.in_ok-height.leaf c.two_at.result
    c.in_ok-secrets.secrets.items (λ i. omega (arith, c.type_inv.bytes i))
    c.in_ok-height.ensures.fault named.0 named.1 c.two_at.ensures
    c.in_ok-secrets.ensures

pub invariant_of-result : goal.invariant_of-result
invariant_of-result c =
    let named = c.in_ok-height.ensures.value in
    let is =
    (read_is_spelled c.args.bytes.now c.in_ok-height.height c.in_ok-height.leaf c.two_at.result
    c.in_ok-secrets.secrets.items (λ i. omega (arith, c.type_inv.bytes i))
    c.in_ok-height.ensures.fault named.0 named.1 c.two_at.ensures
    c.in_ok-secrets.ensures).0 in
    record { height_in = is.height; leaf_in = is.leaf; count = is.count }
