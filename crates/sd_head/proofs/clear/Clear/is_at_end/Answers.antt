use Rattle.std.proofs.Common.{◌-◌, ◌^◌, ◌∙◌, nat_le, ap₂, ne_eqb, arith}
use Rattle.std.proofs.Math.Nat.{mul-pos}
use Rattle.sd_site_cards.specs.SiteFields.{site_fields_of}
use Rattle.sd_head.proofs.Refusing.{words_used}
use Rattle.sd_head.proofs.clear.Clear.is_at_end.Goals as goal

pub returns-else-self : goal.returns-else-self
returns-else-self c =
    let site = c.args.site.now in
    let count = c.args.self.now.count in
    rw (ne_eqb count (2 ^ 32 - 1) c.if-self.false) (ap₂ nat_le c.most_packets.ensures c.from.ensures
    ∙ words_used (site_fields_of site) count (mul-pos (omega (arith, site.every_in.0))
    (omega (arith, site.cryptos_in.0))))
