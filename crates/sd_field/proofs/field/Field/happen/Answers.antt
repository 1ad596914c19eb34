use Rattle.std.proofs.Common.{◌∙◌, ◌^◌, ap, sym}
use Rattle.std.proofs.lemmas.Bool.{ltb-true}
use Rattle.sd_spec.specs.Events.{is_of}
use Rattle.sd_field.proofs.field.Field.happen.Goals as goal

pub offer-requires-clause-leaf : goal.offer-requires-clause-leaf
offer-requires-clause-leaf g c =
    ltb-true c.in-Offer.u (2 ^ c.args.self.now.site.height)
    (ap (is_of c.args.self.now.site.height) (sym c.in-Offer.is) ∙ c.requires.tree)

pub lose-requires-clause-leaf : goal.lose-requires-clause-leaf
lose-requires-clause-leaf g c =
    ltb-true c.in-Lose.u (2 ^ c.args.self.now.site.height)
    (ap (is_of c.args.self.now.site.height) (sym c.in-Lose.is) ∙ c.requires.tree)

pub off-requires-clause-leaf : goal.off-requires-clause-leaf
off-requires-clause-leaf g c =
    ltb-true c.in-Off.u (2 ^ c.args.self.now.site.height)
    (ap (is_of c.args.self.now.site.height) (sym c.in-Off.is) ∙ c.requires.tree)

pub on-requires-clause-leaf : goal.on-requires-clause-leaf
on-requires-clause-leaf g c =
    ltb-true c.in-On.u (2 ^ c.args.self.now.site.height)
    (ap (is_of c.args.self.now.site.height) (sym c.in-On.is) ∙ c.requires.tree)
