use Rattle.std.proofs.Common.{◌∙◌}
use Rattle.std.proofs.lemmas.List.{take_more}
use Rattle.sd_tree_keys.specs.declared.set.SetName.TheVariants.{Whole}
use Rattle.sd_site_cards.specs.SiteFields.{site_fields_of}
use Rattle.sd_head.proofs.Listing.{entry_more}
use Rattle.sd_head.proofs.entries.listed.Goals as goal

pub loop-name-preserved : goal.loop-name-preserved
loop-name-preserved g c =
    c.in_ok-push.ensures.items
    ∙ entry_more (site_fields_of c.args.site.now) c.args.q c.loop-name.name-index c.args.sets.now
    c.loop-name.entries.items
    c.entry.result _ c.period_key-key.result c.loop-name.invariant
    (take_more c.args.sets.now c.loop-name.name-index Whole c.loop-name-test.true)
    c.period_key-key.ensures c.entry.ensures.name c.entry.ensures.value
