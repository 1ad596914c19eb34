use Rattle.std.proofs.Common.{◌≡◌, ◌∙◌, List, subst, sym, ap}
use Rattle.std.specs.Prelude.{OnOk, All, map}
use Rattle.sd_tree_keys.specs.declared.set.SetName.{SetName}
use Rattle.sd_site_cards.specs.SiteFields.{site_fields_of}
use Rattle.sd_message.specs.Period.{Period}
use Rattle.sd_spec.specs.Messages.{entry_of}
use Rattle.sd_head.specs.Crypto.{IsKeyed}
use Rattle.sd_head.specs.Packets.{period_packets}
use Rattle.sd_head.proofs.Packing.{period_is}
use Rattle.sd_head.proofs.Sets.{all_keyed, sets_few, entries_few, entries_ascend}
use Rattle.sd_head.proofs.entitling.pack_period.Goals as goal

pub entries_of-requires : goal.entries_of-requires
entries_of-requires g c =
    subst (All IsKeyed) (sym c.deref.ensures.value)
    (all_keyed c.args.index.now.height c.args.index.now.revoked c.in_ok-sets.sets.items c.in_ok-sets.ensures.value.1)

pub pack_sections-requires-clause-few : goal.pack_sections-requires-clause-few
pack_sections-requires-clause-few g c =
    entries_few (site_fields_of c.args.site.now) c.args.q c.in_ok-sets.sets.items c.deref-2.result.now
    (c.deref-2.ensures.value ∙ (c.in_ok-entries.ensures
    ∙ ap (λ (sets : List SetName). map (entry_of (site_fields_of c.args.site.now) c.args.q) sets)
    c.deref.ensures.value))
    (sets_few c.args.index.now.height c.args.index.now.revoked c.in_ok-sets.sets.items c.requires.height
    c.in_ok-sets.ensures.leaves.leaves c.requires.few c.in_ok-sets.ensures.value.1)

pub pack_sections-requires-clause-ascending : goal.pack_sections-requires-clause-ascending
pack_sections-requires-clause-ascending g c =
    entries_ascend (site_fields_of c.args.site.now) c.args.q c.in_ok-sets.sets.items c.deref-2.result.now
    (c.deref-2.ensures.value ∙ (c.in_ok-entries.ensures
    ∙ ap (λ (sets : List SetName). map (entry_of (site_fields_of c.args.site.now) c.args.q) sets)
    c.deref.ensures.value))
    c.in_ok-sets.ensures.value.1.ascending

pub returns : goal.returns
returns g c =
    subst (λ (p : Period). OnOk c.pack_sections.result
    (c.pack_sections.new.packets.items ≡ period_packets c.args.site.now.emm p))
    (period_is (site_fields_of c.args.site.now) c.name.result c.args.q c.in_ok-sets.sets.items _ c.deref-2.result.now _
    c.period_key.result c.name.ensures c.in_ok-sets.ensures.value.0 (c.deref-2.ensures.value ∙ (c.in_ok-entries.ensures
    ∙ ap (λ (sets : List SetName). map (entry_of (site_fields_of c.args.site.now) c.args.q) sets)
    c.deref.ensures.value))
    c.check_value-check.ensures c.period_key.ensures)
    c.pack_sections.ensures
