use Rattle.std.proofs.Common.{◌≡◌, ◌≤◌, ◌++◌, ◌∷◌, [], ◌∙◌, ℕ, subst, rules}
use Rattle.sd_packet.specs.Packing.{section_packet}
use Rattle.sd_message.specs.EmmSpelled.{emm_section}
use Rattle.sd_head.specs.Packets.{period_of_entries}
use Rattle.sd_head.proofs.Packing.{section_more, all_sections}
use Rattle.sd_head.proofs.sections.pack_sections.Goals as goal

pub loop-index-preserved : goal.loop-index-preserved
loop-index-preserved c =
    let period = period_of_entries c.args.run c.args.q c.args.check.now c.args.entries.now in
    let emm = c.of_period-emm.result in
    let pushed : c.push.new.self.items ≡ c.loop-index.packets.items ++ section_packet (emm_section emm) c.args.pid 0 ∷
    [] =
    search rules in
    pushed ∙ section_more c.args.pid c.loop-index.index period c.loop-index.packets.items emm c.loop-index.invariant
    c.of_period-emm.ensures.value

pub returns : goal.returns
returns c =
    let period = period_of_entries c.args.run c.args.q c.args.check.now c.args.entries.now in
    all_sections c.args.pid c.loop-index.index period c.loop-index.packets.items
    (subst (λ (n : ℕ). n ≤ c.loop-index.index) c.section_count-index-end.ensures c.loop-index-test.false)
    c.loop-index.invariant
