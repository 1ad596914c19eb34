use Rattle.std.proofs.Common.{sym, ◌∙◌, append-nil, List, ℕ, length, take}
use Rattle.std.proofs.lemmas.List.{take_all, take_more, flat_map_more}
use Rattle.sd_tree_keys.specs.declared.set.SetName.{SetName}
use Rattle.sd_tree_keys.specs.declared.set.SetName.TheVariants.{Whole}
use Rattle.sd_command_base.specs.Periods.{set_line, period_line}
use Rattle.sd_command_base.proofs.text.period_text.Goals as goal

-- no set has a line yet
pub loop-name-init : goal.loop-name-init
unfolding period_line
loop-name-init g c =
    c.in_ok-text.ensures.ok ∙ sym (append-nil (period_line c.args.q c.args.revoked (length c.args.sets.now)))

-- one more set has its line
pub loop-name-preserved : goal.loop-name-preserved
loop-name-preserved g c =
    let sets = c.args.sets.now in
    let i = c.loop-name.name-index in
    let line : SetName → List ℕ = λ name. set_line (g.L.Listing.ends c.args.listing.now c.args.h name) name in
    rw (c.in_ok-push_set.ensures, c.end.ensures, c.loop-name.invariant, take_more sets i Whole c.loop-name-test.true)
    (flat_map_more line (period_line c.args.q c.args.revoked (length sets)) (take i sets) _)

-- all sets have their lines
pub returns : goal.returns
returns g c = rw (take_all c.loop-name.name-index c.args.sets.now c.loop-name-test.false) at c.loop-name.invariant
