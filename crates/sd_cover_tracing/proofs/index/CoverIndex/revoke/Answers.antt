use Rattle.std.proofs.Common.{◌≡◌, ◌+◌, ◌^◌, ℕ, ap, ◌∙◌, arith}
use Rattle.sd_tree_keys.specs.Leaves.{with_leaf}
use Rattle.sd_cover_tracing.specs.Index.{IndexValue}
use Rattle.sd_cover_tracing.specs.Path.{path_visit_count}
use Rattle.sd_cover_tracing.specs.Tally.{tally_at}
use Rattle.sd_cover_tracing.proofs.Indexes.{seen_leaf, seen_other, count_within, revoked_more, index_more}
use Rattle.sd_cover_tracing.proofs.index.CoverIndex.revoke.Given.{Over}
use Rattle.sd_cover_tracing.proofs.index.CoverIndex.revoke.Goals as goal

pub raise_path-requires-clause-fits : goal.raise_path-requires-clause-fits
raise_path-requires-clause-fits g c = λ v low high. count_within c.self.inside.height v c.self.inside.counts.counts
    c.self.invariant low high

raised : (g : Over) (c : goal.After-raise_path g) → (v : ℕ) → tally_at c.raise_path.new.counts.counts v
    ≡ tally_at c.self.inside.counts.counts v + path_visit_count (2 ^ c.self.inside.height + c.args.u)
    (c.self.inside.height + 1) v
raised g c = rw (← c.lowest_node-node.ensures.value) c.raise_path.ensures.value

pub invariant_of-self : goal.invariant_of-self
invariant_of-self g c =
    let tall = c.lowest_node-node.ensures.height in
    let leaf = seen_leaf _ _ _ c.args.u _ c.self.view_is c.requires.leaf in
    let other = seen_other _ _ _ c.args.u _ c.self.view_is c.requires.leaf c.requires.other in
    index_more c.self.inside.height c.args.u c.self.inside.counts.counts c.raise_path.new.counts.counts (omega arith)
    leaf c.self.invariant other (raised g c)

pub returns-clause-value : goal.returns-clause-value
returns-clause-value g c =
    let tall = c.lowest_node-node.ensures.height in
    let leaf = seen_leaf _ _ _ c.args.u _ c.self.view_is c.requires.leaf in
    let other = seen_other _ _ _ c.args.u _ c.self.view_is c.requires.leaf c.requires.other in
    let more = revoked_more c.self.inside.height c.args.u c.self.inside.counts.counts c.raise_path.new.counts.counts
    (omega arith) leaf c.self.invariant other (raised g c) in
    more ∙ ap (λ (x : IndexValue). with_leaf x.height c.args.u x.revoked) c.self.view_is
