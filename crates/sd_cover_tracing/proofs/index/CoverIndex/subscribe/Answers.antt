use Rattle.std.proofs.Common.{◌≡◌, ◌+◌, ◌^◌, ℕ, ap, ◌∙◌, arith}
use Rattle.sd_tree_keys.specs.Leaves.{without_leaf}
use Rattle.sd_cover_tracing.specs.Index.{IndexValue}
use Rattle.sd_cover_tracing.specs.Path.{path_visit_count}
use Rattle.sd_cover_tracing.specs.Tally.{tally_at}
use Rattle.sd_cover_tracing.proofs.Indexes.{seen_leaf, seen_revoked, met_within, revoked_fewer, index_fewer}
use Rattle.sd_cover_tracing.proofs.index.CoverIndex.subscribe.Given.{Over}
use Rattle.sd_cover_tracing.proofs.index.CoverIndex.subscribe.Goals as goal

pub lower_path-requires-clause-some : goal.lower_path-requires-clause-some
lower_path-requires-clause-some g c =
    let tall = c.lowest_node-node.ensures.height in
    let leaf = seen_leaf _ _ _ c.args.u _ c.self.view_is c.requires.leaf in
    let old = (seen_revoked _ _ _ c.args.u _ c.self.view_is c.requires.leaf).1 c.requires.revoked in
    rw c.lowest_node-node.ensures.value
    (λ v low high. met_within c.self.inside.height c.args.u v c.self.inside.counts.counts (omega arith) leaf
    c.self.invariant old low high)

lowered : (g : Over) (c : goal.After-lower_path g) → (v : ℕ) → tally_at c.lower_path.new.counts.counts v
    + path_visit_count (2 ^ c.self.inside.height + c.args.u) (c.self.inside.height + 1) v
    ≡ tally_at c.self.inside.counts.counts v
lowered g c = rw (← c.lowest_node-node.ensures.value) c.lower_path.ensures.value

pub invariant_of-self : goal.invariant_of-self
invariant_of-self g c =
    let tall = c.lowest_node-node.ensures.height in
    let leaf = seen_leaf _ _ _ c.args.u _ c.self.view_is c.requires.leaf in
    let old = (seen_revoked _ _ _ c.args.u _ c.self.view_is c.requires.leaf).1 c.requires.revoked in
    index_fewer c.self.inside.height c.args.u c.self.inside.counts.counts c.lower_path.new.counts.counts (omega arith)
    leaf c.self.invariant old (lowered g c)

pub returns-clause-value : goal.returns-clause-value
returns-clause-value g c =
    let tall = c.lowest_node-node.ensures.height in
    let leaf = seen_leaf _ _ _ c.args.u _ c.self.view_is c.requires.leaf in
    let old = (seen_revoked _ _ _ c.args.u _ c.self.view_is c.requires.leaf).1 c.requires.revoked in
    let fewer = revoked_fewer c.self.inside.height c.args.u c.self.inside.counts.counts c.lower_path.new.counts.counts
    (omega arith) leaf c.self.invariant old (lowered g c) in
    fewer ∙ ap (λ (x : IndexValue). without_leaf c.args.u x.revoked) c.self.view_is
