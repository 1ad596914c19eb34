use Rattle.std.proofs.Common.{◌≡◌, ◌+◌, ◌^◌, ap, ◌∙◌, rules}
use Rattle.sd_cover_tracing.specs.Tally.{tally_at}
use Rattle.sd_cover_tracing.proofs.Indexes.{seen_test}
use Rattle.sd_cover_tracing.proofs.index.CoverIndex.is_revoked.Goals as goal

pub returns-clause-value : goal.returns-clause-value
returns-clause-value g c =
    let read : c.get.result ≡ tally_at c.self.inside.counts.counts (2 ^ c.self.inside.height + c.args.u) =
    c.get.ensures.value ∙ ap (tally_at c.self.inside.counts.counts) c.lowest_node.ensures.value in
    let told = seen_test _ _ _ c.args.u c.get.result c.self.inside.counts.counts c.self.view_is c.requires.leaf read in
    (λ t. told.0 (search rules), λ m. search (rules, told.1 m))
