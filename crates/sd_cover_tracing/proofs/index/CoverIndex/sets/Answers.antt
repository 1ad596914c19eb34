use Rattle.std.proofs.Common.{subst}
use Rattle.sd_cover_tracing.specs.Index.{IndexValue, AreRevocable}
use Rattle.sd_cover_tracing.proofs.Walks.{revocable}
use Rattle.sd_cover_tracing.proofs.index.CoverIndex.sets.Goals as goal

pub returns-clause-leaves : goal.returns-clause-leaves
returns-clause-leaves g c = subst (λ (x : IndexValue). AreRevocable x.height x.revoked) c.self.view_is
    (revocable c.self.inside.height c.self.inside.counts.counts)

pub returns-in_err-chain_sets-clause-leaves : goal.returns-in_err-chain_sets-clause-leaves
returns-in_err-chain_sets-clause-leaves g c = subst (λ (x : IndexValue). AreRevocable x.height x.revoked) c.self.view_is
    (revocable c.self.inside.height c.self.inside.counts.counts)
