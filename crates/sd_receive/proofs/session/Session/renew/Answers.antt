use Rattle.std.proofs.Common.{subst, sym, ◌∷◌}
use Rattle.sd_spec.specs.Heard.{Controls}
use Rattle.sd_receive.specs.EcmAssembler.{IsCollected}
use Rattle.sd_receive.specs.declared.session.Session.{Session}
use Rattle.sd_receive.proofs.session.Session.renew.Goals as goal
use Rattle.sd_receive.proofs.session.Session.renew.Goals.{in-Some, in-None}

pub returns-clause-assembler : goal.returns-clause-assembler
returns-clause-assembler c = λ past part done.
    let kept = c.settle.ensures.value past part c.args.head.now done in
    elim c.match-word.branch [
      | in-Some w ↦ subst (λ (s : Session). IsCollected (Controls part ∷ past) s.assembler) (sym w.self-is) kept
      | in-None w ↦ subst (λ (s : Session). IsCollected (Controls part ∷ past) s.assembler) (sym w.self-is) kept
    ]
