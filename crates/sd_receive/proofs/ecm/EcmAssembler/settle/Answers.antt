use Rattle.std.proofs.Common.{ap, ◌∙◌}
use Rattle.std.specs.Prelude.{Option, option_map}
use Rattle.sd_message.specs.declared.ecm_part.EcmPart.{EcmPart}
use Rattle.sd_message.specs.EcmParts.{ecm_head_of}
use Rattle.sd_receive.proofs.Collecting.{settled}
use Rattle.sd_receive.proofs.ecm.EcmAssembler.settle.Goals as goal

pub returns-clause-value : goal.returns-clause-value
returns-clause-value c = λ past part head complete.
    settled past part head c.args.self.now _ complete c.reset.ensures.gathered
    (c.head-self.ensures ∙ ap (λ (kept : Option EcmPart). option_map ecm_head_of kept) complete.ends)
    (ap (λ v. v.items) c.swap.ensures.x_after)
