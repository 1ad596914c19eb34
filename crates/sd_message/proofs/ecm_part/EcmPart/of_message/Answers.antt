use Rattle.std.proofs.Common.{◌-◌, sym, ap, subst, ℕ}
use Rattle.sd_message.specs.EcmForm.{IsEcm}
use Rattle.sd_message.specs.EcmParts.{Message, message_of}
use Rattle.sd_message.proofs.EcmSharing.{made_is, is_ecm}
use Rattle.sd_message.proofs.ecm_part.EcmPart.of_message.Goals as goal

pub returns-clause-form : goal.returns-clause-form
returns-clause-form c = λ version named since places up positions.
    let message : Message = message_of c.args.head.now c.args.places.now in
    subst IsEcm
    (sym (made_is message c.args.part (c.part_count.result - 1) c.places_of-own.result.now c.filled_up.result
    (ap (λ (n : ℕ). n - 1) c.part_count.ensures) c.places_of-own.ensures.value c.filled_up.ensures))
    (is_ecm message c.args.part c.requires.part version named since places up positions)
