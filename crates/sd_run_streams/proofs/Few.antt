-- How many positions a part has.
use Rattle.std.proofs.Common.{◌≤◌, arith}
use Rattle.sd_message.specs.EcmForm.{IsEcm}
use Rattle.sd_message.specs.declared.ecm_format.TheConstants.{POSITIONS}
use Rattle.sd_message.specs.declared.ecm_part.EcmPart.{EcmPart}
use Rattle.sd_message.proofs.Versions.{few_positions}

-- a part has no more positions than there is room for
pub few_listed : (part : EcmPart) → IsEcm part → part.count ≤ POSITIONS
few_listed part form = omega (arith, form.counted.few, few_positions part.version)
