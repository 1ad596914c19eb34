use Rattle.std.proofs.Common.{◌≤◌, length}
use Rattle.sd_message.specs.EcmForm.{ArePidsAscending}
use Rattle.sd_receive.proofs.Walking.{IsWalked}
use Rattle.sd_receive.proofs.ecm.assembler.places_go_back.Given as goal

-- of the places before, so many were met in order
abbrev pub invariant-loop-place : goal.invariant-loop-place
invariant-loop-place l = record {
  few : l.met ≤ length l.places;
  walked : ArePidsAscending l.coming → ArePidsAscending l.places → IsWalked l.coming l.places l.met l.place-index;
}
