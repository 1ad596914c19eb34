-- The tests of a packet tell what stands in it.
use Rattle.std.proofs.Common.{◌≡◌, ℕ, ◌≤◌, List, ap, refl, arith}
use Rattle.std.specs.Prelude.{Bool, true, false, ◌==◌, nat_le, Option, Some, None, is_none, slice_get, drop}
use Rattle.std.specs.Bool.{Decides}
use Rattle.std.proofs.lemmas.Bool.{false≢true}
use Rattle.std.proofs.lemmas.Bool.Decides.{Decides-and, Decides-eqb, Decides-like, nat_tests}
use Rattle.std.proofs.lemmas.Slice.Eq.{bytes_eq-Decides}
use Rattle.sd_packet.specs.Header.{unit_start_of, payload_of}
use Rattle.sd_section.specs.Judged.{section_fault}
use Rattle.sd_section.specs.declared.fault.SectionFault.{SectionFault}
use Rattle.sd_message.specs.Framed.{HasSection, is_plain, is_zero, frames_section, section_of}

-- a fault is none
tells_none : (fault : Option SectionFault) → Decides (is_none fault) (fault ≡ None)
tells_none None = (λ yes. refl, λ same. refl)
tells_none (Some fault) = (λ yes. absurd (false≢true yes), λ same. absurd (false≢true (ap is_none same)))

-- a byte is there, and is 0
tells_zero : (byte : Option ℕ) → Decides (is_zero byte) (byte ≡ Some 0)
tells_zero None = (λ yes. absurd (false≢true yes), λ same. absurd (false≢true (ap is_zero same)))
tells_zero (Some byte) = (λ yes. ap (λ (n : ℕ). Some n) ((Decides-eqb byte 0).0 yes), λ same. ap is_zero same)

-- the packet begins with a section of this project
pub tells_section : (packet : List ℕ) → Decides (frames_section packet) (HasSection packet)
unfolding frames_section
tells_section packet =
    let fault : Option SectionFault = section_fault (drop 1 (payload_of packet)) in
    let pointer : Option ℕ = slice_get (payload_of packet) 0 in
    let section : List ℕ = section_of packet in
    Decides-like _
    (λ all. record { starts = record { unit_start = all.0; pointer = all.1.0 }; good = all.1.1.0; plain = all.1.1.1 })
    (λ has. (has.starts.unit_start, (has.starts.pointer, (has.good, has.plain))))
    (Decides-and (unit_start_of packet == 1) _ (Decides-eqb (unit_start_of packet) 1)
    (Decides-and (is_zero pointer) _ (tells_zero pointer)
    (Decides-and (is_none fault) (is_plain section) (tells_none fault) (bytes_eq-Decides _ _))))

-- a test is false where what it tells is
pub is_false : {P : Type 0} (r : Bool) → Decides r P → ¬ P → r ≡ false
is_false true tells unless = absurd (unless (tells.0 refl))
is_false false tells unless = refl

-- one number is at most the other
pub tells_le : (a b : ℕ) → Decides (nat_le a b) (a ≤ b)
tells_le a b = grind (arith, nat_tests)
