-- What a descriptor of the CAT says.
use Rattle.std.proofs.Common.{◌≡◌, ℕ, ◌+◌, zero, suc, ◌/◌, ◌%◌, ◌≤◌, ◌==◌, ◌&&◌, Bool, true, false, List, drop}
use Rattle.std.proofs.Common.{length, refl, eq-eqb, arith, length-drop}
use Rattle.std.specs.Prelude.{◌≢◌, ◌<◌, nat_le, find, option_map, Some, None}
use Rattle.std.proofs.lemmas.Bool.{le-leb, lt-ltb, le-ltb, eqb-true, ne_eqb, and_parts}
use Rattle.std.proofs.lemmas.List.{get_or-drop}
use Rattle.sd_base.proofs.Bools.{and_false}
use Rattle.sd_base.specs.Bits.{bit, field}
use Rattle.sd_psi.specs.Access.{is_ca}
use Rattle.sd_psi.specs.Tables.{tag_of, content_of}
use Rattle.sd_packet.specs.Header.{pid_of, has_payload, payload_start_of}
use Rattle.sd_section.specs.Header.{body_of}
use Rattle.sd_psi.specs.Tables.{descriptors_of}
use Rattle.sd_psi.specs.Forms.{cat_fault, section_in}
use Rattle.sd_psi.specs.declared.fault.FormFault.{FormFault}
use Rattle.sd_psi.specs.OurCat.{cat_tuning, is_for, is_tuning, tuning_in}

off : (a b c rest : Bool) → (a && c) ≡ false → (b ≡ true → c ≡ true) → (a && (b && rest)) ≡ false
off false b c rest h g = refl
off true false c rest h g = refl
off true true c rest h g = absurd (grind (arith, h, g refl))

-- one that is for the system is a CA_descriptor
pub not_ca : (ca : ℕ) (d : List ℕ) → is_ca d ≡ false → is_for ca d ≡ false
unfolding is_ca is_for
not_ca ca d h =
    off (tag_of d == 9) (length d == 8) (nat_le 4 (length (content_of d))) _ h
    (λ (e : (length d == 8) ≡ true). le-leb 4 (length (content_of d))
    (omega (arith, eqb-true (length d) 8 e, length-drop 2 d)))

-- and has 8 bytes
pub not_eight : (ca : ℕ) (d : List ℕ) → (length d == 8) ≡ false → is_for ca d ≡ false
unfolding is_for
not_eight ca d h = rw h (and_false (tag_of d == 9))

pub is_for_system : (ca : ℕ) (d : List ℕ) → is_ca d ≡ true → (length d == 8) ≡ true →
    is_for ca d ≡ ((field d 16 16 == ca) && is_tuning (tuning_in d))
unfolding is_ca is_for
is_for_system ca d h long = rw ((and_parts (tag_of d == 9) (nat_le 4 (length (content_of d))) h).0, long) refl

-- the bits after the sixth byte
bit_after : (d : List ℕ) (k : ℕ) → bit (drop 6 d) k ≡ bit d (48 + k)
bit_after d k =
    let byte : (48 + k) / 8 ≡ 6 + k / 8 = omega arith in
    let place : (48 + k) % 8 ≡ k % 8 = omega arith in
    rw (byte, place, get_or-drop 6 d (k / 8) 0) refl

field_after : (d : List ℕ) (at n : ℕ) → field (drop 6 d) at n ≡ field d (48 + at) n
unfolding field
field_after d at zero = refl
field_after d at (suc n) =
    let place : 48 + (at + n) ≡ 48 + at + n = omega arith in
    rw (field_after d at n, bit_after d (at + n), place) refl

-- the PID among the private bytes
pub private_field : (d : List ℕ) → field (drop 6 d) 3 13 ≡ field d 51 13
private_field d = field_after d 3 13

-- a packet that is no CAT by itself says nothing
pub other_pid : (ca : ℕ) (packet : List ℕ) → pid_of packet ≢ 1 → cat_tuning ca packet ≡ None
unfolding cat_tuning
other_pid ca packet h = rw (ne_eqb (pid_of packet) 1 h) refl

pub no_payload : (ca : ℕ) (packet : List ℕ) → 188 ≤ payload_start_of packet → cat_tuning ca packet ≡ None
unfolding cat_tuning
no_payload ca packet h = rw (le-ltb (payload_start_of packet) 188 h, and_false (pid_of packet == 1)) refl

pub faulty : (ca : ℕ) (packet : List ℕ) (fault : FormFault) → cat_fault packet ≡ Some fault →
    cat_tuning ca packet ≡ None
unfolding cat_tuning
faulty ca packet fault h = rw (h, and_false (has_payload packet), and_false (pid_of packet == 1)) refl

-- what a CAT says is what its first descriptor for the system says
pub taken : (ca : ℕ) (packet : List ℕ) → pid_of packet ≡ 1 → payload_start_of packet < 188 → cat_fault packet ≡ None →
    cat_tuning ca packet ≡ option_map tuning_in (find (is_for ca) (descriptors_of (body_of (section_in packet))))
unfolding cat_tuning
taken ca packet pid payload good =
    rw (eq-eqb (pid_of packet) 1 pid, lt-ltb (payload_start_of packet) 188 payload, good) refl
