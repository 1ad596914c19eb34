-- Public meaning: the project's CAT, and the two PIDs that a receiver takes from a CAT.
use Rattle.std.specs.Prelude.{◌≡◌, true, ℕ, ◌/◌, ◌%◌, ◌+◌, ◌==◌, ◌&&◌, Bool, not, List, [], ◌∷◌, length, find, is_none}
use Rattle.std.specs.Prelude.{if◌then◌else◌, Option, None, option_map}
use Rattle.sd_base.specs.Bits.{field}
use Rattle.sd_packet.specs.Header.{pid_of, has_payload}
use Rattle.sd_packet.specs.Positions.{is_positional}
use Rattle.sd_section.specs.Header.{body_of}
use Rattle.sd_section.specs.Written.{section_bytes}
use Rattle.sd_section.specs.declared.write.Header.{Header}
use Rattle.sd_psi.specs.Tables.{descriptors_of, tag_of}
use Rattle.sd_psi.specs.Forms.{cat_fault, section_in}
use Rattle.sd_psi.specs.Access.{is_ca, system_of, ca_pid_of, private_data}
use Rattle.sd_psi.specs.declared.our_cat.Tuning.{Tuning}

-- two bytes of reserved bits, which are 1, and a PID [ISO/IEC 13818-1, 2.6.16]
abbrev pub pid_bytes : ℕ → List ℕ
pid_bytes pid = (0xE0 + pid / 256) ∷ pid % 256 ∷ []

-- the descriptor of the project's CAT: CA_system_ID, as CA_PID the PID of entitlement management messages, and as
-- private bytes that of entitlement control messages [ISO/IEC 13818-1, 2.6.16; this project, docs/FORMATS.md, Tables]
abbrev pub cat_descriptor : ℕ → ℕ → ℕ → List ℕ
cat_descriptor ca emm ecm =
    9 ∷ 6 ∷ ca / 256 ∷ ca % 256 ∷ (0xE0 + emm / 256) ∷ emm % 256 ∷ pid_bytes ecm

-- the header of the project's CAT: where other tables have an extension, its bits are reserved, and 1
-- [ISO/IEC 13818-1, 2.4.4.6; this project, docs/FORMATS.md, Tables]
abbrev pub cat_header : Header
cat_header = record { table_id = 1; extension = 0xFFFF; number = 0; last_number = 0 }

-- the section of the project's CAT [this project, docs/FORMATS.md, Tables]
unfoldable pub cat_section : ℕ → ℕ → ℕ → List ℕ
cat_section ca emm ecm = section_bytes cat_header (cat_descriptor ca emm ecm)

-- what is read from that descriptor
pub record IsCatDescriptor (ca emm ecm : ℕ) (descriptor : List ℕ) : Type 0 where
  pub shown : is_ca descriptor ≡ true
  pub system : system_of descriptor ≡ ca
  pub ca_pid : ca_pid_of descriptor ≡ emm
  pub private : field (private_data descriptor) 3 13 ≡ ecm

-- what a descriptor of the CAT says [ISO/IEC 13818-1, 2.6.16; this project, docs/FORMATS.md, Tables]
unfoldable pub tuning_in : List ℕ → Tuning
tuning_in descriptor = record { emm = field descriptor 35 13; ecm = field descriptor 51 13 }

-- both PIDs have positions, and they differ
abbrev pub is_tuning : Tuning → Bool
is_tuning tuning = is_positional tuning.emm && (is_positional tuning.ecm && not (tuning.emm == tuning.ecm))

-- the descriptor is for this system
unfoldable pub is_for : ℕ → List ℕ → Bool
is_for ca descriptor =
    (tag_of descriptor == 9)
    && ((length descriptor == 8) && ((field descriptor 16 16 == ca) && is_tuning (tuning_in descriptor)))

-- what a packet says to a receiver of this system, if it is a CAT by itself with a descriptor for the system
unfoldable pub cat_tuning : ℕ → List ℕ → Option Tuning
cat_tuning ca packet =
    if (pid_of packet == 1) && (has_payload packet && is_none (cat_fault packet))
    then option_map tuning_in (find (is_for ca) (descriptors_of (body_of (section_in packet))))
    else None
