-- Public meaning: CA_descriptors.
use Rattle.std.specs.Prelude.{ℕ, ◌==◌, ◌&&◌, Bool, nat_le, List, length, drop}
use Rattle.sd_base.specs.Bits.{field}
use Rattle.sd_psi.specs.Tables.{tag_of, content_of}

-- the descriptor is a CA_descriptor, whose descriptor_tag is 9, in which CA_system_ID and CA_PID are there
-- [ISO/IEC 13818-1, 2.6.1, 2.6.16]
unfoldable pub is_ca : List ℕ → Bool
is_ca descriptor = (tag_of descriptor == 9) && nat_le 4 (length (content_of descriptor))

-- CA_system_ID [ISO/IEC 13818-1, 2.6.16]
abbrev pub system_of : List ℕ → ℕ
system_of descriptor = field descriptor 16 16

-- CA_PID [ISO/IEC 13818-1, 2.6.16]
abbrev pub ca_pid_of : List ℕ → ℕ
ca_pid_of descriptor = field descriptor 35 13

-- private_data_byte: what stands after CA_PID [ISO/IEC 13818-1, 2.6.16]
abbrev pub private_data : List ℕ → List ℕ
private_data descriptor = drop 6 descriptor
