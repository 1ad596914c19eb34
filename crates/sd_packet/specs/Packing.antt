-- Public meaning: packets that are one section by itself.
use Rattle.std.specs.Prelude.{◌≡◌, ℕ, ◌+◌, ◌-◌, ◌/◌, ◌%◌, List, [], ◌∷◌, ◌++◌, length, replicate}
use Rattle.sd_packet.specs.Header.{transport_error, unit_start_of, priority_of, pid_of, scrambling_of, adaptation_of}
use Rattle.sd_packet.specs.Header.{counter_of}
use Rattle.sd_packet.specs.Header.{payload_start_of, payload_of}

-- the four bytes of the header: unit start set, payload alone, no other bit but PID and counter
-- [ISO/IEC 13818-1, 2.4.3.2]
abbrev pub section_header : ℕ → ℕ → List ℕ
section_header pid counter = 0x47 ∷ (0x40 + pid / 256) ∷ (pid % 256) ∷ (0x10 + counter) ∷ []

-- the payload: pointer_field 0, the section, and stuffing after it [ISO/IEC 13818-1, 2.4.4]
abbrev pub section_payload : List ℕ → List ℕ
section_payload section = 0 ∷ (section ++ replicate (183 - length section) 0xFF)

-- the packet [ISO/IEC 13818-1, 2.4.4]
unfoldable pub section_packet : List ℕ → ℕ → ℕ → List ℕ
section_packet section pid counter = section_header pid counter ++ section_payload section

-- the packet by what is read from it
pub record IsSectionPacket (section : List ℕ) (pid counter : ℕ) (packet : List ℕ) : Type 0 where
  pub error : transport_error packet ≡ 0
  pub unit_start : unit_start_of packet ≡ 1
  pub priority : priority_of packet ≡ 0
  pub pid_is : pid_of packet ≡ pid
  pub scrambling : scrambling_of packet ≡ 0
  pub adaptation : adaptation_of packet ≡ 1
  pub counter_is : counter_of packet ≡ counter
  pub start : payload_start_of packet ≡ 4
  pub payload : payload_of packet ≡ section_payload section
