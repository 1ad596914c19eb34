-- Public meaning: the header of a clear packet as it is carried.
use Rattle.std.specs.Prelude.{◌≡◌, ℕ, ◌+◌, ◌%◌}
use Rattle.sd_base.specs.Types.{Packet, WordNumber}
use Rattle.sd_packet.specs.Header.{unit_start_of, pid_of, scrambling_of, adaptation_of, counter_of, payload_start_of}
use Rattle.sd_spec.specs.declared.kind.Kind.{Kind}
use Rattle.sd_spec.specs.declared.kind.Kind.TheVariants.{Passed, Pmt, Scrambled}

-- transport_scrambling_control of a packet that is carried under control word t
-- [this project, docs/FORMATS.md, Keystream]
abbrev pub control_in : Kind → WordNumber → ℕ
control_in Passed t = 0
control_in Pmt t = 0
control_in Scrambled t = 2 + t % 2

-- the header is as it was but for transport_scrambling_control [ISO/IEC 13818-1, 2.4.3.2]
pub record IsCarriedWith (control : ℕ) (old new : Packet) : Type 0 where
  pub unit_start : unit_start_of new ≡ unit_start_of old
  pub pid : pid_of new ≡ pid_of old
  pub scrambling : scrambling_of new ≡ control
  pub adaptation : adaptation_of new ≡ adaptation_of old
  pub counter : counter_of new ≡ counter_of old
  pub start : payload_start_of new ≡ payload_start_of old
