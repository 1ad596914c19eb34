-- Public meaning: packets under control words.
use Rattle.std.specs.Prelude.{◌≡◌, ℕ, ◌+◌, ◌*◌, ◌^◌, List, ◌++◌, take}
use Rattle.sd_cipher.specs.Keystream.{keystream, xored}
use Rattle.sd_packet.specs.Header.{unit_start_of, pid_of, scrambling_of, adaptation_of, counter_of, payload_start_of}
use Rattle.sd_packet.specs.Header.{payload_of, controlled}
use Rattle.sd_cipher.specs.declared.payload.Parity.{Parity}
use Rattle.sd_cipher.specs.declared.payload.Parity.TheVariants.{Even, Odd}

-- the number of a packet's keystream [this project, docs/FORMATS.md, Keystream]
abbrev pub stream_number : ℕ → ℕ → ℕ
stream_number pid position = pid * 2 ^ 48 + position

-- the payload under the keystream of the packet's PID and position [this project, docs/FORMATS.md, Keystream]
abbrev pub payload_under : List ℕ → List ℕ → ℕ → List ℕ
payload_under packet word position =
    xored (payload_of packet) (keystream word (stream_number (pid_of packet) position) 184)

-- the packet with this transport_scrambling_control, its payload under the keystream of its PID and position
-- [this project, docs/FORMATS.md, Keystream]
unfoldable pub packet_under_keystream : List ℕ → List ℕ → ℕ → ℕ → List ℕ
packet_under_keystream packet word position control =
    take (payload_start_of packet) (controlled packet control) ++ payload_under packet word position

-- transport_scrambling_control of a packet under a word of this parity [this project, docs/FORMATS.md, Keystream]
abbrev pub control_of : Parity → ℕ
control_of Even = 2
control_of Odd = 3

-- the packet scrambled under a control word of this parity, at its position [this project, docs/FORMATS.md, Keystream]
abbrev pub scrambled : List ℕ → List ℕ → ℕ → Parity → List ℕ
scrambled packet word position parity = packet_under_keystream packet word position (control_of parity)

-- the packet descrambled under a control word, at its position [this project, docs/FORMATS.md, Keystream]
abbrev pub descrambled : List ℕ → List ℕ → ℕ → List ℕ
descrambled packet word position = packet_under_keystream packet word position 0

-- what is read from a packet after scrambling or descrambling: it has this control and this payload, and the rest as
-- before [this project, docs/FORMATS.md, Keystream]
pub record IsPacketUnderKeystream (old : List ℕ) (control : ℕ) (payload new : List ℕ) : Type 0 where
  pub unit_start : unit_start_of new ≡ unit_start_of old
  pub pid : pid_of new ≡ pid_of old
  pub scrambling : scrambling_of new ≡ control
  pub adaptation : adaptation_of new ≡ adaptation_of old
  pub counter : counter_of new ≡ counter_of old
  pub start : payload_start_of new ≡ payload_start_of old
  pub payload_is : payload_of new ≡ payload
