-- Public meaning: a stream of bytes, cut into transport packets.
use Rattle.std.specs.Prelude.{◌≡◌, ℕ, zero, suc, ◌+◌, ◌*◌, ◌/◌, ◌%◌, ◌<◌, ◌==◌, Bool, List, [], ◌∷◌, length, take, drop}
use Rattle.std.specs.Prelude.{take_while, slice_index, nat_lt, if◌then◌else◌, Option, Some, None}
use Rattle.sd_engine.specs.declared.fault.StreamBreak.{StreamBreak}
use Rattle.sd_engine.specs.declared.fault.BreakCause.TheVariants.{Torn, NoSync}

-- the first n pieces of 188 bytes
unfoldable pub pieces : ℕ → List ℕ → List (List ℕ)
pieces zero bytes = []
pieces (suc n) bytes = take 188 bytes ∷ pieces n (drop 188 bytes)

-- a piece begins with the sync byte [ISO/IEC 13818-1, 2.4.3.3]
abbrev pub is_packet : List ℕ → Bool
is_packet piece = slice_index piece 0 == 0x47

-- the packets of a stream: its pieces of 188 bytes, up to the first that doesn't begin with the sync byte
-- [ISO/IEC 13818-1, 2.4.3.2]
unfoldable pub packets_of : List ℕ → List (List ℕ)
packets_of bytes = take_while is_packet (pieces (length bytes / 188) bytes)

-- fewer bytes than a packet has are left over as packet k
abbrev pub torn : ℕ → StreamBreak
torn k = record { packet = k; cause = Torn }

-- packet k doesn't begin with the sync byte
abbrev pub no_sync : ℕ → StreamBreak
no_sync k = record { packet = k; cause = NoSync }

-- Why what stands after k packets is no stream: a piece that doesn't begin with the sync byte, or else bytes left over
-- at the end. The number is that of the packet at which it breaks [this project, docs/FORMATS.md, Streams].
unfoldable pub break_after : ℕ → List ℕ → Option StreamBreak
break_after k bytes =
    if nat_lt (length (packets_of bytes)) (length bytes / 188) then Some (no_sync (k + length (packets_of bytes)))
    else if length bytes % 188 == 0 then None
    else Some (torn (k + length bytes / 188))

-- why bytes are no stream
abbrev pub break_of : List ℕ → Option StreamBreak
break_of bytes = break_after 0 bytes

-- the bytes are n packets, one after the other [ISO/IEC 13818-1, 2.4.3.2]
pub record ArePackets (n : ℕ) (bytes : List ℕ) : Type 0 where
  pub long : length bytes ≡ 188 * n
  pub sync : (k : ℕ) → k < n → slice_index bytes (188 * k) ≡ 0x47
