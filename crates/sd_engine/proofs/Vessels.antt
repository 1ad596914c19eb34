-- Writes that failed.
use Rattle.std.proofs.Common.{ℕ, List, length}
use Rattle.std.specs.Prelude.{Option, Some, None, Err}
use Rattle.sd_ports.specs.Bytes.{AppendsPrefix}
use Rattle.sd_ports.specs.Rooms.{FillsRoom}
use Rattle.sd_engine.specs.Stage.{SinkState, IsCutShort, IsTooShort}

-- where not all bytes were written there was less room
pub too_short : {E : Type 0} (a b : Option ℕ) (size : ℕ) (fault : E) → FillsRoom a b size (Err fault) →
    IsTooShort a size
too_short None b size fault h = tt
too_short (Some room) b size fault h = h

-- a write that failed within bytes of which something is said
pub cut_short : (Says : List ℕ → Type 0) (u v : SinkState) (bytes : List ℕ) → Says bytes →
    AppendsPrefix u.held v.held bytes → IsTooShort u.room (length bytes) → IsCutShort u v Says
cut_short Says u v bytes says cut room = record {
  bytes = bytes;
  says = says;
  prefix = cut.0;
  short = cut.1;
  taken = cut.2;
  room = room;
}
