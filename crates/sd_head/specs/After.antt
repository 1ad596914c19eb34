-- Public meaning: what is kept after packets.
use Rattle.std.specs.Prelude.{◌≡◌, ℕ, true, List, length, slice_index}
use Rattle.sd_packet.specs.Positions.{is_positional, position_of}
use Rattle.sd_spec.specs.Kinds.{pmts_in, moved_pids}
use Rattle.sd_head.specs.Known.{AreMarkedPids}
use Rattle.sd_head.specs.declared.clear.Clear.{Clear}

-- the positions, by PID, are those after these packets [this project, docs/FORMATS.md, Positions]
pub record ArePositions (before : List (List ℕ)) (positions : List ℕ) : Type 0 where
  pub at : (pid : ℕ) → is_positional pid ≡ true → slice_index positions pid ≡ position_of pid before

-- it is what is kept after these packets
pub record IsClearAfter (before : List (List ℕ)) (clear : Clear) : Type 0 where
  pub number : clear.count ≡ length before
  pub placed : ArePositions before clear.positions.items
  pub moved : clear.pids.items ≡ moved_pids before
  pub marked : AreMarkedPids (pmts_in before) clear.pmts.items
