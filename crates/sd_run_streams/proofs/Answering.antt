-- What a stage answers that shows a stream.
use Rattle.std.proofs.Common.{◌≡◌, ℕ, ◌+◌, ◌≤◌, Bool, true, false, arith}
use Rattle.std.specs.Prelude.{Option, Some, None}
use Rattle.sd_base.specs.declared.memory.NoMemory.{NoMemory}

-- no refusal is kept where none is
pub none_kept : {P : Type 0} (fault : NoMemory) → ◌≡◌ {A = Option NoMemory} None (Some fault) → P
none_kept fault h = cc

-- memory that ran out did not stay
pub true_is_no_false : {P : Type 0} → ◌≡◌ {A = Bool} true false → P
true_is_no_false h = cc

-- where no step was taken none more is counted
pub none_counted : (steps : ℕ) → steps ≤ steps + 0
none_counted steps = omega arith
