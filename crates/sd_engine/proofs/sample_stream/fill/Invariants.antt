use Rattle.std.proofs.Common.{ℕ, ◌≡◌, ◌+◌, take, map}
use Rattle.std.specs.List.{range_with_len}
use Rattle.sd_engine.specs.Sample.{state_at, generated_before, sample_packet}
use Rattle.sd_engine.proofs.sample_stream.fill.Given as goal

-- the packets before i are made, in each stream in which the first of them begins at the first state
abbrev pub invariant-loop-i : goal.invariant-loop-i
invariant-loop-i l =
    (number : ℕ) → l.fn.state ≡ state_at number (generated_before l.first) →
    (l.state ≡ state_at number (generated_before (l.first + l.i)))
    × (take l.i l.piece ≡ map (sample_packet number) (range_with_len l.first l.i))
