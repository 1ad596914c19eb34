use Rattle.std.proofs.Common.{◌++◌, List, ℕ, drop, map}
use Rattle.sd_packet.specs.Header.{pid_of}
use Rattle.sd_receive.specs.Tracking.{IsClearBut, pids_in, packets_in}
use Rattle.sd_receive.proofs.buffer.tracked.reset_table.Given as goal

-- the PIDs of the places to come and of all packets are left
abbrev pub invariant-loop-place : goal.invariant-loop-place
invariant-loop-place l =
    IsClearBut (pids_in (drop l.place-index l.places) ++ map (λ (p : List ℕ). pid_of p) (packets_in l.held)) l.table

-- the PIDs of the packets to come are left
abbrev pub invariant-loop-one : goal.invariant-loop-one
invariant-loop-one l = IsClearBut (map (λ (p : List ℕ). pid_of p) (packets_in (drop l.one-index l.held))) l.table
