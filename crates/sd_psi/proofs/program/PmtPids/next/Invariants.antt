use Rattle.std.proofs.Common.{◌≡◌, length}
use Rattle.sd_psi.specs.Tables.{programs_in, pmt_pids_in}
use Rattle.sd_psi.proofs.program.PmtPids.next.Given as goal

abbrev pub invariant-loop-number : goal.invariant-loop-number
invariant-loop-number l = pmt_pids_in (programs_in l.self.programs.bytes.now)
    ≡ pmt_pids_in (programs_in l.fn.self.programs.bytes.now)

abbrev pub decreases-loop-number : goal.decreases-loop-number
decreases-loop-number l = length (programs_in l.self.programs.bytes.now)
