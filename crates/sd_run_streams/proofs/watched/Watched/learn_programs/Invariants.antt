use Rattle.std.proofs.Common.{length}
use Rattle.sd_psi.specs.Tables.{programs_in, pmt_pids_in, pmt_pids_of}
use Rattle.sd_run_streams.proofs.Learning.{AreAdding}
use Rattle.sd_run_streams.proofs.watched.Watched.learn_programs.Given as goal

-- what is marked and what is left come to all PIDs
abbrev pub invariant-loop-pid : goal.invariant-loop-pid
invariant-loop-pid l =
    AreAdding (pmt_pids_of l.pat.section.bytes.now) (pmt_pids_in (programs_in l.pids.programs.bytes.now))
    l.fn.self.marks.items l.self.marks.items

abbrev pub decreases-loop-pid : goal.decreases-loop-pid
decreases-loop-pid l = length (pmt_pids_in (programs_in l.pids.programs.bytes.now))
