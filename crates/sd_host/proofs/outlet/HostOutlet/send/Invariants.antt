use Rattle.std.proofs.Common.{◌≡◌, ◌-◌, drop, vec_len}
use Rattle.std.specs.Io.KnownBytes.{Keeps, append_known}
use Rattle.sd_host.proofs.outlet.HostOutlet.send.Given as goal

-- nothing failed, and what the file has and what waits are together what they were
abbrev pub invariant-loop-self : goal.invariant-loop-self
invariant-loop-self g l = record {
  calm : l.self.file.faults ≡ l.fn.self.file.faults;
  kept : Keeps (append_known (g.F.Write.contents l.fn.self.file.writer) (drop l.fn.self.sent l.fn.self.waiting.items))
      (append_known (g.F.Write.contents l.self.file.writer) (drop l.self.sent l.self.waiting.items));
}

abbrev pub decreases-loop-self : goal.decreases-loop-self
decreases-loop-self g l = vec_len l.self.waiting - l.self.sent
