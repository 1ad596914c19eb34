use Rattle.std.proofs.Common.{◌≡◌, ◌++◌, length, string_bytes}
use Rattle.std.specs.List.{flat_map}
use Rattle.sd_run_streams.specs.TableLines.{section_line}
use Rattle.sd_run_streams.specs.Watching.{IsLearning}
use Rattle.sd_run_streams.proofs.assemblies.show.Given as goal

-- the sections before those that wait were shown and learned
abbrev pub invariant-loop-section : goal.invariant-loop-section
invariant-loop-section l = record {
  lines : string_bytes l.text ++ flat_map (section_line l.number l.pid) l.assembler.waiting
      ≡ string_bytes l.fn.text ++ flat_map (section_line l.number l.pid) l.fn.assembler.waiting;
  learned : IsLearning l.pid l.fn.assembler.waiting l.assembler.waiting l.fn.watched.marks.items l.watched.marks.items;
  counter : l.assembler.counter ≡ l.fn.assembler.counter;
  making : l.assembler.making ≡ l.fn.assembler.making;
}

abbrev pub decreases-loop-section : goal.decreases-loop-section
decreases-loop-section l = length l.assembler.waiting
