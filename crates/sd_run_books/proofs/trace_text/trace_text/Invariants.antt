use Rattle.std.proofs.Common.{◌≡◌, take, string_bytes}
use Rattle.std.specs.List.{flat_map}
use Rattle.sd_run_books.specs.Trace.{traced_line}
use Rattle.sd_run_books.proofs.trace_text.trace_text.Given as goal

-- the text so far has the lines of what was found so far
abbrev pub invariant-loop-next : goal.invariant-loop-next
invariant-loop-next l = string_bytes l.text ≡ flat_map traced_line (take l.next-index l.found)
