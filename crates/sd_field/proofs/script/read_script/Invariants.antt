use Rattle.std.proofs.Common.{◌≡◌, ◌+◌, ◌≤◌, length, true, All}
use Rattle.sd_base.specs.Lines.{lines_of}
use Rattle.sd_spec.specs.Events.{is_of}
use Rattle.sd_field.specs.Script.{put_before, script_from, script_of}
use Rattle.sd_field.proofs.script.read_script.Given as goal

-- the lines so far said these events, at least one each, and the rest says what comes after them
abbrev pub invariant-loop-line : goal.invariant-loop-line
invariant-loop-line l = record {
  lines : l.lines ≤ length l.events.items;
  few : length l.events.items ≤ 524288;
  leaves : All (λ event. is_of l.h event ≡ true) l.events.items;
  said : script_of l.h l.bytes ≡ put_before l.events.items
      (script_from l.h (l.lines + 1) (length l.events.items) (lines_of l.rest));
}

abbrev pub decreases-loop-line : goal.decreases-loop-line
decreases-loop-line l = length l.rest
