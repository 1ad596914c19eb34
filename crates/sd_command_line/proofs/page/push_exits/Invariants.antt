use Rattle.std.proofs.Common.{◌≡◌, ◌++◌, take, string_bytes}
use Rattle.std.specs.List.{flat_map}
use Rattle.sd_command_line.specs.Pages.{exit_text}
use Rattle.sd_command_line.proofs.page.push_exits.Given as goal

-- the text so far has the lines of the first of them
abbrev pub invariant-loop-exit : goal.invariant-loop-exit
invariant-loop-exit l =
    string_bytes l.text ≡ string_bytes l.fn.text ++ flat_map (exit_text l.topic) (take l.exit-index l.exits)
