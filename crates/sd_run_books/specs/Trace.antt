-- Public meaning: `trace SITE BOOK LEAVES` [this project, docs/FORMATS.md, Tracing].
use Rattle.std.specs.Prelude.{ℕ, ◌+◌, nat_lt, List, ◌++◌, length, codes, if◌then◌else◌, Result}
use Rattle.std.specs.Prelude.{Ok, Err}
use Rattle.std.specs.List.{flat_map}
use Rattle.std.specs.Fmt.{decimal}
use Rattle.sd_tree_keys.specs.Limits.{most_revoked}
use Rattle.sd_book.specs.declared.command.Command.{Command}
use Rattle.sd_book.specs.Commands.{last_period, revoked}
use Rattle.sd_cover_tracing.specs.declared.found.Found.{Found}
use Rattle.sd_cover_tracing.specs.declared.found.TraceFault.{TraceFault}
use Rattle.sd_cover_tracing.specs.declared.found.TraceFault.TheVariants as Fault
use Rattle.sd_cover_tracing.specs.Trace.{not_among, trace_of}
use Rattle.sd_command_base.specs.declared.status.Status.{Status}
use Rattle.sd_command_base.specs.declared.status.Status.TheVariants.{Limit, NoMemory}
use Rattle.sd_command_base.specs.declared.status.LimitKind.TheVariants.{Traced}
use Rattle.sd_command_base.specs.Spec.{Spec, FileArgument, Readings, value, of_result, ◌>>=◌}
use Rattle.sd_command_base.specs.Work.{Work, work_of_text}
use Rattle.sd_command_base.specs.Both.{both_meaning}
use Rattle.sd_command_base.specs.Leaves.{leaves_in}

-- the leaves that are revoked in the last period of a book
abbrev pub revoked_last : ℕ → List Command → List ℕ
revoked_last d commands = revoked d commands (last_period commands)

-- the line of a leaf that is found
unfoldable pub traced_line : Found → List ℕ
traced_line found =
    codes "leaf " ++ (decimal found.leaf
    ++ (codes " trials " ++ (decimal found.trials ++ (codes " splits " ++ (decimal found.splits ++ codes "\n")))))

-- the line of the probe that opens nothing
abbrev pub silent_line : List ℕ
silent_line = codes "silent trials 1\n"

-- the lines of all that are found, and of the last probe
unfoldable pub trace_text : List Found → List ℕ
trace_text found = flat_map traced_line found ++ silent_line

-- the status of a search that didn't end: the limit or out of memory [this project, docs/FORMATS.md, Tracing]
abbrev pub unended : TraceFault → Status
unended Fault.TooMany = Limit Traced
unended Fault.NoMemory = NoMemory

-- What is printed of a coalition's trace in the last period of a book. More leaves that are revoked or of the coalition
-- than may be revoked are over the limit [this project, docs/FORMATS.md, Tracing].
unfoldable pub trace_outcome : ℕ → List ℕ → List Command → Result (List ℕ) Status
trace_outcome d coalition commands =
    let gone = revoked_last d commands in
    if nat_lt most_revoked (length gone + length (not_among d gone coalition)) then Err (Limit Traced)
    else Ok (trace_text (trace_of d coalition gone))

-- the work that the three files say
unfoldable pub trace_meaning : FileArgument → FileArgument → FileArgument → Readings → Spec Work
trace_meaning site book leaves given = do
  both ← both_meaning site book given
  coalition ← leaves_in given both.site.height leaves
  text ← of_result (trace_outcome both.site.height coalition both.commands)
  value (work_of_text text)
