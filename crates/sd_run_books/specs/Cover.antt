-- Public meaning: `cover SITE BOOK` [this project, docs/FORMATS.md, Cover].
use Rattle.std.specs.Prelude.{ℕ, List}
use Rattle.sd_book.specs.declared.command.Command.{Command}
use Rattle.sd_cover_tracing.specs.Cover.{cover_of}
use Rattle.sd_command_base.specs.Spec.{Spec, FileArgument, Readings, value, ◌>>=◌}
use Rattle.sd_command_base.specs.Work.{Work}
use Rattle.sd_command_base.specs.Periods.{bare_end, listing}
use Rattle.sd_command_base.specs.Both.{both_meaning}

-- prints the sets of each period of a book for a tree of this height [Naor, Naor, Lotspiech 2001, 3.2]
abbrev pub covering : ℕ → List Command → Work
covering d commands = listing (cover_of d) bare_end d commands

-- the work that the two files say
unfoldable pub cover_meaning : FileArgument → FileArgument → Readings → Spec Work
cover_meaning site book given = do
  both ← both_meaning site book given
  value (covering both.site.height both.commands)
