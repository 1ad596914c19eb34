-- Public meaning: what help says is true of the program: the numbers of exits, and the examples.
use Rattle.std.specs.Prelude.{◌≡◌, ℕ, ◌-◌, List, ◌∷◌, ◌++◌, length, replicate, Ok}
use Rattle.std.specs.List.{flat_map}
use Rattle.std.specs.Fmt.{decimal}
use Rattle.sd_base.specs.Types.{Bytes}
use Rattle.sd_command_line.specs.declared.command.Command.{Command}
use Rattle.sd_command_line.specs.declared.exit.Exit.{Exit}
use Rattle.sd_command_line.specs.declared.exit.Exit.TheVariants as exit
use Rattle.sd_command_line.specs.Commands.{example_of}
use Rattle.sd_command_base.specs.declared.status.Status.{Status}
use Rattle.sd_command_base.specs.declared.status.Status.TheVariants.{Done, Usage, Missing, Revoked, DepotFault}
use Rattle.sd_command_base.specs.declared.status.Status.TheVariants.{PrintFault}
use Rattle.sd_command_base.specs.declared.status.Status.TheVariants.{BadSite, BadBook, BadCard, BadClear, BadStream}
use Rattle.sd_command_base.specs.declared.status.Status.TheVariants.{Limit}
use Rattle.sd_command_base.specs.declared.status.Status.TheVariants.{NoMemory, Unheard, Unclosed, Gaps, NoCat}
use Rattle.sd_command_base.specs.declared.status.Status.TheVariants.{BadWord, Clash, BadOut, SiteUsed, OtherBook}
use Rattle.sd_command_base.specs.declared.status.Status.TheVariants.{SiteUsedUp}
use Rattle.sd_command_line.specs.Words.{Argument, CommandOf, order_of}

-- the exit of a status, as help lists it [this project, docs/FORMATS.md, Exits]
abbrev pub help_exit : Status → Exit
help_exit Done = exit.Done
help_exit Usage = exit.Usage
help_exit (Missing word) = exit.Missing
help_exit (Revoked leaf period) = exit.Revoked
help_exit DepotFault = exit.DepotFault
help_exit PrintFault = exit.PrintFault
help_exit (BadSite word fault text) = exit.BadSite
help_exit (BadBook word line) = exit.BadBook
help_exit (BadCard word fault) = exit.BadCard
help_exit (BadClear refusal) = exit.BadClear
help_exit (BadStream refusal) = exit.BadStream
help_exit (Limit kind) = exit.Limit
help_exit NoMemory = exit.NoMemory
help_exit (Unheard leaf period) = exit.Unheard
help_exit (Unclosed number) = exit.Unclosed
help_exit (Gaps packets) = exit.Gaps
help_exit NoCat = exit.NoCat
help_exit (BadWord word) = exit.BadWord
help_exit (Clash clash) = exit.Clash
help_exit (BadOut word cause) = exit.BadOut
help_exit SiteUsed = exit.SiteUsed
help_exit OtherBook = exit.OtherBook
help_exit (SiteUsedUp packet) = exit.SiteUsedUp

-- a number at the right of a column of four
abbrev pub in_column : ℕ → Bytes
in_column n = replicate (4 - length (decimal n)) 32 ++ decimal n

-- the example that help gives of a command has arguments that the program takes for this command
pub record IsOrdered (command : Command) : Type 0 where
  pub words : List Bytes
  pub arguments : List Argument
  pub line : flat_map (λ word. 32 ∷ word) words ≡ 32 ∷ example_of command
  pub order : order_of words ≡ Ok (CommandOf command arguments)
