-- Each exit's line and each example, by computation.
use Rattle.std.proofs.Common.{◌≡◌, refl, take}
use Rattle.std.specs.Fmt.{digits}
use Rattle.sd_command_line.specs.declared.command.Command.{Command}
use Rattle.sd_command_line.specs.declared.operand.Files.{Files}
use Rattle.sd_command_line.specs.declared.operand.Files.TheVariants.{Inputs, Output, Both}
use Rattle.sd_command_line.specs.Commands.{example_of}
use Rattle.sd_command_line.specs.Exits.{exit_line}
use Rattle.sd_command_base.specs.Exits.{code_of}
use Rattle.sd_command_base.specs.declared.status.Status.{Status}
use Rattle.sd_command_base.specs.declared.status.Status.TheVariants.{Done, Usage, Missing, Revoked, DepotFault}
use Rattle.sd_command_base.specs.declared.status.Status.TheVariants.{PrintFault}
use Rattle.sd_command_base.specs.declared.status.Status.TheVariants.{BadSite, BadBook, BadCard, BadClear, BadStream}
use Rattle.sd_command_base.specs.declared.status.Status.TheVariants.{Limit}
use Rattle.sd_command_base.specs.declared.status.Status.TheVariants.{NoMemory, Unheard, Unclosed, Gaps, NoCat}
use Rattle.sd_command_base.specs.declared.status.Status.TheVariants.{BadWord, Clash, BadOut, SiteUsed, OtherBook}
use Rattle.sd_command_base.specs.declared.status.Status.TheVariants.{SiteUsedUp}
use Rattle.sd_law_run.specs.Helped.{help_exit, in_column, IsOrdered}
use Rattle.sd_run.proofs.Examples.{words_in, arguments_in, example_order}
use Rattle.sd_run.proofs.Rows.{example}

-- the first four characters of an exit's line are its number
pub exit_numbers : (files : Files) (status : Status) →
    take 4 (exit_line files (help_exit status)) ≡ in_column (code_of status)
unfolding exit_line digits
exit_numbers files Done = refl
exit_numbers Inputs Usage = refl
exit_numbers Output Usage = refl
exit_numbers Both Usage = refl
exit_numbers Inputs (Missing word) = refl
exit_numbers Output (Missing word) = refl
exit_numbers Both (Missing word) = refl
exit_numbers files (Revoked leaf period) = refl
exit_numbers files DepotFault = refl
exit_numbers files PrintFault = refl
exit_numbers files (BadSite word fault text) = refl
exit_numbers files (BadBook word line) = refl
exit_numbers files (BadCard word fault) = refl
exit_numbers files (BadClear refusal) = refl
exit_numbers files (BadStream refusal) = refl
exit_numbers files (Limit kind) = refl
exit_numbers files NoMemory = refl
exit_numbers files (Unheard leaf period) = refl
exit_numbers files (Unclosed number) = refl
exit_numbers files (Gaps packets) = refl
exit_numbers files NoCat = refl
exit_numbers files (BadWord word) = refl
exit_numbers files (Clash clash) = refl
exit_numbers files (BadOut word cause) = refl
exit_numbers files SiteUsed = refl
exit_numbers files OtherBook = refl
exit_numbers files (SiteUsedUp packet) = refl

-- the example of each command
pub examples_are_ordered : (command : Command) → IsOrdered command
examples_are_ordered command =
    let both = example command in
    record {
      words = words_in (example_of command);
      arguments = arguments_in (example_order command);
      line = both.0;
      order = both.1;
    }
