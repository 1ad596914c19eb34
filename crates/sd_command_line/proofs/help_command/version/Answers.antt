use Rattle.std.proofs.Common.{inl}
use Rattle.sd_command_base.specs.Outside.{page_state}
use Rattle.sd_command_base.specs.Outcome.{status_of}
use Rattle.sd_command_line.specs.Pages.{version_text}
use Rattle.sd_command_line.proofs.Printing.{text_told}
use Rattle.sd_command_line.proofs.help_command.version.Goals as goal

pub returns : goal.returns
returns g c place steps =
    let told = rw c.version_line.ensures at c.print_text.ensures.value in
    text_told version_text place (page_state g.P.Sink c.args.print.now) (page_state g.P.Sink c.print_text.new.print)
    steps (status_of c.print_text.result) (inl told)
