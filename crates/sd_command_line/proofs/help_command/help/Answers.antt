use Rattle.std.proofs.Common.{inl, inr, refl}
use Rattle.std.proofs.lemmas.Result.{err_from_is_err_and}
use Rattle.sd_command_base.specs.declared.status.Status.TheVariants.{NoMemory}
use Rattle.sd_command_base.specs.Outside.{page_state}
use Rattle.sd_command_base.specs.Outcome.{status_of}
use Rattle.sd_command_line.specs.Pages.{help_text}
use Rattle.sd_command_line.proofs.Printing.{text_told}
use Rattle.sd_command_line.proofs.help_command.help.Goals as goal

-- memory was out for the text
pub returns-in_err-text : goal.returns-in_err-text
returns-in_err-text g c place steps =
    let p = err_from_is_err_and c.from_residual.result c.from_residual.ensures.1 in
    rw (p.1, p.2) (text_told (help_text c.args.topic) place (page_state g.P.Sink c.args.print.now)
    (page_state g.P.Sink c.args.print.now) steps NoMemory (inr (refl, refl)))

pub returns : goal.returns
returns g c place steps =
    let told = rw (c.as_bytes.ensures.value, c.in_ok-text.ensures) at c.print_text.ensures.value in
    text_told (help_text c.args.topic) place (page_state g.P.Sink c.args.print.now)
    (page_state g.P.Sink c.print_text.new.print) steps (status_of c.print_text.result) (inl told)
