use Rattle.std.proofs.Common.{◌^◌, List, ap, string_bytes, ◌∙◌, ℕ}
use Rattle.std.proofs.lemmas.Result.{err_from_is_err_and}
use Rattle.sd_run_broadcasts.specs.Field.{lines_of_field}
use Rattle.sd_run_broadcasts.proofs.Telling.{text_stopped, text_told}
use Rattle.sd_run_broadcasts.proofs.field_command.text_after.Goals as goal

pub returns-in_err-play : goal.returns-in_err-play
returns-in_err-play g c =
    let p = err_from_is_err_and c.from_residual.result c.from_residual.ensures.1 in
    rw (p.1, p.2) (text_stopped (λ (xs : List ℕ). xs) c.args.field.now c.play.new.field c.in_err-play.field-0.0
    c.in_err-play.ensures)

pub returns : goal.returns
returns g c =
    text_told c.args.field.now c.play.new.field (string_bytes c.in_ok-lines.field-0) c.in_ok-play.ensures
    (c.in_ok-lines.ensures ∙ ap (λ (h : ℕ). lines_of_field c.play.new.field (2 ^ h)) c.requires.height)
