use Rattle.std.proofs.Common.{[], ◌∷◌, string_bytes, subst}
use Rattle.std.proofs.lemmas.Result.{err_from_is_err_and}
use Rattle.sd_command_base.specs.Outside.{depot_state, io_state, page_state}
use Rattle.sd_command_base.specs.Outcome.{status_of}
use Rattle.sd_command_base.specs.Made.{NewFile, NewOutcome}
use Rattle.sd_command_base.specs.Shown.{shown_word}
use Rattle.sd_command_base.proofs.News.{new_then}
use Rattle.sd_run_books.specs.Next.{next_made, shown_origin}
use Rattle.sd_run_books.proofs.Chaining.{new_wanting, one_piece}
use Rattle.sd_run_books.proofs.next_command.make_next.Goals as goal

pub returns-in_err-bytes : goal.returns-in_err-bytes
returns-in_err-bytes g c steps =
    let p = err_from_is_err_and c.from_residual.result c.from_residual.ensures.1 in
    rw (p.1, p.2) (new_wanting (next_made (shown_origin c.args.origin.now) c.args.words) (shown_word c.args.out)
    (depot_state g.D.Depot c.args.depot.now) (page_state g.P.Sink c.args.print.now) steps c.in_err-bytes.field-0.0
    c.in_err-bytes.ensures.fault)

pub returns : goal.returns
returns g c steps =
    let out = shown_word c.args.out in
    let a = depot_state g.D.Depot c.args.depot.now in
    let b = depot_state g.D.Depot c.make_new.new.depot in
    let before = page_state g.P.Sink c.args.print.now in
    let now = page_state g.P.Sink c.print_text.new.print in
    let bytes = c.in_ok-bytes.bytes.items in
    let text = string_bytes c.in_ok-bytes.lines in
    let made : NewFile = record { bytes = bytes; pieces = text ∷ [] } in
    let is_made = rw c.deref.ensures.value at c.in_ok-make_new.ensures made.pieces before steps in
    let prints = rw c.as_bytes.ensures.value at c.print_text.ensures.value in
    let status = status_of c.print_text.result in
    subst (λ (f : NewFile). NewOutcome f out (io_state a before steps) (io_state b now steps) status)
    c.in_ok-bytes.ensures.value
    (new_then made out a b before steps now status is_made (one_piece bytes text out before now status prints))
