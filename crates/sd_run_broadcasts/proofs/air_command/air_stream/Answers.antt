use Rattle.std.proofs.Common.{◌∙◌, [], Some, None, subst}
use Rattle.std.proofs.lemmas.Result.{err_from_is_err_and}
use Rattle.sd_ports.proofs.Outlets.{there_after}
use Rattle.sd_command_base.specs.Made.{used_name}
use Rattle.sd_command_base.specs.Outside.{depot_state, io_state, page_state}
use Rattle.sd_command_base.specs.Outcome.{status_of}
use Rattle.sd_command_base.specs.Shown.{shown_word}
use Rattle.sd_command_base.specs.Spec.{FileArgument}
use Rattle.sd_command_base.proofs.Looked.{opened_got}
use Rattle.sd_command_base.proofs.News.{free_got}
use Rattle.sd_run_broadcasts.specs.Air.{mark_word}
use Rattle.sd_run_broadcasts.specs.Marked.{NotOpenedMarked}
use Rattle.sd_run_broadcasts.proofs.AirDone.{stopped_obeys, told_obeys, IsDone}
use Rattle.sd_run_broadcasts.proofs.AirFollows.{aired_follows, not_opened, opened_as, same_word}
use Rattle.sd_run_broadcasts.proofs.Saying.{none_noted}
use Rattle.sd_run_broadcasts.proofs.air_command.air_stream.Goals as goal

pub returns-in_err-inlet-clause-value : goal.returns-in_err-inlet-clause-value
returns-in_err-inlet-clause-value g c plan new =
    let result = err_from_is_err_and c.from_residual.result c.from_residual.ensures.1 in
    let site = shown_word c.args.site in
    let clear = shown_word c.args.clear in
    let out = shown_word c.args.out in
    let p = depot_state g.D.Depot c.args.depot.now in
    let q = depot_state g.D.Depot c.open_marked.new.depot in
    let status = c.in_err-inlet.field-0.0 in
    let mark = same_word _ _ _ _ c.at-mark.ensures.number (c.at-mark.ensures.text ∙ c.requires.mark) in
    rw (result.1, result.2) (not_opened plan site clear out p q (page_state g.P.Sink c.args.print.now) c.args.steps.now
    c.requires.apart status
    (subst (λ (m : FileArgument). NotOpenedMarked clear m out p q status) mark c.in_err-inlet.ensures.fault))

pub close_both-requires : goal.close_both-requires
close_both-requires g c = there_after _ _ c.args.out.text.now [] c.in_ok-inlet.ensures.ok.files

pub returns-in_err-close_both-clause-value : goal.returns-in_err-close_both-clause-value
returns-in_err-close_both-clause-value g c plan new =
    let result = err_from_is_err_and c.from_residual-in_err-close_both.result
    c.from_residual-in_err-close_both.ensures.1 in
    let site = shown_word c.args.site in
    let clear = shown_word c.args.clear in
    let out = shown_word c.args.out in
    let p = depot_state g.D.Depot c.args.depot.now in
    let q = depot_state g.D.Depot c.open_marked.new.depot in
    let r = depot_state g.D.Depot c.close_both.new.depot in
    let page = page_state g.P.Sink c.args.print.now in
    let i = c.args.steps.now in
    let j = c.send_live-sent.new.steps in
    let status = c.in_err-close_both.field-0.0 in
    let mark = same_word _ _ _ _ c.at-mark.ensures.number (c.at-mark.ensures.text ∙ c.requires.mark) in
    let opened = opened_as _ (mark_word site) p q clear.text out.text _ _ _ _ mark c.in_ok-inlet.ensures.ok in
    let sends = c.send_live-sent.ensures.value plan new in
    let done : IsDone plan site out p q r clear.text _ _ _ _ _ _ _ c.send_live-sent.result c.close_both.result =
    record {
      opened = opened;
      cause = c.send_live-sent.ensures.cause;
      sends = sends;
      closes = rw c.ended.ensures at c.close_both.ensures;
    } in
    rw (result.1, result.2) (aired_follows plan site clear out (io_state p page i) (io_state r page j) status
    (Some sends.bytes) None c.requires.apart (opened_got p.files clear.text _ sends.bytes opened.opens sends.is_left)
    (free_got p.files (used_name site.text) opened.new)
    (stopped_obeys plan site out p q r clear.text _ _ _ _ _ _ _ c.send_live-sent.result c.close_both.result done page i
    j clear.number status c.in_err-close_both.was))

pub returns-clause-value : goal.returns-clause-value
returns-clause-value g c plan new =
    let site = shown_word c.args.site in
    let clear = shown_word c.args.clear in
    let out = shown_word c.args.out in
    let p = depot_state g.D.Depot c.args.depot.now in
    let q = depot_state g.D.Depot c.open_marked.new.depot in
    let r = depot_state g.D.Depot c.close_both.new.depot in
    let page = page_state g.P.Sink c.args.print.now in
    let now = page_state g.P.Sink c.tell.new.print in
    let i = c.args.steps.now in
    let j = c.send_live-sent.new.steps in
    let status = status_of c.tell.result in
    let mark = same_word _ _ _ _ c.at-mark.ensures.number (c.at-mark.ensures.text ∙ c.requires.mark) in
    let opened = opened_as _ (mark_word site) p q clear.text out.text _ _ _ _ mark c.in_ok-inlet.ensures.ok in
    let sends = c.send_live-sent.ensures.value plan new in
    let done : IsDone plan site out p q r clear.text _ _ _ _ _ _ _ c.send_live-sent.result c.close_both.result =
    record {
      opened = opened;
      cause = c.send_live-sent.ensures.cause;
      sends = sends;
      closes = rw c.ended.ensures at c.close_both.ensures;
    } in
    aired_follows plan site clear out (io_state p page i) (io_state r now j) status
    (Some sends.bytes) None c.requires.apart (opened_got p.files clear.text _ sends.bytes opened.opens sends.is_left)
    (free_got p.files (used_name site.text) opened.new)
    (told_obeys plan site out p q r clear.text _ _ _ _ _ _ _ c.send_live-sent.result c.close_both.result done page i j
    clear.number c.in_ok-finished.finished c.in_ok-finished.was now status c.in_ok-close_both.was c.tell.ensures)

pub returns-in_err-inlet-clause-notes : goal.returns-in_err-inlet-clause-notes
returns-in_err-inlet-clause-notes g c plan new = none_noted plan _

pub returns-in_err-close_both-clause-notes : goal.returns-in_err-close_both-clause-notes
returns-in_err-close_both-clause-notes g c plan new = c.send_live-sent.ensures.notes plan new

pub returns-clause-notes : goal.returns-clause-notes
returns-clause-notes g c plan new = c.send_live-sent.ensures.notes plan new
