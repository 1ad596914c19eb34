use Rattle.std.proofs.Common.{refl, sym, subst, Some, []}
use Rattle.std.proofs.lemmas.Result.{err_from_is_err_and}
use Rattle.sd_site_cards.specs.SiteFields.{site_fields_of}
use Rattle.sd_ports.proofs.Outlets.{there_after}
use Rattle.sd_spec.specs.Plan.{Plan}
use Rattle.sd_head.specs.Staged.{IsHeadEndAfter}
use Rattle.sd_command_base.specs.declared.status.Status.TheVariants.{NoMemory}
use Rattle.sd_command_base.specs.Outside.{depot_state, io_state}
use Rattle.sd_command_base.specs.Work.{Uncounted}
use Rattle.sd_command_base.specs.Outcome.{status_of}
use Rattle.sd_command_base.proofs.Givens.{some_got}
use Rattle.sd_run_broadcasts.specs.Head.{sending_of, sent_of, sent_status}
use Rattle.sd_command_base.specs.Shown.{shown_word}
use Rattle.sd_command_base.proofs.Looked.{opened_got}
use Rattle.sd_command_base.proofs.Turning.{turned_obeys, not_turned}
use Rattle.sd_run_broadcasts.proofs.Heading.{by_plan, plan_follows, no_plan}
use Rattle.sd_run_broadcasts.proofs.Saying.{head_said, head_silent}
use Rattle.sd_run_broadcasts.proofs.head_command.head.Goals as goal
use Rattle.sd_command_base.proofs.Thirds.{wanting_obeys}

pub read_plan-requires : goal.read_plan-requires
read_plan-requires g c = c.requires.0

pub new-requires : goal.new-requires
new-requires g c = c.in_ok-site.ensures.height

-- the head end that was made keeps to its own plan
pub send-sent-requires : goal.send-sent-requires
send-sent-requires g c =
    let made = c.in_ok-head.ensures.value in
    subst (λ (plan : Plan). IsHeadEndAfter plan [] c.in_ok-head.head) (sym made.keeps_to) made

-- neither file was read as it is to be
pub returns-in_err-site-clause-value : goal.returns-in_err-site-clause-value
returns-in_err-site-clause-value g c page =
    let p = err_from_is_err_and c.from_residual.result c.from_residual.ensures.1 in
    rw (p.1, p.2) (no_plan (λ plan. record { site = site_fields_of plan.0; commands = plan.1.commands })
    (shown_word c.args.site)
    (shown_word c.args.book) (shown_word c.args.clear) (shown_word c.args.out)
    (depot_state g.D.Depot c.args.depot.now) (depot_state g.D.Depot c.read_plan.new.depot) page c.args.steps.now
    c.in_err-site.field-0.0
    c.in_err-site.ensures.value)

-- memory was out for the head end
pub returns-in_err-head-clause-value : goal.returns-in_err-head-clause-value
returns-in_err-head-clause-value g c page =
    let p = err_from_is_err_and c.from_residual-in_err-head.result c.from_residual-in_err-head.ensures.1 in
    let clear = shown_word c.args.clear in
    let out = shown_word c.args.out in
    let q = depot_state g.D.Depot c.read_plan.new.depot in
    let got = some_got q.files clear.text in
    let plan : Plan = record { site = site_fields_of c.in_ok-site.site; commands = c.in_ok-site.book.commands } in
    rw (p.1, p.2) (plan_follows (λ plan. record { site = site_fields_of plan.0; commands = plan.1.commands })
    (shown_word c.args.site)
    (shown_word c.args.book) clear out got.0 (depot_state g.D.Depot c.args.depot.now) q page c.args.steps.now
    (io_state q page c.args.steps.now)
    (c.in_ok-site.site, c.in_ok-site.book, c.in_ok-site.has_word) NoMemory c.requires.1 c.requires.2
    c.in_ok-site.ensures.value got.1
    (wanting_obeys (sending_of clear out got.0 plan) q page c.args.steps.now NoMemory refl))

-- the stream was not opened, or OUT not made
pub returns-in_err-inlet-clause-value : goal.returns-in_err-inlet-clause-value
returns-in_err-inlet-clause-value g c page =
    let p = err_from_is_err_and c.from_residual-in_err-inlet.result c.from_residual-in_err-inlet.ensures.1 in
    let clear = shown_word c.args.clear in
    let out = shown_word c.args.out in
    let q = depot_state g.D.Depot c.read_plan.new.depot in
    let r = depot_state g.D.Depot c.open_both.new.depot in
    let status = c.in_err-inlet.field-0.0 in
    let plan : Plan = record { site = site_fields_of c.in_ok-site.site; commands = c.in_ok-site.book.commands } in
    let none = not_turned (λ bytes. Uncounted) (sent_of plan) (sent_status plan) clear out q r page c.args.steps.now
    status
    c.in_err-inlet.ensures.fault in
    rw (p.1, p.2) (plan_follows (λ plan. record { site = site_fields_of plan.0; commands = plan.1.commands })
    (shown_word c.args.site)
    (shown_word c.args.book) clear out none.got (depot_state g.D.Depot c.args.depot.now) q page c.args.steps.now
    (io_state r page c.args.steps.now)
    (c.in_ok-site.site, c.in_ok-site.book, c.in_ok-site.has_word) status c.requires.1 c.requires.2
    c.in_ok-site.ensures.value none.is_got
    none.obeys)

pub close_both-requires : goal.close_both-requires
close_both-requires g c =
    there_after (g.D.Depot.files c.read_plan.new.depot) (g.D.Depot.files c.open_both.new.depot) c.args.out.text.now []
    c.in_ok-inlet.ensures.ok.files

pub returns-clause-value : goal.returns-clause-value
returns-clause-value g c page =
    let clear = shown_word c.args.clear in
    let out = shown_word c.args.out in
    let q = depot_state g.D.Depot c.read_plan.new.depot in
    let m = depot_state g.D.Depot c.open_both.new.depot in
    let r = depot_state g.D.Depot c.close_both.new.depot in
    let plan : Plan = record { site = site_fields_of c.in_ok-site.site; commands = c.in_ok-site.book.commands } in
    let opened = c.in_ok-inlet.ensures.ok in
    let sent = c.send-sent.ensures.value in
    plan_follows (λ plan. record { site = site_fields_of plan.0; commands = plan.1.commands }) (shown_word c.args.site)
    (shown_word c.args.book) clear out (Some sent.bytes) (depot_state g.D.Depot c.args.depot.now) q page
    c.args.steps.now
    (io_state r page c.send-sent.new.steps) (c.in_ok-site.site, c.in_ok-site.book, c.in_ok-site.has_word)
    (status_of c.close_both.result)
    c.requires.1 c.requires.2
    c.in_ok-site.ensures.value
    (opened_got q.files clear.text _ sent.bytes opened.opens sent.is_left)
    (turned_obeys (λ bytes. Uncounted) (sent_of plan) (sent_status plan) clear out sent.bytes q m r page
    c.args.steps.now
    c.send-sent.new.steps _ _ _ _ _ _ _ c.send-sent.result c.close_both.result opened c.send-sent.ensures.cause
    (by_plan _ plan sent.bytes _ _ (status_of c.send-sent.result) c.in_ok-head.ensures.value.keeps_to sent.wrote)
    c.close_both.ensures tt)

pub returns-in_err-site-clause-notes : goal.returns-in_err-site-clause-notes
returns-in_err-site-clause-notes g c = head_silent (shown_word c.args.site) _ _

pub returns-in_err-head-clause-notes : goal.returns-in_err-head-clause-notes
returns-in_err-head-clause-notes g c = head_silent (shown_word c.args.site) _ _

pub returns-in_err-inlet-clause-notes : goal.returns-in_err-inlet-clause-notes
returns-in_err-inlet-clause-notes g c =
    head_said (shown_word c.args.site) _ _ _ _ _ c.in_ok-site.ensures.word c.warn.ensures

pub returns-clause-notes : goal.returns-clause-notes
returns-clause-notes g c = head_said (shown_word c.args.site) _ _ _ _ _ c.in_ok-site.ensures.word c.warn.ensures
