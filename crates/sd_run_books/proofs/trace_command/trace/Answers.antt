use Rattle.std.proofs.Common.{◌≡◌, ℕ, List, Ok, Err, refl, subst, string_bytes}
use Rattle.std.proofs.lemmas.Result.{err_from_is_err_and}
use Rattle.sd_site_cards.specs.SiteFields.{site_fields_of}
use Rattle.sd_command_base.specs.Outside.{depot_state, page_state, io_state}
use Rattle.sd_command_base.specs.Spec.{of_result, value, ◌>>=◌}
use Rattle.sd_command_base.specs.Work.{work_of_text}
use Rattle.sd_command_base.specs.Outcome.{status_of}
use Rattle.sd_command_base.specs.Reads.{JudgedOutcome}
use Rattle.sd_command_base.proofs.Follow.{rests, printed_obeys}
use Rattle.sd_command_base.proofs.Texts.{text_prints}
use Rattle.sd_command_base.specs.Both.{SiteBook, both_by}
use Rattle.sd_command_base.specs.Leaves.{leaves_of_file}
use Rattle.sd_command_base.specs.Shown.{shown_word}
use Rattle.sd_command_base.proofs.Thirds.{not_both, not_third, third_looked, judged_refused, judged_obeys}
use Rattle.sd_run_books.specs.Trace.{trace_outcome, trace_meaning}
use Rattle.sd_run_books.proofs.trace_command.trace.Goals as goal

-- the site or the book was refused, or not read
pub returns-in_err-site : goal.returns-in_err-site
unfolding trace_meaning
returns-in_err-site g c steps =
    let p = err_from_is_err_and c.from_residual.result c.from_residual.ensures.1 in
    let site = shown_word c.args.site in
    let book = shown_word c.args.book in
    let leaves = shown_word c.args.leaves in
    rw (p.1, p.2) (not_both (λ both. record { site = site_fields_of both.0; commands = both.1.commands })
    (both_by site.number book.number)
    (λ both got. leaves_of_file leaves.number both.site.height got
    >>= λ coalition. of_result (trace_outcome both.site.height coalition both.commands) >>=
    λ text. value (work_of_text text))
    site book leaves (depot_state g.D.Depot c.args.depot.now) (depot_state g.D.Depot c.read_both.new.depot)
    (page_state g.P.Sink c.args.print.now) steps c.in_err-site.field-0.0 c.in_err-site.ensures.value)

-- the leaves were refused, or not read
pub returns-in_err-leaves : goal.returns-in_err-leaves
unfolding trace_meaning
returns-in_err-leaves g c steps =
    let p = err_from_is_err_and c.from_residual-in_err-leaves.result c.from_residual-in_err-leaves.ensures.1 in
    let site = shown_word c.args.site in
    let book = shown_word c.args.book in
    let leaves = shown_word c.args.leaves in
    rw (p.1, p.2) (not_third (λ both. record { site = site_fields_of both.0; commands = both.1.commands })
    (both_by site.number book.number) (λ leaves. leaves.items)
    (λ both got. leaves_of_file leaves.number both.site.height got)
    (λ both coalition. of_result (trace_outcome both.site.height coalition both.commands) >>=
    λ text. value (work_of_text text))
    site book leaves (depot_state g.D.Depot c.args.depot.now) (depot_state g.D.Depot c.read_both.new.depot)
    (depot_state g.D.Depot c.read_leaves.new.depot) (page_state g.P.Sink c.args.print.now) steps
    (c.in_ok-site.site, c.in_ok-site.book) c.in_err-leaves.field-0.0 c.requires.1 c.requires.2
    c.in_ok-site.ensures.value c.in_err-leaves.ensures.value)

-- the trace was over the limit, or memory was out for it
pub returns-in_err-text : goal.returns-in_err-text
unfolding trace_meaning
returns-in_err-text g c steps =
    let p = err_from_is_err_and c.from_residual-in_err-text.result c.from_residual-in_err-text.ensures.1 in
    let site = shown_word c.args.site in
    let book = shown_word c.args.book in
    let leaves = shown_word c.args.leaves in
    let r = depot_state g.D.Depot c.read_leaves.new.depot in
    let before = page_state g.P.Sink c.args.print.now in
    let status = c.in_err-text.field-0.0 in
    let both : SiteBook = record { site = site_fields_of c.in_ok-site.site; commands = c.in_ok-site.book.commands } in
    let coalition = c.in_ok-leaves.leaves.items in
    rw (p.1, p.2) (third_looked (λ both. record { site = site_fields_of both.0; commands = both.1.commands })
    (both_by site.number book.number) (λ leaves. leaves.items)
    (λ both got. leaves_of_file leaves.number both.site.height got)
    (λ both coalition. of_result (trace_outcome both.site.height coalition both.commands) >>=
    λ text. value (work_of_text text))
    site book leaves (depot_state g.D.Depot c.args.depot.now) (depot_state g.D.Depot c.read_both.new.depot) r before
    steps (io_state r before steps) (c.in_ok-site.site, c.in_ok-site.book) c.in_ok-leaves.leaves status c.requires.1
    c.requires.2 c.in_ok-site.ensures.value c.in_ok-leaves.ensures.value
    (judged_refused (λ (xs : List ℕ). xs) (trace_outcome both.site.height coalition both.commands)
    (λ text. value (work_of_text text)) r before steps status
    (subst (λ (d : ℕ). JudgedOutcome (λ (xs : List ℕ). xs) (trace_outcome d coalition both.commands) (Err status))
    c.in_ok-site.ensures.height c.in_err-text.ensures)))

pub returns : goal.returns
unfolding trace_meaning
returns g c steps =
    let site = shown_word c.args.site in
    let book = shown_word c.args.book in
    let leaves = shown_word c.args.leaves in
    let r = depot_state g.D.Depot c.read_leaves.new.depot in
    let now = page_state g.P.Sink c.print_text.new.print in
    let before = page_state g.P.Sink c.args.print.now in
    let status = status_of c.print_text.result in
    let both : SiteBook = record { site = site_fields_of c.in_ok-site.site; commands = c.in_ok-site.book.commands } in
    let coalition = c.in_ok-leaves.leaves.items in
    let text = string_bytes c.in_ok-text.text in
    let is = subst (λ (d : ℕ). trace_outcome d coalition both.commands ≡ Ok text) c.in_ok-site.ensures.height
    c.in_ok-text.ensures in
    let printed = rw c.as_bytes.ensures.value at c.print_text.ensures.value in
    third_looked (λ both. record { site = site_fields_of both.0; commands = both.1.commands })
    (both_by site.number book.number) (λ leaves. leaves.items)
    (λ both got. leaves_of_file leaves.number both.site.height got)
    (λ both coalition. of_result (trace_outcome both.site.height coalition both.commands) >>=
    λ text. value (work_of_text text))
    site book leaves (depot_state g.D.Depot c.args.depot.now) (depot_state g.D.Depot c.read_both.new.depot) r
    before steps (io_state r now steps) (c.in_ok-site.site, c.in_ok-site.book) c.in_ok-leaves.leaves status
    c.requires.1 c.requires.2 c.in_ok-site.ensures.value c.in_ok-leaves.ensures.value
    (judged_obeys (trace_outcome both.site.height coalition both.commands) text (λ text. value (work_of_text text))
    (io_state r before steps) (io_state r now steps) status is
    (printed_obeys (value (work_of_text text)) (work_of_text text) r r before now steps status refl refl refl tt
    (rests (leaves_of_file leaves.number both.site.height c.in_ok-leaves.ensures.value.got).calls
    (depot_state g.D.Depot c.read_both.new.depot) r c.in_ok-leaves.ensures.value.gives.1)
    (text_prints text before now status printed)))
