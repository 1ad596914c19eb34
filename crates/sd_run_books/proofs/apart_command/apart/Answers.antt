use Rattle.std.proofs.Common.{string_bytes, Global, String}
use Rattle.std.proofs.lemmas.Result.{err_from_is_err_and}
use Rattle.sd_site_cards.specs.SiteFields.{site_fields_of}
use Rattle.sd_command_base.specs.Outside.{depot_state, page_state, io_state}
use Rattle.sd_command_base.specs.Spec.{of_result, value, ◌>>=◌}
use Rattle.sd_command_base.specs.Work.{work_of_text}
use Rattle.sd_command_base.specs.Outcome.{status_of}
use Rattle.sd_command_base.proofs.Firsts.{first_obeys}
use Rattle.sd_command_base.proofs.Moves.{then_obeys}
use Rattle.sd_command_base.specs.Both.{SiteBook, both_by}
use Rattle.sd_command_base.specs.Shown.{shown_word}
use Rattle.sd_command_base.proofs.Thirds.{judged_obeys, judged_refused}
use Rattle.sd_run_books.specs.Apart.{plan_of_both, told_apart}
use Rattle.sd_run_books.proofs.Pairs.{pair_follows, pair_refused, text_said}
use Rattle.sd_run_books.proofs.apart_command.apart.Goals as goal

-- the first site and its book were not read
pub returns-in_err-site : goal.returns-in_err-site
returns-in_err-site g c steps =
    let p = err_from_is_err_and c.from_residual.result c.from_residual.ensures.1 in
    let site = shown_word c.args.site in
    let book = shown_word c.args.book in
    let other = shown_word c.args.other in
    let more = shown_word c.args.more in
    rw (p.1, p.2) (pair_refused (λ both. record { site = site_fields_of both.0; commands = both.1.commands })
    (both_by site.number book.number)
    (λ first got got_more. both_by other.number more.number got got_more
    >>= λ second. of_result (told_apart (plan_of_both first) (plan_of_both second)) >>=
    λ text. value (work_of_text text))
    site book other more (depot_state g.D.Depot c.args.depot.now) (depot_state g.D.Depot c.read_both.new.depot)
    (page_state g.P.Sink c.args.print.now) steps c.in_err-site.field-0.0 c.in_err-site.ensures.value)

-- the second site and its book were not read
pub returns-in_err-other : goal.returns-in_err-other
returns-in_err-other g c steps =
    let p = err_from_is_err_and c.from_residual-in_err-other.result c.from_residual-in_err-other.ensures.1 in
    let site = shown_word c.args.site in
    let book = shown_word c.args.book in
    let other = shown_word c.args.other in
    let more = shown_word c.args.more in
    let q = depot_state g.D.Depot c.read_both.new.depot in
    let r = depot_state g.D.Depot c.read_both-2.new.depot in
    let now = page_state g.P.Sink c.args.print.now in
    let one : SiteBook = record { site = site_fields_of c.in_ok-site.site; commands = c.in_ok-site.book.commands } in
    let second = c.in_err-other.ensures.value in
    let status = c.in_err-other.field-0.0 in
    rw (p.1, p.2) (pair_follows (λ both. record { site = site_fields_of both.0; commands = both.1.commands })
    (both_by site.number book.number)
    (λ first got got_more. both_by other.number more.number got got_more
    >>= λ second. of_result (told_apart (plan_of_both first) (plan_of_both second)) >>=
    λ text. value (work_of_text text))
    site book other more second.given (depot_state g.D.Depot c.args.depot.now) q now steps (io_state r now steps)
    (c.in_ok-site.site, c.in_ok-site.book) status c.requires.sites.0 c.requires.sites.1 c.requires.books.0
    c.requires.books.1 c.in_ok-site.ensures.value second.is_given
    (first_obeys (both_by other.number more.number (second.given other) (second.given more))
    (λ second. of_result (told_apart (plan_of_both one) (plan_of_both second)) >>= λ text. value (work_of_text text))
    q r now steps status second.gives))

-- the two clash, or memory was out
pub returns-in_err-text : goal.returns-in_err-text
returns-in_err-text g c steps =
    let p = err_from_is_err_and c.from_residual-in_err-text.result c.from_residual-in_err-text.ensures.1 in
    let site = shown_word c.args.site in
    let book = shown_word c.args.book in
    let other = shown_word c.args.other in
    let more = shown_word c.args.more in
    let q = depot_state g.D.Depot c.read_both.new.depot in
    let r = depot_state g.D.Depot c.read_both-2.new.depot in
    let now = page_state g.P.Sink c.args.print.now in
    let one : SiteBook = record { site = site_fields_of c.in_ok-site.site; commands = c.in_ok-site.book.commands } in
    let two : SiteBook = record { site = site_fields_of c.in_ok-other.other; commands = c.in_ok-other.more.commands } in
    let second = c.in_ok-other.ensures.value in
    let status = c.in_err-text.field-0.0 in
    rw (p.1, p.2) (pair_follows (λ both. record { site = site_fields_of both.0; commands = both.1.commands })
    (both_by site.number book.number)
    (λ first got got_more. both_by other.number more.number got got_more
    >>= λ second. of_result (told_apart (plan_of_both first) (plan_of_both second)) >>=
    λ text. value (work_of_text text))
    site book other more second.given (depot_state g.D.Depot c.args.depot.now) q now steps (io_state r now steps)
    (c.in_ok-site.site, c.in_ok-site.book) status c.requires.sites.0 c.requires.sites.1 c.requires.books.0
    c.requires.books.1 c.in_ok-site.ensures.value second.is_given
    (then_obeys (both_by other.number more.number (second.given other) (second.given more)) two
    (λ second. of_result (told_apart (plan_of_both one) (plan_of_both second)) >>= λ text. value (work_of_text text))
    q r now steps (io_state r now steps) status second.gives.0 second.gives.1
    (judged_refused (λ (text : String Global). string_bytes text) (told_apart (plan_of_both one) (plan_of_both two))
    (λ text. value (work_of_text text)) r now steps status c.in_err-text.ensures)))

-- both lines were printed, or printing failed
pub returns : goal.returns
returns g c steps =
    let site = shown_word c.args.site in
    let book = shown_word c.args.book in
    let other = shown_word c.args.other in
    let more = shown_word c.args.more in
    let q = depot_state g.D.Depot c.read_both.new.depot in
    let r = depot_state g.D.Depot c.read_both-2.new.depot in
    let before = page_state g.P.Sink c.args.print.now in
    let now = page_state g.P.Sink c.print_text.new.print in
    let one : SiteBook = record { site = site_fields_of c.in_ok-site.site; commands = c.in_ok-site.book.commands } in
    let two : SiteBook = record { site = site_fields_of c.in_ok-other.other; commands = c.in_ok-other.more.commands } in
    let second = c.in_ok-other.ensures.value in
    let status = status_of c.print_text.result in
    let text = string_bytes c.in_ok-text.text in
    let prints = rw c.as_bytes.ensures.value at c.print_text.ensures.value in
    pair_follows (λ both. record { site = site_fields_of both.0; commands = both.1.commands })
    (both_by site.number book.number)
    (λ first got got_more. both_by other.number more.number got got_more
    >>= λ second. of_result (told_apart (plan_of_both first) (plan_of_both second)) >>=
    λ text. value (work_of_text text))
    site book other more second.given (depot_state g.D.Depot c.args.depot.now) q before steps (io_state r now steps)
    (c.in_ok-site.site, c.in_ok-site.book) status c.requires.sites.0 c.requires.sites.1 c.requires.books.0
    c.requires.books.1 c.in_ok-site.ensures.value second.is_given
    (then_obeys (both_by other.number more.number (second.given other) (second.given more)) two
    (λ second. of_result (told_apart (plan_of_both one) (plan_of_both second)) >>= λ text. value (work_of_text text))
    q r before steps (io_state r now steps) status second.gives.0 second.gives.1
    (judged_obeys (told_apart (plan_of_both one) (plan_of_both two)) text (λ text. value (work_of_text text))
    (io_state r before steps) (io_state r now steps) status c.in_ok-text.ensures
    (text_said text r before now steps status prints)))
