use Rattle.std.proofs.Common.{Ok, Err, Option}
use Rattle.std.proofs.lemmas.Result.{err_from_is_err_and}
use Rattle.sd_site_cards.specs.Written.{none_fewer}
use Rattle.sd_site_cards.specs.declared.site.Site.{Site}
use Rattle.sd_site_cards.specs.declared.book_line.BookLine.{BookLine}
use Rattle.sd_site_cards.specs.Chain.{most_word}
use Rattle.sd_command_base.specs.Outside.{depot_state, io_state}
use Rattle.sd_command_base.specs.Outcome.{status_of}
use Rattle.sd_command_base.specs.Spec.{◌>>=◌}
use Rattle.sd_command_base.specs.Made.{making_new}
use Rattle.sd_command_base.specs.Shown.{shown_number, shown_word}
use Rattle.sd_command_base.proofs.News.{new_follows, new_unread}
use Rattle.sd_run_books.specs.Chain.{newest_of_file, told_name}
use Rattle.sd_run_books.specs.Twin.{twin_made, twin_meaning}
use Rattle.sd_run_books.proofs.Chaining.{file_given, first_refused, first_then, site_of_others}
use Rattle.sd_run_books.proofs.Origins.{shown_newest}
use Rattle.sd_run_books.proofs.twin_command.twin.Goals as goal

-- the name of OUT doesn't follow
pub returns-in_err-judge_name : goal.returns-in_err-judge_name
unfolding twin_meaning
returns-in_err-judge_name g c page steps =
    let p = err_from_is_err_and c.from_residual.result c.from_residual.ensures.1 in
    let site = shown_word c.args.site in
    let words = shown_number c.args.words in
    let out = shown_word c.args.out in
    rw (p.1, p.2) (first_refused (λ named. named) (told_name site out)
    (λ named given. newest_of_file none_fewer site.number most_word words (given site)
    >>= λ newest. making_new (twin_made newest.0 newest.1 words.value) out (given out))
    (depot_state g.D.Depot c.args.depot.now) page steps c.in_err-judge_name.field-0.0 c.in_err-judge_name.ensures)

-- SITE was refused, or not read
pub returns-in_err-site : goal.returns-in_err-site
unfolding twin_meaning
returns-in_err-site g c page steps =
    let p = err_from_is_err_and c.from_residual-in_err-site.result c.from_residual-in_err-site.ensures.1 in
    let site = shown_word c.args.site in
    let words = shown_number c.args.words in
    let out = shown_word c.args.out in
    let a = depot_state g.D.Depot c.args.depot.now in
    let q = depot_state g.D.Depot c.newest_site.new.depot in
    let newest = newest_of_file none_fewer site.number most_word words in
    rw (p.1, p.2) (first_then (told_name site out) c.in_ok-judge_name.field-0
    (λ named given. newest (given site)
    >>= λ newest. making_new (twin_made newest.0 newest.1 words.value) out (given out))
    (io_state a page steps) (io_state q page steps) c.in_err-site.field-0.0 c.in_ok-judge_name.ensures
    (new_unread shown_newest (λ given. newest (given site)) (λ newest. twin_made newest.0 newest.1 words.value) out a q
    page steps c.in_err-site.field-0.0
    (file_given shown_newest newest site a q (Err c.in_err-site.field-0.0) c.in_err-site.ensures.value)))

-- OUT was made by what it gave, or it was not
pub returns : goal.returns
unfolding twin_meaning
returns g c page steps =
    let site = shown_word c.args.site in
    let words = shown_number c.args.words in
    let out = shown_word c.args.out in
    let a = depot_state g.D.Depot c.args.depot.now in
    let q = depot_state g.D.Depot c.newest_site.new.depot in
    let b = io_state (depot_state g.D.Depot c.make_twin.new.depot) page steps in
    let found : Site × Option BookLine = (c.in_ok-site.site, c.in_ok-site.line) in
    let newest = newest_of_file none_fewer site.number most_word words in
    let status = status_of c.make_twin.result in
    first_then (told_name site out) c.in_ok-judge_name.field-0
    (λ named given. newest (given site)
    >>= λ newest. making_new (twin_made newest.0 newest.1 words.value) out (given out))
    (io_state a page steps) b status c.in_ok-judge_name.ensures
    (new_follows shown_newest (λ given. newest (given site)) (λ newest. twin_made newest.0 newest.1 words.value) out a q
    page steps b found status (site_of_others newest site out c.requires.files)
    (file_given shown_newest newest site a q (Ok found) c.in_ok-site.ensures.value) (c.make_twin.ensures page steps))
