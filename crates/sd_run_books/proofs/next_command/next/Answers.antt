use Rattle.std.proofs.lemmas.Result.{err_from_is_err_and}
use Rattle.sd_command_base.specs.Outside.{depot_state, io_state, page_state, io_state_at}
use Rattle.sd_command_base.specs.Outcome.{status_of}
use Rattle.sd_command_base.specs.Spec.{Readings, ◌>>=◌}
use Rattle.sd_command_base.specs.Made.{making_new}
use Rattle.sd_command_base.specs.Shown.{shown_number, shown_word}
use Rattle.sd_command_base.proofs.News.{new_follows, new_unread}
use Rattle.sd_run_books.specs.Chain.{told_name}
use Rattle.sd_run_books.specs.Next.{next_made, next_meaning, origin_of_files, shown_origin}
use Rattle.sd_run_books.proofs.Chaining.{first_refused, first_then, origin_of_others}
use Rattle.sd_run_books.proofs.next_command.next.Goals as goal

-- the name of OUT doesn't follow
pub returns-in_err-judge_name : goal.returns-in_err-judge_name
unfolding next_meaning
returns-in_err-judge_name g c steps =
    let p = err_from_is_err_and c.from_residual.result c.from_residual.ensures.1 in
    let site = shown_word c.args.site in
    let book = shown_word c.args.book in
    let words = shown_number c.args.words in
    let out = shown_word c.args.out in
    rw (p.1, p.2) (first_refused (λ named. named) (told_name site out)
    (λ named given. origin_of_files site.number book.number words (given site) (given book)
    >>= λ origin. making_new (next_made origin words.value) out (given out))
    (depot_state g.D.Depot c.args.depot.now) (page_state g.P.Sink c.args.print.now) steps c.in_err-judge_name.field-0.0
    c.in_err-judge_name.ensures)

-- SITE or BOOK was refused, or not read
pub returns-in_err-origin : goal.returns-in_err-origin
unfolding next_meaning
returns-in_err-origin g c steps =
    let p = err_from_is_err_and c.from_residual-in_err-origin.result c.from_residual-in_err-origin.ensures.1 in
    let site = shown_word c.args.site in
    let book = shown_word c.args.book in
    let words = shown_number c.args.words in
    let out = shown_word c.args.out in
    let a = depot_state g.D.Depot c.args.depot.now in
    let q = depot_state g.D.Depot c.read_origin.new.depot in
    let page = page_state g.P.Sink c.args.print.now in
    let meant = λ (given : Readings). origin_of_files site.number book.number words (given site) (given book) in
    rw (p.1, p.2) (first_then (told_name site out) c.in_ok-judge_name.field-0
    (λ named given. meant given >>= λ origin. making_new (next_made origin words.value) out (given out))
    (io_state a page steps) (io_state q page steps) c.in_err-origin.field-0.0 c.in_ok-judge_name.ensures
    (new_unread shown_origin meant (λ origin. next_made origin words.value) out a q page steps c.in_err-origin.field-0.0
    c.in_err-origin.ensures.value))

-- OUT was made by what they gave, or it was not
pub returns : goal.returns
unfolding next_meaning
returns g c steps =
    let site = shown_word c.args.site in
    let book = shown_word c.args.book in
    let words = shown_number c.args.words in
    let out = shown_word c.args.out in
    let a = depot_state g.D.Depot c.args.depot.now in
    let q = depot_state g.D.Depot c.read_origin.new.depot in
    let page = page_state g.P.Sink c.args.print.now in
    let b = io_state_at g.D.Depot g.P.Sink c.make_next.new.depot c.make_next.new.print steps in
    let status = status_of c.make_next.result in
    let meant = λ (given : Readings). origin_of_files site.number book.number words (given site) (given book) in
    first_then (told_name site out) c.in_ok-judge_name.field-0
    (λ named given. meant given >>= λ origin. making_new (next_made origin words.value) out (given out))
    (io_state a page steps) b status c.in_ok-judge_name.ensures
    (new_follows shown_origin meant (λ origin. next_made origin words.value) out a q page steps b c.in_ok-origin.origin
    status (origin_of_others site book out words c.requires.files.1 c.requires.files.2) c.in_ok-origin.ensures.value
    (c.make_next.ensures steps))
