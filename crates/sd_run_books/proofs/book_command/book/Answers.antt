use Rattle.std.proofs.Common.{◌≡◌, ℕ, Ok, Err, refl, subst}
use Rattle.std.proofs.lemmas.Result.{err_from_is_err_and}
use Rattle.sd_site_cards.specs.SiteFields.{site_fields_of}
use Rattle.sd_book.specs.Text.{text_of_book}
use Rattle.sd_book.specs.Value.{BookValue}
use Rattle.sd_command_base.specs.declared.status.Status.TheVariants.{NoMemory}
use Rattle.sd_command_base.specs.Outside.{depot_state, io_state}
use Rattle.sd_command_base.specs.Spec.{value, ◌>>=◌}
use Rattle.sd_command_base.specs.Work.{NoSteps}
use Rattle.sd_command_base.specs.Outcome.{status_of}
use Rattle.sd_command_base.specs.Reads.{JudgedOutcome}
use Rattle.sd_command_base.specs.Both.{SiteBook, both_by}
use Rattle.sd_command_base.specs.Made.{making}
use Rattle.sd_command_base.specs.Shown.{shown_word}
use Rattle.sd_command_base.proofs.Thirds.{not_both, not_third, third_looked, wanting_obeys, judged_refused}
use Rattle.sd_run_books.specs.Book.{longer_book, book_meaning}
use Rattle.sd_run_books.proofs.Longer.{added_by, made_of, longer_made}
use Rattle.sd_run_books.proofs.book_command.book.Goals as goal

-- the site or the book was refused, or not read
pub returns-in_err-site : goal.returns-in_err-site
unfolding book_meaning
returns-in_err-site g c page steps =
    let p = err_from_is_err_and c.from_residual.result c.from_residual.ensures.1 in
    let site = shown_word c.args.site in
    let book = shown_word c.args.book in
    let commands = shown_word c.args.commands in
    let out = shown_word c.args.out in
    rw (p.1, p.2) (not_both (λ both. record { site = site_fields_of both.0; commands = both.1.commands })
    (both_by site.number book.number) (λ both got. added_by commands.number both got >>= made_of commands out both)
    site book commands (depot_state g.D.Depot c.args.depot.now) (depot_state g.D.Depot c.read_both.new.depot) page steps
    c.in_err-site.field-0.0 c.in_err-site.ensures.value)

-- the commands were refused, or not read
pub returns-in_err-added : goal.returns-in_err-added
unfolding book_meaning
returns-in_err-added g c page steps =
    let p = err_from_is_err_and c.from_residual-in_err-added.result c.from_residual-in_err-added.ensures.1 in
    let site = shown_word c.args.site in
    let book = shown_word c.args.book in
    let commands = shown_word c.args.commands in
    let out = shown_word c.args.out in
    rw (p.1, p.2) (not_third (λ both. record { site = site_fields_of both.0; commands = both.1.commands })
    (both_by site.number book.number) (λ book. book.commands) (added_by commands.number) (made_of commands out)
    site book commands (depot_state g.D.Depot c.args.depot.now) (depot_state g.D.Depot c.read_both.new.depot)
    (depot_state g.D.Depot c.read_book.new.depot) page steps (c.in_ok-site.site, c.in_ok-site.book)
    c.in_err-added.field-0.0 c.requires.1 c.requires.2 c.in_ok-site.ensures.value c.in_err-added.ensures.value)

-- the longer book was refused, or memory was out for it
pub returns-in_err-whole : goal.returns-in_err-whole
unfolding book_meaning
returns-in_err-whole g c page steps =
    let p = err_from_is_err_and c.from_residual-in_err-whole.result c.from_residual-in_err-whole.ensures.1 in
    let site = shown_word c.args.site in
    let book = shown_word c.args.book in
    let commands = shown_word c.args.commands in
    let out = shown_word c.args.out in
    let r = depot_state g.D.Depot c.read_book.new.depot in
    let status = c.in_err-whole.field-0.0 in
    let both : SiteBook = record { site = site_fields_of c.in_ok-site.site; commands = c.in_ok-site.book.commands } in
    let added = c.in_ok-added.added.commands in
    rw (p.1, p.2) (third_looked (λ both. record { site = site_fields_of both.0; commands = both.1.commands })
    (both_by site.number book.number) (λ book. book.commands) (added_by commands.number) (made_of commands out)
    site book commands (depot_state g.D.Depot c.args.depot.now) (depot_state g.D.Depot c.read_both.new.depot) r page
    steps
    (io_state r page steps) (c.in_ok-site.site, c.in_ok-site.book) c.in_ok-added.added status c.requires.1 c.requires.2
    c.in_ok-site.ensures.value c.in_ok-added.ensures.value
    (judged_refused (λ (whole : BookValue). whole.commands)
    (longer_book commands.number both.site.height both.commands added)
    (λ longer. value (making NoSteps out (text_of_book longer))) r page steps status
    (subst (λ (d : ℕ). JudgedOutcome (λ (whole : BookValue). whole.commands)
    (longer_book commands.number d both.commands added) (Err status)) c.in_ok-site.ensures.height
    c.in_err-whole.ensures)))

-- memory was out for its file
pub returns-in_err-bytes : goal.returns-in_err-bytes
unfolding book_meaning
returns-in_err-bytes g c page steps =
    let p = err_from_is_err_and c.from_residual-in_err-bytes.result c.from_residual-in_err-bytes.ensures.1 in
    let site = shown_word c.args.site in
    let book = shown_word c.args.book in
    let commands = shown_word c.args.commands in
    let out = shown_word c.args.out in
    let r = depot_state g.D.Depot c.read_book.new.depot in
    let both : SiteBook = record { site = site_fields_of c.in_ok-site.site; commands = c.in_ok-site.book.commands } in
    rw (p.1, p.2) (third_looked (λ both. record { site = site_fields_of both.0; commands = both.1.commands })
    (both_by site.number book.number) (λ book. book.commands) (added_by commands.number) (made_of commands out)
    site book commands (depot_state g.D.Depot c.args.depot.now) (depot_state g.D.Depot c.read_both.new.depot) r page
    steps (io_state r page steps) (c.in_ok-site.site, c.in_ok-site.book) c.in_ok-added.added NoMemory c.requires.1
    c.requires.2 c.in_ok-site.ensures.value c.in_ok-added.ensures.value
    (wanting_obeys (made_of commands out both c.in_ok-added.added.commands) r page steps NoMemory refl))

pub returns : goal.returns
unfolding book_meaning
returns g c page steps =
    let site = shown_word c.args.site in
    let book = shown_word c.args.book in
    let commands = shown_word c.args.commands in
    let out = shown_word c.args.out in
    let r = depot_state g.D.Depot c.read_book.new.depot in
    let b = io_state (depot_state g.D.Depot c.make_file.new.depot) page steps in
    let status = status_of c.make_file.result in
    let both : SiteBook = record { site = site_fields_of c.in_ok-site.site; commands = c.in_ok-site.book.commands } in
    let added = c.in_ok-added.added.commands in
    let whole = c.in_ok-whole.whole.commands in
    let fits = subst (λ (d : ℕ). longer_book commands.number d both.commands added ≡ Ok whole)
    c.in_ok-site.ensures.height c.in_ok-whole.ensures in
    let made = rw c.deref.ensures.value at c.make_file.ensures page steps NoSteps in
    third_looked (λ both. record { site = site_fields_of both.0; commands = both.1.commands })
    (both_by site.number book.number) (λ book. book.commands) (added_by commands.number) (made_of commands out)
    site book commands (depot_state g.D.Depot c.args.depot.now) (depot_state g.D.Depot c.read_both.new.depot) r page
    steps b (c.in_ok-site.site, c.in_ok-site.book) c.in_ok-added.added status c.requires.1 c.requires.2
    c.in_ok-site.ensures.value c.in_ok-added.ensures.value
    (longer_made commands.number both.site.height both.commands added whole out c.in_ok-bytes.bytes.items
    (io_state r page steps) b status fits c.in_ok-bytes.ensures.value made)
