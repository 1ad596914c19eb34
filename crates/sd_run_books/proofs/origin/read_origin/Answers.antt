use Rattle.std.proofs.Common.{◌-◌, ap, refl, List}
use Rattle.std.proofs.lemmas.Result.{err_from_is_err_and}
use Rattle.sd_site_cards.specs.Written.{is_first_site}
use Rattle.sd_site_cards.specs.Chain.{most_word}
use Rattle.sd_book.specs.declared.command.Command.{Command}
use Rattle.sd_command_base.specs.Outside.{depot_state}
use Rattle.sd_command_base.specs.Spec.{value, ◌>>=◌}
use Rattle.sd_command_base.specs.Shown.{shown_number, shown_word}
use Rattle.sd_command_base.proofs.Follow.{reads_first, reads_second, reads_two}
use Rattle.sd_command_base.proofs.Thirds.{same_refusal, same_value}
use Rattle.sd_run_books.specs.Chain.{newest_of_file}
use Rattle.sd_run_books.specs.Next.{origin_of_files, shown_origin}
use Rattle.sd_run_books.proofs.OwnBook.{is_longer}
use Rattle.sd_run_books.proofs.Origins.{origin_of, shown_newest, shown_text, text_after}
use Rattle.sd_run_books.proofs.origin.read_origin.Goals as goal

pub returns-in_err-site-clause-value : goal.returns-in_err-site-clause-value
unfolding origin_of_files
returns-in_err-site-clause-value g c =
    let p = err_from_is_err_and c.from_residual.result c.from_residual.ensures.1 in
    let site = shown_word c.args.site in
    let book = shown_word c.args.book in
    rw (p.1, p.2) (reads_first shown_newest shown_origin
    (newest_of_file is_first_site site.number (most_word - 1) (shown_number c.args.words))
    (λ given newest. text_after book.number newest (given book) >>= λ text. value (origin_of newest text)) site
    (depot_state g.D.Depot c.args.depot.now) (depot_state g.D.Depot c.newest_site.new.depot) c.in_err-site.field-0.0
    c.in_err-site.ensures.value)

pub returns-in_err-file-clause-value : goal.returns-in_err-file-clause-value
unfolding origin_of_files
returns-in_err-file-clause-value g c =
    let p = err_from_is_err_and c.from_residual-in_err-file.result c.from_residual-in_err-file.ensures.1 in
    let site = shown_word c.args.site in
    let book = shown_word c.args.book in
    let newest = shown_newest (c.in_ok-site.site, c.in_ok-site.line) in
    rw (p.1, p.2) (same_refusal (λ file. origin_of newest (shown_text file)) shown_origin
    (λ given. origin_of_files site.number book.number (shown_number c.args.words) (given site) (given book))
    (depot_state g.D.Depot c.args.depot.now) (depot_state g.D.Depot c.read_longer.new.depot) c.in_err-file.field-0.0
    (reads_second shown_newest shown_text (λ file. origin_of newest (shown_text file))
    (newest_of_file is_first_site site.number (most_word - 1) (shown_number c.args.words)) (text_after book.number)
    (λ newest text. value (origin_of newest text)) site book
    (depot_state g.D.Depot c.args.depot.now) (depot_state g.D.Depot c.newest_site.new.depot)
    (depot_state g.D.Depot c.read_longer.new.depot) (c.in_ok-site.site, c.in_ok-site.line) c.in_err-file.field-0.0
    c.requires c.in_ok-site.ensures.value c.in_err-file.ensures.value))

pub own_count-own-requires : goal.own_count-own-requires
own_count-own-requires g c =
    let read = c.in_ok-file.ensures.value in
    let text = shown_text c.in_ok-file.file in
    let longer = is_longer c.args.book.number c.in_ok-site.site.height c.in_ok-site.line read.got text read.gives.0 in
    rw c.deref.ensures.value longer.begins

pub returns-clause-value : goal.returns-clause-value
unfolding origin_of_files
returns-clause-value g c =
    let site = shown_word c.args.site in
    let book = shown_word c.args.book in
    let newest = shown_newest (c.in_ok-site.site, c.in_ok-site.line) in
    let read = c.in_ok-file.ensures.value in
    let text = shown_text c.in_ok-file.file in
    let longer = is_longer c.args.book.number c.in_ok-site.site.height c.in_ok-site.line read.got text read.gives.0 in
    let counted = rw c.deref.ensures.value at c.own_count-own.ensures in
    let own = (counted c.in_ok-site.site.height text.commands longer.says).0 in
    same_value (λ file. origin_of newest (shown_text file)) shown_origin
    (λ given. origin_of_files site.number book.number (shown_number c.args.words) (given site) (given book))
    (depot_state g.D.Depot c.args.depot.now) (depot_state g.D.Depot c.read_longer.new.depot) c.in_ok-file.file
    (record { site = c.in_ok-site.site; file = c.in_ok-file.file; own = c.own_count-own.result })
    (ap (λ (own : List Command). record {
      site = newest.0;
      own = own;
      bytes = text.bytes;
      commands = text.commands;
    }) own)
    (reads_two shown_newest shown_text (λ file. origin_of newest (shown_text file))
    (newest_of_file is_first_site site.number (most_word - 1) (shown_number c.args.words)) (text_after book.number)
    origin_of site book
    (depot_state g.D.Depot c.args.depot.now) (depot_state g.D.Depot c.newest_site.new.depot)
    (depot_state g.D.Depot c.read_longer.new.depot) (c.in_ok-site.site, c.in_ok-site.line) c.in_ok-file.file
    c.requires c.in_ok-site.ensures.value read refl)

pub returns-clause-own : goal.returns-clause-own
returns-clause-own g c =
    let read = c.in_ok-file.ensures.value in
    let text = shown_text c.in_ok-file.file in
    let longer = is_longer c.args.book.number c.in_ok-site.site.height c.in_ok-site.line read.got text read.gives.0 in
    let counted = rw c.deref.ensures.value at c.own_count-own.ensures in
    (counted c.in_ok-site.site.height text.commands longer.says).1

pub returns-clause-size : goal.returns-clause-size
returns-clause-size g c =
    let read = c.in_ok-file.ensures.value in
    let text = shown_text c.in_ok-file.file in
    (is_longer c.args.book.number c.in_ok-site.site.height c.in_ok-site.line read.got text read.gives.0).size
