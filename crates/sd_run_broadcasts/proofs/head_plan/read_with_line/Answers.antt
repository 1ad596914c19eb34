use Rattle.std.proofs.Common.{Ok, Err}
use Rattle.std.proofs.lemmas.Result.{err_from_is_err_and}
use Rattle.sd_site_cards.specs.SiteFields.{site_fields_of}
use Rattle.sd_site_cards.specs.Text.{book_line_of, site_of}
use Rattle.sd_command_base.specs.declared.status.LimitKind.TheVariants.{SiteBytes}
use Rattle.sd_command_base.specs.Outside.{depot_state}
use Rattle.sd_command_base.specs.Shown.{shown_word}
use Rattle.sd_command_base.specs.Spec.{within, of_result}
use Rattle.sd_command_base.proofs.Follow.{alone_judges, looks_first, looks_judged}
use Rattle.sd_command_base.specs.Files.{site_or_status, most_site_bytes}
use Rattle.sd_run_broadcasts.specs.Head.{site_and_line_of_file, with_line}
use Rattle.sd_run_broadcasts.proofs.Said.{said_with}
use Rattle.sd_run_broadcasts.proofs.Saying.{site_had}
use Rattle.sd_run_broadcasts.proofs.head_plan.read_with_line.Goals as goal

pub returns-in_err-bytes-clause-value : goal.returns-in_err-bytes-clause-value
unfolding site_and_line_of_file
returns-in_err-bytes-clause-value g c =
    let p = err_from_is_err_and c.from_residual.result c.from_residual.ensures.1 in
    rw (p.1, p.2) (looks_first (λ bytes. bytes.items) said_with (within c.args.word.number most_site_bytes SiteBytes)
    (λ bytes. of_result (with_line (book_line_of bytes) (site_or_status c.args.word.number bytes (site_of bytes))))
    c.args.word.text.now (depot_state g.D.Depot c.args.depot.now) (depot_state g.D.Depot c.read_bytes.new.depot)
    c.in_err-bytes.field-0.0 c.in_err-bytes.ensures)

pub returns-in_err-site-clause-value : goal.returns-in_err-site-clause-value
unfolding site_and_line_of_file
returns-in_err-site-clause-value g c =
    let p = err_from_is_err_and c.from_residual-in_err-site.result c.from_residual-in_err-site.ensures.1 in
    let judged_alone = rw c.deref.ensures.value at c.in_err-site.ensures in
    rw (p.1, p.2) (looks_judged (λ bytes. bytes.items) said_with
    (within c.args.word.number most_site_bytes SiteBytes)
    (λ bytes. with_line (book_line_of bytes) (site_or_status c.args.word.number bytes (site_of bytes)))
    c.args.word.text.now
    (depot_state g.D.Depot c.args.depot.now) (depot_state g.D.Depot c.read_bytes.new.depot) c.in_ok-bytes.bytes
    (Err c.in_err-site.field-0.0) c.in_ok-bytes.ensures
    (alone_judges said_with (with_line (book_line_of c.in_ok-bytes.bytes.items)
    (site_or_status c.args.word.number c.in_ok-bytes.bytes.items (site_of c.in_ok-bytes.bytes.items)))
    (Err c.in_err-site.field-0.0) judged_alone))

pub returns-clause-value : goal.returns-clause-value
unfolding site_and_line_of_file
returns-clause-value g c =
    let judged_alone = rw c.deref.ensures.value at c.in_ok-site.ensures in
    looks_judged (λ bytes. bytes.items) said_with (within c.args.word.number most_site_bytes SiteBytes)
    (λ bytes. with_line (book_line_of bytes) (site_or_status c.args.word.number bytes (site_of bytes)))
    c.args.word.text.now
    (depot_state g.D.Depot c.args.depot.now) (depot_state g.D.Depot c.read_bytes.new.depot) c.in_ok-bytes.bytes
    (Ok (c.in_ok-site.site, c.in_ok-site.line, c.has_first_word.result)) c.in_ok-bytes.ensures
    (alone_judges said_with (with_line (book_line_of c.in_ok-bytes.bytes.items)
    (site_or_status c.args.word.number c.in_ok-bytes.bytes.items (site_of c.in_ok-bytes.bytes.items)))
    (Ok (c.in_ok-site.site, c.in_ok-site.line, c.has_first_word.result)) judged_alone)

pub returns-clause-word : goal.returns-clause-word
returns-clause-word g c =
    let judged_alone = rw c.deref.ensures.value at c.in_ok-site.ensures in
    site_had (λ bytes. bytes.items) (shown_word c.args.word) most_site_bytes SiteBytes
    (depot_state g.D.Depot c.args.depot.now) (depot_state g.D.Depot c.read_bytes.new.depot) c.in_ok-bytes.bytes
    (site_fields_of c.in_ok-site.site) c.in_ok-site.line c.has_first_word.result c.in_ok-bytes.ensures judged_alone
    (rw c.deref-2.ensures.value at c.has_first_word.ensures)
