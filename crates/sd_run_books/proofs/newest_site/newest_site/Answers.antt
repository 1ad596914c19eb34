use Rattle.std.proofs.Common.{List, ℕ}
use Rattle.std.proofs.lemmas.Result.{err_from_is_err_and}
use Rattle.sd_site_cards.specs.SiteFields.{site_fields_of}
use Rattle.sd_site_cards.specs.Written.{fewer_taken, site_of_chain}
use Rattle.sd_command_base.specs.declared.status.LimitKind.TheVariants.{SiteBytes}
use Rattle.sd_command_base.specs.Outside.{depot_state}
use Rattle.sd_command_base.specs.Spec.{within, of_result}
use Rattle.sd_command_base.specs.Shown.{shown_number}
use Rattle.sd_command_base.proofs.Follow.{alone_judges, looks_first, looks_judged}
use Rattle.sd_command_base.specs.Files.{most_site_bytes}
use Rattle.sd_run_books.specs.Chain.{newest_of_file, told_newest}
use Rattle.sd_run_books.proofs.newest_site.newest_site.Goals as goal

pub returns-in_err-bytes-clause-value : goal.returns-in_err-bytes-clause-value
unfolding newest_of_file
returns-in_err-bytes-clause-value g c =
    let p = err_from_is_err_and c.from_residual.result c.from_residual.ensures.1 in
    let word = c.args.word.number in
    rw (p.1, p.2) (looks_first (λ bytes. bytes.items) (λ newest. (site_fields_of newest.0, newest.1))
    (within word most_site_bytes SiteBytes)
    (λ bytes. of_result (told_newest word bytes c.args.most (shown_number c.args.words)
    (site_of_chain (fewer_taken c.args.first) bytes))) c.args.word.text.now
    (depot_state g.D.Depot c.args.depot.now) (depot_state g.D.Depot c.read_bytes.new.depot) c.in_err-bytes.field-0.0
    c.in_err-bytes.ensures)

pub returns-clause-value : goal.returns-clause-value
unfolding newest_of_file
returns-clause-value g c =
    let word = c.args.word.number in
    let told : List ℕ → _ = λ bytes. told_newest word bytes c.args.most (shown_number c.args.words)
    (site_of_chain (fewer_taken c.args.first) bytes) in
    let judged_alone = rw c.deref.ensures.value at c.judge_newest.ensures.value in
    looks_judged (λ bytes. bytes.items) (λ newest. (site_fields_of newest.0, newest.1))
    (within word most_site_bytes SiteBytes) told c.args.word.text.now
    (depot_state g.D.Depot c.args.depot.now) (depot_state g.D.Depot c.read_bytes.new.depot) c.in_ok-bytes.bytes
    c.judge_newest.result c.in_ok-bytes.ensures
    (alone_judges (λ newest. (site_fields_of newest.0, newest.1)) (told c.in_ok-bytes.bytes.items) c.judge_newest.result
    judged_alone)
