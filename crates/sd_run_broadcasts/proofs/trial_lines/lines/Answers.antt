use Rattle.std.proofs.Common.{◌≡◌, ◌^◌, ◌/◌, ℕ, List, [], length, string_bytes, arith}
use Rattle.std.proofs.lemmas.Result.{err_from_is_err_and}
use Rattle.sd_site_cards.specs.SiteFields.{site_fields_of}
use Rattle.sd_run_broadcasts.specs.Trial.{trial_clear_line}
use Rattle.sd_run_broadcasts.proofs.Trying.{first_text, next_line, line_stopped}
use Rattle.sd_run_broadcasts.proofs.trial_lines.lines.Goals as goal

pub loop-u-init : goal.loop-u-init
loop-u-init g c =
    first_text (site_fields_of c.args.site.now) c.args.sent.now (trial_clear_line (c.args.clear / 188)
    (length c.args.sent.now / 188))
    (string_bytes c.in_ok-text.text) c.in_ok-text.ensures

pub loop-u-preserved : goal.loop-u-preserved
loop-u-preserved g c =
    next_line (site_fields_of c.args.site.now) c.args.sent.now (trial_clear_line (c.args.clear / 188)
    (length c.args.sent.now / 188)) _ _
    c.loop-u.u c.loop-u.invariant c.in_ok-push_receiver.ensures

pub returns-in_err-push_receiver : goal.returns-in_err-push_receiver
returns-in_err-push_receiver g c =
    let p = err_from_is_err_and c.from_residual-in_err-push_receiver.result
    c.from_residual-in_err-push_receiver.ensures.1 in
    rw (p.1, p.2) (line_stopped (λ (xs : List ℕ). xs) (site_fields_of c.args.site.now) c.args.sent.now
    (trial_clear_line (c.args.clear / 188)
    (length c.args.sent.now / 188)) _ [] c.loop-u.u (2 ^ c.args.site.now.height)
    c.in_err-push_receiver.field-0.0 c.loop-u.invariant
    (omega (arith, c.loop-u-test.true, c.leaves-u-end.ensures.value))
    c.in_err-push_receiver.ensures)

pub returns : goal.returns
returns g c =
    let all : c.loop-u.u ≡ 2 ^ c.args.site.now.height =
    omega (arith, c.loop-u-test.false, c.loop-u.auto.u-end, c.leaves-u-end.ensures.value) in
    rw all at c.loop-u.invariant
