use Rattle.std.proofs.Common.{◌≤◌, ◌-◌, ◌∙◌, arith, refl, string_bytes}
use Rattle.sd_book.specs.Commands.{last_period}
use Rattle.sd_site_cards.specs.SiteFields.{site_fields_of}
use Rattle.sd_spec.specs.Plan.{Plan}
use Rattle.sd_run_books.proofs.Counting.{one_more, tables_more, text_more}
use Rattle.sd_run_books.proofs.plan_periods.periods_text.Goals as goal

-- the book has as many periods
pub unreachable-requires : goal.unreachable-requires
unreachable-requires c =
    let turn = c.loop-before.invariant in
    let end = rw (turn.commands, turn.next, c.in_default.is) at c.in_ok-revoked.ensures.end in
    let past = end.0 refl in
    let inside = c.period_count-count.ensures.inside in
    let last = c.last_period-last.ensures.value in
    omega (arith, past, inside, last, c.loop-before-test.true, c.loop-before.auto.before-end)

-- one period more was told
pub loop-before-preserved : goal.loop-before-preserved
loop-before-preserved c =
    let turn = c.loop-before.invariant in
    let plan : Plan = record { site = site_fields_of c.args.site.now; commands = c.args.book.now.commands } in
    let leaves = c.in-Some.revoked.items in
    let before = c.loop-before.before in
    let n = c.args.cryptos in
    let inside = c.period_count-count.ensures.inside in
    let last = c.last_period-last.ensures.value in
    let within : before ≤ last_period plan.commands - plan.site.first_period =
    omega (arith, inside, last, c.loop-before-test.true, c.loop-before.auto.before-end) in
    let is = rw (turn.height, c.requires.height, turn.commands, turn.next, c.in-Some.is)
    at c.in_ok-revoked.ensures.value in
    let share = c.cryptos_in-share.ensures plan.commands last in
    let one = one_more plan n before c.cryptos_in-share.result leaves within is share in
    let pushed = rw (c.from.ensures, c.from-in-loop-before.ensures, c.deref.ensures.value)
    at c.in_ok-tables.ensures.text in
    let added = rw c.deref.ensures.value at c.in_ok-tables.ensures.tables in
    let next = rw c.in-Some.is at c.in_ok-revoked.ensures.next in
    record {
      text = text_more plan n before c.cryptos_in-share.result leaves (string_bytes c.loop-before.text)
          (string_bytes c.push_numbers.new.text) one turn.text pushed;
      tables = tables_more plan n before c.cryptos_in-share.result c.loop-before.tables c.in_ok-tables.field-0 leaves
          one turn.tables added;
      fits = omega (arith, turn.fits, c.in_ok-tables.ensures.fits);
      height = c.in_ok-revoked.ensures.height ∙ turn.height;
      commands = c.in_ok-revoked.ensures.commands ∙ turn.commands;
      next = omega (arith, next, turn.next);
      tree = turn.tree;
      few = turn.few;
    }
