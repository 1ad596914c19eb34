use Rattle.std.proofs.Common.{◌≡◌, ◌≤◌, ◌+◌, ◌-◌, ◌∙◌, arith, ap, string_bytes, ℕ}
use Rattle.std.specs.Prelude.{flat_map}
use Rattle.std.specs.List.{range_with_len}
use Rattle.sd_book.specs.Commands.{last_period}
use Rattle.sd_site_cards.specs.SiteFields.{site_fields_of}
use Rattle.sd_run_books.specs.Told.{told_at, told_next}
use Rattle.sd_run_books.proofs.ToldPeriods.{before_more, text_more}
use Rattle.sd_run_books.proofs.told.told_next.Goals as goal

-- one period more was told
pub loop-turn-preserved : goal.loop-turn-preserved
loop-turn-preserved c =
    let told = c.loop-turn.invariant in
    let site = site_fields_of c.args.site.now in
    let own = c.args.own.now in
    let commands = c.args.book.now.commands in
    let turn = c.loop-turn.turn in
    let leaves = c.in-Some.now.items in
    let last = c.last_period-last.ensures.value in
    let within : turn ≤ last_period commands - site.first_period =
    omega (arith, last, c.saturating_sub-count.ensures, c.loop-turn-test.true, c.loop-turn.auto.turn-end) in
    let are = rw (told.height, c.requires.height, told.commands, told.next, c.in-Some.is)
    at c.in_ok-now.ensures.value in
    let next = rw c.in-Some.is at c.in_ok-now.ensures.next in
    let pushed = rw (c.deref.ensures.value, c.deref-in-loop-turn.ensures.value) at c.in_ok-push_period.ensures in
    record {
      text = text_more site own commands turn leaves c.loop-turn.before.items (string_bytes c.loop-turn.text)
          (string_bytes c.push_period.new.text) within are told.before told.text pushed;
      before = before_more site own commands turn leaves within are;
      height = c.in_ok-now.ensures.height ∙ told.height;
      commands = c.in_ok-now.ensures.commands ∙ told.commands;
      next = omega (arith, next, told.next);
      few = told.few;
    }

-- all are told
pub returns : goal.returns
unfolding told_next
returns c =
    let told = c.loop-turn.invariant in
    let site = site_fields_of c.args.site.now in
    let commands = c.args.book.now.commands in
    let all : c.loop-turn.turn ≡ last_period commands - site.first_period + 1 =
    omega (
      arith,
      c.last_period-last.ensures.value,
      c.saturating_sub-count.ensures,
      c.loop-turn-test.false,
      c.loop-turn.auto.turn-end,
    ) in
    told.text
    ∙ ap (λ (n : ℕ). flat_map (told_at site c.args.own.now commands) (range_with_len site.first_period n)) all
