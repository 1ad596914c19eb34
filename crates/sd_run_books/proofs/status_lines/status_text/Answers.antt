use Rattle.std.proofs.Common.{◌≡◌, ◌≤◌, ◌+◌, ◌-◌, ◌++◌, ◌∙◌, arith, ap, refl, string_bytes, ℕ}
use Rattle.std.specs.Prelude.{filter, flat_map}
use Rattle.std.specs.List.{range_with_len}
use Rattle.sd_book.specs.Commands.{last_period}
use Rattle.sd_site_cards.specs.SiteFields.{site_fields_of}
use Rattle.sd_run_books.specs.Status.{change_periods, entitled_line, is_change, is_entitled, fingerprint_line}
use Rattle.sd_run_books.specs.Status.{status_text}
use Rattle.sd_run_books.proofs.StatusLines.{before_more, now_is, text_more}
use Rattle.sd_run_books.proofs.status_lines.status_text.Goals as goal

-- the book has as many periods
pub unreachable-requires : goal.unreachable-requires
unreachable-requires c =
    let told = c.loop-turn.invariant in
    let end = rw (told.commands, told.next, c.in_default.is) at c.in_ok-revoked.ensures.end in
    let past = end.0 refl in
    let last = c.last_period-last.ensures.value in
    omega (
      arith,
      past,
      last,
      c.saturating_sub-count.ensures,
      c.loop-turn-test.true,
      c.loop-turn.auto.turn-end,
    )

-- one period more was told
pub loop-turn-preserved : goal.loop-turn-preserved
loop-turn-preserved c =
    let told = c.loop-turn.invariant in
    let site = site_fields_of c.args.site.now in
    let commands = c.args.book.now.commands in
    let u = c.args.leaf in
    let turn = c.loop-turn.turn in
    let leaves = c.in-Some.revoked.items in
    let now = c.is_active-entitled.result in
    let last = c.last_period-last.ensures.value in
    let within : turn ≤ last_period commands - site.first_period =
    omega (arith, last, c.saturating_sub-count.ensures, c.loop-turn-test.true, c.loop-turn.auto.turn-end) in
    let are = rw (told.height, c.requires, told.commands, told.next, c.in-Some.is)
    at c.in_ok-revoked.ensures.value in
    let next = rw c.in-Some.is at c.in_ok-revoked.ensures.next in
    let is = rw c.deref.ensures.value at c.is_active-entitled.ensures in
    let says = now_is site commands u turn leaves now within are is in
    record {
      text = text_more site commands u turn (fingerprint_line site.master) (string_bytes c.loop-turn.text)
          (string_bytes c.push_change.new.text) c.loop-turn.before now says told.before told.text
          c.in_ok-push_change.ensures;
      before = before_more (is_entitled site.height commands u) site.first_period turn now says;
      height = c.in_ok-revoked.ensures.height ∙ told.height;
      commands = c.in_ok-revoked.ensures.commands ∙ told.commands;
      next = omega (arith, next, told.next);
      few = told.few;
    }

-- all are told
pub returns : goal.returns
unfolding status_text change_periods
returns c =
    let told = c.loop-turn.invariant in
    let site = site_fields_of c.args.site.now in
    let commands = c.args.book.now.commands in
    let u = c.args.leaf in
    let all : c.loop-turn.turn ≡ last_period commands - site.first_period + 1 =
    omega (
      arith,
      c.last_period-last.ensures.value,
      c.saturating_sub-count.ensures,
      c.loop-turn-test.false,
      c.loop-turn.auto.turn-end,
    ) in
    told.text
    ∙ ap (λ (n : ℕ). fingerprint_line site.master
    ++ flat_map (λ q. entitled_line u (is_entitled site.height commands u q) q)
    (filter (is_change site.first_period (is_entitled site.height commands u)) (range_with_len site.first_period n)))
    all
