use Rattle.std.proofs.Common.{◌≡◌, ◌≤◌, ◌<◌, ◌+◌, ◌-◌, ◌∙◌, ℕ, min, Some, None, arith, ap, refl, sym}
use Rattle.std.specs.List.{range_with_len}
use Rattle.std.specs.Option.{option_map}
use Rattle.sd_book.specs.Commands.{last_period, revoked}
use Rattle.sd_spec.specs.Plan.{Plan}
use Rattle.sd_site_cards.specs.SiteFields.{site_fields_of}
use Rattle.sd_command_base.specs.declared.status.Clash.TheVariants.{Books}
use Rattle.sd_run_books.specs.Apart.{books_clash, clash_in, first_of, first_shared, shared_count}
use Rattle.sd_run_books.proofs.Agreeing.{clash_is, first_found, none_more}
use Rattle.sd_run_books.proofs.apart_books.clash_of_books.Goals as goal

-- the books disagree in this period, the first one
pub returns-in-Some : goal.returns-in-Some
unfolding books_clash
returns-in-Some c =
    let turn = c.loop-before.invariant in
    let a : Plan = record { site = site_fields_of c.args.site.now; commands = c.args.book.now.commands } in
    let b : Plan = record { site = site_fields_of c.args.other.now; commands = c.args.more.now.commands } in
    let before = c.loop-before.before in
    let leaf = c.in-Some.leaf in
    let last = c.last_period-last.ensures.value in
    let last_more = c.last_period-last_more.ensures.value in
    let due = c.last_due.ensures.value a.commands last in
    let due_more = c.last_due-2.ensures.value b.commands last_more in
    let low : before ≤ last_period a.commands - first_shared a b =
    omega (
      arith,
      last,
      c.last_due.ensures.inside,
      c.min-end.ensures,
      c.from.ensures,
      c.max-first.ensures,
      c.saturating_sub-count.ensures,
      c.loop-before-test.true,
      c.loop-before.auto.before-end,
    ) in
    let high : before ≤ last_period b.commands - first_shared a b =
    omega (
      arith,
      last_more,
      c.last_due-2.ensures.inside,
      c.min-end.ensures,
      c.from.ensures,
      c.max-first.ensures,
      c.saturating_sub-count.ensures,
      c.loop-before-test.true,
      c.loop-before.auto.before-end,
    ) in
    let inside : before < shared_count a b =
    omega (
      arith,
      due,
      due_more,
      c.min-end.ensures,
      c.from.ensures,
      c.max-first.ensures,
      c.saturating_sub-count.ensures,
      c.loop-before-test.true,
      c.loop-before.auto.before-end,
    ) in
    let found = rw (turn.height, turn.commands, turn.next, turn.height_more, turn.commands_more, turn.next_more)
    at c.in_ok-apart.ensures.value in
    let one = revoked a.site.height a.commands (min (first_shared a b) (last_period a.commands) + before) in
    let two = revoked b.site.height b.commands (min (first_shared a b) (last_period b.commands) + before) in
    let heights : a.site.height ≡ b.site.height = c.requires.heights in
    let clash : clash_in a b (first_shared a b + before) ≡ Some (Books leaf (first_shared a b + before)) =
    clash_is a b before one two c.in_ok-apart.apart heights low high refl refl found
    ∙ ap (option_map (λ u. Books u (first_shared a b + before))) c.in-Some.is in
    ap (λ (k : ℕ). Some (Books leaf (k + before))) c.max-first.ensures
    ∙ sym (first_found (clash_in a b) (first_shared a b) before (shared_count a b)
    (Books leaf (first_shared a b + before)) inside turn.none clash)

-- they agree on one period more
pub loop-before-preserved : goal.loop-before-preserved
loop-before-preserved c =
    let turn = c.loop-before.invariant in
    let a : Plan = record { site = site_fields_of c.args.site.now; commands = c.args.book.now.commands } in
    let b : Plan = record { site = site_fields_of c.args.other.now; commands = c.args.more.now.commands } in
    let before = c.loop-before.before in
    let last = c.last_period-last.ensures.value in
    let last_more = c.last_period-last_more.ensures.value in
    let low : before ≤ last_period a.commands - first_shared a b =
    omega (
      arith,
      last,
      c.last_due.ensures.inside,
      c.min-end.ensures,
      c.from.ensures,
      c.max-first.ensures,
      c.saturating_sub-count.ensures,
      c.loop-before-test.true,
      c.loop-before.auto.before-end,
    ) in
    let high : before ≤ last_period b.commands - first_shared a b =
    omega (
      arith,
      last_more,
      c.last_due-2.ensures.inside,
      c.min-end.ensures,
      c.from.ensures,
      c.max-first.ensures,
      c.saturating_sub-count.ensures,
      c.loop-before-test.true,
      c.loop-before.auto.before-end,
    ) in
    let found = rw (turn.height, turn.commands, turn.next, turn.height_more, turn.commands_more, turn.next_more)
    at c.in_ok-apart.ensures.value in
    let one = revoked a.site.height a.commands (min (first_shared a b) (last_period a.commands) + before) in
    let two = revoked b.site.height b.commands (min (first_shared a b) (last_period b.commands) + before) in
    let heights : a.site.height ≡ b.site.height = c.requires.heights in
    let clash : clash_in a b (first_shared a b + before) ≡ None =
    clash_is a b before one two c.in_ok-apart.apart heights low high refl refl found
    ∙ ap (option_map (λ u. Books u (first_shared a b + before))) c.in_default.is in
    let next = c.in_ok-apart.ensures.next in
    record {
      none = none_more (clash_in a b) (first_shared a b) before turn.none clash;
      height = c.in_ok-apart.ensures.heights.0 ∙ turn.height;
      commands = c.in_ok-apart.ensures.commands.0 ∙ turn.commands;
      next = omega (arith, next.0, turn.next);
      height_more = c.in_ok-apart.ensures.heights.1 ∙ turn.height_more;
      commands_more = c.in_ok-apart.ensures.commands.1 ∙ turn.commands_more;
      next_more = omega (arith, next.1, turn.next_more);
      first = turn.first;
    }

-- they agree on all
pub returns : goal.returns
unfolding books_clash
returns c =
    let turn = c.loop-before.invariant in
    let a : Plan = record { site = site_fields_of c.args.site.now; commands = c.args.book.now.commands } in
    let b : Plan = record { site = site_fields_of c.args.other.now; commands = c.args.more.now.commands } in
    let due = c.last_due.ensures.value a.commands c.last_period-last.ensures.value in
    let due_more = c.last_due-2.ensures.value b.commands c.last_period-last_more.ensures.value in
    let all : shared_count a b ≡ c.loop-before.before =
    omega (
      arith,
      due,
      due_more,
      c.min-end.ensures,
      c.from.ensures,
      c.max-first.ensures,
      c.saturating_sub-count.ensures,
      c.loop-before-test.false,
      c.loop-before.auto.before-end,
    ) in
    sym (ap (λ (k : ℕ). first_of (clash_in a b) (range_with_len (first_shared a b) k)) all ∙ turn.none)
