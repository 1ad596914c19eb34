use Rattle.std.proofs.Common.{◌≡◌, ◌≤◌}
use Rattle.sd_book.specs.Commands.{last_period, revoked}
use Rattle.sd_book.proofs.Replays.{stopped, gone_over, next_kept, is_there}
use Rattle.sd_book.proofs.Revocations.{below, ascending}
use Rattle.sd_book.proofs.replay.Periods.next.Goals as goal

pub invariant_of-self : goal.invariant_of-self
invariant_of-self c =
    let p = c.self.inside in (
      c.self.invariant.0,
      c.self.invariant.1,
      stopped p.height p.commands.now p.place.next _ _ c.in-Some.commands.now c.self.invariant.0 c.self.invariant.2
          c.in-Some.ensures.value (c.take_all.ensures.fault p.height),
    )

pub invariant_of-self-in_err-leaves : goal.invariant_of-self-in_err-leaves
invariant_of-self-in_err-leaves c =
    let p = c.self.inside in (
      c.self.invariant.0,
      c.self.invariant.1,
      stopped p.height p.commands.now p.place.next _ _ c.in-Some.commands.now c.self.invariant.0 c.self.invariant.2
          c.in-Some.ensures.value (c.take_all.ensures.fault p.height),
    )

-- the period is there
there : (c : goal.After-self-1) → c.self.inside.place.next ≤ last_period c.self.inside.commands.now
there c = is_there c.in-Some.commands c.self.inside.place.next _ (rw c.in-Some.is at c.next_in.ensures.none)

-- and its revoked leaves are kept
kept : (c : goal.After-self-1) →
    c.take_all.new.revoked.keys ≡ revoked c.self.inside.height c.self.inside.commands.now c.self.inside.place.next
kept c =
    let p = c.self.inside in
    gone_over p.height p.commands.now p.place.next _ _ c.in-Some.commands.now c.self.invariant.0 c.self.invariant.2
    (there c)
    c.in-Some.ensures.value (c.in_ok-take_all.ensures.value p.height)

pub invariant_of-self-2 : goal.invariant_of-self-2
invariant_of-self-2 c =
    (c.self.invariant.0, c.next_in.ensures.place, rw c.in-Some.ensures.next (next_kept _ _ _ _ (kept c)))

pub returns-clause-value : goal.returns-clause-value
returns-clause-value c = rw (c.in_ok-leaves.ensures, ← c.self.view_is) (kept c)

pub returns-clause-fits : goal.returns-clause-fits
returns-clause-fits c = rw (c.in_ok-leaves.ensures, kept c)
    (c.self.invariant.0.revoked c.self.inside.place.next (there c))

pub returns-clause-below : goal.returns-clause-below
returns-clause-below c = rw (c.in_ok-leaves.ensures, ← c.self.view_is, kept c) (below _ _ _)

pub returns-clause-ascending : goal.returns-clause-ascending
returns-clause-ascending c = rw (c.in_ok-leaves.ensures, kept c) (ascending _ _ _)
