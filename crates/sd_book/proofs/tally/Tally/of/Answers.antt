use Rattle.std.proofs.Common.{arith, ◌≡◌, ◌∙◌, sym, true, take}
use Rattle.std.proofs.lemmas.List.{take_all}
use Rattle.std.proofs.lemmas.List.Elements.{All-get_or}
use Rattle.sd_book.specs.Commands.{is_within}
use Rattle.sd_book.proofs.Cuts.{period_prefix}
use Rattle.sd_book.proofs.Tallies.{tally_one_more}
use Rattle.sd_book.proofs.tally.Tally.of.Goals as goal

pub take-requires-clause-leaf : goal.take-requires-clause-leaf
take-requires-clause-leaf c = rw (c.loop-command.invariant.height, c.command-item.is)
    (All-get_or (λ command. is_within c.args.h command ≡ true) c.args.commands.now c.loop-command.command-index
    c.command-item.result c.loop-command-test.true c.requires.leaves)

pub take-requires-clause-period : goal.take-requires-clause-period
take-requires-clause-period c = omega (
  arith,
  c.loop-command.invariant.tally.period,
  period_prefix c.loop-command.command-index c.args.commands.now,
  c.requires.periods,
)

pub loop-command-preserved : goal.loop-command-preserved
loop-command-preserved c =
    let commands = c.args.commands.now in
    let i = c.loop-command.command-index in
    record {
      height = c.take.ensures.height ∙ c.loop-command.invariant.height;
      tally = tally_one_more c.args.h c.loop-command.tally.height commands i c.command-item.result
          c.take.new.self.marks.items c.take.new.self.revoked c.take.new.self.period c.loop-command.invariant.height
          c.loop-command-test.true (sym c.command-item.is)
          (c.take.ensures.tally (take i commands) (rw c.loop-command.invariant.height c.loop-command.invariant.tally));
    }

pub returns-clause-tally : goal.returns-clause-tally
returns-clause-tally c = rw (take_all c.loop-command.command-index c.args.commands.now c.loop-command-test.false) at
    c.loop-command.invariant.tally
