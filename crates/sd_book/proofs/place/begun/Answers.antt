use Rattle.std.proofs.Common.{arith, ap}
use Rattle.sd_book.specs.Place.{PlaceValue}
use Rattle.sd_book.proofs.Places.{cut_in, cut_fits, cut_place}
use Rattle.sd_book.proofs.place.begun.Goals as goal

pub returns-clause-value : goal.returns-clause-value
returns-clause-value c =
    cut_in c.args.commands.now c.until.result.now c.args.place c.place.inside.taken c.requires.place
    (ap (λ (p : PlaceValue). p.taken) c.place.view_is) c.if-taken-commands.false c.until.ensures

pub returns-clause-fits : goal.returns-clause-fits
returns-clause-fits c =
    omega (
      arith,
      c.requires.few,
      cut_fits c.args.commands.now c.until.result.now c.args.place c.place.inside.taken
          (ap (λ (p : PlaceValue). p.taken) c.place.view_is) c.if-taken-commands.false c.until.ensures,
    )

pub returns-clause-place : goal.returns-clause-place
returns-clause-place c =
    cut_place c.args.commands.now c.until.result.now c.args.place c.place.inside.taken c.requires.place
    (ap (λ (p : PlaceValue). p.taken) c.place.view_is) c.if-taken-commands.false c.until.ensures
