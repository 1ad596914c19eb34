use Rattle.sd_book.proofs.Places.{within_found}
use Rattle.sd_book.proofs.place.Place.next_commands.Goals as goal

pub next_in-requires-clause-few : goal.next_in-requires-clause-few
next_in-requires-clause-few c = rw c.commands.ensures.value c.commands.ensures.fits.lines

pub next_in-requires-clause-place : goal.next_in-requires-clause-place
next_in-requires-clause-place c = rw c.commands.ensures.value c.requires

pub returns-clause-value : goal.returns-clause-value
returns-clause-value c = rw c.commands.ensures.value at c.next_in.ensures.value

pub returns-clause-fits : goal.returns-clause-fits
returns-clause-fits c =
    let book = c.args.book.now in
    within_found (λ commands. commands.now) book.height book.commands c.args.self.now.next c.next_in.result
    c.commands.ensures.fits.leaves (rw c.commands.ensures.value at c.next_in.ensures.value)

pub returns-clause-none : goal.returns-clause-none
returns-clause-none c = rw c.commands.ensures.value at c.next_in.ensures.none

pub returns-clause-next : goal.returns-clause-next
returns-clause-next c = c.next_in.ensures.next

pub returns-clause-place : goal.returns-clause-place
returns-clause-place c = rw c.commands.ensures.value at c.next_in.ensures.place
