use Rattle.std.proofs.Common.{Some}
use Rattle.sd_run_books.proofs.OwnBook.{own_are_first}
use Rattle.sd_run_books.proofs.origin.own_count.Goals as goal

pub returns-in-Some : goal.returns-in-Some
returns-in-Some c d commands says =
    let begins = rw c.in-Some.is at c.requires in
    rw (c.in-Some.is, c.feed_count.ensures)
    (own_are_first d (Some c.in-Some.line) c.args.bytes.now commands begins says)
