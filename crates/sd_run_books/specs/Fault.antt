-- Public meaning: the faults of a book as faults of accounts.
use Rattle.sd_book.specs.declared.fault.BookFault.{BookFault}
use Rattle.sd_book.specs.declared.fault.BookFault.TheVariants as book
use Rattle.sd_run_books.specs.declared.account_fault.AccountFault.{AccountFault}
use Rattle.sd_run_books.specs.declared.account_fault.AccountFault.TheVariants.{Line, Limit, NoMemory}

-- the fault of the book that accounts make, whose lines are theirs
abbrev pub as_fault : BookFault → AccountFault
as_fault (book.Line k) = Line k
as_fault (book.Leaf k) = Line k
as_fault (book.Limit limit) = Limit limit
as_fault book.NoMemory = NoMemory
