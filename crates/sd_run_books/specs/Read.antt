-- Inner: a line as the code keeps it.
use Rattle.sd_run_books.specs.declared.account_line.Line.{Line}
use Rattle.sd_run_books.specs.declared.account_line.Line.TheVariants.{Assign, Drop, Restore, Period}
use Rattle.sd_run_books.specs.Line.{Entry, Assigns, Drops, Restores, Ends}

-- what it says
abbrev pub line_entry : Line → Entry
line_entry (Assign name leaf) = Assigns name.bytes leaf
line_entry (Drop name) = Drops name.bytes
line_entry (Restore name) = Restores name.bytes
line_entry Period = Ends
