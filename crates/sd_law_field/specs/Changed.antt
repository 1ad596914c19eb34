-- Public meaning: the commands of a book as changes of an index of revoked leaves.
use Rattle.std.specs.Prelude.{List, [], ◌∷◌}
use Rattle.sd_book.specs.declared.command.Command.{Command}
use Rattle.sd_book.specs.declared.command.Command.TheVariants.{Subscribe, Revoke, Period}
use Rattle.sd_cover_tracing.specs.Changes.{Change, Revokes, Subscribes}

-- the changes that these commands make, one after the other: a Period makes none
abbrev pub changes_of : List Command → List Change
changes_of [] = []
changes_of (Subscribe u ∷ commands) = Subscribes u ∷ changes_of commands
changes_of (Revoke u ∷ commands) = Revokes u ∷ changes_of commands
changes_of (Period ∷ commands) = changes_of commands
