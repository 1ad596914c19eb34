-- Public meaning: `opens SITE BOOK LEAVES` [this project, docs/FORMATS.md, Cover].
use Rattle.std.specs.Prelude.{ℕ, List, codes, if◌then◌else◌}
use Rattle.std.specs.List.{list_any}
use Rattle.sd_tree_keys.specs.declared.set.SetName.{SetName}
use Rattle.sd_tree_keys.specs.Leaves.{is_member}
use Rattle.sd_book.specs.declared.command.Command.{Command}
use Rattle.sd_cover_tracing.specs.Cover.{cover_of}
use Rattle.sd_command_base.specs.Spec.{Spec, FileArgument, Readings, value, ◌>>=◌}
use Rattle.sd_command_base.specs.Work.{Work}
use Rattle.sd_command_base.specs.Periods.{listing, text_at}
use Rattle.sd_command_base.specs.Both.{both_meaning}
use Rattle.sd_command_base.specs.Leaves.{leaves_in}

-- the ends of the lines of the sets that are open, and of the others
abbrev pub open_end : List ℕ
open_end = codes " open\n"

abbrev pub shut_end : List ℕ
shut_end = codes " shut\n"

-- a set is open where one of these leaves is in it, so that their cards have its key
-- [Naor, Naor, Lotspiech 2001, 3.2]
abbrev pub pool_end : ℕ → List ℕ → SetName → List ℕ
pool_end d leaves name = if list_any (is_member d name) leaves then open_end else shut_end

-- prints the sets of each period of a book, and which of them the pooled cards of these leaves open
abbrev pub opening : ℕ → List ℕ → List Command → Work
opening d leaves commands = listing (cover_of d) (pool_end d leaves) d commands

-- what `opening` prints of period q
abbrev pub opened_text : ℕ → List ℕ → List Command → ℕ → List ℕ
opened_text d leaves commands q = text_at (cover_of d) (pool_end d leaves) d commands q

-- what would be printed of it if all of its sets were shut
abbrev pub shut_text : ℕ → List Command → ℕ → List ℕ
shut_text d commands q = text_at (cover_of d) (λ name. shut_end) d commands q

-- the work that the three files say
unfoldable pub opens_meaning : FileArgument → FileArgument → FileArgument → Readings → Spec Work
opens_meaning site book leaves given = do
  both ← both_meaning site book given
  found ← leaves_in given both.site.height leaves
  value (opening both.site.height found both.commands)
