-- Public meaning: the site and the book of its tree, which several commands read first [this project,
-- docs/FORMATS.md, Site and Book].
use Rattle.std.specs.Prelude.{ℕ, List, Option}
use Rattle.sd_site_cards.specs.SiteFields.{SiteFields}
use Rattle.sd_book.specs.declared.command.Command.{Command}
use Rattle.sd_command_base.specs.Spec.{Spec, FileArgument, Readings, value, ◌>>=◌}
use Rattle.sd_command_base.specs.Files.{site_of_file, book_of_file}

-- a site, and the commands of a book for its tree
pub record SiteBook : Type 0 where
  pub site : SiteFields
  pub commands : List Command

-- the two of what the files of these words gave
unfoldable pub both_by : ℕ → ℕ → Option (List ℕ) → Option (List ℕ) → Spec SiteBook
both_by site book site_got book_got = do
  fields ← site_of_file site site_got
  commands ← book_of_file book fields.height book_got
  value (record { site = fields; commands = commands })

abbrev pub both_meaning : FileArgument → FileArgument → Readings → Spec SiteBook
both_meaning site book given = both_by site.number book.number (given site) (given book)
