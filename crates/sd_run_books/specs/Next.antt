-- Public meaning: `next SITE BOOK WORDS OUT` [this project, docs/FORMATS.md, Chains of sites].
use Rattle.std.specs.Prelude.{ℕ, ◌-◌, List, [], ◌∷◌, take, Option}
use Rattle.sd_site_cards.specs.SiteFields.{SiteFields, site_fields_of}
use Rattle.sd_site_cards.specs.Written.{site_text, is_first_site}
use Rattle.sd_site_cards.specs.Chain.{most_word, next_site}
use Rattle.sd_book.specs.declared.command.Command.{Command}
use Rattle.sd_book.specs.Commands.{last_period}
use Rattle.sd_command_base.specs.Spec.{Spec, FileArgument, Readings, of_result, value, ◌>>=◌}
use Rattle.sd_command_base.specs.Work.{Work}
use Rattle.sd_command_base.specs.Shown.{NumberArgument}
use Rattle.sd_command_base.specs.Files.{longer_book_of_file}
use Rattle.sd_command_base.specs.Made.{NewFile, making_new}
use Rattle.sd_run_books.specs.declared.origin.Origin.{Origin as Found}
use Rattle.sd_run_books.specs.Chain.{line_of_book, own_commands, told_name, newest_of_file}
use Rattle.sd_run_books.specs.Told.{told_next}

-- what a next site is made from: a site, the commands of its book, and the bytes and the commands of a longer book
pub record Origin : Type 0 where
  pub site : SiteFields
  pub own : List Command
  pub bytes : List ℕ
  pub commands : List Command

-- so it is of what the program found
abbrev pub shown_origin : Found → Origin
shown_origin found = record {
  site = site_fields_of found.site;
  own = take found.own found.file.book.commands;
  bytes = found.file.bytes.items;
  commands = found.file.book.commands;
}

-- what a next site is made from, of what the files of SITE and of BOOK gave
unfoldable pub origin_of_files : ℕ → ℕ → NumberArgument → Option (List ℕ) → Option (List ℕ) → Spec Origin
origin_of_files site book words site_got book_got = do
  newest ← newest_of_file is_first_site site (most_word - 1) words site_got
  text ← longer_book_of_file book newest.0.height newest.1 book_got
  value (record {
    site = newest.0;
    own = own_commands newest.1 text.bytes;
    bytes = text.bytes;
    commands = text.commands;
  })

-- the next site, with so many control words
abbrev pub site_after : Origin → ℕ → SiteFields
site_after origin words = next_site (last_period origin.own) words origin.site

-- its file, and what is printed of it
abbrev pub next_made : Origin → ℕ → NewFile
next_made origin words = record {
  bytes = site_text (site_after origin words) (line_of_book origin.bytes);
  pieces = told_next (site_after origin words) origin.own origin.commands ∷ [];
}

-- the work that the words and the two files say
unfoldable pub next_meaning : FileArgument → FileArgument → NumberArgument → FileArgument → Readings → Spec Work
next_meaning site book words out given = do
  named ← of_result (told_name site out)
  origin ← origin_of_files site.number book.number words (given site) (given book)
  making_new (next_made origin words.value) out (given out)
