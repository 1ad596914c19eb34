-- Public meaning: what `next` and `twin` make of the file of a site of a chain
-- [this project, docs/FORMATS.md, Chains of sites].
use Rattle.std.specs.Prelude.{◌≡◌, ℕ, ◌≤◌, Bool, true, List, [], ◌∷◌, length, Option, Some, None, Ok}
use Rattle.sd_base.specs.Types.{Bytes}
use Rattle.sd_site_cards.specs.SiteFields.{SiteFields}
use Rattle.sd_site_cards.specs.Written.{site_of_chain, site_text}
use Rattle.sd_site_cards.specs.declared.book_line.BookLine.{BookLine}
use Rattle.sd_command_base.specs.Files.{most_site_bytes}
use Rattle.sd_command_base.specs.Made.{NewFile, new_work}
use Rattle.sd_command_base.specs.Spec.{FileArgument, Readings}
use Rattle.sd_command_base.specs.Work.{Work}
use Rattle.sd_run_books.specs.Chain.{commands_said, line_of_book}
use Rattle.sd_run_books.specs.SiteNames.{follows}
use Rattle.sd_run_books.specs.Told.{told_next}
use Rattle.sd_law_chain.specs.Chain.{Call, Link, Next, Twin, made_by, own_bytes}

-- line 13 says this book; without the line the site has no book
abbrev pub IsLineOf : Option BookLine → Bytes → Type 0
IsLineOf None book = book ≡ []
IsLineOf (Some line) book = line ≡ line_of_book book

-- a file is the link's: it says its site and its book, and is no longer than a site file may be
pub record IsFileOf (fewer : List ℕ → SiteFields → Bool) (link : Link) (bytes : Bytes) : Type 0 where
  pub short : length bytes ≤ most_site_bytes
  pub line : Option BookLine
  pub says : site_of_chain fewer bytes ≡ Ok (link.site, line)
  pub book : IsLineOf line link.book

-- the file of the site that a call makes, and what is printed of it: its periods, if the call is a `next`
abbrev pub file_made : Link → Call → NewFile
file_made link (Next bytes words) = record {
  bytes = site_text (made_by link (Next bytes words)).site (line_of_book bytes);
  pieces =
      told_next (made_by link (Next bytes words)).site (commands_said (own_bytes link bytes)) (commands_said bytes)
      ∷ [];
}
file_made link (Twin words) = record {
  bytes = site_text (made_by link (Twin words)).site (line_of_book link.book);
  pieces = [];
}

-- the call's work: it makes OUT
abbrev pub work_made : Link → Call → FileArgument → Work
work_made link call out = new_work (file_made link call) out

-- OUT's name follows that of SITE, and nothing has the name
abbrev pub IsNewNext : FileArgument → FileArgument → Readings → Type 0
IsNewNext site out given = (follows site.text out.text ≡ true) × (given out ≡ None)
