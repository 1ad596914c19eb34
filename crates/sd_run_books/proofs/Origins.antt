-- What a next site is made from, as the code has it and as it is meant.
use Rattle.std.proofs.Common.{ℕ, List, Option}
use Rattle.sd_site_cards.specs.SiteFields.{SiteFields, site_fields_of}
use Rattle.sd_site_cards.specs.declared.site.Site.{Site}
use Rattle.sd_site_cards.specs.declared.book_line.BookLine.{BookLine}
use Rattle.sd_command_base.specs.declared.own_book.BookFile.{BookFile}
use Rattle.sd_command_base.specs.Spec.{Spec}
use Rattle.sd_command_base.specs.Files.{BookText, longer_book_of_file}
use Rattle.sd_run_books.specs.Chain.{own_commands}
use Rattle.sd_run_books.specs.Next.{Origin}

abbrev pub shown_newest : Site × Option BookLine → SiteFields × Option BookLine
shown_newest newest = (site_fields_of newest.0, newest.1)

abbrev pub shown_text : BookFile → BookText
shown_text file = record { bytes = file.bytes.items; commands = file.book.commands }

-- the book's file, by the site and its book's line
abbrev pub text_after : ℕ → SiteFields × Option BookLine → Option (List ℕ) → Spec BookText
text_after word newest got = longer_book_of_file word newest.0.height newest.1 got

-- what both give
abbrev pub origin_of : SiteFields × Option BookLine → BookText → Origin
origin_of newest text = record {
  site = newest.0;
  own = own_commands newest.1 text.bytes;
  bytes = text.bytes;
  commands = text.commands;
}
