-- Public meaning: `twin SITE WORDS OUT` [this project, docs/FORMATS.md, Chains of sites].
use Rattle.std.specs.Prelude.{ℕ, [], Option}
use Rattle.std.specs.Option.{option_map_or}
use Rattle.sd_site_cards.specs.SiteFields.{SiteFields}
use Rattle.sd_site_cards.specs.Written.{site_text, none_fewer}
use Rattle.sd_site_cards.specs.Chain.{most_word, twin_site}
use Rattle.sd_site_cards.specs.declared.book_line.BookLine.{BookLine}
use Rattle.sd_command_base.specs.Spec.{Spec, FileArgument, Readings, of_result, ◌>>=◌}
use Rattle.sd_command_base.specs.Work.{Work}
use Rattle.sd_command_base.specs.Shown.{NumberArgument}
use Rattle.sd_command_base.specs.Made.{NewFile, making_new}
use Rattle.sd_run_books.specs.Chain.{told_name, newest_of_file}

-- the file of a site with so many control words and the same book: a site of thirteen lines has one. Nothing is printed
abbrev pub twin_made : SiteFields → Option BookLine → ℕ → NewFile
twin_made site line words = record { bytes = option_map_or (site_text (twin_site words site)) line []; pieces = [] }

-- the work that the words and the site's file say
unfoldable pub twin_meaning : FileArgument → NumberArgument → FileArgument → Readings → Spec Work
twin_meaning site words out given = do
  named ← of_result (told_name site out)
  newest ← newest_of_file none_fewer site.number most_word words (given site)
  making_new (twin_made newest.0 newest.1 words.value) out (given out)
