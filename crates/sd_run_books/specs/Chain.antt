-- Public meaning: chains of sites: the book of a site, and the site that another one is made from [this project,
-- docs/FORMATS.md, Chains of sites].
use Rattle.std.specs.Prelude.{ℕ, nat_lt, Bool, if◌then◌else◌, List, [], length, take, filter_map}
use Rattle.std.specs.Prelude.{Option, Some, None, Result, Ok, Err}
use Rattle.sha2.specs.Sha256.{sha256}
use Rattle.sd_site_cards.specs.SiteFields.{SiteFields}
use Rattle.sd_site_cards.specs.Written.{site_of_chain}
use Rattle.sd_site_cards.specs.Chain.{has_word_room}
use Rattle.sd_site_cards.specs.declared.book_line.BookLine.{BookLine}
use Rattle.sd_site_cards.specs.declared.site_fault.SiteFault.{SiteFault}
use Rattle.sd_site_cards.specs.declared.site_fault.SiteFault.TheVariants.{Range}
use Rattle.sd_book.specs.declared.command.Command.{Command}
use Rattle.sd_book.specs.Text.{said_by_book}
use Rattle.sd_command_base.specs.declared.status.Status.{Status}
use Rattle.sd_command_base.specs.declared.status.Status.TheVariants.{BadWord, BadOut}
use Rattle.sd_command_base.specs.declared.status.OutCause.TheVariants.{Name}
use Rattle.sd_command_base.specs.declared.status.LimitKind.TheVariants.{SiteBytes}
use Rattle.sd_command_base.specs.Spec.{Spec, FileArgument, within, of_result, ◌>>=◌}
use Rattle.sd_command_base.specs.Shown.{NumberArgument}
use Rattle.sd_command_base.specs.Files.{most_site_bytes, refused_site}
use Rattle.sd_run_books.specs.SiteNames.{follows}

-- what line 13 says of a book with these bytes: how many they are, and their SHA-256 [FIPS 180-4]
abbrev pub line_of_book : List ℕ → BookLine
line_of_book bytes = record { size = length bytes; digest = sha256 bytes }

-- the commands that a text's good lines say
abbrev pub commands_said : List ℕ → List Command
commands_said bytes = filter_map (λ said. said) (said_by_book bytes)

-- the commands of the site's book, with which these bytes begin; none if the site has no line 13
abbrev pub own_commands : Option BookLine → List ℕ → List Command
own_commands None bytes = []
own_commands (Some line) bytes = commands_said (take line.size bytes)

-- the name of OUT must follow that of SITE
abbrev pub told_name : FileArgument → FileArgument → Result (Unit {0}) Status
told_name site out = if follows site.text out.text then Ok tt else Err (BadOut out.number Name)

-- a site of these bytes and its book's line, if the site's line 12 is at most this and so many control words are left
abbrev pub told_newest : ℕ → List ℕ → ℕ → NumberArgument → Result (SiteFields × Option BookLine) SiteFault →
    Result (SiteFields × Option BookLine) Status
told_newest word bytes most words (Err fault) = Err (refused_site word bytes fault)
told_newest word bytes most words (Ok newest) =
    if nat_lt most newest.0.first_period then Err (refused_site word bytes (Range 12))
    else if has_word_room words.value newest.0 then Ok newest
    else Err (BadWord words.word)

-- the site that the next one is made from, of what the file of this word gave: it has thirteen lines, or may have fewer
unfoldable pub newest_of_file : (List ℕ → SiteFields → Bool) → ℕ → ℕ → NumberArgument → Option (List ℕ) →
    Spec (SiteFields × Option BookLine)
newest_of_file fewer word most words got =
    within word most_site_bytes SiteBytes got
    >>= λ bytes. of_result (told_newest word bytes most words (site_of_chain fewer bytes))
