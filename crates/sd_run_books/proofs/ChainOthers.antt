-- No command that makes a site of a chain ever means `Usage`.
use Rattle.std.proofs.Common.{ℕ, ◌-◌, Bool, true, false, List, Option, Result, Ok, Err}
use Rattle.std.specs.Prelude.{nat_lt, if◌then◌else◌}
use Rattle.sd_site_cards.specs.SiteFields.{SiteFields}
use Rattle.sd_site_cards.specs.Written.{is_first_site, site_of_chain, none_fewer}
use Rattle.sd_site_cards.specs.Chain.{has_word_room, most_word}
use Rattle.sd_site_cards.specs.declared.book_line.BookLine.{BookLine}
use Rattle.sd_site_cards.specs.declared.site_fault.SiteFault.{SiteFault}
use Rattle.sd_site_cards.specs.declared.site_fault.SiteFault.TheVariants.{Range}
use Rattle.sd_command_base.specs.declared.status.Status.TheVariants.{BadOut, BadWord}
use Rattle.sd_command_base.specs.declared.status.OutCause.TheVariants.{Name}
use Rattle.sd_command_base.specs.declared.status.LimitKind.TheVariants.{SiteBytes}
use Rattle.sd_command_base.specs.Spec.{FileArgument, Readings, of_result, value, within, ◌>>=◌}
use Rattle.sd_command_base.specs.Shown.{NumberArgument}
use Rattle.sd_command_base.specs.Files.{most_site_bytes, refused_site}
use Rattle.sd_command_base.specs.Made.{making_new}
use Rattle.sd_command_base.proofs.Others.{IsOther, other_after, other_file, other_longer_book_file, other_new}
use Rattle.sd_run_books.specs.SiteNames.{follows}
use Rattle.sd_run_books.specs.Chain.{newest_of_file, told_name, told_newest}
use Rattle.sd_run_books.specs.Next.{next_made, next_meaning, origin_of_files}
use Rattle.sd_run_books.specs.Twin.{twin_made, twin_meaning}
use Rattle.sd_run_books.proofs.Origins.{origin_of, text_after}

other_name : (b : Bool) (word : ℕ) → IsOther {A = Unit {0}} (if b then Ok tt else Err (BadOut word Name))
other_name true word = tt
other_name false word = λ e. cc

other_told_name : (site out : FileArgument) → IsOther (told_name site out)
other_told_name site out = other_name (follows site.text out.text) out.number

other_newest_of : (word : ℕ) (bytes : List ℕ) (most : ℕ) (words : NumberArgument)
    (r : Result (SiteFields × Option BookLine) SiteFault) → IsOther (told_newest word bytes most words r)
other_newest_of word bytes most words (Err fault) = λ e. cc
other_newest_of word bytes most words (Ok newest) =
    by (nat_lt most newest.0.first_period) (has_word_room words.value newest.0)
  where
    by : (past room : Bool) → IsOther {A = SiteFields × Option BookLine}
        (if past then Err (refused_site word bytes (Range 12))
        else if room then Ok newest else Err (BadWord words.word))
    by true room = λ e. cc
    by false true = tt
    by false false = λ e. cc

other_newest : (fewer : List ℕ → SiteFields → Bool) (word most : ℕ) (words : NumberArgument)
    (got : Option (List ℕ)) → IsOther (newest_of_file fewer word most words got).result
unfolding newest_of_file
other_newest fewer word most words got =
    other_after (within word most_site_bytes SiteBytes got).calls (within word most_site_bytes SiteBytes got).result
    (λ bytes. of_result (told_newest word bytes most words (site_of_chain fewer bytes)))
    (other_file word most_site_bytes SiteBytes got)
    (λ bytes. other_newest_of word bytes most words (site_of_chain fewer bytes))

other_origin : (site book : ℕ) (words : NumberArgument) (site_got book_got : Option (List ℕ)) →
    IsOther (origin_of_files site book words site_got book_got).result
unfolding origin_of_files
other_origin site book words site_got book_got =
    let newest = newest_of_file is_first_site site (most_word - 1) words site_got in
    other_after newest.calls newest.result
    (λ newest. text_after book newest book_got >>= λ text. value (origin_of newest text))
    (other_newest is_first_site site (most_word - 1) words site_got)
    (λ newest. other_after (text_after book newest book_got).calls (text_after book newest book_got).result
    (λ text. value (origin_of newest text)) (other_longer_book_file book newest.0.height newest.1 book_got)
    (λ text. tt))

pub other_next : (site book : FileArgument) (words : NumberArgument) (out : FileArgument) (given : Readings) →
    IsOther (next_meaning site book words out given).result
unfolding next_meaning
other_next site book words out given =
    let origin = origin_of_files site.number book.number words (given site) (given book) in
    other_after 0 (told_name site out)
    (λ named. origin >>= λ origin. making_new (next_made origin words.value) out (given out))
    (other_told_name site out)
    (λ named. other_after origin.calls origin.result
    (λ origin. making_new (next_made origin words.value) out (given out))
    (other_origin site.number book.number words (given site) (given book))
    (λ origin. other_new (next_made origin words.value) out (given out)))

pub other_twin : (site : FileArgument) (words : NumberArgument) (out : FileArgument) (given : Readings) →
    IsOther (twin_meaning site words out given).result
unfolding twin_meaning
other_twin site words out given =
    let newest = newest_of_file none_fewer site.number most_word words (given site) in
    other_after 0 (told_name site out)
    (λ named. newest >>= λ newest. making_new (twin_made newest.0 newest.1 words.value) out (given out))
    (other_told_name site out)
    (λ named. other_after newest.calls newest.result
    (λ newest. making_new (twin_made newest.0 newest.1 words.value) out (given out))
    (other_newest none_fewer site.number most_word words (given site))
    (λ newest. other_new (twin_made newest.0 newest.1 words.value) out (given out)))
