-- `air` never means `Usage`.
use Rattle.std.proofs.Common.{ℕ, ◌==◌, not, nat_lt, Bool, true, false, if◌then◌else◌, List, Option, Some, None, Result}
use Rattle.std.proofs.Common.{Ok, Err}
use Rattle.sd_site_cards.specs.SiteFields.{SiteFields}
use Rattle.sd_site_cards.specs.Written.{site_of_chain, none_fewer}
use Rattle.sd_site_cards.specs.declared.book_line.BookLine.{BookLine}
use Rattle.sd_site_cards.specs.declared.site_fault.SiteFault.{SiteFault}
use Rattle.sd_site_cards.specs.declared.site_fault.SiteFault.TheVariants.{Range}
use Rattle.sd_command_base.specs.declared.status.LimitKind.TheVariants.{SiteBytes}
use Rattle.sd_command_base.specs.Spec.{FileArgument, Readings, whole_file_bytes, of_result, value, within, ◌>>=◌}
use Rattle.sd_command_base.specs.Files.{most_site_bytes, own_book_of_file, refused_site}
use Rattle.sd_command_base.specs.Made.{unused}
use Rattle.sd_command_base.proofs.Others.{IsOther, other_after, other_file, other_own_book_file, other_stream}
use Rattle.sd_run_broadcasts.specs.Air.{told_air_site, air_site_of_file, air_plan_by, mark_word, airing, air_meaning}

other_told : (word : ℕ) (bytes : List ℕ) (r : Result (SiteFields × Option BookLine) SiteFault) →
    IsOther (told_air_site word bytes r)
other_told word bytes (Err fault) = λ e. cc
other_told word bytes (Ok said) = by (not (said.0.messages == 3)) (nat_lt said.0.last_word said.0.first_word)
  where
    by : (other none : Bool) →
        IsOther (if other then Err (refused_site word bytes (Range 9))
        else if none then Err (refused_site word bytes (Range 11)) else Ok said)
    by true none = λ e. cc
    by false true = λ e. cc
    by false false = tt

other_site : (word : ℕ) (got : Option (List ℕ)) → IsOther (air_site_of_file word got).result
unfolding air_site_of_file
other_site word got =
    other_after (within word most_site_bytes SiteBytes got).calls (within word most_site_bytes SiteBytes got).result
    (λ bytes. of_result (told_air_site word bytes (site_of_chain none_fewer bytes)))
    (other_file word most_site_bytes SiteBytes got)
    (λ bytes. other_told word bytes (site_of_chain none_fewer bytes))

other_plan : (site book : ℕ) (site_got book_got : Option (List ℕ)) →
    IsOther (air_plan_by site book site_got book_got).result
unfolding air_plan_by
other_plan site book site_got book_got =
    other_after (air_site_of_file site site_got).calls (air_site_of_file site site_got).result
    (λ said. own_book_of_file book said.0.height said.1 book_got
    >>= λ commands. value (record { site = said.0; commands = commands })) (other_site site site_got)
    (λ said. other_after (own_book_of_file book said.0.height said.1 book_got).calls
    (own_book_of_file book said.0.height said.1 book_got).result
    (λ commands. value (record { site = said.0; commands = commands }))
    (other_own_book_file book said.0.height said.1 book_got) (λ commands. tt))

other_unused : (got : Option (List ℕ)) → IsOther (unused got).result
other_unused None = tt
other_unused (Some bytes) = λ e. cc

pub other_air : (site book clear out : FileArgument) (given : Readings) →
    IsOther (air_meaning site book clear out given).result
unfolding air_meaning
other_air site book clear out given =
    other_after (air_plan_by site.number book.number (given site) (given book)).calls
    (air_plan_by site.number book.number (given site) (given book)).result
    (λ plan. whole_file_bytes clear.number (given clear)
    >>= λ bytes. unused (given (mark_word site)) >>= λ new. value (airing plan site out bytes))
    (other_plan site.number book.number (given site) (given book))
    (λ plan. other_after (whole_file_bytes clear.number (given clear)).calls (whole_file_bytes clear.number
    (given clear)).result
    (λ bytes. unused (given (mark_word site)) >>= λ new. value (airing plan site out bytes))
    (other_stream clear.number (given clear))
    (λ bytes. other_after (unused (given (mark_word site))).calls (unused (given (mark_word site))).result
    (λ new. value (airing plan site out bytes)) (other_unused (given (mark_word site))) (λ new. tt)))
