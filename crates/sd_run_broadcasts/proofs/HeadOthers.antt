-- `head` never means `Usage`.
use Rattle.std.proofs.Common.{ℕ, List, Option, Result, Ok, Err}
use Rattle.sd_site_cards.specs.SiteFields.{SiteFields}
use Rattle.sd_site_cards.specs.Text.{book_line_of, site_of}
use Rattle.sd_site_cards.specs.declared.book_line.BookLine.{BookLine}
use Rattle.sd_site_cards.specs.declared.site_fault.SiteFault.{SiteFault}
use Rattle.sd_command_base.specs.declared.status.LimitKind.TheVariants.{SiteBytes}
use Rattle.sd_command_base.specs.Spec.{FileArgument, Readings, whole_file_bytes, of_result, value, within, ◌>>=◌}
use Rattle.sd_command_base.specs.Files.{most_site_bytes, own_book_of_file, site_or_status}
use Rattle.sd_command_base.proofs.Others.{IsOther, other_after, other_file, other_own_book_file, other_stream}
use Rattle.sd_run_broadcasts.specs.Head.{head_plan_by, sending, sending_of, head_meaning, site_and_line_of_file}
use Rattle.sd_run_broadcasts.specs.Head.{with_line}

other_said : (word : ℕ) (bytes : List ℕ) (line : Option BookLine) (r : Result SiteFields SiteFault) →
    IsOther (with_line line (site_or_status word bytes r))
other_said word bytes line (Ok fields) = tt
other_said word bytes line (Err fault) = λ e. cc

other_site_and_line : (word : ℕ) (got : Option (List ℕ)) → IsOther (site_and_line_of_file word got).result
unfolding site_and_line_of_file
other_site_and_line word got =
    other_after (within word most_site_bytes SiteBytes got).calls (within word most_site_bytes SiteBytes got).result
    (λ bytes. of_result (with_line (book_line_of bytes) (site_or_status word bytes (site_of bytes))))
    (other_file word most_site_bytes SiteBytes got) (λ bytes. other_said word bytes (book_line_of bytes)
    (site_of bytes))

other_plan : (site book : ℕ) (site_got book_got : Option (List ℕ)) →
    IsOther (head_plan_by site book site_got book_got).result
unfolding head_plan_by
other_plan site book site_got book_got =
    other_after (site_and_line_of_file site site_got).calls (site_and_line_of_file site site_got).result
    (λ said. own_book_of_file book said.0.height said.1 book_got
    >>= λ commands. value (record { site = said.0; commands = commands }))
    (other_site_and_line site site_got)
    (λ said. other_after (own_book_of_file book said.0.height said.1 book_got).calls
    (own_book_of_file book said.0.height said.1 book_got).result
    (λ commands. value (record { site = said.0; commands = commands }))
    (other_own_book_file book said.0.height said.1 book_got) (λ commands. tt))

pub other_head : (site book clear out : FileArgument) (given : Readings) →
    IsOther (head_meaning site book clear out given).result
unfolding head_meaning
other_head site book clear out given =
    other_after (head_plan_by site.number book.number (given site) (given book)).calls
    (head_plan_by site.number book.number (given site) (given book)).result (sending_of clear out (given clear))
    (other_plan site.number book.number (given site) (given book))
    (λ plan. other_after (whole_file_bytes clear.number (given clear)).calls (whole_file_bytes clear.number
    (given clear)).result
    (λ bytes. value (sending plan out bytes)) (other_stream clear.number (given clear)) (λ bytes. tt))
