-- Files that are read never answer `Usage`.
use Rattle.std.proofs.Common.{◌≢◌, ℕ, Bool, true, false, cond, List, length, Option, Some, None, Result, Ok, Err}
use Rattle.std.specs.Prelude.{nat_lt, if◌then◌else◌, IfErr}
use Rattle.sd_site_cards.specs.SiteFields.{SiteFields}
use Rattle.sd_site_cards.specs.Text.{site_of}
use Rattle.sd_site_cards.specs.declared.site_fault.SiteFault.{SiteFault}
use Rattle.sd_site_cards.specs.declared.book_line.BookLine.{BookLine}
use Rattle.sd_book.specs.declared.command.Command.{Command}
use Rattle.sd_book.specs.declared.fault.BookFault.{BookFault}
use Rattle.sd_book.specs.declared.fault.BookFault.TheVariants as book
use Rattle.sd_book.specs.Text.{book_of}
use Rattle.sd_command_base.specs.declared.status.Status.{Status}
use Rattle.sd_command_base.specs.declared.status.Status.TheVariants.{Usage, BadBook, Limit, OtherBook}
use Rattle.sd_command_base.specs.declared.status.LimitKind.{LimitKind}
use Rattle.sd_command_base.specs.declared.status.LimitKind.TheVariants.{SiteBytes, BookBytes}
use Rattle.sd_command_base.specs.declared.bad_line.BadLine.{BadLine}
use Rattle.sd_command_base.specs.declared.bad_line.LineCause.TheVariants.{Unended}
use Rattle.sd_command_base.specs.BadLines.{bad_line}
use Rattle.sd_command_base.specs.Spec.{Spec, FileArgument, and_then, whole_file_bytes, of_result, value, within, ◌>>=◌}
use Rattle.sd_command_base.specs.Both.{both_by}
use Rattle.sd_command_base.specs.Files.{site_or_status, book_or_status, low_site_or_status, site_of_file, book_of_file}
use Rattle.sd_command_base.specs.Files.{low_site_of_file}
use Rattle.sd_command_base.specs.Files.{most_book_bytes, most_site_bytes, BookText, ends_lines, begins_with_book}
use Rattle.sd_command_base.specs.Files.{is_book, own_book_or_status, own_book_of_file, whole_book_or_status}
use Rattle.sd_command_base.specs.Files.{longer_book_or_status}
use Rattle.sd_command_base.specs.Files.{longer_book_of_file}
use Rattle.sd_command_base.specs.Made.{NewFile, making_new}
use Rattle.sd_command_base.specs.Leaves.{leaves_or_status, leaves_of_file}
use Rattle.sd_command_base.specs.Text.{leaves_of_text}

-- no step but the words' own answers `Usage`
abbrev pub IsOther : {A : Type 0} → Result A Status → Type 0
IsOther r = IfErr r (λ status. status ≢ Usage)

pub other_after : {A B : Type 0} (n : ℕ) (r : Result A Status) (next : A → Spec B) → IsOther r →
    ((x : A) → IsOther (next x).result) →
    IsOther (and_then n r next).result
other_after n (Ok x) next h step = step x
other_after n (Err status) next h step = h

other_limit : (b : Bool) (status : Status) (bytes : List ℕ) → status ≢ Usage → IsOther (cond b (Err status) (Ok bytes))
other_limit true status bytes h = h
other_limit false status bytes h = tt

pub other_file : (word most : ℕ) (kind : LimitKind) (got : Option (List ℕ)) → IsOther (within word most kind got).result
other_file word most kind None = λ e. cc
other_file word most kind (Some bytes) = other_limit (nat_lt most (length bytes)) (Limit kind) bytes (λ e. cc)

pub other_stream : (word : ℕ) (got : Option (List ℕ)) → IsOther (whole_file_bytes word got).result
other_stream word None = λ e. cc
other_stream word (Some bytes) = tt

other_site : (word : ℕ) (bytes : List ℕ) (r : Result SiteFields SiteFault) → IsOther (site_or_status word bytes r)
other_site word bytes (Ok site) = tt
other_site word bytes (Err fault) = λ e. cc

pub other_book : (word d : ℕ) (bytes : List ℕ) (r : Result (List Command) BookFault) →
    IsOther (book_or_status word d bytes r)
other_book word d bytes (Ok commands) = tt
other_book word d bytes (Err (book.Line k)) = λ e. cc
other_book word d bytes (Err (book.Leaf k)) = λ e. cc
other_book word d bytes (Err (book.Limit limit)) = λ e. cc
other_book word d bytes (Err book.NoMemory) = λ e. cc

pub other_site_file : (word : ℕ) (got : Option (List ℕ)) → IsOther (site_of_file word got).result
unfolding site_of_file
other_site_file word got =
    other_after (within word most_site_bytes SiteBytes got).calls (within word most_site_bytes SiteBytes got).result
    (λ bytes. of_result (site_or_status word bytes (site_of bytes))) (other_file word most_site_bytes SiteBytes got)
    (λ bytes. other_site word bytes (site_of bytes))

other_height : (high : Bool) (kind : LimitKind) (site : SiteFields) → IsOther (cond high (Err (Limit kind)) (Ok site))
other_height true kind site = λ e. cc
other_height false kind site = tt

pub other_low_site : (word most : ℕ) (kind : LimitKind) (got : Option (List ℕ)) →
    IsOther (low_site_of_file word most kind got).result
unfolding low_site_of_file
other_low_site word most kind got =
    other_after (site_of_file word got).calls (site_of_file word got).result
    (λ site. of_result (low_site_or_status most kind site))
    (other_site_file word got) (λ site. other_height (nat_lt most site.height) kind site)

pub other_book_file : (word d : ℕ) (got : Option (List ℕ)) → IsOther (book_of_file word d got).result
unfolding book_of_file
other_book_file word d got =
    other_after (within word most_book_bytes BookBytes got).calls (within word most_book_bytes BookBytes got).result
    (λ bytes. of_result (book_or_status word d bytes (book_of d bytes))) (other_file word most_book_bytes BookBytes got)
    (λ bytes. other_book word d bytes (book_of d bytes))

pub other_both : (site book : ℕ) (site_got book_got : Option (List ℕ)) →
    IsOther (both_by site book site_got book_got).result
unfolding both_by
other_both site book site_got book_got =
    other_after (site_of_file site site_got).calls (site_of_file site site_got).result
    (λ fields. book_of_file book fields.height book_got
    >>= λ commands. value (record { site = fields; commands = commands })) (other_site_file site site_got)
    (λ fields. other_after (book_of_file book fields.height book_got).calls
    (book_of_file book fields.height book_got).result
    (λ commands. value (record { site = fields; commands = commands })) (other_book_file book fields.height book_got)
    (λ commands. tt))

pub other_leaves : (word d : ℕ) (bytes : List ℕ) (r : Result (List ℕ) ℕ) → IsOther (leaves_or_status word d bytes r)
other_leaves word d bytes (Ok leaves) = tt
other_leaves word d bytes (Err k) = λ e. cc

pub other_leaves_file : (word d : ℕ) (got : Option (List ℕ)) → IsOther (leaves_of_file word d got).result
unfolding leaves_of_file
other_leaves_file word d got =
    other_after (within word most_book_bytes BookBytes got).calls (within word most_book_bytes BookBytes got).result
    (λ bytes. of_result (leaves_or_status word d bytes (leaves_of_text d bytes)))
    (other_file word most_book_bytes BookBytes got)
    (λ bytes. other_leaves word d bytes (leaves_of_text d bytes))

other_own : (own : Bool) (told : Result (List Command) Status) → IsOther told →
    IsOther (if own then told else Err OtherBook)
other_own true told h = h
other_own false told h = λ e. cc

pub other_own_book_file : (word d : ℕ) (line : Option BookLine) (got : Option (List ℕ)) →
    IsOther (own_book_of_file word d line got).result
unfolding own_book_of_file
other_own_book_file word d line got =
    other_after (within word most_book_bytes BookBytes got).calls (within word most_book_bytes BookBytes got).result
    (λ bytes. of_result (own_book_or_status word d line bytes)) (other_file word most_book_bytes BookBytes got)
    (λ bytes. other_own (is_book line bytes) (book_or_status word d bytes (book_of d bytes))
    (other_book word d bytes (book_of d bytes)))

other_ended : (ends : Bool) (word : ℕ) (line : BadLine) (bytes : List ℕ) (commands : List Command) →
    IsOther {A = BookText} (if ends then Ok (record { bytes = bytes; commands = commands })
    else Err (BadBook word line))
other_ended true word line bytes commands = tt
other_ended false word line bytes commands = λ e. cc

other_whole : (word : ℕ) (bytes : List ℕ) (told : Result (List Command) Status) → IsOther told →
    IsOther (whole_book_or_status word bytes told)
other_whole word bytes (Ok commands) h =
    other_ended (ends_lines bytes) word (bad_line Unended (length commands) bytes) bytes commands
other_whole word bytes (Err status) h = h

other_longer : (begins : Bool) (told : Result BookText Status) → IsOther told →
    IsOther (if begins then told else Err OtherBook)
other_longer true told h = h
other_longer false told h = λ e. cc

pub other_longer_book_file : (word d : ℕ) (line : Option BookLine) (got : Option (List ℕ)) →
    IsOther (longer_book_of_file word d line got).result
unfolding longer_book_of_file
other_longer_book_file word d line got =
    other_after (within word most_book_bytes BookBytes got).calls (within word most_book_bytes BookBytes got).result
    (λ bytes. of_result (longer_book_or_status word d line bytes)) (other_file word most_book_bytes BookBytes got)
    (λ bytes. other_longer (begins_with_book line bytes)
    (whole_book_or_status word bytes (book_or_status word d bytes (book_of d bytes)))
    (other_whole word bytes (book_or_status word d bytes (book_of d bytes))
    (other_book word d bytes (book_of d bytes))))

-- no file that must be new answers it
pub other_new : (made : NewFile) (out : FileArgument) (got : Option (List ℕ)) → IsOther (making_new made out got).result
other_new made out None = tt
other_new made out (Some bytes) = λ e. cc
