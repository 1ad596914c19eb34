-- Public meaning: what the files say that several commands read [this project, docs/FORMATS.md, Site and Book].
use Rattle.std.specs.Prelude.{ℕ, ◌-◌, nat_lt, nat_le, ◌==◌, ◌&&◌, ◌||◌, if◌then◌else◌, Bool, true, bytes_eq, List}
use Rattle.std.specs.Prelude.{length, take, get_or, Option, Some, None, Result, Ok, Err}
use Rattle.sha2.specs.Sha256.{sha256}
use Rattle.sd_site_cards.specs.declared.book_line.BookLine.{BookLine}
use Rattle.sd_site_cards.specs.SiteFields.{SiteFields}
use Rattle.sd_site_cards.specs.Forms.{most_book_size}
use Rattle.sd_site_cards.specs.Text.{site_of}
use Rattle.sd_site_cards.specs.declared.site_fault.SiteFault.{SiteFault}
use Rattle.sd_book.specs.declared.command.Command.{Command}
use Rattle.sd_book.specs.declared.fault.BookFault.{BookFault}
use Rattle.sd_book.specs.declared.fault.BookFault.TheVariants as book
use Rattle.sd_book.specs.Text.{book_of}
use Rattle.sd_site_cards.specs.declared.card_fault.CardFault.{CardFault}
use Rattle.sd_site_cards.specs.declared.card_fault.CardFault.TheVariants as card
use Rattle.sd_command_base.specs.declared.status.Status.{Status}
use Rattle.sd_command_base.specs.declared.status.Status.TheVariants.{BadSite, BadBook, BadCard, Limit, NoMemory}
use Rattle.sd_command_base.specs.declared.status.Status.TheVariants.{OtherBook}
use Rattle.sd_command_base.specs.declared.status.LimitKind.{LimitKind}
use Rattle.sd_command_base.specs.declared.status.LimitKind.TheVariants.{SiteBytes, BookBytes, Book}
use Rattle.sd_command_base.specs.declared.bad_line.LineCause.TheVariants.{Leaf, Unended}
use Rattle.sd_command_base.specs.BadLines.{bad_line, malformed, site_excerpt}
use Rattle.sd_command_base.specs.Spec.{Spec, FileArgument, Readings, within, of_result, ◌>>=◌}

-- the bytes of the longest site file
abbrev pub most_site_bytes : ℕ
most_site_bytes = 4096

-- the bytes of the longest file of a book, of accounts and of leaves [this project, docs/FORMATS.md, Leaves]
abbrev pub most_book_bytes : ℕ
most_book_bytes = most_book_size

-- the bytes of the longest card file [this project, docs/FORMATS.md, Card]
abbrev pub most_card_bytes : ℕ
most_card_bytes = 8192

-- the status where the bytes of this word's file are no site
abbrev pub refused_site : ℕ → List ℕ → SiteFault → Status
refused_site word bytes fault = BadSite word fault (site_excerpt fault bytes)

-- the site that the bytes of this word's file say
abbrev pub site_or_status : ℕ → List ℕ → Result SiteFields SiteFault → Result SiteFields Status
site_or_status word bytes (Ok site) = Ok site
site_or_status word bytes (Err fault) = Err (refused_site word bytes fault)

-- the site of what the file of this word gave
unfoldable pub site_of_file : ℕ → Option (List ℕ) → Spec SiteFields
site_of_file word got =
    within word most_site_bytes SiteBytes got >>= λ bytes. of_result (site_or_status word bytes (site_of bytes))

abbrev pub site_in : Readings → FileArgument → Spec SiteFields
site_in given word = site_of_file word.number (given word)

-- a site, if its tree is of height at most `most`, or that this limit is exceeded
abbrev pub low_site_or_status : ℕ → LimitKind → SiteFields → Result SiteFields Status
low_site_or_status most kind site = if nat_lt most site.height then Err (Limit kind) else Ok site

-- the site of what the file of this word gave, if its tree is of height at most `most`
unfoldable pub low_site_of_file : ℕ → ℕ → LimitKind → Option (List ℕ) → Spec SiteFields
low_site_of_file word most kind got = site_of_file word got >>= λ site. of_result (low_site_or_status most kind site)

-- the status where the bytes of this word's file are no book for a tree of height d
abbrev pub refused_book : ℕ → ℕ → List ℕ → BookFault → Status
refused_book word d bytes (book.Line k) = BadBook word (malformed k bytes)
refused_book word d bytes (book.Leaf k) = BadBook word (bad_line (Leaf d) k bytes)
refused_book word d bytes (book.Limit limit) = Limit (Book limit)
refused_book word d bytes book.NoMemory = NoMemory

-- the status where the bytes of this word's file are no card
abbrev pub refused_card : ℕ → CardFault → Status
refused_card word card.NoMemory = NoMemory
refused_card word found = BadCard word found

-- what is read of the card's file that this argument names, or the status of its fault
abbrev pub card_unless : {X : Type 0} → ℕ → Option CardFault → X → Result X Status
card_unless word None x = Ok x
card_unless word (Some fault) x = Err (BadCard word fault)

-- the commands that a file's bytes say
abbrev pub book_or_status : ℕ → ℕ → List ℕ → Result (List Command) BookFault → Result (List Command) Status
book_or_status word d bytes (Ok commands) = Ok commands
book_or_status word d bytes (Err fault) = Err (refused_book word d bytes fault)

-- the book, for a tree of height d, of what the file of this word gave
unfoldable pub book_of_file : ℕ → ℕ → Option (List ℕ) → Spec (List Command)
book_of_file word d got =
    within word most_book_bytes BookBytes got >>= λ bytes. of_result (book_or_status word d bytes (book_of d bytes))

abbrev pub book_in : Readings → ℕ → FileArgument → Spec (List Command)
book_in given d word = book_of_file word.number d (given word)

-- the bytes are whole lines: there is none, or the last one is a line feed
abbrev pub ends_lines : List ℕ → Bool
ends_lines bytes = nat_le (length bytes) 0 || (get_or bytes (length bytes - 1) 0 == 10)

-- the bytes begin with the book of a site's line 13, which is whole lines; if the site has no line 13, they may be any
-- [this project, docs/FORMATS.md, Chains of sites]
abbrev pub begins_with_book : Option BookLine → List ℕ → Bool
begins_with_book None bytes = true
begins_with_book (Some line) bytes =
    nat_le line.size (length bytes)
    && (ends_lines (take line.size bytes) && bytes_eq (sha256 (take line.size bytes)) line.digest)

-- the bytes are the book of a site's line 13; if the site has no line 13, they may be any
abbrev pub is_book : Option BookLine → List ℕ → Bool
is_book None bytes = true
is_book (Some line) bytes = (length bytes == line.size) && bytes_eq (sha256 bytes) line.digest

-- the commands of a book that must be that of the site's line 13
abbrev pub own_book_or_status : ℕ → ℕ → Option BookLine → List ℕ → Result (List Command) Status
own_book_or_status word d line bytes = if is_book line bytes then book_or_status word d bytes (book_of d bytes)
    else Err OtherBook

-- the book, for a tree of height d, that the file of this word gave, if it is that of the site's line 13
unfoldable pub own_book_of_file : ℕ → ℕ → Option BookLine → Option (List ℕ) → Spec (List Command)
own_book_of_file word d line got =
    within word most_book_bytes BookBytes got >>= λ bytes. of_result (own_book_or_status word d line bytes)

-- the bytes of a book's file, and the commands that they say
pub record BookText : Type 0 where
  pub bytes : List ℕ
  pub commands : List Command

-- a book's file, if it is whole lines; else its last line is refused, each line being a command
abbrev pub whole_book_or_status : ℕ → List ℕ → Result (List Command) Status → Result BookText Status
whole_book_or_status word bytes (Err status) = Err status
whole_book_or_status word bytes (Ok commands) =
    if ends_lines bytes then Ok (record { bytes = bytes; commands = commands })
    else Err (BadBook word (bad_line Unended (length commands) bytes))

-- a book's file that must begin with the book of the site's line 13, and be whole lines
abbrev pub longer_book_or_status : ℕ → ℕ → Option BookLine → List ℕ → Result BookText Status
longer_book_or_status word d line bytes =
    if begins_with_book line bytes then whole_book_or_status word bytes (book_or_status word d bytes (book_of d bytes))
    else Err OtherBook

-- the book's file, for a tree of height d, that the file of this word gave, if it begins with the book of the site's
-- line 13 and is whole lines
unfoldable pub longer_book_of_file : ℕ → ℕ → Option BookLine → Option (List ℕ) → Spec BookText
longer_book_of_file word d line got =
    within word most_book_bytes BookBytes got >>= λ bytes. of_result (longer_book_or_status word d line bytes)
