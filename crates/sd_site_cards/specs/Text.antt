-- Public meaning: the site file: eight to thirteen lines in a fixed order [this project, docs/FORMATS.md, Site].
use Rattle.std.specs.Prelude.{◌≡◌, ℕ, ◌==◌, ◌&&◌, ◌≤◌, nat_le, List, [], ◌∷◌, length, slice_get}
use Rattle.std.specs.Prelude.{if◌then◌else◌, Option, Some, None, IsSome, IfSome, option_and_then, Result, Ok, Err}
use Rattle.std.specs.Int.{w16, from_be_bytes}
use Rattle.sd_base.specs.Lines.{lines_of}
use Rattle.sd_base.specs.Number.{decimal_after}
use Rattle.sd_site_cards.specs.SiteFields.{SiteFields, AreInRange}
use Rattle.sd_site_cards.specs.Forms.{NumberLine, BytesLine, bytes_after, book_after, number_on, bytes_on, number_or}
use Rattle.sd_site_cards.specs.Forms.{most_book_size}
use Rattle.sd_site_cards.specs.Forms.{height_line, master_line, ca_line, emm_line, ecm_line, every_line, cryptos_line}
use Rattle.sd_site_cards.specs.Forms.{span_line, messages_line, first_word_line, last_word_line, first_period_line}
use Rattle.sd_site_cards.specs.declared.book_line.BookLine.{BookLine}
use Rattle.sd_site_cards.specs.declared.optional.Optional.{Optional}
use Rattle.sd_site_cards.specs.declared.site_fault.SiteFault.{SiteFault}
use Rattle.sd_site_cards.specs.declared.site_fault.SiteFault.TheVariants.{Line, Range, SamePid, Extra, Short}

-- what line 13 of these lines says, in its range or not
unfoldable pub book_on : List (List ℕ) → Option BookLine
book_on lines = option_and_then book_after (slice_get lines 12)

-- the same of a file's bytes
abbrev pub book_line_of : List ℕ → Option BookLine
book_line_of bytes = book_on (lines_of bytes)

-- the text has just these lines, of which those after the eighth may be left out from any of them on
pub record SpellsSite (lines : List (List ℕ)) (site : SiteFields) : Type 0 where
  pub least : 8 ≤ length lines
  pub most : length lines ≤ 13
  pub height : number_on height_line (slice_get lines 0) ≡ Some site.height
  pub master : bytes_on master_line (slice_get lines 1) ≡ Some site.master
  pub ca : (bytes : List ℕ) × (bytes_on ca_line (slice_get lines 2) ≡ Some bytes) × (site.ca ≡ from_be_bytes w16 bytes)
  pub emm : number_on emm_line (slice_get lines 3) ≡ Some site.emm
  pub ecm : number_on ecm_line (slice_get lines 4) ≡ Some site.ecm
  pub every : number_on every_line (slice_get lines 5) ≡ Some site.every
  pub cryptos : number_on cryptos_line (slice_get lines 6) ≡ Some site.cryptos
  pub span : number_on span_line (slice_get lines 7) ≡ Some site.span
  pub messages : number_or 1 messages_line (slice_get lines 8) ≡ Some site.messages
  pub first_word : number_or 0 first_word_line (slice_get lines 9) ≡ Some site.first_word
  pub last_word : number_or last_word_line.high last_word_line (slice_get lines 10) ≡ Some site.last_word
  pub first_period : number_or 0 first_period_line (slice_get lines 11) ≡ Some site.first_period
  pub book : IfSome (slice_get lines 12) (λ line. IsSome (book_after line))

-- the bytes are a site file that says this
pub record IsSite (bytes : List ℕ) (site : SiteFields) : Type 0 where
  pub text : SpellsSite (lines_of bytes) site
  pub ranges : AreInRange site
  pub size : IfSome (book_line_of bytes) (λ book. book.size ≤ most_book_size)

-- a step that is taken where the one before found no fault
infixl 10 ◌>>=◌
abbrev pub ◌>>=◌ : {A B : Type 0} → Result A SiteFault → (A → Result B SiteFault) → Result B SiteFault
(Ok x) >>= f = f x
(Err fault) >>= f = Err fault

-- the decimal on line k, counted from 1, which is to be in a range
abbrev pub in_range : ℕ → ℕ → ℕ → Option ℕ → Result ℕ SiteFault
in_range k low high None = Err (Line k)
in_range k low high (Some n) = if nat_le low n && nat_le n high then Ok n else Err (Range k)

-- the bytes on line k
abbrev pub well_formed : ℕ → Option (List ℕ) → Result (List ℕ) SiteFault
well_formed k None = Err (Line k)
well_formed k (Some bytes) = Ok bytes

-- the decimal on line k and the lines after it, where line k is the first of these lines
abbrev pub number_on_line : ℕ → NumberLine → List (List ℕ) → Result (ℕ × List (List ℕ)) SiteFault
number_on_line k form [] = Err Short
number_on_line k form (line ∷ lines) =
    in_range k form.low form.high (decimal_after form.word line) >>= λ n. Ok (n, lines)

-- the decimal on line k, if the line is there, or else what stands for it
abbrev pub optional_at : ℕ → NumberLine → ℕ → List (List ℕ) → Result (ℕ × List (List ℕ)) SiteFault
optional_at k form left_out [] = Ok (left_out, [])
optional_at k form left_out (line ∷ lines) = number_on_line k form (line ∷ lines)

-- the bytes on line k and the lines after it
abbrev pub bytes_at : ℕ → BytesLine → List (List ℕ) → Result (List ℕ × List (List ℕ)) SiteFault
bytes_at k form [] = Err Short
bytes_at k form (line ∷ lines) = well_formed k (bytes_after form.word form.count line) >>= λ bytes. Ok (bytes, lines)

-- what the lines after the eighth say, and the lines after those
unfoldable pub optional_on : List (List ℕ) → Result (Optional × List (List ℕ)) SiteFault
optional_on lines = do
  messages ← optional_at 9 messages_line 1 lines
  first_word ← optional_at 10 first_word_line 0 messages.1
  last_word ← optional_at 11 last_word_line last_word_line.high first_word.1
  first_period ← optional_at 12 first_period_line 0 last_word.1
  Ok (
    record {
      messages = messages.0;
      first_word = first_word.0;
      last_word = last_word.0;
      first_period = first_period.0;
    },
    first_period.1,
  )

-- what line 13 says, in its range
abbrev pub in_book_range : Option BookLine → Result BookLine SiteFault
in_book_range None = Err (Line 13)
in_book_range (Some book) = if nat_le book.size most_book_size then Ok book else Err (Range 13)

-- what line 13 says, if it is there, and the lines after it
abbrev pub book_line_at : List (List ℕ) → Result (Option BookLine × List (List ℕ)) SiteFault
book_line_at [] = Ok (None, [])
book_line_at (line ∷ lines) = in_book_range (book_after line) >>= λ book. Ok (Some book, lines)

-- what is judged once the lines are good: those after them, and the two PIDs
abbrev pub judged_whole : List (List ℕ) → SiteFields × Option BookLine → Result (SiteFields × Option BookLine) SiteFault
judged_whole (line ∷ lines) said = Err (Extra 14)
judged_whole [] said = if said.0.emm == said.0.ecm then Err SamePid else Ok said

-- The site that the lines say and what line 13 says of its book, or the fault of the first bad line: lines are judged
-- in order, and each by its form and then by its range [this project, docs/FORMATS.md, Site]
unfoldable pub site_and_book_on : List (List ℕ) → Result (SiteFields × Option BookLine) SiteFault
site_and_book_on lines = do
  height ← number_on_line 1 height_line lines
  master ← bytes_at 2 master_line height.1
  ca ← bytes_at 3 ca_line master.1
  emm ← number_on_line 4 emm_line ca.1
  ecm ← number_on_line 5 ecm_line emm.1
  every ← number_on_line 6 every_line ecm.1
  cryptos ← number_on_line 7 cryptos_line every.1
  span ← number_on_line 8 span_line cryptos.1
  optional ← optional_on span.1
  book ← book_line_at optional.1
  judged_whole book.1 (
    record {
      height = height.0;
      master = master.0;
      ca = from_be_bytes w16 ca.0;
      emm = emm.0;
      ecm = ecm.0;
      every = every.0;
      cryptos = cryptos.0;
      span = span.0;
      messages = optional.0.messages;
      first_word = optional.0.first_word;
      last_word = optional.0.last_word;
      first_period = optional.0.first_period;
    },
    book.0,
  )

-- the site alone
unfoldable pub site_on : List (List ℕ) → Result SiteFields SiteFault
site_on lines = site_and_book_on lines >>= λ said. Ok said.0

-- the same of a file's bytes
abbrev pub site_of : List ℕ → Result SiteFields SiteFault
site_of bytes = site_on (lines_of bytes)
