-- Public meaning: the one table of a site's lines, with their words and ranges.
use Rattle.std.specs.Prelude.{ℕ, ◌*◌, ◌≤◌, ◌==◌, List, [], ◌∷◌, length, codes}
use Rattle.std.specs.Prelude.{if◌then◌else◌, Option, Some, None, option_and_then}
use Rattle.std.specs.Result.{result_ok}
use Rattle.hex.specs.Hex.{decode_of}
use Rattle.sd_base.specs.Lines.{cut_at_space}
use Rattle.sd_base.specs.Number.{rest_after, decimal_value, decimal_after}
use Rattle.sd_tree_keys.specs.Limits.{highest}
use Rattle.sd_site_cards.specs.declared.book_line.BookLine.{BookLine}

-- what a line is: a word and a decimal of a range
pub record NumberLine : Type 0 where
  pub word : List ℕ
  pub low : ℕ
  pub high : ℕ

-- or a word and the hexadecimal digits of so many bytes
pub record BytesLine : Type 0 where
  pub word : List ℕ
  pub count : ℕ

-- or what the site's book is
pub data Form : Type 0 where
  number : NumberLine → Form
  bytes : BytesLine → Form
  book : Form

abbrev pub height_line : NumberLine
height_line = record { word = codes "height "; low = 1; high = highest }

abbrev pub master_line : BytesLine
master_line = record { word = codes "master "; count = 32 }

abbrev pub ca_line : BytesLine
ca_line = record { word = codes "ca "; count = 2 }

abbrev pub emm_line : NumberLine
emm_line = record { word = codes "emm "; low = 0x0020; high = 0x1FEF }

abbrev pub ecm_line : NumberLine
ecm_line = record { word = codes "ecm "; low = 0x0020; high = 0x1FEF }

abbrev pub every_line : NumberLine
every_line = record { word = codes "ecm-every "; low = 1; high = 4096 }

abbrev pub cryptos_line : NumberLine
cryptos_line = record { word = codes "crypto-ecms "; low = 1; high = 256 }

abbrev pub span_line : NumberLine
span_line = record { word = codes "period-cryptos "; low = 1; high = 65535 }

abbrev pub messages_line : NumberLine
messages_line = record { word = codes "messages "; low = 1; high = 3 }

abbrev pub first_word_line : NumberLine
first_word_line = record { word = codes "first-word "; low = 0; high = 4294967295 }

abbrev pub last_word_line : NumberLine
last_word_line = record { word = codes "last-word "; low = 0; high = 4294967295 }

abbrev pub first_period_line : NumberLine
first_period_line = record { word = codes "first-period "; low = 0; high = 4294967295 }

-- the word of the line that says the site's book, and the most bytes that a book has
abbrev pub book_word : List ℕ
book_word = codes "book "

abbrev pub most_book_size : ℕ
most_book_size = 33554432

-- the bytes of a digest
abbrev pub digest_bytes : ℕ
digest_bytes = 32

-- the lines in their order, of which the last five may be left out [this project, docs/FORMATS.md, Site]
unfoldable pub forms : List Form
forms =
    number height_line
    ∷ bytes master_line
    ∷ bytes ca_line
    ∷ number emm_line
    ∷ number ecm_line
    ∷ number every_line
    ∷ number cryptos_line
    ∷ number span_line
    ∷ number messages_line
    ∷ number first_word_line
    ∷ number last_word_line
    ∷ number first_period_line
    ∷ book
    ∷ []

-- the number is in the line's range
abbrev pub IsWithin : NumberLine → ℕ → Type 0
IsWithin form n = (form.low ≤ n) × (n ≤ form.high)

-- the bytes that two hexadecimal digits for each of them say, of either case
abbrev pub bytes_said : ℕ → List ℕ → Option (List ℕ)
bytes_said count digits = if length digits == 2 * count then result_ok (decode_of digits) else None

-- the bytes on a line that is the word and such digits
unfoldable pub bytes_after : List ℕ → ℕ → List ℕ → Option (List ℕ)
bytes_after word count line = option_and_then (bytes_said count) (rest_after word line)

-- a book's number of bytes and its digest, if both are said
abbrev pub both_parts : Option ℕ → Option (List ℕ) → Option BookLine
both_parts (Some size) (Some digest) = Some (record { size = size; digest = digest })
both_parts (Some size) None = None
both_parts None digest = None

-- what a line says that is the word, a decimal, a space and 64 hexadecimal digits: a book's number of bytes, in its
-- range or not, and their SHA-256 [FIPS 180-4; this project, docs/FORMATS.md, Site]
unfoldable pub book_after : List ℕ → Option BookLine
book_after line = option_and_then (λ parts. both_parts (decimal_value parts.0) (bytes_said digest_bytes parts.1))
    (option_and_then cut_at_space (rest_after book_word line))

-- the decimal on a line of this form, in its range or not
abbrev pub number_on : NumberLine → Option (List ℕ) → Option ℕ
number_on form = option_and_then (decimal_after form.word)

-- the bytes on a line of this form
abbrev pub bytes_on : BytesLine → Option (List ℕ) → Option (List ℕ)
bytes_on form = option_and_then (bytes_after form.word form.count)

-- the decimal on a line that may be left out, or what stands for it [this project, docs/FORMATS.md, Site]
abbrev pub number_or : ℕ → NumberLine → Option (List ℕ) → Option ℕ
number_or left_out form None = Some left_out
number_or left_out form (Some line) = decimal_after form.word line
