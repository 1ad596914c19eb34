-- Public meaning: the site file that the program writes, and the files that a next site is made from [this project,
-- docs/FORMATS.md, Chains of sites].
use Rattle.std.specs.Prelude.{◌≡◌, ℕ, ◌^◌, ◌<◌, ◌≤◌, ◌==◌, ◌&&◌, ◌||◌, Bool, true, false, nat_lt, List, [], ◌∷◌, ◌++◌}
use Rattle.std.specs.Prelude.{length, if◌then◌else◌, All, Option, Result, Ok, Err}
use Rattle.std.specs.List.{count_by}
use Rattle.std.specs.Fmt.{decimal}
use Rattle.std.specs.Int.{w16, to_be_bytes}
use Rattle.hex.specs.Hex.{encode_lower}
use Rattle.sd_base.specs.Lines.{lines_of}
use Rattle.sd_site_cards.specs.SiteFields.{SiteFields, AreInRange}
use Rattle.sd_site_cards.specs.Forms.{NumberLine, BytesLine, height_line, master_line, ca_line, emm_line, ecm_line}
use Rattle.sd_site_cards.specs.Forms.{every_line, cryptos_line, span_line, messages_line, first_word_line}
use Rattle.sd_site_cards.specs.Forms.{last_word_line}
use Rattle.sd_site_cards.specs.Forms.{first_period_line, book_word, most_book_size, digest_bytes}
use Rattle.sd_site_cards.specs.Text.{◌>>=◌, site_of, book_line_of}
use Rattle.sd_site_cards.specs.declared.book_line.BookLine.{BookLine}
use Rattle.sd_site_cards.specs.declared.site_fault.SiteFault.{SiteFault}
use Rattle.sd_site_cards.specs.declared.site_fault.SiteFault.TheVariants.{Short}

-- the line of a number, with its line feed
abbrev pub number_text : NumberLine → ℕ → List ℕ
number_text form n = form.word ++ (decimal n ++ 10 ∷ [])

-- the line of bytes, in lower-case hexadecimal digits
abbrev pub bytes_text : BytesLine → List ℕ → List ℕ
bytes_text form bytes = form.word ++ (encode_lower bytes ++ 10 ∷ [])

-- the line of the site's book
abbrev pub book_text : BookLine → List ℕ
book_text book = book_word ++ (decimal book.size ++ 32 ∷ (encode_lower book.digest ++ 10 ∷ []))

-- the site file that says this: all thirteen lines, each with its line feed [this project, docs/FORMATS.md, Chains of
-- sites]
unfoldable pub site_text : SiteFields → BookLine → List ℕ
site_text site book =
    number_text height_line site.height
    ++ (bytes_text master_line site.master
    ++ (bytes_text ca_line (to_be_bytes w16 site.ca)
    ++ (number_text emm_line site.emm
    ++ (number_text ecm_line site.ecm
    ++ (number_text every_line site.every
    ++ (number_text cryptos_line site.cryptos
    ++ (number_text span_line site.span
    ++ (number_text messages_line site.messages
    ++ (number_text first_word_line site.first_word
    ++ (number_text last_word_line site.last_word
    ++ (number_text first_period_line site.first_period
    ++ book_text book)))))))))))

-- what a site file can say
pub record IsSayable (site : SiteFields) (book : BookLine) : Type 0 where
  pub ranges : AreInRange site
  pub ca : site.ca < 2 ^ 16
  pub master : (length site.master ≡ 32) × All (λ byte. byte < 256) site.master
  pub size : book.size ≤ most_book_size
  pub digest : (length book.digest ≡ digest_bytes) × All (λ byte. byte < 256) book.digest

-- the bytes are so many lines, each with its line feed
abbrev pub are_lines_whole : ℕ → List ℕ → Bool
are_lines_whole n bytes = (length (lines_of bytes) == n) && (count_by (λ byte. byte == 10) bytes == n)

-- a first site: twelve lines and no control word [this project, docs/FORMATS.md, Chains of sites]
abbrev pub is_first_site : List ℕ → SiteFields → Bool
is_first_site bytes site = are_lines_whole 12 bytes && nat_lt site.last_word site.first_word

-- no file with fewer lines
abbrev pub none_fewer : List ℕ → SiteFields → Bool
none_fewer bytes site = false

-- the files with fewer lines that are taken too: first sites, or none
abbrev pub fewer_taken : Bool → List ℕ → SiteFields → Bool
fewer_taken true = is_first_site
fewer_taken false = none_fewer

-- the site of a file with thirteen lines, or of one that may have fewer, and what line 13 says; a good file else is
-- short [this project, docs/FORMATS.md, Chains of sites]
unfoldable pub site_of_chain : (List ℕ → SiteFields → Bool) → List ℕ → Result (SiteFields × Option BookLine) SiteFault
site_of_chain fewer bytes =
    site_of bytes
    >>= λ site. if are_lines_whole 13 bytes || fewer bytes site then Ok (site, book_line_of bytes) else Err Short
