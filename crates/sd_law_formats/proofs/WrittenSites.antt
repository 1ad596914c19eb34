-- A site file that is written is read, as what it was written from.
use Rattle.std.proofs.Common.{arith, ◌≡◌, ◌≢◌, ℕ, zero, suc, ◌+◌, ◌*◌, ◌/◌, ◌%◌, ◌^◌, ◌<◌, ◌≤◌, ◌==◌, Bool, true, false}
use Rattle.std.proofs.Common.{List, get_or, [], ◌∷◌, ◌++◌, length, Option, Some, cond}
use Rattle.std.proofs.Common.{Ok, refl, sym, ap, ◌∙◌, append_assoc}
use Rattle.std.proofs.lemmas.Grind.{common_steps}
use Rattle.std.proofs.lemmas.Bool.{and_from, and_parts, le-leb, eq-eqb, ne_eqb}
use Rattle.std.proofs.lemmas.List.Elements.{All-head, All-tail}
use Rattle.std.proofs.lemmas.Fmt.{digits_decimal}
use Rattle.std.specs.Int.{w16, to_be_bytes}
use Rattle.std.specs.Char.{is_ascii_digit}
use Rattle.std.specs.Str.{all_ascii_digits}
use Rattle.sd_base.proofs.Digits.{own}
use Rattle.std.proofs.lemmas.List.Folds.{list_all-append}
use Rattle.std.proofs.lemmas.Nat.{from_be_bytes-to_be_bytes_2}
use Rattle.std.proofs.lemmas.List.Sums.{sum_by-append}
use Rattle.std.specs.List.{count_by}
use Rattle.std.specs.Fmt.{decimal}
use Rattle.std.specs.Prelude.{All, not}
use Rattle.hex.specs.Hex.{encode_lower, encode_with, lower_digits, IsBytes}
use Rattle.hex.proofs.HexLemmas.{decode_of-encode_lower, length-encode_with}
use Rattle.sd_base.specs.Lines.{lines_of, is_line, cut_at_space}
use Rattle.sd_base.proofs.Cuts.{line_cut}
use Rattle.sd_base.proofs.DecimalNumbers.{after_word, decimal_after_decimal, decimal_in_line, number_of_decimal}
use Rattle.sd_site_cards.specs.Forms.{height_line, master_line, ca_line, emm_line, ecm_line, every_line, cryptos_line}
use Rattle.sd_site_cards.specs.Forms.{span_line, messages_line, first_word_line, last_word_line, first_period_line}
use Rattle.sd_site_cards.specs.Forms.{NumberLine, BytesLine, IsWithin, bytes_after, bytes_said, book_after, book_word}
use Rattle.sd_site_cards.specs.Forms.{most_book_size, digest_bytes}
use Rattle.sd_site_cards.specs.Text.{number_on_line, bytes_at, site_and_book_on, site_on, book_on, optional_on}
use Rattle.sd_site_cards.specs.Text.{book_line_at}
use Rattle.sd_site_cards.specs.SiteFields.{SiteFields}
use Rattle.sd_site_cards.specs.Written.{IsSayable, site_text, site_of_chain, number_text, bytes_text, book_text}
use Rattle.sd_site_cards.specs.declared.book_line.BookLine.{BookLine}

-- the number of line feeds in a text
abbrev pub feeds : List ℕ → ℕ
feeds = count_by (λ byte. byte == 10)

-- a line has none
no_feeds : (line : List ℕ) → is_line line ≡ true → feeds line ≡ 0
no_feeds [] h = refl
no_feeds (byte ∷ bytes) h =
    let parts : ((byte == 10) ≡ false) × (is_line bytes ≡ true) = grind (arith, common_steps) in
    rw (parts.0, no_feeds bytes parts.1) refl

-- a line with its line feed has one
one_feed : (word text rest : List ℕ) → is_line word ≡ true → is_line text ≡ true →
    feeds ((word ++ (text ++ 10 ∷ [])) ++ rest) ≡ 1 + feeds rest
one_feed word text rest a b =
    let whole = sum_by-append (λ byte. cond (byte == 10) 1 0) (word ++ (text ++ 10 ∷ [])) rest in
    let line = sum_by-append (λ byte. cond (byte == 10) 1 0) word (text ++ 10 ∷ []) in
    let ended = sum_by-append (λ byte. cond (byte == 10) 1 0) text (10 ∷ []) in
    omega (arith, whole, line, ended, no_feeds word a, no_feeds text b)

-- two texts on one line
joined_line : (word text : List ℕ) → is_line word ≡ true → is_line text ≡ true → is_line (word ++ text) ≡ true
joined_line word text a b = list_all-append (λ byte. not (byte == 10)) word text ∙ and_from _ _ a b

-- a word, a text and a line feed before others are the first line
pub line_of_text : (word text rest : List ℕ) → is_line word ≡ true → is_line text ≡ true →
    lines_of ((word ++ (text ++ 10 ∷ [])) ++ rest) ≡ (word ++ text) ∷ lines_of rest
line_of_text word text rest a b =
    ap lines_of (append_assoc word (text ++ 10 ∷ []) rest
    ∙ (ap (λ (r : List ℕ). word ++ r) (append_assoc text (10 ∷ []) rest)
    ∙ sym (append_assoc word text (10 ∷ rest))))
    ∙ line_cut (word ++ text) rest (joined_line word text a b)

-- so is that of a number
number_cut : (form : NumberLine) (n : ℕ) (rest : List ℕ) → is_line form.word ≡ true → n < 2 ^ 64 →
    lines_of (number_text form n ++ rest) ≡ (form.word ++ decimal n) ∷ lines_of rest
number_cut form n rest line low = line_of_text form.word (decimal n) rest line (decimal_in_line n low)

-- a number on its line is read
pub number_read : (k : ℕ) (form : NumberLine) (n : ℕ) (lines : List (List ℕ)) → IsWithin form n → n < 2 ^ 64 →
    number_on_line k form ((form.word ++ decimal n) ∷ lines) ≡ Ok (n, lines)
number_read k form n lines within low =
    rw (decimal_after_decimal form.word n low, le-leb _ _ within.0, le-leb _ _ within.1) refl

-- no byte of a line is a line feed
off_feed : (line : List ℕ) (i : ℕ) → is_line line ≡ true → get_or line i 0 ≢ 10
off_feed [] i h = λ e. absurd (omega arith)
off_feed (byte ∷ bytes) zero h = grind (arith, common_steps)
off_feed (byte ∷ bytes) (suc i) h = off_feed bytes i (and_parts _ _ h).1

-- lower-case hexadecimal digits are on one line
pub digits_on_line : (bytes : List ℕ) → is_line (encode_lower bytes) ≡ true
unfolding encode_with
digits_on_line [] = refl
digits_on_line (byte ∷ bytes) =
    and_from _ _ (digit (byte / 16)) (and_from _ _ (digit (byte % 16)) (digits_on_line bytes))
  where
    digit : (d : ℕ) → not (get_or lower_digits d 0 == 10) ≡ true
    digit d = ap not (ne_eqb _ _ (off_feed lower_digits d refl))

-- the line of bytes is the first of its text
bytes_cut : (form : BytesLine) (bytes rest : List ℕ) → is_line form.word ≡ true →
    lines_of (bytes_text form bytes ++ rest) ≡ (form.word ++ encode_lower bytes) ∷ lines_of rest
bytes_cut form bytes rest line = line_of_text form.word (encode_lower bytes) rest line (digits_on_line bytes)

-- numbers below 256 are bytes
pub bytes_are : (bytes : List ℕ) → All (λ byte. byte < 256) bytes → IsBytes bytes
bytes_are [] all i = omega arith
bytes_are (byte ∷ bytes) all zero = All-head (λ byte. byte < 256) byte bytes all
bytes_are (byte ∷ bytes) all (suc i) = bytes_are bytes (All-tail (λ byte. byte < 256) byte bytes all) i

-- bytes in lower-case digits are read
pub digits_read : (bytes : List ℕ) (count : ℕ) → length bytes ≡ count → IsBytes bytes →
    bytes_said count (encode_lower bytes) ≡ Some bytes
digits_read bytes count size are =
    let twice : (length (encode_lower bytes) == 2 * count) ≡ true =
    eq-eqb _ _ (omega (arith, length-encode_with lower_digits bytes, size)) in
    rw (twice, decode_of-encode_lower bytes are) refl

-- bytes on their line are read
pub bytes_read : (k : ℕ) (form : BytesLine) (bytes : List ℕ) (lines : List (List ℕ)) → length bytes ≡ form.count →
    IsBytes bytes → bytes_at k form ((form.word ++ encode_lower bytes) ∷ lines) ≡ Ok (bytes, lines)
unfolding bytes_after
bytes_read k form bytes lines size are =
    rw (after_word form.word (encode_lower bytes), digits_read bytes form.count size are) refl

-- the two bytes of a number are bytes
two_bytes : (n : ℕ) → n < 2 ^ 16 → IsBytes (to_be_bytes w16 n)
two_bytes n low zero = omega arith
two_bytes n low (suc zero) = omega arith
two_bytes n low (suc (suc i)) = omega arith

-- a number and a text after it are cut at the space between them
cut_after : (text rest : List ℕ) → all_ascii_digits text ≡ true → cut_at_space (text ++ 32 ∷ rest) ≡ Some (text, rest)
cut_after [] rest h = refl
cut_after (byte ∷ bytes) rest h =
    let parts : (is_ascii_digit byte ≡ true) × (all_ascii_digits bytes ≡ true) = grind (arith, common_steps) in
    let other : (byte == 32) ≡ false = grind (arith, common_steps) in
    rw (other, cut_after bytes rest parts.1) refl

-- what line 13 says
abbrev pub book_line_on : BookLine → List ℕ
book_line_on book = book_word ++ (decimal book.size ++ 32 ∷ encode_lower book.digest)

-- line 13 is the last line
pub book_line_cut : (book : BookLine) → book.size ≤ most_book_size → lines_of (book_text book) ≡ book_line_on book ∷ []
book_line_cut book size =
    let said : is_line (decimal book.size ++ 32 ∷ encode_lower book.digest) ≡ true =
    joined_line (decimal book.size) (32 ∷ encode_lower book.digest) (decimal_in_line book.size (omega arith))
    (digits_on_line book.digest) in
    let shape : book_text book ≡ book_line_on book ++ 10 ∷ [] =
    sym (append_assoc book_word (decimal book.size ++ 32 ∷ encode_lower book.digest) (10 ∷ [])
    ∙ ap (λ (r : List ℕ). book_word ++ r) (append_assoc (decimal book.size) (32 ∷ encode_lower book.digest) (10 ∷ [])))
    in
    ap lines_of shape ∙ line_cut (book_line_on book) []
    (joined_line book_word (decimal book.size ++ 32 ∷ encode_lower book.digest) refl said)

-- it has one line feed
book_feed : (book : BookLine) → book.size ≤ most_book_size → feeds (book_text book) ≡ 1
book_feed book size =
    let said = sum_by-append (λ byte. cond (byte == 10) 1 0) (decimal book.size)
    (32 ∷ (encode_lower book.digest ++ 10 ∷ [])) in
    let digits = sum_by-append (λ byte. cond (byte == 10) 1 0) (encode_lower book.digest) (10 ∷ []) in
    omega (
      arith,
      said,
      digits,
      no_feeds (decimal book.size) (decimal_in_line book.size (omega arith)),
      no_feeds (encode_lower book.digest) (digits_on_line book.digest),
    )

-- and says the book
pub book_read : (book : BookLine) → book.size ≤ most_book_size → length book.digest ≡ digest_bytes →
    IsBytes book.digest → book_after (book_line_on book) ≡ Some book
unfolding book_after
book_read book size long are =
    rw (
      after_word book_word (decimal book.size ++ 32 ∷ encode_lower book.digest),
      cut_after (decimal book.size) (encode_lower book.digest) (digits_decimal own book.size (omega arith)),
      number_of_decimal book.size (omega arith),
      digits_read book.digest digest_bytes long are,
    ) refl

-- the first twelve lines of a site's file, and others
abbrev pub site_lines : SiteFields → List (List ℕ) → List (List ℕ)
site_lines site others =
    (height_line.word ++ decimal site.height)
    ∷ (master_line.word ++ encode_lower site.master)
    ∷ (ca_line.word ++ encode_lower (to_be_bytes w16 site.ca))
    ∷ (emm_line.word ++ decimal site.emm)
    ∷ (ecm_line.word ++ decimal site.ecm)
    ∷ (every_line.word ++ decimal site.every)
    ∷ (cryptos_line.word ++ decimal site.cryptos)
    ∷ (span_line.word ++ decimal site.span)
    ∷ (messages_line.word ++ decimal site.messages)
    ∷ (first_word_line.word ++ decimal site.first_word)
    ∷ (last_word_line.word ++ decimal site.last_word)
    ∷ (first_period_line.word ++ decimal site.first_period)
    ∷ others

-- the twelve lines say the site, and those after them its book
pub lines_said : (site : SiteFields) (book : BookLine) (others : List (List ℕ)) (said : Option BookLine) →
    IsSayable site book → book_line_at others ≡ Ok (said, []) → site_and_book_on (site_lines site others)
    ≡ Ok (site, said)
unfolding site_and_book_on optional_on
lines_said site book others said is rest =
    let r = is.ranges in
    let master = bytes_are site.master is.master.1 in
    let other : (site.emm == site.ecm) ≡ false = ne_eqb _ _ r.apart in
    rw (
      number_read 1 height_line site.height _ r.height (omega (arith, r.height.1)),
      bytes_read 2 master_line site.master _ is.master.0 master,
      bytes_read 3 ca_line (to_be_bytes w16 site.ca) _ refl (two_bytes site.ca is.ca),
      number_read 4 emm_line site.emm _ r.emm (omega (arith, r.emm.1)),
      number_read 5 ecm_line site.ecm _ r.ecm (omega (arith, r.ecm.1)),
      number_read 6 every_line site.every _ r.every (omega (arith, r.every.1)),
      number_read 7 cryptos_line site.cryptos _ r.cryptos (omega (arith, r.cryptos.1)),
      number_read 8 span_line site.span _ r.span (omega (arith, r.span.1)),
      number_read 9 messages_line site.messages _ r.messages (omega (arith, r.messages.1)),
      number_read 10 first_word_line site.first_word _ r.first_word (omega (arith, r.first_word.1)),
      number_read 11 last_word_line site.last_word _ r.last_word (omega (arith, r.last_word.1)),
      number_read 12 first_period_line site.first_period others r.first_period (omega (arith, r.first_period.1)),
      rest,
      other,
      from_be_bytes-to_be_bytes_2 site.ca is.ca,
    ) refl

-- line 13 says the book
pub book_said : (site : SiteFields) (book : BookLine) → IsSayable site book →
    book_line_at (book_line_on book ∷ []) ≡ Ok (Some book, [])
book_said site book is =
    rw (book_read book is.size is.digest.0 (bytes_are book.digest is.digest.1), le-leb _ _ is.size) refl

-- the lines of a site's file
pub lines_written : (site : SiteFields) (book : BookLine) → IsSayable site book →
    lines_of (site_text site book) ≡ site_lines site (book_line_on book ∷ [])
unfolding site_text
lines_written site book is =
    let r = is.ranges in
    rw (
      number_cut height_line site.height _ refl (omega (arith, r.height.1)),
      bytes_cut master_line site.master _ refl,
      bytes_cut ca_line (to_be_bytes w16 site.ca) _ refl,
      number_cut emm_line site.emm _ refl (omega (arith, r.emm.1)),
      number_cut ecm_line site.ecm _ refl (omega (arith, r.ecm.1)),
      number_cut every_line site.every _ refl (omega (arith, r.every.1)),
      number_cut cryptos_line site.cryptos _ refl (omega (arith, r.cryptos.1)),
      number_cut span_line site.span _ refl (omega (arith, r.span.1)),
      number_cut messages_line site.messages _ refl (omega (arith, r.messages.1)),
      number_cut first_word_line site.first_word _ refl (omega (arith, r.first_word.1)),
      number_cut last_word_line site.last_word _ refl (omega (arith, r.last_word.1)),
      number_cut first_period_line site.first_period _ refl (omega (arith, r.first_period.1)),
      book_line_cut book is.size,
    ) refl

-- so is a number's, and that of bytes
number_feed : (form : NumberLine) (n : ℕ) (rest : List ℕ) → is_line form.word ≡ true → n < 2 ^ 64 →
    feeds (number_text form n ++ rest) ≡ 1 + feeds rest
number_feed form n rest line low = one_feed form.word (decimal n) rest line (decimal_in_line n low)

bytes_feed : (form : BytesLine) (bytes rest : List ℕ) → is_line form.word ≡ true →
    feeds (bytes_text form bytes ++ rest) ≡ 1 + feeds rest
bytes_feed form bytes rest line = one_feed form.word (encode_lower bytes) rest line (digits_on_line bytes)

-- a site's file has thirteen
pub feeds_written : (site : SiteFields) (book : BookLine) → IsSayable site book → feeds (site_text site book) ≡ 13
unfolding site_text
feeds_written site book is =
    let r = is.ranges in
    rw (
      number_feed height_line site.height _ refl (omega (arith, r.height.1)),
      bytes_feed master_line site.master _ refl,
      bytes_feed ca_line (to_be_bytes w16 site.ca) _ refl,
      number_feed emm_line site.emm _ refl (omega (arith, r.emm.1)),
      number_feed ecm_line site.ecm _ refl (omega (arith, r.ecm.1)),
      number_feed every_line site.every _ refl (omega (arith, r.every.1)),
      number_feed cryptos_line site.cryptos _ refl (omega (arith, r.cryptos.1)),
      number_feed span_line site.span _ refl (omega (arith, r.span.1)),
      number_feed messages_line site.messages _ refl (omega (arith, r.messages.1)),
      number_feed first_word_line site.first_word _ refl (omega (arith, r.first_word.1)),
      number_feed last_word_line site.last_word _ refl (omega (arith, r.last_word.1)),
      number_feed first_period_line site.first_period _ refl (omega (arith, r.first_period.1)),
      book_feed book is.size,
    ) refl

-- a site's file is read as what it was written from
pub site_read : (fewer : List ℕ → SiteFields → Bool) (site : SiteFields) (book : BookLine) → IsSayable site book →
    site_of_chain fewer (site_text site book) ≡ Ok (site, Some book)
unfolding site_of_chain site_on book_on
site_read fewer site book is =
    let digest = bytes_are book.digest is.digest.1 in
    rw (
      lines_written site book is,
      lines_said site book (book_line_on book ∷ []) (Some book) is (book_said site book is),
      feeds_written site book is,
      book_read book is.size is.digest.0 digest,
    ) refl
