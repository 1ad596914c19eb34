-- How long a site file is that is written.
use Rattle.std.proofs.Common.{arith, ◌≡◌, ℕ, ◌+◌, ◌*◌, ◌^◌, ◌<◌, ◌≤◌, List, [], ◌∷◌, ◌++◌, length}
use Rattle.std.proofs.lemmas.List.{length-append}
use Rattle.std.proofs.lemmas.Fmt.{length-decimal-le}
use Rattle.std.specs.Fmt.{decimal}
use Rattle.std.specs.Int.{w16, to_be_bytes}
use Rattle.hex.specs.Hex.{encode_lower, lower_digits}
use Rattle.hex.proofs.HexLemmas.{length-encode_with}
use Rattle.sd_site_cards.specs.SiteFields.{SiteFields}
use Rattle.sd_site_cards.specs.Forms.{NumberLine, BytesLine, height_line, master_line, ca_line, emm_line, ecm_line}
use Rattle.sd_site_cards.specs.Forms.{every_line, cryptos_line, span_line, messages_line, first_word_line}
use Rattle.sd_site_cards.specs.Forms.{last_word_line}
use Rattle.sd_site_cards.specs.Forms.{first_period_line}
use Rattle.sd_site_cards.specs.Written.{IsSayable, site_text, number_text, bytes_text, book_text}
use Rattle.sd_site_cards.specs.declared.book_line.BookLine.{BookLine}

-- a word, a text and a line feed before others
long_text : (word text rest : List ℕ) →
    length ((word ++ (text ++ 10 ∷ [])) ++ rest) ≡ length word + length text + 1 + length rest
long_text word text rest =
    omega (
      arith,
      length-append (word ++ (text ++ 10 ∷ [])) rest,
      length-append word (text ++ 10 ∷ []),
      length-append text (10 ∷ []),
    )

-- the line of a number of at most so many digits before others
long_number : (form : NumberLine) (n k : ℕ) (rest : List ℕ) → 0 < k → n < 10 ^ k → n < 2 ^ 64 →
    length (number_text form n ++ rest) ≤ length form.word + k + 1 + length rest
long_number form n k rest some few low =
    omega (arith, long_text form.word (decimal n) rest, length-decimal-le k n some few low)

-- the line of bytes before others
long_bytes : (form : BytesLine) (bytes rest : List ℕ) →
    length (bytes_text form bytes ++ rest) ≡ length form.word + 2 * length bytes + 1 + length rest
long_bytes form bytes rest =
    omega (arith, long_text form.word (encode_lower bytes) rest, length-encode_with lower_digits bytes)

-- line 13
long_book : (book : BookLine) → book.size ≤ 33554432 → length book.digest ≡ 32 → length (book_text book) ≤ 79
long_book book size digest =
    omega (
      arith,
      length-append (decimal book.size) (32 ∷ (encode_lower book.digest ++ 10 ∷ [])),
      length-append (encode_lower book.digest) (10 ∷ []),
      length-encode_with lower_digits book.digest,
      length-decimal-le 8 book.size (omega arith) (omega arith) (omega arith),
    )

-- a site's file has at most 317 bytes
pub short_written : (site : SiteFields) (book : BookLine) → IsSayable site book → length (site_text site book) ≤ 317
unfolding site_text
short_written site book is =
    let r = is.ranges in
    let l12 = book_text book in
    let l11 = number_text first_period_line site.first_period ++ l12 in
    let l10 = number_text last_word_line site.last_word ++ l11 in
    let l9 = number_text first_word_line site.first_word ++ l10 in
    let l8 = number_text messages_line site.messages ++ l9 in
    let l7 = number_text span_line site.span ++ l8 in
    let l6 = number_text cryptos_line site.cryptos ++ l7 in
    let l5 = number_text every_line site.every ++ l6 in
    let l4 = number_text ecm_line site.ecm ++ l5 in
    let l3 = number_text emm_line site.emm ++ l4 in
    let l2 = bytes_text ca_line (to_be_bytes w16 site.ca) ++ l3 in
    let l1 = bytes_text master_line site.master ++ l2 in
    let h13 = long_book book is.size is.digest.0 in
    let h12 = long_number first_period_line site.first_period 10 l12 (omega arith) (omega (arith, r.first_period.1))
    (omega (arith, r.first_period.1)) in
    let h11 = long_number last_word_line site.last_word 10 l11 (omega arith) (omega (arith, r.last_word.1))
    (omega (arith, r.last_word.1)) in
    let h10 = long_number first_word_line site.first_word 10 l10 (omega arith) (omega (arith, r.first_word.1))
    (omega (arith, r.first_word.1)) in
    let h9 = long_number messages_line site.messages 1 l9 (omega arith) (omega (arith, r.messages.1))
    (omega (arith, r.messages.1)) in
    let h8 = long_number span_line site.span 5 l8 (omega arith) (omega (arith, r.span.1)) (omega (arith, r.span.1)) in
    let h7 = long_number cryptos_line site.cryptos 3 l7 (omega arith) (omega (arith, r.cryptos.1))
    (omega (arith, r.cryptos.1)) in
    let h6 = long_number every_line site.every 4 l6 (omega arith) (omega (arith, r.every.1))
    (omega (arith, r.every.1)) in
    let h5 = long_number ecm_line site.ecm 4 l5 (omega arith) (omega (arith, r.ecm.1)) (omega (arith, r.ecm.1)) in
    let h4 = long_number emm_line site.emm 4 l4 (omega arith) (omega (arith, r.emm.1)) (omega (arith, r.emm.1)) in
    let h3 = long_bytes ca_line (to_be_bytes w16 site.ca) l3 in
    let h2 = long_bytes master_line site.master l2 in
    let h1 = long_number height_line site.height 2 l1 (omega arith) (omega (arith, r.height.1))
    (omega (arith, r.height.1)) in
    omega (arith, h1, h2, h3, h4, h5, h6, h7, h8, h9, h10, h11, h12, h13, is.master.0)
