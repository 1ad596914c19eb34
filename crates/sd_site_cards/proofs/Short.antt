-- How long a site file is.
use Rattle.std.proofs.Common.{arith, ◌≡◌, ℕ, ◌+◌, ◌*◌, ◌^◌, ◌<◌, ◌≤◌, Bool, true, false, cond, List, [], ◌∷◌, length}
use Rattle.std.proofs.Common.{Option, Some, None, refl, ap}
use Rattle.std.specs.Prelude.{option_and_then, option_map, ◌==◌, slice_get, IsSome, IfSome}
use Rattle.std.specs.Result.{result_ok}
use Rattle.std.proofs.lemmas.Bool.{eqb-true}
use Rattle.std.proofs.lemmas.Fmt.{length-decimal-le}
use Rattle.std.proofs.lemmas.Option.{same_Some}
use Rattle.hex.specs.Hex.{decode_of}
use Rattle.sd_base.specs.Lines.{lines_of, cut_at_space, onto_first_part}
use Rattle.sd_base.specs.Number.{rest_after, decimal_value, decimal_after}
use Rattle.sd_base.proofs.DecimalNumbers.{decimal_of_number}
use Rattle.sd_base.proofs.Lengths.{long_lines, text_length, said_length, after_length}
use Rattle.sd_site_cards.specs.SiteFields.{SiteFields, AreInRange}
use Rattle.sd_site_cards.specs.declared.book_line.BookLine.{BookLine}
use Rattle.sd_site_cards.specs.Forms.{NumberLine, bytes_said, bytes_after, both_parts, book_word, book_after}
use Rattle.sd_site_cards.specs.Forms.{most_book_size}
use Rattle.sd_site_cards.specs.Forms.{digest_bytes, number_or, height_line, master_line, ca_line}
use Rattle.sd_site_cards.specs.Forms.{emm_line}
use Rattle.sd_site_cards.specs.Forms.{ecm_line, every_line, cryptos_line, span_line, messages_line}
use Rattle.sd_site_cards.specs.Forms.{first_word_line, last_word_line, first_period_line}
use Rattle.sd_site_cards.specs.Text.{SpellsSite, IsSite, book_on}

-- digits that say bytes are twice as many
said_twice : (count : ℕ) (digits bytes : List ℕ) → bytes_said count digits ≡ Some bytes → length digits ≡ 2 * count
said_twice count digits bytes e = sized (length digits == 2 * count) refl e
  where
    sized : (b : Bool) → (length digits == 2 * count) ≡ b →
        cond b (result_ok (decode_of digits)) None ≡ Some bytes → length digits ≡ 2 * count
    sized true is f = eqb-true (length digits) (2 * count) is
    sized false is f = absurd (cc)

-- a line of bytes
bytes_length : (word : List ℕ) (count : ℕ) (line bytes : List ℕ) → bytes_after word count line ≡ Some bytes →
    length line ≤ length word + 2 * count
unfolding bytes_after
bytes_length word count line bytes e = by_after (rest_after word line) refl e
  where
    by_after : (found : Option (List ℕ)) → rest_after word line ≡ found →
        option_and_then (bytes_said count) found ≡ Some bytes → length line ≤ length word + 2 * count
    by_after None is f = absurd (cc)
    by_after (Some digits) is f =
        omega (arith, after_length word line digits is, said_twice count digits bytes f)

-- a text that is cut at a space is as long as its parts and the space
cut_length : (text : List ℕ) (parts : List ℕ × List ℕ) → cut_at_space text ≡ Some parts →
    length text ≡ length parts.0 + 1 + length parts.1
cut_length [] parts e = absurd (cc)
cut_length (byte ∷ bytes) parts e = by_space (byte == 32) (cut_at_space bytes) refl (cut_length bytes) e
  where
    by_space : (b : Bool) (found : Option (List ℕ × List ℕ)) → cut_at_space bytes ≡ found →
        ((cut : List ℕ × List ℕ) → cut_at_space bytes ≡ Some cut → length bytes ≡ length cut.0 + 1 + length cut.1) →
        cond b (Some ([], bytes)) (option_map (onto_first_part byte) found) ≡ Some parts →
        length (byte ∷ bytes) ≡ length parts.0 + 1 + length parts.1
    by_space true found is shorter f =
        let same = ap (λ (p : List ℕ × List ℕ). length p.0 + 1 + length p.1) (same_Some ([], bytes) parts f) in
        omega (arith, same)
    by_space false None is shorter f = absurd (cc)
    by_space false (Some cut) is shorter f =
        let same = ap (λ (p : List ℕ × List ℕ). length p.0 + 1 + length p.1)
        (same_Some (onto_first_part byte cut) parts f) in
        omega (arith, same, shorter cut is)

-- the line of a book has at most 78 bytes
book_length : (line : List ℕ) (said : BookLine) → book_after line ≡ Some said → said.size ≤ most_book_size →
    length line ≤ 78
unfolding book_after
book_length line said e range = by_after (rest_after book_word line) refl e
  where
    parts_said : List ℕ × List ℕ → Option BookLine
    parts_said parts = both_parts (decimal_value parts.0) (bytes_said digest_bytes parts.1)

    by_parts : (front digits : List ℕ) (size : Option ℕ) (digest : Option (List ℕ)) → decimal_value front ≡ size →
        bytes_said digest_bytes digits ≡ digest → both_parts size digest ≡ Some said →
        length front + 1 + length digits ≤ 73
    by_parts front digits None digest is_size is_digest f = absurd (cc)
    by_parts front digits (Some n) None is_size is_digest f = absurd (cc)
    by_parts front digits (Some n) (Some bytes) is_size is_digest f =
        let same = ap (λ (b : BookLine). b.size) (same_Some _ said f) in
        let low : n < 2 ^ 64 = omega (arith, same, range) in
        let front_is = ap (λ (l : List ℕ). length l) (decimal_of_number front n low is_size) in
        let few = length-decimal-le 8 n (omega arith) (omega (arith, same, range)) low in
        omega (arith, front_is, few, said_twice digest_bytes digits bytes is_digest)

    by_cut : (text : List ℕ) (found : Option (List ℕ × List ℕ)) → cut_at_space text ≡ found →
        option_and_then parts_said found ≡ Some said → length text ≤ 73
    by_cut text None is f = absurd (cc)
    by_cut text (Some parts) is f =
        omega (
          arith,
          cut_length text parts is,
          by_parts parts.0 parts.1 (decimal_value parts.0)
              (bytes_said digest_bytes parts.1) refl refl f,
        )

    by_after : (found : Option (List ℕ)) → rest_after book_word line ≡ found →
        option_and_then parts_said (option_and_then cut_at_space found) ≡ Some said → length line ≤ 78
    by_after None is f = absurd (cc)
    by_after (Some text) is f =
        omega (arith, after_length book_word line text is, by_cut text (cut_at_space text) refl f)

-- a line of a number that is at most so large
number_length : (form : NumberLine) (line : List ℕ) (n k : ℕ) → 0 < k → n ≤ form.high → form.high < 10 ^ k →
    n < 2 ^ 64 → decimal_after form.word line ≡ Some n → length line ≤ length form.word + k
number_length form line n k some most few low e = said_length form.word line n k some (omega (arith, most, few)) low e

-- the first eight lines of a site have at most 152 bytes without their line feeds
eight : (a b c e f g h i : List ℕ) (rest : List (List ℕ)) (site : SiteFields) →
    SpellsSite (a ∷ b ∷ c ∷ e ∷ f ∷ g ∷ h ∷ i ∷ rest) site → AreInRange site →
    length a + length b + length c + length e + length f + length g + length h + length i ≤ 152
eight a b c e f g h i rest site is r =
    let one = number_length height_line a site.height 2 (omega arith) r.height.1 (omega arith)
    (omega (arith, r.height.1)) is.height in
    let two = bytes_length master_line.word master_line.count b site.master is.master in
    let three = bytes_length ca_line.word ca_line.count c is.ca.0 is.ca.1 in
    let four = number_length emm_line e site.emm 4 (omega arith) r.emm.1 (omega arith) (omega (arith, r.emm.1)) is.emm
    in
    let five = number_length ecm_line f site.ecm 4 (omega arith) r.ecm.1 (omega arith) (omega (arith, r.ecm.1)) is.ecm
    in
    let six = number_length every_line g site.every 4 (omega arith) r.every.1 (omega arith) (omega (arith, r.every.1))
    is.every in
    let seven = number_length cryptos_line h site.cryptos 3 (omega arith) r.cryptos.1 (omega arith)
    (omega (arith, r.cryptos.1)) is.cryptos in
    let last = number_length span_line i site.span 5 (omega arith) r.span.1 (omega arith) (omega (arith, r.span.1))
    is.span in
    omega (arith, one, two, three, four, five, six, seven, last)

-- the length of a line with its line feed, if it is there
abbrev line_length : Option (List ℕ) → ℕ
line_length None = 0
line_length (Some line) = length line + 1

-- five lines at most are as long as each of them
gathered : (lines : List (List ℕ)) → length lines ≤ 5 →
    long_lines lines
    ≤ line_length (slice_get lines 0) + line_length (slice_get lines 1) + line_length (slice_get lines 2)
    + line_length (slice_get lines 3) + line_length (slice_get lines 4)
gathered [] few = omega arith
gathered (a ∷ []) few = omega arith
gathered (a ∷ b ∷ []) few = omega arith
gathered (a ∷ b ∷ c ∷ []) few = omega arith
gathered (a ∷ b ∷ c ∷ e ∷ []) few = omega arith
gathered (a ∷ b ∷ c ∷ e ∷ f ∷ []) few = omega arith
gathered (a ∷ b ∷ c ∷ e ∷ f ∷ g ∷ more) few = absurd (omega (arith, few))

-- a line that may be left out, of a number that is at most so large
left_out_length : (form : NumberLine) (found : Option (List ℕ)) (n k instead : ℕ) → 0 < k → n ≤ form.high →
    form.high < 10 ^ k → n < 2 ^ 64 → number_or instead form found ≡ Some n →
    line_length found ≤ length form.word + k + 1
left_out_length form None n k instead some most few low e = omega arith
left_out_length form (Some line) n k instead some most few low e =
    omega (arith, number_length form line n k some most few low e)

-- a line that may be left out, of a book in its range
book_left_out : (found : Option (List ℕ)) → IfSome found (λ line. IsSome (book_after line)) →
    IfSome (option_and_then book_after found) (λ said. said.size ≤ most_book_size) → line_length found ≤ 79
book_left_out None says range = omega arith
book_left_out (Some line) says range = by_book (book_after line) refl says range
  where
    by_book : (said : Option BookLine) → book_after line ≡ said → IsSome said →
        IfSome said (λ said. said.size ≤ most_book_size) → length line + 1 ≤ 79
    by_book None is some small = absurd (cc)
    by_book (Some said) is some small = omega (arith, book_length line said is small)

-- the lines after the eighth have at most 157 bytes with their line feeds
five : (rest : List (List ℕ)) (site : SiteFields) → AreInRange site → length rest ≤ 5 →
    number_or 1 messages_line (slice_get rest 0) ≡ Some site.messages →
    number_or 0 first_word_line (slice_get rest 1) ≡ Some site.first_word →
    number_or last_word_line.high last_word_line (slice_get rest 2) ≡ Some site.last_word →
    number_or 0 first_period_line (slice_get rest 3) ≡ Some site.first_period →
    line_length (slice_get rest 4) ≤ 79 → long_lines rest ≤ 157
five rest site r few m f l p b =
    let one = left_out_length messages_line (slice_get rest 0) site.messages 1 1 (omega arith) r.messages.1
    (omega arith)
    (omega (arith, r.messages.1)) m in
    let two = left_out_length first_word_line (slice_get rest 1) site.first_word 10 0 (omega arith) r.first_word.1
    (omega arith) (omega (arith, r.first_word.1)) f in
    let three = left_out_length last_word_line (slice_get rest 2) site.last_word 10 last_word_line.high (omega arith)
    r.last_word.1 (omega arith) (omega (arith, r.last_word.1)) l in
    let four = left_out_length first_period_line (slice_get rest 3) site.first_period 10 0 (omega arith)
    r.first_period.1 (omega arith) (omega (arith, r.first_period.1)) p in
    omega (arith, gathered rest few, one, two, three, four, b)

-- the lines of a site have at most 317 bytes with their line feeds
lines_short : (lines : List (List ℕ)) (site : SiteFields) → SpellsSite lines site → AreInRange site →
    IfSome (book_on lines) (λ said. said.size ≤ most_book_size) → long_lines lines ≤ 317
unfolding book_on
lines_short [] site is r size = absurd (omega (arith, is.least))
lines_short (a ∷ []) site is r size = absurd (omega (arith, is.least))
lines_short (a ∷ b ∷ []) site is r size = absurd (omega (arith, is.least))
lines_short (a ∷ b ∷ c ∷ []) site is r size = absurd (omega (arith, is.least))
lines_short (a ∷ b ∷ c ∷ e ∷ []) site is r size = absurd (omega (arith, is.least))
lines_short (a ∷ b ∷ c ∷ e ∷ f ∷ []) site is r size = absurd (omega (arith, is.least))
lines_short (a ∷ b ∷ c ∷ e ∷ f ∷ g ∷ []) site is r size = absurd (omega (arith, is.least))
lines_short (a ∷ b ∷ c ∷ e ∷ f ∷ g ∷ h ∷ []) site is r size = absurd (omega (arith, is.least))
lines_short (a ∷ b ∷ c ∷ e ∷ f ∷ g ∷ h ∷ i ∷ rest) site is r size =
    let book = book_left_out (slice_get rest 4) is.book size in
    let more = five rest site r (omega (arith, is.most)) is.messages is.first_word is.last_word is.first_period book in
    omega (arith, eight a b c e f g h i rest site is r, more)

-- a site file has at most 317 bytes
pub site_short : (bytes : List ℕ) (site : SiteFields) → IsSite bytes site → length bytes ≤ 317
site_short bytes site is = omega (arith, text_length bytes, lines_short (lines_of bytes) site is.text is.ranges is.size)
