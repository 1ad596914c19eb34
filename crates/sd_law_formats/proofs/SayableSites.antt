-- What a site file says can be written.
use Rattle.std.proofs.Common.{arith, ◌≡◌, ℕ, suc, ◌+◌, ◌*◌, ◌^◌, ◌<◌, ◌≤◌, ◌==◌, Bool, true, false, cond, List, [], ◌∷◌}
use Rattle.std.proofs.Common.{length, Option, Some, None, Result, Ok, Err, refl, ap, ◌∙◌, slice_index}
use Rattle.std.proofs.lemmas.Bool.{eqb-true}
use Rattle.std.proofs.lemmas.List.Elements.{All-nil, All-cons}
use Rattle.std.proofs.lemmas.Option.{same_Some}
use Rattle.std.specs.Prelude.{All, option_and_then}
use Rattle.std.specs.Int.{w16, from_be_bytes}
use Rattle.std.specs.Result.{result_ok}
use Rattle.hex.specs.Hex.{IsBytes, decode_of}
use Rattle.hex.specs.declared.error.FromHexError.{FromHexError}
use Rattle.hex.proofs.HexLemmas.{decode_of-ok}
use Rattle.sd_base.specs.Number.{rest_after}
use Rattle.sd_site_cards.specs.SiteFields.{SiteFields}
use Rattle.sd_site_cards.specs.Forms.{BytesLine, bytes_after, bytes_on, bytes_said, ca_line, digest_bytes, master_line}
use Rattle.sd_site_cards.specs.Forms.{most_book_size}
use Rattle.sd_site_cards.specs.Text.{IsSite}
use Rattle.sd_site_cards.specs.Written.{IsSayable}
use Rattle.sd_site_cards.specs.declared.book_line.BookLine.{BookLine}

-- bytes are numbers below 256
pub numbers_are : (bytes : List ℕ) → IsBytes bytes → All (λ byte. byte < 256) bytes
numbers_are [] are = All-nil (λ byte. byte < 256)
numbers_are (byte ∷ bytes) are =
    All-cons (λ byte. byte < 256) byte bytes (are 0) (numbers_are bytes (λ i. are (suc i)))

-- bytes that digits say are as many as were asked for
said_bytes : (count : ℕ) (digits bytes : List ℕ) → bytes_said count digits ≡ Some bytes →
    (length bytes ≡ count) × IsBytes bytes
said_bytes count digits bytes e = by_size (length digits == 2 * count) refl e
  where
    by_result : length digits ≡ 2 * count → (r : Result (List ℕ) FromHexError) → decode_of digits ≡ r →
        result_ok r ≡ Some bytes → (length bytes ≡ count) × IsBytes bytes
    by_result size (Ok found) is h =
        let good = decode_of-ok digits bytes (is ∙ ap Ok (same_Some found bytes h)) in
        (omega (arith, good.2, size), good.3)
    by_result size (Err fault) is h = absurd cc

    by_size : (b : Bool) → (length digits == 2 * count) ≡ b → cond b (result_ok (decode_of digits)) None ≡ Some bytes →
        (length bytes ≡ count) × IsBytes bytes
    by_size true is h = by_result (eqb-true _ _ is) (decode_of digits) refl h
    by_size false is h = absurd cc

-- so are those on a line
line_bytes : (form : BytesLine) (line : Option (List ℕ)) (bytes : List ℕ) → bytes_on form line ≡ Some bytes →
    (length bytes ≡ form.count) × IsBytes bytes
unfolding bytes_after
line_bytes form None bytes e = absurd cc
line_bytes form (Some line) bytes e = by_digits (rest_after form.word line) e
  where
    by_digits : (found : Option (List ℕ)) → option_and_then (bytes_said form.count) found ≡ Some bytes →
        (length bytes ≡ form.count) × IsBytes bytes
    by_digits None h = absurd cc
    by_digits (Some digits) h = said_bytes form.count digits bytes h

two_bytes : (bytes : List ℕ) → from_be_bytes w16 bytes ≡ slice_index bytes 0 * 256 + slice_index bytes 1
two_bytes bytes = refl

-- the number of the system has 16 bits
pub ca_fits : (text : List ℕ) (site : SiteFields) → IsSite text site → site.ca < 2 ^ 16
ca_fits text site is =
    let ca = is.text.ca in
    let two = line_bytes ca_line _ ca.0 ca.1 in
    omega (arith, ca.2, two_bytes ca.0, two.1 0, two.1 1)

-- what a site file says can be written with any book
pub said_sayable : (text : List ℕ) (site : SiteFields) (book : BookLine) → IsSite text site →
    book.size ≤ most_book_size → (length book.digest ≡ digest_bytes) × All (λ byte. byte < 256) book.digest →
    IsSayable site book
said_sayable text site book is size digest =
    let master = line_bytes master_line _ site.master is.text.master in
    record {
      ranges = is.ranges;
      ca = ca_fits text site is;
      master = (master.0, numbers_are site.master master.1);
      size = size;
      digest = digest;
    }
