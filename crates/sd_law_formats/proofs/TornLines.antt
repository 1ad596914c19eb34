-- The number on line 12 of a torn site file is in its range.
use Rattle.std.proofs.Common.{arith, ◌≡◌, ℕ, zero, suc, ◌^◌, ◌<◌, ◌≤◌, ◌==◌, ◌||◌, Bool, true, false, cond, List, []}
use Rattle.std.proofs.Common.{◌∷◌, ◌++◌}
use Rattle.std.proofs.Common.{length, take, drop, Option, Some, None, Result, Ok, Err, refl, sym, ap, subst, ◌∙◌}
use Rattle.std.proofs.lemmas.Fmt.{digits_value-decimal}
use Rattle.std.proofs.lemmas.List.{append_assoc, append_cancel_left, take_at, take-append-drop}
use Rattle.std.proofs.lemmas.Option.{same_Some}
use Rattle.std.proofs.lemmas.Slice.Eq.{bytes_eq-Decides}
use Rattle.std.proofs.lemmas.Str.Parse.{digits_value-take-le}
use Rattle.std.specs.Prelude.{slice_get, option_and_then, bytes_eq}
use Rattle.std.specs.Fmt.{decimal}
use Rattle.std.specs.Str.Parse.{digits_value}
use Rattle.sd_base.specs.Lines.{lines_of, onto_first_line}
use Rattle.sd_base.specs.Number.{decimal_after, decimal_value, is_decimal, rest_after}
use Rattle.sd_base.proofs.Digits.{own}
use Rattle.sd_ports.specs.Bytes.{IsPrefix}
use Rattle.sd_site_cards.specs.SiteFields.{SiteFields}
use Rattle.sd_site_cards.specs.Forms.{Form, first_period_line, forms, number}
use Rattle.sd_site_cards.specs.SiteFaults.{IsOutOfRange}
use Rattle.sd_site_cards.specs.Text.{◌>>=◌, site_of, book_line_of}
use Rattle.sd_site_cards.specs.Written.{IsSayable, site_text, are_lines_whole, is_first_site, site_of_chain}
use Rattle.sd_site_cards.specs.declared.book_line.BookLine.{BookLine}
use Rattle.sd_site_cards.specs.declared.site_fault.SiteFault.{SiteFault}
use Rattle.sd_site_cards.specs.declared.site_fault.SiteFault.TheVariants.{Range, Short}
use Rattle.sd_site_cards.proofs.Alone.{is_cause}
use Rattle.sd_law_formats.proofs.WrittenSites.{book_line_on, lines_written, site_lines}

-- one of the lines begins with this
abbrev Begins : List (List ℕ) → ℕ → List ℕ → Type 0
Begins lines i line = (whole : List ℕ) × (slice_get lines i ≡ Some whole) × IsPrefix line whole

-- a byte before the first line
first_begins : (byte : ℕ) (first line : List ℕ) (others : List (List ℕ)) → byte ∷ first ≡ line → Begins others 0 first →
    Begins (onto_first_line byte others) 0 line
first_begins byte first line [] same (whole, there, begins) = absurd cc
first_begins byte first line (other ∷ others) same (whole, there, (rest, is)) =
    let more : byte ∷ first ++ rest ≡ byte ∷ other =
    ap (λ (l : List ℕ). byte ∷ l) (is ∙ sym (same_Some other whole there)) in
    (byte ∷ other, refl, (rest, ap (λ (l : List ℕ). l ++ rest) (sym same) ∙ more))

later_begins : (byte i : ℕ) (line : List ℕ) (others : List (List ℕ)) → Begins others (suc i) line →
    Begins (onto_first_line byte others) (suc i) line
later_begins byte i line [] (whole, there, begins) = absurd cc
later_begins byte i line (other ∷ others) begins = begins

alone_begins : (byte : ℕ) (line : List ℕ) (others : List (List ℕ)) → byte ∷ [] ≡ line →
    Begins (onto_first_line byte others) 0 line
alone_begins byte line [] same = (byte ∷ [], refl, ([], ap (λ (l : List ℕ). l ++ []) (sym same)))
alone_begins byte line (other ∷ others) same = (byte ∷ other, refl, (other, ap (λ (l : List ℕ). l ++ other) (sym same)))

onto_begins : (byte : ℕ) (lines others : List (List ℕ)) (i : ℕ) (line : List ℕ) →
    ((k : ℕ) (one : List ℕ) → slice_get lines k ≡ Some one → Begins others k one) →
    slice_get (onto_first_line byte lines) i ≡ Some line → Begins (onto_first_line byte others) i line
onto_begins byte [] others zero line each e = alone_begins byte line others (same_Some (byte ∷ []) line e)
onto_begins byte [] others (suc i) line each e = absurd cc
onto_begins byte (first ∷ lines) others zero line each e =
    first_begins byte first line others (same_Some (byte ∷ first) line e) (each 0 first refl)
onto_begins byte (first ∷ lines) others (suc i) line each e = later_begins byte i line others (each (suc i) line e)

-- a line feed before the lines
feed_begins : (lines others : List (List ℕ)) (i : ℕ) (line : List ℕ) →
    ((k : ℕ) (one : List ℕ) → slice_get lines k ≡ Some one → Begins others k one) →
    slice_get ([] ∷ lines) i ≡ Some line → Begins ([] ∷ others) i line
feed_begins lines others zero line each e =
    ([], refl, ([], ap (λ (l : List ℕ). l ++ []) (sym (same_Some [] line e))))
feed_begins lines others (suc i) line each e = each i line e

-- each line of a text begins one of a longer text
line_begins : (text rest : List ℕ) (i : ℕ) (line : List ℕ) → slice_get (lines_of text) i ≡ Some line →
    Begins (lines_of (text ++ rest)) i line
line_begins [] rest i line e = absurd cc
line_begins (byte ∷ bytes) rest i line e = by_feed (byte == 10) (λ k one. line_begins bytes rest k one) e
  where
    by_feed : (feed : Bool) →
        ((k : ℕ) (one : List ℕ) → slice_get (lines_of bytes) k ≡ Some one → Begins (lines_of (bytes ++ rest)) k one) →
        slice_get (cond feed ([] ∷ lines_of bytes) (onto_first_line byte (lines_of bytes))) i ≡ Some line →
        Begins (cond feed ([] ∷ lines_of (bytes ++ rest)) (onto_first_line byte (lines_of (bytes ++ rest)))) i line
    by_feed true each h = feed_begins (lines_of bytes) (lines_of (bytes ++ rest)) i line each h
    by_feed false each h = onto_begins byte (lines_of bytes) (lines_of (bytes ++ rest)) i line each h

-- a line with a number is the word and its digits
digits_after : (word line : List ℕ) (n : ℕ) → decimal_after word line ≡ Some n →
    (digits : List ℕ) × (line ≡ word ++ digits) × (decimal_value digits ≡ Some n)
unfolding rest_after
digits_after word line n e = by_word (bytes_eq (take (length word) line) word) refl e
  where
    by_word : (b : Bool) → bytes_eq (take (length word) line) word ≡ b →
        option_and_then decimal_value (cond b (Some (drop (length word) line)) None) ≡ Some n →
        (digits : List ℕ) × (line ≡ word ++ digits) × (decimal_value digits ≡ Some n)
    by_word true is h = (
      drop (length word) line,
      sym (take-append-drop (length word) line)
          ∙ ap (λ (l : List ℕ). l ++ drop (length word) line) ((bytes_eq-Decides _ _).0 is),
      h,
    )
    by_word false is h = absurd cc

-- the number that digits say
value_is : (digits : List ℕ) (n : ℕ) → decimal_value digits ≡ Some n → digits_value 10 digits ≡ n
unfolding decimal_value
value_is digits n e = by_form (is_decimal digits) e
  where
    by_form : (b : Bool) → cond b (Some (digits_value 10 digits)) None ≡ Some n → digits_value 10 digits ≡ n
    by_form true h = same_Some (digits_value 10 digits) n h
    by_form false h = absurd cc

-- the first digits of a number say no greater one
fewer_digits : (digits rest : List ℕ) (n m : ℕ) → n < 2 ^ 64 → digits ++ rest ≡ decimal n →
    decimal_value digits ≡ Some m → m ≤ n
fewer_digits digits rest n m low whole said =
    let first : take (length digits) (decimal n) ≡ digits =
    ap (take (length digits)) (sym whole) ∙ take_at digits rest (length digits) refl in
    omega (
      arith,
      digits_value-take-le 10 (decimal n) (length digits) (omega arith),
      ap (digits_value 10) first,
      value_is digits m said,
      digits_value-decimal own n low,
    )

-- line 12 of a torn site has a number in its range
in_range_12 : (site : SiteFields) (book : BookLine) (torn : List ℕ) (line : List ℕ) → IsSayable site book →
    IsPrefix torn (site_text site book) → slice_get (lines_of torn) 11 ≡ Some line →
    IsOutOfRange (number first_period_line) line → ⊥
in_range_12 site book torn line is (rest, prefix) there ((m, said), bad) =
    let word = first_period_line.word in
    let (whole, at, (left, begins)) = line_begins torn rest 11 line there in
    let lines : lines_of (torn ++ rest) ≡ site_lines site (book_line_on book ∷ []) =
    ap lines_of prefix ∙ lines_written site book is in
    let same : whole ≡ word ++ decimal site.first_period =
    same_Some whole _ (sym at ∙ ap (λ (ls : List (List ℕ)). slice_get ls 11) lines) in
    let (digits, line_is, says) = digits_after word line m said in
    let joined : word ++ (digits ++ left) ≡ word ++ decimal site.first_period =
    sym (append_assoc word digits left) ∙ (ap (λ (l : List ℕ). l ++ left) (sym line_is) ∙ (begins ∙ same)) in
    let cut = append_cancel_left word (digits ++ left) (decimal site.first_period) joined in
    let high = is.ranges.first_period.1 in
    let low = fewer_digits digits left site.first_period m (omega (arith, high)) cut says in
    bad (m, said, (omega arith, omega (arith, low, high)))

-- the fault of a file that is not taken is that of its site, or it is short
fault_of_site : (said : Result SiteFields SiteFault)
    (taken : SiteFields → Result (SiteFields × Option BookLine) SiteFault) (k : ℕ) →
    ((site : SiteFields) → taken site ≡ Err (Range k) → ⊥) → (said >>= taken) ≡ Err (Range k) →
    said ≡ Err (Range k)
fault_of_site (Err fault) taken k never e =
    let same : fault ≡ Range k = cc in ap (λ (f : SiteFault). Err f) same
fault_of_site (Ok site) taken k never e = absurd (never site e)

-- a site that is not taken is short
short_or_taken : (taken : Bool) (site : SiteFields) (line : Option BookLine) (k : ℕ) →
    cond {A = Result (SiteFields × Option BookLine) SiteFault} taken (Ok (site, line)) (Err Short) ≡ Err (Range k) → ⊥
short_or_taken true site line k e = absurd cc
short_or_taken false site line k e = absurd cc

-- so a torn site is refused, and not for its line 12
pub torn_in_range : (site : SiteFields) (book : BookLine) (torn : List ℕ) → IsSayable site book →
    IsPrefix torn (site_text site book) → site_of_chain is_first_site torn ≡ Err (Range 12) → ⊥
unfolding site_of_chain forms
torn_in_range site book torn is prefix e =
    let said = fault_of_site (site_of torn) _ 12
    (λ site. short_or_taken (are_lines_whole 13 torn || is_first_site torn site) site (book_line_of torn) 12) e in
    let (n, at, good, (form, line, form_is, line_is, bad)) =
    (is_cause torn (Err (Range 12)) said (Range 12)).0 refl in
    let place : n ≡ 11 = omega (arith, at) in
    let same : form ≡ number first_period_line =
    same_Some form (number first_period_line) (sym form_is ∙ ap (slice_get forms) place) in
    in_range_12 site book torn line is prefix (ap (slice_get (lines_of torn)) (sym place) ∙ line_is)
    (subst (λ (f : Form). IsOutOfRange f line) same bad)
