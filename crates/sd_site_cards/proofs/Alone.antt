-- Lines tell one thing alone.
use Rattle.std.proofs.Common.{arith, ◌≡◌, ℕ, zero, suc, ◌+◌, ◌<◌, ◌≤◌, Bool, true, false, cond, eqb, List, [], length}
use Rattle.std.proofs.Common.{Option, Some, None, Result, Ok, Err, refl, ◌∙◌, sym, ap, subst, inl, inr, eq-eqb}
use Rattle.std.proofs.lemmas.Bool.{cases_lt, ne_eqb, lt-ltb, le-ltb, eqb-true, and_parts}
use Rattle.std.proofs.lemmas.Option.{none-some, same_Some, slice_get_past, slice_get-get_or, option_and_then_some}
use Rattle.std.specs.Prelude.{nat_lt, slice_get, get_or, is_some, unwrap_or, IsSome, IfSome, IsErrOf, IfOk}
use Rattle.std.specs.Prelude.{MatchResult, ◌↔◌, ◌||◌}
use Rattle.std.specs.Int.{w16, from_be_bytes}
use Rattle.sd_base.specs.Lines.{lines_of}
use Rattle.sd_base.specs.Number.{decimal_after}
use Rattle.sd_site_cards.specs.declared.site_fault.SiteFault.{SiteFault}
use Rattle.sd_site_cards.specs.declared.site_fault.SiteFault.TheVariants.{Line, Range, SamePid, Extra, Short}
use Rattle.sd_site_cards.specs.declared.book_line.BookLine.{BookLine}
use Rattle.sd_site_cards.specs.declared.site.Site.{Site}
use Rattle.sd_site_cards.specs.SiteFields.{SiteFields, AreInRange, site_fields_of}
use Rattle.sd_site_cards.specs.Forms.{NumberLine, BytesLine, Form, number, bytes, book, forms, IsWithin, bytes_after}
use Rattle.sd_site_cards.specs.Forms.{book_after, most_book_size, number_on, bytes_on, number_or, height_line}
use Rattle.sd_site_cards.specs.Forms.{master_line}
use Rattle.sd_site_cards.specs.Forms.{ca_line, emm_line, ecm_line, every_line, cryptos_line, span_line, messages_line}
use Rattle.sd_site_cards.specs.Forms.{first_word_line, last_word_line, first_period_line}
use Rattle.sd_site_cards.specs.Text.{SpellsSite, IsSite, site_and_book_on, site_on, site_of, book_on, book_line_of}
use Rattle.sd_site_cards.specs.SiteFaults.{IsInForm, IsGood, IsMalformed, IsOutOfRange, NextIs, AreGoodSiteLines}
use Rattle.sd_site_cards.specs.SiteFaults.{IsSiteFaultOf}
use Rattle.sd_site_cards.specs.Written.{are_lines_whole, fewer_taken}
use Rattle.sd_site_cards.proofs.Walk.{Answer, SaysBook, Tells, lines_told}

-- ---- what lines tell that are good up to line n and no further

-- whether the line is in its form
abbrev in_form : Form → List ℕ → Bool
in_form (number form) line = is_some (decimal_after form.word line)
in_form (bytes form) line = is_some (bytes_after form.word form.count line)
in_form book line = is_some (book_after line)

-- the decimal on a line
abbrev number_or_0 : NumberLine → Option (List ℕ) → ℕ
number_or_0 form line = unwrap_or (number_on form line) 0

-- the bytes on a line
abbrev bytes_or_none : BytesLine → Option (List ℕ) → List ℕ
bytes_or_none form line = unwrap_or (bytes_on form line) []

-- what good lines say
abbrev fields_on : List (List ℕ) → SiteFields
fields_on lines = record {
  height = number_or_0 height_line (slice_get lines 0);
  master = bytes_or_none master_line (slice_get lines 1);
  ca = from_be_bytes w16 (bytes_or_none ca_line (slice_get lines 2));
  emm = number_or_0 emm_line (slice_get lines 3);
  ecm = number_or_0 ecm_line (slice_get lines 4);
  every = number_or_0 every_line (slice_get lines 5);
  cryptos = number_or_0 cryptos_line (slice_get lines 6);
  span = number_or_0 span_line (slice_get lines 7);
  messages = unwrap_or (number_or 1 messages_line (slice_get lines 8)) 0;
  first_word = unwrap_or (number_or 0 first_word_line (slice_get lines 9)) 0;
  last_word = unwrap_or (number_or last_word_line.high last_word_line (slice_get lines 10)) 0;
  first_period = unwrap_or (number_or 0 first_period_line (slice_get lines 11)) 0;
}

-- whether lines 4 and 5 name one PID
abbrev same_pid : List (List ℕ) → Bool
same_pid lines = eqb (number_or_0 emm_line (slice_get lines 3)) (number_or_0 ecm_line (slice_get lines 4))

-- what good lines say of the site and its book
abbrev all_on : List (List ℕ) → Answer
all_on lines = Ok (fields_on lines, book_on lines)

-- the answer where no line is bad or too many
abbrev at_end : ℕ → List (List ℕ) → Answer
at_end n lines = cond (nat_lt n 8) (Err Short) (cond (same_pid lines) (Err SamePid) (all_on lines))

-- the answer by the form and the line after n good ones
abbrev answer : ℕ → List (List ℕ) → Option Form → Option (List ℕ) → Answer
answer n lines (Some form) (Some line) = cond (in_form form line) (Err (Range (n + 1))) (Err (Line (n + 1)))
answer n lines None (Some line) = Err (Extra 14)
answer n lines form None = at_end n lines

-- n lines are good, line n + 1 is not, and the answer is what follows from that
record Stops (lines : List (List ℕ)) (r : Answer) : Type 0 where
  n : ℕ
  good : AreGoodSiteLines n lines
  stop : NextIs IsGood n lines → ⊥
  is : r ≡ answer n lines (slice_get forms n) (slice_get lines n)

-- ---- each answer is that

-- a line can't be two things of which one excludes the other
apart : (P Q : Form → List ℕ → Type 0) → ((form : Form) (line : List ℕ) → P form line → Q form line → ⊥)
    → (n : ℕ) (lines : List (List ℕ)) → NextIs P n lines → NextIs Q n lines → ⊥
apart P Q either n lines p q =
    let same_form = same_Some _ _ (sym p.2 ∙ q.2) in
    let same_line = same_Some _ _ (sym p.3 ∙ q.3) in
    let both = subst (λ (form : Form). P form p.1) same_form p.4 in
    either q.0 q.1 (subst (λ (line : List ℕ). P q.0 line) same_line both) q.4

-- a good line is in its form
good_in_form : (form : Form) (line : List ℕ) → IsGood form line → IsInForm form line
good_in_form (number form) line good = (good.0, good.1)
good_in_form (bytes form) line good = good
good_in_form book line good = (good.0, good.1)

nothing : {A : Type 0} (o : Option A) → ((x : A) × (o ≡ Some x) → ⊥) → is_some o ≡ false
nothing None never = refl
nothing (Some x) never = absurd (never (x, refl))

in_form_false : (form : Form) (line : List ℕ) → IsMalformed form line → in_form form line ≡ false
in_form_false (number form) line never = nothing (decimal_after form.word line) never
in_form_false (bytes form) line never = nothing (bytes_after form.word form.count line) never
in_form_false book line never = nothing (book_after line) never

in_form_true : (form : Form) (line : List ℕ) → IsInForm form line → in_form form line ≡ true
in_form_true (number form) line holds = ap is_some holds.1
in_form_true (bytes form) line holds = ap is_some holds.1
in_form_true book line holds = ap is_some holds.1

-- a line that is not in its form, or out of range, is not good
malformed_not_good : (form : Form) (line : List ℕ) → IsMalformed form line → IsGood form line → ⊥
malformed_not_good form line never good = never (good_in_form form line good)

outside_not_good : (form : Form) (line : List ℕ) → IsOutOfRange form line → IsGood form line → ⊥
outside_not_good form line never good = never.1 good

line_stops : (lines : List (List ℕ)) (k : ℕ) → IsSiteFaultOf lines (Line k) → Stops lines (Err (Line k))
line_stops lines k (n, is, good, (form, line, form_is, line_is, bad)) = record {
  n = n;
  good = good;
  stop = λ next. apart IsMalformed IsGood malformed_not_good n lines (form, line, form_is, line_is, bad) next;
  is = rw (is, form_is, line_is, in_form_false form line bad) refl;
}

range_stops : (lines : List (List ℕ)) (k : ℕ) → IsSiteFaultOf lines (Range k) → Stops lines (Err (Range k))
range_stops lines k (n, is, good, (form, line, form_is, line_is, bad)) = record {
  n = n;
  good = good;
  stop = λ next. apart IsOutOfRange IsGood outside_not_good n lines (form, line, form_is, line_is, bad) next;
  is = rw (is, form_is, line_is, in_form_true form line bad.0) refl;
}

-- no line is there
ended : (P : Form → List ℕ → Type 0) (lines : List (List ℕ)) (n : ℕ) → length lines ≤ n → NextIs P n lines → ⊥
ended P lines n past next = none-some _ (sym (slice_get_past lines n past) ∙ next.3)

-- no form is left
all_forms : (P : Form → List ℕ → Type 0) (lines : List (List ℕ)) (n : ℕ) → 13 ≤ n → NextIs P n lines → ⊥
unfolding forms
all_forms P lines n past next = none-some _ (sym (slice_get_past forms n past) ∙ next.2)

no_form : slice_get forms 13 ≡ None
unfolding forms
no_form = refl

-- where the lines end, the answer is that
answer_at_end : (n : ℕ) (lines : List (List ℕ)) (form : Option Form) → answer n lines form None ≡ at_end n lines
answer_at_end n lines None = refl
answer_at_end n lines (Some form) = refl

-- good lines that end stop there
end_stops : (lines : List (List ℕ)) (r : Answer) → AreGoodSiteLines (length lines) lines
    → r ≡ at_end (length lines) lines → Stops lines r
end_stops lines r good e = record {
  n = length lines;
  good = good;
  stop = λ next. ended IsGood lines (length lines) (omega arith) next;
  is = rw (slice_get_past lines (length lines) (omega arith)) (
      e ∙ sym (answer_at_end (length lines) lines (slice_get forms (length lines))));
}

short_stops : (lines : List (List ℕ)) → IsSiteFaultOf lines Short → Stops lines (Err Short)
short_stops lines (few, good) =
    end_stops lines (Err Short) good (rw (lt-ltb (length lines) 8 few) refl)

extra_stops : (lines : List (List ℕ)) (k : ℕ) → IsSiteFaultOf lines (Extra k) → Stops lines (Err (Extra k))
extra_stops lines k (place, many, good) = record {
  n = 13;
  good = good;
  stop = λ next. all_forms IsGood lines 13 (omega arith) next;
  is = rw (place, no_form, slice_get-get_or lines 13 [] many) refl;
}

-- eight good lines or more end with the PIDs
pids_stop : (lines : List (List ℕ)) (r : Answer) → 8 ≤ length lines
    → AreGoodSiteLines (length lines) lines → r ≡ cond (same_pid lines) (Err SamePid) (all_on lines) → Stops lines r
pids_stop lines r least good e = end_stops lines r good (rw (le-ltb (length lines) 8 least) e)

same_pid_stops : (lines : List (List ℕ)) → IsSiteFaultOf lines SamePid → Stops lines (Err SamePid)
same_pid_stops lines (least, good, same) =
    let equal : same_pid lines ≡ true = eq-eqb _ _ (ap (λ (o : Option ℕ). unwrap_or o 0) same) in
    pids_stop lines (Err SamePid) least good (rw equal refl)

-- the lines of a site say its fields
spelled : (lines : List (List ℕ)) (site : SiteFields) → SpellsSite lines site → fields_on lines ≡ site
spelled lines site spells = rw (spells.height, spells.master, spells.ca.1, spells.emm, spells.ecm, spells.every) (
    rw (spells.cryptos, spells.span, spells.messages, spells.first_word, spells.last_word, spells.first_period) (
    rw (← spells.ca.2) refl))

-- a line whose number is in range is good
good_number : (n value : ℕ) (form : NumberLine) (lines : List (List ℕ)) → slice_get forms n ≡ Some (number form)
    → number_on form (slice_get lines n) ≡ Some value → IsWithin form value → NextIs IsGood n lines
good_number n value form lines there reads within =
    option_and_then_some (decimal_after form.word) (slice_get lines n) value reads
    (λ line is says. (number form, line, there, is, (value, says, within)))

-- a line of bytes is good
good_bytes : (n : ℕ) (value : List ℕ) (form : BytesLine) (lines : List (List ℕ))
    → slice_get forms n ≡ Some (bytes form) → bytes_on form (slice_get lines n) ≡ Some value → NextIs IsGood n lines
good_bytes n value form lines there reads =
    option_and_then_some (bytes_after form.word form.count) (slice_get lines n) value reads
    (λ line is says. (bytes form, line, there, is, (value, says)))

-- a line that may be left out is good, where it is there and its number is in range
good_optional : (n left_out value : ℕ) (form : NumberLine) (lines : List (List ℕ))
    → slice_get forms n ≡ Some (number form) → n < length lines
    → number_or left_out form (slice_get lines n) ≡ Some value → IsWithin form value → NextIs IsGood n lines
good_optional n left_out value form lines is there reads within =
    let here = slice_get-get_or lines n [] there in
    (number form, _, is, here, (value, rw here at reads, within))

-- line 13 is good, where it is there and says a book in its range
good_book : (lines : List (List ℕ)) → slice_get forms 12 ≡ Some book → 12 < length lines
    → IfSome (slice_get lines 12) (λ line. IsSome (book_after line))
    → IfSome (book_on lines) (λ said. said.size ≤ most_book_size) → NextIs IsGood 12 lines
unfolding book_on
good_book lines is there says range =
    let line = get_or lines 12 [] in
    let here = slice_get-get_or lines 12 [] there in
    (book, line, is, here, by_book (book_after line) refl (rw here at says) (rw here at range))
  where
    by_book : (said : Option BookLine) → book_after (get_or lines 12 []) ≡ said → IsSome said
        → IfSome said (λ said. said.size ≤ most_book_size) → IsGood book (get_or lines 12 [])
    by_book None e some range = absurd cc
    by_book (Some said) e some range = (said, e, range)

-- the lines of a site are good
spelled_good : (lines : List (List ℕ)) (site : SiteFields) → SpellsSite lines site → AreInRange site
    → IfSome (book_on lines) (λ said. said.size ≤ most_book_size) → AreGoodSiteLines (length lines) lines
unfolding forms
spelled_good lines site spells ranges size zero lt =
    good_number 0 _ height_line lines refl spells.height ranges.height
spelled_good lines site spells ranges size (suc zero) lt =
    good_bytes 1 _ master_line lines refl spells.master
spelled_good lines site spells ranges size (suc (suc zero)) lt =
    good_bytes 2 _ ca_line lines refl spells.ca.1
spelled_good lines site spells ranges size (suc (suc (suc zero))) lt =
    good_number 3 _ emm_line lines refl spells.emm ranges.emm
spelled_good lines site spells ranges size (suc (suc (suc (suc zero)))) lt =
    good_number 4 _ ecm_line lines refl spells.ecm ranges.ecm
spelled_good lines site spells ranges size (suc (suc (suc (suc (suc zero))))) lt =
    good_number 5 _ every_line lines refl spells.every ranges.every
spelled_good lines site spells ranges size (suc (suc (suc (suc (suc (suc zero)))))) lt =
    good_number 6 _ cryptos_line lines refl spells.cryptos ranges.cryptos
spelled_good lines site spells ranges size (suc (suc (suc (suc (suc (suc (suc zero))))))) lt =
    good_number 7 _ span_line lines refl spells.span ranges.span
spelled_good lines site spells ranges size (suc (suc (suc (suc (suc (suc (suc (suc zero)))))))) lt =
    good_optional 8 _ _ messages_line lines refl lt spells.messages ranges.messages
spelled_good lines site spells ranges size (suc (suc (suc (suc (suc (suc (suc (suc (suc zero))))))))) lt =
    good_optional 9 _ _ first_word_line lines refl lt spells.first_word ranges.first_word
spelled_good lines site spells ranges size (suc (suc (suc (suc (suc (suc (suc (suc (suc (suc zero)))))))))) lt =
    good_optional 10 _ _ last_word_line lines refl lt spells.last_word ranges.last_word
spelled_good lines site spells ranges size (suc (suc (suc (suc (suc (suc (suc (suc (suc (suc (suc zero))))))))))) lt =
    good_optional 11 _ _ first_period_line lines refl lt spells.first_period ranges.first_period
spelled_good lines site spells ranges size
    (suc (suc (suc (suc (suc (suc (suc (suc (suc (suc (suc (suc zero)))))))))))) lt =
    good_book lines refl lt spells.book size
spelled_good lines site spells ranges size
    (suc (suc (suc (suc (suc (suc (suc (suc (suc (suc (suc (suc (suc i))))))))))))) lt =
    absurd (omega (arith, spells.most))

site_stops : (lines : List (List ℕ)) (site : SiteFields) (said : Option BookLine) → SpellsSite lines site
    → AreInRange site → SaysBook lines said → Stops lines (Ok (site, said))
site_stops lines site said spells ranges says =
    let differ : same_pid lines ≡ false = rw (spells.emm, spells.ecm) (ne_eqb _ _ ranges.apart) in
    pids_stop lines (Ok (site, said)) spells.least (spelled_good lines site spells ranges (rw says.is says.range))
    (rw (differ, says.is, spelled lines site spells) refl)

-- whatever lines tell follows from how far they are good
stops : (lines : List (List ℕ)) (r : Answer) → Tells lines r → Stops lines r
stops lines (Ok said) tells = site_stops lines said.0 said.1 tells.0 tells.1 tells.2
stops lines (Err (Line k)) tells = line_stops lines k tells
stops lines (Err (Range k)) tells = range_stops lines k tells
stops lines (Err SamePid) tells = same_pid_stops lines tells
stops lines (Err (Extra k)) tells = extra_stops lines k tells
stops lines (Err Short) tells = short_stops lines tells

-- lines that are good up to line n and no further are so for one n
one_end : (m n : ℕ) (lines : List (List ℕ)) → AreGoodSiteLines m lines → (NextIs IsGood m lines → ⊥) →
    AreGoodSiteLines n lines
    → (NextIs IsGood n lines → ⊥) → m ≡ n
one_end m n lines good_m stop_m good_n stop_n =
    elim (cases_lt m n) [
      | inl lt ↦ absurd (stop_m (good_n m lt))
      | inr le ↦ elim (cases_lt n m) [
        | inl lt ↦ absurd (stop_n (good_m n lt))
        | inr ge ↦ omega arith
      ]
    ]

-- lines tell one thing alone
pub one_answer : (lines : List (List ℕ)) (q r : Answer) → Tells lines q → Tells lines r → q ≡ r
one_answer lines q r tells_q tells_r =
    let a = stops lines q tells_q in
    let b = stops lines r tells_r in
    let same = one_end a.n b.n lines a.good a.stop b.good b.stop in
    a.is ∙ ap (λ (n : ℕ). answer n lines (slice_get forms n) (slice_get lines n)) same ∙ sym b.is

-- what lines tell is the answer on them
pub answered : (lines : List (List ℕ)) (r : Answer) → Tells lines r → site_and_book_on lines ≡ r
answered lines r tells = one_answer lines (site_and_book_on lines) r (lines_told lines) tells

-- ---- the same of a function's answer

-- answers with their types, for equations between them
abbrev done : SiteFields × Option BookLine → Answer
done said = Ok said

abbrev failed : SiteFault → Answer
failed fault = Err fault

abbrev refused : SiteFault → Result Site SiteFault
refused fault = Err fault

ok_is : (x y : SiteFields × Option BookLine) → done x ≡ done y → x ≡ y
ok_is x y e = cc

err_is : (x y : SiteFault) → failed x ≡ failed y → x ≡ y
err_is x y e = cc

refusal_is : (x y : SiteFault) → refused x ≡ refused y → x ≡ y
refusal_is x y e = cc

-- answers on the site alone
abbrev alone : SiteFields → Result SiteFields SiteFault
alone site = Ok site

abbrev alone_failed : SiteFault → Result SiteFields SiteFault
alone_failed fault = Err fault

alone_is : (x y : SiteFields) → alone x ≡ alone y → x ≡ y
alone_is x y e = cc

alone_err : (x y : SiteFault) → alone_failed x ≡ alone_failed y → x ≡ y
alone_err x y e = cc

rejects : (fault : SiteFault) (site : SiteFields) → alone_failed fault ≡ alone site → ⊥
rejects fault site e = absurd cc

not_err : (fault : SiteFault) (x : SiteFields × Option BookLine) → failed fault ≡ done x → ⊥
not_err fault x e = absurd cc

accepts : (site : Site) (fault : SiteFault) → Ok site ≡ refused fault → ⊥
accepts site fault e = absurd cc

-- the function answers what the text says of the site
abbrev pub Gives : Result Site SiteFault → List ℕ → Type 0
Gives r text = MatchResult r (λ site. site_of text ≡ Ok (site_fields_of site)) (λ fault. site_of text ≡ Err fault)

tells : (text : List ℕ) (r : Answer) → site_and_book_on (lines_of text) ≡ r → Tells (lines_of text) r
tells text r e = subst (λ (r : Answer). Tells (lines_of text) r) e (lines_told (lines_of text))

-- what the lines say, by what they say of the site alone
all_told : (text : List ℕ) (r : Answer) → site_and_book_on (lines_of text) ≡ r → (site : SiteFields) →
    site_of text ≡ Ok site
    → site_and_book_on (lines_of text) ≡ Ok (site, book_line_of text)
unfolding site_on
all_told text (Ok said) e site f =
    let same : said.0 ≡ site = alone_is _ _ (rw e at f) in
    e ∙ (λ i. Ok (same i, sym (tells text (Ok said) e).2.is i))
all_told text (Err fault) e site f = absurd (rejects _ _ (rw e at f))

fault_told : (text : List ℕ) (r : Answer) → site_and_book_on (lines_of text) ≡ r → (fault : SiteFault) →
    site_of text ≡ Err fault
    → site_and_book_on (lines_of text) ≡ Err fault
unfolding site_on
fault_told text (Ok said) e fault f = absurd (rejects _ _ (sym (rw e at f)))
fault_told text (Err other) e fault f = e ∙ ap (λ (f : SiteFault). failed f) (alone_err _ _ (rw e at f))

-- the site and what line 13 says, each alone
pub both_told : (text : List ℕ) (r : Result (Site × Option BookLine) SiteFault)
    → MatchResult r (λ said. site_and_book_on (lines_of text) ≡ Ok (site_fields_of said.0, said.1))
    (λ fault. site_and_book_on (lines_of text) ≡ Err fault)
    → MatchResult r (λ said. (site_of text ≡ Ok (site_fields_of said.0)) × (book_line_of text ≡ said.1))
    (λ fault. site_of text ≡ Err fault)
unfolding site_on
both_told text (Ok said) e = (rw e refl, (tells text (Ok (site_fields_of said.0, said.1)) e).2.is)
both_told text (Err fault) e = rw e refl

-- a site file says itself, and what line 13 says
pub site_told : (text : List ℕ) (fields : SiteFields) → IsSite text fields
    → site_and_book_on (lines_of text) ≡ Ok (fields, book_line_of text)
site_told text fields is = answered (lines_of text) (Ok (fields, book_line_of text))
    (is.text, is.ranges, record { is = refl; range = is.size })

-- what a site file says is the site of its bytes
pub site_said : (text : List ℕ) (fields : SiteFields) → IsSite text fields → site_of text ≡ Ok fields
unfolding site_on
site_said text fields is = rw (site_told text fields is) refl

-- and the site of bytes is what they say as a site file
pub said_is_site : (text : List ℕ) (fields : SiteFields) → site_of text ≡ Ok fields → IsSite text fields
said_is_site text fields e =
    let told = all_told text (site_and_book_on (lines_of text)) refl fields e in
    let h = tells text (Ok (fields, book_line_of text)) told in
    record { text = h.0; ranges = h.1; size = h.2.range }

-- what is read is a site file that says this
pub is_site : (text : List ℕ) (r : Result Site SiteFault) → Gives r text →
    IfOk r (λ site. IsSite text (site_fields_of site))
is_site text (Ok site) gives = said_is_site text (site_fields_of site) gives
is_site text (Err fault) gives = tt

-- what is a site file is read
pub is_read : (text : List ℕ) (r : Result Site SiteFault) → Gives r text → (fields : SiteFields)
    → IsSite text fields → MatchResult r (λ site. site_fields_of site ≡ fields) (λ _. ⊥)
is_read text (Ok site) gives fields is =
    let told = all_told text (site_and_book_on (lines_of text)) refl (site_fields_of site) gives in
    ap (λ (said : SiteFields × Option BookLine). said.0) (ok_is _ _ (sym told ∙ site_told text fields is))
is_read text (Err fault) gives fields is =
    let told = fault_told text (site_and_book_on (lines_of text)) refl fault gives in
    not_err _ _ (sym told ∙ site_told text fields is)

-- each fault comes exactly where the lines have it
pub is_cause : (text : List ℕ) (r : Result Site SiteFault) → Gives r text → (fault : SiteFault)
    → IsErrOf r fault ↔ IsSiteFaultOf (lines_of text) fault
is_cause text (Ok site) gives fault =
    let told = all_told text (site_and_book_on (lines_of text)) refl (site_fields_of site) gives in (
      λ err. absurd (accepts site fault err),
      λ cause. absurd (not_err _ _ (sym (answered (lines_of text) (Err fault) cause) ∙ told)),
    )
is_cause text (Err other) gives fault =
    let told = fault_told text (site_and_book_on (lines_of text)) refl other gives in (
      λ err. tells text (Err fault) (told ∙ ap (λ (f : SiteFault). failed f) (refusal_is _ _ err)),
      λ cause. ap (λ (f : SiteFault). Err f) (err_is _ _ (sym told ∙ answered (lines_of text) (Err fault) cause)),
    )

-- a site file with thirteen lines says its book
pub thirteen_say : (text : List ℕ) (site : SiteFields) → site_of text ≡ Ok site → length (lines_of text) ≡ 13
    → IsSome (book_line_of text)
unfolding book_on
thirteen_say text site e count =
    let told = all_told text (site_and_book_on (lines_of text)) refl site e in
    let says = (tells text (Ok (site, book_line_of text)) told).0.book in
    let here = slice_get-get_or (lines_of text) 12 [] (omega (arith, count)) in
    rw here (rw here at says)

-- and so does a file that a next site is made from, where no first site is taken
pub newest_say : (text : List ℕ) (site : SiteFields) (first : Bool) → site_of text ≡ Ok site
    → (are_lines_whole 13 text || fewer_taken first text site) ≡ true → first ≡ false → IsSome (book_line_of text)
newest_say text site true e whole none = absurd cc
newest_say text site false e whole none = by_whole (are_lines_whole 13 text) refl whole
  where
    by_whole : (whole : Bool) → are_lines_whole 13 text ≡ whole → (whole || false) ≡ true → IsSome (book_line_of text)
    by_whole true is holds = thirteen_say text site e (eqb-true _ _ (and_parts _ _ is).0)
    by_whole false is holds = absurd cc
