-- The lines one after another, up to the first bad one.
use Rattle.std.proofs.Common.{arith, ◌≡◌, ◌⊎◌, ℕ, suc, ◌+◌, ◌<◌, ◌≤◌, Bool, true, false, cond, eqb, List, []}
use Rattle.std.proofs.Common.{◌∷◌, length, Option, Some, None, Result, Ok, Err, refl, ◌∙◌, sym, ap, subst, inl, inr}
use Rattle.std.proofs.Common.{true≢false}
use Rattle.std.proofs.lemmas.Bool.{eqb-true, eqb-false, cases_lt, and_parts, leb-true, le-leb, and_from}
use Rattle.std.proofs.lemmas.Option.{none-some, same_Some, slice_get_past}
use Rattle.std.specs.Prelude.{◌&&◌, nat_le, slice_get, IsSome, IfSome}
use Rattle.sd_base.specs.Number.{decimal_after}
use Rattle.sd_site_cards.specs.declared.site_fault.SiteFault.{SiteFault}
use Rattle.sd_site_cards.specs.declared.site_fault.SiteFault.TheVariants.{Range, SamePid}
use Rattle.sd_site_cards.specs.declared.book_line.BookLine.{BookLine}
use Rattle.sd_site_cards.specs.SiteFields.{SiteFields, AreInRange}
use Rattle.sd_site_cards.specs.Forms.{NumberLine, BytesLine, number, bytes, book, forms, IsWithin, bytes_after}
use Rattle.sd_site_cards.specs.Forms.{book_after}
use Rattle.sd_site_cards.specs.Forms.{number_on, bytes_on, most_book_size, number_or, height_line, master_line, ca_line}
use Rattle.sd_site_cards.specs.Forms.{emm_line, ecm_line, every_line, cryptos_line, span_line, messages_line}
use Rattle.sd_site_cards.specs.Forms.{first_word_line, last_word_line, first_period_line}
use Rattle.sd_site_cards.specs.Text.{◌>>=◌, SpellsSite, in_range, well_formed, number_on_line, optional_at, bytes_at}
use Rattle.sd_site_cards.specs.Text.{judged_whole}
use Rattle.sd_site_cards.specs.Text.{optional_on, in_book_range, book_line_at, book_on, site_and_book_on}
use Rattle.sd_site_cards.specs.declared.optional.Optional.{Optional}
use Rattle.sd_site_cards.specs.SiteFaults.{IsGood, NextIs, AreGoodSiteLines, IsSiteFaultOf}

-- the first n lines are good, and these are the ones after them
pub record Walked (n : ℕ) (lines rest : List (List ℕ)) : Type 0 where
  pub after : (j : ℕ) → slice_get lines (n + j) ≡ slice_get rest j
  pub count : length lines ≡ n + length rest
  pub good : AreGoodSiteLines n lines

-- an answer on lines: the site and what line 13 says, or a fault
abbrev pub Answer : Type 0
Answer = Result (SiteFields × Option BookLine) SiteFault

-- this is what line 13 says, in its range, or it is left out
pub record SaysBook (lines : List (List ℕ)) (said : Option BookLine) : Type 0 where
  pub is : book_on lines ≡ said
  pub range : IfSome said (λ book. book.size ≤ most_book_size)

-- what the lines are where this is the answer
abbrev pub Tells : List (List ℕ) → Answer → Type 0
Tells lines (Ok said) = SpellsSite lines said.0 × AreInRange said.0 × SaysBook lines said.1
Tells lines (Err fault) = IsSiteFaultOf lines fault

-- what follows a step
abbrev Step : Type 0 → Type 0
Step A = A × List (List ℕ) → Answer

-- a number in range passes the test
out_of_range : (low high value other : ℕ) → (value ≡ other) → low ≤ other → other ≤ high
    → (nat_le low value && nat_le value high) ≡ false → ⊥
out_of_range low high value other same above below out =
    let above_low = le-leb low value (omega arith) in
    let below_high = le-leb value high (omega arith) in
    let within : (nat_le low value && nat_le value high) ≡ true =
    and_from (nat_le low value) (nat_le value high) above_low below_high in
    true≢false (sym within ∙ out)

-- the first of the lines after is line n + 1
next : (n : ℕ) (lines rest : List (List ℕ)) (line : List ℕ) → Walked n lines (line ∷ rest)
    → slice_get lines n ≡ Some line
next n lines rest line walked = let e : n + 0 ≡ n = omega arith in rw e at (walked.after 0)

-- one good line more
good_more : (n : ℕ) (lines : List (List ℕ)) → AreGoodSiteLines n lines → NextIs IsGood n lines →
    AreGoodSiteLines (n + 1) lines
good_more n lines good one i lt =
    elim (cases_lt i n) [
      | inl below ↦ good i below
      | inr above ↦ (let e : i ≡ n = omega arith in rw e one)
    ]

-- a good line is passed
walk : (n : ℕ) (lines rest : List (List ℕ)) (line : List ℕ) → Walked n lines (line ∷ rest) → NextIs IsGood n lines
    → Walked (n + 1) lines rest
walk n lines rest line walked one = record {
  after = λ j. (let e : n + 1 + j ≡ n + suc j = omega arith in rw e (walked.after (suc j)));
  count = omega (arith, walked.count);
  good = good_more n lines walked.good one;
}

-- all lines are passed
over : (n : ℕ) (lines : List (List ℕ)) → Walked n lines [] → (length lines ≡ n) × AreGoodSiteLines (length lines) lines
over n lines walked =
    let count : length lines ≡ n = omega (arith, walked.count) in
    (count, rw count walked.good)

-- good lines that end are fewer than eight
ends : (n : ℕ) (lines : List (List ℕ)) → n < 8 → Walked n lines []
    → (length lines < 8) × AreGoodSiteLines (length lines) lines
ends n lines lt walked = let h = over n lines walked in (omega (arith, h.0), h.1)

-- a number is in range or out of it
number_judged : (n : ℕ) (form : NumberLine) (lines rest : List (List ℕ)) (line : List ℕ) (value : ℕ)
    → Walked n lines (line ∷ rest) → slice_get forms n ≡ Some (number form) → slice_get lines n ≡ Some line
    → decimal_after form.word line ≡ Some value → (answer : Step ℕ)
    → (IsWithin form value → Walked (n + 1) lines rest → Tells lines (answer (value, rest)))
    → (within : Bool) → (nat_le form.low value && nat_le value form.high) ≡ within
    → Tells lines ((cond within (Ok value) (Err (Range (n + 1))) >>= λ value. Ok (value, rest)) >>= answer)
number_judged n form lines rest line value walked is here e answer more true within =
    let parts = and_parts (nat_le form.low value) (nat_le value form.high) within in
    let inside : IsWithin form value = (leb-true form.low value parts.0, leb-true value form.high parts.1) in
    more inside (walk n lines rest line walked (number form, line, is, here, (value, e, inside)))
number_judged n form lines rest line value walked is here e answer more false out =
    let never : IsGood (number form) line → ⊥ = λ good. out_of_range form.low form.high value good.0
    (same_Some _ _ (sym e ∙ good.1)) good.2.0 good.2.1 out in
    (n, refl, walked.good, (number form, line, is, here, ((value, e), never)))

-- a number is good, out of range or missing
number_case : (n : ℕ) (form : NumberLine) (lines rest : List (List ℕ)) (line : List ℕ)
    → Walked n lines (line ∷ rest) → slice_get forms n ≡ Some (number form) → (answer : Step ℕ)
    → ((value : ℕ) → number_on form (slice_get lines n) ≡ Some value → IsWithin form value
    → Walked (n + 1) lines rest → Tells lines (answer (value, rest)))
    → (read : Option ℕ) → decimal_after form.word line ≡ read
    → Tells lines ((in_range (n + 1) form.low form.high read >>= λ value. Ok (value, rest)) >>= answer)
number_case n form lines rest line walked is answer more None e =
    (n, refl, walked.good, (number form, line, is, next n lines rest line walked, λ h. none-some _ (sym e ∙ h.1)))
number_case n form lines rest line walked is answer more (Some value) e =
    let here = next n lines rest line walked in
    number_judged n form lines rest line value walked is here e answer (more value (rw here e))
    (nat_le form.low value && nat_le value form.high) refl

-- a line with a number: none is there, or as above
number_step : (n : ℕ) (form : NumberLine) (lines rest : List (List ℕ)) → n < 8 → Walked n lines rest
    → slice_get forms n ≡ Some (number form) → (answer : Step ℕ)
    → ((value : ℕ) (after : List (List ℕ)) → number_on form (slice_get lines n) ≡ Some value → IsWithin form value
    → Walked (n + 1) lines after → Tells lines (answer (value, after)))
    → Tells lines (number_on_line (n + 1) form rest >>= answer)
number_step n form lines [] lt walked is answer more = ends n lines lt walked
number_step n form lines (line ∷ rest) lt walked is answer more =
    number_case n form lines rest line walked is answer (λ value. more value rest) (decimal_after form.word line) refl

-- bytes are good or missing
bytes_case : (n : ℕ) (form : BytesLine) (lines rest : List (List ℕ)) (line : List ℕ)
    → Walked n lines (line ∷ rest) → slice_get forms n ≡ Some (bytes form) → (answer : Step (List ℕ))
    → ((value : List ℕ) → bytes_on form (slice_get lines n) ≡ Some value → Walked (n + 1) lines rest
    → Tells lines (answer (value, rest)))
    → (read : Option (List ℕ)) → bytes_after form.word form.count line ≡ read
    → Tells lines ((well_formed (n + 1) read >>= λ value. Ok (value, rest)) >>= answer)
bytes_case n form lines rest line walked is answer more None e =
    (n, refl, walked.good, (bytes form, line, is, next n lines rest line walked, λ h. none-some _ (sym e ∙ h.1)))
bytes_case n form lines rest line walked is answer more (Some value) e =
    let here = next n lines rest line walked in
    let says : bytes_on form (slice_get lines n) ≡ Some value = rw here e in
    more value says (walk n lines rest line walked (bytes form, line, is, here, (value, e)))

-- a line of bytes: none is there, or as above
bytes_step : (n : ℕ) (form : BytesLine) (lines rest : List (List ℕ)) → n < 8 → Walked n lines rest
    → slice_get forms n ≡ Some (bytes form) → (answer : Step (List ℕ))
    → ((value : List ℕ) (after : List (List ℕ)) → bytes_on form (slice_get lines n) ≡ Some value
    → Walked (n + 1) lines after → Tells lines (answer (value, after)))
    → Tells lines (bytes_at (n + 1) form rest >>= answer)
bytes_step n form lines [] lt walked is answer more = ends n lines lt walked
bytes_step n form lines (line ∷ rest) lt walked is answer more =
    bytes_case n form lines rest line walked is answer (λ value. more value rest)
    (bytes_after form.word form.count line) refl

-- n lines are passed, or fewer, but eight at least, that are all
abbrev Passed : ℕ → List (List ℕ) → List (List ℕ) → Type 0
Passed n lines rest = Walked n lines rest ⊎ ((k : ℕ) × (8 ≤ k) × (k < n) × Walked k lines [] × (rest ≡ []))

-- where no line is left, eight or more were passed
passed_all : (n : ℕ) (lines : List (List ℕ)) → 8 ≤ n → Passed n lines []
    → (k : ℕ) × (8 ≤ k) × (k ≤ n) × Walked k lines []
passed_all n lines least (inl walked) = (n, least, omega arith, walked)
passed_all n lines least (inr (k, eight, below, walked, e)) = (k, eight, omega (arith, below), walked)

-- a line that may be left out: it is, or as above
optional_step : (n left_out : ℕ) (form : NumberLine) (lines rest : List (List ℕ)) → 8 ≤ n → Passed n lines rest
    → slice_get forms n ≡ Some (number form) → IsWithin form left_out → (answer : Step ℕ)
    → ((value : ℕ) (after : List (List ℕ)) → number_or left_out form (slice_get lines n) ≡ Some value
    → IsWithin form value → Passed (n + 1) lines after → Tells lines (answer (value, after)))
    → Tells lines (optional_at (n + 1) form left_out rest >>= answer)
optional_step n left_out form lines [] least passed is within answer more =
    let all = passed_all n lines least passed in
    let count = (over all.0 lines all.3).0 in
    more left_out [] (rw (slice_get_past lines n (omega (arith, count, all.2))) refl) within
    (inr (all.0, all.1, omega (arith, all.2), all.3, refl))
optional_step n left_out form lines (line ∷ rest) least (inl walked) is within answer more =
    let here = next n lines rest line walked in
    number_case n form lines rest line walked is answer
    (λ value reads inside after. more value rest (rw here (rw here at reads)) inside (inl after))
    (decimal_after form.word line) refl
optional_step n left_out form lines (line ∷ rest) least (inr (k, eight, below, walked, e)) is within answer more =
    absurd cc

-- steps that are one step's are taken in turn
joined : {A B C : Type 0} (r : Result A SiteFault) (f : A → Result B SiteFault) (g : B → Result C SiteFault) →
    ((r >>= f) >>= g) ≡ (r >>= λ x. (f x >>= g))
joined (Ok x) f g = refl
joined (Err fault) f g = refl

-- the same line as the first of the steps that are one step's
optional_first : {A : Type 0} (n left_out : ℕ) (form : NumberLine) (lines rest : List (List ℕ)) → 8 ≤ n
    → Passed n lines rest → slice_get forms n ≡ Some (number form) → IsWithin form left_out
    → (inner : ℕ × List (List ℕ) → Result A SiteFault) → (answer : A → Answer)
    → ((value : ℕ) (after : List (List ℕ)) → number_or left_out form (slice_get lines n) ≡ Some value
    → IsWithin form value → Passed (n + 1) lines after → Tells lines (inner (value, after) >>= answer))
    → Tells lines ((optional_at (n + 1) form left_out rest >>= inner) >>= answer)
optional_first n left_out form lines rest least passed is within inner answer more =
    subst (Tells lines) (sym (joined (optional_at (n + 1) form left_out rest) inner answer))
    (optional_step n left_out form lines rest least passed is within (λ cut. inner cut >>= answer) more)

-- what the lines after the eighth say
record SaysOptional (lines : List (List ℕ)) (optional : Optional) : Type 0 where
  messages : number_or 1 messages_line (slice_get lines 8) ≡ Some optional.messages
  first_word : number_or 0 first_word_line (slice_get lines 9) ≡ Some optional.first_word
  last_word : number_or last_word_line.high last_word_line (slice_get lines 10) ≡ Some optional.last_word
  first_period : number_or 0 first_period_line (slice_get lines 11) ≡ Some optional.first_period
  messages_in : IsWithin messages_line optional.messages
  first_word_in : IsWithin first_word_line optional.first_word
  last_word_in : IsWithin last_word_line optional.last_word
  first_period_in : IsWithin first_period_line optional.first_period

-- the lines after the eighth: each is left out, or as above
optional_steps : (lines rest : List (List ℕ)) → Walked 8 lines rest
    → (answer : Step Optional)
    → ((optional : Optional) (after : List (List ℕ)) → SaysOptional lines optional → Passed 12 lines after
    → Tells lines (answer (optional, after)))
    → Tells lines (optional_on rest >>= answer)
unfolding optional_on forms
optional_steps lines rest walked answer more =
    optional_first 8 1 messages_line lines rest (omega arith) (inl walked) refl (omega arith, omega arith) _ answer (
    λ messages rest9 messages_is messages_in passed9.
    optional_first 9 0 first_word_line lines rest9 (omega arith) passed9 refl (omega arith, omega arith) _ answer (
    λ first_word rest10 first_word_is first_word_in passed10.
    optional_first 10 last_word_line.high last_word_line lines rest10 (omega arith) passed10 refl
    (omega arith, omega arith) _ answer (λ last_word rest11 last_word_is last_word_in passed11.
    optional_first 11 0 first_period_line lines rest11 (omega arith) passed11 refl (omega arith, omega arith) _ answer (
    λ first_period rest12 first_period_is first_period_in passed12. more _ rest12 (record {
      messages = messages_is;
      first_word = first_word_is;
      last_word = last_word_is;
      first_period = first_period_is;
      messages_in = messages_in;
      first_word_in = first_word_in;
      last_word_in = last_word_in;
      first_period_in = first_period_in;
    }) passed12))))

-- line 13 is in its range or out of it
book_judged : (lines rest : List (List ℕ)) (line : List ℕ) (said : BookLine) → Walked 12 lines (line ∷ rest)
    → slice_get forms 12 ≡ Some book → slice_get lines 12 ≡ Some line → book_after line ≡ Some said
    → (answer : Step (Option BookLine))
    → (said.size ≤ most_book_size → Walked 13 lines rest → Tells lines (answer (Some said, rest)))
    → (within : Bool) → nat_le said.size most_book_size ≡ within
    → Tells lines ((cond within (Ok said) (Err (Range 13)) >>= λ said. Ok (Some said, rest)) >>= answer)
book_judged lines rest line said walked is here e answer more true within =
    let inside = leb-true said.size most_book_size within in
    more inside (walk 12 lines rest line walked (book, line, is, here, (said, e, inside)))
book_judged lines rest line said walked is here e answer more false out =
    let never : IsGood book line → ⊥ = λ good.
    let same = ap (λ (said : BookLine). said.size) (same_Some _ _ (sym e ∙ good.1)) in
    true≢false (sym (le-leb said.size most_book_size (omega (arith, same, good.2))) ∙ out) in
    (12, refl, walked.good, (book, line, is, here, ((said, e), never)))

-- line 13 is good, out of range or malformed
book_case : (lines rest : List (List ℕ)) (line : List ℕ) → Walked 12 lines (line ∷ rest)
    → slice_get forms 12 ≡ Some book → (answer : Step (Option BookLine))
    → ((said : BookLine) → book_after line ≡ Some said → said.size ≤ most_book_size → Walked 13 lines rest
    → Tells lines (answer (Some said, rest)))
    → (read : Option BookLine) → book_after line ≡ read
    → Tells lines ((in_book_range read >>= λ said. Ok (Some said, rest)) >>= answer)
book_case lines rest line walked is answer more None e =
    (12, refl, walked.good, (book, line, is, next 12 lines rest line walked, λ h. none-some _ (sym e ∙ h.1)))
book_case lines rest line walked is answer more (Some said) e =
    let here = next 12 lines rest line walked in
    book_judged lines rest line said walked is here e answer (more said e) (nat_le said.size most_book_size) refl

-- line 13, if it is there, says a book
abbrev MaySayBook : List (List ℕ) → Type 0
MaySayBook lines = IfSome (slice_get lines 12) (λ line. IsSome (book_after line))

-- line 13: it is left out, or as above
book_step : (lines rest : List (List ℕ)) → Passed 12 lines rest → (answer : Step (Option BookLine))
    → ((said : Option BookLine) (after : List (List ℕ)) → MaySayBook lines → SaysBook lines said
    → Passed 13 lines after → Tells lines (answer (said, after)))
    → Tells lines (book_line_at rest >>= answer)
unfolding book_on forms
book_step lines [] passed answer more =
    let all = passed_all 12 lines (omega arith) passed in
    let count = (over all.0 lines all.3).0 in
    let none = slice_get_past lines 12 (omega (arith, count, all.2)) in
    more None [] (rw none tt) (record { is = rw none refl; range = tt })
    (inr (all.0, all.1, omega (arith, all.2), all.3, refl))
book_step lines (line ∷ rest) (inl walked) answer more =
    let here = next 12 lines rest line walked in
    book_case lines rest line walked refl answer
    (λ said e inside after. more (Some said) rest (rw (here, e) refl) (record { is = rw here e; range = inside })
    (inl after)) (book_after line) refl
book_step lines (line ∷ rest) (inr (k, eight, below, walked, e)) answer more = absurd cc

-- the PIDs are equal, or all is good
pids : (lines : List (List ℕ)) (said : SiteFields × Option BookLine) → 8 ≤ length lines
    → AreGoodSiteLines (length lines) lines → number_on emm_line (slice_get lines 3) ≡ Some said.0.emm
    → number_on ecm_line (slice_get lines 4) ≡ Some said.0.ecm
    → ((said.0.emm ≡ said.0.ecm → ⊥) → Tells lines (Ok said))
    → (same : Bool) → eqb said.0.emm said.0.ecm ≡ same → Tells lines (cond same (Err SamePid) (Ok said))
pids lines said least good emm ecm more true e = (least, good, emm ∙ ap Some (eqb-true _ _ e) ∙ sym ecm)
pids lines said least good emm ecm more false e = more (eqb-false _ _ e)

-- after thirteen good lines none is to be, and the PIDs are to differ
whole_case : (lines rest : List (List ℕ)) (said : SiteFields × Option BookLine) → Passed 13 lines rest
    → number_on emm_line (slice_get lines 3) ≡ Some said.0.emm
    → number_on ecm_line (slice_get lines 4) ≡ Some said.0.ecm
    → (8 ≤ length lines → length lines ≤ 13 → (said.0.emm ≡ said.0.ecm → ⊥) → Tells lines (Ok said))
    → Tells lines (judged_whole rest said)
whole_case lines (line ∷ rest) said (inl walked) emm ecm more = (refl, omega (arith, walked.count), walked.good)
whole_case lines (line ∷ rest) said (inr (k, eight, below, walked, e)) emm ecm more = absurd cc
whole_case lines [] said passed emm ecm more =
    let all = passed_all 13 lines (omega arith) passed in
    let h = over all.0 lines all.3 in
    let least : 8 ≤ length lines = omega (arith, h.0, all.1) in
    let most : length lines ≤ 13 = omega (arith, h.0, all.2) in
    pids lines said least h.1 emm ecm (more least most) (eqb said.0.emm said.0.ecm) refl

-- the lines are what the answer says
pub lines_told : (lines : List (List ℕ)) → Tells lines (site_and_book_on lines)
unfolding site_and_book_on forms
lines_told lines =
    let start : Walked 0 lines lines = record {
      after = λ j. (let e : 0 + j ≡ j = omega arith in rw e refl);
      count = omega arith;
      good = λ i lt. absurd (omega arith);
    } in
    number_step 0 height_line lines lines (omega arith) start refl _ (λ height rest1 height_is height_in walked1.
    bytes_step 1 master_line lines rest1 (omega arith) walked1 refl _ (λ master rest2 master_is walked2.
    bytes_step 2 ca_line lines rest2 (omega arith) walked2 refl _ (λ ca rest3 ca_is walked3.
    number_step 3 emm_line lines rest3 (omega arith) walked3 refl _ (λ emm rest4 emm_is emm_in walked4.
    number_step 4 ecm_line lines rest4 (omega arith) walked4 refl _ (λ ecm rest5 ecm_is ecm_in walked5.
    number_step 5 every_line lines rest5 (omega arith) walked5 refl _ (λ every rest6 every_is every_in walked6.
    number_step 6 cryptos_line lines rest6 (omega arith) walked6 refl _ (λ cryptos rest7 cryptos_is cryptos_in walked7.
    number_step 7 span_line lines rest7 (omega arith) walked7 refl _ (λ span rest8 span_is span_in walked8.
    optional_steps lines rest8 walked8 _ (λ optional rest12 says passed12.
    book_step lines rest12 passed12 _ (λ said rest13 may_say says_book passed13.
    whole_case lines rest13 _ passed13 emm_is ecm_is (λ least most apart. (
      record {
        least = least;
        most = most;
        height = height_is;
        master = master_is;
        ca = (ca, ca_is, refl);
        emm = emm_is;
        ecm = ecm_is;
        every = every_is;
        cryptos = cryptos_is;
        span = span_is;
        messages = says.messages;
        first_word = says.first_word;
        last_word = says.last_word;
        first_period = says.first_period;
        book = may_say;
      },
      record {
        height = height_in;
        emm = emm_in;
        ecm = ecm_in;
        apart = apart;
        every = every_in;
        cryptos = cryptos_in;
        span = span_in;
        messages = says.messages_in;
        first_word = says.first_word_in;
        last_word = says.last_word_in;
        first_period = says.first_period_in;
      },
      says_book,
    ))))))))))))
