-- The periods and control words that are told are those that are used.
use Rattle.std.proofs.Common.{arith, ◌≡◌, ℕ, suc, ◌+◌, ◌-◌, ◌*◌, ◌/◌, ◌%◌, ◌==◌, ◌<◌, ◌≤◌, Bool, true, false}
use Rattle.std.proofs.Common.{cond, List, [], ◌∷◌, ◌++◌, length, map, refl, sym, ap, subst, ◌∙◌, inl, inr}
use Rattle.std.proofs.Common.{length-append}
use Rattle.std.proofs.Common.{Contains}
use Rattle.std.specs.Prelude.{sum_by, count_by, ◌⊎◌}
use Rattle.std.specs.List.{range_with_len}
use Rattle.std.proofs.Math.Nat.{div-lt_iff_lt-mul}
use Rattle.std.proofs.lemmas.Bool.{cases_lt}
use Rattle.std.proofs.lemmas.Bool.Decides.{nat_tests}
use Rattle.std.proofs.lemmas.List.Elements.{All-contains, Contains-append_right}
use Rattle.std.proofs.lemmas.List.Sums.{sum_by-append, sum_by-cons}
use Rattle.sd_base.proofs.Ranges.{range_has, in_range}
use Rattle.sd_site_cards.specs.SiteFields.{SiteFields, AreInRange}
use Rattle.sd_book.specs.Commands.{last_period}
use Rattle.sd_message.specs.Period.{emms_of}
use Rattle.sd_message.specs.EmmForm.{sections_for}
use Rattle.sd_message.specs.declared.emm.Emm.{Emm}
use Rattle.sd_message.proofs.EmmSharing.{as_many as sections_many}
use Rattle.sd_message.specs.EcmParts.{parts_of}
use Rattle.sd_message.specs.declared.ecm_part.EcmPart.{EcmPart}
use Rattle.sd_spec.specs.Plan.{Plan, closing_number, crypto_length, crypto_of, period_in, period_of, word_of}
use Rattle.sd_spec.specs.Carried.{carried}
use Rattle.sd_spec.specs.Messages.{message_at, period_at}
use Rattle.sd_spec.specs.Refused.{IsSendable}
use Rattle.sd_spec.specs.Items.{IsOfBroadcast}
use Rattle.sd_spec.specs.Sent.{Item, Cat, Entitles, Controls, Carries, added, closing_of, message_before}
use Rattle.sd_spec.specs.Sent.{sent}
use Rattle.sd_spec.specs.Sent.{sent_from, tables_at, tables_before}
use Rattle.sd_spec.proofs.Items.{all_are_of_broadcast}
use Rattle.sd_spec.proofs.Schedule.{crypto_length_some, period_of_first, periods_rise}
use Rattle.sd_spec.proofs.Periods.{section_number}
use Rattle.sd_law_broadcast.proofs.Clear.{clear_words}
use Rattle.sd_law_broadcast.proofs.Fitting.{period_count as sets_many}
use Rattle.sd_law_broadcast.proofs.Reached.{period_reached}
use Rattle.sd_law_broadcast.specs.Runs.{last_crypto}
use Rattle.sd_law_broadcast.proofs.Using.{parts_are_used}
use Rattle.sd_run_books.specs.Air.{cryptos_for, cryptos_in, entitlements_at, last_word_for, period_count}
use Rattle.sd_law_plan.specs.Within.{is_entitlement_of, printed_periods}
use Rattle.sd_law_plan.proofs.Airs.{last_period_is, last_word_is}
use Rattle.sd_law_plan.proofs.Counts.{quotient_is, shared, sum_grows, sum_none}
use Rattle.sd_law_plan.proofs.Sizes.{tables_are, tables_by}
use Rattle.sd_law_plan.proofs.Within.{cryptos_are}

-- the periods that are told are those up to the one of the last packet
pub record IsTold (plan : Plan) (m q : ℕ) : Type 0 where
  pub low : plan.site.first_period ≤ q
  pub high : q ≤ period_of plan (m - 1)

pub told_is : (plan : Plan) (m q : ℕ) → AreInRange plan.site → Contains (printed_periods plan m) q → IsTold plan m q
told_is plan m q r here =
    let is = in_range plan.site.first_period (period_count plan (cryptos_for plan.site m)) q here in
    let last = last_period_is plan m in
    let first = period_of_first plan in
    let up = periods_rise plan 0 (m - 1) r (omega arith) in
    record { low = is.0; high = omega (arith, is.0, is.1, last, first, up) }

pub packets_told : (plan : Plan) (m k : ℕ) → AreInRange plan.site → k < m →
    Contains (printed_periods plan m) (period_of plan k)
packets_told plan m k r low =
    let last = last_period_is plan m in
    let first = period_of_first plan in
    let up = periods_rise plan 0 k r (omega arith) in
    let down = periods_rise plan k (m - 1) r (omega (arith, low)) in
    range_has plan.site.first_period (period_count plan (cryptos_for plan.site m)) (period_of plan k)
    (omega (arith, first, up)) (omega (arith, last, first, up, down))

pub told_reached : (plan : Plan) (m q : ℕ) → AreInRange plan.site → 0 < m → Contains (printed_periods plan m) q →
    (k : ℕ) × (k < m) × (period_of plan k ≡ q)
told_reached plan m q r some here =
    let is = told_is plan m q r here in
    let (k, within, at) = period_reached plan (m - 1) q r is.low is.high in
    (k, omega (arith, within, some), at)

-- the control words
pub word_used : (plan : Plan) (clear : List (List ℕ)) (part : EcmPart) →
    Contains (sent plan clear ++ closing_of plan clear) (Controls part) →
    (plan.site.first_word ≤ part.word) × (part.word ≤ last_word_for plan.site (length clear))
unfolding last_crypto
word_used plan clear part here =
    let is = All-contains (IsOfBroadcast plan clear) (sent plan clear ++ closing_of plan clear) (Controls part)
    (all_are_of_broadcast plan clear) here in
    let (n, within, word, period) = parts_are_used (record { plan = plan; clear = clear }) part is in
    (omega (arith, word), omega (arith, word, within))

pub word_spoken : (site : SiteFields) (m t : ℕ) → AreInRange site → 0 < m → site.first_word ≤ t →
    t ≤ last_word_for site m → (k : ℕ) × (k < m) × (word_of site k ≡ t)
unfolding word_of crypto_of
word_spoken site m t r some low high =
    let b = crypto_length site in
    let long = crypto_length_some site r in
    let d = t - site.first_word in
    let at : d * b / b ≡ d = quotient_is (d * b) b d (omega arith) (omega (arith, long)) in
    let within : d * b ≤ m - 1 = elim (cases_lt (m - 1) (d * b)) [
      | inl lt ↦ absurd (omega (arith, (div-lt_iff_lt-mul {k = b} {x = m - 1} {y = d} long).1 lt, low, high))
      | inr le ↦ le
    ] in
    (d * b, omega (arith, within, some), omega (arith, at, low))

pub words_left : (site : SiteFields) (clear : List (List ℕ)) → IsSendable site clear → 0 < length clear →
    last_word_for site (length clear) ≤ site.last_word
words_left site clear is some =
    let at = last_word_is site (length clear) in
    let low = clear_words site clear (length clear - 1) is (omega (arith, some)) in
    omega (arith, at, low)

-- how many sections of a period stand among things
no_sections : (q : ℕ) (parts : List EcmPart) → count_by (is_entitlement_of q) (map Controls parts) ≡ 0
no_sections q [] = refl
no_sections q (part ∷ parts) = omega (
  arith,
  sum_by-cons (λ item. cond (is_entitlement_of q item) 1 0) (Controls part) (map Controls parts),
  no_sections q parts,
)

nothing_more : (x : ℕ) → 0 + x ≡ x
nothing_more x = omega arith

either_none : (t : Bool) → cond {A = ℕ} t 0 0 ≡ 0
either_none true = refl
either_none false = refl

all_sections : (p q : ℕ) (emms : List Emm) → ((emm : Emm) → Contains emms emm → emm.period ≡ p) →
    count_by (is_entitlement_of q) (map Entitles emms) ≡ cond (p == q) (length emms) 0
all_sections p q [] is = sym (either_none (p == q))
all_sections p q (emm ∷ emms) is =
    sum_by-cons (λ item. cond (is_entitlement_of q item) 1 0) (Entitles emm) (map Entitles emms)
    ∙ ap (λ (n : ℕ). cond (n == q) 1 0 + count_by (is_entitlement_of q) (map Entitles emms))
    (is emm (0, omega arith, refl))
    ∙ ap (λ (n : ℕ). cond (p == q) 1 0 + n)
    (all_sections p q emms (λ one here. is one (Contains-append_right (emm ∷ []) emms one here)))
    ∙ by_test (p == q)
  where
    by_test : (t : Bool) → cond t 1 0 + cond t (length emms) 0 ≡ cond t (suc (length emms)) 0
    by_test true = omega arith
    by_test false = refl

-- those of one crypto period of period p
unfoldable pub hits : Plan → ℕ → ℕ → ℕ
hits plan q p = cond (p == q) (entitlements_at plan p) 0

tables_hit : (plan : Plan) (q k : ℕ) →
    count_by (is_entitlement_of q) (tables_at plan k) ≡ hits plan q (period_of plan k)
unfolding tables_at hits
tables_hit plan q k =
    let p = period_of plan k in
    let emms = emms_of (period_at plan p) in
    sum_by-cons (λ item. cond (is_entitlement_of q item) 1 0) Cat (map Entitles emms)
    ∙ nothing_more (count_by (is_entitlement_of q) (map Entitles emms))
    ∙ all_sections p q emms (λ emm here. section_number plan p emm here)
    ∙ ap (λ (n : ℕ). cond (p == q) n 0) (sections_many (period_at plan p) ∙ ap sections_for (sets_many plan p))

before_hits : (plan : Plan) (q k : ℕ) →
    count_by (is_entitlement_of q) (tables_before plan k) ≡ tables_by plan (hits plan q) k
unfolding tables_by
before_hits plan q k = by_test (k % crypto_length plan.site == 0)
  where
    by_test : (t : Bool) → count_by (is_entitlement_of q) (cond t (tables_at plan k) [])
        ≡ cond t (hits plan q (period_of plan k)) 0
    by_test true = tables_hit plan q k
    by_test false = refl

message_hits : (plan : Plan) (q : ℕ) (before : List (List ℕ)) →
    count_by (is_entitlement_of q) (message_before plan before) ≡ 0
message_hits plan q before = by_test (length before % plan.site.every == 0)
  where
    by_test : (t : Bool) → count_by (is_entitlement_of q) (cond t (map Controls (parts_of (message_at plan before
        (length before / plan.site.every) (length before) false))) []) ≡ 0
    by_test true = no_sections q (parts_of (message_at plan before (length before / plan.site.every) (length before)
        false))
    by_test false = refl

added_hits : (plan : Plan) (q : ℕ) (before : List (List ℕ)) (packet : List ℕ) →
    count_by (is_entitlement_of q) (added plan before packet) ≡ tables_by plan (hits plan q) (length before)
unfolding added
added_hits plan q before packet =
    let last : List Item = Carries (length before) (carried plan.site before packet) ∷ [] in
    let test : Item → ℕ = λ item. cond (is_entitlement_of q item) 1 0 in
    let none : count_by (is_entitlement_of q) last ≡ 0 = refl in
    omega (
      arith,
      sum_by-append test (tables_before plan (length before)) (message_before plan before ++ last),
      sum_by-append test (message_before plan before) last,
      before_hits plan q (length before),
      message_hits plan q before,
      none,
    )

sent_hits : (plan : Plan) (q : ℕ) (before packets : List (List ℕ)) →
    count_by (is_entitlement_of q) (sent_from plan before packets)
    ≡ sum_by (tables_by plan (hits plan q)) (range_with_len (length before) (length packets))
unfolding sent_from
sent_hits plan q before [] = refl
sent_hits plan q before (packet ∷ packets) =
    let k = length before in
    let count = length packets in
    let long : length (before ++ packet ∷ []) ≡ k + 1 = omega (arith, length-append before (packet ∷ [])) in
    let rest = subst (λ (j : ℕ). count_by (is_entitlement_of q) (sent_from plan (before ++ packet ∷ []) packets)
    ≡ sum_by (tables_by plan (hits plan q)) (range_with_len j count)) long
    (sent_hits plan q (before ++ packet ∷ []) packets) in
    omega (
      arith,
      sum_by-append (λ item. cond (is_entitlement_of q item) 1 0) (added plan before packet)
          (sent_from plan (before ++ packet ∷ []) packets),
      added_hits plan q before packet,
      rest,
      sum_by-cons (tables_by plan (hits plan q)) k (range_with_len (k + 1) count),
    )

closing_hits : (plan : Plan) (q : ℕ) (clear : List (List ℕ)) → 0 < length clear →
    count_by (is_entitlement_of q) (closing_of plan clear) ≡ 0
unfolding closing_of
closing_hits plan q clear some =
    let any : (length clear == 0) ≡ false = grind (arith, nat_tests, some) in
    rw any (no_sections q (parts_of (message_at plan clear (closing_number plan.site (length clear)) (length clear - 1)
    true)))

-- those of all crypto periods
hits_of_one : (plan : Plan) (n q : ℕ) → plan.site.first_period ≤ q →
    q ≤ plan.site.first_period + (last_period plan.commands - plan.site.first_period) →
    shared plan (hits plan q) n ≡ cryptos_in plan n q * entitlements_at plan q
unfolding shared hits
hits_of_one plan n q low high =
    let first = plan.site.first_period in
    let count = last_period plan.commands - first + 1 in
    let own : (q == q) ≡ true = grind (arith, nat_tests) in
    sum_grows (λ p. 0) (λ p. cryptos_in plan n p * hits plan q p) first count q
    (cryptos_in plan n q * entitlements_at plan q) low (omega (arith, high))
    (ap (λ (t : Bool). cryptos_in plan n q * cond t (entitlements_at plan q) 0) own
    ∙ sym (nothing_more (cryptos_in plan n q * entitlements_at plan q)))
    (λ p from to other. no_hit p other)
    ∙ ap (λ (x : ℕ). x + cryptos_in plan n q * entitlements_at plan q)
    (sum_none (λ p. 0) first count (λ p from to. refl))
    ∙ nothing_more (cryptos_in plan n q * entitlements_at plan q)
  where
    no_hit : (p : ℕ) → (p < q) ⊎ (q < p) → cryptos_in plan n p * hits plan q p ≡ 0
    no_hit p other =
        let apart : (p == q) ≡ false = elim other [
          | inl lt ↦ grind (arith, nat_tests, lt)
          | inr lt ↦ grind (arith, nat_tests, lt)
        ] in
        ap (λ (t : Bool). cryptos_in plan n p * cond t (entitlements_at plan p) 0) apart
        ∙ (let zeros : cryptos_in plan n p * 0 ≡ 0 = omega arith in zeros)

pub sections_told : (plan : Plan) (clear : List (List ℕ)) (q : ℕ) → AreInRange plan.site → 0 < length clear →
    Contains (printed_periods plan (length clear)) q →
    count_by (is_entitlement_of q) (sent plan clear ++ closing_of plan clear)
    ≡ cryptos_in plan (cryptos_for plan.site (length clear)) q * entitlements_at plan q
unfolding period_in
sections_told plan clear q r some here =
    let m = length clear in
    let is = in_range plan.site.first_period (period_count plan (cryptos_for plan.site m)) q here in
    let tables = sent_hits plan q [] clear
    ∙ tables_are plan (hits plan q) m r
    ∙ ap (shared plan (hits plan q)) (cryptos_are plan.site m r some)
    ∙ hits_of_one plan (cryptos_for plan.site m) q is.0 (omega (arith, is.0, is.1)) in
    omega (
      arith,
      sum_by-append (λ item. cond (is_entitlement_of q item) 1 0) (sent plan clear) (closing_of plan clear),
      tables,
      closing_hits plan q clear some,
    )
