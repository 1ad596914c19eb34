-- Control words and periods of planned streams.
use Rattle.std.proofs.Common.{arith, ◌≡◌, ℕ, ◌+◌, ◌-◌, ◌^◌, ◌<◌, ◌≤◌, ◌||◌, ◌==◌, Bool, false, nat_lt, ap, ◌∙◌, le-ltb}
use Rattle.std.proofs.lemmas.Bool.Decides.{nat_tests}
use Rattle.sd_site_cards.specs.SiteFields.{SiteFields, AreInRange}
use Rattle.sd_spec.specs.Plan.{Plan, crypto_of, period_in, period_of, word_of}
use Rattle.sd_spec.specs.Refused.{is_used_up}
use Rattle.sd_spec.proofs.Schedule.{period_of_first, periods_rise, words_rise}
use Rattle.sd_run_books.specs.Air.{cryptos_for, last_period_for, last_word_for}

-- the last control word is that of the last packet
pub last_word_is : (site : SiteFields) (m : ℕ) → last_word_for site m ≡ word_of site (m - 1)
unfolding word_of
last_word_is site m = omega arith

other_number : (n k : ℕ) → n < k → (n == k) ≡ false
other_number n k h = grind (arith, nat_tests)

pub streams_have_words : (site : SiteFields) (m k : ℕ) → AreInRange site → m < 2 ^ 32 → k < m →
    last_word_for site m ≤ site.last_word → is_used_up site k ≡ false
streams_have_words site m k r short low room =
    let up = words_rise site k (m - 1) r (omega (arith, low)) in
    let is = last_word_is site m in
    ap (λ (b : Bool). b || nat_lt site.last_word (word_of site k))
    (other_number k (2 ^ 32 - 1) (omega (arith, short, low)))
    ∙ le-ltb site.last_word (word_of site k) (omega (arith, up, is, room))

-- a later site's control words are above
first_low : (site : SiteFields) (k : ℕ) → site.first_word ≤ word_of site k
unfolding word_of
first_low site k = omega arith

pub next_words : (plan more : Plan) (j k m : ℕ) → AreInRange plan.site → j < m →
    more.site.first_word ≡ last_word_for plan.site m + 1 → word_of plan.site j < word_of more.site k
next_words plan more j k m r low next =
    let up = words_rise plan.site j (m - 1) r (omega (arith, low)) in
    let is = last_word_is plan.site m in
    let first = first_low more.site k in
    omega (arith, up, is, next, first)

-- and its periods
pub last_period_is : (plan : Plan) (m : ℕ) → last_period_for plan (cryptos_for plan.site m) ≡ period_of plan (m - 1)
unfolding period_of
last_period_is plan m =
    let same : cryptos_for plan.site m - 1 ≡ crypto_of plan.site (m - 1) = omega arith in
    ap (period_in plan) same

pub next_periods : (plan more : Plan) (j k m : ℕ) → AreInRange plan.site → AreInRange more.site → j < m →
    more.site.first_period ≡ last_period_for plan (cryptos_for plan.site m) + 1 → period_of plan j < period_of more k
next_periods plan more j k m r s low next =
    let up = periods_rise plan j (m - 1) r (omega (arith, low)) in
    let is = last_period_is plan m in
    let first = period_of_first more in
    let later = periods_rise more 0 k s (omega arith) in
    omega (arith, up, is, next, first, later)
