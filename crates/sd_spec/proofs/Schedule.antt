-- Crypto periods, periods and control messages by the numbers of packets.
use Rattle.std.proofs.Common.{◌≡◌, ℕ, zero, suc, ◌+◌, ◌-◌, ◌*◌, ◌/◌, ◌%◌, ◌<◌, ◌≤◌, sym, ap, ◌∙◌}
use Rattle.std.proofs.Common.{◌⊎◌, ◌^◌, inl, inr, arith}
use Rattle.std.proofs.lemmas.Bool.{cases_lt}
use Rattle.std.proofs.Math.Nat.{div-mul-le_self, lt-div-mul-add, div-eq_of_lt-le, le-div_iff_mul-le, div-lt_iff_lt-mul}
use Rattle.std.proofs.Math.Nat.{div-div-eq-div-mul, mul-div_cancel, add-div_right, div-eq_of_lt, mul-pos}
use native.Mathlib.Nat.{zero-div}
use Rattle.std.proofs.Math.Nat.{mul-le-mul_right}
use Rattle.std.proofs.lemmas.Nat.{div-add-mod'}
use Rattle.sd_site_cards.specs.SiteFields.{SiteFields, AreInRange}
use Rattle.sd_book.specs.Commands.{last_period}
use Rattle.sd_spec.specs.Plan.{Plan, IsPlan, crypto_length, crypto_of, word_in, word_of, period_in, period_of}
use Rattle.sd_spec.specs.Plan.{since_of, closing_number}

-- a quotient never falls
pub quotients_rise : (n j k : ℕ) → 0 < n → j ≤ k → j / n ≤ k / n
quotients_rise n j k some below = (le-div_iff_mul-le some).1 (omega (arith, div-mul-le_self j n, below))

-- a crypto period has a packet at least
pub crypto_length_some : (site : SiteFields) → AreInRange site → 0 < crypto_length site
crypto_length_some site r = mul-pos (omega (arith, r.every.0)) (omega (arith, r.cryptos.0))

-- crypto periods never fall
pub cryptos_rise : (site : SiteFields) (j k : ℕ) → AreInRange site → j ≤ k → crypto_of site j ≤ crypto_of site k
unfolding crypto_of
cryptos_rise site j k r below = quotients_rise (crypto_length site) j k (crypto_length_some site r) below

-- nor do the numbers of control words
pub words_rise : (site : SiteFields) (j k : ℕ) → AreInRange site → j ≤ k → word_of site j ≤ word_of site k
unfolding word_of
words_rise site j k r below = omega (arith, cryptos_rise site j k r below)

-- nor do the periods of crypto periods
pub periods_in_rise : (plan : Plan) (m n : ℕ) → AreInRange plan.site → m ≤ n → period_in plan m ≤ period_in plan n
unfolding period_in
periods_in_rise plan m n r below =
    let up = quotients_rise plan.site.span m n (omega (arith, r.span.0)) below in omega (arith, up)

-- nor do the periods of packets
pub periods_rise : (plan : Plan) (j k : ℕ) → AreInRange plan.site → j ≤ k → period_of plan j ≤ period_of plan k
unfolding period_of
periods_rise plan j k r below =
    periods_in_rise plan (crypto_of plan.site j) (crypto_of plan.site k) r (cryptos_rise plan.site j k r below)

-- the first crypto period is of the site's first period
pub period_in_first : (plan : Plan) → period_in plan 0 ≡ plan.site.first_period
unfolding period_in
period_in_first plan = omega (arith, zero-div plan.site.span)

-- and so is the first packet
pub period_of_first : (plan : Plan) → period_of plan 0 ≡ plan.site.first_period
unfolding period_of crypto_of
period_of_first plan = ap (period_in plan) (zero-div (crypto_length plan.site)) ∙ period_in_first plan

-- a crypto period is of the site's first period, or of one up to the book's last
pub period_in_within : (plan : Plan) (n : ℕ) →
    (period_in plan n ≡ plan.site.first_period) ⊎ (period_in plan n ≤ last_period plan.commands)
unfolding period_in
period_in_within plan n =
    elim (cases_lt plan.site.first_period (last_period plan.commands)) [
      | inl lt ↦ inr (omega (arith, lt))
      | inr ge ↦ inl (omega (arith, ge))
    ]

-- and so is a packet
pub period_within : (plan : Plan) (k : ℕ) →
    (period_of plan k ≡ plan.site.first_period) ⊎ (period_of plan k ≤ last_period plan.commands)
unfolding period_of
period_within plan k = period_in_within plan (crypto_of plan.site k)

-- the number of a crypto period's period has 4 bytes
pub period_in_short : (plan : Plan) (n : ℕ) → IsPlan plan → period_in plan n < 2 ^ 32
period_in_short plan n is =
    elim (period_in_within plan n) [
      | inl first ↦ omega (arith, first, is.site.first_period.1)
      | inr below ↦ omega (arith, below, is.book.periods)
    ]

-- and so has that of a packet's
pub period_short : (plan : Plan) (k : ℕ) → IsPlan plan → period_of plan k < 2 ^ 32
unfolding period_of
period_short plan k is = period_in_short plan (crypto_of plan.site k) is

-- the number from which on a message's word holds is below its own
pub since_is_below : (version cryptos b : ℕ) → 0 < b → since_of version cryptos b < b
since_is_below version cryptos zero some = absurd (omega (arith, some))
since_is_below zero cryptos (suc b) some = omega arith
since_is_below (suc zero) cryptos (suc b) some = omega arith
since_is_below (suc (suc zero)) cryptos (suc b) some = omega (arith, div-mul-le_self b cryptos)
since_is_below (suc (suc (suc v))) cryptos (suc b) some = omega arith

-- the quotient of the next number is at most one more
pub quotients_step : (n c : ℕ) → 0 < n → (c + 1) / n ≤ c / n + 1
quotients_step n c some =
    omega (arith, quotients_rise n (c + 1) (c + n) some (omega (arith, some)), add-div_right c some)

-- the crypto period after one is the next
pub cryptos_step : (site : SiteFields) (k : ℕ) → AreInRange site →
    crypto_of site (k + crypto_length site) ≡ crypto_of site k + 1
unfolding crypto_of
cryptos_step site k r = add-div_right k (crypto_length_some site r)

-- the period of the next crypto period is the same, or the next
pub periods_in_step : (plan : Plan) (n : ℕ) → AreInRange plan.site → period_in plan (n + 1) ≤ period_in plan n + 1
unfolding period_in
periods_in_step plan n r =
    let step = quotients_step plan.site.span n (omega (arith, r.span.0)) in omega (arith, step)

-- the period after a crypto period is the same, or the next
pub periods_step : (plan : Plan) (k : ℕ) → AreInRange plan.site →
    period_of plan (k + crypto_length plan.site) ≤ period_of plan k + 1
unfolding period_of
periods_step plan k r = rw (cryptos_step plan.site k r) (periods_in_step plan (crypto_of plan.site k) r)

-- the packet with which a crypto period begins is of the same crypto period
pub crypto_begins : (site : SiteFields) (k : ℕ) → AreInRange site →
    crypto_of site (k - k % crypto_length site) ≡ crypto_of site k
unfolding crypto_of
crypto_begins site k r =
    let some = crypto_length_some site r in
    let whole : k - k % crypto_length site ≡ k / crypto_length site * crypto_length site =
    omega (arith, div-add-mod' k (crypto_length site)) in
    rw whole (mul-div_cancel (k / crypto_length site) some)

-- and so of the same period
pub period_begins : (plan : Plan) (k : ℕ) → AreInRange plan.site →
    period_of plan (k - k % crypto_length plan.site) ≡ period_of plan k
unfolding period_of
period_begins plan k r = ap (period_in plan) (crypto_begins plan.site k r)

-- where a message's word holds from number a on, a is in the crypto period that ends with it
word_named : (version cryptos a b : ℕ) → since_of version cryptos b ≤ a → a < b → ((b - 1) / cryptos) * cryptos ≤ a
word_named version cryptos a zero named below = absurd (omega (arith, below))
word_named zero cryptos a (suc b) named below = omega (arith, named, div-mul-le_self (suc b - 1) cryptos)
word_named (suc zero) cryptos a (suc b) named below = omega (arith, named, div-mul-le_self (suc b - 1) cryptos)
word_named (suc (suc v)) cryptos a (suc b) named below = let e : suc b - 1 ≡ b = omega arith in rw e named

-- a number of a crypto period's messages, from the first up to one before b, has the quotient of b - 1
in_block : (c b i : ℕ) → 0 < c → ((b - 1) / c) * c ≤ i → i < b → i / c ≡ (b - 1) / c
in_block c b i some low high =
    let top : b - 1 < (b - 1) / c * c + c = lt-div-mul-add some in
    let whole : ((b - 1) / c + 1) * c ≡ (b - 1) / c * c + c = grind (arith) in
    div-eq_of_lt-le c low (omega (arith, whole, top, high))

-- the packets between two messages of which the second's word holds from the first on are of one crypto period
pub same_crypto : (site : SiteFields) (version a b j : ℕ) → AreInRange site →
    since_of version site.cryptos b ≤ a → a < b → a * site.every ≤ j → j < b * site.every →
    crypto_of site j ≡ crypto_of site (a * site.every)
unfolding crypto_of
same_crypto site version a b j r named before low high =
    let packets : 0 < site.every = omega (arith, r.every.0) in
    let messages : 0 < site.cryptos = omega (arith, r.cryptos.0) in
    let block = word_named version site.cryptos a b named before in
    let from : a ≤ j / site.every = (le-div_iff_mul-le packets).1 low in
    let to : j / site.every < b = (div-lt_iff_lt-mul packets).1 high in
    sym (div-div-eq-div-mul j site.every site.cryptos)
    ∙ (in_block site.cryptos b (j / site.every) messages (omega (arith, block, from)) to
    ∙ (sym (in_block site.cryptos b a messages block before)
    ∙ (sym (ap (λ n. n / site.cryptos) (mul-div_cancel a packets))
    ∙ div-div-eq-div-mul (a * site.every) site.every site.cryptos)))

-- and so they have one control word
pub same_word : (site : SiteFields) (version a b j : ℕ) → AreInRange site →
    since_of version site.cryptos b ≤ a → a < b → a * site.every ≤ j → j < b * site.every →
    word_of site j ≡ word_of site (a * site.every)
unfolding word_of
same_word site version a b j r named before low high =
    ap (word_in site) (same_crypto site version a b j r named before low high)

-- the closing message's number: as many messages as there are begun stretches of e packets
pub closing_covers : (site : SiteFields) (m : ℕ) → AreInRange site → m ≤ closing_number site m * site.every
closing_covers site m r =
    let some : 0 < site.every = omega (arith, r.every.0) in
    let top : m + site.every - 1 < (m + site.every - 1) / site.every * site.every + site.every = lt-div-mul-add some in
    omega (arith, top, some)

pub closing_above : (site : SiteFields) (m : ℕ) → AreInRange site → 0 < m → (m - 1) / site.every < closing_number site m
closing_above site m r more =
    let some : 0 < site.every = omega (arith, r.every.0) in
    (div-lt_iff_lt-mul some).1 (omega (arith, closing_covers site m r, more))

pub closing_needed : (site : SiteFields) (m a : ℕ) → AreInRange site → a < closing_number site m → a * site.every < m
closing_needed site m a r below =
    let some : 0 < site.every = omega (arith, r.every.0) in
    let held : closing_number site m * site.every ≤ m + site.every - 1 =
    div-mul-le_self (m + site.every - 1) site.every in
    let step : (a + 1) * site.every ≤ closing_number site m * site.every =
    mul-le-mul_right site.every (omega (arith, below)) in
    let more : (a + 1) * site.every ≡ a * site.every + site.every = grind (arith) in
    omega (arith, held, step, more, some)

pub closing_of_none : (site : SiteFields) → AreInRange site → closing_number site 0 ≡ 0
closing_of_none site r = div-eq_of_lt (omega (arith, r.every.0))
