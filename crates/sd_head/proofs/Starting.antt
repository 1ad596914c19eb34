-- Which crypto period is at work after so many packets.
use Rattle.std.proofs.Common.{◌≡◌, ◌≢◌, ℕ, zero, suc, ◌+◌, ◌-◌, ◌*◌, ◌/◌, ◌%◌, ◌^◌, ◌<◌, ◌==◌, true}
use Rattle.std.proofs.Common.{refl, sym, ap, subst, ◌∙◌, arith, eq-eqb, ne_eqb, mul_comm, mul-pos}
use Rattle.std.specs.Prelude.{Some, None, Result, Ok, Err, OnErr}
use Rattle.std.proofs.Math.Arith.{mod-mul}
use Rattle.std.proofs.Math.Nat.{zero-div, div-eq_of_lt-le, mod-lt}
use Rattle.std.proofs.lemmas.Nat.{div-add-mod'}
use Rattle.sd_site_cards.specs.SiteFields.{SiteFields}
use Rattle.sd_spec.specs.Plan.{Plan, crypto_length, crypto_of, word_of, period_of}
use Rattle.sd_spec.proofs.Schedule.{crypto_length_some}
use Rattle.sd_head.specs.Kept.{IsPeriodState, IsBeforePeriod, begins_period, revoked_before}
use Rattle.sd_head.specs.declared.entitling.Entitling.{Entitling}
use Rattle.sd_head.specs.Messages.{number_due}
use Rattle.sd_head.specs.Schedule.{IsPeriodAt, begins_with}
use Rattle.sd_book.specs.Commands.{revoked}

-- the quotient of a whole multiple is one more than that of the number before
next_quotient : (n j : ℕ) → 0 < n → suc j % n ≡ 0 → suc j / n ≡ suc (j / n)
next_quotient n j some whole =
    let q = suc j / n in
    let is : q * n ≡ suc j = omega (arith, div-add-mod' (suc j) n, whole) in
    go q is
  where
    go : (q : ℕ) → q * n ≡ suc j → q ≡ suc (j / n)
    go zero is = absurd (omega (arith, is))
    go (suc p) is =
        let parts : suc p * n ≡ p * n + n = grind (arith) in
        let top : (p + 1) * n ≡ p * n + n = grind (arith) in
        let before : j / n ≡ p = div-eq_of_lt-le n (omega (arith, is, parts, some)) (omega (arith, is, parts, top)) in
        ap (λ (k : ℕ). suc k) (sym before)

-- and that of any other number is the same
same_quotient : (n j : ℕ) → 0 < n → suc j % n ≢ 0 → j / n ≡ suc j / n
same_quotient n j some other =
    let q = suc j / n in
    let is = div-add-mod' (suc j) n in
    let below : suc j % n < n = mod-lt (suc j) some in
    let more : 0 < suc j % n = grind (arith, other) in
    let top : (q + 1) * n ≡ q * n + n = grind (arith) in
    div-eq_of_lt-le n (omega (arith, is, more)) (omega (arith, is, below, top))

module _ (site : SiteFields) (k : ℕ) (every : 0 < site.every) (cryptos : 0 < site.cryptos) where
  -- a packet's place in its crypto period, by the messages before it there
  in_crypto : k % crypto_length site ≡ (k / site.every % site.cryptos) * site.every + k % site.every
  in_crypto = ap (λ (n : ℕ). k % n) (mul_comm site.every site.cryptos) ∙ mod-mul k cryptos every

  -- no crypto period begins where no message stands
  pub no_message : k % site.every ≢ 0 → k % crypto_length site ≢ 0
  no_message other first = other (omega (arith, in_crypto, first))

  -- nor with a message that isn't a crypto period's first
  pub later_message : k / site.every % site.cryptos ≢ 0 → k % crypto_length site ≢ 0
  later_message other first =
      let some : 0 < k / site.every % site.cryptos = grind (arith, other) in
      absurd (omega (arith, in_crypto, first, mul-pos some every))

  -- one begins with its first message
  pub first_message : k % site.every ≡ 0 → k / site.every % site.cryptos ≡ 0 → k % crypto_length site ≡ 0
  first_message whole first = in_crypto ∙ rw (first, whole) (omega arith)

-- the number of a message there is as before
pub message_stands_at : (site : SiteFields) (k : ℕ) → k % site.every ≡ 0 → Some (k / site.every) ≡ number_due site k
unfolding number_due
message_stands_at site k whole = rw (eq-eqb (k % site.every) 0 whole) refl

-- and where none stands there is none
pub no_message_stands : (site : SiteFields) (k : ℕ) → k % site.every ≢ 0 → None ≡ number_due site k
unfolding number_due
no_message_stands site k other = rw (ne_eqb (k % site.every) 0 other) refl

-- where a crypto period begins with packet k, it is the next
pub starts : (plan : Plan) (k length : ℕ) (entitling : Entitling) → IsPeriodAt plan k entitling →
    length ≡ crypto_length plan.site →
    k % length ≡ 0 → IsBeforePeriod plan (k / length) entitling
unfolding crypto_of
starts plan zero length entitling at is whole = subst (λ (t : ℕ). IsBeforePeriod plan t entitling)
    (sym (zero-div length)) at
starts plan (suc j) length entitling at is whole =
    let some : 0 < length =
    subst (λ (n : ℕ). 0 < n) (sym is) (crypto_length_some plan.site at.period.begun.is_plan.site) in
    subst (λ (t : ℕ). IsBeforePeriod plan t entitling) (sym (next_quotient length j some whole))
    (subst (λ (n : ℕ). IsPeriodState plan (j / n) entitling) (sym is) at)

-- and where none does, it is that of the packet before
pub stays : (plan : Plan) (k length : ℕ) (entitling : Entitling) → IsPeriodAt plan k entitling →
    length ≡ crypto_length plan.site →
    k % length ≢ 0 → IsPeriodState plan (crypto_of plan.site k) entitling
unfolding crypto_of
stays plan zero length entitling at is other =
    let some : 0 < length = subst (λ (n : ℕ). 0 < n) (sym is) (crypto_length_some plan.site at.is_plan.site) in
    absurd (other (omega (arith, some)))
stays plan (suc j) length entitling at is other =
    let some : 0 < length =
    subst (λ (n : ℕ). 0 < n) (sym is) (crypto_length_some plan.site at.period.begun.is_plan.site) in
    subst (λ (t : ℕ). IsPeriodState plan t entitling)
    (ap (λ (n : ℕ). j / n) (sym is) ∙ (same_quotient length j some other ∙ ap (λ (n : ℕ). suc j / n) is)) at

-- the control word that begins with packet k is that of the packet
pub word_begins : (plan : Plan) (k length : ℕ) → length ≡ crypto_length plan.site → word_of plan.site k < 2 ^ 32 →
    plan.site.first_word + k / length < 2 ^ 32
unfolding word_of crypto_of
word_begins plan k length is small = rw is small

-- the crypto period that began is that of packet k
pub begun_at : (plan : Plan) (k length : ℕ) (entitling : Entitling) → length ≡ crypto_length plan.site →
    IsPeriodState plan (k / length) entitling → IsPeriodState plan (crypto_of plan.site k) entitling
unfolding crypto_of
begun_at plan k length entitling is of = subst (λ (n : ℕ). IsPeriodState plan (k / n) entitling) is of

-- what holds stands after an error
pub on_err_holds : {A E : Type 0} (result : Result A E) (P : Type 0) → P → OnErr result P
on_err_holds (Ok x) P holds = tt
on_err_holds (Err fault) P holds = holds

-- and a period begins with that packet where one begins with the crypto period
pub begins_there : (plan : Plan) (k length : ℕ) → length ≡ crypto_length plan.site → k % length ≡ 0 →
    begins_period plan (k / length) ≡ true → begins_with plan k ≡ true
unfolding begins_with crypto_of
begins_there plan k length is whole begins =
    let zero' : (k % crypto_length plan.site == 0) ≡ true =
    eq-eqb (k % crypto_length plan.site) 0 (subst (λ (n : ℕ). k % n ≡ 0) is whole) in
    let period : begins_period plan (k / crypto_length plan.site) ≡ true =
    subst (λ (n : ℕ). begins_period plan (k / n) ≡ true) is begins in
    rw zero' period

-- packet 0 is of crypto period 0
pub first_at : (plan : Plan) (count : ℕ) (entitling : Entitling) → count ≡ 0 → IsPeriodState plan 0 entitling →
    IsPeriodState plan (crypto_of plan.site (count - 1)) entitling
unfolding crypto_of
first_at plan count entitling none of =
    let before : count - 1 ≡ 0 = omega (arith, none) in
    rw before (subst (λ (t : ℕ). IsPeriodState plan t entitling) (sym (zero-div (crypto_length plan.site))) of)

-- and they are at work after a packet of that crypto period
pub at_next : (plan : Plan) (k : ℕ) (entitling : Entitling) → IsPeriodState plan (crypto_of plan.site k) entitling →
    IsPeriodAt plan (k + 1) entitling
at_next plan k entitling of =
    let one : k + 1 ≡ suc k = omega arith in
    rw one of

-- the index has the leaves that are revoked in the period at work
pub revoked_now : (plan : Plan) (k : ℕ) (entitling : Entitling) → IsPeriodState plan (crypto_of plan.site k) entitling →
    entitling.index.revoked ≡ revoked plan.site.height plan.commands (period_of plan k)
unfolding period_of
revoked_now plan k entitling of =
    let one : period_of plan k + 1 ≡ suc (period_of plan k) = omega arith in
    of.period.begun.revoked_are ∙ ap (revoked_before plan.site.height plan.commands) one
