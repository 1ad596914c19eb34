-- How many packets are sent, and which periods are on air then.
use Rattle.std.proofs.Common.{arith, ◌≡◌, ℕ, zero, suc, ◌+◌, ◌/◌, ◌<◌, ◌≤◌, List, [], ◌∷◌, ◌++◌, ap, sym, ◌∙◌}
use Rattle.std.proofs.Common.{Bool, true, false, nat_lt}
use Rattle.std.specs.Prelude.{min, count_by, if◌then◌else◌}
use Rattle.std.proofs.lemmas.Grind.{common_steps}
use Rattle.std.proofs.lemmas.Bool.Decides.{nat_tests}
use Rattle.sd_site_cards.specs.SiteFields.{SiteFields, AreInRange}
use Rattle.sd_book.specs.Limits.{most_periods}
use Rattle.sd_spec.specs.Plan.{crypto_length, crypto_of}
use Rattle.sd_spec.proofs.Schedule.{quotients_rise, quotients_step, crypto_length_some, cryptos_rise}
use Rattle.sd_spec.specs.declared.event.Event.{Event}
use Rattle.sd_spec.specs.Events.{is_send, sends_with}
use Rattle.sd_spec.specs.Book.{sends, open_period, period_after, period_to_reach}

-- an event sends one packet at most
one_at_most : (b c : Bool) (k : ℕ) → k ≤ (if b then (if c then suc k else k) else k)
one_at_most true true k = omega arith
one_at_most true false k = omega arith
one_at_most false c k = omega arith

pub sends_up : (m k : ℕ) (event : Event) → k ≤ sends_with m event k
sends_up m k event = one_at_most (is_send event) (nat_lt k m) k

-- what later events send is more
pub sends_rise : (m : ℕ) (later past : List Event) → sends m past ≤ sends m (later ++ past)
unfolding sends
sends_rise m [] past = omega arith
sends_rise m (event ∷ later) past =
    omega (arith, sends_rise m later past, sends_up m (sends m (later ++ past)) event)

-- an event sends a packet if it is a send and one is left
counted_with : (b : Bool) (m n k : ℕ) → k ≡ min m n →
    (if b then (if nat_lt k m then suc k else k) else k) ≡ min m (if b then suc n else n)
counted_with true m n k e = grind (arith, nat_tests, e)
counted_with false m n k e = e

-- the number of sends with one event more
sends_more : (event : Event) (past : List Event) →
    count_by is_send (event ∷ past) ≡ (if is_send event then suc (count_by is_send past) else count_by is_send past)
sends_more event past = grind (arith, common_steps)

-- as many packets are sent as there are sends, or as there are packets
pub sends_are_counted : (m : ℕ) (past : List Event) → sends m past ≡ min m (count_by is_send past)
unfolding sends
sends_are_counted m [] = omega arith
sends_are_counted m (event ∷ past) =
    counted_with (is_send event) m (count_by is_send past) (sends m past) (sends_are_counted m past)
    ∙ ap (min m) (sym (sends_more event past))

-- open periods never fall
pub open_rises : (site : SiteFields) (j k : ℕ) → AreInRange site → j ≤ k → open_period site j ≤ open_period site k
open_rises site j k r below =
    let up = quotients_rise site.span (crypto_of site j) (crypto_of site k) (omega (arith, r.span.0))
    (cryptos_rise site j k r below) in
    omega (arith, up)

-- and the one after one is the next at most
pub open_step : (site : SiteFields) (k : ℕ) → AreInRange site → open_period site (k + 1) ≤ open_period site k + 1
unfolding crypto_of
open_step site k r =
    let some : 0 < site.span = omega (arith, r.span.0) in
    let crypto = quotients_step (crypto_length site) k (crypto_length_some site r) in
    let up = quotients_rise site.span ((k + 1) / crypto_length site) (k / crypto_length site + 1) some crypto in
    let step = quotients_step site.span (k / crypto_length site) some in
    omega (arith, up, step)

-- the periods of commands never fall
pub after_rises : (site : SiteFields) (j k : ℕ) → AreInRange site → j ≤ k → period_after site j ≤ period_after site k
after_rises site zero k r below = omega arith
after_rises site (suc j) zero r below = absurd (omega (arith, below))
after_rises site (suc j) (suc k) r below = omega (arith, open_rises site j k r (omega (arith, below)))

-- nor do those that a book has to have
pub reached_rises : (site : SiteFields) (j k : ℕ) → AreInRange site → j ≤ k →
    period_to_reach site j ≤ period_to_reach site k
reached_rises site zero k r below = omega arith
reached_rises site (suc j) zero r below = absurd (omega (arith, below))
reached_rises site (suc j) (suc k) r below = omega (arith, open_rises site j k r (omega (arith, below)))

-- a command after a send is of a later period than the one on air
pub after_is_above : (site : SiteFields) (k : ℕ) → 0 < k → period_to_reach site k < period_after site k
after_is_above site zero some = absurd (omega (arith, some))
after_is_above site (suc k) some = omega arith

-- it is of the next period, if a book can have it
pub after_is_next : (site : SiteFields) (k : ℕ) → 0 < k → period_after site k ≤ most_periods →
    period_after site k ≡ period_to_reach site k + 1
after_is_next site zero some within = absurd (omega (arith, some))
after_is_next site (suc k) some within = omega (arith, within)

-- a book that has reached a period has it for a command too
pub reached_within : (site : SiteFields) (k : ℕ) → period_to_reach site k ≤ period_after site k
reached_within site zero = omega arith
reached_within site (suc k) = omega arith

-- no book has to have a period that no book can have
pub reached_short : (site : SiteFields) (k : ℕ) → period_to_reach site k ≤ most_periods
reached_short site zero = omega arith
reached_short site (suc k) = omega arith

-- both with a packet more
pub both_rise : (site : SiteFields) (j k : ℕ) → AreInRange site → j ≤ k →
    (period_to_reach site j ≤ period_to_reach site k) × (period_after site j ≤ period_after site k)
both_rise site j k r below = (reached_rises site j k r below, after_rises site j k r below)

-- with a packet after the first they rise by at most one
pub both_step : (site : SiteFields) (k : ℕ) → AreInRange site → 0 < k →
    (period_to_reach site (k + 1) ≤ period_to_reach site k + 1) × (period_after site (k + 1) ≤ period_after site k + 1)
both_step site zero r some = absurd (omega (arith, some))
both_step site (suc k) r some =
    let step = open_step site k r in
    let same : suc k + 1 ≡ suc (k + 1) = omega arith in
    rw same (omega (arith, step), omega (arith, step))
