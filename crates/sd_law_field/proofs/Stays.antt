-- What is confirmed to a receiver depends on no later event.
use Rattle.std.proofs.Common.{arith, ◌≡◌, ℕ, ◌+◌, ◌*◌, ◌/◌, ◌<◌, ◌≤◌, Bool, true, false, List, [], ◌∷◌, ◌++◌, refl}
use Rattle.std.proofs.Common.{ap, sym, ◌∙◌, length, length-append, inl, inr, nat_lt, nat_le, ◌⊎◌}
use Rattle.std.specs.Prelude.{◌&&◌, filter, if◌then◌else◌, Option, Some, None}
use Rattle.std.specs.List.{flat_map, list_any, range_with_len}
use Rattle.std.proofs.lemmas.Bool.{cases_Bool}
use Rattle.std.proofs.lemmas.Bool.Decides.{nat_tests}
use Rattle.std.proofs.lemmas.List.{length-take}
use Rattle.std.proofs.Math.Nat.{le-div_iff_mul-le}
use Rattle.sd_base.specs.Types.{Packets}
use Rattle.sd_site_cards.specs.SiteFields.{SiteFields, AreInRange}
use Rattle.sd_book.specs.declared.command.Command.{Command}
use Rattle.sd_book.specs.Limits.{most_periods}
use Rattle.sd_book.specs.Commands.{last_period, revoked, revoked_after}
use Rattle.sd_book.proofs.Cuts.{revoked_past}
use Rattle.sd_cover_tracing.proofs.Ranges.{filter_same}
use Rattle.sd_spec.specs.Plan.{period_of, sets_at, closing_number}
use Rattle.sd_spec.specs.Messages.{period_at, message_at}
use Rattle.sd_spec.specs.Sent.{Item, Cat, tables_at, added, sent_from, sent}
use Rattle.sd_spec.specs.declared.event.Event.{Event}
use Rattle.sd_spec.specs.Book.{sends, event_book, plan_after}
use Rattle.sd_spec.specs.Watch.{Watch, watch, times, at_places}
use Rattle.sd_spec.proofs.Sends.{sends_rise, reached_rises}
use Rattle.sd_spec.proofs.Books.{book_reaches, book_short, later_events, period_is, period_kept}
use Rattle.sd_spec.proofs.Agreeing.{with_book, AgreeAt}
use Rattle.sd_spec.proofs.Offers.{watch_stays}
use Rattle.sd_law_losses.specs.Kept.{arrived, greatest_at_most, least_above, after_cat, is_kept}
use Rattle.sd_law_losses.specs.Confirmed.{is_open, tracked_position, is_traced, between}
use Rattle.sd_law_losses.specs.Confirmed.{is_written_between, is_confirmed_at}
use Rattle.sd_law_field.specs.Times.{kept_at, confirmed_places_in, confirmed_to_leaf, clear_sent_in}

-- Two books of a site that agree on all packets.

added_agrees : (site : SiteFields) (a b : List Command) (before : List (List ℕ)) (packet : List ℕ) →
    AgreeAt site a b (length before) → added (with_book site a) before packet ≡ added (with_book site b) before packet
unfolding added tables_at period_at message_at
added_agrees site a b before packet (same, sets) = rw (sets, same) refl

from_agrees : (site : SiteFields) (a b : List Command) (before packets : List (List ℕ)) →
    ((k : ℕ) → k < length before + length packets → AgreeAt site a b k) →
    sent_from (with_book site a) before packets ≡ sent_from (with_book site b) before packets
unfolding sent_from
from_agrees site a b before [] agree = refl
from_agrees site a b before (packet ∷ packets) agree =
    let long = length-append before (packet ∷ []) in
    rw (added_agrees site a b before packet (agree (length before) (omega arith)))
    (ap (λ (rest : List Item). added (with_book site b) before packet ++ rest)
    (from_agrees site a b (before ++ packet ∷ []) packets (λ k within. agree k (omega (arith, within, long)))))

-- the greatest at most n is at most n
greatest_within : (n a : ℕ) (numbers : List ℕ) → greatest_at_most n numbers ≡ Some a → a ≤ n
unfolding greatest_at_most
greatest_within n a [] is = absurd (cc is)
greatest_within n a (b ∷ numbers) is = by_test (cases_Bool (nat_lt n b)) (λ rest. greatest_within n a numbers rest)
  where
    by_more : (c : Bool) → (if c then greatest_at_most n numbers else Some b) ≡ Some a → b ≤ n →
        (greatest_at_most n numbers ≡ Some a → a ≤ n) → a ≤ n
    by_more true is below rest = rest is
    by_more false is below rest = let same : b ≡ a = cc is in omega (arith, same, below)

    by_test : (nat_lt n b ≡ true) ⊎ (nat_lt n b ≡ false) → (greatest_at_most n numbers ≡ Some a → a ≤ n) → a ≤ n
    by_test (inl above) rest = absurd (cc (rw above at is))
    by_test (inr within) rest = by_more (list_any (λ b. nat_le b n) numbers) (rw within at is) (grind
        (arith, nat_tests, within)) rest

module _ (site : SiteFields) (a b : List Command) (clear : List (List ℕ)) (u : ℕ)
    (agree : (k : ℕ) → k < length clear → AgreeAt site a b k) where
  sent_agrees : sent (with_book site a) clear ≡ sent (with_book site b) clear
  sent_agrees = from_agrees site a b [] clear (λ k within. agree k (omega (arith, within)))

  -- what is written between two messages, the first of which is before a packet of the stream
  written_agrees : (kept : List Item) (j x y : ℕ) → x * site.every < length clear →
      is_written_between (with_book site a) u clear kept j x y
      ≡ is_written_between (with_book site b) u clear kept j x y
  unfolding is_open is_traced tracked_position
  written_agrees kept j x y within = rw ((agree (x * site.every) within).0) refl

  confirmed_agrees : (kept : List Item) (j : ℕ) → AreInRange site → j < length clear →
      is_confirmed_at (with_book site a) u clear kept j ≡ is_confirmed_at (with_book site b) u clear kept j
  unfolding is_confirmed_at
  confirmed_agrees kept j r inside =
      ap (λ (test : Bool). is_kept kept j && test)
      (by_both (greatest_at_most (j / site.every) numbers) (least_above (j / site.every) numbers) refl)
    where
      numbers : List ℕ
      numbers = arrived (closing_number site (length clear)) kept

      by_both : (low high : Option ℕ) → greatest_at_most (j / site.every) numbers ≡ low →
          between low high (λ x y. is_written_between (with_book site a) u clear kept j x y)
          ≡ between low high (λ x y. is_written_between (with_book site b) u clear kept j x y)
      by_both None high is = refl
      by_both (Some x) None is = refl
      by_both (Some x) (Some y) is =
          let below = greatest_within (j / site.every) x numbers is in
          let some : 0 < site.every = omega (arith, r.every.0) in
          let first : x * site.every ≤ j = (le-div_iff_mul-le some).0 below in
          written_agrees kept j x y (omega (arith, first, inside))

  places_agree : (places : List ℕ) → AreInRange site →
      confirmed_places_in (with_book site a) u clear places ≡ confirmed_places_in (with_book site b) u clear places
  unfolding confirmed_places_in
  places_agree places r =
      ap (λ (items : List Item). filter (is_confirmed_at (with_book site a) u clear
      (after_cat (at_places Cat items places))) (range_with_len 0 (length clear))) sent_agrees
      ∙ filter_same (is_confirmed_at (with_book site a) u clear (kept_at (with_book site b) clear places))
      (is_confirmed_at (with_book site b) u clear (kept_at (with_book site b) clear places)) 0 (length clear)
      (λ j inside. confirmed_agrees (kept_at (with_book site b) clear places) j r (omega (arith, inside)))

  all_agree : (xss : List (List ℕ)) → AreInRange site →
      flat_map (confirmed_places_in (with_book site a) u clear) xss
      ≡ flat_map (confirmed_places_in (with_book site b) u clear) xss
  all_agree [] r = refl
  all_agree (xs ∷ xss) r =
      rw (places_agree xs r)
      (ap (λ (rest : List ℕ). confirmed_places_in (with_book site b) u clear xs ++ rest) (all_agree xss r))

-- The books of some events, and of more.

revoked_stay : (site : SiteFields) (m : ℕ) (later past : List Event) (k : ℕ) → AreInRange site → k < sends m past →
    revoked site.height (event_book site m (later ++ past)) (period_of (plan_after site m past) k)
    ≡ revoked site.height (event_book site m past) (period_of (plan_after site m past) k)
revoked_stay site m later past k r below =
    let q : ℕ = period_of (plan_after site m past) k in
    let more = sends_rise m later past in
    elim (period_kept site m past k r below) [
      | inl within ↦
          ap (revoked_after site.height) (later_events site m later past q r (omega (arith, below)) within)
      | inr (past_all, all, last) ↦
          let up = reached_rises site (sends m past) (sends m (later ++ past)) r more in
          let high : last_period (event_book site m (later ++ past)) ≡ most_periods =
          omega (arith, up, all, book_reaches site m (later ++ past), book_short site m (later ++ past)) in
          revoked_past site.height q (event_book site m (later ++ past)) (omega (arith, past_all, high))
          ∙ (ap (revoked site.height (event_book site m (later ++ past))) high
          ∙ (ap (revoked_after site.height)
          (later_events site m later past most_periods r (omega (arith, below)) (omega (arith, all)))
          ∙ (ap (revoked site.height (event_book site m past)) (sym last)
          ∙ sym (revoked_past site.height q (event_book site m past) (omega (arith, past_all, last))))))
    ]

sets_stay : (site : SiteFields) (m : ℕ) (later past : List Event) (k : ℕ) → AreInRange site → k < sends m past →
    sets_at (plan_after site m (later ++ past)) (period_of (plan_after site m past) k)
    ≡ sets_at (plan_after site m past) (period_of (plan_after site m past) k)
unfolding sets_at
sets_stay site m later past k r below = rw (revoked_stay site m later past k r below) refl

events_agree : (site : SiteFields) (m : ℕ) (later past : List Event) (k : ℕ) → AreInRange site → k < sends m past →
    AgreeAt site (event_book site m (later ++ past)) (event_book site m past) k
events_agree site m later past k r below =
    let more = sends_rise m later past in
    let same : period_of (plan_after site m (later ++ past)) k ≡ period_of (plan_after site m past) k =
    period_is site m (later ++ past) k r (omega (arith, below, more)) ∙ sym (period_is site m past k r below) in (
      same,
      ap (sets_at (plan_after site m (later ++ past))) same ∙ sets_stay site m later past k r below,
    )

-- the numbers of the packets that are confirmed
pub places_stay : (site : SiteFields) (later past : List Event) (clear : Packets) (u : ℕ) → AreInRange site →
    confirmed_to_leaf (plan_after site (length clear) (later ++ past)) u (clear_sent_in clear past)
    (watch (plan_after site (length clear) (later ++ past)) clear u past)
    ≡ confirmed_to_leaf (plan_after site (length clear) past) u (clear_sent_in clear past)
    (watch (plan_after site (length clear) past) clear u past)
unfolding confirmed_to_leaf
places_stay site later past clear u r =
    let m : ℕ = length clear in
    let short = length-take (sends m past) clear in
    ap (λ (w : Watch). flat_map (confirmed_places_in (plan_after site m (later ++ past)) u (clear_sent_in clear past))
    (times w))
    (watch_stays site later past clear u r)
    ∙ all_agree site (event_book site m (later ++ past)) (event_book site m past) (clear_sent_in clear past) u
    (λ k within. events_agree site m later past k r (omega (arith, within, short)))
    (times (watch (plan_after site m past) clear u past)) r
