-- What is sent for a clear stream depends on the book's periods of its packets alone.
use Rattle.std.proofs.Common.{arith, ◌≡◌, ℕ, ◌+◌, ◌<◌, ◌≤◌, List, [], ◌∷◌, ◌++◌, refl, ap, sym, ◌∙◌}
use Rattle.std.proofs.Common.{length, length-append, inl, inr, subst}
use Rattle.sd_site_cards.specs.SiteFields.{SiteFields, AreInRange}
use Rattle.sd_book.specs.declared.command.Command.{Command}
use Rattle.sd_book.specs.Limits.{most_periods}
use Rattle.sd_book.specs.Commands.{last_period, revoked, revoked_after}
use Rattle.sd_book.proofs.Cuts.{revoked_past}
use Rattle.sd_spec.specs.Plan.{Plan, period_of, sets_at}
use Rattle.sd_spec.specs.Messages.{period_at, message_at}
use Rattle.sd_spec.specs.Sent.{Item, tables_at, added, sent_from, packets_from, body}
use Rattle.sd_spec.specs.declared.event.Event.{Event}
use Rattle.sd_spec.specs.Book.{sends, event_book, plan_after}
use Rattle.sd_spec.proofs.Sends.{sends_rise, reached_rises}
use Rattle.sd_spec.proofs.Books.{book_reaches, book_short, later_events, period_is, period_kept}

-- the site with a book
abbrev pub with_book : SiteFields → List Command → Plan
with_book site commands = record { site = site; commands = commands }

-- two books of a site agree on packet k: on its period, and on the sets of that period
abbrev pub AgreeAt : SiteFields → List Command → List Command → ℕ → Type 0
AgreeAt site a b k = (period_of (with_book site a) k ≡ period_of (with_book site b) k)
    × (sets_at (with_book site a) (period_of (with_book site a) k)
    ≡ sets_at (with_book site b) (period_of (with_book site b) k))

-- what is added with a packet
added_agrees : (site : SiteFields) (a b : List Command) (before : List (List ℕ)) (packet : List ℕ) →
    AgreeAt site a b (length before) → added (with_book site a) before packet ≡ added (with_book site b) before packet
unfolding added tables_at period_at message_at
added_agrees site a b before packet (same, sets) = rw (sets, same) refl

-- what is sent for packets after others
from_agrees : (site : SiteFields) (a b : List Command) (before packets : List (List ℕ)) →
    ((k : ℕ) → k < length before + length packets → AgreeAt site a b k) →
    sent_from (with_book site a) before packets ≡ sent_from (with_book site b) before packets
unfolding sent_from
from_agrees site a b before [] agree = refl
from_agrees site a b before (packet ∷ packets) agree =
    let long = length-append before (packet ∷ []) in
    rw (added_agrees site a b before packet (agree (length before) (omega arith)))
    (ap (λ (rest : List Item). added (with_book site b) before packet ++ rest)
    (from_agrees site a b (before ++ packet ∷ []) packets (λ k within. agree k (omega (arith, within, long)))))

-- the packets that are sent for a clear stream
pub bodies_agree : (site : SiteFields) (a b : List Command) (clear : List (List ℕ)) →
    ((k : ℕ) → k < length clear → AgreeAt site a b k) → body (with_book site a) clear ≡ body (with_book site b) clear
unfolding body
bodies_agree site a b clear agree =
    ap (packets_from site []) (from_agrees site a b [] clear (λ k within. agree k (omega (arith, within))))

-- later events change none of the revoked leaves of a packet that was sent
revoked_stay : (site : SiteFields) (m : ℕ) (later past : List Event) (k : ℕ) → AreInRange site → k < sends m past →
    revoked site.height (event_book site m (later ++ past)) (period_of (plan_after site m past) k)
    ≡ revoked site.height (event_book site m past) (period_of (plan_after site m past) k)
revoked_stay site m later past k r below =
    let q : ℕ = period_of (plan_after site m past) k in
    let more = sends_rise m later past in
    elim (period_kept site m past k r below) [
      | inl within ↦
          ap (revoked_after site.height) (later_events site m later past q r (omega (arith, below)) within)
      | inr (past_all, all, last) ↦
          let up = reached_rises site (sends m past) (sends m (later ++ past)) r more in
          let high : last_period (event_book site m (later ++ past)) ≡ most_periods =
          omega (arith, up, all, book_reaches site m (later ++ past), book_short site m (later ++ past)) in
          revoked_past site.height q (event_book site m (later ++ past)) (omega (arith, past_all, high))
          ∙ (ap (revoked site.height (event_book site m (later ++ past))) high
          ∙ (ap (revoked_after site.height)
          (later_events site m later past most_periods r (omega (arith, below)) (omega (arith, all)))
          ∙ (ap (revoked site.height (event_book site m past)) (sym last)
          ∙ sym (revoked_past site.height q (event_book site m past) (omega (arith, past_all, last))))))
    ]

-- nor any of its sets
sets_stay : (site : SiteFields) (m : ℕ) (later past : List Event) (k : ℕ) → AreInRange site → k < sends m past →
    sets_at (plan_after site m (later ++ past)) (period_of (plan_after site m past) k)
    ≡ sets_at (plan_after site m past) (period_of (plan_after site m past) k)
unfolding sets_at
sets_stay site m later past k r below = rw (revoked_stay site m later past k r below) refl

-- so the two books agree on it
events_agree : (site : SiteFields) (m : ℕ) (later past : List Event) (k : ℕ) → AreInRange site → k < sends m past →
    AgreeAt site (event_book site m (later ++ past)) (event_book site m past) k
events_agree site m later past k r below =
    let more = sends_rise m later past in
    let same : period_of (plan_after site m (later ++ past)) k ≡ period_of (plan_after site m past) k =
    period_is site m (later ++ past) k r (omega (arith, below, more)) ∙ sym (period_is site m past k r below) in (
      same,
      ap (sets_at (plan_after site m (later ++ past))) same ∙ sets_stay site m later past k r below,
    )

-- what was sent depends on no later event
pub what_was_sent_stays : (site : SiteFields) (m : ℕ) (later past : List Event) (clear : List (List ℕ)) →
    AreInRange site → length clear ≤ sends m past →
    body (plan_after site m (later ++ past)) clear ≡ body (plan_after site m past) clear
what_was_sent_stays site m later past clear r enough =
    bodies_agree site (event_book site m (later ++ past)) (event_book site m past) clear
    (λ k within. events_agree site m later past k r (omega (arith, within, enough)))

-- the same of two plans of one site
pub plans_agree : (a b : Plan) (clear : List (List ℕ)) → a.site ≡ b.site →
    ((k : ℕ) → k < length clear → period_of a k ≡ period_of b k) →
    ((k : ℕ) → k < length clear → sets_at a (period_of a k) ≡ sets_at b (period_of b k)) → body a clear ≡ body b clear
plans_agree a b clear one =
    subst (λ (site : SiteFields). ((k : ℕ) → k < length clear → period_of a k ≡ period_of (with_book site b.commands) k)
    → ((k : ℕ) → k < length clear →
    sets_at a (period_of a k) ≡ sets_at (with_book site b.commands) (period_of (with_book site b.commands) k))
    → body a clear ≡ body (with_book site b.commands) clear) one
    (λ periods sets. bodies_agree a.site a.commands b.commands clear (λ k within. (periods k within, sets k within)))
