-- Public meaning: what is kept of the period and the crypto period at work.
use Rattle.std.specs.Prelude.{◌≡◌, ℕ, zero, suc, ◌+◌, ◌-◌, ◌==◌, ◌||◌, not, Bool, min, List, []}
use Rattle.std.specs.Prelude.{map, slice_set}
use Rattle.sd_site_cards.specs.declared.site.Site.{Site}
use Rattle.sd_site_cards.specs.SiteFields.{site_fields_of}
use Rattle.sd_book.specs.Value.{BookValue}
use Rattle.sd_book.specs.declared.command.Command.{Command}
use Rattle.sd_book.specs.Commands.{last_period, revoked}
use Rattle.sd_book.specs.Place.{IsPlaceIn}
use Rattle.sd_spec.specs.Plan.{Plan, IsPlan, word_in, period_in}
use Rattle.sd_spec.specs.Messages.{period_at}
use Rattle.sd_head.specs.Crypto.{crypto_in}
use Rattle.sd_head.specs.Packets.{period_packets}
use Rattle.sd_head.specs.declared.entitling.Entitling.{Entitling}

-- the plan of a site and a book
abbrev pub plan_of : Site → BookValue → Plan
plan_of site book = record { site = site_fields_of site; commands = book.commands }

-- a period begins with crypto period n
unfoldable pub begins_period : Plan → ℕ → Bool
begins_period plan n = (n == 0) || not (period_in plan (n - 1) == period_in plan n)

-- the leaves that are revoked in the period before q; none before the first
abbrev pub revoked_before : ℕ → List Command → ℕ → List ℕ
revoked_before d commands zero = []
revoked_before d commands (suc q) = revoked d commands q

-- the commands of the first periods, so many of them or all that the book has, are taken
pub record HasBegun (plan : Plan) (periods : ℕ) (state : Entitling) : Type 0 where
  pub is_plan : IsPlan plan
  pub commands : state.book.commands ≡ plan.commands
  pub of_height : state.book.height ≡ plan.site.height
  pub place : IsPlaceIn plan.commands state.place
  pub next : state.place.next ≡ min periods (last_period plan.commands + 1)
  pub height : state.index.height ≡ plan.site.height
  pub revoked_are : state.index.revoked ≡ revoked_before plan.site.height plan.commands periods

-- no crypto period has begun
abbrev pub IsUnbegun : Plan → Entitling → Type 0
IsUnbegun plan state = HasBegun plan 0 state

-- the packet under counter 0
abbrev pub uncounted : List ℕ → List ℕ
uncounted packet = slice_set packet 3 0x10

-- the same packets but for their counters
abbrev pub AreAlikeButCounters : List (List ℕ) → List (List ℕ) → Type 0
AreAlikeButCounters packets others = map uncounted packets ≡ map uncounted others

-- period q is at work, and its packets are kept under any counters
pub record IsInPeriod (plan : Plan) (q : ℕ) (state : Entitling) : Type 0 where
  pub begun : HasBegun plan (q + 1) state
  pub emms : map uncounted state.emms.items ≡ period_packets plan.site.emm (period_at plan q)

-- crypto period n is at work
pub record IsPeriodState (plan : Plan) (n : ℕ) (state : Entitling) : Type 0 where
  pub period : IsInPeriod plan (period_in plan n) state
  pub crypto : state.crypto ≡ crypto_in plan.site.master (period_in plan n) (word_in plan.site n)

-- crypto period n is the next to begin
abbrev pub IsBeforePeriod : Plan → ℕ → Entitling → Type 0
IsBeforePeriod plan zero state = IsUnbegun plan state
IsBeforePeriod plan (suc n) state = IsPeriodState plan n state
