-- Public meaning: broadcasts under one master, and what each of them uses.
use Rattle.std.specs.Prelude.{◌≡◌, ◌⊎◌, ℕ, ◌-◌, ◌<◌, ◌≤◌, List, ◌++◌, length, get_or, take, slice_get, Some, All, Bool}
use Rattle.std.specs.Prelude.{[]}
use Rattle.sd_base.specs.Types.{Packet, Packets, Key, Leaves, PeriodNumber, CryptoNumber, WordNumber}
use Rattle.sd_base.specs.Types.{PacketNumber}
use Rattle.sd_site_cards.specs.SiteFields.{SiteFields}
use Rattle.sd_book.specs.Commands.{revoked}
use Rattle.sd_spec.specs.Plan.{Plan, IsPlan, crypto_of, word_in, period_in}
use Rattle.sd_spec.specs.Kinds.{kind_of, is_scrambled}
use Rattle.sd_spec.specs.Refused.{IsSendable}
use Rattle.sd_spec.specs.Sent.{Item, sent, closing_of}

-- a broadcast: its site and book, and its clear stream
pub record Run : Type 0 where
  pub plan : Plan
  pub clear : Packets

-- The site and the book of the run are within their limits, the site has this master, and each packet of the clear
-- stream can be sent.
pub record IsRun (master : Key) (run : Run) : Type 0 where
  pub plan_fits : IsPlan run.plan
  pub master_is : run.plan.site.master ≡ master
  pub is_sendable : IsSendable run.plan.site run.clear

-- all that the run sends, in order [this project, docs/FORMATS.md, Broadcast]
unfoldable pub run_sent : Run → List Item
run_sent run = sent run.plan run.clear ++ closing_of run.plan run.clear

-- clear packet k of the run
abbrev pub run_packet : Run → PacketNumber → Packet
run_packet run k = get_or run.clear k []

-- the run scrambles its clear packet k [this project, docs/FORMATS.md, Broadcast]
unfoldable pub is_veiled : Run → PacketNumber → Bool
is_veiled run k = is_scrambled (kind_of (take k run.clear) (run_packet run k))

-- the site may use a control word [this project, docs/FORMATS.md, Site]
abbrev pub HasWords : SiteFields → Type 0
HasWords site = site.first_word ≤ site.last_word

-- no control word is of both sites: the last one of either is below the first one of the other [this project,
-- docs/FORMATS.md, Site]
abbrev pub ShareNoWord : SiteFields → SiteFields → Type 0
ShareNoWord a b = (a.last_word < b.first_word) ⊎ (b.last_word < a.first_word)

-- The site of each run may use a control word, and those of any two runs have none in common. It speaks of sites alone.
pub record HaveOwnWords (runs : List Run) : Type 0 where
  pub some : All (λ run. HasWords run.plan.site) runs
  pub apart : (i j : ℕ) (a b : Run) → slice_get runs i ≡ Some a → slice_get runs j ≡ Some b → i < j
      → ShareNoWord a.plan.site b.plan.site

-- the last crypto period of the run; the first one if there is no packet [this project, docs/FORMATS.md, Broadcast]
unfoldable pub last_crypto : Run → CryptoNumber
last_crypto run = crypto_of run.plan.site (length run.clear - 1)

-- the run sends control word t under the key of period q: both are of one of its crypto periods
abbrev pub UsesWord : Run → WordNumber → PeriodNumber → Type 0
UsesWord run t q = (n : ℕ) × (n ≤ last_crypto run) × (t ≡ word_in run.plan.site n) × (q ≡ period_in run.plan n)

-- some crypto period of the run is of period q
abbrev pub UsesPeriod : Run → PeriodNumber → Type 0
UsesPeriod run q = (t : ℕ) × UsesWord run t q

-- the leaves that the run's book revokes in period q, ascending [this project, docs/FORMATS.md, Book]
abbrev pub revoked_in : Run → PeriodNumber → Leaves
revoked_in run q = revoked run.plan.site.height run.plan.commands q

-- the books of two runs revoke the same leaves in each period that both use
abbrev pub AgreeOnPeriods : Run → Run → Type 0
AgreeOnPeriods a b = (q : ℕ) → UsesPeriod a q → UsesPeriod b q → revoked_in a q ≡ revoked_in b q

-- those of any two of the runs do
abbrev pub AllAgree : List Run → Type 0
AllAgree runs = (i j : ℕ) (a b : Run) → slice_get runs i ≡ Some a → slice_get runs j ≡ Some b → i < j →
    AgreeOnPeriods a b
