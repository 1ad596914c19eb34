-- Public meaning: what a broadcast has of what `plan` prints for a stream of so many packets and PIDs
-- [this project, docs/FORMATS.md, Plan].
use Rattle.std.specs.Prelude.{◌≡◌, ℕ, ◌+◌, ◌*◌, ◌<◌, ◌≤◌, ◌==◌, Bool, false, List, ◌++◌, length, count_by, Contains}
use Rattle.sd_base.specs.Types.{Packets, PeriodNumber, WordNumber, PacketNumber}
use Rattle.sd_message.specs.EcmVersions.{positions_for}
use Rattle.sd_message.specs.declared.ecm_part.EcmPart.{EcmPart}
use Rattle.sd_spec.specs.Plan.{Plan, period_of, word_of}
use Rattle.sd_spec.specs.Sent.{Item, Cat, Entitles, Controls, Carries, broadcast, closing_of, sent}
use Rattle.sd_law_broadcast.specs.Named.{NamesPeriod, sets_named}
use Rattle.sd_run_books.specs.Air.{added_most, cryptos_for, cryptos_in, entitlements_at, last_word_for, periods_for}

-- the thing is a section of the entitlements of period q
abbrev pub is_entitlement_of : PeriodNumber → Item → Bool
is_entitlement_of q Cat = false
is_entitlement_of q (Entitles emm) = emm.period == q
is_entitlement_of q (Controls part) = false
is_entitlement_of q (Carries k packet) = false

-- the periods that are printed for this number of packets
abbrev pub printed_periods : Plan → ℕ → List PeriodNumber
printed_periods plan m = periods_for plan (cryptos_for plan.site m)

-- of a clear stream of which at most n PIDs have positions
pub record IsWithinPlan (plan : Plan) (n : ℕ) (clear : Packets) : Type 0 where
  -- no more packets are sent than are printed, and exactly as many if one part has room for all positions
  pub packets : length (broadcast plan clear) ≤ length clear + added_most plan (length clear) n
  pub exact : n ≤ positions_for plan.site.messages →
      length (broadcast plan clear) ≡ length clear + added_most plan (length clear) n
  -- the periods that are printed are those of the packets, and no others
  pub told : (k : PacketNumber) → k < length clear → Contains (printed_periods plan (length clear)) (period_of plan k)
  pub reached : (q : PeriodNumber) → Contains (printed_periods plan (length clear)) q →
      (k : PacketNumber) × (k < length clear) × (period_of plan k ≡ q)
  -- each names its sets in what is sent
  pub names : (q : PeriodNumber) → Contains (printed_periods plan (length clear)) q →
      NamesPeriod plan q (sets_named plan.site.height plan.site.emm q (broadcast plan clear))
  -- the sections of any period are sent as often as is told
  pub sections : (q : PeriodNumber) → Contains (printed_periods plan (length clear)) q →
      count_by (is_entitlement_of q) (sent plan clear ++ closing_of plan clear)
      ≡ cryptos_in plan (cryptos_for plan.site (length clear)) q * entitlements_at plan q
  -- the control words are those from the first to the last that are printed, each of them, and of the site's range
  pub words : (part : EcmPart) → Contains (sent plan clear ++ closing_of plan clear) (Controls part) →
      (plan.site.first_word ≤ part.word) × (part.word ≤ last_word_for plan.site (length clear))
  pub spoken : (t : WordNumber) → plan.site.first_word ≤ t → t ≤ last_word_for plan.site (length clear) →
      (k : PacketNumber) × (k < length clear) × (word_of plan.site k ≡ t)
  pub room : last_word_for plan.site (length clear) ≤ plan.site.last_word
