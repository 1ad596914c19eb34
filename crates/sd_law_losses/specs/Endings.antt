-- Public meaning: how a broadcast that loses packets ends for a receiver.
use Rattle.std.specs.Prelude.{ℕ, ◌+◌, ◌-◌, ◌*◌, ◌&&◌, Bool, not, nat_le, min, List, length, map, find}
use Rattle.std.specs.Prelude.{if◌then◌else◌, Option, Some, None}
use Rattle.std.specs.List.{list_any, list_all, range_with_len}
use Rattle.std.specs.Option.{option_map_or}
use Rattle.sd_base.specs.Types.{Packets, LeafNumber, PeriodNumber, MessageNumber}
use Rattle.sd_message.specs.EmmForm.{sections_for}
use Rattle.sd_spec.specs.Plan.{Plan, sets_at, period_of, closing_number}
use Rattle.sd_spec.specs.Sent.{Item, is_cat_item}
use Rattle.sd_spec.specs.Ending.{ending_with}
use Rattle.sd_spec.specs.declared.ending.Ending.{Ending}
use Rattle.sd_spec.specs.declared.ending.Ending.TheVariants.{Opened, Revoked, NoCat, Unclosed}
use Rattle.sd_law_losses.specs.Kept.{after_cat, has_arrived, arrived, greatest_at_most, entitles}
use Rattle.sd_law_losses.specs.Kept.{is_section_item}
use Rattle.sd_law_losses.specs.Confirmed.{confirmed, is_revoked_in}

-- the period of control message a: that of the clear packet after it, or of the last one
abbrev pub period_told : Plan → Packets → MessageNumber → PeriodNumber
period_told plan clear a = period_of plan (min (a * plan.site.every) (length clear - 1))

-- the periods of the messages that have arrived, in order
unfoldable pub periods_arrived : Plan → Packets → List Item → List PeriodNumber
periods_arrived plan clear kept =
    map (period_told plan clear) (arrived (closing_number plan.site (length clear)) kept)

-- no section of the period that has a set with the leaf is kept
abbrev pub is_untold : Plan → LeafNumber → List Item → PeriodNumber → Bool
is_untold plan u kept q = not (list_any (entitles plan.site.height u q) kept)

-- all sections of the period are kept
unfoldable pub has_all : Plan → List Item → PeriodNumber → Bool
has_all plan kept q =
    list_all (λ x. list_any (is_section_item q x) kept) (range_with_len 0 (sections_for (length (sets_at plan q))))

-- how a broadcast ends for leaf u's receiver if its closing message arrives and this number of clear packets is
-- confirmed [this project, docs/FORMATS.md, Receiver]
unfoldable pub closed_told : Plan → LeafNumber → Packets → List Item → ℕ → Ending
closed_told plan u clear kept written =
    ending_with (find (λ q. is_untold plan u kept q && has_all plan kept q) (periods_arrived plan clear kept))
    (find (is_untold plan u kept) (periods_arrived plan clear kept)) (length clear - written)

-- the number after that of the last message that has arrived
unfoldable pub next_number : Plan → Packets → List Item → MessageNumber
next_number plan clear kept = option_map_or (λ a. a + 1)
    (greatest_at_most (closing_number plan.site (length clear))
    (arrived (closing_number plan.site (length clear)) kept)) 0

-- how a broadcast ends for leaf u's receiver if these things are kept [this project, docs/FORMATS.md, Receiver]
unfoldable pub ending_told : Plan → LeafNumber → Packets → List Item → Ending
ending_told plan u clear kept =
    if list_any is_cat_item kept
    then (if has_arrived (after_cat kept) (closing_number plan.site (length clear))
    then closed_told plan u clear (after_cat kept) (length (confirmed plan u clear kept))
    else Unclosed (next_number plan clear (after_cat kept)))
    else NoCat

-- the first period of the broadcast in which the leaf is revoked
unfoldable pub first_revoked : Plan → LeafNumber → Packets → Option PeriodNumber
first_revoked plan u clear =
    find (is_revoked_in plan u)
    (range_with_len plan.site.first_period (period_of plan (length clear - 1) + 1 - plan.site.first_period))

-- the period isn't before the site's first
abbrev pub is_on_air : Plan → PeriodNumber → Bool
is_on_air plan q = nat_le plan.site.first_period q

-- how a whole broadcast ends for the receiver of a leaf
abbrev pub whole_ending : Option PeriodNumber → Ending
whole_ending None = Opened
whole_ending (Some q) = Revoked q
