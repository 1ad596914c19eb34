-- Public meaning: what is kept of a broadcast that loses packets, in terms of the things that were sent.
use Rattle.std.specs.Prelude.{ℕ, ◌+◌, ◌-◌, ◌==◌, ◌&&◌, ◌||◌, Bool, false, nat_le, nat_lt, List, [], ◌∷◌}
use Rattle.std.specs.Prelude.{filter, if◌then◌else◌, Option, Some, None}
use Rattle.std.specs.List.{list_any, list_all, range_with_len}
use Rattle.sd_base.specs.Types.{Height, LeafNumber, PeriodNumber, PacketNumber, MessageNumber}
use Rattle.sd_tree_keys.specs.Leaves.{is_member}
use Rattle.sd_message.specs.EmmSpelled.{listed_entries}
use Rattle.sd_spec.specs.Sent.{Item, Cat, Entitles, Controls, Carries}

-- the things after the first CAT [this project, docs/FORMATS.md, Receiver]
unfoldable pub after_cat : List Item → List Item
after_cat [] = []
after_cat (Cat ∷ kept) = kept
after_cat (Entitles emm ∷ kept) = after_cat kept
after_cat (Controls part ∷ kept) = after_cat kept
after_cat (Carries j packet ∷ kept) = after_cat kept

-- clear packet j, as it is carried
abbrev pub is_carried : PacketNumber → Item → Bool
is_carried j (Carries i packet) = i == j
is_carried j Cat = false
is_carried j (Entitles emm) = false
is_carried j (Controls part) = false

-- clear packet j is kept
abbrev pub is_kept : List Item → PacketNumber → Bool
is_kept kept j = list_any (is_carried j) kept

-- the kept clear packets from low on, below high
unfoldable pub kept_in : List Item → PacketNumber → PacketNumber → List PacketNumber
kept_in kept low high = filter (is_kept kept) (range_with_len low (high - low))

-- part x of message a
abbrev pub is_part : MessageNumber → ℕ → Item → Bool
is_part a x (Controls part) = (part.number == a) && (part.part == x)
is_part a x Cat = false
is_part a x (Entitles emm) = false
is_part a x (Carries j packet) = false

-- a part of message a, all parts of which are kept
abbrev pub has_parts : List Item → MessageNumber → Item → Bool
has_parts kept a (Controls part) =
    (part.number == a) && list_all (λ x. list_any (is_part a x) kept) (range_with_len 0 (part.last_part + 1))
has_parts kept a Cat = false
has_parts kept a (Entitles emm) = false
has_parts kept a (Carries j packet) = false

-- message a has arrived: a part of it is kept, and so are all others [this project, docs/FORMATS.md, Receiver]
unfoldable pub has_arrived : List Item → MessageNumber → Bool
has_arrived kept a = list_any (has_parts kept a) kept

-- the messages up to number last that have arrived, ascending
unfoldable pub arrived : MessageNumber → List Item → List MessageNumber
arrived last kept = filter (has_arrived kept) (range_with_len 0 (last + 1))

-- the greatest of ascending numbers that is at most n
unfoldable pub greatest_at_most : ℕ → List ℕ → Option ℕ
greatest_at_most n [] = None
greatest_at_most n (a ∷ numbers) =
    if nat_lt n a then None
    else (if list_any (λ b. nat_le b n) numbers then greatest_at_most n numbers else Some a)

-- the least of ascending numbers that is above n
unfoldable pub least_above : ℕ → List ℕ → Option ℕ
least_above n [] = None
least_above n (a ∷ numbers) = if nat_lt n a then Some a else least_above n numbers

-- a section of period q that has a set with leaf u
abbrev pub entitles : Height → LeafNumber → PeriodNumber → Item → Bool
entitles h u q (Entitles emm) = (emm.period == q) && list_any (λ entry. is_member h entry.name u) (listed_entries emm)
entitles h u q Cat = false
entitles h u q (Controls part) = false
entitles h u q (Carries j packet) = false

-- the last part of message a
abbrev pub is_last_part : MessageNumber → Item → Bool
is_last_part a (Controls part) = (part.number == a) && (part.part == part.last_part)
is_last_part a Cat = false
is_last_part a (Entitles emm) = false
is_last_part a (Carries j packet) = false

-- a section of period q that has a set with leaf u is before the last part of message a, which is kept
unfoldable pub is_entitled_before : Height → LeafNumber → PeriodNumber → MessageNumber → List Item → Bool
is_entitled_before h u q a [] = false
is_entitled_before h u q a (item ∷ kept) =
    if is_last_part a item then false
    else (entitles h u q item && list_any (is_last_part a) kept) || is_entitled_before h u q a kept

-- a section of period q with index x
abbrev pub is_section_item : PeriodNumber → ℕ → Item → Bool
is_section_item q x (Entitles emm) = (emm.period == q) && (emm.index == x)
is_section_item q x Cat = false
is_section_item q x (Controls part) = false
is_section_item q x (Carries j packet) = false
