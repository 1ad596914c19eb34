-- Public meaning: entitlement management messages as they are read, by tests.
use Rattle.std.specs.Prelude.{ℕ, zero, suc, ◌+◌, ◌-◌, ◌*◌, ◌/◌, ◌^◌, Bool, false, ◌==◌, ◌&&◌, ◌||◌, not, nat_le, nat_lt}
use Rattle.std.specs.Prelude.{if◌then◌else◌, is_some, List, length, min, Option, Some, None, Result, Ok, Err}
use Rattle.std.specs.List.{list_all}
use Rattle.std.specs.Ordering.{is_lt}
use Rattle.sd_tree_keys.specs.SetNames.{set_cmp}
use Rattle.sd_tree_keys.specs.declared.set.SetName.{SetName}
use Rattle.sd_tree_keys.specs.declared.set.SetName.TheVariants.{Whole, Diff}
use Rattle.sd_section.specs.Header.{least_length, table_id_of, section_length_of, section_number_of, last_number_of}
use Rattle.sd_section.specs.Header.{body_of}
use Rattle.sd_message.specs.Framed.{frames_section, section_of}
use Rattle.sd_message.specs.Items.{all_pairs}
use Rattle.sd_message.specs.EmmSpelled.{listed_entries, names_in}
use Rattle.sd_message.specs.EmmForm.{sections_for, most_entries}
use Rattle.sd_message.specs.EmmFields.{emm_of, is_named, emm_head_length}
use Rattle.sd_message.specs.declared.emm.Entry.{Entry}
use Rattle.sd_message.specs.declared.emm.Emm.{Emm}
use Rattle.sd_message.specs.declared.emm_fault.EmmFault.{EmmFault}
use Rattle.sd_message.specs.declared.emm_fault.EmmFault.TheVariants.{Count, Order, Node}

-- whether one halving to n of them lead from j to i
unfoldable pub is_halved : ℕ → ℕ → ℕ → Bool
is_halved zero i j = false
is_halved (suc n) i j = (j / 2 ^ suc n == i) || is_halved n i j

-- whether i is an inner node of a tree of height d, and j a node properly below it
abbrev pub is_pair : ℕ → ℕ → ℕ → Bool
is_pair d i j = nat_le 1 i && (nat_lt i (2 ^ d) && (nat_lt j (2 ^ (d + 1)) && is_halved d i j))

-- whether the set is one of the height, and the whole set only alone [this project, docs/FORMATS.md, Messages]
abbrev pub is_set_beside : ℕ → ℕ → SetName → Bool
is_set_beside h sets Whole = nat_le sets 1
is_set_beside h sets (Diff i j) = is_pair h i j

-- whether so is that of each entry
abbrev pub are_sets : ℕ → ℕ → List Entry → Bool
are_sets h sets entries = list_all (λ entry. is_set_beside h sets entry.name) entries

-- whether the sets are strictly ascending
abbrev pub is_ascending_by_set : List SetName → Bool
is_ascending_by_set names = all_pairs (λ a b. is_lt (set_cmp a b)) names

-- whether the numbers come to one another and to the length of the body [this project, docs/FORMATS.md, Messages]
abbrev pub is_counted : ℕ → Emm → Bool
is_counted length emm =
    (length == emm_head_length (is_some emm.run) + 40 * emm.count)
    && ((emm.sections == sections_for emm.sets)
    && (nat_lt emm.index emm.sections && (emm.count == min most_entries (emm.sets - most_entries * emm.index))))

-- what a body of this length is read as, by the first rule that it breaks [this project, docs/FORMATS.md, Messages]
unfoldable pub emm_judged : ℕ → ℕ → Emm → Result (Option Emm) EmmFault
emm_judged h length emm =
    if not (is_counted length emm) then Err Count
    else if not (are_sets h emm.sets (listed_entries emm)) then Err Node
    else if not (is_ascending_by_set (names_in (listed_entries emm))) then Err Order
    else Ok (Some emm)

-- whether a section is one of entitlements
abbrev pub is_emm_section : List ℕ → Bool
is_emm_section section =
    ((table_id_of section == 0x82) || (table_id_of section == 0x8A))
    && ((section_number_of section == 0)
    && ((last_number_of section == 0)
    && nat_le (emm_head_length (is_named (table_id_of section)) + least_length) (section_length_of section)))

-- whether a packet begins with such a section
unfoldable pub has_emm : List ℕ → Bool
has_emm packet = frames_section packet && is_emm_section (section_of packet)

-- what a packet is read as, by a receiver of a tree of height h: nothing where it is of another kind
-- [this project, docs/FORMATS.md, Messages]
unfoldable pub emm_read : ℕ → List ℕ → Result (Option Emm) EmmFault
emm_read h packet =
    if has_emm packet then emm_judged h (length (body_of (section_of packet))) (emm_of (section_of packet)) else Ok None
