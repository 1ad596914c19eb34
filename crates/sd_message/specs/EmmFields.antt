-- Public meaning: entitlement management messages as they are read.
use Rattle.std.specs.Prelude.{◌≡◌, ℕ, ◌+◌, ◌*◌, ◌≤◌, ◌==◌, ◌&&◌, if◌then◌else◌, List, length, drop, slice_index}
use Rattle.std.specs.Prelude.{◌⊎◌, Bool, slice_range, Option, Some, None, is_some}
use Rattle.sd_base.specs.Bits.{field}
use Rattle.sd_tree_keys.specs.SetNames.{AreAscending}
use Rattle.sd_tree_keys.specs.declared.set.SetName.{SetName}
use Rattle.sd_tree_keys.specs.declared.set.SetName.TheVariants.{Whole, Diff}
use Rattle.sd_section.specs.Header.{least_length, table_id_of, section_length_of, extension_of, section_number_of}
use Rattle.sd_section.specs.Header.{last_number_of, body_of}
use Rattle.sd_message.specs.Framed.{HasSection, section_of}
use Rattle.sd_message.specs.EmmSpelled.{listed_entries, names_in}
use Rattle.sd_message.specs.EmmForm.{IsEmmCounted, no_entry, AreSets, most_entries}
use Rattle.sd_message.specs.declared.emm.Entry.{Entry}
use Rattle.sd_message.specs.declared.emm.Emm.{Emm}
use Rattle.sd_message.specs.declared.emm_fault.EmmFault.{EmmFault}
use Rattle.sd_message.specs.Items.{items_in}
use Rattle.sd_message.specs.Pieces.{filled}
use Rattle.sd_message.specs.declared.emm_fault.EmmFault.TheVariants.{Count, Order, Node, Mixed}

-- whether the table_id is that of a section that names its broadcast [this project, docs/FORMATS.md, Messages]
abbrev pub is_named : ℕ → Bool
is_named table_id = table_id == 0x8A

-- it is that of a section of entitlements [this project, docs/FORMATS.md, Messages]
abbrev pub IsEmmTable : ℕ → Type 0
IsEmmTable table_id = (table_id ≡ 0x82) ⊎ (table_id ≡ 0x8A)

-- where the count of entries stands: after the broadcast's name, where there is one [this project, docs/FORMATS.md,
-- Messages]
unfoldable pub count_at : Bool → ℕ
count_at named = if named then 30 else 26

-- how many bytes of the body stand before its entries [this project, docs/FORMATS.md, Messages]
abbrev pub emm_head_length : Bool → ℕ
emm_head_length named = count_at named + 1

-- the section is one of entitlements, and has room for all that stands before the entries [this project,
-- docs/FORMATS.md, Messages]
pub record IsEmmSection (section : List ℕ) : Type 0 where
  pub table_id : IsEmmTable (table_id_of section)
  pub number : section_number_of section ≡ 0
  pub last_number : last_number_of section ≡ 0
  pub room : emm_head_length (is_named (table_id_of section)) + least_length ≤ section_length_of section

-- the packet begins with such a section
pub record IsEmmPacket (packet : List ℕ) : Type 0 where
  pub has : HasSection packet
  pub emm : IsEmmSection (section_of packet)

-- the name of a pair [this project, docs/FORMATS.md, Messages]
abbrev pub set_name_of : ℕ → ℕ → SetName
set_name_of i j = if (i == 0) && (j == 0) then Whole else Diff i j

-- an entry of 40 bytes [this project, docs/FORMATS.md, Messages]
unfoldable pub emm_entry_in : List ℕ → Entry
emm_entry_in bytes = record {
  name = set_name_of (field bytes 0 32) (field bytes 32 32);
  wrapped = slice_range bytes 8 40;
}

-- so many entries, one after the other
abbrev pub entries_in : ℕ → List ℕ → List Entry
entries_in n bytes = items_in emm_entry_in 40 n bytes

-- filled up to three
abbrev pub padded_entries : List Entry → List Entry
padded_entries entries = filled most_entries no_entry entries

-- the broadcast's name in a body, where it is there [this project, docs/FORMATS.md, Messages]
unfoldable pub emm_run_in : Bool → List ℕ → Option ℕ
emm_run_in named body = if named then Some (field body 208 32) else None

-- what the section of this index and body says, which names its broadcast or doesn't [this project, docs/FORMATS.md,
-- Messages]
unfoldable pub emm_in : Bool → ℕ → List ℕ → Emm
emm_in named index body = record {
  period = field body 0 32;
  sets = field body 32 32;
  sections = field body 64 16;
  index = index;
  check = slice_range body 10 26;
  run = emm_run_in named body;
  count = slice_index body (count_at named);
  entries = padded_entries (entries_in (slice_index body (count_at named)) (drop (emm_head_length named) body));
}

-- what a section says
abbrev pub emm_of : List ℕ → Emm
emm_of section = emm_in (is_named (table_id_of section)) (extension_of section) (body_of section)

-- the same with other entries
abbrev pub with_entries : Emm → List Entry → Emm
with_entries emm entries = record emm { entries = entries }

-- the numbers come to one another and to the length of the body: section_length is 36, or 40 where the broadcast is
-- named, and 40 for each entry [this project, docs/FORMATS.md, Messages]
abbrev pub HasEmmCount : ℕ → Emm → Type 0
HasEmmCount length emm =
    (length ≡ emm_head_length (is_some emm.run) + 40 * emm.count)
    × IsEmmCounted emm.sets emm.sections emm.index emm.count

-- no rule is broken
pub record IsGoodEmm (h length : ℕ) (emm : Emm) : Type 0 where
  pub has_count : HasEmmCount length emm
  pub are_sets : AreSets h emm.sets (listed_entries emm)
  pub ascending : AreAscending (names_in (listed_entries emm))

-- the rule that a body of this length and its entitlements break first [this project, docs/FORMATS.md, Messages]
abbrev pub BreaksEmmRule : ℕ → ℕ → Emm → EmmFault → Type 0
BreaksEmmRule h length emm Count = ¬ HasEmmCount length emm
BreaksEmmRule h length emm Node = HasEmmCount length emm × (¬ AreSets h emm.sets (listed_entries emm))
BreaksEmmRule h length emm Order = HasEmmCount length emm
    × (AreSets h emm.sets (listed_entries emm) × (¬ AreAscending (names_in (listed_entries emm))))
BreaksEmmRule h length emm Mixed = ⊥

-- and that a section breaks first
abbrev pub BreaksEmmFirst : ℕ → List ℕ → EmmFault → Type 0
BreaksEmmFirst h section fault = BreaksEmmRule h (length (body_of section)) (emm_of section) fault
