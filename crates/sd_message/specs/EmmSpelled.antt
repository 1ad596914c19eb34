-- Public meaning: entitlement management messages as bytes.
use Rattle.std.specs.Prelude.{ℕ, List, [], ◌∷◌, ◌++◌, take, map, flat_map, Option, Some, None}
use Rattle.std.specs.Int.{w16, w32, to_be_bytes}
use Rattle.sd_tree_keys.specs.declared.set.SetName.{SetName}
use Rattle.sd_tree_keys.specs.declared.set.SetName.TheVariants.{Whole, Diff}
use Rattle.sd_section.specs.Written.{section_bytes}
use Rattle.sd_section.specs.declared.write.Header.{Header}
use Rattle.sd_message.specs.Framed.{BeginsWithSection}
use Rattle.sd_message.specs.declared.emm.Entry.{Entry}
use Rattle.sd_message.specs.declared.emm.Emm.{Emm}

-- the table_id of a section that doesn't name its broadcast, and of one that does [this project, docs/FORMATS.md,
-- Messages]
abbrev pub table_id_for : Option ℕ → ℕ
table_id_for None = 0x82
table_id_for (Some run) = 0x8A

-- the entries that a section has
abbrev pub listed_entries : Emm → List Entry
listed_entries emm = take emm.count emm.entries

-- the sets that entries name
abbrev pub names_in : List Entry → List SetName
names_in entries = map (λ entry. entry.name) entries

-- i and j in 32 bits each; both are 0 for the whole set [this project, docs/FORMATS.md, Messages]
abbrev pub name_bytes : SetName → List ℕ
name_bytes Whole = to_be_bytes w32 0 ++ to_be_bytes w32 0
name_bytes (Diff i j) = to_be_bytes w32 i ++ to_be_bytes w32 j

-- the set, and the wrapped period key [this project, docs/FORMATS.md, Messages]
unfoldable pub entry_bytes : Entry → List ℕ
entry_bytes entry = name_bytes entry.name ++ entry.wrapped

-- the broadcast's name in 32 bits, where there is one [this project, docs/FORMATS.md, Messages]
abbrev pub run_bytes : Option ℕ → List ℕ
run_bytes None = []
run_bytes (Some run) = to_be_bytes w32 run

-- the period, the number of its sets, that of its sections, the check value of its key, the broadcast's name, the count
-- of entries [this project, docs/FORMATS.md, Messages]
unfoldable pub emm_head_bytes : Emm → List ℕ
emm_head_bytes emm =
    to_be_bytes w32 emm.period
    ++ (to_be_bytes w32 emm.sets
    ++ (to_be_bytes w16 emm.sections ++ (emm.check ++ (run_bytes emm.run ++ emm.count ∷ []))))

-- the section's body: its head, and one entry after the other [this project, docs/FORMATS.md, Messages]
unfoldable pub emm_body : Emm → List ℕ
emm_body emm = emm_head_bytes emm ++ flat_map entry_bytes (listed_entries emm)

-- its extension is the index, and both section numbers are 0 [this project, docs/FORMATS.md, Messages]
abbrev pub emm_header : ℕ → ℕ → Header
emm_header table_id index = record { table_id = table_id; extension = index; number = 0; last_number = 0 }

-- the one spelling of entitlements [this project, docs/FORMATS.md, Messages]
unfoldable pub emm_section : Emm → List ℕ
emm_section emm = section_bytes (emm_header (table_id_for emm.run) emm.index) (emm_body emm)

-- the packet begins with that section
abbrev pub SpellsEmm : Emm → List ℕ → Type 0
SpellsEmm emm packet = BeginsWithSection (emm_section emm) packet
