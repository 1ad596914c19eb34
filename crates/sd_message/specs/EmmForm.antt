-- Public meaning: which entitlements are ones that a period has.
use Rattle.std.specs.Prelude.{◌≡◌, ℕ, ◌-◌, ◌*◌, ◌^◌, ◌<◌, ◌≤◌, List, length, drop, min, replicate, All, IfSome}
use Rattle.sd_tree_keys.specs.SetNames.{IsOfHeight, AreAscending}
use Rattle.sd_tree_keys.specs.declared.set.SetName.{SetName}
use Rattle.sd_tree_keys.specs.declared.set.SetName.TheVariants.{Whole}
use Rattle.sd_message.specs.EmmSpelled.{listed_entries, names_in}
use Rattle.sd_message.specs.declared.emm.Entry.{Entry}
use Rattle.sd_message.specs.declared.emm.Emm.{Emm}
use Rattle.sd_message.specs.Pieces.{pieces_for}

-- the most entries of a section [this project, docs/FORMATS.md, Messages]
abbrev pub most_entries : ℕ
most_entries = 3

-- how many sections have room for so many sets, three in each; there is one without entry where there is no set
-- [this project, docs/FORMATS.md, Messages]
abbrev pub sections_for : ℕ → ℕ
sections_for sets = pieces_for most_entries sets

-- the numbers come to one another: section x has the sets 3x to 3x + 2, as far as they are there
-- [this project, docs/FORMATS.md, Messages]
pub record IsEmmCounted (sets sections index count : ℕ) : Type 0 where
  pub sections_are : sections ≡ sections_for sets
  pub index_is : index < sections
  pub count_is : count ≡ min most_entries (sets - most_entries * index)

-- what stands past the entries: the whole set with zeros
abbrev pub no_entry : Entry
no_entry = record { name = Whole; wrapped = replicate 32 0 }

-- a section's entitlements, for whatever tree [this project, docs/FORMATS.md, Messages]
pub record IsEmm (emm : Emm) : Type 0 where
  pub counted : IsEmmCounted emm.sets emm.sections emm.index emm.count
  pub ascending : AreAscending (names_in (listed_entries emm))
  pub rest : drop emm.count emm.entries ≡ replicate (most_entries - emm.count) no_entry

-- a set of the height, and the whole set only alone [this project, docs/FORMATS.md, Messages]
pub record IsSetBeside (h sets : ℕ) (name : SetName) : Type 0 where
  pub of_height : IsOfHeight h name
  pub alone : name ≡ Whole → sets ≤ 1

-- so is that of each entry
abbrev pub AreSets : ℕ → ℕ → List Entry → Type 0
AreSets h sets entries = All (λ entry. IsSetBeside h sets entry.name) entries

-- each wrapped key has 32 bytes
abbrev pub AreWrapped : List Entry → Type 0
AreWrapped entries = All (λ entry. length entry.wrapped ≡ 32) entries

-- what stands before the entries fits its fields
pub record FitsEmmHead (emm : Emm) : Type 0 where
  pub period : emm.period < 2 ^ 32
  pub sets : emm.sets < 2 ^ 32
  pub sections : emm.sections < 2 ^ 16
  pub run : IfSome emm.run (λ run. run < 2 ^ 32)
  pub check : length emm.check ≡ 16

-- the numbers and the bytes fit their fields, as those of each value of the type do
pub record FitsEmmFields (emm : Emm) : Type 0 where
  pub head : FitsEmmHead emm
  pub index : emm.index < 2 ^ 16
  pub entries : length emm.entries ≡ most_entries
  pub wrapped : AreWrapped (listed_entries emm)
