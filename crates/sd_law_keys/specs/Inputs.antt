-- Public meaning: what is hashed for each label, key and check value.
use Rattle.std.specs.Prelude.{◌≡◌, ℕ, ◌<◌, ◌^◌, [], ◌∷◌, ◌++◌, length}
use Rattle.std.specs.Int.{w32, to_be_bytes}
use Rattle.sd_base.specs.Types.{Bytes, Key, PeriodNumber, WordNumber}
use Rattle.sd_tree_keys.specs.declared.set.SetName.TheVariants.{Whole, Diff}
use Rattle.sd_tree_keys.specs.Labels.{label_of, label_of_node, left_of, right_of, middle_of}
use Rattle.sd_tree_keys.specs.Keys.{whole_key_of, period_key_of, control_word_of, check_value_of}
use Rattle.sd_law_broadcast.specs.Pads.{KeyName, PeriodKey as OfPeriod, SetKey, Word}

-- the name of what is made by a hash: of a master the label of a node, the key of the whole set, the key of a period
-- and a control word; the three thirds of a label's generator; the check value of a key
pub data Hashed : Type 0 where
  NodeLabel : Key → ℕ → Hashed
  WholeKey : Key → Hashed
  PeriodKey : Key → PeriodNumber → Hashed
  ControlWord : Key → WordNumber → Hashed
  LeftThird : Key → Hashed
  RightThird : Key → Hashed
  MiddleThird : Key → Hashed
  CheckValue : Key → Hashed

-- what is hashed for it: a master, a label or a key, then a letter, and then a number's four bytes, if there is one
-- [this project, docs/FORMATS.md, Keys and labels]
abbrev pub input_of : Hashed → Bytes
input_of (NodeLabel master i) = master ++ 0x49 ∷ to_be_bytes w32 i
input_of (WholeKey master) = master ++ 0x41 ∷ []
input_of (PeriodKey master q) = master ++ 0x50 ∷ to_be_bytes w32 q
input_of (ControlWord master t) = master ++ 0x43 ∷ to_be_bytes w32 t
input_of (LeftThird label) = label ++ 0x4c ∷ []
input_of (RightThird label) = label ++ 0x52 ∷ []
input_of (MiddleThird label) = label ++ 0x4d ∷ []
input_of (CheckValue key) = key ++ 0x56 ∷ []

-- the label, the key or the check value that has this name
abbrev pub named_by : Hashed → Bytes
named_by (NodeLabel master i) = label_of_node master i
named_by (WholeKey master) = whole_key_of master
named_by (PeriodKey master q) = period_key_of master q
named_by (ControlWord master t) = control_word_of master t
named_by (LeftThird label) = left_of label
named_by (RightThird label) = right_of label
named_by (MiddleThird label) = middle_of label
named_by (CheckValue key) = check_value_of key

-- a key by which something lies under a keystream, by its name: that of a set S(i,j) is of a label's generator
-- [Naor, Naor, Lotspiech 2001, 3.2; this project, docs/FORMATS.md, Keys and labels]
abbrev pub hashed_as : Key → KeyName → Hashed
hashed_as master (SetKey Whole) = WholeKey master
hashed_as master (SetKey (Diff i j)) = MiddleThird (label_of master i j)
hashed_as master (OfPeriod q) = PeriodKey master q
hashed_as master (Word t) = ControlWord master t

-- how many bytes of the hash it has
abbrev pub hashed_size : Hashed → ℕ
hashed_size (NodeLabel master i) = 32
hashed_size (WholeKey master) = 32
hashed_size (PeriodKey master q) = 32
hashed_size (ControlWord master t) = 32
hashed_size (LeftThird label) = 32
hashed_size (RightThird label) = 32
hashed_size (MiddleThird label) = 32
hashed_size (CheckValue key) = 16

-- masters, labels and keys have 32 bytes, and numbers fit into four
abbrev pub IsSized : Hashed → Type 0
IsSized (NodeLabel master i) = (length master ≡ 32) × (i < 2 ^ 32)
IsSized (WholeKey master) = length master ≡ 32
IsSized (PeriodKey master q) = (length master ≡ 32) × (q < 2 ^ 32)
IsSized (ControlWord master t) = (length master ≡ 32) × (t < 2 ^ 32)
IsSized (LeftThird label) = length label ≡ 32
IsSized (RightThird label) = length label ≡ 32
IsSized (MiddleThird label) = length label ≡ 32
IsSized (CheckValue key) = length key ≡ 32
