-- The name of a label, a key or a check value is read from its input.
use Rattle.std.proofs.Common.{◌≡◌, ℕ, ◌==◌, List, [], ◌∷◌, ◌++◌, length, take, drop, refl, sym, ap, ◌∙◌, take_all}
use Rattle.std.proofs.Common.{arith}
use Rattle.std.specs.Prelude.{if◌then◌else◌}
use Rattle.std.specs.Int.{w32, to_be_bytes, from_be_bytes}
use Rattle.std.proofs.Math.Seq.{drop-append_seam, take-append_seam}
use Rattle.std.proofs.lemmas.Nat.{from_be_bytes-to_be_bytes_4}
use Rattle.sha2.specs.Sha256.{sha256}
use Rattle.sha2.proofs.Facts256.{length-sha256}
use Rattle.sd_tree_keys.specs.Labels.{label_of_node, left_of, right_of, middle_of}
use Rattle.sd_tree_keys.specs.declared.set.SetName.TheVariants.{Whole, Diff}
use Rattle.sd_tree_keys.specs.Keys.{key_of, whole_key_of, period_key_of, control_word_of, check_value_of}
use Rattle.sd_law_broadcast.specs.Pads.{KeyName, PeriodKey as OfPeriod, SetKey, Word, key_bytes}
use Rattle.sd_law_keys.specs.Inputs.{Hashed, NodeLabel, WholeKey, PeriodKey, ControlWord, LeftThird, RightThird}
use Rattle.sd_law_keys.specs.Inputs.{MiddleThird, CheckValue, IsSized, hashed_as, input_of, named_by}
use Rattle.sd_law_keys.specs.Inputs.{hashed_size}

-- the name that these first bytes, this letter and this rest are the input of
abbrev read_by : List ℕ → ℕ → List ℕ → Hashed
read_by secret letter rest =
    if letter == 0x49 then NodeLabel secret (from_be_bytes w32 rest)
    else if letter == 0x41 then WholeKey secret
    else if letter == 0x50 then PeriodKey secret (from_be_bytes w32 rest)
    else if letter == 0x43 then ControlWord secret (from_be_bytes w32 rest)
    else if letter == 0x4c then LeftThird secret
    else if letter == 0x52 then RightThird secret
    else if letter == 0x4d then MiddleThird secret
    else CheckValue secret

-- the same of the bytes after the first 32
abbrev read_with : List ℕ → List ℕ → Hashed
read_with secret [] = CheckValue secret
read_with secret (letter ∷ rest) = read_by secret letter rest

-- the name whose input it is
abbrev read : List ℕ → Hashed
read input = read_with (take 32 input) (drop 32 input)

-- of 32 bytes with others after them, the first 32 and the rest are read
read_parts : (secret rest : List ℕ) → length secret ≡ 32 → read (secret ++ rest) ≡ read_with secret rest
read_parts secret rest long =
    ap (λ (n : ℕ). read_with (take n (secret ++ rest)) (drop n (secret ++ rest))) (sym long)
    ∙ (ap (λ (first : List ℕ). read_with first (drop (length secret) (secret ++ rest))) (take-append_seam secret rest)
    ∙ ap (read_with secret) (drop-append_seam secret rest))

-- each name is read again
read_again : (name : Hashed) → IsSized name → read (input_of name) ≡ name
read_again (NodeLabel master i) (long, few) =
    read_parts master (0x49 ∷ to_be_bytes w32 i) long ∙ ap (NodeLabel master) (from_be_bytes-to_be_bytes_4 i few)
read_again (WholeKey master) long = read_parts master (0x41 ∷ []) long
read_again (PeriodKey master q) (long, few) =
    read_parts master (0x50 ∷ to_be_bytes w32 q) long ∙ ap (PeriodKey master) (from_be_bytes-to_be_bytes_4 q few)
read_again (ControlWord master t) (long, few) =
    read_parts master (0x43 ∷ to_be_bytes w32 t) long ∙ ap (ControlWord master) (from_be_bytes-to_be_bytes_4 t few)
read_again (LeftThird label) long = read_parts label (0x4c ∷ []) long
read_again (RightThird label) long = read_parts label (0x52 ∷ []) long
read_again (MiddleThird label) long = read_parts label (0x4d ∷ []) long
read_again (CheckValue key) long = read_parts key (0x56 ∷ []) long

pub inputs_differ : (a b : Hashed) → IsSized a → IsSized b → input_of a ≡ input_of b → a ≡ b
inputs_differ a b sized other same = sym (read_again a sized) ∙ (ap read same ∙ read_again b other)

-- a whole hash is its first 32 bytes
whole_hash : (input : List ℕ) → sha256 input ≡ take 32 (sha256 input)
whole_hash input = sym (take_all 32 (sha256 input) (omega (arith, length-sha256 input)))

-- what each name is of
pub inputs_hashed : (name : Hashed) → named_by name ≡ take (hashed_size name) (sha256 (input_of name))
unfolding label_of_node left_of right_of middle_of whole_key_of period_key_of control_word_of check_value_of
inputs_hashed (NodeLabel master i) = whole_hash (input_of (NodeLabel master i))
inputs_hashed (WholeKey master) = whole_hash (input_of (WholeKey master))
inputs_hashed (PeriodKey master q) = whole_hash (input_of (PeriodKey master q))
inputs_hashed (ControlWord master t) = whole_hash (input_of (ControlWord master t))
inputs_hashed (LeftThird label) = whole_hash (input_of (LeftThird label))
inputs_hashed (RightThird label) = whole_hash (input_of (RightThird label))
inputs_hashed (MiddleThird label) = whole_hash (input_of (MiddleThird label))
inputs_hashed (CheckValue key) = refl

-- each key is one of them
pub keys_hashed : (master : List ℕ) (name : KeyName) → key_bytes master name ≡ named_by (hashed_as master name)
unfolding key_of
keys_hashed master (SetKey Whole) = refl
keys_hashed master (SetKey (Diff i j)) = refl
keys_hashed master (OfPeriod q) = refl
keys_hashed master (Word t) = refl
