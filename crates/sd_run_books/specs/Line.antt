-- Public meaning: the lines of an accounts file [this project, docs/FORMATS.md, Accounts].
use Rattle.std.specs.Prelude.{ℕ, ◌==◌, ◌&&◌, ◌||◌, ◌^◌, Bool, nat_lt, nat_le, List, map, length, codes}
use Rattle.std.specs.Prelude.{bytes_eq, if◌then◌else◌, Option, Some, None, option_map, option_and_then}
use Rattle.std.specs.Char.{is_ascii_digit, is_ascii_lowercase}
use Rattle.std.specs.List.{list_all}
use Rattle.sd_base.specs.Lines.{cut_at_space, lines_of}
use Rattle.sd_base.specs.Number.{rest_after, decimal_value}

-- what a line says
pub data Entry : Type 0 where
  -- the name is bound to the leaf, which is subscribed
  Assigns : List ℕ → ℕ → Entry
  -- the name's leaf is revoked
  Drops : List ℕ → Entry
  -- the name's leaf is subscribed again
  Restores : List ℕ → Entry
  -- the next period begins
  Ends : Entry

-- the bytes of the longest name [this project, docs/FORMATS.md, Accounts]
abbrev pub longest_name : ℕ
longest_name = 32

-- a to z, 0 to 9 and '-'
abbrev pub is_name_byte : ℕ → Bool
is_name_byte byte = is_ascii_lowercase byte || (is_ascii_digit byte || byte == 45)

-- 1 to `longest_name` of those [this project, docs/FORMATS.md, Accounts]
unfoldable pub is_name : List ℕ → Bool
is_name text = nat_lt 0 (length text) && (nat_le (length text) longest_name && list_all is_name_byte text)

-- the name that a text is
abbrev pub account_name_in : List ℕ → Option (List ℕ)
account_name_in text = if is_name text then Some text else None

-- the leaf of a number, where a tree of height d has it
abbrev pub leaf_numbered : ℕ → Option ℕ → Option ℕ
leaf_numbered d None = None
leaf_numbered d (Some u) = if nat_lt u (2 ^ d) then Some u else None

-- the decimal of a leaf of the tree
abbrev pub account_leaf : ℕ → List ℕ → Option ℕ
account_leaf d text = leaf_numbered d (decimal_value text)

-- a name, a space and a leaf
unfoldable pub assigned : ℕ → List ℕ → Option Entry
assigned d text = option_and_then
    (λ parts. option_and_then (λ name. option_map (Assigns name) (account_leaf d parts.1)) (account_name_in parts.0))
    (cut_at_space text)

-- what is said after a word, or on a line that doesn't begin with it
abbrev pub entry_by_word : Option (List ℕ) → (List ℕ → Option Entry) → Option Entry → Option Entry
entry_by_word None says other = other
entry_by_word (Some text) says other = says text

-- what a line says for a tree of height d, where it is in the grammar and its leaf in the tree [this project,
-- docs/FORMATS.md, Accounts]
unfoldable pub entry_on : ℕ → List ℕ → Option Entry
entry_on d line =
    if bytes_eq line (codes "period") then Some Ends
    else entry_by_word (rest_after (codes "assign ") line) (assigned d)
    (entry_by_word (rest_after (codes "drop ") line) (λ text. option_map Drops (account_name_in text))
    (entry_by_word (rest_after (codes "restore ") line) (λ text. option_map Restores (account_name_in text)) None))

-- what each line of a text says, or none
abbrev pub said_by_accounts : ℕ → List ℕ → List (Option Entry)
said_by_accounts d bytes = map (entry_on d) (lines_of bytes)
