-- Public meaning: what is kept of the lines so far: the leaf of each name, and a mark for each leaf that is bound.
use Rattle.std.specs.Prelude.{◌≡◌, ℕ, ◌<◌, ◌^◌, Bool, true, false, List, [], ◌++◌, length, get_or, slice_set}
use Rattle.std.specs.Prelude.{map, bytes_eq, if◌then◌else◌, Option, Some}
use Rattle.std.specs.BTreeMap.{BTreeMap, get_by}
use Rattle.std.specs.Cmp.Lexicographic.{slice_cmp}
use Rattle.std.specs.Ordering.{nat_cmp}
use Rattle.std.specs.declared.cmp.Ordering.{Ordering}
use Rattle.arrayvec.specs.ArrayString.{ArrayString}
use Rattle.sd_book.specs.declared.command.Command.{Command}
use Rattle.sd_run_books.specs.Line.{Entry, Assigns, Drops, Restores, Ends, said_by_accounts}
use Rattle.sd_run_books.specs.Bound.{leaf_of, is_held}
use Rattle.sd_run_books.specs.Accounts.{Account}
use Rattle.sd_run_books.specs.Judged.{account_commands}

-- the leaf that a line assigns is one of the first n
abbrev pub IsBelow : ℕ → Entry → Type 0
IsBelow n (Assigns name u) = u < n
IsBelow n (Drops name) = Unit {0}
IsBelow n (Restores name) = Unit {0}
IsBelow n Ends = Unit {0}

-- the leaf of each name, after one more line
abbrev pub leaf_of_name_after : Entry → (List ℕ → Option ℕ) → List ℕ → Option ℕ
leaf_of_name_after (Assigns other u) leaf_for name = if bytes_eq other name then Some u else leaf_for name
leaf_of_name_after (Drops other) leaf_for name = leaf_for name
leaf_of_name_after (Restores other) leaf_for name = leaf_for name
leaf_of_name_after Ends leaf_for name = leaf_for name

-- the marks after one more line
abbrev pub marks_after : Entry → List Bool → List Bool
marks_after (Assigns name u) marks = slice_set marks u true
marks_after (Drops name) marks = marks
marks_after (Restores name) marks = marks
marks_after Ends marks = marks

-- the mark of a leaf
abbrev pub mark_of : List Bool → ℕ → Bool
mark_of marks u = get_or marks u false

-- what is kept of these lines for a tree of height d
pub record AreAccountsKept (d : ℕ) (said : List (Option Entry)) (leaf_for : List ℕ →
    Option ℕ) (marks : List Bool) : Type 0 where
  pub full : length marks ≡ 2 ^ d
  pub leaves : (name : List ℕ) → leaf_for name ≡ leaf_of name said
  pub held : (u : ℕ) → u < 2 ^ d → mark_of marks u ≡ is_held u said
  pub within : (name : List ℕ) (u : ℕ) → leaf_of name said ≡ Some u → u < 2 ^ d

-- some lines of a text are taken, and the rest is left
pub record IsRead (d : ℕ) (bytes rest : List ℕ) (commands : List Command) (leaf_for : List ℕ → Option ℕ)
    (marks : List Bool) : Type 0 where
  pub before : List (Option Entry)
  pub all : said_by_accounts d bytes ≡ before ++ said_by_accounts d rest
  pub count : length before ≡ length commands
  pub kept : AreAccountsKept d before leaf_for marks
  pub same : account_commands d [] [] (said_by_accounts d bytes) ≡ account_commands d before commands
      (said_by_accounts d rest)

-- names in the order of their bytes
abbrev pub name_cmp : ArrayString → ArrayString → Ordering
name_cmp name other = slice_cmp nat_cmp name.bytes other.bytes

-- the leaf that a map has at the name with these bytes
abbrev pub leaf_named : BTreeMap ArrayString ℕ → List ℕ → Option ℕ
leaf_named leaves bytes = get_by (λ name. slice_cmp nat_cmp bytes name.bytes) leaves

-- the entries of a map by name, as accounts
abbrev pub kept_accounts : List (ArrayString × ℕ) → List Account
kept_accounts entries = map (λ entry. (entry.0.bytes, entry.1)) entries
