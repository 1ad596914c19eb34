-- Public meaning: accounts as contracts see them.
use Rattle.std.specs.Prelude.{◌≡◌, ℕ, List, map, bytes_eq, Option}
use Rattle.std.specs.Ordering.{nat_cmp}
use Rattle.std.specs.Cmp.Lexicographic.{slice_cmp}
use Rattle.std.specs.List.Sorted.{IsStrictlySortedBy}
use Rattle.std.specs.Map.{lookup}
use Rattle.sd_book.specs.Value.{BookValue}
use Rattle.sd_run_books.specs.Line.{Entry}
use Rattle.sd_run_books.specs.Bound.{leaf_of}

-- a name and the leaf that it is bound to
abbrev pub Account : Type 0
Account = List ℕ × ℕ

-- the book that the lines make, and the accounts, ascending by name
pub record AccountsValue : Type 0 where
  pub book : BookValue
  pub accounts : List Account

-- the accounts are those that the lines bind, ascending by the bytes of the name, each once
pub record IsListOf (said : List (Option Entry)) (accounts : List Account) : Type 0 where
  pub ascending : IsStrictlySortedBy (slice_cmp nat_cmp) (map (λ account. account.0) accounts)
  pub bound : (name : List ℕ) → lookup (bytes_eq name) accounts ≡ leaf_of name said
