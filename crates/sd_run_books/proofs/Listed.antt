-- The entries of a map by name, as accounts.
use Rattle.std.proofs.Common.{◌≡◌, ℕ, Bool, true, false, cond, List, [], ◌∷◌, Option, Some, refl, ◌∙◌}
use Rattle.std.specs.Prelude.{map, bytes_eq}
use Rattle.std.specs.Ordering.{nat_cmp, is_eq}
use Rattle.std.specs.Cmp.Lexicographic.{slice_cmp}
use Rattle.std.specs.List.{AllByRecursion}
use Rattle.std.specs.List.Sorted.{IsStrictlySortedBy}
use Rattle.std.specs.Map.{keys_of, lookup}
use Rattle.std.specs.declared.cmp.Ordering.TheVariants.{Less}
use Rattle.std.proofs.lemmas.Map.Text.{is_eq-slice_cmp}
use Rattle.arrayvec.specs.ArrayString.{ArrayString}
use Rattle.sd_run_books.specs.Line.{Entry}
use Rattle.sd_run_books.specs.Bound.{leaf_of}
use Rattle.sd_run_books.specs.Accounts.{IsListOf}
use Rattle.sd_run_books.specs.Kept.{kept_accounts, name_cmp}

-- names above one
names_above : (key : ArrayString) (entries : List (ArrayString × ℕ)) →
    AllByRecursion (λ other. name_cmp key other ≡ Less) (keys_of entries) →
    AllByRecursion (λ name. slice_cmp nat_cmp key.bytes name ≡ Less)
    (map (λ account. account.0) (kept_accounts entries))
names_above key [] h = h
names_above key (entry ∷ entries) h = (h.0, names_above key entries h.1)

-- the names ascend
names_ascend : (entries : List (ArrayString × ℕ)) → IsStrictlySortedBy name_cmp (keys_of entries) →
    IsStrictlySortedBy (slice_cmp nat_cmp) (map (λ account. account.0) (kept_accounts entries))
unfolding IsStrictlySortedBy
names_ascend [] h = h
names_ascend (entry ∷ entries) h = (names_above entry.0 entries h.0, names_ascend entries h.1)

-- a name has the leaf that it has in the map
same_leaf : (name : List ℕ) (entries : List (ArrayString × ℕ)) →
    lookup (bytes_eq name) (kept_accounts entries) ≡
    lookup (λ key. is_eq (slice_cmp nat_cmp name key.bytes)) entries
same_leaf name [] = refl
same_leaf name (entry ∷ entries) =
    rw (is_eq-slice_cmp name entry.0.bytes)
    (by (same_leaf name entries) (bytes_eq name entry.0.bytes))
  where
    by : lookup (bytes_eq name) (kept_accounts entries) ≡
        lookup (λ key. is_eq (slice_cmp nat_cmp name key.bytes)) entries →
        (b : Bool) → cond b (Some entry.1) (lookup (bytes_eq name) (kept_accounts entries)) ≡
        cond b (Some entry.1) (lookup (λ key. is_eq (slice_cmp nat_cmp name key.bytes)) entries)
    by same true = refl
    by same false = same

-- the accounts are listed
pub all_listed : (entries : List (ArrayString × ℕ)) (said : List (Option Entry)) →
    IsStrictlySortedBy name_cmp (keys_of entries) →
    ((name : List ℕ) → lookup (λ key. is_eq (slice_cmp nat_cmp name key.bytes)) entries
    ≡ leaf_of name said) →
    IsListOf said (kept_accounts entries)
all_listed entries said ordered leaves = record {
  ascending = names_ascend entries ordered;
  bound = λ name. same_leaf name entries ∙ leaves name;
}
