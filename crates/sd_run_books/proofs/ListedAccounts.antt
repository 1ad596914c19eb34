-- Accounts that were read are those that the file means.
use Rattle.std.proofs.Common.{◌≡◌, ◌⊎◌, ℕ, Bool, true, false, cond, List, [], ◌∷◌, Option, Some, None}
use Rattle.std.proofs.Common.{Ok, Err, refl, sym, ap, subst, ◌∙◌, inl, inr}
use Rattle.std.specs.Prelude.{T, map, bytes_eq, ◌&&◌}
use Rattle.std.specs.List.{AllByRecursion, filter_map}
use Rattle.std.specs.List.Sorted.{IsStrictlySortedBy}
use Rattle.std.specs.Ordering.{nat_cmp, is_lt}
use Rattle.std.specs.Cmp.Lexicographic.{slice_cmp}
use Rattle.std.specs.declared.cmp.Ordering.{Ordering}
use Rattle.std.specs.declared.cmp.Ordering.TheVariants.{Less}
use Rattle.std.specs.Map.{lookup}
use Rattle.std.specs.FinMap.{entries, entries_sorted, from_entries, get-entries, get-from_entries}
use Rattle.std.specs.FinMap.{nat_cmp-IsAntisymmetric, slice_cmp-IsAntisymmetric}
use Rattle.std.specs.FinMap.Entries.{below_all, find, is_sorted, same_entries}
use Rattle.std.proofs.lemmas.Cmp.{nat_list_cmp_total}
use Rattle.std.proofs.lemmas.Map.Text.{is_eq-slice_cmp}
use Rattle.sd_run_books.specs.Accounts.{Account, AccountsValue, IsListOf}
use Rattle.sd_run_books.specs.Bound.{first_number_there, leaf_of}
use Rattle.sd_run_books.specs.Judged.{accounts_book}
use Rattle.sd_run_books.specs.Line.{Entry, Assigns, Drops, Restores, Ends, said_by_accounts}
use Rattle.sd_run_books.specs.declared.account_fault.AccountFault.{AccountFault}
use Rattle.sd_run_books.specs.declared.account_fault.AccountFault.TheVariants.{Line, Unknown, Taken, Limit, NoMemory}
use Rattle.sd_command_base.specs.Reads.{JudgedOutcome}
use Rattle.sd_run_books.specs.AccountsCommand.{account_on, bound_by, refused_accounts, accounts_or_status}

-- a name below those of some accounts
above : (name : List ℕ) (xs : List Account) →
    AllByRecursion (λ other. slice_cmp nat_cmp name other ≡ Less) (map (λ account. account.0) xs) →
    below_all (slice_cmp nat_cmp) name xs ≡ true
above name [] h = refl
above name (x ∷ xs) h =
    ap (λ (r : Ordering). is_lt r && below_all (slice_cmp nat_cmp) name xs) h.0 ∙ above name xs h.1

-- the names ascend
ascending : (xs : List Account) → IsStrictlySortedBy (slice_cmp nat_cmp) (map (λ account. account.0) xs) →
    is_sorted (slice_cmp nat_cmp) xs ≡ true
unfolding IsStrictlySortedBy
ascending [] h = refl
ascending (x ∷ xs) h =
    ap (λ (b : Bool). b && is_sorted (slice_cmp nat_cmp) xs) (above x.0 xs h.0) ∙ ascending xs h.1

-- both ways of looking for a name find the same leaf
finds : (name : List ℕ) (xs : List Account) → find (slice_cmp nat_cmp) name xs ≡ lookup (bytes_eq name) xs
finds name [] = refl
finds name (x ∷ xs) =
    ap (λ (b : Bool). cond b (Some x.1) (find (slice_cmp nat_cmp) name xs)) (is_eq-slice_cmp name x.0)
    ∙ ap (cond (bytes_eq name x.0) (Some x.1)) (finds name xs)

chosen : (b : Bool) (u : ℕ) (o p : Option ℕ) → o ≡ p → cond b (Some u) o ≡ first_number_there (cond b (Some u) None) p
chosen true u o p e = refl
chosen false u o p e = e

-- the accounts of lines have the leaves that the lines bind
binds : (name : List ℕ) (said : List (Option Entry)) →
    find (slice_cmp nat_cmp) name (filter_map account_on said) ≡ leaf_of name said
binds name [] = refl
binds name (None ∷ said) = binds name said
binds name (Some (Assigns other u) ∷ said) =
    ap (λ (b : Bool). cond b (Some u) (find (slice_cmp nat_cmp) name (filter_map account_on said)))
    (is_eq-slice_cmp name other)
    ∙ chosen (bytes_eq name other) u (find (slice_cmp nat_cmp) name (filter_map account_on said)) (leaf_of name said)
    (binds name said)
binds name (Some (Drops other) ∷ said) = binds name said
binds name (Some (Restores other) ∷ said) = binds name said
binds name (Some Ends ∷ said) = binds name said

-- there is one list of the accounts that lines bind
pub one_list : (said : List (Option Entry)) (xs : List Account) → IsListOf said xs → xs ≡ bound_by said
unfolding bound_by
one_list said xs is =
    let es = filter_map account_on said in
    let m = from_entries {R = slice_cmp nat_cmp} es in
    same_entries (slice_cmp nat_cmp) nat_list_cmp_total (slice_cmp-IsAntisymmetric nat_cmp-IsAntisymmetric) xs
    (entries m) (subst T (sym (ascending xs is.ascending)) tt) (entries_sorted m)
    (λ name. finds name xs ∙ is.bound name ∙ sym (binds name said)
    ∙ sym (get-from_entries nat_list_cmp_total es name) ∙ get-entries m name)

-- the accounts were read
pub are_told : (word d : ℕ) (bytes : List ℕ) (found : AccountsValue) → found.book.height ≡ d →
    accounts_book d bytes ≡ Ok found.book.commands → IsListOf (said_by_accounts d bytes) found.accounts →
    accounts_or_status word d bytes (accounts_book d bytes) ≡ Ok found
are_told word d bytes found height book listed =
    ap (accounts_or_status word d bytes) book
    ∙ ap (λ (n : ℕ). Ok (record {
      book = record { height = n; commands = found.book.commands };
      accounts = bound_by (said_by_accounts d bytes);
    })) (sym height)
    ∙ ap (λ (xs : List Account). Ok (record { book = found.book; accounts = xs }))
    (sym (one_list (said_by_accounts d bytes) found.accounts listed))

-- the accounts were refused, or memory was out
pub are_refused : (word d : ℕ) (bytes : List ℕ) (fault : AccountFault) →
    (fault ≡ NoMemory) ⊎ (accounts_book d bytes ≡ Err fault) →
    JudgedOutcome {X = AccountsValue} (λ accounts. accounts)
    (accounts_or_status word d bytes (accounts_book d bytes)) (Err (refused_accounts word d bytes fault))
are_refused word d bytes fault (inl e) = inr (ap (refused_accounts word d bytes) e)
are_refused word d bytes (Line k) (inr e) = inl (ap (accounts_or_status word d bytes) e, tt, tt)
are_refused word d bytes (Unknown k) (inr e) = inl (ap (accounts_or_status word d bytes) e, tt, tt)
are_refused word d bytes (Taken k) (inr e) = inl (ap (accounts_or_status word d bytes) e, tt, tt)
are_refused word d bytes (Limit limit) (inr e) = inl (ap (accounts_or_status word d bytes) e, tt, tt)
are_refused word d bytes NoMemory (inr e) = inr refl
