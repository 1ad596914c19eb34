-- What is reported.
use Rattle.std.proofs.Common.{arith, ◌≡◌, ℕ, ◌+◌, ◌<◌, ◌≤◌, ◌≢◌, nat_lt, Bool, true, false, List, [], ◌∷◌}
use Rattle.std.proofs.Common.{length, get_or, Ok, Err}
use Rattle.std.proofs.Common.{refl, sym, ap, ◌∙◌, zero, suc, ◌++◌, append_assoc}
use Rattle.std.proofs.lemmas.Bool.{eqb-true, ltb-true, ltb-false}
use Rattle.std.proofs.lemmas.List.Sorted.{searched}
use Rattle.std.proofs.lemmas.List.Folds.{list_any_at}
use Rattle.std.specs.Prelude.{map, nat_eq, codes, decimal}
use Rattle.std.specs.List.{list_any}
use Rattle.std.specs.List.Sorted.{IsBinarySearchResult, IsStrictlyIncreasing}
use Rattle.std.specs.Ordering.{nat_cmp}
use Rattle.arrayvec.specs.ArrayString.{ArrayString}
use Rattle.json.specs.Token.{Token, begin_object, end_object, begin_array, end_array, key as key_token}
use Rattle.json.specs.Token.{number as number_token}
use Rattle.json.specs.Print.{print}
use Rattle.json.specs.Tree.{items_tokens, json_tokens}
use Rattle.serde_json.specs.Data.{Data, array}
use Rattle.serde_json.specs.View.{items_of}
use Rattle.serde_json.specs.Written.{compact_text, items_outline, outline}
use Rattle.serde_json.proofs.Texts.{print-outline}
use Rattle.sd_base.proofs.Arithmetic.{same_number}
use Rattle.sd_book.specs.Commands.{last_period, revoked}
use Rattle.sd_run_books.specs.Accounts.{AccountsValue}
use Rattle.sd_run_books.specs.Kept.{kept_accounts}
use Rattle.sd_run_books.specs.Report.{is_active, account_data, accounts_data}

-- a list that ascends doesn't fall
rising : (xs : List ℕ) → IsStrictlyIncreasing xs → (i j : ℕ) → i ≤ j → j < length xs → get_or xs i 0 ≤ get_or xs j 0
rising xs up i zero low below = let same : i ≡ 0 = omega (arith, low) in rw same (omega arith)
rising xs up i (suc j) low below = by (λ less. rising xs up i j less (omega (arith, below))) (nat_lt j i) refl
  where
    by : (i ≤ j → get_or xs i 0 ≤ get_or xs j 0) → (b : Bool) → nat_lt j i ≡ b → get_or xs i 0 ≤ get_or xs (suc j) 0
    by less true e = let same : i ≡ suc j = omega (arith, low, ltb-true j i e) in rw same (omega arith)
    by less false e =
        let here : j + 1 ≡ suc j = omega arith in
        let next : get_or xs j 0 < get_or xs (suc j) 0 = rw here at (up j (omega (arith, below))) in
        omega (arith, next, less (ltb-false j i e))

-- numbers that differ
differs : {u x : ℕ} (b : Bool) → nat_eq u x ≡ b → x ≢ u → b ≡ false
differs {u} {x} true e apart = absurd (apart (sym (eqb-true u x e)))
differs false e apart = refl

-- a number that no place has
nowhere : (xs : List ℕ) (u : ℕ) → ((k : ℕ) → k < length xs → get_or xs k 0 ≢ u) → list_any (nat_eq u) xs ≡ false
nowhere [] u none = refl
nowhere (x ∷ xs) u none =
    let apart : x ≢ u = none 0 (omega arith) in
    let off : nat_eq u x ≡ false = differs (nat_eq u x) refl apart in
    rw (off, nowhere xs u (λ k h. none (suc k) (omega arith))) refl

-- a leaf that the search finds isn't active
pub found_revoked : (revoked : List ℕ) (u place : ℕ) →
    IsBinarySearchResult (λ w. nat_cmp w u) revoked (Ok place) → IsStrictlyIncreasing revoked →
    is_active revoked u ≡ false
found_revoked revoked u place found up =
    let place_is = searched revoked u (Ok place) found (rising revoked up) in
    let here : nat_eq u (get_or revoked place 0) ≡ true = rw place_is.1 (same_number u) in
    rw (list_any_at (nat_eq u) revoked place 0 place_is.0 here) refl

-- one that it doesn't find is
pub not_found : (revoked : List ℕ) (u place : ℕ) →
    IsBinarySearchResult (λ w. nat_cmp w u) revoked (Err place) → IsStrictlyIncreasing revoked →
    is_active revoked u ≡ true
not_found revoked u place found up =
    let place_is = searched revoked u (Err place) found (rising revoked up) in
    rw (nowhere revoked u (λ k h same. apart k h same (nat_lt k place) refl place_is)) refl
  where
    apart : (k : ℕ) → k < length revoked → get_or revoked k 0 ≡ u → (b : Bool) → nat_lt k place ≡ b →
        (place ≤ length revoked) × ((k : ℕ) → k < place → get_or revoked k 0 < u) ×
        ((k : ℕ) → place ≤ k → k < length revoked → u < get_or revoked k 0) → ⊥
    apart k h same true e place_is = absurd (omega (arith, same, place_is.1 k (ltb-true k place e)))
    apart k h same false e place_is = absurd (omega (arith, same, place_is.2 k (ltb-false k place e) h))

-- the tokens of one account, one after another
pub account_joined : (old : List Token) (a b c d e f g h : Token) →
    ((((((old ++ a ∷ []) ++ b ∷ []) ++ c ∷ []) ++ d ∷ e ∷ []) ++ f ∷ []) ++ g ∷ []) ++ h ∷ []
    ≡ old ++ a ∷ b ∷ c ∷ d ∷ e ∷ f ∷ g ∷ h ∷ []
account_joined old a b c d e f g h = simp append_assoc

-- the tokens of the report, one member after another
pub report_joined : (leaves : List ℕ) (value : AccountsValue) (h last : ℕ) (a b c d e f : List Token) →
    leaves ≡ revoked value.book.height value.book.commands (last_period value.book.commands) →
    h ≡ value.book.height → last ≡ last_period value.book.commands → b ≡ a ++ begin_object ∷ [] →
    c ≡ b ++ key_token (codes "accounts") ∷ [] →
    d ≡ c ++ json_tokens (outline (array (items_of (map (account_data leaves) value.accounts)))) →
    e ≡ d ++ key_token (codes "height") ∷ number_token (decimal h) ∷ [] →
    f ≡ e ++ key_token (codes "period") ∷ number_token (decimal last) ∷ [] →
    f ++ end_object ∷ [] ≡ a ++ json_tokens (outline (accounts_data value))
unfolding accounts_data
report_joined leaves value h last a b c d e f up high late to_b to_c to_d to_e to_f =
    let shown = to_d ∙ ap (λ (xs : List ℕ). c ++ json_tokens (outline (array (items_of (map (account_data xs)
    value.accounts))))) up in
    rw (to_f, to_e, shown, to_c, to_b, high, late) (simp append_assoc)

-- the tokens of the accounts in these entries, with the closing bracket
abbrev pub tokens_due : List ℕ → List (ArrayString × ℕ) → List Token
tokens_due leaves entries = items_tokens (items_outline (items_of (map (account_data leaves) (kept_accounts entries))))

-- the accounts come after the tokens before them and the bracket
pub accounts_begin : (leaves : List ℕ) (before now : List Token) (all rest : List (ArrayString × ℕ)) →
    now ≡ before ++ begin_array ∷ [] → rest ≡ all →
    now ++ tokens_due leaves rest
    ≡ before ++ json_tokens (outline (array (items_of (map (account_data leaves) (kept_accounts all)))))
accounts_begin leaves before now all rest to_now is =
    rw (to_now, is) (append_assoc before (begin_array ∷ []) (tokens_due leaves all))

-- the first of the accounts that are left comes after the tokens so far
pub account_first : (leaves : List ℕ) (before now due : List Token) (all rest : List (ArrayString × ℕ))
    (key : ArrayString) (leaf : ℕ) (name : List ℕ) → all ≡ (key, leaf) ∷ rest → name ≡ key.bytes →
    now ≡ before ++ json_tokens (outline (account_data leaves (name, leaf))) → before ++ tokens_due leaves all ≡ due →
    now ++ tokens_due leaves rest ≡ due
account_first leaves before now due all rest key leaf name cut same to_now is =
    rw (to_now, same)
    (append_assoc before (json_tokens (outline (account_data leaves (key.bytes, leaf)))) (tokens_due leaves rest)
    ∙ (ap (λ entries. before ++ tokens_due leaves entries) (sym cut) ∙ is))

-- where none is left, the bracket closes
pub accounts_end : (leaves : List ℕ) (before due : List Token) (rest : List (ArrayString × ℕ)) → rest ≡ [] →
    before ++ tokens_due leaves rest ≡ due → before ++ end_array ∷ [] ≡ due
accounts_end leaves before due rest none is = ap (λ entries. before ++ tokens_due leaves entries) (sym none) ∙ is

-- the tokens of a value are printed as its compact text
pub printed : (value : Data) → print (json_tokens (outline value)) ≡ compact_text value
printed value = print-outline value
