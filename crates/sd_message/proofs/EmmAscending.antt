-- Ascending lists of sets, by their neighbours.
use Rattle.std.proofs.Common.{◌≡◌, ℕ, zero, suc, ◌+◌, ◌-◌, ◌<◌, ◌≤◌, List, [], ◌∷◌, length, take, get_or, arith, refl}
use Rattle.std.specs.declared.cmp.Ordering.TheVariants.{Less}
use Rattle.std.proofs.lemmas.Bool.Decides.{nat_tests}
use Rattle.std.proofs.lemmas.List.{length-map}
use Rattle.sd_message.proofs.Ascending as Pairs
use Rattle.sd_tree_keys.specs.declared.set.SetName.{SetName}
use Rattle.sd_tree_keys.specs.declared.set.SetName.TheVariants.{Whole, Diff}
use Rattle.sd_tree_keys.specs.SetNames.{set_cmp, AreAscending}
use Rattle.sd_message.specs.EmmSpelled.{names_in}
use Rattle.sd_message.specs.declared.emm.Entry.{Entry}

-- what stands before a set stands before all after it
less_chain : (a b c : SetName) → set_cmp a b ≡ Less → set_cmp b c ≡ Less → set_cmp a c ≡ Less
less_chain a Whole Whole p q = absurd (cc)
less_chain a (Diff k l) Whole p q = absurd (cc)
less_chain Whole b (Diff m n) p q = refl
less_chain (Diff i j) Whole (Diff m n) p q = absurd (cc)
less_chain (Diff i j) (Diff k l) (Diff m n) p q = grind (arith, nat_tests)

-- the order of the sets
abbrev IsBefore : SetName → SetName → Type 0
IsBefore a b = set_cmp a b ≡ Less

-- one set ascends
pub first_ascends : (entries : List Entry) (k : ℕ) → k ≤ 1 → AreAscending (take k (names_in entries))
first_ascends entries k few = Pairs.first_ascends IsBefore (names_in entries) k few

-- the names of entries
pub named_at : (entries : List Entry) (i : ℕ) (d : SetName) (e : Entry) → i < length entries →
    get_or (names_in entries) i d ≡ (get_or entries i e).name
named_at [] i d e h = absurd (omega arith)
named_at (x ∷ xs) zero d e h = refl
named_at (x ∷ xs) (suc i) d e h = named_at xs i d e (omega arith)

-- the sets of entries ascend with one more that stands after the last
pub next_entry : (entries : List Entry) (k : ℕ) (d e : Entry) → 1 ≤ k → k < length entries →
    AreAscending (take k (names_in entries)) →
    set_cmp (get_or entries (k - 1) d).name (get_or entries k e).name ≡ Less →
    AreAscending (take (k + 1) (names_in entries))
next_entry entries k d e some within up less =
    let long = length-map entries (λ (entry : Entry). entry.name) in
    Pairs.next_ascends IsBefore (names_in entries) k Whole Whole less_chain some (omega arith) up
    (rw (named_at entries (k - 1) Whole d (omega arith), named_at entries k Whole e within) less)

-- they don't ascend where one doesn't stand after the one before
pub not_after : (entries : List Entry) (k : ℕ) (d e : Entry) → 1 ≤ k → k < length entries →
    ¬ (set_cmp (get_or entries (k - 1) d).name (get_or entries k e).name ≡ Less) → ¬ AreAscending (names_in entries)
not_after entries k d e some within unless =
    let long = length-map entries (λ (entry : Entry). entry.name) in
    Pairs.not_after IsBefore (names_in entries) k Whole Whole some (omega arith)
    (rw (named_at entries (k - 1) Whole d (omega arith), named_at entries k Whole e within) unless)

-- all of them
pub all_ascend : (entries : List Entry) (k : ℕ) → length entries ≤ k → AreAscending (take k (names_in entries)) →
    AreAscending (names_in entries)
all_ascend entries k past up =
    let long = length-map entries (λ (entry : Entry). entry.name) in
    Pairs.all_ascend IsBefore (names_in entries) k (omega arith) up
