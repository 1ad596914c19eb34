-- Choices of a list of which a part is whole, and what stands before a message.
use Rattle.std.proofs.Common.{◌≡◌, refl, ℕ, zero, suc, ◌<◌, ◌≤◌, ◌==◌, ◌||◌, Bool, true, List, [], ◌∷◌, ◌++◌}
use Rattle.std.proofs.Common.{false, length, take, drop, arith, sym, ap, ◌∙◌, inl, inr, ◌⊎◌, append-nil}
use Rattle.std.specs.Prelude.{min}
use Rattle.std.specs.List.{list_any}
use Rattle.std.proofs.lemmas.Bool.{cases_lt, or_parts}
use Rattle.std.proofs.lemmas.List.{drop_all}
use Rattle.sd_spec.specs.Sent.{Item, Cat, Entitles, Controls, Carries, is_cat_item}
use Rattle.sd_law_losses.specs.Kept.{is_kept, after_cat}
use Rattle.sd_law_losses.specs.Chosen.{chosen}
use Rattle.sd_law_losses.proofs.Coming.{chosen_none, all_kept}
use Rattle.sd_law_losses.proofs.Arriving.{is_of}
use Rattle.sd_law_progress.specs.Progress.{AreSetFrom, is_part_of, before_message}

-- all are chosen
pub chosen_whole : {A : Type 0} (flags : List Bool) (xs : List A) → AreSetFrom 0 (length xs) flags →
    chosen flags xs ≡ xs
unfolding chosen
chosen_whole flags [] are = chosen_none flags
chosen_whole [] (x ∷ xs) are = absurd (cc (are 0 (omega arith) (omega arith)))
chosen_whole (true ∷ fs) (x ∷ xs) are =
    ap (λ (ys : List _). x ∷ ys) (chosen_whole fs xs (λ i from below. are (suc i) (omega arith) (omega (arith, below))))
chosen_whole (false ∷ fs) (x ∷ xs) are = absurd (cc (are 0 (omega arith) (omega arith)))

-- all from place x on are
pub chosen_from : {A : Type 0} (x : ℕ) (flags : List Bool) (xs : List A) → AreSetFrom x (length xs) flags →
    chosen flags xs ≡ chosen flags (take x xs) ++ drop x xs
unfolding chosen
chosen_from zero flags xs are =
    chosen_whole flags xs are ∙ ap (λ (ys : List _). ys ++ xs) (sym (chosen_none flags))
chosen_from (suc x) flags [] are = sym (append-nil (chosen flags []))
chosen_from (suc x) [] (y ∷ ys) are = by_end (cases_lt x (length ys))
  where
    by_end : (x < length ys) ⊎ (length ys ≤ x) → [] ≡ drop x ys
    by_end (inl below) = absurd (cc (are (suc x) (omega arith) (omega (arith, below))))
    by_end (inr past) = sym (drop_all x ys past)
chosen_from (suc x) (true ∷ fs) (y ∷ ys) are =
    ap (λ (zs : List _). y ∷ zs)
    (chosen_from x fs ys (λ i from below. are (suc i) (omega (arith, from)) (omega (arith, below))))
chosen_from (suc x) (false ∷ fs) (y ∷ ys) are =
    chosen_from x fs ys (λ i from below. are (suc i) (omega (arith, from)) (omega (arith, below)))

-- all before it are
pub chosen_before : {A : Type 0} (x : ℕ) (flags : List Bool) (xs : List A) → AreSetFrom 0 (min x (length xs)) flags →
    chosen flags xs ≡ take x xs ++ chosen (drop x flags) (drop x xs)
unfolding chosen
chosen_before zero flags xs are = refl
chosen_before (suc x) flags [] are = chosen_none flags ∙ sym (chosen_none (drop (suc x) flags))
chosen_before (suc x) [] (y ∷ ys) are = absurd (cc (are 0 (omega arith) (omega arith)))
chosen_before (suc x) (true ∷ fs) (y ∷ ys) are =
    ap (λ (zs : List _). y ∷ zs)
    (chosen_before x fs ys (λ i from below. are (suc i) (omega arith) (omega (arith, below))))
chosen_before (suc x) (false ∷ fs) (y ∷ ys) are = absurd (cc (are 0 (omega arith) (omega arith)))

-- the parts of a message
pub same_parts : (n : ℕ) (items : List Item) → list_any (is_part_of n) items ≡ list_any (is_of n) items
same_parts n [] = refl
same_parts n (Cat ∷ items) = same_parts n items
same_parts n (Entitles emm ∷ items) = same_parts n items
same_parts n (Controls part ∷ items) = ap (λ (b : Bool). (part.number == n) || b) (same_parts n items)
same_parts n (Carries j packet ∷ items) = same_parts n items

-- what stands before the first of them
pub before_is : (n : ℕ) (front : List Item) (part : Item) (rest : List Item) → list_any (is_part_of n) front ≡ false →
    is_part_of n part ≡ true → before_message n (front ++ part ∷ rest) ≡ front
unfolding before_message
before_is n [] part rest none first = rw first refl
before_is n (item ∷ front) part rest none first =
    let parts = or_parts (is_part_of n item) (list_any (is_part_of n) front) none in
    rw (parts.0) (ap (λ (items : List Item). item ∷ items) (before_is n front part rest parts.1 first))

-- the first d of a list
pub firsts : ℕ → List Bool
firsts zero = []
firsts (suc d) = true ∷ firsts d

pub firsts_chosen : {A : Type 0} (d : ℕ) (xs : List A) → chosen (firsts d) xs ≡ take d xs
unfolding chosen firsts
firsts_chosen zero xs = refl
firsts_chosen (suc d) [] = refl
firsts_chosen (suc d) (x ∷ xs) = ap (λ (ys : List _). x ∷ ys) (firsts_chosen d xs)

-- they aren't all where the list is longer
pub firsts_not_all : {A : Type 0} (d : ℕ) (xs : List A) → d < length xs → all_kept (firsts d) xs ≡ false
unfolding firsts
firsts_not_all d [] more = absurd (omega (arith, more))
firsts_not_all zero (x ∷ xs) more = refl
firsts_not_all (suc d) (x ∷ xs) more = firsts_not_all d xs (omega (arith, more))

-- of things that begin with the CAT the same packets are kept after it
pub kept_after : (front rest later others : List Item) (j : ℕ) → front ++ later ≡ Cat ∷ others →
    list_any is_cat_item front ≡ true → is_kept (after_cat (front ++ rest)) j ≡ is_kept (front ++ rest) j
unfolding after_cat
kept_after [] rest later others j same some = absurd (cc some)
kept_after (Cat ∷ front) rest later others j same some = refl
kept_after (Entitles emm ∷ front) rest later others j same some = absurd (cc same)
kept_after (Controls part ∷ front) rest later others j same some = absurd (cc same)
kept_after (Carries k packet ∷ front) rest later others j same some = absurd (cc same)
