-- Items as a grammar: they spell the bytes into which they are cut, and in one way.
use Rattle.std.proofs.Common.{ℕ, zero, suc, ◌+◌, ◌%◌, ◌≤◌, ◌≡◌, true, false, List, [], ◌∷◌, ◌++◌, length, take}
use Rattle.std.proofs.Common.{drop, length-drop, length-append, take-append-drop, le_refl, inl, inr, refl, sym, ap, ◌∙◌}
use Rattle.std.proofs.Common.{arith}
use Rattle.std.specs.List.{list_all}
use Rattle.std.proofs.lemmas.List.{take_at, drop_at}
use Rattle.std.proofs.lemmas.Bool.{and_parts, eqb-true, cases_lt}
use Rattle.sd_section.proofs.Cutting.{field_append}
use Rattle.sd_psi.specs.declared.items.Kind.{Kind}
use Rattle.sd_psi.specs.declared.items.Kind.TheVariants.{Program, Descriptor, Stream}
use Rattle.sd_psi.specs.Items.{item_size, cut_items, items_of, is_whole_item, are_whole, items_joined}
use Rattle.sd_psi.proofs.Cutting.{some_size, left_less, first_cut, none_cut, none_off, first_whole, first_off}

-- bytes are the items into which they are cut
cut_spells : (kind : Kind) (n : ℕ) (bytes : List ℕ) → length bytes ≤ n → items_joined (cut_items kind n bytes) ≡ bytes
unfolding cut_items
cut_spells kind zero [] h = refl
cut_spells kind (suc n) [] h = refl
cut_spells kind zero (b ∷ bs) h = absurd (omega arith)
cut_spells kind (suc n) (b ∷ bs) h =
    let size : ℕ = item_size kind (b ∷ bs) in
    let less = left_less kind b bs in
    ap (λ (l : List ℕ). take size (b ∷ bs) ++ l) (cut_spells kind n (drop size (b ∷ bs)) (omega arith)) ∙
    take-append-drop size (b ∷ bs)

pub items_spell : (kind : Kind) (bytes : List ℕ) → items_joined (items_of kind bytes) ≡ bytes
unfolding items_of
items_spell kind bytes = cut_spells kind (length bytes) bytes (le_refl (length bytes))

size_before : (kind : Kind) (item rest : List ℕ) → length item ≡ item_size kind item → item_size kind (item ++ rest)
    ≡ length item
unfolding item_size
size_before Program item rest h = sym h
size_before Descriptor item rest h = ap (λ (n : ℕ). 2 + n) (field_append item rest 8 8 (omega arith)) ∙ sym h
size_before Stream item rest h = ap (λ (n : ℕ). 5 + n) (field_append item rest 28 12 (omega arith)) ∙ sym h

-- so whole items are those of their bytes
pub spelled_items : (kind : Kind) (items : List (List ℕ)) → list_all (is_whole_item kind) items ≡ true →
    items_of kind (items_joined items) ≡ items
spelled_items kind [] h = none_cut kind [] refl
spelled_items kind (x ∷ xs) h =
    let tests = and_parts (is_whole_item kind x) (list_all (is_whole_item kind) xs) h in
    let long : length x ≡ item_size kind x = eqb-true (length x) (item_size kind x) tests.0 in
    let size = size_before kind x (items_joined xs) long in
    first_cut kind (x ++ items_joined xs) (omega (arith, long, some_size kind x, length-append x (items_joined xs)))
    ∙ (ap (λ (n : ℕ). take n (x ++ items_joined xs) ∷ items_of kind (drop n (x ++ items_joined xs))) size
    ∙ (ap (λ (l : List ℕ). l ∷ items_of kind (drop (length x) (x ++ items_joined xs))) (take_at x (items_joined xs)
    (length x) refl)
    ∙ (ap (λ (l : List ℕ). x ∷ items_of kind l) (drop_at x (items_joined xs) (length x) refl) ∙
    ap (λ (l : List (List ℕ)). x ∷ l) (spelled_items kind xs tests.1))))

pub spelled_whole : (kind : Kind) (items : List (List ℕ)) → list_all (is_whole_item kind) items ≡ true →
    are_whole kind (items_joined items) ≡ true
unfolding are_whole
spelled_whole kind items h = ap (list_all (is_whole_item kind)) (spelled_items kind items h) ∙ h

-- programs have four bytes each
fours : (n : ℕ) (bytes : List ℕ) → length bytes ≤ n → (are_whole Program bytes ≡ true → length bytes % 4 ≡ 0)
    × (length bytes % 4 ≡ 0 → are_whole Program bytes ≡ true)
unfolding item_size
fours n [] h = (λ is. refl, λ is. none_off Program [] refl)
fours zero (b ∷ bs) h = absurd (omega arith)
fours (suc n) (b ∷ bs) h = elim (cases_lt (length (b ∷ bs)) 4) [
  | inl few ↦
      let off : are_whole Program (b ∷ bs) ≡ false = first_off Program (b ∷ bs) (omega arith) few in
      (λ is. absurd (cc), λ is. absurd (omega arith))
  | inr enough ↦
      let left = length-drop 4 (b ∷ bs) in
      let after = fours n (drop 4 (b ∷ bs)) (omega arith) in
      let whole : are_whole Program (b ∷ bs) ≡ are_whole Program (drop 4 (b ∷ bs)) = first_whole Program (b ∷ bs)
      (omega arith) enough in
      (λ is. omega (arith, after.0 (sym whole ∙ is)), λ is. whole ∙ after.1 (omega arith))
]

pub programs_are_fours : (bytes : List ℕ) → are_whole Program bytes ≡ true → length bytes % 4 ≡ 0
programs_are_fours bytes h = (fours (length bytes) bytes (le_refl (length bytes))).0 h

pub fours_are_programs : (bytes : List ℕ) → length bytes % 4 ≡ 0 → are_whole Program bytes ≡ true
fours_are_programs bytes h = (fours (length bytes) bytes (le_refl (length bytes))).1 h
