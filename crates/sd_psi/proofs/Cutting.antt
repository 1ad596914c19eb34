-- How bytes are cut into items.
use Rattle.std.proofs.Common.{ℕ, zero, suc, ◌+◌, ◌-◌, ◌<◌, ◌≤◌, ◌≡◌, Bool, true, false, ◌==◌, ◌&&◌, List, [], ◌∷◌}
use Rattle.std.proofs.Common.{length, take, drop, length-drop, length-take-le, eq-eqb, le_refl, refl, sym, ap, ◌∙◌}
use Rattle.std.proofs.Common.{arith}
use Rattle.std.specs.List.{list_all}
use Rattle.std.proofs.lemmas.List.{take_all, take_rest, drop-drop}
use Rattle.std.proofs.lemmas.Bool.{eqb-true}
use Rattle.sd_base.specs.Bits.{field}
use Rattle.sd_section.proofs.Judging.{field_take}
use Rattle.sd_psi.specs.declared.items.Kind.{Kind}
use Rattle.sd_psi.specs.declared.items.Kind.TheVariants.{Program, Descriptor, Stream}
use Rattle.sd_psi.specs.Items.{item_size, cut_items, items_of, is_whole_item, are_whole}

-- an item has a byte
pub some_size : (kind : Kind) (bytes : List ℕ) → 0 < item_size kind bytes
unfolding item_size
some_size Program bytes = omega arith
some_size Descriptor bytes = omega arith
some_size Stream bytes = omega arith

-- an item that is there says its own length
pub same_size : (kind : Kind) (bytes : List ℕ) → item_size kind (take (item_size kind bytes) bytes)
    ≡ item_size kind bytes
unfolding item_size
same_size Program bytes = refl
same_size Descriptor bytes = ap (λ (n : ℕ). 2 + n) (field_take bytes (2 + field bytes 8 8) 8 8 (omega arith))
same_size Stream bytes = ap (λ (n : ℕ). 5 + n) (field_take bytes (5 + field bytes 28 12) 28 12 (omega arith))

-- what is left after an item is shorter
pub left_less : (kind : Kind) (b : ℕ) (bs : List ℕ) → length (drop (item_size kind (b ∷ bs)) (b ∷ bs)) ≤ length bs
left_less kind b bs = omega (arith, length-drop (item_size kind (b ∷ bs)) (b ∷ bs), some_size kind (b ∷ bs))

-- any number of turns does that isn't below the length
same_turns : (kind : Kind) (m n : ℕ) (bytes : List ℕ) → length bytes ≤ m → length bytes ≤ n → cut_items kind m bytes
    ≡ cut_items kind n bytes
unfolding cut_items
same_turns kind zero zero [] h k = refl
same_turns kind zero (suc n) [] h k = refl
same_turns kind (suc m) zero [] h k = refl
same_turns kind (suc m) (suc n) [] h k = refl
same_turns kind zero n (b ∷ bs) h k = absurd (omega arith)
same_turns kind (suc m) zero (b ∷ bs) h k = absurd (omega arith)
same_turns kind (suc m) (suc n) (b ∷ bs) h k =
    let less = left_less kind b bs in
    ap (λ (l : List (List ℕ)). take (item_size kind (b ∷ bs)) (b ∷ bs) ∷ l)
    (same_turns kind m n (drop (item_size kind (b ∷ bs)) (b ∷ bs)) (omega arith) (omega arith))

-- no bytes have no item
pub none_cut : (kind : Kind) (bytes : List ℕ) → length bytes ≡ 0 → items_of kind bytes ≡ []
unfolding items_of cut_items
none_cut kind [] h = refl
none_cut kind (b ∷ bs) h = absurd (omega arith)

-- the first item, and those after it
pub first_cut : (kind : Kind) (bytes : List ℕ) → 0 < length bytes →
    items_of kind bytes ≡ take (item_size kind bytes) bytes ∷ items_of kind (drop (item_size kind bytes) bytes)
unfolding items_of cut_items
first_cut kind [] h = absurd (omega arith)
first_cut kind (b ∷ bs) h =
    ap (λ (l : List (List ℕ)). take (item_size kind (b ∷ bs)) (b ∷ bs) ∷ l)
    (same_turns kind (length bs) (length (drop (item_size kind (b ∷ bs)) (b ∷ bs)))
    (drop (item_size kind (b ∷ bs)) (b ∷ bs)) (left_less kind b bs) (le_refl _))

-- nothing is cut off of no bytes
pub none_off : (kind : Kind) (bytes : List ℕ) → length bytes ≡ 0 → are_whole kind bytes ≡ true
unfolding are_whole
none_off kind bytes h = ap (list_all (is_whole_item kind)) (none_cut kind bytes h)

first_test : (kind : Kind) (bytes : List ℕ) → 0 < length bytes →
    are_whole kind bytes
    ≡ (is_whole_item kind (take (item_size kind bytes) bytes) && are_whole kind (drop (item_size kind bytes) bytes))
unfolding are_whole
first_test kind bytes h = ap (list_all (is_whole_item kind)) (first_cut kind bytes h)

-- where the first item is there, it is as with those after it
pub first_whole : (kind : Kind) (bytes : List ℕ) → 0 < length bytes → item_size kind bytes ≤ length bytes →
    are_whole kind bytes ≡ are_whole kind (drop (item_size kind bytes) bytes)
first_whole kind bytes some there =
    let long : length (take (item_size kind bytes) bytes) ≡ item_size kind (take (item_size kind bytes) bytes) =
    length-take-le (item_size kind bytes) bytes there ∙ sym (same_size kind bytes) in
    first_test kind bytes some ∙ ap (λ (b : Bool). b && are_whole kind (drop (item_size kind bytes) bytes))
    (eq-eqb _ _ long)

not_equal : (a b : ℕ) (test : Bool) → (a == b) ≡ test → a < b → test ≡ false
not_equal a b false e h = refl
not_equal a b true e h = absurd (omega (arith, eqb-true a b e))

-- where it is cut off, the items don't fill the bytes
pub first_off : (kind : Kind) (bytes : List ℕ) → 0 < length bytes → length bytes < item_size kind bytes →
    are_whole kind bytes ≡ false
first_off kind bytes some off =
    let every : take (item_size kind bytes) bytes ≡ bytes = take_all (item_size kind bytes) bytes (omega arith) in
    let wrong : is_whole_item kind (take (item_size kind bytes) bytes) ≡ false = rw every
    (not_equal (length bytes) (item_size kind bytes) _ refl off) in
    first_test kind bytes some ∙ ap (λ (b : Bool). b && are_whole kind (drop (item_size kind bytes) bytes)) wrong

-- the items after a place where an item of so many bytes stands
pub items_after : (kind : Kind) (bytes : List ℕ) (at size : ℕ) → at < length bytes →
    size ≡ item_size kind (take (length bytes - at) (drop at bytes)) →
    items_of kind (drop at bytes) ≡ take size (drop at bytes) ∷ items_of kind (drop (at + size) bytes)
items_after kind bytes at size within is =
    let here : size ≡ item_size kind (drop at bytes) = is ∙ ap (item_size kind) (take_rest bytes at) in
    first_cut kind (drop at bytes) (omega (arith, length-drop at bytes))
    ∙ (ap (λ (n : ℕ). take n (drop at bytes) ∷ items_of kind (drop n (drop at bytes))) (sym here)
    ∙ ap (λ (l : List ℕ). take size (drop at bytes) ∷ items_of kind l) (drop-drop size at bytes))

-- they fill what is after that place as those after the item do
pub whole_after : (kind : Kind) (bytes : List ℕ) (at size : ℕ) → at < length bytes →
    size ≡ item_size kind (take (length bytes - at) (drop at bytes)) → size ≤ length bytes - at →
    are_whole kind (drop at bytes) ≡ are_whole kind (drop (at + size) bytes)
whole_after kind bytes at size within is there =
    let here : size ≡ item_size kind (drop at bytes) = is ∙ ap (item_size kind) (take_rest bytes at) in
    first_whole kind (drop at bytes) (omega (arith, length-drop at bytes)) (omega (arith, length-drop at bytes))
    ∙ (ap (λ (n : ℕ). are_whole kind (drop n (drop at bytes))) (sym here) ∙
    ap (are_whole kind) (drop-drop size at bytes))

-- where it is cut off, they don't
pub off_after : (kind : Kind) (bytes : List ℕ) (at : ℕ) → at < length bytes →
    length bytes - at < item_size kind (take (length bytes - at) (drop at bytes)) → are_whole kind (drop at bytes)
    ≡ false
off_after kind bytes at within off =
    let here = ap (item_size kind) (take_rest bytes at) in
    first_off kind (drop at bytes) (omega (arith, length-drop at bytes)) (omega (arith, length-drop at bytes, here))

-- nothing is cut off after the end
pub none_after : (kind : Kind) (bytes : List ℕ) (at : ℕ) → length bytes ≤ at → are_whole kind (drop at bytes) ≡ true
none_after kind bytes at past = none_off kind (drop at bytes) (omega (arith, length-drop at bytes))

-- an item at a place is as long as it says
pub size_itself : (kind : Kind) (bytes : List ℕ) (at size : ℕ) →
    size ≡ item_size kind (take (length bytes - at) (drop at bytes)) →
    item_size kind (take size (drop at bytes)) ≡ size
size_itself kind bytes at size is =
    let here : size ≡ item_size kind (drop at bytes) = is ∙ ap (item_size kind) (take_rest bytes at) in
    ap (λ (n : ℕ). item_size kind (take n (drop at bytes))) here ∙ (same_size kind (drop at bytes) ∙ sym here)

-- the first item of bytes that items fill, and the bytes after it
pub cut_first : (kind : Kind) (bytes : List ℕ) (size : ℕ) → size ≡ item_size kind bytes → 0 < length bytes →
    items_of kind bytes ≡ take size bytes ∷ items_of kind (drop size bytes)
cut_first kind bytes size is some =
    first_cut kind bytes some ∙ ap (λ (n : ℕ). take n bytes ∷ items_of kind (drop n bytes)) (sym is)

pub cut_long : (kind : Kind) (bytes : List ℕ) (size : ℕ) → size ≡ item_size kind bytes → size ≤ length bytes →
    length (take size bytes) ≡ item_size kind (take size bytes)
cut_long kind bytes size is there =
    length-take-le size bytes there
    ∙ (is ∙ (sym (same_size kind bytes) ∙ ap (λ (n : ℕ). item_size kind (take n bytes)) (sym is)))

pub cut_rest : (kind : Kind) (bytes : List ℕ) (size : ℕ) → size ≡ item_size kind bytes → 0 < length bytes →
    size ≤ length bytes → are_whole kind bytes ≡ true → are_whole kind (drop size bytes) ≡ true
cut_rest kind bytes size is some there whole =
    ap (λ (n : ℕ). are_whole kind (drop n bytes)) is
    ∙ (sym (first_whole kind bytes some (omega (arith, is, there))) ∙ whole)

-- bytes have an item
pub some_items : (kind : Kind) (bytes : List ℕ) → 0 < length bytes → items_of kind bytes ≡ [] → ⊥
some_items kind bytes some none =
    let cut_items = first_cut kind bytes some in
    absurd (cc)
