-- Items of equally many bytes, one after the other.
use Rattle.std.proofs.Common.{◌≡◌, inl, inr, ℕ, zero, suc, ◌+◌, ◌-◌, ◌*◌, ◌<◌, List, [], ◌∷◌, ◌++◌, length, take, drop}
use Rattle.std.proofs.Common.{set, get_or, drop-drop, append_assoc, append-nil, length-append, length-drop}
use Rattle.std.proofs.Common.{length-take-le, arith, refl, sym, ap, ◌∙◌, subst}
use Rattle.std.specs.Prelude.{replicate, All, flat_map}
use Rattle.std.proofs.Math.Nat.{mul-suc, mul-zero}
use Rattle.std.proofs.lemmas.Bool.{cases_lt}
use Rattle.std.proofs.lemmas.List.{set_at, take_at, drop_at, take_more, take-append-drop, nil_from_length}
use Rattle.std.proofs.lemmas.List.{flat_map_more}
use Rattle.sd_message.specs.Items.{items_in}
use Rattle.sd_message.specs.Pieces.{filled}
use Rattle.sd_message.proofs.Numbers.{IsBytes, bytes_take, bytes_drop}

-- how many there are
pub length_items : {A : Type 0} (item : List ℕ → A) (w n : ℕ) (bytes : List ℕ) → length (items_in item w n bytes) ≡ n
unfolding items_in
length_items item w zero bytes = refl
length_items item w (suc n) bytes = ap suc (length_items item w n (drop w bytes))

-- one more
item_more : {A : Type 0} (item : List ℕ → A) (w n : ℕ) (bytes : List ℕ) →
    items_in item w (suc n) bytes ≡ items_in item w n bytes ++ item (take w (drop (w * n) bytes)) ∷ []
unfolding items_in
item_more item w zero bytes = rw (mul-zero w) refl
item_more {A = A} item w (suc n) bytes =
    let e : w + w * n ≡ w * suc n = omega (arith, mul-suc w n) in
    ap (λ (xs : List A). item (take w bytes) ∷ xs) (item_more item w n (drop w bytes)
    ∙ ap (λ (l : List ℕ). items_in item w n (drop w bytes) ++ item (take w l) ∷ [])
    (drop-drop (w * n) w bytes ∙ ap (λ (k : ℕ). drop k bytes) e))

-- each of them
pub item_at : {A : Type 0} (item : List ℕ → A) (w n k : ℕ) (bytes : List ℕ) (d : A) → k < n →
    get_or (items_in item w n bytes) k d ≡ item (take w (drop (w * k) bytes))
unfolding items_in
item_at item w zero k bytes d h = absurd (omega arith)
item_at item w (suc n) zero bytes d h = rw (mul-zero w) refl
item_at item w (suc n) (suc k) bytes d h =
    let e : w + w * k ≡ w * suc k = omega (arith, mul-suc w k) in
    item_at item w n k (drop w bytes) d (omega arith)
    ∙ ap (λ (l : List ℕ). item (take w l)) (drop-drop (w * k) w bytes ∙ ap (λ (m : ℕ). drop m bytes) e)

-- the item at place k, as its bytes are cut
abbrev pub cut_at : {A : Type 0} → (List ℕ → A) → ℕ → ℕ → List ℕ → A
cut_at item w k bytes = item (take (w * k + w - w * k) (drop (w * k) bytes))

cut_is : {A : Type 0} (item : List ℕ → A) (w k : ℕ) (bytes : List ℕ) → cut_at item w k bytes
    ≡ item (take w (drop (w * k) bytes))
cut_is item w k bytes =
    let e : w * k + w - w * k ≡ w = omega arith in
    ap (λ (n : ℕ). item (take n (drop (w * k) bytes))) e

-- none is read so far
pub none_read : {A : Type 0} (item : List ℕ → A) (w most : ℕ) (nothing : A) (bytes : List ℕ) →
    replicate most nothing ≡ items_in item w 0 bytes ++ replicate (most - 0) nothing
unfolding items_in
none_read {A = A} item w most nothing bytes =
    let e : most ≡ most - 0 = omega arith in
    ap (λ (n : ℕ). replicate n nothing) e

-- one more is read
pub one_read : {A : Type 0} (item : List ℕ → A) (w most : ℕ) (nothing : A) (bytes : List ℕ) (read : List A) (k : ℕ)
    (one : A) → k < most →
    read ≡ items_in item w k bytes ++ replicate (most - k) nothing → one ≡ cut_at item w k bytes →
    set read k one ≡ items_in item w (k + 1) bytes ++ replicate (most - (k + 1)) nothing
one_read {A = A} item w most nothing bytes read k one few is is_one =
    let left : most - k ≡ suc (most - (k + 1)) = omega arith in
    let next : k + 1 ≡ suc k = omega arith in
    let here : one ≡ item (take w (drop (w * k) bytes)) = is_one ∙ cut_is item w k bytes in
    let split : read ≡ items_in item w k bytes ++ nothing ∷ replicate (most - (k + 1)) nothing = rw left at is in
    ap (λ (xs : List A). set xs k one) split
    ∙ (set_at (items_in item w k bytes) nothing (replicate (most - (k + 1)) nothing) one k (length_items item w k bytes)
    ∙ (sym (append_assoc (items_in item w k bytes) (one ∷ []) (replicate (most - (k + 1)) nothing))
    ∙ ap (λ (xs : List A). xs ++ replicate (most - (k + 1)) nothing)
    (ap (λ (x : A). items_in item w k bytes ++ x ∷ []) here
    ∙ (sym (item_more item w k bytes) ∙ ap (λ (n : ℕ). items_in item w n bytes) (sym next)))))

-- all are read
pub all_read : {A : Type 0} (item : List ℕ → A) (w most : ℕ) (nothing : A) (bytes : List ℕ) (count : ℕ) →
    items_in item w count bytes ++ replicate (most - count) nothing ≡ filled most nothing (items_in item w count bytes)
all_read item w most nothing bytes count = rw (length_items item w count bytes) refl

-- nothing is wrong with none
pub none_good : {A : Type 0} (P : A → Type 0) (item : List ℕ → A) (w : ℕ) (bytes : List ℕ) →
    All P (items_in item w 0 bytes)
unfolding items_in
none_good P item w bytes k d below = absurd (omega arith)

-- nor with one more that is good
pub one_good : {A : Type 0} (P : A → Type 0) (item : List ℕ → A) (w k : ℕ) (bytes : List ℕ) →
    All P (items_in item w k bytes) →
    P (cut_at item w k bytes) → All P (items_in item w (k + 1) bytes)
one_good {A = A} P item w k bytes all one m d below =
    let here : m < k + 1 = omega (arith, length_items item w (k + 1) bytes) in
    let last : P (item (take w (drop (w * k) bytes))) = subst P (cut_is item w k bytes) one in
    subst P (sym (item_at item w (k + 1) m bytes d here)) (elim (cases_lt m k) [
      | inl below_k ↦ subst P (item_at item w k m bytes d below_k)
          (all m d (omega (arith, length_items item w k bytes)))
      | inr g ↦ let e : m ≡ k = omega arith in rw e last
    ])

-- with one that isn't, not all are
pub not_good : {A : Type 0} (P : A → Type 0) (item : List ℕ → A) (w k count : ℕ) (bytes : List ℕ) → k < count →
    ¬ P (cut_at item w k bytes) → ¬ All P (items_in item w count bytes)
not_good P item w k count bytes within unless all =
    unless (subst P (item_at item w count k bytes (cut_at item w k bytes) within ∙ sym (cut_is item w k bytes))
    (all k (cut_at item w k bytes) (omega (arith, length_items item w count bytes))))

-- a fact of each item that can be read is one of each that is
pub each_read : {A : Type 0} (P : A → Type 0) (item : List ℕ → A) (w n : ℕ) (bytes : List ℕ) →
    ((piece : List ℕ) → P (item piece)) →
    All P (items_in item w n bytes)
each_read P item w n bytes each k d below =
    let here : k < n = omega (arith, length_items item w n bytes) in
    subst P (sym (item_at item w n k bytes d here)) (each (take w (drop (w * k) bytes)))

-- items are spelled as they were read, where each is
pub items_spelled : {A : Type 0} (item : List ℕ → A) (spelled : A → List ℕ) (w n : ℕ) (bytes : List ℕ) →
    ((piece : List ℕ) → IsBytes piece → length piece ≡ w → spelled (item piece) ≡ piece) → IsBytes bytes → length bytes
    ≡ w * n →
    flat_map spelled (items_in item w n bytes) ≡ bytes
unfolding items_in
items_spelled item spelled w zero bytes each are long = sym (nil_from_length bytes (long ∙ mul-zero w))
items_spelled item spelled w (suc n) bytes each are long =
    let more : w * suc n ≡ w * n + w = omega (arith, mul-suc w n) in
    let first = each (take w bytes) (bytes_take w bytes are) (length-take-le w bytes (omega arith)) in
    let rest = items_spelled item spelled w n (drop w bytes) each (bytes_drop w bytes are)
    (omega (arith, length-drop w bytes)) in
    rw (first, rest) (take-append-drop w bytes)

-- items are read as what they were, where each is
pub items_again : {A : Type 0} (item : List ℕ → A) (spelled : A → List ℕ) (P : A → Type 0) (w : ℕ) (items : List A) →
    ((x : A) → P x → length (spelled x) ≡ w) → ((x : A) → P x → item (spelled x) ≡ x) → All P items →
    items_in item w (length items) (flat_map spelled items) ≡ items
unfolding items_in
items_again item spelled P w [] long alone all = refl
items_again item spelled P w (x ∷ xs) long alone all =
    let first = all 0 x (omega arith) in
    let rest = items_again item spelled P w xs long alone (λ k d h. all (suc k) d (omega arith)) in
    rw (
      take_at (spelled x) (flat_map spelled xs) w (long x first),
      drop_at (spelled x) (flat_map spelled xs) w
          (long x first),
      alone x first,
      rest,
    ) refl

-- how many bytes they have
pub long_items : {A : Type 0} (spelled : A → List ℕ) (P : A → Type 0) (w : ℕ) (items : List A) →
    ((x : A) → P x → length (spelled x) ≡ w) →
    All P items → length (flat_map spelled items) ≡ w * length items
long_items spelled P w [] long all = sym (mul-zero w)
long_items spelled P w (x ∷ xs) long all =
    omega (
      arith,
      length-append (spelled x) (flat_map spelled xs),
      long x (all 0 x (omega arith)),
      long_items spelled P w xs long (λ k d h. all (suc k) d (omega arith)),
      mul-suc w (length xs),
    )

-- no item is put
pub none_put : {A : Type 0} (spelled : A → List ℕ) (head : List ℕ) (items : List A) → head ≡ head ++ flat_map spelled
    (take 0 items)
none_put spelled head items = sym (append-nil head)

-- one more is
pub one_put : {A : Type 0} (spelled : A → List ℕ) (head body : List ℕ) (items : List A) (k : ℕ) (d : A) →
    k < length items →
    body ≡ head ++ flat_map spelled (take k items) →
    body ++ spelled (get_or items k d) ≡ head ++ flat_map spelled (take (k + 1) items)
one_put {A = A} spelled head body items k d within is =
    ap (λ (l : List ℕ). l ++ spelled (get_or items k d)) is
    ∙ (flat_map_more spelled head (take k items) (get_or items k d)
    ∙ ap (λ (l : List A). head ++ flat_map spelled l) (sym (take_more items k d within)))
