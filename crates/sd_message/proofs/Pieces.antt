-- A list shared out, so many at a time.
use Rattle.std.proofs.Common.{◌≡◌, ◌⊎◌, inl, inr, ℕ, zero, suc, ◌+◌, ◌-◌, ◌*◌, ◌/◌, ◌<◌, ◌≤◌, List, [], ◌∷◌, ◌++◌}
use Rattle.std.proofs.Common.{length, take, drop, get_or, get_or-take, get_or-drop, take-add, drop-drop, arith, refl}
use Rattle.std.proofs.Common.{sym, ap, ◌∙◌}
use Rattle.std.specs.Prelude.{All, AllPairs, Some, slice_get, replicate, min, max, map, flat_map}
use Rattle.std.specs.List.{range_with_len}
use Rattle.std.proofs.Math.Nat.{mul-suc, mul-zero, mul-div-le, lt-mul-div-succ, mul-le-mul_left}
use Rattle.std.proofs.lemmas.Bool.{cases_lt}
use Rattle.std.proofs.lemmas.List.{length-take, length-drop, length-append, length-replicate, take_at, drop_at}
use Rattle.std.proofs.lemmas.List.{take_all, take-append-drop}
use Rattle.std.proofs.lemmas.List.FromFn.{length-map-range_with_len, get_or-map-range_with_len}
use Rattle.std.proofs.lemmas.Option.{slice_get-get_or, slice_get_within, get_or_from_slice_get}
use Rattle.sd_message.specs.Pieces.{pieces_for, piece_at, filled, each_below}

-- how many pieces there are, by division
record IsShared (n items q : ℕ) : Type 0 where
  low : n * q + 1 ≤ items + n
  high : items ≤ n * q

shared : (n items : ℕ) → 1 ≤ n → IsShared n items ((items + (n - 1)) / n)
shared n items some =
    let q : ℕ = (items + (n - 1)) / n in
    let low : n * q ≤ items + (n - 1) = mul-div-le (items + (n - 1)) n in
    let high : items + (n - 1) < n * (q + 1) = lt-mul-div-succ (items + (n - 1)) {b = n} some in
    let more : n * (q + 1) ≡ n * q + n = omega (arith, mul-suc n q) in
    record { low = omega arith; high = omega arith }

-- they have room for all
pub room : (n items : ℕ) → 1 ≤ n → items ≤ n * pieces_for n items
unfolding pieces_for
room n items some =
    let q : ℕ = (items + (n - 1)) / n in
    let is = shared n items some in
    let high = is.high in
    let most : n * q ≤ n * max 1 q = mul-le-mul_left {m = q} {n = max 1 q} n (omega arith) in
    omega arith

-- a piece before the last is full
pub full_or_last : (n items x : ℕ) → 1 ≤ n → x < pieces_for n items → (x ≡ pieces_for n items - 1) ⊎ (n ≤ items - n * x)
unfolding pieces_for
full_or_last n items x some within =
    let q : ℕ = (items + (n - 1)) / n in
    let is = shared n items some in
    let low = is.low in
    elim (cases_lt x (max 1 q - 1)) [
      | inl h ↦
          let next : n * suc (suc x) ≤ n * q = mul-le-mul_left {m = suc (suc x)} {n = q} n (omega arith) in
          let all : n * suc (suc x) ≡ n * x + n + n = omega (arith, mul-suc n x, mul-suc n (suc x)) in
          inr (omega arith)
      | inr h ↦ inl (omega arith)
    ]

-- a piece after the first isn't empty
pub some_or_first : (n items x : ℕ) → 1 ≤ n → x < pieces_for n items → (x ≡ 0) ⊎ (n * x < items)
unfolding pieces_for
some_or_first n items x some within =
    let q : ℕ = (items + (n - 1)) / n in
    let is = shared n items some in
    let low = is.low in
    elim (cases_lt 0 x) [
      | inl h ↦
          let next : n * suc x ≤ n * q = mul-le-mul_left {m = suc x} {n = q} n (omega arith) in
          let all : n * suc x ≡ n * x + n = omega (arith, mul-suc n x) in
          inr (omega arith)
      | inr h ↦ inl (omega arith)
    ]

-- so many pieces from one on have n times as many items from n times it on
pieces_from : {A : Type 0} (n : ℕ) (items : List A) (a k : ℕ) →
    flat_map (piece_at n items) (range_with_len a k) ≡ take (n * k) (drop (n * a) items)
pieces_from n items a zero = rw (mul-zero n) refl
pieces_from {A = A} n items a (suc k) =
    let more : n * suc k ≡ n + n * k = omega (arith, mul-suc n k) in
    let next : n * a + n ≡ n * (a + 1) = omega (arith, mul-suc n a) in
    ap (λ (l : List A). piece_at n items a ++ l) (pieces_from n items (a + 1) k)
    ∙ sym (ap (λ (m : ℕ). take m (drop (n * a) items)) more
    ∙ (take-add n (n * k) (drop (n * a) items)
    ∙ ap (λ (l : List A). piece_at n items a ++ take (n * k) l)
    (drop-drop n (n * a) items ∙ ap (λ (m : ℕ). drop m items) next)))

-- what things made by their numbers have is what stands at those numbers
over : {A B : Type 0} (listed : B → List A) (make : ℕ → B) (n : ℕ) (items : List A) →
    ((x : ℕ) → listed (make x) ≡ piece_at n items x) →
    (xs : List ℕ) → flat_map listed (map make xs) ≡ flat_map (piece_at n items) xs
over listed make n items each [] = refl
over listed make n items each (x ∷ xs) = rw (each x, over listed make n items each xs) refl

-- joined, they have all items
pub joined_are_all : {A B : Type 0} (listed : B → List A) (make : ℕ → B) (n : ℕ) (items : List A) → 1 ≤ n →
    ((x : ℕ) → listed (make x) ≡ piece_at n items x) → flat_map listed (each_below make (pieces_for n (length items)))
    ≡ items
joined_are_all {A = A} listed make n items some each =
    let pieces : ℕ = pieces_for n (length items) in
    over listed make n items each (range_with_len 0 pieces)
    ∙ (pieces_from n items 0 pieces
    ∙ (ap (λ (m : ℕ). take (n * pieces) (drop m items)) (mul-zero n) ∙ take_all (n * pieces) items
    (room n (length items) some)))

-- how many things are made
pub as_many : {B : Type 0} (make : ℕ → B) (k : ℕ) → length (each_below make k) ≡ k
as_many make k = length-map-range_with_len make 0 k

-- which stands at a number, in whatever default
pub made_there : {B : Type 0} (make : ℕ → B) (k x : ℕ) (d : B) → x < k → get_or (each_below make k) x d ≡ make x
made_there make k x d within = get_or-map-range_with_len make 0 k x x d within (omega arith)

-- a fact of each number is one of each thing that is made
pub each_made : {B : Type 0} (P : B → Type 0) (make : ℕ → B) (k : ℕ) → ((x : ℕ) → x < k → P (make x)) →
    All P (each_below make k)
each_made P make k each x d below =
    let within : x < k = omega (arith, as_many make k) in
    rw (made_there make k x d within) (each x within)

-- what is made of a number stands at it
pub stands_at : {B : Type 0} (make : ℕ → B) (k x : ℕ) → x < k → slice_get (each_below make k) x ≡ Some (make x)
stands_at {B = B} make k x within =
    slice_get-get_or (each_below make k) x (make x) (omega (arith, as_many make k))
    ∙ ap (λ (b : B). Some b) (made_there make k x (make x) within)

-- and nothing else does
pub made_at : {B : Type 0} (make : ℕ → B) (k x : ℕ) (b : B) → slice_get (each_below make k) x ≡ Some b → b ≡ make x
made_at make k x b there =
    let within : x < k = omega (arith, slice_get_within (each_below make k) x b there, as_many make k) in
    sym (get_or_from_slice_get (each_below make k) x b (make x) there) ∙ made_there make k x (make x) within

-- how many items a piece has
pub long_piece : {A : Type 0} (n : ℕ) (items : List A) (x : ℕ) → length (piece_at n items x)
    ≡ min n (length items - n * x)
long_piece n items x = length-take n (drop (n * x) items) ∙ ap (λ (m : ℕ). min n m) (length-drop (n * x) items)

-- an item of a piece is one of all
pub one_of : {A : Type 0} (n : ℕ) (items : List A) (x k : ℕ) (d : A) → k < n →
    get_or (piece_at n items x) k d ≡ get_or items (n * x + k) d
one_of n items x k d few = get_or-take n (drop (n * x) items) k d few ∙ get_or-drop (n * x) items k d

-- item k stands in piece q at place r, where k is n times q and r
pub item_stands : {A : Type 0} (n q r k : ℕ) (items : List A) (d : A) → n * q + r ≡ k → r < n → k < length items →
    slice_get (piece_at n items q) r ≡ slice_get items k
item_stands {A = A} n q r k items d place few within =
    let long = long_piece n items q in
    slice_get-get_or (piece_at n items q) r d (omega arith)
    ∙ (ap (λ (a : A). Some a) (one_of n items q r d few ∙ ap (λ (m : ℕ). get_or items m d) place)
    ∙ sym (slice_get-get_or items k d within))

-- what each item is, each of a piece is
pub each_of_piece : {A : Type 0} (P : A → Type 0) (n : ℕ) (items : List A) (x : ℕ) → All P items →
    All P (piece_at n items x)
each_of_piece P n items x each k d below =
    let long = long_piece n items x in
    rw (one_of n items x k d (omega arith)) (each (n * x + k) d (omega arith))

-- how two items stand, so do two of a piece
pub pairs_of_piece : {A : Type 0} (R : A → A → Type 0) (n : ℕ) (items : List A) (x : ℕ) → AllPairs R items →
    AllPairs R (piece_at n items x)
pairs_of_piece R n items x pairs i j d before below =
    let long = long_piece n items x in
    rw (one_of n items x i d (omega arith), one_of n items x j d (omega arith))
    (pairs (n * x + i) (n * x + j) d (omega arith) (omega arith))

-- what a filled list has after its items
pub filled_items : {A : Type 0} (n : ℕ) (nothing : A) (items : List A) → take (length items) (filled n nothing items)
    ≡ items
filled_items n nothing items = take_at items (replicate (n - length items) nothing) (length items) refl

pub filled_rest : {A : Type 0} (n : ℕ) (nothing : A) (items : List A) →
    drop (length items) (filled n nothing items) ≡ replicate (n - length items) nothing
filled_rest n nothing items = drop_at items (replicate (n - length items) nothing) (length items) refl

pub filled_length : {A : Type 0} (n : ℕ) (nothing : A) (items : List A) → length items ≤ n →
    length (filled n nothing items) ≡ n
filled_length n nothing items few =
    omega (
      arith,
      length-append items (replicate (n - length items) nothing),
      length-replicate (n - length items)
          nothing,
    )

-- a list whose rest is nothing is its items filled up
pub filled_again : {A : Type 0} (n count : ℕ) (nothing : A) (all : List A) → length (take count all) ≡ count →
    drop count all ≡ replicate (n - count) nothing → filled n nothing (take count all) ≡ all
filled_again {A = A} n count nothing all long rest =
    ap (λ (m : ℕ). take count all ++ replicate (n - m) nothing) long
    ∙ (ap (λ (l : List A). take count all ++ l) (sym rest) ∙ take-append-drop count all)
