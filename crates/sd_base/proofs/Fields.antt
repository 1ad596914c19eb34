-- Fields of bits: how they are cut out of one another.
use Rattle.std.proofs.Common.{ℕ, zero, suc, ◌+◌, ◌*◌, ◌/◌, ◌%◌, ◌^◌, ◌<◌, ◌≤◌, ◌≡◌, List, refl, sym, ap, ◌∙◌, inl, inr}
use Rattle.std.proofs.Common.{⊎_elim, arith}
use Rattle.std.proofs.Math.Nat.{mul_assoc}
use Rattle.std.proofs.lemmas.Nat.{pow-add, shr_high, mod_low}
use Rattle.std.proofs.lemmas.Bool.{cases_lt}
use Rattle.sd_base.specs.Bits.{bit, field, AreApart, KeepsOthers}

-- a bit is 0 or 1
pub bit_below : (bytes : List ℕ) (k : ℕ) → bit bytes k < 2
bit_below bytes k = omega arith

-- a field of n bits is below 2^n
pub field_below : (bytes : List ℕ) (at n : ℕ) → field bytes at n < 2 ^ n
unfolding field
field_below bytes at zero = omega arith
field_below bytes at (suc n) =
    let head = field_below bytes at n in
    let last = bit_below bytes (at + n) in
    let two : 2 ^ (n + 1) ≡ 2 ^ n * 2 ^ 1 = pow-add 2 n 1 in
    let e : suc n ≡ n + 1 = omega arith in
    rw e (omega arith)

-- a field is its head, moved up by the width of its rest, and its rest
pub field_split : (bytes : List ℕ) (at m n : ℕ) → field bytes at (m + n) ≡ field bytes at m * 2 ^ n
    + field bytes (at + m) n
unfolding field
field_split bytes at m zero = let e : m + zero ≡ m = omega arith in rw e (omega arith)
field_split bytes at m (suc n) =
    let whole = field_split bytes at m n in
    let e : m + suc n ≡ suc (m + n) = omega arith in
    let place : at + (m + n) ≡ at + m + n = omega arith in
    let more : suc n ≡ n + 1 = omega arith in
    let up : field bytes at m * 2 ^ suc n ≡ field bytes at m * 2 ^ n * 2 = rw more (ap (λ (p : ℕ). field bytes at m * p)
    (pow-add 2 n 1) ∙ sym (mul_assoc (field bytes at m) (2 ^ n) (2 ^ 1))) in
    rw (e, place, up) (omega (arith, whole))

-- a field in the midst of another is what shifts and a mask leave of it
pub field_within : (bytes : List ℕ) (at a n b : ℕ) → field bytes at (a + n + b) / 2 ^ b % 2 ^ n ≡ field bytes (at + a) n
field_within bytes at a n b =
    let head = field_split bytes at (a + n) b in
    let mid = field_split bytes at a n in
    rw head (
    rw (shr_high (field bytes at (a + n)) b (field bytes (at + (a + n)) b) (field_below bytes (at + (a + n)) b)) (
    rw mid (mod_low (field bytes at a) n (field bytes (at + a) n) (field_below bytes (at + a) n))))

-- fields of equal bits are equal
pub same_by_bits : (x y : List ℕ) (at n : ℕ) → ((j : ℕ) → j < n → bit x (at + j) ≡ bit y (at + j)) →
    field x at n ≡ field y at n
unfolding field
same_by_bits x y at zero same = refl
same_by_bits x y at (suc n) same =
    let head = same_by_bits x y at n (λ j h. same j (omega arith)) in
    let last = same n (omega arith) in
    omega arith

-- equal fields have equal bits
pub bits_of_same : (x y : List ℕ) (at n j : ℕ) → field x at n ≡ field y at n → j < n → bit x (at + j) ≡ bit y (at + j)
unfolding field
bits_of_same x y at zero j e h = absurd (omega arith)
bits_of_same x y at (suc n) j e h =
    let last : bit x (at + n) ≡ bit y (at + n) = omega (arith, e, bit_below x (at + n), bit_below y (at + n)) in
    let head : field x at n ≡ field y at n = omega (arith, e, last) in
    ⊎_elim (λ (g : j < n). bits_of_same x y at n j head g) (λ (g : n ≤ j). let here : j ≡ n = omega arith in
    rw here last) (cases_lt j n)

-- a field that stands apart from the changed bits is as it was
pub apart_stays : (old new : List ℕ) (at n other width : ℕ) → KeepsOthers at n old new → AreApart at n other width →
    field new other width ≡ field old other width
apart_stays old new at n other width keeps apart =
    same_by_bits new old other width
    (λ j h. keeps.stays (other + j) (⊎_elim (λ (g : other + width ≤ at). inl (omega arith))
    (λ (g : at + n ≤ other). inr (omega arith)) apart))

-- where nothing changes, each bit stays
pub none_changes : (bytes : List ℕ) (at n : ℕ) → KeepsOthers at n bytes bytes
none_changes bytes at n = record { stays = λ k apart. refl }
