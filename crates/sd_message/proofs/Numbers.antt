-- Numbers of whole bytes: what is read from them is spelled as they are.
use Rattle.std.proofs.Common.{inl, inr, ℕ, ◌+◌, ◌*◌, ◌/◌, ◌%◌, ◌^◌, ◌<◌, ◌≤◌, ◌≡◌, List, [], ◌∷◌, length, take, drop}
use Rattle.std.proofs.Common.{get_or, get_or-drop, get_or-take, take-add, sym, ap, ◌∙◌, ◌++◌, arith}
use Rattle.std.specs.Prelude.{bit_or}
use Rattle.std.specs.Int.{w16, w32, w64, to_be_bytes}
use Rattle.std.proofs.lemmas.Bool.{cases_lt}
use Rattle.std.proofs.lemmas.List.{drop_more, drop-drop, get_or_past, length-take}
use Rattle.std.proofs.lemmas.Nat.{or_shifted}
use Rattle.sd_base.specs.Bits.{field}
use Rattle.sd_base.proofs.Fields.{field_below, field_split}
use Rattle.sd_base.proofs.Words.{byte_more, no_byte}

-- each is a byte
abbrev pub IsBytes : List ℕ → Type 0
IsBytes xs = (i : ℕ) → get_or xs i 0 < 256

-- so are those of a part
pub bytes_drop : (n : ℕ) (bytes : List ℕ) → IsBytes bytes → IsBytes (drop n bytes)
bytes_drop n bytes each i = omega (arith, get_or-drop n bytes i 0, each (n + i))

pub bytes_take : (n : ℕ) (bytes : List ℕ) → IsBytes bytes → IsBytes (take n bytes)
bytes_take n bytes each i = elim (cases_lt i n) [
  | inl h ↦ omega (arith, get_or-take n bytes i 0 h, each i)
  | inr g ↦ omega (arith, get_or_past (take n bytes) i 0 (omega (arith, length-take n bytes)))
]

-- the bytes from a place on, one after the other
one_at : (xs : List ℕ) (p k : ℕ) → p + k < length xs → drop (p + k) xs ≡ get_or xs (p + k) 0 ∷ drop (p + (k + 1)) xs
one_at xs p k h =
    let e : p + k + 1 ≡ p + (k + 1) = omega arith in
    drop_more xs (p + k) 0 h ∙ ap (λ (n : ℕ). get_or xs (p + k) 0 ∷ drop n xs) e

two_at : (xs : List ℕ) (p : ℕ) → p + 2 ≤ length xs → get_or xs (p + 0) 0 ∷ get_or xs (p + 1) 0 ∷ [] ≡ take 2 (drop p xs)
two_at xs p h =
    let here : p + 0 ≡ p = omega arith in
    let all : take 2 (drop (p + 0) xs) ≡ get_or xs (p + 0) 0 ∷ get_or xs (p + 1) 0 ∷ [] =
    ap (take 2) (one_at xs p 0 (omega arith) ∙ ap (λ (l : List ℕ). get_or xs (p + 0) 0 ∷ l)
    (one_at xs p 1 (omega arith))) in
    sym all ∙ ap (λ (n : ℕ). take 2 (drop n xs)) here

four_at : (xs : List ℕ) (p : ℕ) → p + 4 ≤ length xs →
    get_or xs (p + 0) 0 ∷ get_or xs (p + 1) 0 ∷ get_or xs (p + 2) 0 ∷ get_or xs (p + 3) 0 ∷ [] ≡ take 4 (drop p xs)
four_at xs p h =
    let here : p + 0 ≡ p = omega arith in
    let all : take 4 (drop (p + 0) xs) ≡ get_or xs (p + 0) 0 ∷ get_or xs (p + 1) 0 ∷ get_or xs (p + 2) 0 ∷ get_or xs
    (p + 3) 0 ∷ [] =
    ap (take 4) (one_at xs p 0 (omega arith) ∙ ap (λ (l : List ℕ). get_or xs (p + 0) 0 ∷ l) (one_at xs p 1 (omega arith)
    ∙ ap (λ (l : List ℕ). get_or xs (p + 1) 0 ∷ l)
    (one_at xs p 2 (omega arith) ∙ ap (λ (l : List ℕ). get_or xs (p + 2) 0 ∷ l) (one_at xs p 3 (omega arith))))) in
    sym all ∙ ap (λ (n : ℕ). take 4 (drop n xs)) here

-- a number of 16 bits is spelled as the two bytes that it was read from
pub half_spelled : (xs : List ℕ) (p : ℕ) → IsBytes xs → p + 2 ≤ length xs → to_be_bytes w16 (field xs (8 * p) 16)
    ≡ take 2 (drop p xs)
half_spelled xs p bytes h =
    let none = no_byte xs (8 * p) in
    let h0 = bytes (p + 0) in
    let h1 = bytes (p + 1) in
    let s0 = byte_more xs p 0 h0 in
    let s1 = byte_more xs p 1 h1 in
    let n : ℕ = field xs (8 * p) 16 in
    let e0 : n / 256 % 256 ≡ get_or xs (p + 0) 0 = omega arith in
    let e1 : n % 256 ≡ get_or xs (p + 1) 0 = omega arith in
    rw (e0, e1) (two_at xs p h)

-- a number of 32 bits is spelled as the four bytes that it was read from
pub word_spelled : (xs : List ℕ) (p : ℕ) → IsBytes xs → p + 4 ≤ length xs → to_be_bytes w32 (field xs (8 * p) 32)
    ≡ take 4 (drop p xs)
word_spelled xs p bytes h =
    let none = no_byte xs (8 * p) in
    let h0 = bytes (p + 0) in
    let h1 = bytes (p + 1) in
    let h2 = bytes (p + 2) in
    let h3 = bytes (p + 3) in
    let s0 = byte_more xs p 0 h0 in
    let s1 = byte_more xs p 1 h1 in
    let s2 = byte_more xs p 2 h2 in
    let s3 = byte_more xs p 3 h3 in
    let n : ℕ = field xs (8 * p) 32 in
    let e0 : n / 16777216 % 256 ≡ get_or xs (p + 0) 0 = omega arith in
    let e1 : n / 65536 % 256 ≡ get_or xs (p + 1) 0 = omega arith in
    let e2 : n / 256 % 256 ≡ get_or xs (p + 2) 0 = omega arith in
    let e3 : n % 256 ≡ get_or xs (p + 3) 0 = omega arith in
    rw (e0, e1, e2, e3) (four_at xs p h)

-- what two bytes spell is read from them, whatever stands before and after
pub half_again : (xs : List ℕ) (p n : ℕ) → n < 2 ^ 16 → get_or xs (p + 0) 0 ≡ n / 256 % 256 → get_or xs (p + 1) 0
    ≡ n % 256 →
    field xs (8 * p) 16 ≡ n
half_again xs p n h e0 e1 = omega (
  arith,
  no_byte xs (8 * p),
  byte_more xs p 0 (omega arith),
  byte_more xs p 1
      (omega arith),
)

-- and what four bytes spell
pub word_again : (xs : List ℕ) (p n : ℕ) → n < 2 ^ 32 → get_or xs (p + 0) 0 ≡ n / 16777216 % 256 → get_or xs (p + 1) 0
    ≡ n / 65536 % 256 →
    get_or xs (p + 2) 0 ≡ n / 256 % 256 → get_or xs (p + 3) 0 ≡ n % 256 → field xs (8 * p) 32 ≡ n
word_again xs p n h e0 e1 e2 e3 =
    omega (
      arith,
      no_byte xs (8 * p),
      byte_more xs p 0 (omega arith),
      byte_more xs p 1 (omega arith),
      byte_more xs p 2 (omega arith),
      byte_more xs p 3 (omega arith),
    )

-- the high 16 bits and the low 32 are the number
pub long_read : (bytes : List ℕ) (high low : ℕ) → high ≡ field bytes 16 16 → low ≡ field bytes 32 32 →
    bit_or (high * 4294967296 % 18446744073709551616) low ≡ field bytes 16 48
long_read bytes high low is_high is_low =
    let above : high < 2 ^ 16 = omega (arith, field_below bytes 16 16) in
    let below : low < 2 ^ 32 = omega (arith, field_below bytes 32 32) in
    let whole : high * 4294967296 % 18446744073709551616 ≡ high * 4294967296 = omega arith in
    rw whole (or_shifted high 32 low below ∙ omega (arith, field_split bytes 16 16 32))

-- one of 48 bits is the high 16 and the low 32
long_split : (xs : List ℕ) (p : ℕ) → field xs (8 * p) 48 ≡ field xs (8 * p) 16 * 2 ^ 32 + field xs (8 * (p + 2)) 32
long_split xs p =
    let e : 8 * p + 16 ≡ 8 * (p + 2) = omega arith in
    field_split xs (8 * p) 16 32 ∙ ap (λ (k : ℕ). field xs (8 * p) 16 * 2 ^ 32 + field xs k 32) e

-- a number of 48 bits is spelled as the six bytes that it was read from
pub long_spelled : (xs : List ℕ) (p : ℕ) → IsBytes xs → p + 6 ≤ length xs →
    drop 2 (to_be_bytes w64 (field xs (8 * p) 48)) ≡ take 6 (drop p xs)
long_spelled xs p bytes h =
    let high : ℕ = field xs (8 * p) 16 in
    let low : ℕ = field xs (8 * (p + 2)) 32 in
    let n : ℕ = field xs (8 * p) 48 in
    let split : n ≡ high * 4294967296 + low = long_split xs p in
    let above = field_below xs (8 * p) 16 in
    let below = field_below xs (8 * (p + 2)) 32 in
    let e0 : n / 1099511627776 % 256 ≡ high / 256 % 256 = omega arith in
    let e1 : n / 4294967296 % 256 ≡ high % 256 = omega arith in
    let e2 : n / 16777216 % 256 ≡ low / 16777216 % 256 = omega arith in
    let e3 : n / 65536 % 256 ≡ low / 65536 % 256 = omega arith in
    let e4 : n / 256 % 256 ≡ low / 256 % 256 = omega arith in
    let e5 : n % 256 ≡ low % 256 = omega arith in
    let first : to_be_bytes w16 high ≡ take 2 (drop p xs) = half_spelled xs p bytes (omega arith) in
    let rest : to_be_bytes w32 low ≡ take 4 (drop 2 (drop p xs)) =
    word_spelled xs (p + 2) bytes (omega arith) ∙ ap (take 4) (sym (drop-drop 2 p xs)) in
    rw (e0, e1, e2, e3, e4, e5) (ap (λ (l : List ℕ). l ++ to_be_bytes w32 low) first
    ∙ ap (λ (l : List ℕ). take 2 (drop p xs) ++ l) rest ∙ sym (take-add 2 4 (drop p xs)))

-- what six bytes spell is read from them, whatever stands before and after
pub long_again : (xs : List ℕ) (p n : ℕ) → n < 2 ^ 48 → get_or xs (p + 0) 0 ≡ n / 1099511627776 % 256 →
    get_or xs (p + 1) 0 ≡ n / 4294967296 % 256 → get_or xs (p + 2) 0 ≡ n / 16777216 % 256 → get_or xs (p + 3) 0
    ≡ n / 65536 % 256 →
    get_or xs (p + 4) 0 ≡ n / 256 % 256 → get_or xs (p + 5) 0 ≡ n % 256 → field xs (8 * p) 48 ≡ n
long_again xs p n h e0 e1 e2 e3 e4 e5 =
    let high : field xs (8 * p) 16 ≡ n / 4294967296 = half_again xs p _ (omega arith) (omega arith) (omega arith) in
    let at : (k : ℕ) → get_or xs (p + 2 + k) 0 ≡ get_or xs (p + (2 + k)) 0 =
    λ k. ap (λ (j : ℕ). get_or xs j 0) (omega arith) in
    let low : field xs (8 * (p + 2)) 32 ≡ n % 4294967296 =
    word_again xs (p + 2) _ (omega arith) (at 0 ∙ omega arith) (at 1 ∙ omega arith) (at 2 ∙ omega arith)
    (at 3 ∙ omega arith) in
    omega (arith, long_split xs p)
