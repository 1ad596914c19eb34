-- The first twelve bytes of a PMT, in which its lengths are changed, and the CRC after it.
use Rattle.std.proofs.Common.{ℕ, zero, suc, ◌+◌, ◌-◌, ◌*◌, ◌/◌, ◌%◌, ◌<◌, ◌≤◌, ◌≡◌, List, [], ◌∷◌, ◌++◌, length, take}
use Rattle.std.proofs.Common.{drop, get_or, get_or-take, get_or-drop, drop-cons, length-take, length-drop}
use Rattle.std.proofs.Common.{take-append-drop, inl, inr, refl, sym, ap, subst, ◌∙◌, arith}
use Rattle.std.specs.Prelude.{slice_set}
use Rattle.std.specs.Int.{w32, to_be_bytes}
use Rattle.std.proofs.lemmas.List.{drop_all, get_or_past}
use Rattle.std.proofs.lemmas.Bool.{cases_lt}
use Rattle.sd_base.specs.Bits.{field}
use Rattle.sd_base.proofs.Fields.{field_below, field_split}
use Rattle.sd_base.proofs.Words.{byte_field}
use Rattle.sd_section.specs.Header.{crc_in, crc_due}
use Rattle.sd_section.specs.Written.{with_crc}
use Rattle.sd_psi.specs.Rewriting.{with_twelve, with_lengths}

-- a list of bytes
abbrev pub AreBytes : List ℕ → Type 0
AreBytes bytes = (i : ℕ) → get_or bytes i 0 < 256

pub bytes_after : (bytes : List ℕ) (n : ℕ) → AreBytes bytes → AreBytes (drop n bytes)
bytes_after bytes n h = λ i. rw (get_or-drop n bytes i 0) (h (n + i))

pub bytes_before : (bytes : List ℕ) (n : ℕ) → AreBytes bytes → AreBytes (take n bytes)
bytes_before bytes n h = λ i. elim (cases_lt i n) [
  | inl within ↦ rw (get_or-take n bytes i 0 within) (h i)
  | inr past ↦
      let none : get_or (take n bytes) i 0 ≡ 0 = get_or_past (take n bytes) i 0 (omega (arith, length-take n bytes)) in
      omega arith
]

-- twelve bits from the middle of a byte on, by their bytes
pub twelve_read : (bytes : List ℕ) (p : ℕ) → AreBytes bytes → field bytes (8 * p + 4) 12 ≡ get_or bytes p 0 % 16 * 256
    + get_or bytes (p + 1) 0
twelve_read bytes p h =
    let next : 8 * (p + 1) ≡ 8 * p + 8 = omega arith in
    let bp = byte_field bytes p (h p) in
    let bq : field bytes (8 * p + 8) 8 ≡ get_or bytes (p + 1) 0 = rw next at (byte_field bytes (p + 1) (h (p + 1))) in
    let hp = h p in
    let hq = h (p + 1) in
    let both = field_split bytes (8 * p) 8 8 in
    let parts = field_split bytes (8 * p) 4 12 in
    let halves = field_split bytes (8 * p) 4 4 in
    let low = field_below bytes (8 * p + 4) 4 in
    let below = field_below bytes (8 * p + 4) 12 in
    omega arith

-- a list of twelve, each written out
pub twelve_listed : (bs : List ℕ) → length bs ≡ 12 →
    bs ≡ get_or bs 0 0 ∷ get_or bs 1 0 ∷ get_or bs 2 0 ∷ get_or bs 3 0 ∷ get_or bs 4 0 ∷ get_or bs 5 0
    ∷ get_or bs 6 0 ∷ get_or bs 7 0 ∷ get_or bs 8 0 ∷ get_or bs 9 0 ∷ get_or bs 10 0 ∷ get_or bs 11 0 ∷ []
twelve_listed bs long =
    let next : (i : ℕ) (rest : List ℕ) → i < 12 → drop (suc i) bs ≡ rest → drop i bs ≡ get_or bs i 0 ∷ rest =
    λ i rest h e. drop-cons bs i 0 (omega arith) ∙ ap (λ (l : List ℕ). get_or bs i 0 ∷ l) e in
    let end : drop 12 bs ≡ [] = drop_all 12 bs (omega arith) in
    next 0 _ (omega arith)
    (next 1 _ (omega arith)
    (next 2 _ (omega arith) (next 3 _ (omega arith) (next 4 _ (omega arith) (next 5 _ (omega arith)
    (next 6 _ (omega arith)
    (next 7 _ (omega arith)
    (next 8 _ (omega arith) (next 9 _ (omega arith) (next 10 _ (omega arith) (next 11 _ (omega arith) end)))))))))))

-- a head with its lengths put back is itself
back_listed : (x0 x1 x2 x3 x4 x5 x6 x7 x8 x9 x10 x11 a b : ℕ) → x1 < 256 → x2 < 256 → x10 < 256 → x11 < 256 → a < 4096 →
    b < 4096 →
    with_lengths (x1 % 16 * 256 + x2) (x10 % 16 * 256 + x11)
    (with_lengths a b (x0 ∷ x1 ∷ x2 ∷ x3 ∷ x4 ∷ x5 ∷ x6 ∷ x7 ∷ x8 ∷ x9 ∷ x10 ∷ x11 ∷ []))
    ≡ x0 ∷ x1 ∷ x2 ∷ x3 ∷ x4 ∷ x5 ∷ x6 ∷ x7 ∷ x8 ∷ x9 ∷ x10 ∷ x11 ∷ []
unfolding with_lengths
back_listed x0 x1 x2 x3 x4 x5 x6 x7 x8 x9 x10 x11 a b h1 h2 h10 h11 ha hb =
    let e1 : (x1 / 16 * 16 + a / 256) / 16 * 16 + (x1 % 16 * 256 + x2) / 256 ≡ x1 = omega arith in
    let e2 : (x1 % 16 * 256 + x2) % 256 ≡ x2 = omega arith in
    let e10 : (x10 / 16 * 16 + b / 256) / 16 * 16 + (x10 % 16 * 256 + x11) / 256 ≡ x10 = omega arith in
    let e11 : (x10 % 16 * 256 + x11) % 256 ≡ x11 = omega arith in
    rw (e1, e2, e10, e11) refl

pub lengths_back : (head : List ℕ) (a b : ℕ) → length head ≡ 12 → AreBytes head → a < 4096 → b < 4096 →
    with_lengths (field head 12 12) (field head 84 12) (with_lengths a b head) ≡ head
lengths_back head a b long h ha hb =
    let first = twelve_read head 1 h in
    let second = twelve_read head 10 h in
    let listed = twelve_listed head long in
    ap (λ (n : ℕ). with_lengths n (field head 84 12) (with_lengths a b head)) first
    ∙ (ap (λ (n : ℕ). with_lengths (get_or head 1 0 % 16 * 256 + get_or head 2 0) n (with_lengths a b head)) second
    ∙ (ap (λ (l : List ℕ). with_lengths (get_or head 1 0 % 16 * 256 + get_or head 2 0)
    (get_or head 10 0 % 16 * 256 + get_or head 11 0) (with_lengths a b l)) listed
    ∙ (back_listed _ _ _ _ _ _ _ _ _ _ _ _ a b (h 1) (h 2) (h 10) (h 11) ha hb ∙ sym listed)))

set_first : (xs : List ℕ) (byte k : ℕ) → AreBytes xs → byte < 256 → get_or (byte ∷ xs) k 0 < 256
set_first xs byte zero h b = b
set_first xs byte (suc k) h b = h k

set_after : (x : ℕ) (xs : List ℕ) (k : ℕ) → x < 256 → AreBytes xs → get_or (x ∷ xs) k 0 < 256
set_after x xs zero b h = b
set_after x xs (suc k) b h = h k

-- what a head with other lengths is like
pub record IsHead (a b : ℕ) (old new : List ℕ) : Type 0 where
  pub long : length new ≡ 12
  pub bytes : AreBytes new
  pub section : field new 12 12 ≡ a
  pub info : field new 84 12 ≡ b
  pub id : field new 0 8 ≡ field old 0 8
  pub syntax : field new 8 1 ≡ field old 8 1
  pub number : field new 48 8 ≡ field old 48 8
  pub last_number : field new 56 8 ≡ field old 56 8

bytes_set : (bytes : List ℕ) (i byte : ℕ) → AreBytes bytes → byte < 256 → AreBytes (slice_set bytes i byte)
bytes_set [] i byte h b = h
bytes_set (x ∷ xs) zero byte h b = λ k. set_first xs byte k (λ j. h (suc j)) b
bytes_set (x ∷ xs) (suc i) byte h b = λ k. set_after x (slice_set xs i byte) k (h zero)
    (bytes_set xs i byte (λ j. h (suc j)) b)

bytes_twelve : (bytes : List ℕ) (p number : ℕ) → AreBytes bytes → number < 4096 → AreBytes (with_twelve p number bytes)
bytes_twelve bytes p number h few =
    let here = h p in
    bytes_set (slice_set bytes p (get_or bytes p 0 / 16 * 16 + number / 256)) (p + 1) (number % 256)
    (bytes_set bytes p (get_or bytes p 0 / 16 * 16 + number / 256) h (omega arith)) (omega arith)

bytes_lengths : (head : List ℕ) (a b : ℕ) → AreBytes head → a < 4096 → b < 4096 → AreBytes (with_lengths a b head)
unfolding with_lengths
bytes_lengths head a b h ha hb = bytes_twelve (with_twelve 1 a head) 10 b (bytes_twelve head 1 a h ha) hb

-- the top bit of a byte
top_bit : (bytes : List ℕ) (p : ℕ) → AreBytes bytes → field bytes (8 * p) 1 ≡ get_or bytes p 0 / 128
top_bit bytes p h = omega (
  arith,
  byte_field bytes p (h p),
  field_split bytes (8 * p) 1 7,
  field_below bytes (8 * p + 1)
      7,
)

head_listed : (x0 x1 x2 x3 x4 x5 x6 x7 x8 x9 x10 x11 a b : ℕ) →
    AreBytes (x0 ∷ x1 ∷ x2 ∷ x3 ∷ x4 ∷ x5 ∷ x6 ∷ x7 ∷ x8 ∷ x9 ∷ x10 ∷ x11 ∷ []) → a < 4096 → b < 4096 →
    IsHead a b (x0 ∷ x1 ∷ x2 ∷ x3 ∷ x4 ∷ x5 ∷ x6 ∷ x7 ∷ x8 ∷ x9 ∷ x10 ∷ x11 ∷ [])
    (with_lengths a b (x0 ∷ x1 ∷ x2 ∷ x3 ∷ x4 ∷ x5 ∷ x6 ∷ x7 ∷ x8 ∷ x9 ∷ x10 ∷ x11 ∷ []))
unfolding with_lengths
head_listed x0 x1 x2 x3 x4 x5 x6 x7 x8 x9 x10 x11 a b h ha hb =
    let old : List ℕ = x0 ∷ x1 ∷ x2 ∷ x3 ∷ x4 ∷ x5 ∷ x6 ∷ x7 ∷ x8 ∷ x9 ∷ x10 ∷ x11 ∷ [] in
    let new : List ℕ = with_lengths a b old in
    let bytes : AreBytes new = bytes_lengths old a b h ha hb in
    let first : field new 12 12 ≡ (x1 / 16 * 16 + a / 256) % 16 * 256 + a % 256 = twelve_read new 1 bytes in
    let second : field new 84 12 ≡ (x10 / 16 * 16 + b / 256) % 16 * 256 + b % 256 = twelve_read new 10 bytes in
    let top : field new 8 1 ≡ (x1 / 16 * 16 + a / 256) / 128 = top_bit new 1 bytes in
    let was : field old 8 1 ≡ x1 / 128 = top_bit old 1 h in
    record {
      long = refl;
      bytes = bytes;
      section = omega arith;
      info = omega arith;
      id = byte_field new 0 (bytes 0) ∙ sym (byte_field old 0 (h 0));
      syntax = omega arith;
      number = byte_field new 6 (bytes 6) ∙ sym (byte_field old 6 (h 6));
      last_number = byte_field new 7 (bytes 7) ∙ sym (byte_field old 7 (h 7));
    }

pub head_is : (head : List ℕ) (a b : ℕ) → length head ≡ 12 → AreBytes head → a < 4096 → b < 4096 →
    IsHead a b head (with_lengths a b head)
head_is head a b long h ha hb =
    let listed = twelve_listed head long in
    subst (λ (l : List ℕ). IsHead a b l (with_lengths a b l)) (sym listed)
    (head_listed _ _ _ _ _ _ _ _ _ _ _ _ a b (subst AreBytes listed h) ha hb)

-- four bytes are the number that they are
four_listed : (bs : List ℕ) → length bs ≡ 4 → bs ≡ get_or bs 0 0 ∷ get_or bs 1 0 ∷ get_or bs 2 0 ∷ get_or bs 3 0 ∷ []
four_listed bs long =
    let next : (i : ℕ) (rest : List ℕ) → i < 4 → drop (suc i) bs ≡ rest → drop i bs ≡ get_or bs i 0 ∷ rest =
    λ i rest h e. drop-cons bs i 0 (omega arith) ∙ ap (λ (l : List ℕ). get_or bs i 0 ∷ l) e in
    next 0 _ (omega arith)
    (next 1 _ (omega arith) (next 2 _ (omega arith) (next 3 _ (omega arith) (drop_all 4 bs (omega arith)))))

four_numbers : (x0 x1 x2 x3 n : ℕ) → x0 < 256 → x1 < 256 → x2 < 256 → x3 < 256 → n ≡ ((x0 * 256 + x1) * 256 + x2) * 256
    + x3 →
    to_be_bytes w32 n ≡ x0 ∷ x1 ∷ x2 ∷ x3 ∷ []
four_numbers x0 x1 x2 x3 n h0 h1 h2 h3 e =
    let e0 : get_or (to_be_bytes w32 n) 0 0 ≡ x0 = omega arith in
    let e1 : get_or (to_be_bytes w32 n) 1 0 ≡ x1 = omega arith in
    let e2 : get_or (to_be_bytes w32 n) 2 0 ≡ x2 = omega arith in
    let e3 : get_or (to_be_bytes w32 n) 3 0 ≡ x3 = omega arith in
    four_listed (to_be_bytes w32 n) refl ∙ rw (e0, e1, e2, e3) refl

four_again : (bytes : List ℕ) → length bytes ≡ 4 → AreBytes bytes → to_be_bytes w32 (field bytes 0 32) ≡ bytes
four_again bytes long h =
    let b0 = byte_field bytes 0 (h 0) in
    let b1 = byte_field bytes 1 (h 1) in
    let b2 = byte_field bytes 2 (h 2) in
    let b3 = byte_field bytes 3 (h 3) in
    let number : field bytes 0 32 ≡ ((get_or bytes 0 0 * 256 + get_or bytes 1 0) * 256 + get_or bytes 2 0) * 256
    + get_or bytes 3 0 =
    omega (arith, field_split bytes 0 24 8, field_split bytes 0 16 8, field_split bytes 0 8 8) in
    four_numbers _ _ _ _ (field bytes 0 32) (h 0) (h 1) (h 2) (h 3) number ∙ sym (four_listed bytes long)

-- a section whose CRC is right is sealed
pub sealed_again : (section : List ℕ) → 4 ≤ length section → AreBytes section → crc_in section ≡ crc_due section →
    with_crc (take (length section - 4) section) ≡ section
unfolding crc_in crc_due
sealed_again section long h right =
    let four : length (drop (length section - 4) section)
    ≡ 4 = omega (arith, length-drop (length section - 4) section) in
    ap (λ (l : List ℕ). take (length section - 4) section ++ l)
    (ap (to_be_bytes w32) (sym right) ∙ four_again (drop (length section - 4) section) four
    (bytes_after section (length section - 4) h))
    ∙ take-append-drop (length section - 4) section
