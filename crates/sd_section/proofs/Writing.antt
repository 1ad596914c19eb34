-- Headers are written field by field.
use Rattle.std.proofs.Common.{ℕ, ◌+◌, ◌*◌, ◌/◌, ◌%◌, ◌<◌, ◌≤◌, ◌≡◌, List, [], ◌∷◌, length, get_or, refl, sym, ◌∙◌, inl}
use Rattle.std.proofs.Common.{arith}
use Rattle.sd_base.specs.Bits.{field, KeepsOthers}
use Rattle.sd_base.proofs.Fields.{field_split, apart_stays}
use Rattle.sd_base.proofs.Words.{byte_field}
use Rattle.sd_section.proofs.Words.{eight_listed}

-- eight bytes are a header where their fields are
header_by_fields : (xs : List ℕ) (t n e s l : ℕ) → length xs ≡ 8 → ((i : ℕ) → get_or xs i 0 < 256) →
    field xs 0 8 ≡ t → field xs 8 1 ≡ 1 → field xs 9 1 ≡ 0 → field xs 10 2 ≡ 3 → field xs 12 12 ≡ n → field xs 24 16
    ≡ e →
    field xs 40 2 ≡ 3 → field xs 42 5 ≡ 0 → field xs 47 1 ≡ 1 → field xs 48 8 ≡ s → field xs 56 8 ≡ l →
    xs ≡ t ∷ (0xB0 + n / 256) ∷ (n % 256) ∷ (e / 256) ∷ (e % 256) ∷ 0xC1 ∷ s ∷ l ∷ []
header_by_fields xs t n e s l long bytes f0 f1 f2 f3 f4 f5 f6 f7 f8 f9 f10 =
    let b0 : field xs 0 8 ≡ get_or xs 0 0 = byte_field xs 0 (bytes 0) in
    let h0 : get_or xs 0 0 < 256 = bytes 0 in
    let b1 : field xs 8 8 ≡ get_or xs 1 0 = byte_field xs 1 (bytes 1) in
    let h1 : get_or xs 1 0 < 256 = bytes 1 in
    let b2 : field xs 16 8 ≡ get_or xs 2 0 = byte_field xs 2 (bytes 2) in
    let h2 : get_or xs 2 0 < 256 = bytes 2 in
    let b3 : field xs 24 8 ≡ get_or xs 3 0 = byte_field xs 3 (bytes 3) in
    let h3 : get_or xs 3 0 < 256 = bytes 3 in
    let b4 : field xs 32 8 ≡ get_or xs 4 0 = byte_field xs 4 (bytes 4) in
    let h4 : get_or xs 4 0 < 256 = bytes 4 in
    let b5 : field xs 40 8 ≡ get_or xs 5 0 = byte_field xs 5 (bytes 5) in
    let h5 : get_or xs 5 0 < 256 = bytes 5 in
    let b6 : field xs 48 8 ≡ get_or xs 6 0 = byte_field xs 6 (bytes 6) in
    let h6 : get_or xs 6 0 < 256 = bytes 6 in
    let b7 : field xs 56 8 ≡ get_or xs 7 0 = byte_field xs 7 (bytes 7) in
    let h7 : get_or xs 7 0 < 256 = bytes 7 in
    let flags = field_split xs 8 4 4 in
    let first_flags = field_split xs 8 2 2 in
    let two_flags = field_split xs 8 1 1 in
    let lengths : n ≡ field xs 12 4 * 256 + field xs 16 8 = sym f4 ∙ field_split xs 12 4 8 in
    let extensions : e ≡ field xs 24 8 * 256 + field xs 32 8 = sym f5 ∙ field_split xs 24 8 8 in
    let versions = field_split xs 40 2 6 in
    let version_and_current = field_split xs 42 5 1 in
    let e0 : get_or xs 0 0 ≡ t = omega arith in
    let e1 : get_or xs 1 0 ≡ 0xB0 + n / 256 = omega arith in
    let e2 : get_or xs 2 0 ≡ n % 256 = omega arith in
    let e3 : get_or xs 3 0 ≡ e / 256 = omega arith in
    let e4 : get_or xs 4 0 ≡ e % 256 = omega arith in
    let e5 : get_or xs 5 0 ≡ 0xC1 = omega arith in
    let e6 : get_or xs 6 0 ≡ s = omega arith in
    let e7 : get_or xs 7 0 ≡ l = omega arith in
    eight_listed xs long ∙ rw (e0, e1, e2, e3, e4, e5, e6, e7) refl

-- the fields of a header that are written from the first to the last stand in it
pub header_written : (t n e s l : ℕ) (x0 x1 x2 x3 x4 x5 x6 x7 x8 x9 x10 x11 : List ℕ) →
    ((i : ℕ) → get_or x11 i 0 < 256) → length x0 ≡ 8 →
    KeepsOthers 0 8 x0 x1 → field x1 0 8 ≡ t → length x1 ≡ length x0 →
    KeepsOthers 8 1 x1 x2 → field x2 8 1 ≡ 1 → length x2 ≡ length x1 →
    KeepsOthers 9 1 x2 x3 → field x3 9 1 ≡ 0 → length x3 ≡ length x2 →
    KeepsOthers 10 2 x3 x4 → field x4 10 2 ≡ 3 → length x4 ≡ length x3 →
    KeepsOthers 12 12 x4 x5 → field x5 12 12 ≡ n → length x5 ≡ length x4 →
    KeepsOthers 24 16 x5 x6 → field x6 24 16 ≡ e → length x6 ≡ length x5 →
    KeepsOthers 40 2 x6 x7 → field x7 40 2 ≡ 3 → length x7 ≡ length x6 →
    KeepsOthers 42 5 x7 x8 → field x8 42 5 ≡ 0 → length x8 ≡ length x7 →
    KeepsOthers 47 1 x8 x9 → field x9 47 1 ≡ 1 → length x9 ≡ length x8 →
    KeepsOthers 48 8 x9 x10 → field x10 48 8 ≡ s → length x10 ≡ length x9 →
    KeepsOthers 56 8 x10 x11 → field x11 56 8 ≡ l → length x11 ≡ length x10 →
    x11 ≡ t ∷ (0xB0 + n / 256) ∷ (n % 256) ∷ (e / 256) ∷ (e % 256) ∷ 0xC1 ∷ s ∷ l ∷ []
header_written t n e s l x0 x1 x2 x3 x4 x5 x6 x7 x8 x9 x10 x11 bytes l0 k0 f0 l1 k1 f1 l2 k2 f2 l3 k3 f3 l4 k4 f4 l5 k5
    f5 l6 k6 f6 l7 k7 f7 l8 k8 f8 l9 k9 f9 l10 k10 f10 l11 =
    let s10 : (o w : ℕ) → o + w ≤ 56 → field x11 o w ≡ field x10 o w = λ o w h. apart_stays x10 x11 56 8 o w k10
    (inl h) in
    let s9 : (o w : ℕ) → o + w ≤ 48 →
    field x11 o w ≡ field x9 o w = λ o w h. s10 o w (omega arith) ∙ apart_stays x9 x10 48 8 o w k9 (inl h) in
    let s8 : (o w : ℕ) → o + w ≤ 47 →
    field x11 o w ≡ field x8 o w = λ o w h. s9 o w (omega arith) ∙ apart_stays x8 x9 47 1 o w k8 (inl h) in
    let s7 : (o w : ℕ) → o + w ≤ 42 →
    field x11 o w ≡ field x7 o w = λ o w h. s8 o w (omega arith) ∙ apart_stays x7 x8 42 5 o w k7 (inl h) in
    let s6 : (o w : ℕ) → o + w ≤ 40 →
    field x11 o w ≡ field x6 o w = λ o w h. s7 o w (omega arith) ∙ apart_stays x6 x7 40 2 o w k6 (inl h) in
    let s5 : (o w : ℕ) → o + w ≤ 24 →
    field x11 o w ≡ field x5 o w = λ o w h. s6 o w (omega arith) ∙ apart_stays x5 x6 24 16 o w k5 (inl h) in
    let s4 : (o w : ℕ) → o + w ≤ 12 →
    field x11 o w ≡ field x4 o w = λ o w h. s5 o w (omega arith) ∙ apart_stays x4 x5 12 12 o w k4 (inl h) in
    let s3 : (o w : ℕ) → o + w ≤ 10 →
    field x11 o w ≡ field x3 o w = λ o w h. s4 o w (omega arith) ∙ apart_stays x3 x4 10 2 o w k3 (inl h) in
    let s2 : (o w : ℕ) → o + w ≤ 9 →
    field x11 o w ≡ field x2 o w = λ o w h. s3 o w (omega arith) ∙ apart_stays x2 x3 9 1 o w k2 (inl h) in
    let s1 : (o w : ℕ) → o + w ≤ 8 →
    field x11 o w ≡ field x1 o w = λ o w h. s2 o w (omega arith) ∙ apart_stays x1 x2 8 1 o w k1 (inl h) in
    header_by_fields x11 t n e s l (omega arith) bytes
    (s1 0 8 (omega arith) ∙ f0)
    (s2 8 1 (omega arith) ∙ f1)
    (s3 9 1 (omega arith) ∙ f2)
    (s4 10 2 (omega arith) ∙ f3)
    (s5 12 12 (omega arith) ∙ f4)
    (s6 24 16 (omega arith) ∙ f5)
    (s7 40 2 (omega arith) ∙ f6)
    (s8 42 5 (omega arith) ∙ f7)
    (s9 47 1 (omega arith) ∙ f8)
    (s10 48 8 (omega arith) ∙ f9)
    f10
