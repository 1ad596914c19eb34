-- What bytes are cut into, by what is first in them.
use Rattle.std.proofs.Common.{◌≡◌, ℕ, zero, suc, ◌+◌, ◌-◌, ◌<◌, ◌≤◌, true, false, ◌==◌, List, [], ◌∷◌, length, take}
use Rattle.std.proofs.Common.{drop, refl, ap, ◌∙◌, arith}
use Rattle.std.proofs.lemmas.Bool.{cond-true, cond-false, both_ways, ne_eqb}
use Rattle.sd_engine.specs.Cut.{begins_packet, cut_after, cut_packets, skipped_before}
use Rattle.sd_engine.proofs.Begins.{too_few}

-- no byte begins with no packet
none_begins : begins_packet [] ≡ false
none_begins = too_few [] (omega arith)

-- behind the bytes of a packet the search goes on
cut_behind : (n : ℕ) (bytes : List ℕ) → cut_after n bytes ≡ cut_packets (drop n bytes)
unfolding cut_after
cut_behind zero bytes = refl
cut_behind (suc n) [] = refl
cut_behind (suc n) (byte ∷ bytes) = cut_behind n bytes

skipped_behind : (k n : ℕ) (bytes : List ℕ) → skipped_before k n bytes ≡ skipped_before k zero (drop n bytes)
unfolding skipped_before
skipped_behind k zero bytes = refl
skipped_behind k (suc n) [] = refl
skipped_behind k (suc n) (byte ∷ bytes) = skipped_behind k n bytes

-- nothing is cut of no byte
pub cut_end : cut_packets [] ≡ []
unfolding cut_after
cut_end = refl

pub skipped_end : (k : ℕ) → skipped_before k zero [] ≡ 0
unfolding skipped_before
skipped_end k = refl

-- a packet is first
pub cut_packet : (bytes : List ℕ) → begins_packet bytes ≡ true → cut_packets bytes ≡ take 188 bytes ∷ cut_packets
    (drop 188 bytes)
unfolding cut_after
cut_packet [] begins = absurd (both_ways (begins_packet []) none_begins begins)
cut_packet (byte ∷ bytes) begins =
    cond-true (begins_packet (byte ∷ bytes)) _ _ begins
    ∙ ap (λ (ps : List (List ℕ)). take 188 (byte ∷ bytes) ∷ ps) (cut_behind 187 bytes)

pub skipped_packet : (k : ℕ) (bytes : List ℕ) → begins_packet bytes ≡ true →
    skipped_before (suc k) zero bytes ≡ skipped_before k zero (drop 188 bytes)
unfolding skipped_before
skipped_packet k [] begins = absurd (both_ways (begins_packet []) none_begins begins)
skipped_packet k (byte ∷ bytes) begins =
    let less : suc k - 1 ≡ k = omega arith in
    cond-true (begins_packet (byte ∷ bytes)) _ _ begins
    ∙ cond-false (suc k == 0) _ _ (ne_eqb (suc k) 0 (λ e. omega (arith, e)))
    ∙ ap (λ (i : ℕ). skipped_before i 187 bytes) less
    ∙ skipped_behind k 187 bytes

pub skipped_none : (bytes : List ℕ) → begins_packet bytes ≡ true → skipped_before zero zero bytes ≡ 0
unfolding skipped_before
skipped_none [] begins = refl
skipped_none (byte ∷ bytes) begins = cond-true (begins_packet (byte ∷ bytes)) _ _ begins

-- no packet is first
cut_other : (byte : ℕ) (bytes : List ℕ) → begins_packet (byte ∷ bytes) ≡ false →
    cut_packets (byte ∷ bytes) ≡ cut_packets bytes
unfolding cut_after
cut_other byte bytes other = cond-false (begins_packet (byte ∷ bytes)) _ _ other

skipped_other : (k byte : ℕ) (bytes : List ℕ) → begins_packet (byte ∷ bytes) ≡ false →
    skipped_before k zero (byte ∷ bytes) ≡ 1 + skipped_before k zero bytes
unfolding skipped_before
skipped_other k byte bytes other = cond-false (begins_packet (byte ∷ bytes)) _ _ other

-- no packet begins within the first bytes
pub cut_passed : (n : ℕ) (bytes : List ℕ) → n ≤ length bytes →
    ((i : ℕ) → i < n → begins_packet (drop i bytes) ≡ false) → cut_packets bytes ≡ cut_packets (drop n bytes)
cut_passed zero bytes within none = refl
cut_passed (suc n) [] within none = absurd (omega (arith, within))
cut_passed (suc n) (byte ∷ bytes) within none =
    cut_other byte bytes (none 0 (omega arith))
    ∙ cut_passed n bytes (omega (arith, within)) (λ i h. none (suc i) (omega (arith, h)))

pub skipped_passed : (k n : ℕ) (bytes : List ℕ) → n ≤ length bytes →
    ((i : ℕ) → i < n → begins_packet (drop i bytes) ≡ false) →
    skipped_before k zero bytes ≡ n + skipped_before k zero (drop n bytes)
skipped_passed k zero bytes within none = omega arith
skipped_passed k (suc n) [] within none = absurd (omega (arith, within))
skipped_passed k (suc n) (byte ∷ bytes) within none =
    skipped_other k byte bytes (none 0 (omega arith))
    ∙ ap (λ (i : ℕ). 1 + i)
    (skipped_passed k n bytes (omega (arith, within)) (λ i h. none (suc i) (omega (arith, h))))
    ∙ omega arith
