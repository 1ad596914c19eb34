-- A number of bytes in which one field is changed.
use Rattle.std.proofs.Common.{ℕ, ◌+◌, ◌-◌, ◌*◌, ◌/◌, ◌%◌, ◌^◌, ◌<◌, ◌≤◌, ◌≡◌, List, sym, ap, subst, ◌∙◌, inl, inr}
use Rattle.std.proofs.Common.{⊎_elim, arith}
use Rattle.std.specs.Prelude.{bit_or, bit_and}
use Rattle.std.proofs.lemmas.Bool.{cases_lt}
use Rattle.std.proofs.lemmas.Nat.{and_mask, or_shifted, shr-shr, one_shl, shl_whole, shr_high, mod_low, mod_below}
use Rattle.std.proofs.lemmas.Nat.{pow_pos, pow-add, shr_below, mul-add-lt}
use Rattle.sd_base.specs.Bits.{field, KeepsOthers}
use Rattle.sd_base.specs.Spans.{IsSpan}
use Rattle.sd_base.proofs.Fields.{field_below, field_split, field_within, bits_of_same}

-- the number with the value in place of the n bits before the last `after`
abbrev pub changed : ℕ → ℕ → ℕ → ℕ → ℕ
changed word value n after = (word / 2 ^ (after + n) * 2 ^ n + value) * 2 ^ after + word % 2 ^ after

-- the bits of it up to the field's end
head_below : (word value n after a : ℕ) → word < 2 ^ (a + n + after) → value < 2 ^ n → word / 2 ^ (after + n) * 2 ^ n
    + value < 2 ^ (n + a)
head_below word value n after a h fits =
    let e : a + n + after ≡ a + (after + n) = omega arith in
    let high : word / 2 ^ (after + n) < 2 ^ a = shr_below word a (after + n) (rw e at h) in
    let below = mul-add-lt (word / 2 ^ (after + n)) (2 ^ n) value (2 ^ a) high fits in
    let p : 2 ^ (n + a) ≡ 2 ^ n * 2 ^ a = pow-add 2 n a in
    omega (arith, below, p)

-- it has no more bits
pub changed_below : (word value n after a : ℕ) → word < 2 ^ (a + n + after) → value < 2 ^ n → changed word value n after
    < 2 ^ (a + n + after)
changed_below word value n after a h fits =
    let below = mul-add-lt (word / 2 ^ (after + n) * 2 ^ n + value) (2 ^ after) (word % 2 ^ after) (2 ^ (n + a))
    (head_below word value n after a h fits) (mod_below word (2 ^ after) (pow_pos after)) in
    let p : 2 ^ (after + (n + a)) ≡ 2 ^ after * 2 ^ (n + a) = pow-add 2 after (n + a) in
    let e : after + (n + a) ≡ a + n + after = omega arith in
    omega (arith, below, rw e at p)

-- shifts and masks of at most 40 bits make it
pub changed_by_shifts : (word value n after a : ℕ) → a + n + after ≤ 40 → word < 2 ^ (a + n + after) → value < 2 ^ n →
    bit_or (bit_or (word / 2 ^ (after + n) * 2 ^ n % 18446744073709551616) value * 2 ^ after % 18446744073709551616)
    (bit_and word (1 * 2 ^ after % 18446744073709551616 - 1)) ≡ changed word value n after
changed_by_shifts word value n after a few h fits =
    let e : a + n + after ≡ a + (after + n) = omega arith in
    let high : word / 2 ^ (after + n) < 2 ^ a = shr_below word a (after + n) (rw e at h) in
    rw (shl_whole (word / 2 ^ (after + n)) a n 64 high (omega arith)) (
    rw (or_shifted (word / 2 ^ (after + n)) n value fits) (
    rw (shl_whole (word / 2 ^ (after + n) * 2 ^ n + value) (n + a) after 64 (head_below word value n after a h fits)
    (omega arith)) (
    rw (one_shl after 64 (omega arith)) (
    rw (and_mask word after) (
    or_shifted (word / 2 ^ (after + n) * 2 ^ n + value) after (word % 2 ^ after)
    (mod_below word (2 ^ after) (pow_pos after)))))))

-- bytes that are the changed number have the value as their field
pub value_changed : (new : List ℕ) (start a n after word value : ℕ) → value < 2 ^ n → field new start (a + n + after)
    ≡ changed word value n after → field new (start + a) n ≡ value
value_changed new start a n after word value fits e =
    sym (field_within new start a n after)
    ∙ (rw e (rw (shr_high (word / 2 ^ (after + n) * 2 ^ n + value) after (word % 2 ^ after)
    (mod_below word (2 ^ after) (pow_pos after)))
    (mod_low (word / 2 ^ (after + n)) n value fits)))

-- the bits before the field are as they were
pub head_stays : (old new : List ℕ) (start a n after value : ℕ) → value < 2 ^ n → field new start (a + n + after)
    ≡ changed (field old start (a + n + after)) value n after → field new start a ≡ field old start a
head_stays old new start a n after value fits e =
    let word : ℕ = field old start (a + n + after) in
    let p : a + n + after ≡ a + (after + n) = omega arith in
    let head : (x : List ℕ) → field x start (a + n + after) / 2 ^ (after + n) ≡ field x start a = λ x. rw p
    (rw (field_split x start a (after + n)) (shr_high (field x start a) (after + n)
    (field x (start + a) (after + n)) (field_below x (start + a) (after + n)))) in
    let up : changed word value n after / 2 ^ after ≡ word / 2 ^ (after + n) * 2 ^ n + value = shr_high
    (word / 2 ^ (after + n) * 2 ^ n + value) after (word % 2 ^ after)
    (mod_below word (2 ^ after) (pow_pos after)) in
    let top : changed word value n after / 2 ^ (after + n) ≡ word / 2 ^ (after + n) =
    sym (shr-shr (changed word value n after) after n) ∙
    (ap (λ (k : ℕ). k / 2 ^ n) up ∙ shr_high (word / 2 ^ (after + n)) n value fits) in
    sym (head new) ∙ (ap (λ (k : ℕ). k / 2 ^ (after + n)) e ∙ (top ∙ head old))

-- the bits after the field are as they were
pub rest_stays : (old new : List ℕ) (start a n after value : ℕ) → field new start (a + n + after)
    ≡ changed (field old start (a + n + after)) value n after → field new (start + (a + n)) after
    ≡ field old (start + (a + n)) after
rest_stays old new start a n after value e =
    let word : ℕ = field old start (a + n + after) in
    let rest : (x : List ℕ) → field x start (a + n + after) % 2 ^ after ≡ field x (start + (a + n)) after = λ x.
    rw (field_split x start (a + n) after) (mod_low (field x start (a + n)) after (field x (start + (a + n)) after)
    (field_below x (start + (a + n)) after)) in
    let low : changed word value n after % 2 ^ after ≡ word % 2 ^ after = mod_low (word / 2 ^ (after + n) * 2 ^ n
    + value) after (word % 2 ^ after) (mod_below word (2 ^ after) (pow_pos after)) in
    sym (rest new) ∙ (ap (λ (k : ℕ). k % 2 ^ after) e ∙ (low ∙ rest old))

-- so each bit outside of the field is as it was
pub others_changed : (old new : List ℕ) (start a n after value : ℕ) → value < 2 ^ n → KeepsOthers start (a + n + after)
    old new → field new start (a + n + after) ≡ changed (field old start (a + n + after)) value n after →
    KeepsOthers (start + a) n old new
others_changed old new start a n after value fits keeps e = record {
  stays = λ k apart.
      ⊎_elim (λ (h : k + 1 ≤ start + a).
      ⊎_elim (λ (g : k < start). keeps.stays k (inl (omega arith)))
      (λ (g : start ≤ k). let place : start + (k - start) ≡ k = omega arith in
      rw place at (bits_of_same new old start a (k - start) (head_stays old new start a n after value fits e)
      (omega arith))) (cases_lt k start))
      (λ (h : start + a + n ≤ k).
      ⊎_elim (λ (g : k < start + (a + n + after)). let place : start + (a + n) + (k - (start + (a + n)))
      ≡ k = omega arith in rw place at (bits_of_same new old (start + (a + n)) after (k - (start + (a + n)))
      (rest_stays old new start a n after value e) (omega arith)))
      (λ (g : start + (a + n + after) ≤ k). keeps.stays k (inr g)) (cases_lt k (start + (a + n + after))))
      apart;
}

-- the changed number as shifts and masks of 64 bits write it
abbrev pub shifted : ℕ → ℕ → ℕ → ℕ → ℕ
shifted word value n after =
    bit_or (bit_or (word / 2 ^ (after + n) * 2 ^ n % 18446744073709551616) value * 2 ^ after % 18446744073709551616)
    (bit_and word (1 * 2 ^ after % 18446744073709551616 - 1))

module _ (at n first count after : ℕ) (place : IsSpan at n first count after) where
  start_of_field : 8 * first + at % 8 ≡ at
  start_of_field = omega (arith, place.first_byte)

  -- the number is the changed one
  pub shifted_is : (word value : ℕ) → word < 2 ^ (8 * count) → value < 2 ^ n → shifted word value n after
      ≡ changed word value n after
  shifted_is word value h fits = changed_by_shifts word value n after (at % 8) (omega (arith, place.bits, place.few))
      (rw place.bits h) fits

  -- it has no more bits than those bytes
  pub shifted_fits : (word value : ℕ) → word < 2 ^ (8 * count) → value < 2 ^ n → shifted word value n after
      < 2 ^ (8 * count)
  shifted_fits word value h fits =
      let below = changed_below word value n after (at % 8) (rw place.bits h) fits in
      rw (shifted_is word value h fits) (rw place.bits at below)

  -- the field is the value
  pub field_is_set : (old new : List ℕ) (word value : ℕ) → word ≡ field old (8 * first) (8 * count) → value < 2 ^ n →
      field new (8 * first) (8 * count) ≡ shifted word value n after → field new at n ≡ value
  field_is_set old new word value is_word fits e =
      let is = e ∙ ap (λ (w : ℕ). shifted w value n after) is_word ∙ shifted_is (field old (8 * first) (8 * count))
      value (field_below old (8 * first) (8 * count)) fits in
      rw start_of_field at (value_changed new (8 * first) (at % 8) n after (field old (8 * first) (8 * count)) value
      fits (rw place.bits is))

  -- each other bit stays
  pub others_stay : (old new : List ℕ) (word value : ℕ) → word ≡ field old (8 * first) (8 * count) → value < 2 ^ n →
      KeepsOthers (8 * first) (8 * count) old new → field new (8 * first) (8 * count) ≡ shifted word value n after →
      KeepsOthers at n old new
  others_stay old new word value is_word fits keeps e =
      let is = e ∙ ap (λ (w : ℕ). shifted w value n after) is_word ∙ shifted_is (field old (8 * first) (8 * count))
      value (field_below old (8 * first) (8 * count)) fits in
      let all = others_changed old new (8 * first) (at % 8) n after value fits (rw place.bits keeps)
      (rw place.bits is) in
      subst (λ (a : ℕ). KeepsOthers a n old new) start_of_field all
