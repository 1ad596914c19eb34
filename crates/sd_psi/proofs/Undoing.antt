-- A PMT's section with six bytes more, and with six bytes fewer.
use Rattle.std.proofs.Common.{ℕ, ◌+◌, ◌-◌, ◌<◌, ◌≤◌, ◌≡◌, List, ◌++◌, length, take, drop, length-append, length-take-le}
use Rattle.std.proofs.Common.{append_assoc, take-add, refl, sym, ap, ◌∙◌, arith}
use Rattle.std.specs.Prelude.{slice_range}
use Rattle.std.proofs.lemmas.List.{take_at, drop_at, drop-drop}
use Rattle.sd_base.specs.Bits.{field}
use Rattle.sd_section.proofs.Judging.{field_take}
use Rattle.sd_section.specs.Header.{section_length_of, crc_in, crc_due}
use Rattle.sd_section.specs.Written.{with_crc}
use Rattle.sd_psi.specs.Tables.{info_length_of}
use Rattle.sd_psi.specs.Rewriting.{with_lengths, section_with_descriptor, section_without_descriptor}
use Rattle.sd_psi.proofs.Heads.{AreBytes, bytes_before, lengths_back, IsHead, head_is, sealed_again}

-- what stands between a prefix and the last four bytes
between : (before middle tail : List ℕ) (k : ℕ) → length before ≡ k → length tail ≡ 4 →
    slice_range ((before ++ middle) ++ tail) k (length ((before ++ middle) ++ tail) - 4) ≡ middle
between before middle tail k h four =
    let all : List ℕ = (before ++ middle) ++ tail in
    let count : length all - 4 - k ≡ length middle = omega (
      arith,
      length-append (before ++ middle) tail,
      length-append before middle,
    ) in
    let after : drop k all ≡ middle ++ tail = ap (drop k) (append_assoc before middle tail) ∙
    drop_at before (middle ++ tail) k h in
    ap (λ (n : ℕ). take n (drop k all)) count ∙
    (ap (take (length middle)) after ∙ take_at middle tail (length middle) refl)

-- a head of twelve bytes, the bytes after it, and four bytes
module _ (head rest tail : List ℕ) (twelve : length head ≡ 12) (four : length tail ≡ 4) where
  pub all_long : length ((head ++ rest) ++ tail) ≡ 16 + length rest
  all_long = omega (arith, length-append (head ++ rest) tail, length-append head rest)

  pub head_of : take 12 ((head ++ rest) ++ tail) ≡ head
  head_of = ap (take 12) (append_assoc head rest tail) ∙ take_at head (rest ++ tail) 12 twelve

  pub head_field : (at width : ℕ) → at + width ≤ 96 → field ((head ++ rest) ++ tail) at width ≡ field head at width
  head_field at width h = sym (field_take ((head ++ rest) ++ tail) 12 at width h) ∙
      ap (λ (l : List ℕ). field l at width) head_of

-- the same where the four are the CRC
sealed_head : (head rest : List ℕ) → length head ≡ 12 → take 12 (with_crc (head ++ rest)) ≡ head
sealed_head head rest twelve = head_of head rest _ twelve refl

pub sealed_field : (head rest : List ℕ) (at width : ℕ) → length head ≡ 12 → at + width ≤ 96 →
    field (with_crc (head ++ rest)) at width ≡ field head at width
sealed_field head rest at width twelve h = head_field head rest _ twelve refl at width h

pub sealed_long : (head rest : List ℕ) → length head ≡ 12 → length (with_crc (head ++ rest)) ≡ 16 + length rest
sealed_long head rest twelve = all_long head rest _ twelve refl

pub sealed_between : (before middle : List ℕ) (k : ℕ) → length before ≡ k →
    slice_range (with_crc (before ++ middle)) k (length (with_crc (before ++ middle)) - 4) ≡ middle
sealed_between before middle k h = between before middle _ k h refl

-- a PMT's section
pub record IsRightPmt (section : List ℕ) : Type 0 where
  pub long : length section ≡ 3 + section_length_of section
  pub few : length section ≤ 183
  pub bytes : AreBytes section
  pub right : crc_in section ≡ crc_due section
  pub info : 16 + info_length_of section ≤ length section

module _ (section : List ℕ) (is_right : IsRightPmt section) where
  sixteen : 16 ≤ length section
  sixteen = omega (arith, is_right.info)

  head_long : length (take 12 section) ≡ 12
  head_long = length-take-le 12 section (omega (arith, sixteen))

  length_there : field (take 12 section) 12 12 ≡ section_length_of section
  length_there = field_take section 12 12 12 (omega arith)

  info_there : field (take 12 section) 84 12 ≡ info_length_of section
  info_there = field_take section 12 84 12 (omega arith)

  -- its head, with other lengths
  pub other_head : (a b : ℕ) → a < 4096 → b < 4096 → IsHead a b (take 12 section) (with_lengths a b (take 12 section))
  other_head a b ha hb = head_is (take 12 section) a b head_long (bytes_before section 12 is_right.bytes) ha hb

  -- and with its own again
  own_head : (a b : ℕ) → a < 4096 → b < 4096 →
      with_lengths (section_length_of section) (info_length_of section) (with_lengths a b (take 12 section))
      ≡ take 12 section
  own_head a b ha hb =
      ap (λ (n : ℕ). with_lengths n (info_length_of section) (with_lengths a b (take 12 section))) (sym length_there)
      ∙ (ap (λ (n : ℕ). with_lengths (field (take 12 section) 12 12) n (with_lengths a b (take 12 section)))
      (sym info_there)
      ∙ lengths_back (take 12 section) a b head_long (bytes_before section 12 is_right.bytes) ha hb)

  -- the head and what stands after it up to the CRC are the section again
  whole_again : with_crc (take 12 section ++ take (length section - 16) (drop 12 section)) ≡ section
  whole_again =
      let count : 12 + (length section - 16) ≡ length section - 4 = omega (arith, sixteen) in
      ap (λ (l : List ℕ). with_crc l) (sym (take-add 12 (length section - 16) section) ∙ ap (λ (n : ℕ). take n section)
      count)
      ∙ sealed_again section (omega (arith, sixteen)) is_right.bytes is_right.right

  -- the section without the six bytes that were put into it
  pub removed_inserted : (descriptor : List ℕ) → length descriptor ≡ 6 →
      section_without_descriptor (section_with_descriptor descriptor section) ≡ section
  unfolding section_without_descriptor section_with_descriptor
  removed_inserted descriptor six =
      let a : ℕ = section_length_of section + 6 in
      let b : ℕ = info_length_of section + 6 in
      let new : List ℕ = with_lengths a b (take 12 section) in
      let head = other_head a b (omega (arith, is_right.long, is_right.few))
      (omega (arith, is_right.info, is_right.few)) in
      let inner : List ℕ = slice_range section 12 (length section - 4) in
      let all : List ℕ = with_crc (new ++ (descriptor ++ inner)) in
      let before : take 12 all ≡ new = sealed_head new (descriptor ++ inner) head.long in
      let count : section_length_of all - 6 ≡ section_length_of section = omega
      (arith, sealed_field new (descriptor ++ inner) 12 12 head.long (omega arith), head.section) in
      let infos : info_length_of all - 6 ≡ info_length_of section = omega
      (arith, sealed_field new (descriptor ++ inner) 84 12 head.long (omega arith), head.info) in
      let part : slice_range all 18 (length all - 4) ≡ inner =
      ap (λ (l : List ℕ). slice_range (with_crc l) 18 (length (with_crc l) - 4))
      (sym (append_assoc new descriptor inner))
      ∙ sealed_between (new ++ descriptor) inner 18 (omega (arith, length-append new descriptor, head.long)) in
      let same : length section - 4 - 12 ≡ length section - 16 = omega arith in
      ap (λ (n : ℕ). with_crc (with_lengths n (info_length_of all - 6) (take 12 all) ++ slice_range all 18
      (length all - 4))) count
      ∙ (ap (λ (n : ℕ). with_crc (with_lengths (section_length_of section) n (take 12 all) ++ slice_range all 18
      (length all - 4))) infos
      ∙ (ap (λ (l : List ℕ). with_crc (with_lengths (section_length_of section) (info_length_of section) l
      ++ slice_range all 18 (length all - 4))) before
      ∙ (ap (λ (l : List ℕ). with_crc (with_lengths (section_length_of section) (info_length_of section) new ++ l)) part
      ∙ (ap (λ (l : List ℕ). with_crc (l ++ inner)) (own_head a b (omega (arith, is_right.long, is_right.few))
      (omega (arith, is_right.info, is_right.few)))
      ∙ (ap (λ (n : ℕ). with_crc (take 12 section ++ take n (drop 12 section))) same ∙ whole_again)))))

  -- the section with the six bytes that were removed from it
  pub inserted_removed : (descriptor : List ℕ) → take 6 (drop 12 section) ≡ descriptor → 6 ≤ info_length_of section →
      section_with_descriptor descriptor (section_without_descriptor section) ≡ section
  unfolding section_without_descriptor section_with_descriptor
  inserted_removed descriptor is some =
      let a : ℕ = section_length_of section - 6 in
      let b : ℕ = info_length_of section - 6 in
      let new : List ℕ = with_lengths a b (take 12 section) in
      let head = other_head a b (omega (arith, is_right.long, is_right.few))
      (omega (arith, is_right.info, is_right.few)) in
      let inner : List ℕ = slice_range section 18 (length section - 4) in
      let all : List ℕ = with_crc (new ++ inner) in
      let before : take 12 all ≡ new = sealed_head new inner head.long in
      let count : section_length_of all + 6 ≡ section_length_of section = omega
      (arith, sealed_field new inner 12 12 head.long (omega arith), head.section, is_right.long, is_right.info) in
      let infos : info_length_of all + 6 ≡ info_length_of section = omega
      (arith, sealed_field new inner 84 12 head.long (omega arith), head.info) in
      let part : slice_range all 12 (length all - 4) ≡ inner = sealed_between new inner 12 head.long in
      let same : 6 + (length section - 4 - 18) ≡ length section - 16 = omega (arith, is_right.info) in
      let joined : descriptor ++ inner ≡ take (length section - 16) (drop 12 section) =
      ap (λ (l : List ℕ). l ++ inner) (sym is)
      ∙ (ap (λ (l : List ℕ). take 6 (drop 12 section) ++ take (length section - 4 - 18) l)
      (sym (drop-drop 6 12 section))
      ∙ (sym (take-add 6 (length section - 4 - 18) (drop 12 section)) ∙ ap (λ (n : ℕ). take n (drop 12 section))
      same)) in
      ap (λ (n : ℕ). with_crc (with_lengths n (info_length_of all + 6) (take 12 all)
      ++ (descriptor ++ slice_range all 12 (length all - 4)))) count
      ∙ (ap (λ (n : ℕ). with_crc (with_lengths (section_length_of section) n (take 12 all)
      ++ (descriptor ++ slice_range all 12 (length all - 4)))) infos
      ∙ (ap (λ (l : List ℕ). with_crc (with_lengths (section_length_of section) (info_length_of section) l
      ++ (descriptor ++ slice_range all 12 (length all - 4)))) before
      ∙ (ap (λ (l : List ℕ). with_crc (with_lengths (section_length_of section) (info_length_of section) new
      ++ (descriptor ++ l))) part
      ∙ (ap (λ (l : List ℕ). with_crc (l ++ (descriptor ++ inner)))
      (own_head a b (omega (arith, is_right.long, is_right.few)) (omega (arith, is_right.info, is_right.few)))
      ∙ (ap (λ (l : List ℕ). with_crc (take 12 section ++ l)) joined ∙ whole_again)))))
