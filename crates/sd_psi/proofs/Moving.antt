-- Six bytes are put into a section, and removed from it.
use Rattle.std.proofs.Common.{ℕ, zero, suc, ◌+◌, ◌-◌, ◌≤◌, ◌≡◌, List, [], ◌∷◌, ◌++◌, length, take, drop, append-nil}
use Rattle.std.proofs.Common.{length-append, length-drop, length-take-le, refl, sym, ap, ◌∙◌, arith}
use Rattle.std.specs.Prelude.{replicate, slice_range}
use Rattle.std.proofs.lemmas.List.{take_at, drop_at, take-append-le, take_all, drop_all, drop-drop, drop-take}
use Rattle.std.proofs.lemmas.List.{take-take}
use borrow.Rule.Slice.PartMut.{put_mid}
use Rattle.sd_section.proofs.Judging.{field_take}
use Rattle.sd_section.specs.Header.{section_length_of}
use Rattle.sd_section.specs.Written.{with_crc}
use Rattle.sd_psi.specs.Tables.{info_length_of}
use Rattle.sd_psi.specs.Rewriting.{with_lengths, section_with_descriptor, section_without_descriptor}

-- what is taken of a list goes on after its prefix
pub take_after : (p q : List ℕ) (k : ℕ) → length p ≤ k → take k (p ++ q) ≡ p ++ take (k - length p) q
take_after [] q k h = let e : k ≡ k - 0 = omega arith in ap (λ (n : ℕ). take n q) e
take_after (x ∷ p) q zero h = absurd (omega arith)
take_after (x ∷ p) q (suc k) h =
    let e : k - length p ≡ suc k - suc (length p) = omega arith in
    ap (λ (l : List ℕ). x ∷ l) (take_after p q k (omega arith) ∙ ap (λ (n : ℕ). p ++ take n q) e)

-- a head in place of the first twelve bytes
module _ (old head : List ℕ) (twelve : length head ≡ 12) (long : 22 ≤ length old) where
  pub changed_long : length (head ++ drop 12 old) ≡ length old
  changed_long = omega (arith, length-append head (drop 12 old), length-drop 12 old)

  rest_is : take (length (head ++ drop 12 old) - 12) (drop 12 (head ++ drop 12 old)) ≡ drop 12 old
  rest_is =
      ap (take (length (head ++ drop 12 old) - 12)) (drop_at head (drop 12 old) 12 twelve)
      ∙ take_all (length (head ++ drop 12 old) - 12) (drop 12 old) (omega (arith, length-drop 12 old, changed_long))

  -- and what is turned in place of the rest
  pub turned_is : (turned : List ℕ) →
      take 12 (head ++ drop 12 old)
      ++ (turned ++ drop (length (head ++ drop 12 old) - 12) (drop 12 (head ++ drop 12 old))) ≡ head ++ turned
  turned_is turned =
      let after : drop (length (head ++ drop 12 old) - 12) (drop 12 (head ++ drop 12 old)) ≡ [] =
      drop_all _ (drop 12 (head ++ drop 12 old)) (omega (arith, length-drop 12 (head ++ drop 12 old))) in
      ap (λ (l : List ℕ). l ++ (turned ++ drop (length (head ++ drop 12 old) - 12) (drop 12 (head ++ drop 12 old))))
      (take_at head (drop 12 old) 12 twelve)
      ∙ (ap (λ (l : List ℕ). head ++ (turned ++ l)) after ∙ ap (λ (l : List ℕ). head ++ l) (append-nil turned))

  -- turned to the right
  pub right_is : (turned : List ℕ) →
      turned ≡ drop (length (take (length (head ++ drop 12 old) - 12) (drop 12 (head ++ drop 12 old))) - 6)
      (take (length (head ++ drop 12 old) - 12) (drop 12 (head ++ drop 12 old)))
      ++ take (length (take (length (head ++ drop 12 old) - 12) (drop 12 (head ++ drop 12 old))) - 6)
      (take (length (head ++ drop 12 old) - 12) (drop 12 (head ++ drop 12 old))) →
      turned ≡ drop (length old - 18) (drop 12 old) ++ take (length old - 18) (drop 12 old)
  right_is turned h =
      let count : length (drop 12 old) - 6 ≡ length old - 18 = omega (arith, length-drop 12 old) in
      h ∙ (ap (λ (z : List ℕ). drop (length z - 6) z ++ take (length z - 6) z) rest_is
      ∙ ap (λ (k : ℕ). drop k (drop 12 old) ++ take k (drop 12 old)) count)

  -- turned to the left
  pub left_is : (turned : List ℕ) →
      turned ≡ drop 6 (take (length (head ++ drop 12 old) - 12) (drop 12 (head ++ drop 12 old)))
      ++ take 6 (take (length (head ++ drop 12 old) - 12) (drop 12 (head ++ drop 12 old))) →
      turned ≡ drop 18 old ++ take 6 (drop 12 old)
  left_is turned h =
      h ∙ (ap (λ (z : List ℕ). drop 6 z ++ take 6 z) rest_is ∙ ap (λ (l : List ℕ). l ++ take 6 (drop 12 old))
      (drop-drop 6 12 old))

-- the descriptor over the six bytes that were turned to the beginning
module _ (old head descriptor turned : List ℕ) (twelve : length head ≡ 12) (long : 22 ≤ length old)
    (six : length descriptor ≡ 6)
    (turn : turned ≡ drop (length old - 18) (drop 12 old) ++ take (length old - 18) (drop 12 old)) where
  after_six : drop 6 turned ≡ take (length old - 18) (drop 12 old)
  after_six = ap (drop 6) turn ∙ drop_at (drop (length old - 18) (drop 12 old)) (take (length old - 18) (drop 12 old)) 6
      (omega (arith, length-drop (length old - 18) (drop 12 old), length-drop 12 old))

  pub laid_is : take 12 (head ++ turned) ++ (descriptor ++ drop 6 (drop 12 (head ++ turned)))
      ≡ head ++ (descriptor ++ take (length old - 18) (drop 12 old))
  laid_is =
      ap (λ (l : List ℕ). l ++ (descriptor ++ drop 6 (drop 12 (head ++ turned)))) (take_at head turned 12 twelve)
      ∙ (ap (λ (l : List ℕ). head ++ (descriptor ++ drop 6 l)) (drop_at head turned 12 twelve) ∙
      ap (λ (l : List ℕ). head ++ (descriptor ++ l)) after_six)

  pub laid_long : length (head ++ (descriptor ++ take (length old - 18) (drop 12 old))) ≡ length old
  laid_long = omega (
    arith,
    length-append head (descriptor ++ take (length old - 18) (drop 12 old)),
    length-append descriptor (take (length old - 18) (drop 12 old)),
    length-take-le (length old - 18) (drop 12 old)
        (omega (arith, length-drop 12 old)),
  )

  pub sealed_part : take (length old - 4) (head ++ (descriptor ++ take (length old - 18) (drop 12 old)))
      ≡ head ++ (descriptor ++ take (length old - 22) (drop 12 old))
  sealed_part =
      let first : length old - 4 - length head ≡ length old - 16 = omega arith in
      let second : length old - 16 - length descriptor ≡ length old - 22 = omega arith in
      take_after head (descriptor ++ take (length old - 18) (drop 12 old)) (length old - 4) (omega arith)
      ∙ (ap (λ (k : ℕ). head ++ take k (descriptor ++ take (length old - 18) (drop 12 old))) first
      ∙ ap (λ (l : List ℕ). head ++ l) (take_after descriptor (take (length old - 18) (drop 12 old)) (length old - 16)
      (omega arith)
      ∙ (ap (λ (k : ℕ). descriptor ++ take k (take (length old - 18) (drop 12 old))) second
      ∙ ap (λ (l : List ℕ). descriptor ++ l) (take-take (length old - 22) (length old - 18) (drop 12 old)
      (omega arith)))))

-- a section with the descriptor, by the bytes of it and of six more
pub inserted_is : (old descriptor : List ℕ) → 22 ≤ length old →
    section_with_descriptor descriptor (take (length old - 6) old)
    ≡ with_crc (with_lengths (section_length_of old + 6) (info_length_of old + 6) (take 12 old)
    ++ (descriptor ++ take (length old - 22) (drop 12 old)))
unfolding section_with_descriptor
inserted_is old descriptor long =
    let section : List ℕ = take (length old - 6) old in
    let count : length section ≡ length old - 6 = length-take-le (length old - 6) old (omega arith) in
    let lengths : section_length_of section ≡ section_length_of old = field_take old (length old - 6) 12 12
    (omega arith) in
    let infos : info_length_of section ≡ info_length_of old = field_take old (length old - 6) 84 12 (omega arith) in
    let before : take 12 section ≡ take 12 old = take-take 12 (length old - 6) old (omega arith) in
    let part : length section - 4 - 12 ≡ length old - 22 = omega arith in
    let split : length old - 6 ≡ 12 + (length old - 18) = omega arith in
    let after : drop 12 section ≡ take (length old - 18) (drop 12 old) = ap (λ (k : ℕ). drop 12 (take k old)) split ∙
    drop-take 12 (length old - 18) old in
    let inner : slice_range section 12 (length section - 4) ≡ take (length old - 22) (drop 12 old) =
    ap (λ (k : ℕ). take k (drop 12 section)) part
    ∙ (ap (take (length old - 22)) after ∙ take-take (length old - 22) (length old - 18) (drop 12 old) (omega arith)) in
    rw (lengths, infos, before, inner) refl

-- so what is sealed is the section with the descriptor
pub insert_laid : (old head descriptor turned laid section : List ℕ) (section_length info_length : ℕ) →
    22 ≤ length old → length head ≡ 12 → length descriptor ≡ 6 →
    section_length ≡ section_length_of old → info_length ≡ info_length_of old →
    head ≡ with_lengths (section_length + 6) (info_length + 6) (take 12 old) →
    turned ≡ drop (length (take (length (head ++ drop 12 old) - 12) (drop 12 (head ++ drop 12 old))) - 6)
    (take (length (head ++ drop 12 old) - 12) (drop 12 (head ++ drop 12 old)))
    ++ take (length (take (length (head ++ drop 12 old) - 12) (drop 12 (head ++ drop 12 old))) - 6)
    (take (length (head ++ drop 12 old) - 12) (drop 12 (head ++ drop 12 old))) →
    laid ≡ descriptor →
    section ≡ with_crc
    (take (length (put_mid 12 6 (put_mid 12 (length (head ++ drop 12 old) - 12) (head ++ drop 12 old) turned)
    laid) - 4)
    (put_mid 12 6 (put_mid 12 (length (head ++ drop 12 old) - 12) (head ++ drop 12 old) turned) laid)) →
    section ≡ section_with_descriptor descriptor (take (length old - 6) old)
insert_laid old head descriptor turned laid section section_length info_length long twelve six is_length is_info is_head
    turn is_laid is_section =
    let right = right_is old head twelve long turned turn in
    let whole : put_mid 12 6 (put_mid 12 (length (head ++ drop 12 old) - 12) (head ++ drop 12 old) turned) laid ≡ head
    ++ (descriptor ++ take (length old - 18) (drop 12 old)) =
    ap (λ (l : List ℕ). take 12 l ++ (laid ++ drop 6 (drop 12 l))) (turned_is old head twelve long turned)
    ∙ (ap (λ (l : List ℕ). take 12 (head ++ turned) ++ (l ++ drop 6 (drop 12 (head ++ turned)))) is_laid
    ∙ laid_is old head descriptor turned twelve long six right) in
    let headed : with_lengths (section_length_of old + 6) (info_length_of old + 6) (take 12 old) ≡ head =
    ap (λ (n : ℕ). with_lengths (n + 6) (info_length_of old + 6) (take 12 old)) (sym is_length)
    ∙ (ap (λ (n : ℕ). with_lengths (section_length + 6) (n + 6) (take 12 old)) (sym is_info) ∙ sym is_head) in
    is_section
    ∙ (ap (λ (l : List ℕ). with_crc (take (length l - 4) l)) whole
    ∙ (ap (λ (n : ℕ). with_crc (take (n - 4) (head ++ (descriptor ++ take (length old - 18) (drop 12 old)))))
    (laid_long old head descriptor turned twelve long six right)
    ∙ (ap (λ (l : List ℕ). with_crc l) (sealed_part old head descriptor turned twelve long six right)
    ∙ (ap (λ (l : List ℕ). with_crc (l ++ (descriptor ++ take (length old - 22) (drop 12 old)))) (sym headed)
    ∙ sym (inserted_is old descriptor long)))))

-- what is sealed without the six bytes is the section that is left
pub remove_laid : (old head turned closed : List ℕ) (section_length info_length : ℕ) →
    22 ≤ length old → length head ≡ 12 →
    section_length ≡ section_length_of old → info_length ≡ info_length_of old →
    head ≡ with_lengths (section_length - 6) (info_length - 6) (take 12 old) →
    turned ≡ drop 6 (take (length (head ++ drop 12 old) - 12) (drop 12 (head ++ drop 12 old)))
    ++ take 6 (take (length (head ++ drop 12 old) - 12) (drop 12 (head ++ drop 12 old))) →
    closed ≡ with_crc (take (length (put_mid 12 (length (head ++ drop 12 old) - 12) (head ++ drop 12 old) turned) - 10)
    (put_mid 12 (length (head ++ drop 12 old) - 12) (head ++ drop 12 old) turned)) ++ replicate 6 255 →
    closed ≡ section_without_descriptor old ++ replicate 6 255
unfolding section_without_descriptor
remove_laid old head turned closed section_length info_length long twelve is_length is_info is_head turn is_closed =
    let left = left_is old head twelve long turned turn in
    let whole : put_mid 12 (length (head ++ drop 12 old) - 12) (head ++ drop 12 old) turned ≡ head
    ++ (drop 18 old ++ take 6 (drop 12 old)) =
    turned_is old head twelve long turned ∙ ap (λ (l : List ℕ). head ++ l) left in
    let count : length (head ++ (drop 18 old ++ take 6 (drop 12 old))) ≡ length old =
    omega (
      arith,
      length-append head (drop 18 old ++ take 6 (drop 12 old)),
      length-append (drop 18 old)
          (take 6 (drop 12 old)),
      length-drop 18 old,
      length-take-le 6 (drop 12 old)
          (omega (arith, length-drop 12 old)),
    ) in
    let first : length old - 10 - length head ≡ length old - 22 = omega arith in
    let second : length old - 4 - 18 ≡ length old - 22 = omega arith in
    let part : take (length old - 10) (head ++ (drop 18 old ++ take 6 (drop 12 old))) ≡ head
    ++ take (length old - 4 - 18) (drop 18 old) =
    take_after head (drop 18 old ++ take 6 (drop 12 old)) (length old - 10) (omega arith)
    ∙ (ap (λ (k : ℕ). head ++ take k (drop 18 old ++ take 6 (drop 12 old))) first
    ∙ (ap (λ (l : List ℕ). head ++ l) (take-append-le (length old - 22) (drop 18 old) (take 6 (drop 12 old))
    (omega (arith, length-drop 18 old)))
    ∙ ap (λ (k : ℕ). head ++ take k (drop 18 old)) (sym second))) in
    let headed : with_lengths (section_length_of old - 6) (info_length_of old - 6) (take 12 old) ≡ head =
    ap (λ (n : ℕ). with_lengths (n - 6) (info_length_of old - 6) (take 12 old)) (sym is_length)
    ∙ (ap (λ (n : ℕ). with_lengths (section_length - 6) (n - 6) (take 12 old)) (sym is_info) ∙ sym is_head) in
    is_closed
    ∙ (ap (λ (l : List ℕ). with_crc (take (length l - 10) l) ++ replicate 6 255) whole
    ∙ (ap (λ (n : ℕ). with_crc (take (n - 10) (head ++ (drop 18 old ++ take 6 (drop 12 old)))) ++ replicate 6 255) count
    ∙ (ap (λ (l : List ℕ). with_crc l ++ replicate 6 255) part
    ∙ ap (λ (l : List ℕ). with_crc (l ++ slice_range old 18 (length old - 4)) ++ replicate 6 255) (sym headed))))
