-- What is read from a section's body spells it.
use Rattle.std.proofs.Common.{◌≡◌, inl, inr, ℕ, ◌+◌, ◌-◌, ◌*◌, ◌<◌, ◌≤◌, List, [], ◌∷◌, ◌++◌, length, take, drop}
use Rattle.std.proofs.Common.{get_or, take-add, drop-drop, length-drop, append_assoc, arith, refl, sym, ap, ◌∙◌}
use Rattle.std.specs.Prelude.{◌==◌, slice_index, slice_range, flat_map}
use Rattle.std.specs.Int.{w16, w32, w64, to_be_bytes}
use Rattle.std.proofs.lemmas.Bool.{cases_eq, ne_eqb}
use Rattle.std.proofs.lemmas.List.{drop_more, take_all, take-append-drop}
use Rattle.sd_base.specs.Bits.{field}
use Rattle.sd_base.proofs.Lists.{same_parts}
use Rattle.sd_message.proofs.Numbers.{IsBytes, bytes_drop, word_spelled, half_spelled, long_spelled}
use Rattle.sd_message.proofs.Items as Items
use Rattle.sd_message.proofs.Items.{items_spelled}
use Rattle.sd_message.specs.EcmVersions.{flags_at}
use Rattle.sd_message.specs.EcmSpelled.{listed_places, place_bytes, flags_for, numbers_bytes, since_bytes, word_bytes}
use Rattle.sd_message.specs.EcmSpelled.{ecm_head_bytes}
use Rattle.sd_message.specs.EcmSpelled.{ecm_body}
use Rattle.sd_message.specs.EcmFields.{ecm_position_in, from_flags, body_flags, since_in, ecm_run_in, ecm_in}
use Rattle.sd_message.specs.declared.ecm_part.Place.{Place}
use Rattle.sd_message.proofs.Versions.{flags_after}
use Rattle.sd_message.proofs.EcmJudging.{listed_in}

-- one more position is put
pub one_put : (head body : List ℕ) (places : List Place) (k : ℕ) (d : Place) → k < length places →
    body ≡ head ++ flat_map place_bytes (take k places) →
    body ++ place_bytes (get_or places k d) ≡ head ++ flat_map place_bytes (take (k + 1) places)
one_put head body places k d within is = Items.one_put place_bytes head body places k d within is

-- a position is spelled as it was read
place_spelled : (bytes : List ℕ) → IsBytes bytes → length bytes ≡ 8 → place_bytes (ecm_position_in bytes) ≡ bytes
unfolding place_bytes ecm_position_in
place_spelled bytes each long =
    let pid : to_be_bytes w16 (field bytes 0 16) ≡ take 2 bytes = half_spelled bytes 0 each (omega arith) in
    let position : drop 2 (to_be_bytes w64 (field bytes 16 48)) ≡ take 6 (drop 2 bytes) = long_spelled bytes 2 each
    (omega arith) in
    let after : take 6 (drop 2 bytes) ≡ drop 2 bytes = take_all 6 (drop 2 bytes) (omega (arith, length-drop 2 bytes)) in
    ap (λ (l : List ℕ). l ++ drop 2 (to_be_bytes w64 (field bytes 16 48))) pid
    ∙ (ap (λ (l : List ℕ). take 2 bytes ++ l) (position ∙ after) ∙ take-append-drop 2 bytes)

-- so are the flags
flags_spelled : (flags : ℕ) → flags ≤ 1 → flags_for (flags == 1) ≡ flags
flags_spelled flags few = elim (cases_eq flags 1) [
  | inl e ↦ rw e refl
  | inr g ↦ let none : flags ≡ 0 = omega arith in rw none refl
]

-- the first bytes of a list in pieces
piece : (m n : ℕ) (xs : List ℕ) (p : ℕ) → take (m + n) (drop p xs) ≡ take m (drop p xs) ++ take n (drop (p + m) xs)
piece m n xs p = take-add m n (drop p xs) ∙ ap (λ (l : List ℕ). take m (drop p xs) ++ take n l) (drop-drop m p xs)

-- pieces that are the same one by one
same_four : (a a' b b' c c' d d' : List ℕ) → a ≡ a' → b ≡ b' → c ≡ c' → d ≡ d' → a ++ (b ++ (c ++ d)) ≡ a'
    ++ (b' ++ (c' ++ d'))
same_four a a' b b' c c' d d' p q r s = rw (p, q, r, s) refl

-- so are the numbers with which a body begins
numbers_spelled : (v number last : ℕ) (body : List ℕ) → IsBytes body → 16 ≤ length body →
    numbers_bytes (ecm_in v number last body) ≡ take 16 body
unfolding numbers_bytes ecm_in
numbers_spelled v number last body each long =
    let ecm : to_be_bytes w32 (field body 0 32) ≡ take 4 body = word_spelled body 0 each (omega arith) in
    let period : to_be_bytes w32 (field body 32 32) ≡ take 4 (drop 4 body) = word_spelled body 4 each (omega arith) in
    let word : to_be_bytes w32 (field body 64 32) ≡ take 4 (drop 8 body) = word_spelled body 8 each (omega arith) in
    let clear : to_be_bytes w32 (field body 96 32) ≡ take 4 (drop 12 body) = word_spelled body 12 each (omega arith) in
    same_four _ _ _ _ _ _ _ _ ecm period word clear
    ∙ sym (piece 4 12 body 0
    ∙ ap (λ (l : List ℕ). take 4 body ++ l) (piece 4 8 body 4
    ∙ ap (λ (l : List ℕ). take 4 (drop 4 body) ++ l) (piece 4 4 body 8)))

-- so are `since` and the broadcast's name, where they are written
eight_spelled : (body : List ℕ) → IsBytes body → 24 ≤ length body →
    to_be_bytes w32 (field body 128 32) ++ to_be_bytes w32 (field body 160 32) ≡ take 8 (drop 16 body)
eight_spelled body each long =
    let since : to_be_bytes w32 (field body 128 32) ≡ take 4 (drop 16 body) = word_spelled body 16 each (omega arith) in
    let run : to_be_bytes w32 (field body 160 32) ≡ take 4 (drop 20 body) = word_spelled body 20 each (omega arith) in
    same_parts _ _ _ _ since run ∙ sym (piece 4 4 body 16)

since_spelled : (v number : ℕ) (body : List ℕ) → IsBytes body → flags_at v ≤ length body →
    since_bytes v (since_in v number body) (ecm_run_in v body) ≡ take (flags_at v - 16) (drop 16 body)
unfolding since_bytes since_in ecm_run_in flags_at
since_spelled v number body each long = elim (cases_eq v 3) [
  | inl e ↦
      let long_too : 24 ≤ length body = rw e at long in
      rw e (eight_spelled body each long_too)
  | inr g ↦ elim (cases_eq v 2) [
    | inl e ↦
        let long_too : 20 ≤ length body = rw e at long in
        rw e (word_spelled body 16 each long_too)
    | inr f ↦ rw (ne_eqb v 3 g, ne_eqb v 2 f) refl
  ]
]

-- so is what stands between them and the positions
word_again : (v number last : ℕ) (body : List ℕ) → 50 ≤ length (from_flags v body) → body_flags v body ≤ 1 →
    word_bytes (ecm_in v number last body) ≡ take 50 (from_flags v body)
unfolding word_bytes ecm_in
word_again v number last body long few =
    let tail : List ℕ = from_flags v body in
    let flags : flags_for (body_flags v body == 1) ∷ [] ≡ take 1 tail =
    ap (λ (n : ℕ). n ∷ []) (flags_spelled (body_flags v body) few)
    ∙ sym (ap (take 1) (drop_more tail 0 0 (omega arith)))
    in
    let count : slice_index tail 49 ∷ [] ≡ take 1 (drop 49 tail) = sym (ap (take 1) (drop_more tail 49 0 (omega arith)))
    in
    same_four _ _ (slice_range tail 1 33) _ (slice_range tail 33 49) _ _ _ flags refl refl count
    ∙ sym (piece 1 49 tail 0
    ∙ ap (λ (l : List ℕ). take 1 tail ++ l) (piece 32 17 tail 1
    ∙ ap (λ (l : List ℕ). take 32 (drop 1 tail) ++ l) (piece 16 1 tail 33)))

since_here : (v number last : ℕ) (body : List ℕ) → IsBytes body → flags_at v ≤ length body →
    since_bytes (ecm_in v number last body).version (ecm_in v number last body).since (ecm_in v number last body).run
    ≡ take (flags_at v - 16) (drop 16 body)
unfolding ecm_in
since_here v number last body each long = since_spelled v (field body 0 32) body each long

same_three : (a a' b b' c c' : List ℕ) → a ≡ a' → b ≡ b' → c ≡ c' → a ++ (b ++ c) ≡ a' ++ (b' ++ c')
same_three a a' b b' c c' p q r = rw (p, q, r) refl

-- the three pieces of a list
three : (a b : ℕ) (xs : List ℕ) → a ≤ b → take a xs ++ (take (b - a) (drop a xs) ++ drop b xs) ≡ xs
three a b xs low =
    let e : a + (b - a) ≡ b = omega arith in
    ap (λ (l : List ℕ). take a xs ++ (take (b - a) (drop a xs) ++ l)) (ap (λ (n : ℕ). drop n xs) (sym e)
    ∙ sym (drop-drop (b - a) a xs))
    ∙ (ap (λ (l : List ℕ). take a xs ++ l) (take-append-drop (b - a) (drop a xs)) ∙ take-append-drop a xs)

-- the body in its pieces
pub body_is : (numbers since word places : List ℕ) →
    (numbers ++ (since ++ word)) ++ places ≡ numbers ++ (since ++ (word ++ places))
body_is numbers since word places =
    append_assoc numbers (since ++ word) places ∙ ap (λ (l : List ℕ). numbers ++ l) (append_assoc since word places)

-- so is the whole body
pub body_spelled : (v number last : ℕ) (body : List ℕ) → IsBytes body →
    length body ≡ flags_at v + 50 + 8 * (ecm_in v number last body).count → body_flags v body ≤ 1 →
    ecm_body (ecm_in v number last body) ≡ body
unfolding ecm_body ecm_head_bytes
body_spelled v number last body each long few =
    let part = ecm_in v number last body in
    let tail : List ℕ = from_flags v body in
    let ps : List ℕ = flat_map place_bytes (listed_places part) in
    let low : 16 ≤ flags_at v = flags_after v in
    let long_tail : length tail ≡ 50 + 8 * part.count = omega (arith, length-drop (flags_at v) body) in
    let places : ps ≡ drop 50 tail =
    ap (flat_map place_bytes) (listed_in v number last body)
    ∙ items_spelled ecm_position_in place_bytes 8 part.count (drop 50 tail) place_spelled
    (bytes_drop 50 tail (bytes_drop (flags_at v) body each))
    (omega (arith, length-drop 50 tail)) in
    let word : word_bytes part ++ ps ≡ tail =
    ap (λ (l : List ℕ). l ++ ps) (word_again v number last body (omega arith) few)
    ∙ (ap (λ (l : List ℕ). take 50 tail ++ l) places ∙ take-append-drop 50 tail) in
    body_is (numbers_bytes part) (since_bytes part.version part.since part.run) (word_bytes part) ps
    ∙ (same_three _ _ _ _ _ _ (numbers_spelled v number last body each (omega arith))
    (since_here v number last body each (omega arith)) word
    ∙ three 16 (flags_at v) body low)
