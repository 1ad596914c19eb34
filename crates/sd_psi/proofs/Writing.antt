-- What the project's CA_descriptor and the lengths of a PMT come to as bytes.
use Rattle.std.proofs.Common.{ℕ, suc, ◌+◌, ◌*◌, ◌/◌, ◌%◌, ◌<◌, ◌≤◌, ◌≡◌, ◌≢◌, List, [], ◌∷◌, length, drop, get_or}
use Rattle.std.proofs.Common.{get_or-set_same, get_or-set_other, drop-cons, inl, inr, refl, sym, ap, ◌∙◌, arith}
use Rattle.std.specs.Prelude.{slice_set}
use Rattle.std.proofs.lemmas.List.{drop_all, length-set}
use Rattle.std.proofs.lemmas.Bool.{cases_eq, cases_lt}
use Rattle.std.proofs.lemmas.Grind.{same_number_lists}
use Rattle.sd_base.specs.Bits.{field, KeepsOthers}
use Rattle.sd_base.proofs.Fields.{field_below, field_split, apart_stays}
use Rattle.sd_base.proofs.Same.{byte_stays}
use Rattle.sd_base.proofs.Words.{byte_field}
use Rattle.sd_psi.specs.Rewriting.{ca_descriptor, with_twelve, with_lengths}

-- a list of six, each written out
six_listed : (bs : List ℕ) → length bs ≡ 6 →
    bs ≡ get_or bs 0 0 ∷ get_or bs 1 0 ∷ get_or bs 2 0 ∷ get_or bs 3 0 ∷ get_or bs 4 0 ∷ get_or bs 5 0 ∷ []
six_listed bs long =
    let next : (i : ℕ) (rest : List ℕ) → i < 6 → drop (suc i) bs ≡ rest → drop i bs ≡ get_or bs i 0 ∷ rest =
    λ i rest h e. drop-cons bs i 0 (omega arith) ∙ ap (λ (l : List ℕ). get_or bs i 0 ∷ l) e in
    let end : drop 6 bs ≡ [] = drop_all 6 bs (omega arith) in
    next 0 _ (omega arith)
    (next 1 _ (omega arith)
    (next 2 _ (omega arith) (next 3 _ (omega arith) (next 4 _ (omega arith) (next 5 _ (omega arith) end)))))

-- the fields of a CA_descriptor that are written from the first to the last stand in it
pub descriptor_written : (ca pid c p : ℕ) (x0 x1 x2 x3 x4 x5 : List ℕ) → ((i : ℕ) → get_or x5 i 0 < 256) →
    length x0 ≡ 6 →
    KeepsOthers 0 8 x0 x1 → field x1 0 8 ≡ 9 → length x1 ≡ length x0 →
    KeepsOthers 8 8 x1 x2 → field x2 8 8 ≡ 4 → length x2 ≡ length x1 →
    KeepsOthers 16 16 x2 x3 → field x3 16 16 ≡ c → c ≡ ca → length x3 ≡ length x2 →
    KeepsOthers 32 3 x3 x4 → field x4 32 3 ≡ 7 → length x4 ≡ length x3 →
    KeepsOthers 35 13 x4 x5 → field x5 35 13 ≡ p → p ≡ pid → length x5 ≡ length x4 →
    x5 ≡ ca_descriptor ca pid
unfolding ca_descriptor
descriptor_written ca pid c p x0 x1 x2 x3 x4 x5 bytes l0 k1 f1 l1 k2 f2 l2 k3 f3 ec l3 k4 f4 l4 k5 f5 ep l5 =
    let s4 : (o w : ℕ) → o + w ≤ 35 → field x5 o w ≡ field x4 o w = λ o w h. apart_stays x4 x5 35 13 o w k5 (inl h) in
    let s3 : (o w : ℕ) → o + w ≤ 32 → field x5 o w ≡ field x3 o w = λ o w h. s4 o w (omega arith) ∙
    apart_stays x3 x4 32 3 o w k4 (inl h) in
    let s2 : (o w : ℕ) → o + w ≤ 16 → field x5 o w ≡ field x2 o w = λ o w h. s3 o w (omega arith) ∙
    apart_stays x2 x3 16 16 o w k3 (inl h) in
    let s1 : (o w : ℕ) → o + w ≤ 8 → field x5 o w ≡ field x1 o w = λ o w h. s2 o w (omega arith) ∙
    apart_stays x1 x2 8 8 o w k2 (inl h) in
    let h2 : get_or x5 2 0 < 256 = bytes 2 in
    let h3 : get_or x5 3 0 < 256 = bytes 3 in
    let h4 : get_or x5 4 0 < 256 = bytes 4 in
    let h5 : get_or x5 5 0 < 256 = bytes 5 in
    let e0 : get_or x5 0 0 ≡ 9 = sym (byte_field x5 0 (bytes 0)) ∙ (s1 0 8 (omega arith) ∙ f1) in
    let e1 : get_or x5 1 0 ≡ 4 = sym (byte_field x5 1 (bytes 1)) ∙ (s2 8 8 (omega arith) ∙ f2) in
    let b2 : field x5 16 8 ≡ get_or x5 2 0 = byte_field x5 2 h2 in
    let b3 : field x5 24 8 ≡ get_or x5 3 0 = byte_field x5 3 h3 in
    let b4 : field x5 32 8 ≡ get_or x5 4 0 = byte_field x5 4 h4 in
    let b5 : field x5 40 8 ≡ get_or x5 5 0 = byte_field x5 5 h5 in
    let system : field x5 16 16 ≡ ca = s3 16 16 (omega arith) ∙ (f3 ∙ ec) in
    let reserved : field x5 32 3 ≡ 7 = s4 32 3 (omega arith) ∙ f4 in
    let last : field x5 35 13 ≡ pid = f5 ∙ ep in
    let systems = field_split x5 16 8 8 in
    let pids = field_split x5 32 8 8 in
    let parts = field_split x5 32 3 13 in
    let below = field_below x5 35 13 in
    let e2 : get_or x5 2 0 ≡ ca / 256 = omega arith in
    let e3 : get_or x5 3 0 ≡ ca % 256 = omega arith in
    let e4 : get_or x5 4 0 ≡ 0xE0 + pid / 256 = omega arith in
    let e5 : get_or x5 5 0 ≡ pid % 256 = omega arith in
    six_listed x5 (omega arith) ∙ rw (e0, e1, e2, e3, e4, e5) refl

-- twelve bits that are written from the middle of a byte on are the number, and no other bit is changed
pub twelve_written : (old new : List ℕ) (p number : ℕ) → ((i : ℕ) → get_or old i 0 < 256) →
    ((i : ℕ) → get_or new i 0 < 256) →
    length new ≡ length old → p + 1 < length old → KeepsOthers (8 * p + 4) 12 old new → field new (8 * p + 4) 12
    ≡ number →
    new ≡ with_twelve p number old
twelve_written old new p number was is long within keeps value =
    let high : ℕ = get_or old p 0 / 16 * 16 + number / 256 in
    let next : 8 * (p + 1) ≡ 8 * p + 8 = omega arith in
    let bp = byte_field new p (is p) in
    let bq : field new (8 * p + 8) 8 ≡ get_or new (p + 1) 0 = rw next at (byte_field new (p + 1) (is (p + 1))) in
    let hp = is p in
    let hq = is (p + 1) in
    let both = field_split new (8 * p) 8 8 in
    let parts = field_split new (8 * p) 4 12 in
    let op = byte_field old p (was p) in
    let oparts = field_split old (8 * p) 4 4 in
    let obelow = field_below old (8 * p + 4) 4 in
    let below = field_below new (8 * p + 4) 12 in
    let before : field new (8 * p) 4 ≡ field old (8 * p) 4 = apart_stays old new (8 * p + 4) 12 (8 * p) 4 keeps
    (inl (omega arith)) in
    let first : get_or new p 0 ≡ high = omega arith in
    let second : get_or new (p + 1) 0 ≡ number % 256 = omega arith in
    let len1 = length-set old p high in
    same_number_lists new (with_twelve p number old)
    (long ∙ sym (length-set (slice_set old p high) (p + 1) (number % 256) ∙ len1)) (λ k h.
    elim (cases_eq k (p + 1)) [
      | inl here ↦
          let at : get_or (with_twelve p number old) (p + 1) 0 ≡ number % 256 = get_or-set_same (slice_set old p high)
          (p + 1) (number % 256) 0 (omega arith) in
          rw here (second ∙ sym at)
      | inr other ↦ elim (cases_eq k p) [
        | inl here ↦
            let ne : p ≢ p + 1 = omega arith in
            let at : get_or (with_twelve p number old) p 0 ≡ high =
            get_or-set_other (slice_set old p high) (p + 1) p (number % 256) 0 ne ∙
            get_or-set_same old p high 0 (omega arith) in
            rw here (first ∙ sym at)
        | inr neither ↦
            let stays : get_or new k 0 ≡ get_or old k 0 = elim (cases_lt k p) [
              | inl less ↦ byte_stays (8 * p + 4) 12 k old new keeps (inl (omega arith)) (was k) (is k)
              | inr more ↦ byte_stays (8 * p + 4) 12 k old new keeps (inr (omega arith)) (was k) (is k)
            ] in
            stays ∙ sym (get_or-set_other (slice_set old p high) (p + 1) k (number % 256) 0 other ∙
            get_or-set_other old p k high 0 neither)
      ]
    ])

-- both lengths
pub lengths_written : (section_length info_length : ℕ) (x0 x1 x2 : List ℕ) → ((i : ℕ) → get_or x0 i 0 < 256) →
    ((i : ℕ) → get_or x1 i 0 < 256) → ((i : ℕ) → get_or x2 i 0 < 256) → length x0 ≡ 12 →
    KeepsOthers 12 12 x0 x1 → field x1 12 12 ≡ section_length → length x1 ≡ length x0 →
    KeepsOthers 84 12 x1 x2 → field x2 84 12 ≡ info_length → length x2 ≡ length x1 →
    x2 ≡ with_lengths section_length info_length x0
unfolding with_lengths
lengths_written section_length info_length x0 x1 x2 b0 b1 b2 l0 k1 f1 l1 k2 f2 l2 =
    twelve_written x1 x2 10 info_length b1 b2 l2 (omega arith) k2 f2
    ∙ ap (with_twelve 10 info_length) (twelve_written x0 x1 1 section_length b0 b1 l1 (omega arith) k1 f1)
