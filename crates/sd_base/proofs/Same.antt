-- Bytes of equal bits.
use Rattle.std.proofs.Common.{ℕ, ◌+◌, ◌-◌, ◌*◌, ◌<◌, ◌≤◌, ◌≡◌, List, length, get_or, sym, ◌∙◌, inl, inr, ⊎_elim, arith}
use Rattle.std.specs.Prelude.{slice_index}
use Rattle.std.proofs.lemmas.Bool.{cases_lt}
use Rattle.std.proofs.lemmas.Grind.{same_number_lists}
use Rattle.sd_base.specs.Bits.{bit, field, AreApart, KeepsOthers}
use Rattle.sd_base.proofs.Fields.{apart_stays, same_by_bits, bits_of_same}
use Rattle.sd_base.proofs.Words.{byte_field}

-- a byte that stands apart from the changed bits is as it was
pub byte_stays : (at n p : ℕ) (old new : List ℕ) → KeepsOthers at n old new → AreApart at n (8 * p) 8 →
    slice_index old p < 256 → slice_index new p < 256 → slice_index new p ≡ slice_index old p
byte_stays at n p old new keeps apart was is = sym (byte_field new p is) ∙
    (apart_stays old new at n (8 * p) 8 keeps apart ∙ byte_field old p was)

-- bytes with the same field and the same bits outside of it are the same
pub same_bytes : (old new : List ℕ) (at n : ℕ) → length new ≡ length old → ((i : ℕ) → get_or old i 0 < 256) →
    ((i : ℕ) → get_or new i 0 < 256) → field new at n ≡ field old at n → KeepsOthers at n old new → new ≡ old
same_bytes old new at n long was is same keeps =
    let bits : (k : ℕ) → bit new k ≡ bit old k = λ k.
    ⊎_elim (λ (h : k < at). keeps.stays k (inl (omega arith)))
    (λ (h : at ≤ k). ⊎_elim (λ (g : k < at + n). let place : at + (k - at) ≡ k = omega arith in
    rw place at (bits_of_same new old at n (k - at) same (omega arith))) (λ (g : at + n ≤ k). keeps.stays k (inr g))
    (cases_lt k (at + n))) (cases_lt k at) in
    same_number_lists new old long (λ p h. sym (byte_field new p (is p)) ∙
    (same_by_bits new old (8 * p) 8 (λ j g. bits (8 * p + j)) ∙ byte_field old p (was p)))

-- after two writes of fields that stand apart, each bit outside of both is as it was
pub both_keep : (at n other width : ℕ) (old mid new : List ℕ) → KeepsOthers at n old mid →
    KeepsOthers other width mid new →
    (k : ℕ) → AreApart at n k 1 → AreApart other width k 1 → bit new k ≡ bit old k
both_keep at n other width old mid new first second k apart beside = second.stays k beside ∙ first.stays k apart

-- what was written first stays where the second field stands after it
pub first_stays : (new mid : List ℕ) (at n other width value : ℕ) → field mid at n ≡ value → at + n ≤ other →
    KeepsOthers other width mid new → field new at n ≡ value
first_stays new mid at n other width value is below keeps = apart_stays mid new other width at n keeps (inl below) ∙ is
