-- A table of the registers of all bytes is made from those of eight bits.
use Rattle.std.proofs.Common.{ℕ, zero, suc, ◌+◌, ◌-◌, ◌*◌, ◌^◌, ◌<◌, ◌≤◌, ◌≡◌, List, [], ◌∷◌, ◌++◌, length, get_or, map}
use Rattle.std.proofs.Common.{length-append, inl, inr, refl, sym, ap, subst, ◌∙◌, arith}
use Rattle.std.specs.Prelude.{bit_xor}
use Rattle.std.specs.List.{range_with_len}
use Rattle.std.proofs.Math.Pow.{pow_mono}
use Rattle.std.proofs.lemmas.Bool.{cases_lt}
use Rattle.std.proofs.lemmas.List.{get_or_append_left, get_or-append_right, get_or-map, length-map}
use Rattle.std.proofs.lemmas.List.FromFn.{get_or-map-range_with_len}
use Rattle.std.proofs.lemmas.Nat.{xor_comm, pow-add, shl_below}
use Rattle.sd_section.specs.declared.table.TheConstants.{REGISTERS}
use Rattle.sd_section.specs.Crc.{after_bit}
use Rattle.sd_section.specs.Steps.{steps, byte_register}
use Rattle.sd_section.proofs.Xor.{xor_apart}
use Rattle.sd_section.proofs.Registers.{low_moves}
use Rattle.sd_section.proofs.Numbers.{steps_xor, steps_turn, steps_zero}

-- the rows of the macro: each bit doubles what stands before it
unfoldable doubled : List ℕ → List ℕ → List ℕ
doubled row [] = row
doubled row (bit ∷ bits) = doubled (row ++ map (λ register. bit_xor register bit) row) bits

-- n registers, each one bit 0 after the one before
unfoldable bits_from : ℕ → ℕ → List ℕ
bits_from zero register = []
bits_from (suc n) register = register ∷ bits_from n (after_bit register 0)

-- the list has the registers of the numbers below m
record IsTable (after m : ℕ) (row : List ℕ) : Type 0 where
  long : length row ≡ m
  at : (i : ℕ) → i < m → get_or row i 0 ≡ byte_register after i

-- the register of a bit and of lower bits is the sum of theirs
bit_and_lower : (after j i : ℕ) → j < 8 → i < 2 ^ j
    → byte_register after (2 ^ j + i) ≡ bit_xor (byte_register after i) (byte_register after (2 ^ j))
unfolding byte_register
bit_and_lower after j i h k =
    let n : ℕ = 8 * after + 8 in
    let low : i * 2 ^ 24 < 2 ^ (j + 24) = shl_below i j 24 k in
    let power : 2 ^ (j + 24) ≡ 2 ^ j * 2 ^ 24 = pow-add 2 j 24 in
    let bound : 2 ^ j ≤ 2 ^ 7 = pow_mono {i = j} {j = 7} (omega arith) in
    let whole : 1 * 2 ^ (j + 24) + i * 2 ^ 24 ≡ (2 ^ j + i) * 2 ^ 24 = omega arith in
    let apart : bit_xor (1 * 2 ^ (j + 24)) (i * 2 ^ 24) ≡ (2 ^ j + i) * 2 ^ 24 = xor_apart 1 (j + 24) (i * 2 ^ 24) low
    ∙ whole in
    let one : 1 * 2 ^ (j + 24) ≡ 2 ^ j * 2 ^ 24 = omega arith in
    ap (steps n) (sym apart ∙ (ap (λ (p : ℕ). bit_xor p (i * 2 ^ 24)) one ∙ xor_comm (2 ^ j * 2 ^ 24) (i * 2 ^ 24)))
    ∙ steps_xor n (i * 2 ^ 24) (2 ^ j * 2 ^ 24) (omega arith) (omega arith)

-- one doubling
twice : (after m bit : ℕ) (row : List ℕ) → IsTable after m row → ((i : ℕ) → i < m →
    byte_register after (m + i) ≡ bit_xor (byte_register after i) bit) →
    IsTable after (m + m) (row ++ map (λ register. bit_xor register bit) row)
twice after m bit row table more =
    let high : List ℕ = map (λ register. bit_xor register bit) row in
    let long : length high ≡ m = simp length-map table.long in
    record {
      long = omega (arith, length-append row high, table.long);
      at = λ i h. elim (cases_lt i m) [
        | inl low ↦ get_or_append_left row high 0 i (omega (arith, table.long)) ∙ table.at i low
        | inr past ↦
            let k : ℕ = i - m in
            let place : m + k ≡ i = omega arith in
            get_or-append_right row high m i 0 table.long past
            ∙ (get_or-map (λ register. bit_xor register bit) row k 0 0 (omega (arith, table.long))
            ∙ (ap (λ (r : ℕ). bit_xor r bit) (table.at k (omega arith))
            ∙ (sym (more k (omega arith)) ∙ ap (byte_register after) place)))
      ];
    }

-- a bit 0 takes the register of a bit to that of the next bit
next_bit : (after j : ℕ) → j < 7 → after_bit (byte_register after (2 ^ j)) 0 ≡ byte_register after (2 ^ (j + 1))
unfolding byte_register
next_bit after j h =
    let bound : 2 ^ j ≤ 2 ^ 6 = pow_mono {i = j} {j = 6} (omega arith) in
    let up : 2 ^ j * 2 ^ 24 * 2 ≡ 2 ^ (j + 1) * 2 ^ 24 = rw (pow-add 2 j 1) (omega arith) in
    steps_turn (8 * after + 8) (2 ^ j * 2 ^ 24)
    ∙ ap (steps (8 * after + 8)) (low_moves (2 ^ j * 2 ^ 24) (omega arith) ∙ up)

-- all doublings
all_doubled : (n j after bit : ℕ) (row : List ℕ) → j + n ≡ 8 → (0 < n → bit ≡ byte_register after (2 ^ j))
    → IsTable after (2 ^ j) row →
    IsTable after (2 ^ 8) (doubled row (bits_from n bit))
unfolding doubled bits_from
all_doubled zero j after bit row e is table = let eight : j ≡ 8 =
    omega arith in subst (λ (m : ℕ). IsTable after (2 ^ m) row) eight table
all_doubled (suc n) j after bit row e is table =
    let here : bit ≡ byte_register after (2 ^ j) = is (omega arith) in
    let next : 0 < n →
    after_bit bit 0 ≡ byte_register after (2 ^ (j + 1)) =
    λ (h : 0 < n). ap (λ (b : ℕ). after_bit b 0) here ∙ next_bit after j (omega arith) in
    let sum : 2 ^ j + 2 ^ j ≡ 2 ^ (j + 1) = rw (pow-add 2 j 1) (omega arith) in
    let both =
    twice after (2 ^ j) bit row table (λ i h. bit_and_lower after j i (omega arith) h
    ∙ ap (bit_xor (byte_register after i)) (sym here)) in
    all_doubled n (j + 1) after (after_bit bit 0) (row ++ map (λ register. bit_xor register bit) row) (omega arith) next
    (subst (λ (m : ℕ). IsTable after m (row ++ map (λ register. bit_xor register bit) row)) sum both)

-- the row of the registers with so many bytes of zeros after
unfoldable row : ℕ → List ℕ
row after = doubled (0 ∷ []) (bits_from 8 (steps (8 * after + 8) (2 ^ 24)))

row_is_table : (after : ℕ) → IsTable after (2 ^ 8) (row after)
unfolding row byte_register
row_is_table after =
    let none : steps (8 * after + 8) 0 ≡ 0 = steps_zero (8 * after + 8) in
    let first : IsTable after (2 ^ 0) (0 ∷ []) = record {
      long = refl;
      at = λ i h. let e : i ≡ 0 = omega arith in rw e (sym none);
    } in
    all_doubled 8 0 after (steps (8 * after + 8) (2 ^ 24)) (0 ∷ []) refl (λ _. refl) first

-- the table has these rows
rows : REGISTERS ≡ map row (range_with_len 0 8)
unfolding row doubled bits_from steps after_bit
rows = refl

-- what is read from the table
pub entry : (after byte : ℕ) → after < 8 → byte < 256 → get_or (get_or REGISTERS after []) byte 0
    ≡ byte_register after byte
entry after byte h k =
    let here : get_or (map row (range_with_len 0 8)) after [] ≡ row after =
    get_or-map-range_with_len row 0 8 after after [] h (omega arith) in
    ap (λ (t : List (List ℕ)). get_or (get_or t after []) byte 0) rows
    ∙ (ap (λ (l : List ℕ). get_or l byte 0) here ∙ (row_is_table after).at byte k)
