-- What stands after some first packets of a stream.
use Rattle.std.proofs.Common.{◌≡◌, ℕ, zero, suc, ◌+◌, ◌-◌, ◌*◌, ◌≤◌, List, [], ◌∷◌, ◌++◌, length, take, drop}
use Rattle.std.proofs.Common.{ap, ◌∙◌, inl, inr, arith, length-append}
use Rattle.std.proofs.lemmas.List.{take-append-le, drop-append-le, take_all, get_or_append_left, get_or-append_right}
use Rattle.std.proofs.lemmas.List.{nil_from_length}
use Rattle.std.proofs.lemmas.Bool.{cases_lt}
use Rattle.std.specs.Prelude.{slice_index}
use Rattle.sd_engine.specs.Stream.{ArePackets, pieces, packets_of, break_after}
use Rattle.sd_engine.proofs.Walking.{packets_more, break_after_more, others}

-- the first byte of what begins with some packets is that of the packets
first_of : (n : ℕ) (taken rest : List ℕ) → ArePackets (suc n) taken → slice_index (taken ++ rest) 0 ≡ 0x47
first_of n taken rest are =
    get_or_append_left taken rest 0 0 (omega (arith, are.long)) ∙ are.sync 0 (omega arith)

-- the packets of a stream that begins with so many are these, and then those of the rest
pub packets_first : (n : ℕ) (taken rest : List ℕ) → ArePackets n taken →
    packets_of (taken ++ rest) ≡ pieces n taken ++ packets_of rest
unfolding pieces
packets_first zero taken rest are =
    let nothing : taken ≡ [] = nil_from_length taken (omega (arith, are.long)) in
    ap (λ (t : List ℕ). packets_of (t ++ rest)) nothing
packets_first (suc n) taken rest are =
    let long : 188 ≤ length taken = omega (arith, are.long) in
    packets_more (taken ++ rest) (omega (arith, long, length-append taken rest)) (first_of n taken rest are)
    ∙ (ap (λ (p : List ℕ). p ∷ packets_of (drop 188 (taken ++ rest))) (take-append-le 188 taken rest long)
    ∙ ap (λ (ps : List (List ℕ)). take 188 taken ∷ ps)
    (ap packets_of (drop-append-le 188 taken rest long) ∙ packets_first n (drop 188 taken) rest (others n taken are)))

-- and the stream breaks as the rest does
pub break_first : (n k : ℕ) (taken rest : List ℕ) → ArePackets n taken →
    break_after k (taken ++ rest) ≡ break_after (k + n) rest
break_first zero k taken rest are =
    let nothing : taken ≡ [] = nil_from_length taken (omega (arith, are.long)) in
    let same : k ≡ k + zero = omega arith in
    ap (λ (t : List ℕ). break_after k (t ++ rest)) nothing ∙ ap (λ (n : ℕ). break_after n rest) same
break_first (suc n) k taken rest are =
    let long : 188 ≤ length taken = omega (arith, are.long) in
    let same : k + 1 + n ≡ k + suc n = omega arith in
    break_after_more k (taken ++ rest) (omega (arith, long, length-append taken rest)) (first_of n taken rest are)
    ∙ (ap (break_after (k + 1)) (drop-append-le 188 taken rest long)
    ∙ (break_first n (k + 1) (drop 188 taken) rest (others n taken are)
    ∙ ap (λ (m : ℕ). break_after m rest) same))

-- one packet more
pub packets_on : (n : ℕ) (taken packet : List ℕ) → ArePackets n taken → length packet ≡ 188 → slice_index packet 0
    ≡ 0x47 →
    ArePackets (n + 1) (taken ++ packet)
packets_on n taken packet are long sync = record {
  long = length-append taken packet ∙ omega (arith, are.long, long);
  sync = λ k within. elim (cases_lt k n) [
    | inl before ↦ get_or_append_left taken packet 0 (188 * k) (omega (arith, are.long, before)) ∙ are.sync k before
    | inr after ↦
        let it : 188 * k - 188 * n ≡ 0 = omega (arith, within, after) in
        get_or-append_right taken packet (188 * n) (188 * k) 0 are.long (omega (arith, after))
        ∙ (ap (λ (i : ℕ). slice_index packet i) it ∙ sync)
  ];
}

pub pieces_on : (n : ℕ) (taken packet : List ℕ) → ArePackets n taken → length packet ≡ 188 →
    pieces (suc n) (taken ++ packet) ≡ pieces n taken ++ packet ∷ []
unfolding pieces
pieces_on zero taken packet are long =
    let nothing : taken ≡ [] = nil_from_length taken (omega (arith, are.long)) in
    ap (λ (t : List ℕ). take 188 (t ++ packet) ∷ []) nothing
    ∙ ap (λ (p : List ℕ). p ∷ []) (take_all 188 packet (omega (arith, long)))
pieces_on (suc n) taken packet are long =
    let enough : 188 ≤ length taken = omega (arith, are.long) in
    ap (λ (p : List ℕ). p ∷ pieces (suc n) (drop 188 (taken ++ packet))) (take-append-le 188 taken packet enough)
    ∙ ap (λ (ps : List (List ℕ)). take 188 taken ∷ ps)
    (ap (pieces (suc n)) (drop-append-le 188 taken packet enough) ∙ pieces_on n (drop 188 taken) packet
    (others n taken are) long)
