-- Packets that are given counters.
use Rattle.std.proofs.Common.{◌≡◌, ℕ, zero, suc, ◌+◌, ◌%◌, ◌<◌, List, [], ◌∷◌, ◌++◌, length, take, drop}
use Rattle.std.proofs.Common.{refl, sym, ap, subst, ◌∙◌, arith}
use Rattle.std.specs.Prelude.{map, slice_set, slice_index_or, Result}
use Rattle.std.specs.List.{concat, flat_map}
use Rattle.sd_engine.specs.Stage.{SinkState}
use Rattle.sd_head.specs.Kept.{uncounted, AreAlikeButCounters}
use Rattle.sd_head.specs.Sending.{SendsBytes, counter_after, with_counters, recounted}
use Rattle.sd_head.proofs.Sends.{counter_shift}

-- the first packets under their counters, and the others as they are
abbrev pub first_numbered : ℕ → ℕ → List (List ℕ) → List (List ℕ)
first_numbered counter n packets = with_counters recounted counter (take n packets) ++ drop n packets

-- one packet more gets its counter
one_numbered : (counter n now : ℕ) (packets : List (List ℕ)) → n < length packets → now ≡ counter_after counter n →
    slice_set (first_numbered counter n packets) n
    (recounted (slice_index_or (first_numbered counter n packets) n []) now) ≡ first_numbered counter (n + 1) packets
one_numbered counter n now [] within is = absurd (omega (arith, within))
one_numbered counter zero now (packet ∷ packets) within is = ap (λ (c : ℕ). recounted packet c ∷ packets) is
one_numbered counter (suc n) now (packet ∷ packets) within is =
    let more : suc n + 1 ≡ suc (n + 1) = omega arith in
    rw more (ap (λ (ps : List (List ℕ)). recounted packet counter ∷ ps)
    (one_numbered ((counter + 1) % 16) n now packets (omega (arith, within)) (is ∙ sym (counter_shift counter n))))

pub number_more : (counter n now : ℕ) (packets so_far : List (List ℕ)) → n < length packets →
    now ≡ counter_after counter n → so_far ≡ first_numbered counter n packets →
    slice_set so_far n (recounted (slice_index_or so_far n []) now) ≡ first_numbered counter (n + 1) packets
number_more counter n now packets so_far within is are =
    ap (λ (ps : List (List ℕ)). slice_set ps n (recounted (slice_index_or ps n []) now)) are
    ∙ one_numbered counter n now packets within is

-- a packet has the counter that it was given last
given_last : (packet : List ℕ) (a b : ℕ) → slice_set (slice_set packet 3 a) 3 b ≡ slice_set packet 3 b
given_last [] a b = refl
given_last (x ∷ []) a b = refl
given_last (x ∷ y ∷ []) a b = refl
given_last (x ∷ y ∷ z ∷ []) a b = refl
given_last (x ∷ y ∷ z ∷ w ∷ packet) a b = refl

-- so the packets are the same but for their counters
pub first_alike : (counter n : ℕ) (packets : List (List ℕ)) →
    AreAlikeButCounters (first_numbered counter n packets) packets
first_alike counter zero [] = refl
first_alike counter (suc n) [] = refl
first_alike counter zero (packet ∷ packets) = refl
first_alike counter (suc n) (packet ∷ packets) =
    ap (λ (p : List ℕ). p ∷ map uncounted (first_numbered ((counter + 1) % 16) n packets))
    (given_last packet (0x10 + counter) 0x10)
    ∙ ap (λ (ps : List (List ℕ)). uncounted packet ∷ ps) (first_alike ((counter + 1) % 16) n packets)

-- and the counters that they had before don't matter
pub numbered_anew : (counter : ℕ) (packets : List (List ℕ)) →
    with_counters recounted counter (map uncounted packets) ≡ with_counters recounted counter packets
numbered_anew counter [] = refl
numbered_anew counter (packet ∷ packets) =
    ap (λ (p : List ℕ). p ∷ with_counters recounted ((counter + 1) % 16) (map uncounted packets))
    (given_last packet 0x10 (0x10 + counter))
    ∙ ap (λ (ps : List (List ℕ)). recounted packet counter ∷ ps) (numbered_anew ((counter + 1) % 16) packets)

-- the bytes of lists, one after the other
flattened : (lists : List (List ℕ)) → flat_map (λ x. x) lists ≡ concat lists
flattened [] = refl
flattened (xs ∷ lists) = ap (λ (ys : List ℕ). xs ++ ys) (flattened lists)

pub flattened_sent : {T E : Type 0} (u v : SinkState) (lists : List (List ℕ)) (result : Result T E) →
    SendsBytes u v (flat_map (λ x. x) lists) result → SendsBytes u v (concat lists) result
flattened_sent u v lists result sends = subst (λ (bytes : List ℕ). SendsBytes u v bytes result) (flattened lists) sends
