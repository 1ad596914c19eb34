-- What is written between two messages doesn't depend on the numbers of the packets.
use Rattle.std.proofs.Common.{◌≡◌, refl, ℕ, ◌==◌, ◌++◌, Bool, true, false, List, [], ◌∷◌, length, map, reverse, get_or}
use Rattle.std.proofs.Common.{Some, None, sym, ap, ◌∙◌}
use Rattle.std.specs.Prelude.{if◌then◌else◌, nat_lt, Ok, Err}
use Rattle.std.proofs.lemmas.List.{map-append, reverse-append, length-map}
use Rattle.sd_packet.specs.Header.{pid_of, scrambling_of}
use Rattle.sd_cipher.specs.Scrambling.{descrambled}
use Rattle.sd_cipher.specs.Wrapping.{wrapped as under}
use Rattle.sd_psi.specs.declared.our_cat.Tuning.{Tuning}
use Rattle.sd_site_cards.specs.CardFields.{CardFields}
use Rattle.sd_message.specs.EcmParts.{Message}
use Rattle.sd_spec.specs.Stretches.{Stretch, others, held_in}
use Rattle.sd_spec.specs.Confirmed.{Segment, WrittenPackets, judged_packet, is_foreign, is_confirmed, unmarked, tracked}
use Rattle.sd_spec.specs.Confirmed.{written_from}
use Rattle.sd_spec.specs.Confirmed.{then_segment_output}
use Rattle.sd_spec.specs.Offered.{segment_wrote, most_held}

-- the packets without their numbers
abbrev pub packets_of : List (ℕ × List ℕ) → List (List ℕ)
packets_of held = map (λ one. one.1) held

pub packets_reversed : (held : List (ℕ × List ℕ)) → packets_of (reverse held) ≡ reverse (packets_of held)
packets_reversed [] = refl
packets_reversed (one ∷ held) =
    ap packets_of (reverse-append (one ∷ []) held)
    ∙ (map-append (λ (it : ℕ × List ℕ). it.1) (reverse held) (one ∷ [])
    ∙ (ap (λ (before : List (List ℕ)). before ++ one.1 ∷ []) (packets_reversed held)
    ∙ sym (reverse-append (one.1 ∷ []) (packets_of held))))

-- the first packet
first_same : (segment : Segment) (before : List (List ℕ)) (n m : ℕ) (packet : List ℕ) (a b : WrittenPackets) →
    a.packets ≡ b.packets →
    (then_segment_output (judged_packet segment before (n, packet)) a).packets
    ≡ (then_segment_output (judged_packet segment before (m, packet)) b).packets
unfolding judged_packet
first_same segment before n m packet a b same =
    by_tests (scrambling_of packet == 0) (is_foreign segment packet) (is_confirmed segment (pid_of packet))
    (unmarked segment packet ∷ [])
    (descrambled packet segment.word (tracked segment.first (pid_of packet) (before ++ packet ∷ [])) ∷ [])
  where
    by_tests : (clear odd confirmed : Bool) (x y : List (List ℕ)) →
        (then_segment_output (if clear then Ok x else if odd then Err n else if confirmed then Ok y else Ok [])
        a).packets
        ≡ (then_segment_output (if clear then Ok x else if odd then Err m else if confirmed then Ok y else Ok [])
        b).packets
    by_tests true odd confirmed x y = ap (λ (rest : List (List ℕ)). x ++ rest) same
    by_tests false true confirmed x y = refl
    by_tests false false true x y = ap (λ (rest : List (List ℕ)). y ++ rest) same
    by_tests false false false x y = same

rest_of : List (List ℕ) → List (List ℕ)
rest_of [] = []
rest_of (packet ∷ packets) = packets

written_same : (segment : Segment) (before : List (List ℕ)) (xs ys : List (ℕ × List ℕ)) →
    packets_of xs ≡ packets_of ys →
    (written_from segment before xs).packets ≡ (written_from segment before ys).packets
unfolding written_from rest_of
written_same segment before [] [] same = refl
written_same segment before (x ∷ xs) [] same = absurd (cc same)
written_same segment before [] (y ∷ ys) same = absurd (cc same)
written_same segment before (x ∷ xs) (y ∷ ys) same =
    let first : x.1 ≡ y.1 = ap (λ (packets : List (List ℕ)). get_or packets 0 []) same in
    let rest : packets_of xs ≡ packets_of ys = ap rest_of same in
    first_same segment before x.0 y.0 x.1 (written_from segment (before ++ x.1 ∷ []) xs)
    (written_from segment (before ++ x.1 ∷ []) ys) (written_same segment (before ++ x.1 ∷ []) xs ys rest)
    ∙ ap (λ (packet : List ℕ). (then_segment_output (judged_packet segment before (y.0, packet))
    (written_from segment (before ++ packet ∷ []) ys)).packets) first

-- a segment between two messages, if the key is known
abbrev pub keyed_segment : CardFields → Tuning → Message → Message → List ℕ → List (List ℕ) → Segment
keyed_segment card tuning a b key packets = record {
  first = a;
  last = b;
  word = under key a.word a.wrapped;
  ca = card.ca;
  ecm = tuning.ecm;
  packets = packets;
}

-- what is written of held packets, if they aren't too many
abbrev pub wrote_unless : Bool → Segment → List (ℕ × List ℕ) → WrittenPackets
wrote_unless many segment held =
    if many then (record { packets = []; refused = None }) else written_from segment [] held

-- what is written if the key is known
abbrev pub keyed_wrote : CardFields → Tuning → Message → Message → List ℕ → List (List ℕ) → List (ℕ × List ℕ) → ℕ →
    WrittenPackets
keyed_wrote card tuning a b key packets held many =
    wrote_unless (nat_lt most_held many) (keyed_segment card tuning a b key packets) held

many_same : (segment : Segment) (xs ys : List (ℕ × List ℕ)) (many : Bool) → packets_of xs ≡ packets_of ys →
    (wrote_unless many segment xs).packets ≡ (wrote_unless many segment ys).packets
many_same segment xs ys true same = refl
many_same segment xs ys false same = written_same segment [] xs ys same

-- the same packets are held in two stretches
pub segment_same : (card : CardFields) (tuning : Tuning) (one two : Stretch) (a b : Message) (key : List ℕ) →
    packets_of (others one.after) ≡ packets_of (others two.after) →
    (segment_wrote card tuning one a b (Some key)).packets ≡ (segment_wrote card tuning two a b (Some key)).packets
segment_same card tuning one two a b key same =
    let held : packets_of (held_in one) ≡ packets_of (held_in two)
    = packets_reversed (others one.after) ∙ (ap reverse same ∙ sym (packets_reversed (others two.after))) in
    let long : length (held_in one) ≡ length (held_in two)
    = sym (length-map (held_in one) (λ (it : ℕ × List ℕ). it.1))
    ∙ (ap length held ∙ length-map (held_in two) (λ (it : ℕ × List ℕ). it.1)) in
    ap (λ (many : ℕ). (keyed_wrote card tuning a b key (packets_of (held_in one)) (held_in one) many).packets) long
    ∙ (ap (λ (packets : List (List ℕ)).
    (keyed_wrote card tuning a b key packets (held_in one) (length (held_in two))).packets) held
    ∙ many_same (keyed_segment card tuning a b key (packets_of (held_in two))) (held_in one) (held_in two)
    (nat_lt most_held (length (held_in two))) held)
