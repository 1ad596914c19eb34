-- What becomes of packets, with others after them.
use Rattle.std.proofs.Common.{◌≡◌, ℕ, suc, ◌+◌, ◌≤◌, Bool, true, false, [], ◌∷◌, ◌++◌, length}
use Rattle.std.proofs.Common.{refl, sym, ap, ◌∙◌, arith, append_assoc, append-nil}
use Rattle.std.specs.Prelude.{is_none, if◌then◌else◌, Some, None}
use Rattle.std.specs.Option.{option_or}
use Rattle.sd_base.specs.Types.{Packet, Packets, PacketNumber}
use Rattle.sd_site_cards.specs.SiteFields.{SiteFields}
use Rattle.sd_message.specs.declared.clear_fault.ClearFault.{ClearFault}
use Rattle.sd_spec.specs.Refused.{pat_wrong}
use Rattle.sd_spec.specs.Aired.{Verdict, Marked, Refused, Sent, Ends, verdict_of, by_verdict, aired_from, ended_from}
use Rattle.sd_spec.specs.Aired.{left_out_marked, left_out_refused, left_out_with_sent, left_by, none_left, left_from}
use Rattle.sd_spec.specs.declared.left_out.LeftOut.{LeftOut}

-- nothing more
add_none : (n : ℕ) → n ≡ n + 0
add_none n = omega arith

-- the packets that are sent of some that don't come to an end, and of others after them
module _ (site : SiteFields) (rest : Packets) where
  aired_step : (v : Verdict) (before : Packets) (n : PacketNumber) (packet : Packet) (past : Packets) →
      by_verdict v (ended_from site (before ++ packet ∷ []) (n + 1) past) (ended_from site before (n + 1) past) (Some n)
      ≡ None →
      (ended_from site (before ++ packet ∷ []) (n + 1) past ≡ None →
      aired_from site (before ++ packet ∷ []) (n + 1) (past ++ rest)
      ≡ aired_from site (before ++ packet ∷ []) (n + 1) past
      ++ aired_from site ((before ++ packet ∷ []) ++ aired_from site (before ++ packet ∷ []) (n + 1) past)
      ((n + 1) + length past) rest) →
      (ended_from site before (n + 1) past ≡ None → aired_from site before (n + 1) (past ++ rest)
      ≡ aired_from site before (n + 1) past
      ++ aired_from site (before ++ aired_from site before (n + 1) past) ((n + 1) + length past) rest) →
      by_verdict v (packet ∷ aired_from site (before ++ packet ∷ []) (n + 1) (past ++ rest))
      (aired_from site before (n + 1) (past ++ rest)) []
      ≡ by_verdict v (packet ∷ aired_from site (before ++ packet ∷ []) (n + 1) past)
      (aired_from site before (n + 1) past) []
      ++ aired_from site (before ++ by_verdict v (packet ∷ aired_from site (before ++ packet ∷ []) (n + 1) past)
      (aired_from site before (n + 1) past) []) ((n + 1) + length past) rest
  aired_step Marked before n packet past h sent left = left h
  aired_step (Refused fault) before n packet past h sent left = left h
  aired_step Sent before n packet past h sent left =
      ap (λ (ps : Packets). packet ∷ ps) (sent h)
      ∙ ap (λ (b : Packets). packet ∷ (aired_from site (before ++ packet ∷ []) (n + 1) past
      ++ aired_from site b ((n + 1) + length past) rest))
      (append_assoc before (packet ∷ []) (aired_from site (before ++ packet ∷ []) (n + 1) past))
  aired_step Ends before n packet past h sent left = absurd cc

  pub aired_more : (before : Packets) (n : PacketNumber) (past : Packets) → ended_from site before n past ≡ None →
      aired_from site before n (past ++ rest) ≡ aired_from site before n past
      ++ aired_from site (before ++ aired_from site before n past) (n + length past) rest
  unfolding aired_from ended_from
  aired_more before n [] h =
      ap (λ (b : Packets). aired_from site b n rest) (sym (append-nil before))
      ∙ ap (λ (k : ℕ). aired_from site (before ++ []) k rest) (add_none n)
  aired_more before n (packet ∷ past) h =
      let same : (n + 1) + length past ≡ n + suc (length past) = omega arith in
      rw same at (aired_step (verdict_of site before n packet) before n packet past h
      (aired_more (before ++ packet ∷ []) (n + 1) past) (aired_more before (n + 1) past))

  -- the end that they come to
  ended_step : (v : Verdict) (before : Packets) (n : PacketNumber) (packet : Packet) (past : Packets) →
      by_verdict v (ended_from site (before ++ packet ∷ []) (n + 1) past) (ended_from site before (n + 1) past) (Some n)
      ≡ None →
      (ended_from site (before ++ packet ∷ []) (n + 1) past ≡ None →
      ended_from site (before ++ packet ∷ []) (n + 1) (past ++ rest)
      ≡ ended_from site ((before ++ packet ∷ []) ++ aired_from site (before ++ packet ∷ []) (n + 1) past)
      ((n + 1) + length past) rest) →
      (ended_from site before (n + 1) past ≡ None → ended_from site before (n + 1) (past ++ rest)
      ≡ ended_from site (before ++ aired_from site before (n + 1) past) ((n + 1) + length past) rest) →
      by_verdict v (ended_from site (before ++ packet ∷ []) (n + 1) (past ++ rest))
      (ended_from site before (n + 1) (past ++ rest)) (Some n)
      ≡ ended_from site (before ++ by_verdict v (packet ∷ aired_from site (before ++ packet ∷ []) (n + 1) past)
      (aired_from site before (n + 1) past) []) ((n + 1) + length past) rest
  ended_step Marked before n packet past h sent left = left h
  ended_step (Refused fault) before n packet past h sent left = left h
  ended_step Sent before n packet past h sent left = sent h
      ∙ ap (λ (b : Packets). ended_from site b ((n + 1) + length past) rest)
      (append_assoc before (packet ∷ []) (aired_from site (before ++ packet ∷ []) (n + 1) past))
  ended_step Ends before n packet past h sent left = absurd cc

  pub ended_more : (before : Packets) (n : PacketNumber) (past : Packets) → ended_from site before n past ≡ None →
      ended_from site before n (past ++ rest)
      ≡ ended_from site (before ++ aired_from site before n past) (n + length past) rest
  unfolding aired_from ended_from
  ended_more before n [] h =
      ap (λ (b : Packets). ended_from site b n rest) (sym (append-nil before))
      ∙ ap (λ (k : ℕ). ended_from site (before ++ []) k rest) (add_none n)
  ended_more before n (packet ∷ past) h =
      let same : (n + 1) + length past ≡ n + suc (length past) = omega arith in
      rw same at (ended_step (verdict_of site before n packet) before n packet past h
      (ended_more (before ++ packet ∷ []) (n + 1) past) (ended_more before (n + 1) past))

-- what is left out, with a packet at its end of which this becomes
abbrev pub left_with : Verdict → Packet → LeftOut → LeftOut
left_with Marked packet out = left_out_marked out
left_with (Refused fault) packet out = record {
  marked = out.marked;
  refused = out.refused + 1;
  pats = out.pats;
  first = option_or out.first (Some fault);
}
left_with Sent packet out = left_out_with_sent packet out
left_with Ends packet out = out

-- one in front and one at the end, in either order
marked_first : (v : Verdict) (packet : Packet) (out : LeftOut) →
    left_out_marked (left_with v packet out) ≡ left_with v packet (left_out_marked out)
marked_first Marked packet out = refl
marked_first (Refused fault) packet out = refl
marked_first Sent packet out = refl
marked_first Ends packet out = refl

refused_first : (fault : ClearFault) (v : Verdict) (packet : Packet) (out : LeftOut) →
    left_out_refused fault (left_with v packet out) ≡ left_with v packet (left_out_refused fault out)
refused_first fault Marked packet out = refl
refused_first fault (Refused other) packet out = refl
refused_first fault Sent packet out = refl
refused_first fault Ends packet out = refl

sent_first : (first : Packet) (v : Verdict) (packet : Packet) (out : LeftOut) →
    left_out_with_sent first (left_with v packet out) ≡ left_with v packet (left_out_with_sent first out)
sent_first first Marked packet out = refl
sent_first first (Refused other) packet out = refl
sent_first first Sent packet out =
    ap (λ (pats : ℕ). record { marked = out.marked; refused = out.refused; pats = pats; first = out.first })
    (in_turn (if is_none (pat_wrong first) then 0 else 1) (if is_none (pat_wrong packet) then 0 else 1) out.pats)
  where
    in_turn : (a b n : ℕ) → a + (b + n) ≡ b + (a + n)
    in_turn a b n = omega arith
sent_first first Ends packet out = refl

-- of one packet alone
left_alone : (v : Verdict) (packet : Packet) →
    left_by v packet none_left none_left none_left ≡ left_with v packet none_left
left_alone Marked packet = refl
left_alone (Refused fault) packet = refl
left_alone Sent packet = refl
left_alone Ends packet = refl

module _ (site : SiteFields) (last : Packet) where
  left_step : (v : Verdict) (before : Packets) (n : PacketNumber) (packet : Packet) (past : Packets) →
      by_verdict v (ended_from site (before ++ packet ∷ []) (n + 1) past) (ended_from site before (n + 1) past) (Some n)
      ≡ None →
      (ended_from site (before ++ packet ∷ []) (n + 1) past ≡ None →
      left_from site (before ++ packet ∷ []) (n + 1) (past ++ last ∷ [])
      ≡ left_with (verdict_of site ((before ++ packet ∷ []) ++ aired_from site (before ++ packet ∷ []) (n + 1) past)
      ((n + 1) + length past) last) last (left_from site (before ++ packet ∷ []) (n + 1) past)) →
      (ended_from site before (n + 1) past ≡ None → left_from site before (n + 1) (past ++ last ∷ [])
      ≡ left_with (verdict_of site (before ++ aired_from site before (n + 1) past) ((n + 1) + length past) last) last
      (left_from site before (n + 1) past)) →
      left_by v packet (left_from site (before ++ packet ∷ []) (n + 1) (past ++ last ∷ []))
      (left_from site before (n + 1) (past ++ last ∷ [])) none_left
      ≡ left_with (verdict_of site (before ++ by_verdict v
      (packet ∷ aired_from site (before ++ packet ∷ []) (n + 1) past) (aired_from site before (n + 1) past) [])
      ((n + 1) + length past) last) last (left_by v packet (left_from site (before ++ packet ∷ []) (n + 1) past)
      (left_from site before (n + 1) past) none_left)
  left_step Marked before n packet past h sent left =
      ap left_out_marked (left h) ∙ marked_first _ last (left_from site before (n + 1) past)
  left_step (Refused fault) before n packet past h sent left =
      ap (left_out_refused fault) (left h) ∙ refused_first fault _ last (left_from site before (n + 1) past)
  left_step Sent before n packet past h sent left =
      ap (left_out_with_sent packet) (sent h)
      ∙ (sent_first packet _ last (left_from site (before ++ packet ∷ []) (n + 1) past)
      ∙ ap (λ (b : Packets). left_with (verdict_of site b ((n + 1) + length past) last) last
      (left_out_with_sent packet (left_from site (before ++ packet ∷ []) (n + 1) past)))
      (append_assoc before (packet ∷ []) (aired_from site (before ++ packet ∷ []) (n + 1) past)))
  left_step Ends before n packet past h sent left = absurd cc

  -- what is left out of packets that don't come to an end, and of one more
  pub left_more : (before : Packets) (n : PacketNumber) (past : Packets) → ended_from site before n past ≡ None →
      left_from site before n (past ++ last ∷ [])
      ≡ left_with (verdict_of site (before ++ aired_from site before n past) (n + length past) last) last
      (left_from site before n past)
  unfolding aired_from ended_from left_from
  left_more before n [] h =
      left_alone (verdict_of site before n last) last
      ∙ (ap (λ (b : Packets). left_with (verdict_of site b n last) last none_left) (sym (append-nil before))
      ∙ ap (λ (k : ℕ). left_with (verdict_of site (before ++ []) k last) last none_left) (add_none n))
  left_more before n (packet ∷ past) h =
      let same : (n + 1) + length past ≡ n + suc (length past) = omega arith in
      rw same at (left_step (verdict_of site before n packet) before n packet past h
      (left_more (before ++ packet ∷ []) (n + 1) past) (left_more before (n + 1) past))

-- no more is left out, or sent without being a PAT, than there are packets
abbrev pub IsWithin : ℕ → LeftOut → Type 0
IsWithin n out = (out.marked + out.refused) + out.pats ≤ n

within_step : (v : Verdict) (packet : Packet) (sent left : LeftOut) (n : ℕ) → IsWithin n sent → IsWithin n left →
    IsWithin (suc n) (left_by v packet sent left none_left)
within_step Marked packet sent left n a b = omega (arith, b)
within_step (Refused fault) packet sent left n a b = omega (arith, b)
within_step Sent packet sent left n a b =
    let few : (if is_none (pat_wrong packet) then 0 else 1) ≤ 1 = at_most (is_none (pat_wrong packet)) in
    omega (arith, a, few)
  where
    at_most : (b : Bool) → (if b then 0 else 1) ≤ 1
    at_most true = omega arith
    at_most false = omega arith
within_step Ends packet sent left n a b = omega arith

pub left_within : (site : SiteFields) (before : Packets) (n : PacketNumber) (past : Packets) →
    IsWithin (length past) (left_from site before n past)
unfolding left_from
left_within site before n [] = omega arith
left_within site before n (packet ∷ past) =
    within_step (verdict_of site before n packet) packet (left_from site (before ++ packet ∷ []) (n + 1) past)
    (left_from site before (n + 1) past) (length past) (left_within site (before ++ packet ∷ []) (n + 1) past)
    (left_within site before (n + 1) past)

-- of one packet alone
pub aired_alone : (site : SiteFields) (before : Packets) (n : PacketNumber) (packet : Packet) →
    aired_from site before n (packet ∷ []) ≡ by_verdict (verdict_of site before n packet) (packet ∷ []) [] []
unfolding aired_from
aired_alone site before n packet = refl

pub ended_alone : (site : SiteFields) (before : Packets) (n : PacketNumber) (packet : Packet) →
    ended_from site before n (packet ∷ []) ≡ by_verdict (verdict_of site before n packet) None None (Some n)
unfolding ended_from
ended_alone site before n packet = refl

-- a packet before which the broadcast ends, and those after it, are not sent, and that is the end
pub aired_end : (site : SiteFields) (before : Packets) (n : PacketNumber) (packet : Packet) (rest : Packets) →
    verdict_of site before n packet ≡ Ends → aired_from site before n (packet ∷ rest) ≡ []
unfolding aired_from
aired_end site before n packet rest ends = rw ends refl

pub ended_end : (site : SiteFields) (before : Packets) (n : PacketNumber) (packet : Packet) (rest : Packets) →
    verdict_of site before n packet ≡ Ends → ended_from site before n (packet ∷ rest) ≡ Some n
unfolding ended_from
ended_end site before n packet rest ends = rw ends refl
