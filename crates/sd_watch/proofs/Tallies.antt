-- What is told of packets with one more at their end.
use Rattle.std.proofs.Common.{arith, ◌≡◌, ℕ, suc, ◌+◌, ◌≤◌, [], ◌∷◌, ◌++◌, refl, ap, sym, ◌∙◌, Bool, true}
use Rattle.std.proofs.Common.{false, append-nil, length}
use Rattle.std.specs.Prelude.{◌&&◌, not, is_none, reverse, if◌then◌else◌, Option, Some, None, option_map}
use Rattle.std.specs.Option.{option_or}
use Rattle.sd_base.specs.Types.{Packet, Packets, PacketNumber}
use Rattle.sd_site_cards.specs.CardFields.{CardFields}
use Rattle.sd_message.specs.declared.stream_fault.StreamFault.{StreamFault}
use Rattle.sd_spec.specs.declared.report.Tally.{Tally}
use Rattle.sd_spec.specs.Tuned.{tuning_of}
use Rattle.sd_spec.specs.Offered.{heard, offered, tuned_offering}
use Rattle.sd_spec.specs.Counting.{is_marked, is_doubled, is_stray_at, counts, counting}
use Rattle.sd_spec.specs.Reports.{tally_marked, one_doubled, one_odd, tally_refused, refused_or, tally_from}
use Rattle.sd_watch.specs.Numbered.{stream_fault_at}
use Rattle.sd_watch.proofs.Counted.{counted_past}
use Rattle.sd_watch.proofs.Renumbered.{offered_at}

-- nothing is told of no packets
abbrev pub nothing : Tally
nothing = record { marked = 0; doubled = 0; odd = 0; refused = 0; first = None }

-- a tally with one packet more at its end, which may be refused for this cause
abbrev pub refused_last : Option StreamFault → Tally → Tally
refused_last None tally = tally
refused_last (Some fault) tally = record {
  marked = tally.marked;
  doubled = tally.doubled;
  odd = tally.odd;
  refused = tally.refused + 1;
  first = option_or tally.first (Some fault);
}

-- a tally with one packet more at its end, by what is true of it
abbrev pub last_by : Bool → Bool → Bool → Option StreamFault → Tally → Tally
last_by m d o fault tally = if m then tally_marked tally else if d then one_doubled tally
    else if o then one_odd tally else refused_last fault tally

-- a tally with packet n at its end, after those that counted
unfoldable pub with_last : CardFields → PacketNumber → Packets → Packet → Tally → Tally
with_last card n past packet tally =
    last_by (is_marked packet) (is_doubled card past packet) (is_stray_at card past packet)
    (tuned_offering card (tuning_of card.ca past) n (heard card past) packet).fault tally

-- one in front and one at the end, in either order
marked_first : (m d o : Bool) (fault : Option StreamFault) (tally : Tally) →
    tally_marked (last_by m d o fault tally) ≡ last_by m d o fault (tally_marked tally)
marked_first true d o fault tally = refl
marked_first false true o fault tally = refl
marked_first false false true fault tally = refl
marked_first false false false None tally = refl
marked_first false false false (Some fault) tally = refl

doubled_first : (m d o : Bool) (fault : Option StreamFault) (tally : Tally) →
    one_doubled (last_by m d o fault tally) ≡ last_by m d o fault (one_doubled tally)
doubled_first true d o fault tally = refl
doubled_first false true o fault tally = refl
doubled_first false false true fault tally = refl
doubled_first false false false None tally = refl
doubled_first false false false (Some fault) tally = refl

odd_first : (m d o : Bool) (fault : Option StreamFault) (tally : Tally) →
    one_odd (last_by m d o fault tally) ≡ last_by m d o fault (one_odd tally)
odd_first true d o fault tally = refl
odd_first false true o fault tally = refl
odd_first false false true fault tally = refl
odd_first false false false None tally = refl
odd_first false false false (Some fault) tally = refl

refused_first : (why : StreamFault) (m d o : Bool) (fault : Option StreamFault) (tally : Tally) →
    tally_refused why (last_by m d o fault tally) ≡ last_by m d o fault (tally_refused why tally)
refused_first why true d o fault tally = refl
refused_first why false true o fault tally = refl
refused_first why false false true fault tally = refl
refused_first why false false false None tally = refl
refused_first why false false false (Some fault) tally = refl

-- the tally of packets of which the first is such, with one more at the end
abbrev first_by : Bool → Bool → Bool → Option StreamFault → Tally → Tally → Tally
first_by m d o fault one other = if m then tally_marked other else if d then one_doubled other
    else if o then one_odd other else refused_or fault one other

both_ends : (m d o : Bool) (fault : Option StreamFault) (one other one_more other_more : Tally)
    (x y z : Bool) (last : Option StreamFault) →
    ((not m && (not d && (not o && is_none fault))) ≡ true → one_more ≡ last_by x y z last one) →
    ((not m && (not d && (not o && is_none fault))) ≡ false → other_more ≡ last_by x y z last other) →
    first_by m d o fault one_more other_more ≡ last_by x y z last (first_by m d o fault one other)
both_ends true d o fault one other one_more other_more x y z last is_one is_other =
    ap tally_marked (is_other refl) ∙ marked_first x y z last other
both_ends false true o fault one other one_more other_more x y z last is_one is_other =
    ap one_doubled (is_other refl) ∙ doubled_first x y z last other
both_ends false false true fault one other one_more other_more x y z last is_one is_other =
    ap one_odd (is_other refl) ∙ odd_first x y z last other
both_ends false false false None one other one_more other_more x y z last is_one is_other = is_one refl
both_ends false false false (Some why) one other one_more other_more x y z last is_one is_other =
    ap (tally_refused why) (is_other refl) ∙ refused_first why x y z last other

-- whether a packet counts, by its fault as packet n
none_renumbered : (n : PacketNumber) (fault : Option StreamFault) →
    is_none (option_map (stream_fault_at n) fault) ≡ is_none fault
none_renumbered n None = refl
none_renumbered n (Some fault) = refl

pub counts_at : (card : CardFields) (n : PacketNumber) (past : Packets) (packet : Packet) →
    counts card past packet ≡ (not (is_marked packet) && (not (is_doubled card past packet)
    && (not (is_stray_at card past packet)
    && is_none (tuned_offering card (tuning_of card.ca past) n (heard card past) packet).fault)))
unfolding counts
counts_at card n past packet =
    ap (λ (b : Bool). not (is_marked packet) && (not (is_doubled card past packet)
    && (not (is_stray_at card past packet) && b)))
    (sym (ap is_none (offered_at card n past packet) ∙ none_renumbered n (offered card past packet).fault))

past_yes : (card : CardFields) (past s : Packets) (packet : Packet) → counts card past packet ≡ true →
    reverse (counting card (packet ∷ past) s) ++ packet ∷ past
    ≡ reverse (counting card past (packet ∷ s)) ++ past
past_yes card past s packet is = sym (counted_past card past s packet ∙ rw is refl)

past_no : (card : CardFields) (past s : Packets) (packet : Packet) → counts card past packet ≡ false →
    reverse (counting card past s) ++ past ≡ reverse (counting card past (packet ∷ s)) ++ past
past_no card past s packet is = sym (counted_past card past s packet ∙ rw is refl)

last_none : (m d o : Bool) (fault : Option StreamFault) →
    first_by m d o fault nothing nothing ≡ last_by m d o fault nothing
last_none true d o fault = refl
last_none false true o fault = refl
last_none false false true fault = refl
last_none false false false None = refl
last_none false false false (Some fault) = refl

pub tally_append : (card : CardFields) (n : PacketNumber) (past s : Packets) (packet : Packet) →
    tally_from card n past (s ++ packet ∷ [])
    ≡ with_last card (n + length s) (reverse (counting card past s) ++ past) packet (tally_from card n past s)
unfolding tally_from with_last counting
tally_append card n past [] packet =
    let e : n ≡ n + 0 = omega arith in
    last_none (is_marked packet) (is_doubled card past packet) (is_stray_at card past packet)
    (tuned_offering card (tuning_of card.ca past) n (heard card past) packet).fault
    ∙ ap (λ (k : ℕ). with_last card k past packet nothing) e
tally_append card n past (first ∷ s) packet =
    let e : n + 1 + length s ≡ n + suc (length s) = omega arith in
    let q : Packets = reverse (counting card past (first ∷ s)) ++ past in
    let k : ℕ = n + suc (length s) in
    both_ends (is_marked first) (is_doubled card past first) (is_stray_at card past first)
    (tuned_offering card (tuning_of card.ca past) n (heard card past) first).fault
    (tally_from card (n + 1) (first ∷ past) s) (tally_from card (n + 1) past s)
    (tally_from card (n + 1) (first ∷ past) (s ++ packet ∷ [])) (tally_from card (n + 1) past (s ++ packet ∷ []))
    (is_marked packet) (is_doubled card q packet) (is_stray_at card q packet)
    (tuned_offering card (tuning_of card.ca q) k (heard card q) packet).fault
    (λ is. tally_append card (n + 1) (first ∷ past) s packet
    ∙ (ap (λ (i : ℕ). with_last card i (reverse (counting card (first ∷ past) s) ++ first ∷ past) packet
    (tally_from card (n + 1) (first ∷ past) s)) e
    ∙ ap (λ (p : Packets). with_last card k p packet (tally_from card (n + 1) (first ∷ past) s))
    (past_yes card past s first (counts_at card n past first ∙ is))))
    (λ is. tally_append card (n + 1) past s packet
    ∙ (ap (λ (i : ℕ). with_last card i (reverse (counting card past s) ++ past) packet
    (tally_from card (n + 1) past s)) e
    ∙ ap (λ (p : Packets). with_last card k p packet (tally_from card (n + 1) past s))
    (past_no card past s first (counts_at card n past first ∙ is))))

-- what is told of packets with one more
pub tally_more : (card : CardFields) (s : Packets) (packet : Packet) → tally_from card 0 [] (s ++ packet ∷ [])
    ≡ with_last card (length s) (reverse (counting card [] s)) packet (tally_from card 0 [] s)
tally_more card s packet =
    let e : 0 + length s ≡ length s = omega arith in
    tally_append card 0 [] s packet
    ∙ (ap (λ (k : ℕ). with_last card k (reverse (counting card [] s) ++ []) packet (tally_from card 0 [] s)) e
    ∙ ap (λ (p : Packets). with_last card (length s) p packet (tally_from card 0 [] s))
    (append-nil (reverse (counting card [] s))))

-- each number of a tally is at most that of the packets
pub record IsLow (most : ℕ) (tally : Tally) : Type 0 where
  pub marked : tally.marked ≤ most
  pub doubled : tally.doubled ≤ most
  pub odd : tally.odd ≤ most
  pub refused : tally.refused ≤ most

low_by : (m d o : Bool) (fault : Option StreamFault) (k : ℕ) (one other : Tally) → IsLow k one → IsLow k other →
    IsLow (suc k) (first_by m d o fault one other)
low_by true d o fault k one other low high = record {
  marked = let h = high.marked in omega (arith, h);
  doubled = let h = high.doubled in omega (arith, h);
  odd = let h = high.odd in omega (arith, h);
  refused = let h = high.refused in omega (arith, h);
}
low_by false true o fault k one other low high = record {
  marked = let h = high.marked in omega (arith, h);
  doubled = let h = high.doubled in omega (arith, h);
  odd = let h = high.odd in omega (arith, h);
  refused = let h = high.refused in omega (arith, h);
}
low_by false false true fault k one other low high = record {
  marked = let h = high.marked in omega (arith, h);
  doubled = let h = high.doubled in omega (arith, h);
  odd = let h = high.odd in omega (arith, h);
  refused = let h = high.refused in omega (arith, h);
}
low_by false false false None k one other low high = record {
  marked = let h = low.marked in omega (arith, h);
  doubled = let h = low.doubled in omega (arith, h);
  odd = let h = low.odd in omega (arith, h);
  refused = let h = low.refused in omega (arith, h);
}
low_by false false false (Some why) k one other low high = record {
  marked = let h = high.marked in omega (arith, h);
  doubled = let h = high.doubled in omega (arith, h);
  odd = let h = high.odd in omega (arith, h);
  refused = let h = high.refused in omega (arith, h);
}

pub tally_low : (card : CardFields) (n : PacketNumber) (past s : Packets) →
    IsLow (length s) (tally_from card n past s)
unfolding tally_from
tally_low card n past [] = record {
  marked = omega arith;
  doubled = omega arith;
  odd = omega arith;
  refused = omega arith;
}
tally_low card n past (packet ∷ s) =
    low_by (is_marked packet) (is_doubled card past packet) (is_stray_at card past packet)
    (tuned_offering card (tuning_of card.ca past) n (heard card past) packet).fault (length s)
    (tally_from card (n + 1) (packet ∷ past) s) (tally_from card (n + 1) past s)
    (tally_low card (n + 1) (packet ∷ past) s) (tally_low card (n + 1) past s)
