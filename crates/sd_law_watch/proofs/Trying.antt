-- How many packets have a key tried.
use Rattle.std.proofs.Common.{◌≡◌, refl, ℕ, ◌+◌, ◌≤◌, ◌&&◌, ◌||◌, Bool, true, false, not, List, [], ◌∷◌}
use Rattle.std.proofs.Common.{Option, Some, None, is_none, sym, ap, ◌∙◌, arith}
use Rattle.std.specs.Prelude.{if◌then◌else◌}
use Rattle.sd_base.proofs.Bools.{tested}
use Rattle.sd_site_cards.specs.CardFields.{CardFields}
use Rattle.sd_message.specs.declared.stream_fault.StreamFault.{StreamFault}
use Rattle.sd_spec.specs.declared.report.Tally.{Tally}
use Rattle.sd_spec.specs.Tuned.{tuning_of}
use Rattle.sd_spec.specs.Offered.{heard, offered, tuned_offering}
use Rattle.sd_spec.specs.Taken.{takes_key_at, taken_keys}
use Rattle.sd_spec.specs.Counting.{is_marked, is_doubled, is_stray_at, counts, counting, tried_keys}
use Rattle.sd_spec.specs.Reports.{tally_from, tally_marked, one_doubled, one_odd, refused_or}
use Rattle.sd_law_watch.specs.Tried.{is_refused, refused_keys}
use Rattle.sd_law_watch.proofs.Numbers.{refused_alike}

-- a key is tried of a packet that counts and takes one, and of one that is refused and was to give one
tried_by : (marked doubled odd fine takes : Bool) →
    (if (marked || (doubled || odd)) then 0 else if takes then 1 else 0)
    ≡ (if (not marked && (not doubled && (not odd && fine))) then (if takes then 1 else 0) else 0)
    + (if ((not marked && (not doubled && (not odd && not fine))) && takes) then 1 else 0)
tried_by true doubled odd fine takes = refl
tried_by false true odd fine takes = refl
tried_by false false true fine takes = refl
tried_by false false false true true = refl
tried_by false false false true false = refl
tried_by false false false false true = refl
tried_by false false false false false = refl

tried_one : (card : CardFields) (past : List (List ℕ)) (packet : List ℕ) →
    (if (is_marked packet || (is_doubled card past packet || is_stray_at card past packet)) then 0
    else if takes_key_at card past packet then 1 else 0)
    ≡ (if counts card past packet then (if takes_key_at card past packet then 1 else 0) else 0)
    + (if is_refused card past packet && takes_key_at card past packet then 1 else 0)
unfolding counts is_refused
tried_one card past packet =
    tried_by (is_marked packet) (is_doubled card past packet) (is_stray_at card past packet)
    (is_none (offered card past packet).fault) (takes_key_at card past packet)

tried_after : (card : CardFields) (past packets : List (List ℕ)) →
    tried_keys card past packets
    ≡ taken_keys card past (counting card past packets) + refused_keys card past packets
unfolding tried_keys refused_keys counting taken_keys
tried_after card past [] = refl
tried_after card past (packet ∷ packets) =
    tested (counts card past packet)
    (λ is.
    let first = tried_one card past packet ∙ ap (λ (b : Bool). (if b then takes else 0) + refused) is in
    let rest = tried_after card (packet ∷ past) packets in
    rw is (omega (arith, first, rest)))
    (λ is.
    let first = tried_one card past packet ∙ ap (λ (b : Bool). (if b then takes else 0) + refused) is in
    let rest = tried_after card past packets in
    rw is (omega (arith, first, rest)))
  where
    takes : ℕ
    takes = if takes_key_at card past packet then 1 else 0

    refused : ℕ
    refused = if is_refused card past packet && takes_key_at card past packet then 1 else 0

pub tried_are : (card : CardFields) (packets : List (List ℕ)) →
    tried_keys card [] packets ≡ taken_keys card [] (counting card [] packets) + refused_keys card [] packets
tried_are card packets = tried_after card [] packets

-- they are among those that are refused
few_by : (marked doubled odd takes : Bool) (fault : Option StreamFault) (counted uncounted : ℕ)
    (m d o c u : Tally) → counted ≤ c.refused → uncounted ≤ m.refused → uncounted ≤ d.refused →
    uncounted ≤ o.refused → uncounted ≤ u.refused →
    (if ((not marked && (not doubled && (not odd && not (is_none fault)))) && takes) then 1 else 0)
    + (if (not marked && (not doubled && (not odd && is_none fault))) then counted else uncounted)
    ≤ (if marked then tally_marked m else if doubled then one_doubled d else if odd then one_odd o
    else refused_or fault c u).refused
few_by true doubled odd takes fault counted uncounted m d o c u a b e f g = omega (arith, b)
few_by false true odd takes fault counted uncounted m d o c u a b e f g = omega (arith, e)
few_by false false true takes fault counted uncounted m d o c u a b e f g = omega (arith, f)
few_by false false false takes None counted uncounted m d o c u a b e f g = omega (arith, a)
few_by false false false true (Some fault) counted uncounted m d o c u a b e f g = omega (arith, g)
few_by false false false false (Some fault) counted uncounted m d o c u a b e f g = omega (arith, g)

few_one : (card : CardFields) (n : ℕ) (past packets : List (List ℕ)) (packet : List ℕ) (counted uncounted : ℕ) →
    counted ≤ (tally_from card (n + 1) (packet ∷ past) packets).refused →
    uncounted ≤ (tally_from card (n + 1) past packets).refused →
    (if is_refused card past packet && takes_key_at card past packet then 1 else 0)
    + (if counts card past packet then counted else uncounted)
    ≤ (tally_from card n past (packet ∷ packets)).refused
unfolding counts is_refused tally_from
few_one card n past packets packet counted uncounted first second =
    let rest : Tally = tally_from card (n + 1) past packets in
    rw (sym (refused_alike card n past packet))
    (few_by (is_marked packet) (is_doubled card past packet) (is_stray_at card past packet)
    (takes_key_at card past packet)
    (tuned_offering card (tuning_of card.ca past) n (heard card past) packet).fault counted uncounted
    rest rest rest (tally_from card (n + 1) (packet ∷ past) packets) rest first second second second second)

few_after : (card : CardFields) (n : ℕ) (past packets : List (List ℕ)) →
    refused_keys card past packets ≤ (tally_from card n past packets).refused
unfolding refused_keys
few_after card n past [] = omega arith
few_after card n past (packet ∷ packets) =
    rw (kept_by (counts card past packet)) (few_one card n past packets packet
    (refused_keys card (packet ∷ past) packets) (refused_keys card past packets)
    (few_after card (n + 1) (packet ∷ past) packets) (few_after card (n + 1) past packets))
  where
    kept_by : (test : Bool) → refused_keys card (if test then packet ∷ past else past) packets
        ≡ (if test then refused_keys card (packet ∷ past) packets else refused_keys card past packets)
    kept_by true = refl
    kept_by false = refl

pub few_refused : (card : CardFields) (packets : List (List ℕ)) →
    refused_keys card [] packets ≤ (tally_from card 0 [] packets).refused
few_refused card packets = few_after card 0 [] packets
