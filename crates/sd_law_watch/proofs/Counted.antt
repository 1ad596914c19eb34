-- What counts of packets, and what doesn't.
use Rattle.std.proofs.Common.{◌≡◌, refl, ℕ, ◌+◌, ◌&&◌, ◌++◌, Bool, true, false, not, List, [], ◌∷◌, length, reverse}
use Rattle.std.proofs.Common.{Option, Some, None, is_none, sym, ap, ◌∙◌, arith, append-nil, append_assoc}
use Rattle.std.specs.Prelude.{if◌then◌else◌}
use Rattle.std.specs.Option.{option_map_or}
use Rattle.std.proofs.lemmas.Bool.{and_parts, not-true, false≢true}
use Rattle.std.proofs.lemmas.List.{reverse-append}
use Rattle.sd_base.proofs.Bools.{tested, and_false}
use Rattle.sd_site_cards.specs.CardFields.{CardFields}
use Rattle.sd_message.specs.declared.stream_fault.StreamFault.{StreamFault}
use Rattle.sd_spec.specs.Tuned.{tuning_of}
use Rattle.sd_spec.specs.Offered.{heard, offered, tuned_offering, break_from}
use Rattle.sd_spec.specs.Counting.{is_marked, is_doubled, is_stray_at, counts, counting}
use Rattle.sd_spec.specs.Reports.{tally_from, tally_marked, one_doubled, one_odd, refused_or}
use Rattle.sd_spec.specs.declared.report.Tally.{Tally}
use Rattle.sd_law_watch.specs.LeftOut.{counting_and}

-- there is nothing
pub none_of : {A : Type 0} (x : Option A) → is_none x ≡ true → x ≡ None
none_of None is = refl
none_of (Some a) is = absurd (false≢true is)

-- what counts isn't marked, doubled, odd or refused
pub counts_unmarked : (card : CardFields) (past : List (List ℕ)) (packet : List ℕ) → counts card past packet ≡ true →
    is_marked packet ≡ false
unfolding counts
counts_unmarked card past packet is = not-true (is_marked packet) (and_parts (not (is_marked packet))
    (not (is_doubled card past packet)
    && (not (is_stray_at card past packet) && is_none (offered card past packet).fault)) is).0

counts_rest : (card : CardFields) (past : List (List ℕ)) (packet : List ℕ) → counts card past packet ≡ true →
    (not (is_doubled card past packet)
    && (not (is_stray_at card past packet) && is_none (offered card past packet).fault)) ≡ true
unfolding counts
counts_rest card past packet is = (and_parts (not (is_marked packet)) (not (is_doubled card past packet)
    && (not (is_stray_at card past packet) && is_none (offered card past packet).fault)) is).1

pub counts_once : (card : CardFields) (past : List (List ℕ)) (packet : List ℕ) → counts card past packet ≡ true →
    is_doubled card past packet ≡ false
counts_once card past packet is = not-true (is_doubled card past packet)
    (and_parts (not (is_doubled card past packet))
    (not (is_stray_at card past packet) && is_none (offered card past packet).fault)
    (counts_rest card past packet is)).0

counts_last : (card : CardFields) (past : List (List ℕ)) (packet : List ℕ) → counts card past packet ≡ true →
    (not (is_stray_at card past packet) && is_none (offered card past packet).fault) ≡ true
counts_last card past packet is = (and_parts (not (is_doubled card past packet))
    (not (is_stray_at card past packet) && is_none (offered card past packet).fault)
    (counts_rest card past packet is)).1

pub counts_even : (card : CardFields) (past : List (List ℕ)) (packet : List ℕ) → counts card past packet ≡ true →
    is_stray_at card past packet ≡ false
counts_even card past packet is = not-true (is_stray_at card past packet)
    (and_parts (not (is_stray_at card past packet)) (is_none (offered card past packet).fault)
    (counts_last card past packet is)).0

pub counts_unrefused : (card : CardFields) (past : List (List ℕ)) (packet : List ℕ) → counts card past packet ≡ true →
    (offered card past packet).fault ≡ None
counts_unrefused card past packet is = none_of (offered card past packet).fault
    (and_parts (not (is_stray_at card past packet)) (is_none (offered card past packet).fault)
    (counts_last card past packet is)).1

-- and what isn't counts
pub counts_by : (card : CardFields) (past : List (List ℕ)) (packet : List ℕ) → is_marked packet ≡ false →
    is_doubled card past packet ≡ false → is_stray_at card past packet ≡ false →
    (offered card past packet).fault ≡ None → counts card past packet ≡ true
unfolding counts
counts_by card past packet unmarked once even fine =
    rw unmarked (rw once (rw even (ap is_none fine)))

-- what is doubled doesn't count
pub copy_uncounted : (card : CardFields) (past : List (List ℕ)) (packet : List ℕ) →
    is_doubled card past packet ≡ true → counts card past packet ≡ false
unfolding counts
copy_uncounted card past packet is = rw is (and_false (not (is_marked packet)))

-- one packet more
pub counting_one : (card : CardFields) (past packets : List (List ℕ)) (packet : List ℕ) →
    counts card past packet ≡ true →
    counting card past (packet ∷ packets) ≡ packet ∷ counting card (packet ∷ past) packets
unfolding counting
counting_one card past packets packet is = rw is refl

pub counting_none : (card : CardFields) (past packets : List (List ℕ)) (packet : List ℕ) →
    counts card past packet ≡ false → counting card past (packet ∷ packets) ≡ counting card past packets
unfolding counting
counting_none card past packets packet is = rw is refl

-- nothing that counts is refused
none_refused_after : (card : CardFields) (past packets : List (List ℕ)) →
    break_from card past (counting card past packets) ≡ None
unfolding break_from counting
none_refused_after card past [] = refl
none_refused_after card past (packet ∷ packets) =
    tested (counts card past packet)
    (λ is. rw is (ap (λ (f : Option StreamFault). option_map_or Some f
    (break_from card (packet ∷ past) (counting card (packet ∷ past) packets))) (counts_unrefused card past packet is)
    ∙ none_refused_after card (packet ∷ past) packets))
    (λ is. rw is (none_refused_after card past packets))

pub none_refused : (card : CardFields) (packets : List (List ℕ)) → break_from card [] (counting card [] packets) ≡ None
none_refused card packets = none_refused_after card [] packets

-- if what doesn't count is left out, the same counts
same_count_after : (card : CardFields) (keep : ℕ → Bool) (n : ℕ) (past packets : List (List ℕ)) →
    counting card past (counting_and card keep n past packets) ≡ counting card past packets
unfolding counting counting_and
same_count_after card keep n past [] = refl
same_count_after card keep n past (packet ∷ packets) =
    tested (counts card past packet)
    (λ is. rw is (rw is (ap (λ (rest : List (List ℕ)). packet ∷ rest)
    (same_count_after card keep (n + 1) (packet ∷ past) packets))))
    (λ is. rw is (tested (keep n)
    (λ kept. rw kept (rw is (same_count_after card keep (n + 1) past packets)))
    (λ not_kept. rw not_kept (same_count_after card keep (n + 1) past packets))))

pub same_count : (card : CardFields) (packets : List (List ℕ)) (keep : ℕ → Bool) →
    counting card [] (counting_and card keep 0 [] packets) ≡ counting card [] packets
same_count card packets keep = same_count_after card keep 0 [] packets

count_again_after : (card : CardFields) (past packets : List (List ℕ)) →
    counting card past (counting card past packets) ≡ counting card past packets
unfolding counting
count_again_after card past [] = refl
count_again_after card past (packet ∷ packets) =
    tested (counts card past packet)
    (λ is. rw is (rw is (ap (λ (rest : List (List ℕ)). packet ∷ rest)
    (count_again_after card (packet ∷ past) packets))))
    (λ is. rw is (count_again_after card past packets))

pub count_again : (card : CardFields) (packets : List (List ℕ)) →
    counting card [] (counting card [] packets) ≡ counting card [] packets
count_again card packets = count_again_after card [] packets

-- what counts of two lists
pub counting_both : (card : CardFields) (past before after : List (List ℕ)) →
    counting card past (before ++ after)
    ≡ counting card past before ++ counting card (reverse (counting card past before) ++ past) after
unfolding counting
counting_both card past [] after = refl
counting_both card past (packet ∷ before) after =
    tested (counts card past packet)
    (λ is. rw is (ap (λ (rest : List (List ℕ)). packet ∷ rest) (counting_both card (packet ∷ past) before after
    ∙ ap (λ (now : List (List ℕ)). counting card (packet ∷ past) before ++ counting card now after)
    (sym (append_assoc (reverse (counting card (packet ∷ past) before)) (packet ∷ []) past)
    ∙ ap (λ (now : List (List ℕ)). now ++ past)
    (sym (reverse-append (packet ∷ []) (counting card (packet ∷ past) before)))))))
    (λ is. rw is (counting_both card past before after))

-- from the begin on
pub counting_more : (card : CardFields) (before after : List (List ℕ)) →
    counting card [] (before ++ after)
    ≡ counting card [] before ++ counting card (reverse (counting card [] before)) after
counting_more card before after =
    counting_both card [] before after
    ∙ ap (λ (now : List (List ℕ)). counting card [] before ++ counting card now after)
    (append-nil (reverse (counting card [] before)))

-- a packet that doesn't count changes nothing
pub one_left_out : (card : CardFields) (before after : List (List ℕ)) (packet : List ℕ) →
    counts card (reverse (counting card [] before)) packet ≡ false →
    counting card [] (before ++ packet ∷ after) ≡ counting card [] (before ++ after)
one_left_out card before after packet is =
    counting_more card before (packet ∷ after)
    ∙ (ap (λ (rest : List (List ℕ)). counting card [] before ++ rest)
    (counting_none card (reverse (counting card [] before)) after packet is)
    ∙ sym (counting_more card before after))

pub copy_left_out : (card : CardFields) (before after : List (List ℕ)) (packet : List ℕ) →
    is_doubled card (reverse (counting card [] before)) packet ≡ true →
    counting card [] (before ++ packet ∷ after) ≡ counting card [] (before ++ after)
copy_left_out card before after packet is =
    one_left_out card before after packet (copy_uncounted card (reverse (counting card [] before)) packet is)

-- a stream of which nothing is refused goes on so
pub unbroken : (fault rest : Option StreamFault) → option_map_or Some fault rest ≡ None →
    (fault ≡ None) × (rest ≡ None)
unbroken None rest is = (refl, is)
unbroken (Some f) rest is = absurd (cc is)

-- nothing of a stream is marked, doubled or odd
abbrev pub IsUndamaged : Tally → Type 0
IsUndamaged tally = (tally.marked ≡ 0) × (tally.doubled ≡ 0) × (tally.odd ≡ 0)

calm_first : (marked doubled odd : Bool) (fault : Option StreamFault) (m d o counted refused : Tally) →
    IsUndamaged (if marked then tally_marked m else if doubled then one_doubled d else if odd then one_odd o
    else refused_or fault counted refused) → fault ≡ None →
    (marked ≡ false) × (doubled ≡ false) × (odd ≡ false) × IsUndamaged counted
calm_first true doubled odd fault m d o counted refused calm none = absurd (omega (arith, calm.0))
calm_first false true odd fault m d o counted refused calm none = absurd (omega (arith, calm.1))
calm_first false false true fault m d o counted refused calm none = absurd (omega (arith, calm.2))
calm_first false false false None m d o counted refused calm none = (refl, refl, refl, calm)
calm_first false false false (Some f) m d o counted refused calm none = absurd (cc none)

pub nothing_counts : (card : CardFields) (past : List (List ℕ)) → counting card past [] ≡ []
unfolding counting
nothing_counts card past = refl

all_count_after : (card : CardFields) (n : ℕ) (past packets : List (List ℕ)) → n ≡ length past →
    break_from card past packets ≡ None → IsUndamaged (tally_from card n past packets) →
    counting card past packets ≡ packets
unfolding break_from tally_from offered
all_count_after card n past [] at none calm = nothing_counts card past
all_count_after card n past (packet ∷ packets) at none calm =
    let whole = unbroken (offered card past packet).fault (break_from card (packet ∷ past) packets) none in
    let same : (tuned_offering card (tuning_of card.ca past) n (heard card past) packet).fault ≡ None
    = ap (λ (k : ℕ). (tuned_offering card (tuning_of card.ca past) k (heard card past) packet).fault) at ∙ whole.0 in
    let first = calm_first (is_marked packet) (is_doubled card past packet) (is_stray_at card past packet)
    (tuned_offering card (tuning_of card.ca past) n (heard card past) packet).fault
    (tally_from card (n + 1) past packets) (tally_from card (n + 1) past packets) (tally_from card (n + 1) past packets)
    (tally_from card (n + 1) (packet ∷ past) packets) (tally_from card (n + 1) past packets) calm same in
    counting_one card past packets packet
    (counts_by card past packet first.0 first.1 first.2 whole.0)
    ∙ ap (λ (rest : List (List ℕ)). packet ∷ rest)
    (all_count_after card (n + 1) (packet ∷ past) packets (omega (arith, at)) whole.1 first.3)

-- if nothing is refused, and nothing is marked, doubled or odd, all count
pub all_count : (card : CardFields) (packets : List (List ℕ)) → break_from card [] packets ≡ None →
    (tally_from card 0 [] packets).marked ≡ 0 → (tally_from card 0 [] packets).doubled ≡ 0 →
    (tally_from card 0 [] packets).odd ≡ 0 → counting card [] packets ≡ packets
all_count card packets none unmarked once even =
    all_count_after card 0 [] packets refl none (unmarked, once, even)
