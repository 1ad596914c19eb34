-- What two neighbouring messages confirm where no packet between them is lost, or one.
use Rattle.std.proofs.Common.{◌≡◌, refl, ℕ, zero, suc, ◌+◌, ◌-◌, ◌%◌, ◌<◌, ◌≤◌, ◌&&◌, ◌||◌, Bool, true, false}
use Rattle.std.proofs.Common.{not, nat_le}
use Rattle.std.proofs.Common.{List, [], length, take, drop, length-take}
use Rattle.std.proofs.Common.{arith, sym, ap, ◌∙◌, inl, inr, ◌⊎◌}
use Rattle.std.proofs.lemmas.List.{drop_more}
use Rattle.std.proofs.lemmas.Bool.{cases_Bool}
use Rattle.std.proofs.lemmas.Bool.Decides.{nat_tests}
use Rattle.sd_packet.specs.Header.{pid_of, counter_of}
use Rattle.sd_packet.specs.Positions.{advanced, is_moving, moved, moved_by}
use Rattle.sd_packet.proofs.Positions.{advanced_is_next, next_is_advanced, counter_below, next_position}
use Rattle.sd_site_cards.specs.SiteFields.{AreInRange}
use Rattle.sd_spec.specs.Plan.{period_of, since_of}
use Rattle.sd_spec.specs.Kinds.{kind_of, is_scrambled}
use Rattle.sd_spec.specs.Sent.{Item}
use Rattle.sd_law_losses.specs.Chosen.{chosen}
use Rattle.sd_law_losses.specs.Kept.{is_kept, kept_in, has_arrived, is_entitled_before}
use Rattle.sd_law_losses.specs.Confirmed.{packet_at, packets_at, is_open, tracked_position, is_traced}
use Rattle.sd_law_losses.proofs.AllOpened.{chosen_true}
use Rattle.sd_law_losses.proofs.Between.{opens}
use Rattle.sd_law_losses.proofs.Confirming.{confirms, neighbours}
use Rattle.sd_law_losses.proofs.Pairs.{start_of, end_of, IsPair, starts_within}
use Rattle.sd_law_losses.proofs.Setting.{Setting}
use Rattle.sd_law_losses.proofs.Tracking.{true_at, near_at, true_on, near_on, near_below, nothing_in, stretch, flags_in}
use Rattle.sd_law_losses.proofs.Tracking.{kept_none}
use Rattle.sd_law_progress.proofs.Between.{few_kept}

-- two messages of which the earlier one's key is known, with at most 4,096 packets between them
pair_opens : (s : Setting) (kept : List Item) (a b : ℕ) →
    since_of s.plan.site.messages s.plan.site.cryptos b ≤ a →
    is_entitled_before s.plan.site.height s.card.leaf (period_of s.plan (start_of s a)) a kept ≡ true →
    end_of s b ≤ start_of s a + 4096 → opens s kept a b ≡ true
unfolding is_open
pair_opens s kept a b since entitled near =
    let before : nat_le (since_of s.plan.site.messages s.plan.site.cryptos b) a ≡ true =
    grind (arith, nat_tests, since) in
    let short : length (kept_in kept (start_of s a) (end_of s b)) ≤ 4096 =
    omega (arith, few_kept kept (start_of s a) (end_of s b), near) in
    let few : nat_le (length (kept_in kept (start_of s a) (end_of s b))) 4096 ≡ true =
    grind (arith, nat_tests, short) in
    rw before (rw entitled (rw few refl))

-- if they are neighbours, each packet between them is confirmed that is kept, and traced if it is scrambled
pub pair_confirms : (s : Setting) (kept : List Item) (a b j : ℕ) → AreInRange s.plan.site → IsPair s a b →
    has_arrived kept a ≡ true → has_arrived kept b ≡ true →
    ((c : ℕ) → a < c → c < b → has_arrived kept c ≡ false) →
    since_of s.plan.site.messages s.plan.site.cryptos b ≤ a →
    is_entitled_before s.plan.site.height s.card.leaf (period_of s.plan (start_of s a)) a kept ≡ true →
    end_of s b ≤ start_of s a + 4096 → is_kept kept j ≡ true → start_of s a ≤ j → j < end_of s b →
    (is_scrambled (kind_of (take j s.clear) (packet_at s.clear j)) ≡ true →
    is_traced s.plan s.clear kept a b (pid_of (packet_at s.clear j)) ≡ true) → confirms s kept j ≡ true
pair_confirms s kept a b j range pair is_a is_b none since entitled near there from to traced =
    sym (neighbours s kept a b j range pair is_a is_b none from to)
    ∙ rw there (rw (pair_opens s kept a b since entitled near)
    (by_kind (is_scrambled (kind_of (take j s.clear) (packet_at s.clear j))) traced))
  where
    by_kind : (b' : Bool) → (b' ≡ true → is_traced s.plan s.clear kept a b (pid_of (packet_at s.clear j)) ≡ true) →
        (not b' || is_traced s.plan s.clear kept a b (pid_of (packet_at s.clear j))) ≡ true
    by_kind true traced = rw (traced refl) refl
    by_kind false traced = refl

-- positions that are traced
close : (x y : ℕ) → x ≤ y → y ≤ x + 15 → (nat_le x y && nat_le y (x + 15)) ≡ true
close x y below above = grind (arith, nat_tests, below, above)

-- where no packet is lost the tracked positions are the true ones
tracked_true : (clear : List (List ℕ)) (kept : List Item) (pid low high : ℕ) → low ≤ high → high ≤ length clear →
    ((i : ℕ) → low ≤ i → i < high → is_kept kept i ≡ true) → near_at clear kept low pid high ≡ true_at clear pid high
unfolding moved_by chosen
tracked_true clear kept pid low high below within all =
    near_on clear kept low pid low high (omega arith) below within
    ∙ (ap (λ (js : List ℕ). moved_by pid (moved_by pid (true_at clear pid low) (packets_at clear js))
    (chosen (flags_in kept low high) (stretch clear low high))) (nothing_in kept low)
    ∙ (ap (moved_by pid (true_at clear pid low)) (all_of low below all) ∙ sym (true_on clear pid low high below)))
  where
    all_of : (low : ℕ) → low ≤ high → ((i : ℕ) → low ≤ i → i < high → is_kept kept i ≡ true) →
        chosen (flags_in kept low high) (stretch clear low high) ≡ stretch clear low high
    all_of low below all = chosen_true (is_kept kept) low (high - low) (stretch clear low high)
        (λ i from to. all i from (omega (arith, from, to, below)))
        (omega (arith, length-take (high - low) (drop low clear)))

pub all_traced : (s : Setting) (kept : List Item) (a b pid : ℕ) → AreInRange s.plan.site → IsPair s a b →
    ((i : ℕ) → start_of s a ≤ i → i < end_of s b → is_kept kept i ≡ true) →
    is_traced s.plan s.clear kept a b pid ≡ true
unfolding is_traced tracked_position
all_traced s kept a b pid range pair all =
    let bounds = starts_within s a b range pair in
    let same = tracked_true s.clear kept pid (start_of s a) (end_of s b) bounds.0 bounds.1 all in
    close (near_at s.clear kept (start_of s a) pid (end_of s b)) (true_at s.clear pid (end_of s b))
    (omega (arith, same)) (omega (arith, same))

-- a tracked position that is too low: the next packet of the PID sets it right if it rises to at most 16 above it
caught_up : (clear : List (List ℕ)) (pid position n l : ℕ) → position ≤ true_at clear pid l → l + n ≤ length clear →
    ((k : ℕ) → l ≤ k → true_at clear pid k ≡ true_at clear pid l → true_at clear pid (k + 1) ≤ position + 16) →
    (moved_by pid position (take n (drop l clear)) ≡ true_at clear pid (l + n))
    ⊎ ((moved_by pid position (take n (drop l clear)) ≡ position) × (true_at clear pid (l + n) ≡ true_at clear pid l))
unfolding moved_by
caught_up clear pid position zero l low within near =
    inr (refl, ap (true_at clear pid) (omega arith))
caught_up clear pid position (suc n) l low within near =
    by_moving (cases_Bool (is_moving pid packet)) (λ low stays. caught_up clear pid position n (l + 1) low
    (omega (arith, within)) (λ k from same. near k (omega (arith, from)) (same ∙ stays)))
  where
    packet : List ℕ
    packet = packet_at clear l

    next : true_at clear pid (l + 1) ≡ moved pid (true_at clear pid l) packet
    next = next_position pid l clear (omega (arith, within))

    first : moved_by pid position (take (suc n) (drop l clear))
        ≡ moved_by pid (moved pid position packet) (take n (drop (l + 1) clear))
    first = ap (λ (ps : List (List ℕ)). moved_by pid position (take (suc n) ps))
        (drop_more clear l [] (omega (arith, within)))

    ends : l + 1 + n ≡ l + suc n
    ends = omega arith

    by_moving : (is_moving pid packet ≡ true) ⊎ (is_moving pid packet ≡ false) →
        (position ≤ true_at clear pid (l + 1) → true_at clear pid (l + 1) ≡ true_at clear pid l →
        (moved_by pid position (take n (drop (l + 1) clear)) ≡ true_at clear pid (l + 1 + n))
        ⊎ ((moved_by pid position (take n (drop (l + 1) clear)) ≡ position)
        × (true_at clear pid (l + 1 + n) ≡ true_at clear pid (l + 1)))) →
        (moved_by pid position (take (suc n) (drop l clear)) ≡ true_at clear pid (l + suc n))
        ⊎ ((moved_by pid position (take (suc n) (drop l clear)) ≡ position)
        × (true_at clear pid (l + suc n) ≡ true_at clear pid l))
    by_moving (inl moving) rest =
        let far : true_at clear pid (l + 1) ≡ advanced (true_at clear pid l) (counter_of packet) =
        next ∙ rw moving refl in
        let is = advanced_is_next (true_at clear pid l) (counter_of packet) (counter_below packet) in
        let same : true_at clear pid (l + 1) ≡ advanced position (counter_of packet) =
        next_is_advanced position (counter_of packet) (true_at clear pid (l + 1)) (counter_below packet)
        (record {
          above = omega (arith, is.above, low, far);
          near = near l (omega arith) refl;
          counter_is = ap (λ (x : ℕ). x % 16) far ∙ is.counter_is;
        }) in
        let right : moved pid position packet ≡ true_at clear pid (l + 1) = rw moving (sym same) in
        inl (first ∙ (ap (λ (x : ℕ). moved_by pid x (take n (drop (l + 1) clear))) right
        ∙ (ap (λ (m : ℕ). moved_by pid (true_at clear pid (l + 1)) (take m (drop (l + 1) clear))) (omega arith)
        ∙ sym (true_on clear pid (l + 1) (l + suc n) (omega arith)))))
    by_moving (inr still) rest =
        let stays : true_at clear pid (l + 1) ≡ true_at clear pid l = next ∙ rw still refl in
        let same : moved pid position packet ≡ position = rw still refl in
        by_rest stays (first ∙ ap (λ (x : ℕ). moved_by pid x (take n (drop (l + 1) clear))) same)
        (rest (omega (arith, low, stays)) stays)
      where
        by_rest : true_at clear pid (l + 1) ≡ true_at clear pid l →
            moved_by pid position (take (suc n) (drop l clear)) ≡ moved_by pid position (take n (drop (l + 1) clear)) →
            (moved_by pid position (take n (drop (l + 1) clear)) ≡ true_at clear pid (l + 1 + n))
            ⊎ ((moved_by pid position (take n (drop (l + 1) clear)) ≡ position)
            × (true_at clear pid (l + 1 + n) ≡ true_at clear pid (l + 1))) →
            (moved_by pid position (take (suc n) (drop l clear)) ≡ true_at clear pid (l + suc n))
            ⊎ ((moved_by pid position (take (suc n) (drop l clear)) ≡ position)
            × (true_at clear pid (l + suc n) ≡ true_at clear pid l))
        by_rest stays begins (inl right) = inl (begins ∙ (right ∙ ap (true_at clear pid) ends))
        by_rest stays begins (inr (low, same)) =
            inr (begins ∙ low, ap (true_at clear pid) (sym ends) ∙ (same ∙ stays))

-- so a PID is traced where one packet is lost that raises its position by at most 15, and to at most 16 with the next
pub one_lost_traced : (s : Setting) (kept : List Item) (a b pid i : ℕ) → AreInRange s.plan.site → IsPair s a b →
    start_of s a ≤ i → i < end_of s b → is_kept kept i ≡ false →
    ((j : ℕ) → start_of s a ≤ j → j < end_of s b → (j ≡ i → ⊥) → is_kept kept j ≡ true) →
    true_at s.clear pid (i + 1) ≤ true_at s.clear pid i + 15 →
    ((k : ℕ) → i < k → true_at s.clear pid k ≡ true_at s.clear pid (i + 1) →
    true_at s.clear pid (k + 1) ≤ true_at s.clear pid i + 16) → is_traced s.plan s.clear kept a b pid ≡ true
unfolding is_traced tracked_position
one_lost_traced s kept a b pid i range pair from to lost others one two =
    close (near_at s.clear kept low pid high) (true_at s.clear pid high)
    (near_below s.clear kept low pid high bounds.0 bounds.1)
    (by_end (caught_up s.clear pid (true_at s.clear pid i) (high - (i + 1)) (i + 1)
    (omega
    (arith, near_below s.clear kept low pid (i + 1) (omega (arith, from)) (omega (arith, to, bounds)), near_next))
    (omega (arith, to, bounds)) (λ k after same. two k (omega (arith, after)) same)))
  where
    low : ℕ
    low = start_of s a

    high : ℕ
    high = end_of s b

    bounds : (low ≤ high) × (high ≤ length s.clear)
    bounds = starts_within s a b range pair

    near_first : near_at s.clear kept low pid i ≡ true_at s.clear pid i
    near_first = tracked_true s.clear kept pid low i from (omega (arith, to, bounds))
        (λ j above below. others j above (omega (arith, below, to)) (λ same. absurd (omega (arith, same, below))))

    near_next : near_at s.clear kept low pid (i + 1) ≡ true_at s.clear pid i
    near_next = ap (λ (js : List ℕ). moved_by pid (true_at s.clear pid low) (packets_at s.clear js))
        (kept_none kept low i from lost) ∙ near_first

    near_end : near_at s.clear kept low pid high
        ≡ moved_by pid (true_at s.clear pid i) (take (high - (i + 1)) (drop (i + 1) s.clear))
    near_end = near_on s.clear kept low pid (i + 1) high (omega (arith, from)) (omega (arith, to)) bounds.1
        ∙ (ap (λ (x : ℕ). moved_by pid x (chosen (flags_in kept (i + 1) high) (stretch s.clear (i + 1) high))) near_next
        ∙ ap (moved_by pid (true_at s.clear pid i))
        (chosen_true (is_kept kept) (i + 1) (high - (i + 1)) (stretch s.clear (i + 1) high)
        (λ j above below. others j (omega (arith, above, from)) (omega (arith, below, to))
        (λ same. absurd (omega (arith, same, above))))
        (omega (arith, length-take (high - (i + 1)) (drop (i + 1) s.clear)))))

    ends : i + 1 + (high - (i + 1)) ≡ high
    ends = omega (arith, to)

    by_end : (moved_by pid (true_at s.clear pid i) (take (high - (i + 1)) (drop (i + 1) s.clear))
        ≡ true_at s.clear pid (i + 1 + (high - (i + 1))))
        ⊎ ((moved_by pid (true_at s.clear pid i) (take (high - (i + 1)) (drop (i + 1) s.clear)) ≡ true_at s.clear pid i)
        × (true_at s.clear pid (i + 1 + (high - (i + 1))) ≡ true_at s.clear pid (i + 1))) →
        true_at s.clear pid high ≤ near_at s.clear kept low pid high + 15
    by_end (inl right) = omega (arith, near_end ∙ (right ∙ ap (true_at s.clear pid) ends))
    by_end (inr (near, same)) =
        omega (arith, near_end ∙ near, sym (ap (true_at s.clear pid) ends) ∙ same, one)
