-- Which scrambled packets are written between two messages, by the gaps in the positions of those that are kept.
use Rattle.std.proofs.Common.{◌≡◌, refl, ℕ, zero, suc, ◌+◌, ◌-◌, ◌*◌, ◌<◌, ◌≤◌, ◌&&◌, ◌||◌, Bool, true, false, not}
use Rattle.std.proofs.Common.{nat_le}
use Rattle.std.proofs.Common.{List, [], ◌∷◌, map, filter, length, take, drop, if◌then◌else◌}
use Rattle.std.proofs.Common.{arith, sym, ap, ◌∙◌}
use Rattle.std.specs.List.{range_with_len}
use Rattle.std.proofs.lemmas.List.{drop_more}
use Rattle.std.proofs.lemmas.Bool.Decides.{nat_tests}
use Rattle.sd_packet.specs.Header.{pid_of}
use Rattle.sd_packet.specs.Positions.{is_moving, moved_by}
use Rattle.sd_packet.proofs.Positions.{next_position}
use Rattle.sd_site_cards.specs.SiteFields.{AreInRange}
use Rattle.sd_site_cards.specs.CardFields.{card_of}
use Rattle.sd_spec.specs.Plan.{Plan, closing_number}
use Rattle.sd_spec.specs.Kinds.{kind_of, is_scrambled}
use Rattle.sd_spec.specs.Sent.{Item}
use Rattle.sd_law_losses.specs.Chosen.{chosen}
use Rattle.sd_law_losses.specs.Kept.{is_kept, kept_in, has_arrived}
use Rattle.sd_law_losses.specs.Confirmed.{packet_at, packets_at, upto, tracked_position, is_traced, is_open}
use Rattle.sd_law_losses.specs.Confirmed.{is_confirmed_at}
use Rattle.sd_law_losses.specs.Gaps.{kept_positions, are_near, positions_between, has_no_gap}
use Rattle.sd_law_losses.proofs.Gaps.{near_by_gaps}
use Rattle.sd_law_losses.proofs.Tracking.{true_at, near_at, true_on, near_on, near_below, nothing_in, stretch, flags_in}
use Rattle.sd_law_losses.proofs.Setting.{Setting}
use Rattle.sd_law_losses.proofs.Pairs.{start_of, end_of, IsPair, starts_within}
use Rattle.sd_law_losses.proofs.Confirming.{neighbours}
use Rattle.sd_law_losses.proofs.Lawful.{setting}

-- the positions of kept packets, by their numbers
numbered_positions : (clear : List (List ℕ)) (kept : List Item) (pid low n : ℕ) → low + n ≤ length clear →
    kept_positions pid (true_at clear pid low) (map (is_kept kept) (range_with_len low n)) (take n (drop low clear))
    ≡ map (λ j. true_at clear pid (j + 1))
    (filter (λ j. is_moving pid (packet_at clear j)) (filter (is_kept kept) (range_with_len low n)))
unfolding kept_positions
numbered_positions clear kept pid low zero within = refl
numbered_positions clear kept pid low (suc n) within =
    ap (λ (ps : List (List ℕ)). kept_positions pid (true_at clear pid low) (map (is_kept kept) (range_with_len low
    (suc n))) (take (suc n) ps))
    (drop_more clear low [] (omega (arith, within)))
    ∙ (ap (λ (x : ℕ). if is_kept kept low && is_moving pid (packet_at clear low)
    then x ∷ kept_positions pid x (map (is_kept kept) (range_with_len (low + 1) n)) (take n (drop (low + 1) clear))
    else kept_positions pid x (map (is_kept kept) (range_with_len (low + 1) n)) (take n (drop (low + 1) clear)))
    (sym (next_position pid low clear (omega (arith, within))))
    ∙ by_tests (is_kept kept low) (is_moving pid (packet_at clear low)) refl
    (numbered_positions clear kept pid (low + 1) n (omega (arith, within))))
  where
    rest : List ℕ
    rest = kept_positions pid (true_at clear pid (low + 1)) (map (is_kept kept) (range_with_len (low + 1) n)) (take n
        (drop (low + 1) clear))

    js : List ℕ
    js = filter (is_kept kept) (range_with_len (low + 1) n)

    moving : ℕ → Bool
    moving j = is_moving pid (packet_at clear j)

    by_tests : (b c : Bool) → is_moving pid (packet_at clear low) ≡ c →
        rest ≡ map (λ j. true_at clear pid (j + 1)) (filter moving js) →
        (if b && c then true_at clear pid (low + 1) ∷ rest else rest)
        ≡ map (λ j. true_at clear pid (j + 1)) (filter moving (if b then low ∷ js else js))
    by_tests false c is same = same
    by_tests true true is same = rw is (ap (λ (xs : List ℕ). true_at clear pid (low + 1) ∷ xs) same)
    by_tests true false is same = rw is same

-- a PID is traced exactly where its kept packets have no gap
pub traced_by_gaps : (s : Setting) (kept : List Item) (a b pid : ℕ) → AreInRange s.plan.site → IsPair s a b →
    is_traced s.plan s.clear kept a b pid ≡ has_no_gap s.plan s.clear kept a b pid
unfolding is_traced tracked_position has_no_gap positions_between kept_in moved_by
traced_by_gaps s kept a b pid range pair =
    ap (λ (t : Bool). t && nat_le (true_at s.clear pid high) (near_at s.clear kept low pid high + 15)) below
    ∙ sym (ap (λ (ps : List ℕ). are_near (true_at s.clear pid low) ps (true_at s.clear pid high)) (sym numbered)
    ∙ (ap (are_near (true_at s.clear pid low) (kept_positions pid (true_at s.clear pid low) flags packets)) far
    ∙ (near_by_gaps pid (true_at s.clear pid low) (true_at s.clear pid low) flags packets (omega arith)
    ∙ (ap (λ (x : ℕ). nat_le x (moved_by pid (true_at s.clear pid low) (chosen flags packets) + 15)) (sym far)
    ∙ ap (λ (x : ℕ). nat_le (true_at s.clear pid high) (x + 15)) (sym near)))))
  where
    low : ℕ
    low = start_of s a

    high : ℕ
    high = end_of s b

    bounds : (low ≤ high) × (high ≤ length s.clear)
    bounds = starts_within s a b range pair

    flags : List Bool
    flags = flags_in kept low high

    packets : List (List ℕ)
    packets = stretch s.clear low high

    below : nat_le (near_at s.clear kept low pid high) (true_at s.clear pid high) ≡ true
    below = let less = near_below s.clear kept low pid high bounds.0 bounds.1 in grind (arith, nat_tests, less)

    far : true_at s.clear pid high ≡ moved_by pid (true_at s.clear pid low) packets
    far = true_on s.clear pid low high bounds.0

    near : near_at s.clear kept low pid high ≡ moved_by pid (true_at s.clear pid low) (chosen flags packets)
    near = near_on s.clear kept low pid low high (omega arith) bounds.0 bounds.1
        ∙ ap (λ (js : List ℕ). moved_by pid (moved_by pid (true_at s.clear pid low) (packets_at s.clear js))
        (chosen flags packets))
        (nothing_in kept low)

    numbered : kept_positions pid (true_at s.clear pid low) flags packets ≡ map (λ j. true_at s.clear pid (j + 1))
        (filter (λ j. is_moving pid (packet_at s.clear j)) (filter (is_kept kept) (range_with_len low (high - low))))
    numbered = numbered_positions s.clear kept pid low (high - low) (omega (arith, bounds))

-- so which packets are written of an open pair of neighbouring messages
pub confirmed_by_gaps : (plan : Plan) (clear : List (List ℕ)) (u : ℕ) (kept : List Item) (a b j : ℕ) →
    AreInRange plan.site →
    a < b → b ≤ closing_number plan.site (length clear) → has_arrived kept a ≡ true → has_arrived kept b ≡ true →
    ((c : ℕ) → a < c → c < b → has_arrived kept c ≡ false) → is_open plan u clear kept a b ≡ true →
    is_kept kept j ≡ true → a * plan.site.every ≤ j → j < upto plan clear b →
    is_confirmed_at plan u clear kept j ≡ (not (is_scrambled (kind_of (take j clear) (packet_at clear j)))
    || has_no_gap plan clear kept a b (pid_of (packet_at clear j)))
unfolding card_of
confirmed_by_gaps plan clear u kept a b j range below within is_a is_b none opened there from to =
    sym (neighbours (setting plan clear u) kept a b j range (record { below = below; within = within }) is_a is_b none
    from to)
    ∙ rw there (rw opened (ap (λ (t : Bool). not (is_scrambled (kind_of (take j clear) (packet_at clear j))) || t)
    (traced_by_gaps (setting plan clear u) kept a b (pid_of (packet_at clear j)) range
    (record { below = below; within = within }))))
