-- The true and the tracked positions of a PID among clear packets of which some are kept.
use Rattle.std.proofs.Common.{◌≡◌, refl, ℕ, ◌+◌, ◌-◌, ◌<◌, ◌≤◌, Bool, true, false, List, [], ◌∷◌, ◌++◌}
use Rattle.std.proofs.Common.{map, filter, length, take, drop, arith, sym, ap, ◌∙◌, append-nil}
use Rattle.std.specs.Prelude.{if◌then◌else◌}
use Rattle.std.specs.List.{range_with_len}
use Rattle.std.proofs.lemmas.List.{map-append}
use Rattle.std.proofs.lemmas.List.Elements.{filter-append}
use Rattle.std.proofs.Math.Seq.{take-add}
use Rattle.sd_base.proofs.Ranges.{range_parts}
use Rattle.sd_packet.specs.Positions.{is_moving, moved, moved_by, position_of}
use Rattle.sd_packet.proofs.Positions.{more_packets, next_position, one_more}
use Rattle.sd_spec.specs.Sent.{Item}
use Rattle.sd_law_losses.specs.Chosen.{chosen}
use Rattle.sd_law_losses.specs.Kept.{is_kept, kept_in}
use Rattle.sd_law_losses.specs.Confirmed.{packet_at, packets_at}
use Rattle.sd_law_losses.proofs.Residual.{shortfall_stays, near_shows_exact}
use Rattle.sd_law_losses.proofs.Traced.{chosen_numbers}

-- the numbers kept up to j and those from j on
pub kept_parts : (kept : List Item) (low j high : ℕ) → low ≤ j → j ≤ high →
    kept_in kept low high ≡ kept_in kept low j ++ kept_in kept j high
unfolding kept_in
kept_parts kept low j high below within =
    let all : high - low ≡ (j - low) + (high - j) = omega (arith, below, within) in
    let from : low + (j - low) ≡ j = omega (arith, below) in
    ap (λ (n : ℕ). filter (is_kept kept) (range_with_len low n)) all
    ∙ (ap (filter (is_kept kept)) (range_parts low (j - low) (high - j))
    ∙ (filter-append (is_kept kept) (range_with_len low (j - low)) (range_with_len (low + (j - low)) (high - j))
    ∙ ap (λ (n : ℕ). filter (is_kept kept) (range_with_len low (j - low)) ++ filter (is_kept kept) (range_with_len n
    (high - j))) from))

-- one number alone
kept_one : (kept : List Item) (j : ℕ) → kept_in kept j (j + 1) ≡ (if is_kept kept j then j ∷ [] else [])
unfolding kept_in
kept_one kept j = let one : j + 1 - j ≡ 1 = omega arith in rw one refl

-- one more
pub kept_more : (kept : List Item) (low j : ℕ) → low ≤ j → is_kept kept j ≡ true →
    kept_in kept low (j + 1) ≡ kept_in kept low j ++ j ∷ []
kept_more kept low j below is = kept_parts kept low j (j + 1) below (omega arith)
    ∙ ap (λ (js : List ℕ). kept_in kept low j ++ js) (kept_one kept j ∙ rw is refl)

pub kept_none : (kept : List Item) (low j : ℕ) → low ≤ j → is_kept kept j ≡ false →
    kept_in kept low (j + 1) ≡ kept_in kept low j
kept_none kept low j below is = kept_parts kept low j (j + 1) below (omega arith)
    ∙ (ap (λ (js : List ℕ). kept_in kept low j ++ js) (kept_one kept j ∙ rw is refl) ∙ append-nil (kept_in kept low j))

-- the position after the first j clear packets
abbrev pub true_at : List (List ℕ) → ℕ → ℕ → ℕ
true_at clear pid j = position_of pid (take j clear)

-- and the tracked one, from number low on
abbrev pub near_at : List (List ℕ) → List Item → ℕ → ℕ → ℕ → ℕ
near_at clear kept low pid j = moved_by pid (true_at clear pid low) (packets_at clear (kept_in kept low j))

-- the packets from j on, below high
abbrev pub stretch : List (List ℕ) → ℕ → ℕ → List (List ℕ)
stretch clear j high = take (high - j) (drop j clear)

abbrev pub flags_in : List Item → ℕ → ℕ → List Bool
flags_in kept j high = map (is_kept kept) (range_with_len j (high - j))

pub true_on : (clear : List (List ℕ)) (pid j high : ℕ) → j ≤ high →
    true_at clear pid high ≡ moved_by pid (true_at clear pid j) (stretch clear j high)
true_on clear pid j high within =
    let all : high ≡ j + (high - j) = omega (arith, within) in
    ap (λ (n : ℕ). position_of pid (take n clear)) all
    ∙ (ap (position_of pid) (take-add j (high - j) clear)
    ∙ more_packets pid 15 (take j clear) (stretch clear j high))

pub kept_are_chosen : (clear : List (List ℕ)) (kept : List Item) (j high : ℕ) → j ≤ high → high ≤ length clear →
    packets_at clear (kept_in kept j high) ≡ chosen (flags_in kept j high) (stretch clear j high)
unfolding kept_in
kept_are_chosen clear kept j high below within =
    chosen_numbers (is_kept kept) clear j (high - j) (omega (arith, below, within))

pub near_on : (clear : List (List ℕ)) (kept : List Item) (low pid j high : ℕ) → low ≤ j → j ≤ high →
    high ≤ length clear → near_at clear kept low pid high
    ≡ moved_by pid (near_at clear kept low pid j) (chosen (flags_in kept j high) (stretch clear j high))
near_on clear kept low pid j high from below within =
    ap (λ (js : List ℕ). moved_by pid (true_at clear pid low) (packets_at clear js))
    (kept_parts kept low j high from below)
    ∙ (ap (moved_by pid (true_at clear pid low)) (map-append (packet_at clear) (kept_in kept low j)
    (kept_in kept j high))
    ∙ (more_packets pid (true_at clear pid low) (packets_at clear (kept_in kept low j)) (packets_at clear
    (kept_in kept j high))
    ∙ ap (moved_by pid (near_at clear kept low pid j)) (kept_are_chosen clear kept j high below within)))

pub nothing_in : (kept : List Item) (low : ℕ) → kept_in kept low low ≡ []
unfolding kept_in
nothing_in kept low = let none : low - low ≡ 0 = omega arith in rw none refl

-- tracked positions are never above the true ones
pub near_below : (clear : List (List ℕ)) (kept : List Item) (low pid j : ℕ) → low ≤ j → j ≤ length clear →
    near_at clear kept low pid j ≤ true_at clear pid j
unfolding moved_by
near_below clear kept low pid j from within =
    let near : near_at clear kept low pid low ≡ true_at clear pid low =
    ap (λ (js : List ℕ). moved_by pid (true_at clear pid low) (packets_at clear js)) (nothing_in kept low) in
    let there = near_on clear kept low pid low j (omega arith) from within in
    let far = true_on clear pid low j from in
    let less = shortfall_stays pid (true_at clear pid low) (true_at clear pid low) 0 (flags_in kept low j)
    (stretch clear low j)
    refl (omega arith) in
    omega (
      arith,
      there ∙ ap (λ (x : ℕ). moved_by pid x (chosen (flags_in kept low j)
          (stretch clear low j))) near,
      far,
      less,
    )

-- after a kept packet
pub near_next : (clear : List (List ℕ)) (kept : List Item) (low pid j : ℕ) → low ≤ j → is_kept kept j ≡ true →
    near_at clear kept low pid (j + 1) ≡ moved pid (near_at clear kept low pid j) (packet_at clear j)
near_next clear kept low pid j from is =
    ap (λ (js : List ℕ). moved_by pid (true_at clear pid low) (packets_at clear js)) (kept_more kept low j from is)
    ∙ (ap (moved_by pid (true_at clear pid low)) (map-append (packet_at clear) (kept_in kept low j) (j ∷ []))
    ∙ one_more pid (true_at clear pid low) (packets_at clear (kept_in kept low j)) (packet_at clear j))

-- where the end is near the tracked position, each kept packet of the PID was tracked exactly
pub near_exact : (clear : List (List ℕ)) (kept : List Item) (low pid j high : ℕ) → low ≤ j → j < high →
    high ≤ length clear → is_kept kept j ≡ true → is_moving pid (packet_at clear j) ≡ true →
    true_at clear pid high ≤ near_at clear kept low pid high + 15 →
    near_at clear kept low pid (j + 1) ≡ true_at clear pid (j + 1)
near_exact clear kept low pid j high from below within is moves close =
    let near = near_next clear kept low pid j from is in
    let far = next_position pid j clear (omega (arith, below, within)) in
    let near_end = near_on clear kept low pid (j + 1) high (omega (arith, from)) (omega (arith, below)) within in
    let far_end = true_on clear pid (j + 1) high (omega (arith, below)) in
    let exact = near_shows_exact pid (near_at clear kept low pid j) (true_at clear pid j) (packet_at clear j)
    (flags_in kept (j + 1) high) (stretch clear (j + 1) high) moves
    (near_below clear kept low pid j from (omega (arith, below, within)))
    (omega (
      arith,
      close,
      near_end ∙ ap (λ (x : ℕ). moved_by pid x (chosen (flags_in kept (j + 1) high) (stretch clear (j + 1) high))) near,
      far_end ∙ ap (λ (x : ℕ). moved_by pid x (stretch clear (j + 1) high)) far,
    )) in
    near ∙ (exact ∙ sym far)
