-- A tracked position is near the true one exactly where the kept packets have no wide gaps.
use Rattle.std.proofs.Common.{◌≡◌, refl, ℕ, ◌+◌, ◌<◌, ◌≤◌, ◌&&◌, Bool, true, false, nat_le, List, [], ◌∷◌, ◌⊎◌}
use Rattle.std.proofs.Common.{arith, sym, ap, ◌∙◌, inl, inr}
use Rattle.std.specs.Prelude.{if◌then◌else◌}
use Rattle.std.proofs.lemmas.Bool.{cases_lt}
use Rattle.std.proofs.lemmas.Bool.Decides.{nat_tests}
use Rattle.sd_packet.specs.Header.{counter_of}
use Rattle.sd_packet.specs.Positions.{advanced, is_moving, moved, moved_by}
use Rattle.sd_packet.proofs.Positions.{counter_below, moved_near}
use Rattle.sd_law_losses.specs.Chosen.{chosen}
use Rattle.sd_law_losses.specs.Gaps.{kept_positions, are_near}
use Rattle.sd_law_losses.proofs.Residual.{shortfall_stays}

-- a step of at most 16 leads to the same position from a lower start
same_step : (near far c : ℕ) → c < 16 → near ≤ far → advanced far c ≤ near + 16 → advanced near c ≡ advanced far c
unfolding advanced
same_step near far c small below close = omega (arith, small, below, close)

-- a longer one leaves the lower start short by 16 at least
short_step : (near far c : ℕ) → c < 16 → near ≤ far → near + 16 < advanced far c →
    advanced near c + 16 ≤ advanced far c
unfolding advanced
short_step near far c small below wide = omega (arith, small, below, wide)

-- after a wide gap the end isn't near
far_end : (near far pid c : ℕ) (fs : List Bool) (ps : List (List ℕ)) → c < 16 → near ≤ far →
    near + 16 < advanced far c →
    nat_le (moved_by pid (advanced far c) ps) (moved_by pid (advanced near c) (chosen fs ps) + 15) ≡ false
far_end near far pid c fs ps small below wide =
    let stays = shortfall_stays pid (advanced near c) (advanced far c) 16 fs ps refl
    (short_step near far c small below wide) in
    grind (arith, nat_tests, stays)

-- what is to be shown after some packets
abbrev NearByGaps : ℕ → ℕ → ℕ → List Bool → List (List ℕ) → Type 0
NearByGaps pid near far fs ps =
    are_near near (kept_positions pid far fs ps) (moved_by pid far ps)
    ≡ nat_le (moved_by pid far ps) (moved_by pid near (chosen fs ps) + 15)

-- a kept packet that moves the PID
gap_moves : (pid near far c : ℕ) (fs : List Bool) (ps : List (List ℕ)) → c < 16 → near ≤ far →
    NearByGaps pid (advanced far c) (advanced far c) fs ps →
    (nat_le (advanced far c) (near + 16)
    && are_near (advanced far c) (kept_positions pid (advanced far c) fs ps) (moved_by pid (advanced far c) ps))
    ≡ nat_le (moved_by pid (advanced far c) ps) (moved_by pid (advanced near c) (chosen fs ps) + 15)
gap_moves pid near far c fs ps small below more = by_step (cases_lt (near + 16) (advanced far c))
  where
    by_step : (near + 16 < advanced far c) ⊎ (advanced far c ≤ near + 16) →
        (nat_le (advanced far c) (near + 16)
        && are_near (advanced far c) (kept_positions pid (advanced far c) fs ps) (moved_by pid (advanced far c) ps))
        ≡ nat_le (moved_by pid (advanced far c) ps) (moved_by pid (advanced near c) (chosen fs ps) + 15)
    by_step (inl wide) =
        let no : nat_le (advanced far c) (near + 16) ≡ false = grind (arith, nat_tests, wide) in
        rw no (sym (far_end near far pid c fs ps small below wide))
    by_step (inr close) =
        let holds : nat_le (advanced far c) (near + 16) ≡ true = grind (arith, nat_tests, close) in
        rw holds (more ∙ ap (λ (x : ℕ). nat_le (moved_by pid (advanced far c) ps) (moved_by pid x (chosen fs ps) + 15))
        (sym (same_step near far c small below close)))

-- any kept packet
gap_kept : (b : Bool) (pid near far c : ℕ) (fs : List Bool) (ps : List (List ℕ)) → c < 16 → near ≤ far →
    NearByGaps pid (advanced far c) (advanced far c) fs ps → NearByGaps pid near far fs ps →
    are_near near
    (if b then (if b then advanced far c else far) ∷ kept_positions pid (if b then advanced far c else far) fs ps
    else kept_positions pid (if b then advanced far c else far) fs ps)
    (moved_by pid (if b then advanced far c else far) ps)
    ≡ nat_le (moved_by pid (if b then advanced far c else far) ps)
    (moved_by pid (if b then advanced near c else near) (chosen fs ps) + 15)
unfolding are_near
gap_kept true pid near far c fs ps small below more rest = gap_moves pid near far c fs ps small below more
gap_kept false pid near far c fs ps small below more rest = rest

-- the tracked position is near the end exactly where the kept positions have no wide gap
pub near_by_gaps : (pid near far : ℕ) (fs : List Bool) (ps : List (List ℕ)) → near ≤ far → NearByGaps pid near far fs ps
unfolding are_near kept_positions moved_by chosen
near_by_gaps pid near far [] ps below = refl
near_by_gaps pid near far (f ∷ fs) [] below = refl
near_by_gaps pid near far (false ∷ fs) (p ∷ ps) below =
    near_by_gaps pid near (moved pid far p) fs ps (omega (arith, below, moved_near pid far p))
near_by_gaps pid near far (true ∷ fs) (p ∷ ps) below =
    gap_kept (is_moving pid p) pid near far (counter_of p) fs ps (counter_below p) below
    (near_by_gaps pid (advanced far (counter_of p)) (advanced far (counter_of p)) fs ps (omega arith))
    (near_by_gaps pid near far fs ps below)
