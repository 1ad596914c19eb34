-- Tracked positions fall short of the true ones by a multiple of 16 once a packet is kept, and the shortfall stays.
use Rattle.std.proofs.Common.{◌≡◌, refl, ℕ, ◌+◌, ◌-◌, ◌%◌, ◌<◌, ◌≤◌, Bool, true, false, List, [], ◌∷◌, arith}
use Rattle.std.specs.Prelude.{if◌then◌else◌}
use Rattle.sd_packet.specs.Header.{counter_of}
use Rattle.sd_packet.specs.Positions.{advanced, is_moving, moved, moved_by}
use Rattle.sd_packet.proofs.Positions.{counter_below, moved_near, moved_by_near}
use Rattle.sd_law_losses.specs.Chosen.{chosen}

-- both come to numbers that are the counter mod 16
pub kept_meets : (near far c : ℕ) → c < 16 → near ≤ far → (advanced near c ≤ advanced far c) ×
    ((advanced far c - advanced near c) % 16 ≡ 0)
unfolding advanced
kept_meets near far c small below = (omega (arith, small, below), omega (arith, small, below))

-- a shortfall of a multiple of 16 is there after a packet that is kept too
pub shortfall_kept : (near far s c : ℕ) → c < 16 → s % 16 ≡ 0 → near + s ≤ far → advanced near c + s ≤ advanced far c
unfolding advanced
shortfall_kept near far s c small even short = omega (arith, small, even, short)

kept_by : (b : Bool) (near far s c : ℕ) → c < 16 → s % 16 ≡ 0 → near + s ≤ far →
    (if b then advanced near c else near) + s ≤ (if b then advanced far c else far)
kept_by true near far s c small even short = shortfall_kept near far s c small even short
kept_by false near far s c small even short = short

-- and after any packets of which some are lost
pub shortfall_stays : (pid near far s : ℕ) (fs : List Bool) (ps : List (List ℕ)) → s % 16 ≡ 0 → near + s ≤ far →
    moved_by pid near (chosen fs ps) + s ≤ moved_by pid far ps
unfolding moved_by chosen
shortfall_stays pid near far s [] ps even short = omega (arith, short, moved_by_near pid far ps)
shortfall_stays pid near far s (f ∷ fs) [] even short = short
shortfall_stays pid near far s (true ∷ fs) (p ∷ ps) even short =
    shortfall_stays pid (moved pid near p) (moved pid far p) s fs ps even (kept_by (is_moving pid p) near far s
    (counter_of p) (counter_below p) even short)
shortfall_stays pid near far s (false ∷ fs) (p ∷ ps) even short =
    shortfall_stays pid near (moved pid far p) s fs ps even (omega (arith, short, moved_near pid far p))

exact_at : (near far s end last : ℕ) → near ≤ far → s ≡ far - near → s % 16 ≡ 0 → last + s ≤ end → end ≤ last + 15 →
    near ≡ far
exact_at near far s end last below is even stays close = omega (arith, below, is, even, stays, close)

-- where the position after the last packets is at most 15 above the tracked one, the packet before them was tracked
-- exactly
pub near_shows_exact : (pid near far : ℕ) (p : List ℕ) (fs : List Bool) (ps : List (List ℕ)) →
    is_moving pid p ≡ true → near ≤ far
    → moved_by pid (moved pid far p) ps ≤ moved_by pid (moved pid near p) (chosen fs ps) + 15 →
    moved pid near p ≡ moved pid far p
near_shows_exact pid near far p fs ps moves below close =
    let c = counter_of p in
    let meets = kept_meets near far c (counter_below p) below in
    let n : moved pid near p ≡ advanced near c = rw moves refl in
    let t : moved pid far p ≡ advanced far c = rw moves refl in
    let s = advanced far c - advanced near c in
    let stays : moved_by pid (moved pid near p) (chosen fs ps) + s ≤ moved_by pid (moved pid far p) ps =
    shortfall_stays pid (moved pid near p) (moved pid far p) s fs ps meets.1 (omega (arith, n, t, meets.0)) in
    exact_at (moved pid near p) (moved pid far p) s (moved_by pid (moved pid far p) ps) (moved_by pid
    (moved pid near p) (chosen fs ps))
    (omega (arith, n, t, meets.0)) (omega (arith, n, t, meets.0)) meets.1 stays close
