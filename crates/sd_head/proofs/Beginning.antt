-- Before the first packet.
use Rattle.std.proofs.Common.{◌≡◌, ℕ, zero, suc, ◌+◌, ◌*◌, ◌<◌, ◌≤◌, Bool, false, List, [], get_or}
use Rattle.std.proofs.Common.{filter, replicate}
use Rattle.std.proofs.Common.{refl, sym, ap, subst, ◌∙◌, arith}
use Rattle.std.specs.List.{range_with_len}
use Rattle.std.proofs.lemmas.List.{get_or-replicate}
use Rattle.sd_packet.specs.Positions.{moved_by}
use Rattle.sd_packet.proofs.Positions.{positional_small}
use Rattle.sd_spec.specs.Kinds.{pmts_in, pat_in_force, has_moved, moved_pids, positional_pids}
use Rattle.sd_head.specs.Known.{ArePids, AreReachablePositions, AreMarkedPids}
use Rattle.sd_head.specs.After.{ArePositions}

pub none_known : (pids : List ℕ) → pids ≡ [] → ArePids pids
none_known pids none = record { at = λ i. small pids i none }
  where
    small : (pids : List ℕ) (i : ℕ) → pids ≡ [] → get_or pids i 0 < 8192
    small pids i none = let is : get_or pids i 0 ≡ 0 = ap (λ (l : List ℕ). get_or l i 0) none in omega (arith, is)

pub first_near : (positions : List ℕ) → positions ≡ replicate 8192 15 → AreReachablePositions 0 positions
first_near positions is = record {
  at = λ pid. subst (λ (l : List ℕ). get_or l pid 0 ≤ 15 + 16 * 0) (sym is)
      (repeated 8192 pid);
}
  where
    repeated : (n pid : ℕ) → get_or (replicate n 15) pid 0 ≤ 15 + 16 * 0
    repeated zero pid = omega arith
    repeated (suc n) zero = omega arith
    repeated (suc n) (suc pid) = repeated n pid

pub first_positions : (positions : List ℕ) → positions ≡ replicate 8192 15 → ArePositions [] positions
unfolding moved_by
first_positions positions is = record {
  at = λ pid positional. ap (λ (l : List ℕ). get_or l pid 0) is
      ∙ get_or-replicate 8192 pid 15 0 (positional_small pid positional);
}

none_pass : (f : ℕ → Bool) (a n : ℕ) → ((m : ℕ) → f m ≡ false) → filter f (range_with_len a n) ≡ []
none_pass f a zero none = refl
none_pass f a (suc n) none = rw (none a) (none_pass f (a + 1) n none)

pub first_pids : (pids : List ℕ) → pids ≡ [] → pids ≡ moved_pids []
unfolding moved_pids positional_pids
first_pids pids none = none ∙ sym (none_pass (has_moved []) 0x0020 0x1FD0 (λ m. refl))

pub first_marks : (marks : List Bool) → marks ≡ replicate 8192 false → AreMarkedPids (pmts_in []) marks
unfolding pmts_in pat_in_force
first_marks marks is = record {
  at = λ pid small. ap (λ (l : List Bool). get_or l pid false) is ∙ get_or-replicate 8192 pid false false small;
}
