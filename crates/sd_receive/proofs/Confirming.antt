-- The PIDs that are confirmed, place by place.
use Rattle.std.proofs.Common.{ℕ, ◌+◌, ◌-◌, ◌<◌, ◌≤◌, ◌≡◌, ◌≢◌, ◌==◌, true, false, List, [], ◌∷◌, length, get_or}
use Rattle.std.proofs.Common.{drop, refl, sym, subst, ◌∙◌, inl, inr, arith}
use Rattle.std.specs.Prelude.{Some, nat_le}
use Rattle.std.proofs.lemmas.Bool.{cases_Bool, cases_lt, le-leb, lt-leb, eqb-true, eqb-false}
use Rattle.std.proofs.lemmas.List.{drop_more}
use Rattle.sd_message.specs.declared.ecm_part.Place.{Place}
use Rattle.sd_spec.specs.Confirmed.{position_in}
use Rattle.sd_receive.specs.PidSet.{has_pid}
use Rattle.sd_spec.specs.Confirmed.{is_near_to}
use Rattle.sd_receive.specs.Writing.{AreNearPids}
use Rattle.sd_receive.specs.declared.buffer.pid_set.PidSet.{PidSet}

-- a position that isn't below is near by its distance
pub near_by : (t p : ℕ) → t ≤ p → nat_le (p - t) 15 ≡ is_near_to t p
near_by t p low = elim (cases_lt (t + 15) p) [
  | inl far ↦ rw (lt-leb (p - t) 15 (omega (arith, low, far))) (rw (le-leb t p low) (rw (lt-leb p (t + 15) far) refl))
  | inr close ↦ rw (le-leb (p - t) 15 (omega (arith, low, close)))
      (rw (le-leb t p low) (rw (le-leb p (t + 15) close) refl))
]

-- and one below isn't
pub below : (t p : ℕ) → p < t → false ≡ is_near_to t p
below t p low = rw (lt-leb t p low) refl

-- without places no PID is near
pub none_near : (tracked : List ℕ) (pids : PidSet) → ((pid : ℕ) → pid < 8192 → has_pid pids pid ≡ false) →
    AreNearPids tracked [] pids
unfolding position_in
none_near tracked pids none = record { at = λ pid small. none pid small }

-- the first place of a PID counts
found_first : (place : Place) (places : List Place) (pid : ℕ) → (place.pid == pid) ≡ true →
    position_in (place ∷ places) pid ≡ Some place.position
unfolding position_in
found_first place places pid same = rw same refl

found_later : (place : Place) (places : List Place) (pid : ℕ) → (place.pid == pid) ≡ false →
    position_in (place ∷ places) pid ≡ position_in places pid
unfolding position_in
found_later place places pid other = rw other refl

-- a place before others
near_more : (tracked : List ℕ) (place : Place) (places : List Place) (old new : PidSet) →
    has_pid new place.pid ≡ is_near_to (get_or tracked place.pid 0) place.position →
    ((other : ℕ) → other < 8192 → other ≢ place.pid → has_pid new other ≡ has_pid old other) →
    AreNearPids tracked places old → AreNearPids tracked (place ∷ places) new
near_more tracked place places old new own others before = record {
  at = λ pid small. elim (cases_Bool (place.pid == pid)) [
    | inl same ↦ rw (found_first place places pid same) (subst (λ (q : ℕ). has_pid new q
        ≡ is_near_to (get_or tracked q 0) place.position) (eqb-true place.pid pid same) own)
    | inr other ↦ rw (found_later place places pid other)
        (others pid small (λ e. eqb-false place.pid pid other (sym e)) ∙ before.at pid small)
  ];
}

-- one whose PID is none changes nothing
near_still : (tracked : List ℕ) (place : Place) (places : List Place) (pids : PidSet) → 8192 ≤ place.pid →
    AreNearPids tracked places pids → AreNearPids tracked (place ∷ places) pids
near_still tracked place places pids far before = record {
  at = λ pid small. elim (cases_Bool (place.pid == pid)) [
    | inl same ↦ absurd (omega (arith, eqb-true place.pid pid same, small, far))
    | inr other ↦ rw (found_later place places pid other) (before.at pid small)
  ];
}

-- the place before the last ones
pub one_nearer : (tracked : List ℕ) (places : List Place) (i : ℕ) (d : Place) (old new : PidSet) → 0 < i →
    i ≤ length places → has_pid new (get_or places (i - 1) d).pid
    ≡ is_near_to (get_or tracked (get_or places (i - 1) d).pid 0) (get_or places (i - 1) d).position →
    ((other : ℕ) → other < 8192 → other ≢ (get_or places (i - 1) d).pid → has_pid new other ≡ has_pid old other) →
    AreNearPids tracked (drop i places) old → AreNearPids tracked (drop (i - 1) places) new
one_nearer tracked places i d old new some within own others before =
    let next : i ≡ i - 1 + 1 = omega (arith, some) in
    rw (drop_more places (i - 1) d (omega (arith, some, within)))
    (near_more tracked (get_or places (i - 1) d) (drop (i - 1 + 1) places) old new own others
    (subst (λ (j : ℕ). AreNearPids tracked (drop j places) old) next before))

pub none_nearer : (tracked : List ℕ) (places : List Place) (i : ℕ) (d : Place) (pids : PidSet) → 0 < i →
    i ≤ length places → 8192 ≤ (get_or places (i - 1) d).pid → AreNearPids tracked (drop i places) pids →
    AreNearPids tracked (drop (i - 1) places) pids
none_nearer tracked places i d pids some within far before =
    let next : i ≡ i - 1 + 1 = omega (arith, some) in
    rw (drop_more places (i - 1) d (omega (arith, some, within)))
    (near_still tracked (get_or places (i - 1) d) (drop (i - 1 + 1) places) pids far
    (subst (λ (j : ℕ). AreNearPids tracked (drop j places) pids) next before))
