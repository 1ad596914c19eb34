-- Places by PID.
use Rattle.std.proofs.Common.{ℕ, ◌^◌, ◌<◌, ◌≡◌, ◌==◌, false, List, [], ◌∷◌, ◌++◌, length, get_or, take}
use Rattle.std.proofs.Common.{refl, inl, inr, arith}
use Rattle.std.specs.Prelude.{Some, None, All}
use Rattle.std.specs.List.{list_any}
use Rattle.std.proofs.lemmas.Bool.{cases_Bool, eqb-true, eq-eqb}
use Rattle.std.proofs.lemmas.List.{get_or-take, length-take}
use Rattle.std.proofs.lemmas.List.Elements.{All-head, All-tail, All-from_get_or}
use Rattle.sd_message.specs.EcmForm.{AreShort, ArePidsAscending}
use Rattle.sd_message.specs.declared.ecm_part.Place.{Place}
use Rattle.sd_spec.specs.Confirmed.{position_or_first, position_in}
use Rattle.sd_receive.specs.Tracking.{pids_in}

-- a PID that no place has has no position
pub none_found : (places : List Place) (pid : ℕ) → list_any (λ q. q == pid) (pids_in places) ≡ false →
    position_in places pid ≡ None
unfolding position_in
none_found [] pid h = refl
none_found (p ∷ ps) pid h = elim (cases_Bool (p.pid == pid)) [
  | inl same ↦ absurd (cc (rw same at h))
  | inr other ↦ rw other (none_found ps pid (rw other at h))
]

-- nor has one that is above all
pub none_above : (places : List Place) (pid : ℕ) → All (λ p. p.pid < pid) places → position_in places pid ≡ None
unfolding position_in
none_above [] pid h = refl
none_above (p ∷ ps) pid h = elim (cases_Bool (p.pid == pid)) [
  | inl same ↦ absurd (omega (arith, eqb-true p.pid pid same, All-head (λ (q : Place). q.pid < pid) p ps h))
  | inr other ↦ rw other (none_above ps pid (All-tail (λ (q : Place). q.pid < pid) p ps h))
]

-- so where the PIDs ascend, none before a place has its PID
pub none_before : (places : List Place) (i : ℕ) (d : Place) → i < length places → ArePidsAscending places →
    position_in (take i places) (get_or places i d).pid ≡ None
none_before places i d within up =
    none_above (take i places) (get_or places i d).pid (All-from_get_or (λ (q : Place). q.pid < (get_or places i d).pid)
    (take i places) d (λ k small.
    let less : k < i = omega (arith, small, length-take i places) in
    rw (get_or-take i places k d less) (up k i d less within)))

-- a place more gives its PID a position, where it had none
pub same_found : (places : List Place) (place : Place) → position_in places place.pid ≡ None →
    position_in (places ++ place ∷ []) place.pid ≡ Some place.position
unfolding position_in
same_found [] place h = rw (eq-eqb place.pid place.pid refl) refl
same_found (p ∷ ps) place h = elim (cases_Bool (p.pid == place.pid)) [
  | inl same ↦ absurd (cc (rw same at h))
  | inr other ↦ rw other (same_found ps place (rw other at h))
]

-- and no other PID another
pub other_found : (places : List Place) (place : Place) (pid : ℕ) → (place.pid == pid) ≡ false →
    position_in (places ++ place ∷ []) pid ≡ position_in places pid
unfolding position_in
other_found [] place pid h = rw h refl
other_found (p ∷ ps) place pid h = elim (cases_Bool (p.pid == pid)) [
  | inl same ↦ rw same refl
  | inr other ↦ rw other (other_found ps place pid h)
]

-- where positions have 48 bits, that at which a PID starts has
pub start_short : (places : List Place) (pid : ℕ) → AreShort places → position_or_first places pid < 2 ^ 48
unfolding position_in
start_short [] pid h = omega arith
start_short (p ∷ ps) pid h = elim (cases_Bool (p.pid == pid)) [
  | inl same ↦ rw same (All-head (λ (q : Place). q.position < 2 ^ 48) p ps h)
  | inr other ↦ rw other (start_short ps pid (All-tail (λ (q : Place). q.position < 2 ^ 48) p ps h))
]

-- and that which a PID has
pub found_short : (places : List Place) (pid position : ℕ) → AreShort places → position_in places pid ≡ Some position →
    position < 2 ^ 48
unfolding position_in
found_short [] pid position h is = absurd (cc is)
found_short (p ∷ ps) pid position h is = elim (cases_Bool (p.pid == pid)) [
  | inl same ↦
      let e : p.position ≡ position = cc (rw same at is) in
      omega (arith, e, All-head (λ (q : Place). q.position < 2 ^ 48) p ps h)
  | inr other ↦ found_short ps pid position (All-tail (λ (q : Place). q.position < 2 ^ 48) p ps h) (rw other at is)
]
