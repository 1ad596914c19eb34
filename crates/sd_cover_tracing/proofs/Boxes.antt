-- What a box of some leaves opens, set by set.
use Rattle.std.proofs.Common.{◌≡◌, ℕ, zero, suc, ◌+◌, ◌<◌, Bool, true, false, ◌&&◌, ◌||◌, List, [], ◌∷◌, length, get_or}
use Rattle.std.proofs.Common.{drop, refl, arith}
use Rattle.sd_tree_keys.specs.declared.set.SetName.{SetName}
use Rattle.sd_cover_tracing.specs.Halves.{has_some}
use Rattle.sd_cover_tracing.specs.Search.{opens_some}

-- from a place on
pub opens_from : (d : ℕ) (coalition : List ℕ) (sets : List SetName) (right : List Bool) (at : ℕ) (name : SetName)
    (b : Bool) →
    length sets ≡ length right → at < length sets →
    opens_some d coalition (drop at sets) (drop at right) ≡
    ((get_or right at b && has_some d coalition (get_or sets at name)) || opens_some d coalition (drop (at + 1) sets)
    (drop (at + 1) right))
unfolding opens_some
opens_from d coalition [] right at name b long within = absurd (omega (arith, within))
opens_from d coalition (s ∷ sets) [] at name b long within = absurd (omega (arith, long))
opens_from d coalition (s ∷ sets) (r ∷ right) zero name b long within = refl
opens_from d coalition (s ∷ sets) (r ∷ right) (suc at) name b long within =
    let next : suc at + 1 ≡ suc (at + 1) = omega arith in
    rw next (opens_from d coalition sets right at name b (omega (arith, long)) (omega (arith, within)))

-- a set that has a right key and a leaf opens
pub opens_here : (d : ℕ) (coalition : List ℕ) (sets : List SetName) (right : List Bool) (at : ℕ) (name : SetName)
    (b : Bool) →
    length sets ≡ length right → at < length sets → get_or right at b ≡ true →
    has_some d coalition (get_or sets at name) ≡ true → true ≡ opens_some d coalition (drop at sets) (drop at right)
opens_here d coalition sets right at name b long within key has =
    rw (opens_from d coalition sets right at name b long within, key, has) refl

-- any other is passed
pub shut_key : (d : ℕ) (coalition : List ℕ) (sets : List SetName) (right : List Bool) (at : ℕ) (name : SetName)
    (b : Bool) →
    length sets ≡ length right → at < length sets → get_or right at b ≡ false →
    opens_some d coalition (drop (at + 1) sets) (drop (at + 1) right) ≡ opens_some d coalition (drop at sets)
    (drop at right)
shut_key d coalition sets right at name b long within key =
    rw (opens_from d coalition sets right at name b long within, key) refl

pub shut_set : (d : ℕ) (coalition : List ℕ) (sets : List SetName) (right : List Bool) (at : ℕ) (name : SetName)
    (b : Bool) →
    length sets ≡ length right → at < length sets → has_some d coalition (get_or sets at name) ≡ false →
    opens_some d coalition (drop (at + 1) sets) (drop (at + 1) right) ≡ opens_some d coalition (drop at sets)
    (drop at right)
shut_set d coalition sets right at name b long within none =
    rw (opens_from d coalition sets right at name b long within, none) (either (get_or right at b) _)
  where
    either : (a c : Bool) → c ≡ ((a && false) || c)
    either true c = refl
    either false c = refl
