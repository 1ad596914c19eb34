-- The search in a box that tells its coalition.
use Rattle.std.proofs.Common.{ℕ, suc, zero, ◌+◌, ◌-◌, ◌/◌, ◌<◌, ◌≤◌, ◌≡◌, Bool, true, false, ◌||◌, ◌&&◌, List, [], ◌∷◌}
use Rattle.std.proofs.Common.{length, take, drop, refl, sym, ap, ◌∙◌, ⊎_elim, arith}
use Rattle.std.specs.Prelude.{nat_le, get_or, if◌then◌else◌}
use Rattle.std.proofs.lemmas.Bool.{le-leb, lt-leb, leb-true, leb-false, cases_lt}
use Rattle.std.proofs.lemmas.Bool.Decides.{nat_tests}
use Rattle.sd_tree_keys.specs.declared.set.SetName.{SetName}
use Rattle.sd_tree_keys.specs.declared.set.SetName.TheVariants.{Whole}
use Rattle.sd_cover_tracing.specs.Halves.{has_some}
use Rattle.sd_cover_tracing.proofs.Searches.{right_cut}
use Rattle.sd_cover_tracing.specs.Search.{IsLastOpen, opens_some, halvings, right_from}

-- where no set opens, no probe does
all_shut : (d : ℕ) (coalition : List ℕ) (sets : List SetName) (right : List Bool) →
    ((k : ℕ) → k < length sets → has_some d coalition (get_or sets k Whole) ≡ false) → opens_some d coalition sets right
    ≡ false
unfolding opens_some
all_shut d coalition [] right shut = refl
all_shut d coalition (name ∷ sets) [] shut = refl
all_shut d coalition (name ∷ sets) (is ∷ right) shut =
    let first = shut 0 (omega arith) in
    let rest = all_shut d coalition sets right (λ k h. shut (suc k) (omega arith)) in
    rw (first, rest) (no is)
  where
    no : (b : Bool) → ((b && false) || false) ≡ false
    no true = refl
    no false = refl

-- the last open set of a list that goes on after one
later : (d : ℕ) (coalition : List ℕ) (name : SetName) (sets : List SetName) (z : ℕ) → IsLastOpen d coalition
    (name ∷ sets) (suc z) → IsLastOpen d coalition sets z
later d coalition name sets z open_at = record {
  within = let h = open_at.within in omega arith;
  opens = open_at.opens;
  last = λ k h g. open_at.last (suc k) (omega arith) (omega arith);
}

-- with the first m keys wrong, the box opens where the last open set is after them
pub probe_tells : (d : ℕ) (coalition : List ℕ) (sets : List SetName) (m n z : ℕ) → m + n ≡ length sets →
    IsLastOpen d coalition sets z → opens_some d coalition sets (right_from m n) ≡ nat_le m z
unfolding opens_some
probe_tells d coalition [] m n z sum at = absurd (let h = at.within in omega arith)
probe_tells d coalition (name ∷ sets) zero zero z sum at = absurd (omega arith)
probe_tells d coalition (name ∷ sets) zero (suc n) zero sum at = rw (at.opens, le-leb 0 zero (omega arith)) refl
probe_tells d coalition (name ∷ sets) zero (suc n) (suc z) sum at =
    let rest = probe_tells d coalition sets zero n z (omega arith) (later d coalition name sets z at) in
    rw (rest, le-leb 0 z (omega arith), le-leb 0 (suc z) (omega arith)) (either (has_some d coalition name))
  where
    either : (b : Bool) → (b || true) ≡ true
    either true = refl
    either false = refl
probe_tells d coalition (name ∷ sets) (suc m) n zero sum at =
    let shut = all_shut d coalition sets (right_from m n) (λ k h. at.last (suc k) (omega arith) (omega arith)) in
    rw (shut, lt-leb (suc m) zero (omega arith)) refl
probe_tells d coalition (name ∷ sets) (suc m) n (suc z) sum at =
    let rest = probe_tells d coalition sets m n z (omega arith) (later d coalition name sets z at) in
    rw rest (grind (arith, nat_tests))

-- a number that is large enough gives the same halvings as another
pub enough : (f g lo hi z : ℕ) → hi - lo ≤ f → hi - lo ≤ g → halvings f lo hi z ≡ halvings g lo hi z
unfolding halvings
enough zero zero lo hi z a b = refl
enough zero (suc g) lo hi z a b = rw (le-leb hi (lo + 1) (omega arith)) refl
enough (suc f) zero lo hi z a b = rw (le-leb hi (lo + 1) (omega arith)) refl
enough (suc f) (suc g) lo hi z a b =
    let m : ℕ = (lo + hi) / 2 in
    ⊎_elim
    (λ (h : lo + 1 < hi). rw (
      lt-leb hi (lo + 1) h,
      enough f g m hi z (omega arith) (omega arith),
      enough f g lo m z
          (omega arith) (omega arith),
    ) refl)
    (λ (h : hi ≤ lo + 1). rw (le-leb hi (lo + 1) h) refl)
    (cases_lt (lo + 1) hi)

-- the last open place is among these, and so many turns and the halvings that are left are all its halvings
pub record IsToldSearch (lo hi turns count z : ℕ) : Type 0 where
  pub low : lo ≤ z
  pub high : z < hi
  pub halved : halvings count 0 count z ≡ turns + halvings count lo hi z

-- at the beginning
pub told_none : (count z : ℕ) → z < count → IsToldSearch 0 count 0 count z
told_none count z h = record { low = omega arith; high = h; halved = omega arith }

-- the halvings that are left where the search goes on above
halved_up : (lo hi most z : ℕ) → lo + 1 < hi → hi ≤ suc most → nat_le ((lo + hi) / 2) z ≡ true →
    halvings (suc most) lo hi z ≡ 1 + halvings (suc most) ((lo + hi) / 2) hi z
unfolding halvings
halved_up lo hi most z some within up =
    rw (lt-leb hi (lo + 1) some, up) (ap (λ (n : ℕ). 1 + n) (enough most (suc most) ((lo + hi) / 2) hi z (omega arith)
    (omega arith)))

-- and below
halved_down : (lo hi most z : ℕ) → lo + 1 < hi → hi ≤ suc most → nat_le ((lo + hi) / 2) z ≡ false →
    halvings (suc most) lo hi z ≡ 1 + halvings (suc most) lo ((lo + hi) / 2) z
unfolding halvings
halved_down lo hi most z some within down =
    rw (lt-leb hi (lo + 1) some, down) (ap (λ (n : ℕ). 1 + n) (enough most (suc most) lo ((lo + hi) / 2) z (omega arith)
    (omega arith)))

-- none is left at the end
none_left : (f lo hi z : ℕ) → hi ≤ lo + 1 → halvings f lo hi z ≡ 0
unfolding halvings
none_left zero lo hi z ends = refl
none_left (suc f) lo hi z ends = rw (le-leb hi (lo + 1) ends) refl

-- one turn more, where the box opened
pub told_up : (lo hi turns count z : ℕ) → lo + 1 < hi → hi ≤ count → nat_le ((lo + hi) / 2) z ≡ true →
    IsToldSearch lo hi turns count z → IsToldSearch ((lo + hi) / 2) hi (turns + 1) count z
told_up lo hi turns zero z some within up before = absurd (omega arith)
told_up lo hi turns (suc most) z some within up before = record {
  low = leb-true _ _ up;
  high = before.high;
  halved = before.halved ∙ (let e = halved_up lo hi most z some within up in omega arith);
}

-- and where it didn't
pub told_down : (lo hi turns count z : ℕ) → lo + 1 < hi → hi ≤ count → nat_le ((lo + hi) / 2) z ≡ false →
    IsToldSearch lo hi turns count z → IsToldSearch lo ((lo + hi) / 2) (turns + 1) count z
told_down lo hi turns zero z some within down before = absurd (omega arith)
told_down lo hi turns (suc most) z some within down before = record {
  low = before.low;
  high = leb-false _ _ down;
  halved = before.halved ∙ (let e = halved_down lo hi most z some within down in omega arith);
}

-- at the end
pub told_all : (lo hi turns count z : ℕ) → hi ≤ lo + 1 → IsToldSearch lo hi turns count z →
    (lo ≡ z) × (turns ≡ halvings count 0 count z)
told_all lo hi turns count z ends before =
    let h = before.high in
    let l = before.low in
    (omega arith, (let e = before.halved in let none = none_left count lo hi z ends in omega arith))

-- one turn more of a box that answers so
told_by : (b : Bool) (lo hi turns count z : ℕ) → lo + 1 < hi → hi ≤ count → nat_le ((lo + hi) / 2) z ≡ b →
    IsToldSearch lo hi turns count z → IsToldSearch (if b then (lo + hi) / 2 else lo) (if b then hi else (lo + hi) / 2)
    (turns + 1) count z
told_by true lo hi turns count z some within e before = told_up lo hi turns count z some within e before
told_by false lo hi turns count z some within e before = told_down lo hi turns count z some within e before

pub told_next : (d : ℕ) (coalition : List ℕ) (sets : List SetName) (right : List Bool) (b : Bool)
    (lo hi turns count z : ℕ) → count ≡ length sets → lo + 1 < hi → hi ≤ count →
    right ≡ take count (drop (count - (lo + hi) / 2) (right_from count count)) → b ≡ opens_some d coalition sets right →
    IsLastOpen d coalition sets z → IsToldSearch lo hi turns count z → IsToldSearch (if b then (lo + hi) / 2 else lo)
    (if b then hi else (lo + hi) / 2) (turns + 1) count z
told_next d coalition sets right b lo hi turns count z same some within cut answer at before =
    let m : ℕ = (lo + hi) / 2 in
    let keys = cut ∙ right_cut count m (omega arith) in
    let tells = probe_tells d coalition sets m (count - m) z (omega arith) at in
    told_by b lo hi turns count z some within (sym (answer ∙ (ap (opens_some d coalition sets) keys ∙ tells))) before

-- there is one last open set
pub one_last : (d : ℕ) (coalition : List ℕ) (sets : List SetName) (y z : ℕ) → IsLastOpen d coalition sets y →
    IsLastOpen d coalition sets z → y ≡ z
one_last d coalition sets y z a b =
    ⊎_elim
    (λ (h : y < z). let e = sym b.opens ∙ a.last z h b.within in absurd (cc))
    (λ (h : z ≤ y). ⊎_elim
    (λ (g : z < y). let e = sym a.opens ∙ b.last y g a.within in absurd (cc))
    (λ (g : y ≤ z). omega arith)
    (cases_lt z y))
    (cases_lt y z)
