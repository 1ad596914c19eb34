-- What follows for a chain of packets from what holds for each.
use Rattle.std.proofs.Common.{◌≡◌, ℕ, ◌+◌, ◌-◌, List, [], ◌∷◌, ◌++◌, length, refl, sym, ap, subst, ◌∙◌, arith}
use Rattle.std.proofs.Common.{append_assoc, append-nil, length-append}
use Rattle.std.specs.Prelude.{Option, None, Some}
use Rattle.std.proofs.KnownBytes.{Appends-trans, Appends-nil}
use Rattle.sd_ports.specs.Rooms.{HasTaken}
use Rattle.sd_ports.proofs.Rooms.{none_taken}
use Rattle.sd_engine.specs.Stage.{SinkState, HasGrown, TookBytes, Chain, all_from}

-- one packet more at the end of a chain
pub chain_on : {S : Type 0} (does : S → List ℕ → S → List ℕ → ℕ → Type 0) (s : S) (ps : List (List ℕ)) (mid : S)
    (a : List ℕ) (n : ℕ) (p : List ℕ) (t : S) (b : List ℕ) (m : ℕ) →
    Chain does s ps mid a n → does mid p t b m → Chain does s (ps ++ p ∷ []) t (a ++ b) (n + m)
chain_on does s [] mid a n p t b m (same, none, zero) one = (
  t,
  b,
  [],
  m,
  0,
  subst (λ u. does u p t b m) (sym same) one,
  (refl, refl, refl),
  ap (λ (xs : List ℕ). xs ++ b) none ∙ sym (append-nil b),
  omega (arith, zero),
)
chain_on does s (q ∷ qs) mid a n p t b m (next, first, rest, j, k, one, more, joined, counted) last = (
  next,
  first,
  rest ++ b,
  j,
  k + m,
  one,
  chain_on does next qs mid rest k p t b m more last,
  ap (λ (xs : List ℕ). xs ++ b) joined ∙ append_assoc first rest b,
  omega (arith, counted),
)

-- what was taken into a room, and then more
pub taken_on : (a b c : Option ℕ) (n m : ℕ) → HasTaken a b n → HasTaken b c m → HasTaken a c (n + m)
taken_on None b c n m p q = tt
taken_on (Some room) b c n m p q =
    let then = subst (λ (left : Option ℕ). HasTaken left c m) p.1 q in
    let same : room - n - m ≡ room - (n + m) = omega arith in
    (omega (arith, p.0, then.0), then.1 ∙ ap (λ (k : ℕ). Some k) same)

-- nothing was taken
pub took_none : (u : SinkState) → TookBytes u u []
took_none u = record { taken = Appends-nil u.held; room = none_taken u.room }

-- some bytes, and then others
pub took_more : (u v w : SinkState) (xs ys : List ℕ) → TookBytes u v xs → TookBytes v w ys → TookBytes u w (xs ++ ys)
took_more u v w xs ys first then = record {
  taken = Appends-trans u.held v.held w.held xs ys first.taken then.taken;
  room = subst (HasTaken u.room w.room) (sym (length-append xs ys))
      (taken_on u.room v.room w.room (length xs) (length ys) first.room then.room);
}

-- a sink that grew and grew again grew by both
pub grew_on : (P Q R : List ℕ → ℕ → Type 0) (u v w : SinkState) (i j k : ℕ)
    → ((a b : List ℕ) (n m : ℕ) → P a n → Q b m → R (a ++ b) (n + m))
    → HasGrown u v i j P → HasGrown v w j k Q → HasGrown u w i k R
grew_on P Q R u v w i j k both first then = record {
  bytes = first.bytes ++ then.bytes;
  steps = first.steps + then.steps;
  says = both first.bytes then.bytes first.steps then.steps first.says then.says;
  taken = Appends-trans u.held v.held w.held first.bytes then.bytes first.taken then.taken;
  room = subst (HasTaken u.room w.room) (sym (length-append first.bytes then.bytes))
      (taken_on u.room v.room w.room (length first.bytes) (length then.bytes) first.room then.room);
  counted = omega (arith, first.counted, then.counted);
}

-- where nothing is written and no step is taken
pub grew_none : (P : List ℕ → ℕ → Type 0) (u : SinkState) (i : ℕ) → P [] 0 → HasGrown u u i i P
grew_none P u i says = record {
  bytes = [];
  steps = 0;
  says = says;
  taken = Appends-nil u.held;
  room = none_taken u.room;
  counted = omega arith;
}
  where
    none_taken : (a : Option ℕ) → HasTaken a a 0
    none_taken None = tt
    none_taken (Some room) = (omega arith, ap (λ (n : ℕ). Some n) (let e : room ≡ room - 0 = omega arith in e))

-- what stands after each step stands after the chain, and its bytes are those of all steps
pub chain_writes : {S : Type 0} (does : S → List ℕ → S → List ℕ → ℕ → Type 0) (After : List (List ℕ) → S → Type 0)
    (wrote : List (List ℕ) → List ℕ → List ℕ)
    → ((before : List (List ℕ)) (s : S) (p : List ℕ) (t : S) (bytes : List ℕ) (n : ℕ) → After before s →
    does s p t bytes n →
    (bytes ≡ wrote before p) × After (before ++ p ∷ []) t)
    → (before : List (List ℕ)) (s : S) (ps : List (List ℕ)) (t : S) (bytes : List ℕ) (n : ℕ) → After before s →
    Chain does s ps t bytes n → (bytes ≡ all_from wrote before ps) × After (before ++ ps) t
chain_writes does After wrote step before s [] t bytes n a (same, none, zero) =
    (none, subst (λ u. After (before ++ []) u) same (subst (λ xs. After xs s) (sym (append-nil before)) a))
chain_writes does After wrote step before s (p ∷ ps) t bytes n a (mid, first, rest, m, k, one, more, joined, counted) =
    let here = step before s p mid first m a one in
    let there = chain_writes does After wrote step (before ++ p ∷ []) mid ps t rest k here.1 more in (
      joined ∙ (ap (λ xs. xs ++ rest) here.0 ∙ ap (λ xs. wrote before p ++ xs) there.0),
      subst (λ xs. After xs t) (append_assoc before (p ∷ []) ps) there.1,
    )
