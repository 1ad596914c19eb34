-- The trace of a coalition as a list, and that each leaf is in it once.
use Rattle.std.proofs.Common.{◌≡◌, ◌≢◌, ℕ, zero, suc, ◌^◌, ◌<◌, ◌≤◌, Bool, true, false, List, [], ◌∷◌, length}
use Rattle.std.proofs.Common.{Option, Some, None, refl, sym, subst, inl, inr, arith}
use Rattle.std.specs.Prelude.{All, AllPairs, Contains, if◌then◌else◌}
use Rattle.std.specs.List.{list_any}
use Rattle.std.specs.Option.{option_map_or}
use Rattle.std.proofs.lemmas.List.Elements.{All-nil, All-cons, All-contains, All-weaker}
use Rattle.std.proofs.lemmas.List.Kept.{AllPairs-cons}
use Rattle.sd_tree_keys.specs.declared.set.SetName.{SetName}
use Rattle.sd_cover_tracing.specs.Chains.{IsChainCover}
use Rattle.sd_cover_tracing.specs.Cover.{cover_of}
use Rattle.sd_cover_tracing.proofs.Ends.{AreLeaves}
use Rattle.sd_cover_tracing.proofs.Lists.{member_cases, member_first, member_later}
use Rattle.sd_cover_tracing.proofs.There.{the_cover}
use Rattle.sd_cover_tracing.specs.declared.found.Found.{Found}
use Rattle.sd_cover_tracing.specs.Halves.{has_some}
use Rattle.sd_cover_tracing.specs.Search.{IsLastOpen}
use Rattle.sd_cover_tracing.specs.Trace.{IsRound, IsTrace, not_among, last_open, found_at, found_in, trace_of}
use Rattle.sd_cover_tracing.proofs.Inside.{round_inside}
use Rattle.sd_cover_tracing.proofs.Leaving.{one_less_left, some_left}
use Rattle.sd_cover_tracing.proofs.Opening.{opened_here, opened_later, none_is_left}
use Rattle.sd_cover_tracing.proofs.Anyway.{IsNew}

none_by : (d : ℕ) (coalition : List ℕ) (name : SetName) (sets : List SetName) (o : Option ℕ) (b : Bool) →
    last_open d coalition sets ≡ o → has_some d coalition name ≡ b →
    option_map_or (λ y. Some (suc y)) o (if b then Some 0 else None) ≡ None →
    (last_open d coalition sets ≡ None → list_any (has_some d coalition) sets ≡ false) →
    list_any (has_some d coalition) (name ∷ sets) ≡ false
none_by d coalition name sets (Some y) b is at e later = absurd (cc)
none_by d coalition name sets None true is at e later = absurd (cc)
none_by d coalition name sets None false is at e later = rw (at, later is) refl

-- where there is no last set with a leaf of the coalition, none has one
none_open : (d : ℕ) (coalition : List ℕ) (sets : List SetName) → last_open d coalition sets ≡ None →
    list_any (has_some d coalition) sets ≡ false
unfolding last_open
none_open d coalition [] e = refl
none_open d coalition (name ∷ sets) e =
    none_by d coalition name sets (last_open d coalition sets) (has_some d coalition name) refl refl e
    (none_open d coalition sets)

last_by : (d : ℕ) (coalition : List ℕ) (name : SetName) (sets : List SetName) (z : ℕ) (o : Option ℕ) (b : Bool) →
    last_open d coalition sets ≡ o → has_some d coalition name ≡ b →
    option_map_or (λ y. Some (suc y)) o (if b then Some 0 else None) ≡ Some z →
    ((y : ℕ) → last_open d coalition sets ≡ Some y → IsLastOpen d coalition sets y) →
    IsLastOpen d coalition (name ∷ sets) z
last_by d coalition name sets z (Some y) b is at e later =
    let same : suc y ≡ z = cc in
    subst (λ (w : ℕ). IsLastOpen d coalition (name ∷ sets) w) same
    (opened_later d coalition name sets y (later y is))
last_by d coalition name sets z None true is at e later =
    let same : 0 ≡ z = cc in
    subst (λ (w : ℕ). IsLastOpen d coalition (name ∷ sets) w) same
    (opened_here d coalition name sets at (none_open d coalition sets is))
last_by d coalition name sets z None false is at e later = absurd (cc)

-- the last set with a leaf of the coalition is so
last_is : (d : ℕ) (coalition : List ℕ) (sets : List SetName) (z : ℕ) → last_open d coalition sets ≡ Some z →
    IsLastOpen d coalition sets z
unfolding last_open
last_is d coalition [] z e = absurd (cc)
last_is d coalition (name ∷ sets) z e =
    last_by d coalition name sets z (last_open d coalition sets) (has_some d coalition name) refl refl e
    (last_is d coalition sets)

-- what is found in it is what a round finds
is_round : (d : ℕ) (coalition gone : List ℕ) (z : ℕ) → last_open d coalition (cover_of d gone) ≡ Some z →
    IsRound d coalition gone (found_at d coalition (cover_of d gone) z)
unfolding found_at
is_round d coalition gone z e =
    record { place = z; opened = last_is d coalition (cover_of d gone) z e; leaf = refl; trials = refl }

-- where no set opens, no leaf of the coalition is left
all_gone : (d : ℕ) (coalition gone : List ℕ) → d ≤ 20 → All (λ u. u < 2 ^ d) gone →
    last_open d coalition (cover_of d gone) ≡ None → (u : ℕ) → u < 2 ^ d → Contains coalition u → Contains gone u
all_gone d coalition gone low leaves e =
    let each : AreLeaves d gone = λ u m. All-contains (λ w. w < 2 ^ d) gone u leaves m in
    let cover : IsChainCover d gone (cover_of d gone) =
    (the_cover d gone (cover_of d gone) (omega (arith, low)) each).1 refl in
    none_is_left d coalition gone (cover_of d gone) (omega (arith, low)) leaves cover
    (none_open d coalition (cover_of d gone) e)

-- with as many rounds as leaves are left, the rounds go on until none is
abbrev TracesNext : ℕ → List ℕ → ℕ → Type 0
TracesNext d coalition rounds = (gone : List ℕ) → All (λ u. u < 2 ^ d) gone →
    length (not_among d gone coalition) ≤ rounds → IsTrace d coalition gone (found_in d coalition gone rounds)

no_more : (d : ℕ) (coalition gone : List ℕ) → 1 ≤ d → d ≤ 20 → All (λ u. u < 2 ^ d) gone →
    length (not_among d gone coalition) ≤ 0 → (o : Option ℕ) → last_open d coalition (cover_of d gone) ≡ o →
    IsTrace d coalition gone []
unfolding IsTrace
no_more d coalition gone some low leaves few None e = all_gone d coalition gone low leaves e
no_more d coalition gone some low leaves few (Some z) e =
    let left = some_left d coalition gone (found_at d coalition (cover_of d gone) z) some low leaves
    (is_round d coalition gone z e) in
    absurd (omega (arith, left, few))

one_more : (d : ℕ) (coalition gone : List ℕ) (rounds : ℕ) → 1 ≤ d → d ≤ 20 → All (λ u. u < 2 ^ d) gone →
    length (not_among d gone coalition) ≤ suc rounds → TracesNext d coalition rounds → (o : Option ℕ) →
    last_open d coalition (cover_of d gone) ≡ o →
    IsTrace d coalition gone (option_map_or (λ z. found_at d coalition (cover_of d gone) z
    ∷ found_in d coalition ((found_at d coalition (cover_of d gone) z).leaf ∷ gone) rounds) o [])
unfolding IsTrace
one_more d coalition gone rounds some low leaves few next None e = all_gone d coalition gone low leaves e
one_more d coalition gone rounds some low leaves few next (Some z) e =
    let f : Found = found_at d coalition (cover_of d gone) z in
    let round = is_round d coalition gone z e in
    let here = round_inside d coalition gone f some low leaves round in
    let less = one_less_left d f.leaf coalition gone (f.leaf ∷ gone) here.0 here.1 here.2 (λ u. (
      λ m. elim (member_cases f.leaf gone u m) [
        | inl is ↦ inl (sym is)
        | inr before ↦ inr before
      ],
      λ m. elim m [
        | inl is ↦ subst (Contains (f.leaf ∷ gone)) (sym is) (member_first f.leaf gone)
        | inr before ↦ member_later f.leaf gone u before
      ],
    )) in
    (round, next (f.leaf ∷ gone) (All-cons (λ u. u < 2 ^ d) f.leaf gone here.0 leaves) (omega (arith, less, few)))

is_trace : (d : ℕ) (coalition : List ℕ) (rounds : ℕ) → 1 ≤ d → d ≤ 20 → TracesNext d coalition rounds
unfolding found_in
is_trace d coalition zero some low gone leaves few =
    no_more d coalition gone some low leaves few (last_open d coalition (cover_of d gone)) refl
is_trace d coalition (suc rounds) some low gone leaves few =
    one_more d coalition gone rounds some low leaves few (is_trace d coalition rounds some low)
    (last_open d coalition (cover_of d gone)) refl

-- each coalition has a trace
pub there_is_a_trace : (d : ℕ) (coalition revoked : List ℕ) → 1 ≤ d → d ≤ 20 → All (λ u. u < 2 ^ d) revoked →
    IsTrace d coalition revoked (trace_of d coalition revoked)
there_is_a_trace d coalition revoked some low leaves =
    is_trace d coalition (length (not_among d revoked coalition)) some low revoked leaves (omega arith)

-- what is found of a coalition are leaves of the tree that aren't revoked
pub trace_new : (d : ℕ) (coalition gone : List ℕ) (found : List Found) → 1 ≤ d → d ≤ 20 →
    All (λ u. u < 2 ^ d) gone → IsTrace d coalition gone found →
    All (λ f. (f.leaf < 2 ^ d) × ¬ Contains gone f.leaf) found
unfolding IsTrace
trace_new d coalition gone [] some low leaves trace = All-nil (IsNew d gone)
trace_new d coalition gone (f ∷ fs) some low leaves trace =
    let here = round_inside d coalition gone f some low leaves trace.0 in
    All-cons (IsNew d gone) f fs (here.0, here.2)
    (All-weaker (IsNew d (f.leaf ∷ gone)) (IsNew d gone) (λ g h. (h.0, λ m. h.1 (member_later f.leaf gone g.leaf m))) fs
    (trace_new d coalition (f.leaf ∷ gone) fs some low (All-cons (λ u. u < 2 ^ d) f.leaf gone here.0 leaves) trace.1))

-- each is found once
pub trace_once : (d : ℕ) (coalition gone : List ℕ) (found : List Found) → 1 ≤ d → d ≤ 20 →
    All (λ u. u < 2 ^ d) gone → IsTrace d coalition gone found → AllPairs (λ f g. f.leaf ≢ g.leaf) found
unfolding IsTrace
trace_once d coalition gone [] some low leaves trace = λ i j e below within. absurd (omega arith)
trace_once d coalition gone (f ∷ fs) some low leaves trace =
    let here = round_inside d coalition gone f some low leaves trace.0 in
    let more = All-cons (λ u. u < 2 ^ d) f.leaf gone here.0 leaves in
    AllPairs-cons (λ f g. f.leaf ≢ g.leaf) f fs
    (All-weaker (IsNew d (f.leaf ∷ gone)) (λ g. f.leaf ≢ g.leaf)
    (λ g h e. h.1 (subst (Contains (f.leaf ∷ gone)) e (member_first f.leaf gone))) fs
    (trace_new d coalition (f.leaf ∷ gone) fs some low more trace.1))
    (trace_once d coalition (f.leaf ∷ gone) fs some low more trace.1)
