-- What a coalition's sets are cut down to is a leaf of the coalition.
use Rattle.std.proofs.Common.{◌≡◌, ℕ, zero, suc, ◌+◌, ◌*◌, ◌-◌, ◌^◌, ◌<◌, ◌≤◌, Bool, true, false, not, cond, ◌&&◌, ◌||◌}
use Rattle.std.proofs.Common.{List, [], ◌∷◌}
use Rattle.std.proofs.Common.{get_or, refl, sym, ap, subst, ◌∙◌, inl, inr, arith}
use Rattle.std.specs.Prelude.{◌↔◌, All, Contains, map, Option, Some, None, nat_le, nat_lt, if◌then◌else◌}
use Rattle.std.proofs.lemmas.Bool.{leb-true, ltb-true, cases_eq}
use Rattle.std.proofs.lemmas.List.Elements.{All-cons, All-contains, Contains-get_or}
use Rattle.std.proofs.lemmas.List.Folds.{list_any_at, Any-from_list_any}
use Rattle.sd_tree_keys.specs.Node.{depth}
use Rattle.sd_tree_keys.specs.Paths.{sibling_of}
use Rattle.sd_tree_keys.specs.Leaves.{is_member, is_below}
use Rattle.sd_tree_keys.specs.SetNames.{IsOfHeight}
use Rattle.sd_tree_keys.specs.declared.set.SetName.{SetName}
use Rattle.sd_tree_keys.specs.declared.set.SetName.TheVariants.{Whole, Diff}
use Rattle.sd_tree_keys.proofs.Levels.{depth_at}
use Rattle.sd_tree_keys.proofs.Members.{member_within}
use Rattle.sd_cover_tracing.specs.Chains.{IsChainCover}
use Rattle.sd_cover_tracing.specs.Cover.{cover_of}
use Rattle.sd_cover_tracing.proofs.Ends.{AreLeaves}
use Rattle.sd_cover_tracing.proofs.Heights.{of_height}
use Rattle.sd_cover_tracing.proofs.Lists.{member_cases, member_first, member_later, no_member}
use Rattle.sd_cover_tracing.proofs.There.{the_cover}
use Rattle.sd_cover_tracing.specs.declared.found.Found.{Found}
use Rattle.sd_cover_tracing.specs.Trace.{IsRound, IsTrace}
use Rattle.sd_cover_tracing.proofs.Opening.{leaf_is_fresh}
use Rattle.sd_cover_tracing.specs.Halves.{halves_of, cuts_left, only_leaf, narrowed_leaf_and_cuts, has_some}
use Rattle.sd_cover_tracing.proofs.Narrowing.{IfCounted, halves_counted, siblings}
use Rattle.sd_cover_tracing.proofs.Narrowed.{is_alone, whole_is_cut, half_fits, first_holds, second_holds}
use Rattle.sd_cover_tracing.proofs.Narrowed.{narrowed_uncut}
use Rattle.sd_cover_tracing.proofs.Narrowed.{narrowed_more, cuts_few}

-- the leaf that is below its own node is the node's
own_only : (d x u : ℕ) → d ≤ 20 → 2 ^ d ≤ x → x < 2 ^ (d + 1) → is_below d x u ≡ true → u ≡ x - 2 ^ d
unfolding is_below
own_only d x u small low high below =
    let level : depth x ≡ d = depth_at x d (omega arith) (record { low = low; high = high }) in
    let none : d - depth x ≡ 0 = omega arith in
    let one : x * 2 ^ 0 ≡ x = omega arith in
    let next : (x + 1) * 2 ^ 0 ≡ x + 1 = omega arith in
    let both = rw (none, one, next) at below in
    let low_test = leb-true x (2 ^ d + u) (first (nat_le x (2 ^ d + u)) (nat_lt (2 ^ d + u) (x + 1)) both) in
    let high_test = ltb-true (2 ^ d + u) (x + 1) (second (nat_le x (2 ^ d + u)) (nat_lt (2 ^ d + u) (x + 1)) both) in
    omega (arith, low_test, high_test)
  where
    first : (a b : Bool) → (a && b) ≡ true → a ≡ true
    first true b e = refl
    first false b e = absurd (cc)

    second : (a b : Bool) → (a && b) ≡ true → b ≡ true
    second true b e = e
    second false b e = absurd (cc)

of_member : (t b c x : Bool) → (t && (b && not c)) ≡ true → b ≡ (c || x) → x ≡ true
of_member true b true x m e = absurd (let g : (b && false) ≡ true = m in no b g)
  where
    no : (s : Bool) → (s && false) ≡ true → ⊥
    no true g = absurd (cc)
    no false g = absurd (cc)
of_member true b false true m e = refl
of_member true b false false m e = absurd (let g : (b && true) ≡ true = m in let h = rw e at g in cc)
of_member false b c x m e = absurd (cc)

-- a set without halves has one leaf
alone_only : (d u : ℕ) (name : SetName) → 1 ≤ d → d ≤ 20 → IsOfHeight d name → halves_of d name ≡ None →
    is_member d name u ≡ true → u ≡ only_leaf d name
unfolding only_leaf
alone_only d u Whole some small h none m = absurd (whole_is_cut d none)
alone_only d u (Diff i j) some small pair none m =
    let alone = is_alone d i j pair none in
    let beside = siblings d i j u small pair alone.child in
    own_only d (sibling_of j) u small alone.low alone.high
    (of_member (nat_lt u (2 ^ d)) (is_below d i u) (is_below d j u) (is_below d (sibling_of j) u) m beside.0)

-- a leaf that is in a set and not in its first half is in the second
in_other : (p q r : Bool) → cond {A = ℕ} p 1 0 + cond q 1 0 ≡ cond r 1 0 → r ≡ true → p ≡ false → q ≡ true
in_other p true r sum whole apart = refl
in_other true false r sum whole apart = absurd (cc)
in_other false false true sum whole apart = absurd (omega (arith, sum))
in_other false false false sum whole apart = absurd (cc)

-- a leaf of the coalition in the set
abbrev HasLeaf : ℕ → List ℕ → SetName → Type 0
HasLeaf d coalition name = (u : ℕ) × Contains coalition u × (is_member d name u ≡ true)

some_leaf : (d : ℕ) (coalition : List ℕ) (name : SetName) → has_some d coalition name ≡ true → HasLeaf d coalition name
some_leaf d coalition name some =
    let (k, u, within, is, member) = Any-from_list_any (is_member d name) coalition some in
    (u, (k, within, is), member)

-- where no leaf of the coalition is in a set, one of it isn't
has_leaf : (d : ℕ) (coalition : List ℕ) (name : SetName) (u : ℕ) → Contains coalition u → is_member d name u ≡ true →
    has_some d coalition name ≡ true
has_leaf d coalition name u m e = list_any_at (is_member d name) coalition m.0 u m.1 (rw m.2 e)

no_leaf : (d : ℕ) (coalition : List ℕ) (name : SetName) (u : ℕ) → Contains coalition u → has_some d coalition name
    ≡ false →
    is_member d name u ≡ false
no_leaf d coalition name u m none = by (is_member d name u) refl
  where
    by : (b : Bool) → is_member d name u ≡ b → is_member d name u ≡ false
    by false e = e
    by true e = absurd (let some = has_leaf d coalition name u m e in cc)

-- what is cut down is a leaf of the coalition and of the set
abbrev IsInside : ℕ → List ℕ → SetName → ℕ → Type 0
IsInside d coalition name u = Contains coalition u × (is_member d name u ≡ true)

-- so is what a half of it is cut down to
narrowed_half : (d m : ℕ) (coalition : List ℕ) (name a b : SetName) → 1 ≤ d → d ≤ 20 → IsOfHeight d name →
    halves_of d name ≡ Some (a, b) → has_some d coalition name ≡ true → cuts_left d name ≤ suc m →
    ((half : SetName) → IsOfHeight d half → cuts_left d half ≤ m → has_some d coalition half ≡ true →
    IsInside d coalition half (narrowed_leaf_and_cuts d coalition m half).0) → (t : Bool) → has_some d coalition a ≡ t →
    IsInside d coalition name (narrowed_leaf_and_cuts d coalition m (if t then a else b)).0
narrowed_half d m coalition name a b some small h e opens few sub true first =
    let fits = half_fits d name a b some small h e in
    let inside = sub a fits.left_height (omega (arith, fits.left_fewer, few)) first in (
      inside.0,
      first_holds d (narrowed_leaf_and_cuts d coalition m a).0 name a b some small h
          (member_within d a (narrowed_leaf_and_cuts d coalition m a).0 inside.1) e inside.1,
    )
narrowed_half d m coalition name a b some small h e opens few sub false first =
    let fits = half_fits d name a b some small h e in
    let there = some_leaf d coalition name opens in
    let u : ℕ = there.0 in
    let apart = no_leaf d coalition a u there.1 first in
    let other = in_other (is_member d a u) (is_member d b u) (is_member d name u)
    (subst (IfCounted d u name) e (halves_counted d u name some small h (member_within d name u there.2))) there.2 apart
    in
    let second : has_some d coalition b ≡ true = has_leaf d coalition b u there.1 other in
    let inside = sub b fits.right_height (omega (arith, fits.right_fewer, few)) second in (
      inside.0,
      second_holds d (narrowed_leaf_and_cuts d coalition m b).0 name a b some small h
          (member_within d b (narrowed_leaf_and_cuts d coalition m b).0 inside.1) e inside.1,
    )

inside_by : (d most : ℕ) (coalition : List ℕ) (name : SetName) → 1 ≤ d → d ≤ 20 → IsOfHeight d name →
    cuts_left d name ≤ most → has_some d coalition name ≡ true → (halves : Option (SetName × SetName)) →
    halves_of d name ≡ halves → IsInside d coalition name (narrowed_leaf_and_cuts d coalition most name).0
inside_by d most coalition name some small h few opens None e =
    let there = some_leaf d coalition name opens in
    let alone = alone_only d there.0 name some small h e there.2 in
    let is : (narrowed_leaf_and_cuts d coalition most name).0 ≡ there.0 =
    ap (λ (r : ℕ × ℕ). r.0) (narrowed_uncut d coalition most name e) ∙ sym alone in
    (subst (Contains coalition) (sym is) there.1, subst (λ (u : ℕ). is_member d name u ≡ true) (sym is) there.2)
inside_by d zero coalition name some small h few opens (Some (a, b)) e =
    absurd (omega (arith, few, (half_fits d name a b some small h e).left_fewer))
inside_by d (suc m) coalition name some small h few opens (Some (a, b)) e =
    subst (λ (u : ℕ). IsInside d coalition name u)
    (sym (ap (λ (r : ℕ × ℕ). r.0) (narrowed_more d coalition m name a b e)))
    (narrowed_half d m coalition name a b some small h e opens few
    (λ half fits less has. inside_by d m coalition half some small fits less has (halves_of d half) refl)
    (has_some d coalition a) refl)

-- a set with a leaf of the coalition is cut down to one
pub narrowed_inside : (d most : ℕ) (coalition : List ℕ) (name : SetName) → 1 ≤ d → d ≤ 20 → IsOfHeight d name →
    cuts_left d name ≤ most → has_some d coalition name ≡ true → IsInside d coalition name
    (narrowed_leaf_and_cuts d coalition most name).0
narrowed_inside d most coalition name some small h few opens = inside_by d most coalition name some small h few opens
    (halves_of d name) refl

-- what a round finds is a leaf of the coalition that isn't gone
pub round_inside : (d : ℕ) (coalition gone : List ℕ) (found : Found) → 1 ≤ d → d ≤ 20 → All (λ u. u < 2 ^ d) gone →
    IsRound d coalition gone found →
    (found.leaf < 2 ^ d) × Contains coalition found.leaf × ¬ Contains gone found.leaf
round_inside d coalition gone found some small leaves round =
    let each : AreLeaves d gone = λ u m. All-contains (λ w. w < 2 ^ d) gone u leaves m in
    let sets = cover_of d gone in
    let cover : IsChainCover d gone sets = (the_cover d gone sets (omega (arith, small)) each).1 refl in
    let name : SetName = get_or sets round.place Whole in
    let there : Contains sets name = Contains-get_or sets round.place Whole round.opened.within in
    let height = of_height d gone sets each cover name there in
    let inside = narrowed_inside d d coalition name some small height (cuts_few d name height) round.opened.opens in
    let is : (narrowed_leaf_and_cuts d coalition d name).0 ≡ found.leaf = sym (ap (λ (r : ℕ × ℕ). r.0) round.leaf) in
    let member = subst (λ (u : ℕ). is_member d name u ≡ true) is inside.1 in
    let leaf = member_within d name found.leaf member in (
      leaf,
      subst (Contains coalition) is inside.0,
      leaf_is_fresh d found.leaf gone sets name (omega (arith, small))
          leaves cover leaf there member,
    )

more_leaves : (d v : ℕ) (gone : List ℕ) → v < 2 ^ d → All (λ u. u < 2 ^ d) gone → All (λ u. u < 2 ^ d) (v ∷ gone)
more_leaves d v gone leaf leaves = All-cons (λ u. u < 2 ^ d) v gone leaf leaves

-- all rounds find the leaves of the coalition that aren't gone
pub trace_is_coalition : (d : ℕ) (coalition gone : List ℕ) (found : List Found) → 1 ≤ d → d ≤ 20 →
    All (λ u. u < 2 ^ d) gone → IsTrace d coalition gone found → (u : ℕ) → u < 2 ^ d →
    Contains (map (λ f. f.leaf) found) u ↔ (Contains coalition u × ¬ Contains gone u)
unfolding IsTrace
trace_is_coalition d coalition gone [] some small leaves trace u leaf = (
  λ m. absurd (no_member u m),
  λ m. absurd (m.1 (trace u leaf m.0)),
)
trace_is_coalition d coalition gone (f ∷ fs) some small leaves trace u leaf =
    let here = round_inside d coalition gone f some small leaves trace.0 in
    let rest = trace_is_coalition d coalition (f.leaf ∷ gone) fs some small (more_leaves d f.leaf gone here.0 leaves)
    trace.1 u leaf in (
      λ m. elim (member_cases f.leaf (map (λ g. g.leaf) fs) u m) [
        | inl is ↦ (subst (Contains coalition) is here.1, λ n. here.2 (subst (Contains gone) (sym is) n))
        | inr later ↦ let own = rest.0 later in (own.0, λ n. own.1 (member_later f.leaf gone u n))
      ],
      λ m. elim (cases_eq f.leaf u) [
        | inl is ↦ subst (Contains (f.leaf ∷ map (λ g. g.leaf) fs)) is (member_first f.leaf (map (λ g. g.leaf) fs))
        | inr apart ↦ member_later f.leaf (map (λ g. g.leaf) fs) u (rest.1 (
          m.0,
          λ n. elim (member_cases f.leaf gone u n) [
            | inl is ↦ apart is
            | inr before ↦ m.1 before
          ],
        ))
      ],
    )
