use Rattle.std.proofs.Common.{◌≡◌, ℕ, ◌<◌, ◌≤◌, ◌+◌, ◌*◌, ◌^◌, List, [], ◌∷◌, ◌++◌, length, sum_by}
use Rattle.std.proofs.Common.{refl, sym, ap, subst, ◌∙◌, arith}
use Rattle.std.specs.Prelude.{Option, Some, None, Result, Ok, Err}
use Rattle.std.proofs.lemmas.Result.{err_from_is_err_and, IfOk-from_err}
use Rattle.std.proofs.lemmas.List.{append-nil, append_assoc, length_push}
use Rattle.std.proofs.lemmas.List.Sums.{sum_by_push}
use Rattle.sd_tree_keys.specs.declared.leaf.TheConstants.{MOST_REVOKED}
use Rattle.sd_cover_tracing.specs.declared.found.Found.{Found}
use Rattle.sd_cover_tracing.specs.declared.found.TraceFault.{TraceFault}
use Rattle.sd_cover_tracing.specs.declared.found.TraceFault.TheVariants.{TooMany, NoMemory}
use Rattle.sd_cover_tracing.specs.Trace.{IsTrace, AreAnyRounds}
use Rattle.sd_cover_tracing.specs.Rounds.{RoundOf, RoundOfCoalition, IsJoined}
use Rattle.sd_cover_tracing.proofs.Chained.{rounds_more, trace_more, joined_leaves, none_any, one_any, none_traced}
use Rattle.sd_cover_tracing.proofs.Rounds.{round_few}
use Rattle.sd_cover_tracing.proofs.Inside.{round_inside}
use Rattle.sd_cover_tracing.proofs.Leaving.{one_less_left, none_left, some_left}
use Rattle.sd_cover_tracing.proofs.tracing.trace_all.Goals as goal

-- where memory runs out, there aren't too many
not_many : {A : Type 0} (r : Result A TraceFault) → r ≡ Err NoMemory → r ≡ Err TooMany → ⊥
not_many r is many = cc

-- what is found is no fault
no_fault : {A : Type 0} (found : A) (fault : TraceFault) → Ok found ≡ Err fault → ⊥
no_fault found fault is = cc

-- a number and none more
none_more : (n : ℕ) → n ≡ n + 0
none_more n = omega arith

-- none and a number more
after_none : (n : ℕ) → 0 + n ≡ n
after_none n = omega arith

-- none is no more than none
nothing : 0 ≤ 0
nothing = omega arith

-- what a round found
found_of : (d : ℕ) (gone held : List ℕ) (before after : ℕ) (r : Option Found) (next : Found) → held ≡ gone →
    r ≡ Some next → RoundOf d held before after r → RoundOf d gone before after (Some next)
found_of d gone held before after r next same is round =
    subst (λ (o : Option Found). RoundOf d gone before after o) is
    (subst (λ (us : List ℕ). RoundOf d us before after r) same round)

-- the probes so far leave room for a round
round_room : (old sum found here gone revoked : ℕ) → here ≡ old + sum → old ≤ 2 ^ 63 → sum ≤ 64 * found →
    gone ≡ revoked + found → gone ≤ MOST_REVOKED → here < 2 ^ 63 + 2 ^ 32
round_room old sum found here gone revoked is low few counted most = omega arith

-- the probes only grow in number
only_more : (old sum here new : ℕ) → here ≡ old + sum → here ≤ new → old ≤ new
only_more old sum here new is more = omega arith

pub returns-clause-rounds : goal.returns-clause-rounds
returns-clause-rounds g c =
    subst (AreAnyRounds c.args.h c.args.revoked.now) (append-nil c.loop-found.found.items)
    (c.loop-found.invariant.rounds [] (none_any c.args.h c.loop-found.gone.items))

pub returns-clause-traced : goal.returns-clause-traced
returns-clause-traced g c coalition told =
    let round = c.in_ok-next.ensures.told coalition (c.loop-found.invariant.coalition ∙ told) in
    let ended : RoundOfCoalition c.args.h coalition c.loop-found.gone.items None =
    subst (λ (r : Option Found). RoundOfCoalition c.args.h coalition c.loop-found.gone.items r) c.in_default.is
    (subst (λ (gone : List ℕ). RoundOfCoalition c.args.h coalition gone c.in_ok-next.field-0) c.deref.ensures.value
    round) in
    subst (IsTrace c.args.h coalition c.args.revoked.now) (append-nil c.loop-found.found.items)
    (c.loop-found.invariant.traced coalition told [] (none_traced c.args.h coalition c.loop-found.gone.items ended))

pub returns-clause-told : goal.returns-clause-told
returns-clause-told g c coalition told =
    let round = c.in_ok-next.ensures.told coalition (c.loop-found.invariant.coalition ∙ told) in
    let ended : RoundOfCoalition c.args.h coalition c.loop-found.gone.items None =
    subst (λ (r : Option Found). RoundOfCoalition c.args.h coalition c.loop-found.gone.items r) c.in_default.is
    (subst (λ (gone : List ℕ). RoundOfCoalition c.args.h coalition gone c.in_ok-next.field-0) c.deref.ensures.value
    round) in
    let left = c.loop-found.invariant.left coalition told in
    let none = none_left c.args.h coalition c.loop-found.gone.items ended in
    omega (arith, left, none, c.loop-found.invariant.counted, c.loop-found.invariant.few)

pub returns-then-len-eq-MOST_REVOKED-clause-told_many :
    goal.returns-then-len-eq-MOST_REVOKED-clause-told_many
returns-then-len-eq-MOST_REVOKED-clause-told_many g c coalition told many =
    let round = c.in_ok-next.ensures.told coalition (c.loop-found.invariant.coalition ∙ told) in
    let found : RoundOfCoalition c.args.h coalition c.loop-found.gone.items (Some c.in-Some.next) =
    subst (λ (r : Option Found). RoundOfCoalition c.args.h coalition c.loop-found.gone.items r) c.in-Some.is
    (subst (λ (gone : List ℕ). RoundOfCoalition c.args.h coalition gone c.in_ok-next.field-0) c.deref.ensures.value
    round) in
    let left = c.loop-found.invariant.left coalition told in
    let some = some_left c.args.h coalition c.loop-found.gone.items c.in-Some.next c.round.ensures.tree.0
    c.round.ensures.tree.1 c.loop-found.invariant.leaves found in
    omega (
      arith,
      left,
      some,
      c.loop-found.invariant.counted,
      c.if-len-eq-MOST_REVOKED.true,
      c.len.ensures,
      c.deref.ensures.len,
    )

pub returns-then-len-eq-MOST_REVOKED-clause-too_many :
    goal.returns-then-len-eq-MOST_REVOKED-clause-too_many
returns-then-len-eq-MOST_REVOKED-clause-too_many g c many =
    let i = c.loop-found.invariant in
    let h : ℕ = c.args.h in
    let gone : List ℕ = c.loop-found.gone.items in
    let next : Found = c.in-Some.next in
    let value = rw c.deref.ensures.value at c.in_ok-next.ensures.value in
    let any : RoundOf h gone (g.B.TestBox.asked c.loop-found.target) (g.B.TestBox.asked c.round.new.target)
    (Some next) =
    subst (λ (r : Option Found). RoundOf h gone (g.B.TestBox.asked c.loop-found.target)
    (g.B.TestBox.asked c.round.new.target) r)
    c.in-Some.is value in
    let sum = sum_by_push (λ (f : Found). f.trials) c.loop-found.found.items next in
    let count = length_push c.loop-found.found.items next in (
      c.loop-found.found.items ++ next ∷ [],
      i.rounds (next ∷ []) (one_any h gone next any.0),
      omega (arith, i.counted, count, c.if-len-eq-MOST_REVOKED.true, c.len.ensures, c.deref.ensures.len),
      omega (arith, any.1, i.asked, sum),
    )

-- one more in its turn
in_turn : (next : Found) (later old new : List Found) → new ≡ old ++ next ∷ [] → old ++ next ∷ later ≡ new ++ later
in_turn next later old new added = sym (ap (λ (fs : List Found). fs ++ later) added ∙ append_assoc old (next ∷ [])
    later)

pub loop-found-preserved : goal.loop-found-preserved
loop-found-preserved g c =
    let i = c.loop-found.invariant in
    let h : ℕ = c.args.h in
    let gone : List ℕ = c.loop-found.gone.items in
    let new : List ℕ = c.join.new.gone.items in
    let next : Found = c.in-Some.next in
    let low : h < 32 = omega (arith, c.round.ensures.tree.1) in
    let value = rw c.deref.ensures.value at c.in_ok-next.ensures.value in
    let any : RoundOf h gone (g.B.TestBox.asked c.loop-found.target) (g.B.TestBox.asked c.round.new.target)
    (Some next) =
    subst (λ (r : Option Found). RoundOf h gone (g.B.TestBox.asked c.loop-found.target)
    (g.B.TestBox.asked c.round.new.target) r)
    c.in-Some.is value in
    let told_round : (coalition : List ℕ) → g.B.TestBox.coalition c.args.target.now ≡ Some coalition →
    RoundOfCoalition h coalition gone (Some next) =
    λ coalition told. subst (λ (r : Option Found). RoundOfCoalition h coalition gone r) c.in-Some.is
    (subst (λ (leaves : List ℕ). RoundOfCoalition h coalition leaves c.in_ok-next.field-0) c.deref.ensures.value
    (c.in_ok-next.ensures.told coalition (i.coalition ∙ told))) in
    let joined : IsJoined next.leaf gone new = c.in_ok-join.ensures in
    let added = c.in_ok-add.ensures in
    let sum = ap (sum_by (λ (f : Found). f.trials)) added ∙ sum_by_push (λ (f : Found). f.trials)
    c.loop-found.found.items next in
    let count = ap length added ∙ length_push c.loop-found.found.items next in
    let probes = round_few h gone next c.round.ensures.tree.1 i.leaves i.few any.0 in
    record {
      height = c.round.ensures.height ∙ i.height;
      coalition = c.round.ensures.coalition ∙ i.coalition;
      leaves = joined_leaves h next.leaf gone new any.0.leaf i.leaves joined;
      ascending = joined.ascending;
      few = omega (arith, joined.more, i.few, c.if-len-eq-MOST_REVOKED.false, c.len.ensures, c.deref.ensures.len);
      counted = omega (arith, joined.more, i.counted, count);
      asked = omega (arith, any.1, i.asked, sum);
      each = omega (arith, i.each, count, sum, any.0.trials);
      room = omega (arith, i.room, count, sum, probes);
      rounds = λ later more. subst (AreAnyRounds h c.args.revoked.now)
          (in_turn next later c.loop-found.found.items c.add.new.found.items added)
          (i.rounds (next ∷ later) (rounds_more h gone new next later low any.0 joined more));
      traced = λ coalition told later more. subst (IsTrace h coalition c.args.revoked.now)
          (in_turn next later c.loop-found.found.items c.add.new.found.items added)
          (i.traced coalition told (next ∷ later) (trace_more h coalition gone new next later low
          (told_round coalition told) joined more));
      left = λ coalition told.
          let here = round_inside h coalition gone next c.round.ensures.tree.0 c.round.ensures.tree.1 i.leaves
          (told_round coalition told) in
          let less = one_less_left h next.leaf coalition gone new here.0 here.1 here.2 joined.members in
          omega (arith, i.left coalition told, less, count);
    }

pub returns-clause-too_many : goal.returns-clause-too_many
returns-clause-too_many g c many = absurd (no_fault _ _ many)

pub returns-clause-told_many : goal.returns-clause-told_many
returns-clause-told_many g c coalition told many = absurd (no_fault _ _ many)

pub returns-in_err-extend_from_slice : goal.returns-in_err-extend_from_slice
returns-in_err-extend_from_slice g c =
    let p = err_from_is_err_and c.from_residual.result c.from_residual.ensures.1 in
    let memory = p.1 ∙ ap (λ (e : TraceFault). Err e) p.2 in
    let failed = c.from_residual.ensures.0 in
    record {
      traced = λ _ _. IfOk-from_err _ _ failed;
      rounds = IfOk-from_err _ _ failed;
      asked = IfOk-from_err _ _ failed;
      few = IfOk-from_err _ _ failed;
      too_many = λ many. absurd (not_many _ memory many);
      unchanged = (refl, refl);
      later = omega arith;
      told = λ _ _. IfOk-from_err _ _ failed;
      told_many = λ _ _ many. absurd (not_many _ memory many);
    }

pub returns-in_err-next : goal.returns-in_err-next
returns-in_err-next g c =
    let i = c.loop-found.invariant in
    let round = c.round.ensures in
    let p = err_from_is_err_and c.from_residual-in_err-next.result c.from_residual-in_err-next.ensures.1 in
    let memory = p.1 ∙ ap (λ (e : TraceFault). Err e) p.2 in
    let failed = c.from_residual-in_err-next.ensures.0 in
    record {
      traced = λ _ _. IfOk-from_err _ _ failed;
      rounds = IfOk-from_err _ _ failed;
      asked = IfOk-from_err _ _ failed;
      few = IfOk-from_err _ _ failed;
      too_many = λ many. absurd (not_many _ memory many);
      unchanged = (round.height ∙ (i.height ∙ sym c.requires.height), round.coalition ∙ i.coalition);
      later = only_more _ _ _ _ i.asked round.later;
      told = λ _ _. IfOk-from_err _ _ failed;
      told_many = λ _ _ many. absurd (not_many _ memory many);
    }

pub returns-in_err-join : goal.returns-in_err-join
returns-in_err-join g c =
    let i = c.loop-found.invariant in
    let round = c.round.ensures in
    let p = err_from_is_err_and c.from_residual-in_err-join.result c.from_residual-in_err-join.ensures.1 in
    let memory = p.1 ∙ ap (λ (e : TraceFault). Err e) p.2 in
    let failed = c.from_residual-in_err-join.ensures.0 in
    record {
      traced = λ _ _. IfOk-from_err _ _ failed;
      rounds = IfOk-from_err _ _ failed;
      asked = IfOk-from_err _ _ failed;
      few = IfOk-from_err _ _ failed;
      too_many = λ many. absurd (not_many _ memory many);
      unchanged = (round.height ∙ (i.height ∙ sym c.requires.height), round.coalition ∙ i.coalition);
      later = only_more _ _ _ _ i.asked round.later;
      told = λ _ _. IfOk-from_err _ _ failed;
      told_many = λ _ _ many. absurd (not_many _ memory many);
    }

pub returns-in_err-add : goal.returns-in_err-add
returns-in_err-add g c =
    let i = c.loop-found.invariant in
    let round = c.round.ensures in
    let p = err_from_is_err_and c.from_residual-in_err-add.result c.from_residual-in_err-add.ensures.1 in
    let memory = p.1 ∙ ap (λ (e : TraceFault). Err e) p.2 in
    let failed = c.from_residual-in_err-add.ensures.0 in
    record {
      traced = λ _ _. IfOk-from_err _ _ failed;
      rounds = IfOk-from_err _ _ failed;
      asked = IfOk-from_err _ _ failed;
      few = IfOk-from_err _ _ failed;
      too_many = λ many. absurd (not_many _ memory many);
      unchanged = (round.height ∙ (i.height ∙ sym c.requires.height), round.coalition ∙ i.coalition);
      later = only_more _ _ _ _ i.asked round.later;
      told = λ _ _. IfOk-from_err _ _ failed;
      told_many = λ _ _ many. absurd (not_many _ memory many);
    }

pub returns-clause-unchanged : goal.returns-clause-unchanged
returns-clause-unchanged g c =
    let i = c.loop-found.invariant in
    (c.round.ensures.height ∙ (i.height ∙ sym c.requires.height), c.round.ensures.coalition ∙ i.coalition)

pub returns-clause-later : goal.returns-clause-later
returns-clause-later g c = only_more _ _ _ _ c.loop-found.invariant.asked c.round.ensures.later

pub returns-clause-few : goal.returns-clause-few
returns-clause-few g c =
    subst (λ (n : ℕ). n ≤ MOST_REVOKED) c.loop-found.invariant.counted c.loop-found.invariant.few

pub returns-then-len-eq-MOST_REVOKED-clause-unchanged : goal.returns-then-len-eq-MOST_REVOKED-clause-unchanged
returns-then-len-eq-MOST_REVOKED-clause-unchanged g c =
    let i = c.loop-found.invariant in
    (c.round.ensures.height ∙ (i.height ∙ sym c.requires.height), c.round.ensures.coalition ∙ i.coalition)

pub returns-then-len-eq-MOST_REVOKED-clause-later : goal.returns-then-len-eq-MOST_REVOKED-clause-later
returns-then-len-eq-MOST_REVOKED-clause-later g c =
    only_more _ _ _ _ c.loop-found.invariant.asked c.round.ensures.later

pub round-requires : goal.round-requires
round-requires g c =
    let i = c.loop-found.invariant in
    rw c.deref.ensures.value (record {
      leaves = i.leaves;
      ascending = i.ascending;
      few = i.few;
      height = i.height;
      room = round_room _ _ _ _ _ _ i.asked c.requires.room i.room i.counted i.few;
    })

pub loop-found-init : goal.loop-found-init
loop-found-init g c =
    let gone = c.in_ok-extend_from_slice.ensures.items
    ∙ ap (λ (us : List ℕ). us ++ c.args.revoked.now) c.new-gone.ensures.items in
    rw (gone, c.new-found.ensures.items) (record {
      height = c.requires.height;
      coalition = refl;
      leaves = c.requires.leaves;
      ascending = c.requires.ascending;
      few = c.requires.few;
      counted = none_more (length c.args.revoked.now);
      asked = none_more (g.B.TestBox.asked c.args.target.now);
      each = nothing;
      room = nothing;
      rounds = λ later more. more;
      traced = λ coalition told later more. more;
      left = λ coalition told. after_none _;
    })

pub join-requires : goal.join-requires
join-requires g c =
    let any = found_of c.args.h c.loop-found.gone.items _ _ _ _ _ c.deref.ensures.value c.in-Some.is
    c.in_ok-next.ensures.value in
    record { ascending = c.loop-found.invariant.ascending; fresh = any.0.fresh }
