use Rattle.std.proofs.Common.{◌≡◌, ◌<◌, ◌-◌, ◌++◌, ◌==◌, ℕ, Bool, true, false, List, ap, length, length-append}
use Rattle.std.proofs.Common.{rules, arith}
use Rattle.std.proofs.lemmas.Grind.{common_steps}
use Rattle.std.proofs.lemmas.Result.{on_ok_weaker}
use Rattle.sd_cover_tracing.proofs.Cuts.{node_fits}
use Rattle.sd_cover_tracing.proofs.Added.{added_leaf, added_left, added_right, added_both}
use Rattle.sd_cover_tracing.proofs.walk.+walk.Goals as goal

-- one level down is fewer to go
falls : (level t : ℕ) → level ≡ t → (level ≡ 0 → ⊥) → level - 1 < t
falls level t is up = omega arith

-- the length of a list that is empty
none_is : (n : ℕ) (empty : Bool) → empty ≡ (n == 0) → empty ≡ true → n ≡ 0
none_is n empty is true_is = grind (arith, common_steps)

-- the length of a list that is not
some_is : (n : ℕ) (empty : Bool) → empty ≡ (n == 0) → empty ≡ false → 0 < n
some_is n empty is false_is = grind (arith, common_steps)

-- where the right half is empty, the left one isn't
left_some : (left right leaves : List ℕ) → left ++ right ≡ leaves → 0 < length leaves → length right ≡ 0 →
    0 < length left
left_some left right leaves whole some none = omega (arith, length-append left right, ap length whole)

pub returns-then-level-eq0 : goal.returns-then-level-eq0
returns-then-level-eq0 t c = search (rules, added_leaf)

pub overflow_mul-left_child : goal.overflow_mul-left_child
overflow_mul-left_child t c =
    let fits =
    node_fits c.args.h c.args.level c.args.v c.args.leaves.now c.requires.below c.requires.some c.requires.height in
    omega arith

pub overflow_add-right_child : goal.overflow_add-right_child
overflow_add-right_child t c =
    let fits =
    node_fits c.args.h c.args.level c.args.v c.args.leaves.now c.requires.below c.requires.some c.requires.height in
    omega arith

pub returns-then-is_empty : goal.returns-then-is_empty
returns-then-is_empty t c =
    let none = none_is _ _ c.is_empty.ensures c.if-is_empty.true in
    on_ok_weaker c.walk.result
    (λ added. added_left c.args.h c.args.level c.args.head c.args.v c.args.leaves.now c.halves.result.0.now
    c.halves.result.1.now _ _ (omega arith) c.requires.some c.requires.below c.halves.ensures.whole
    c.halves.ensures.left c.halves.ensures.right none added)
    c.walk.ensures

pub returns-then-is_empty-2 : goal.returns-then-is_empty-2
returns-then-is_empty-2 t c =
    let none = none_is _ _ c.is_empty-else-is_empty.ensures c.if-is_empty-2.true in
    on_ok_weaker c.walk-then-is_empty-2.result
    (λ added. added_right c.args.h c.args.level c.args.head c.args.v c.args.leaves.now c.halves.result.0.now
    c.halves.result.1.now _ _ (omega arith) c.requires.some c.requires.below c.halves.ensures.whole
    c.halves.ensures.left c.halves.ensures.right none added)
    c.walk-then-is_empty-2.ensures

pub returns-in_ok-walk : goal.returns-in_ok-walk
returns-in_ok-walk t c =
    let some_right = some_is _ _ c.is_empty.ensures c.if-is_empty.false in
    let some_left = some_is _ _ c.is_empty-else-is_empty.ensures c.if-is_empty-2.false in
    on_ok_weaker c.walk-else-is_empty-2-2.result
    (λ added. added_both c.args.h c.args.level c.args.head c.args.v c.args.leaves.now c.halves.result.0.now
    c.halves.result.1.now _ _ _ _ (omega arith) c.requires.some c.requires.below c.halves.ensures.whole
    c.halves.ensures.left c.halves.ensures.right some_left some_right c.in_ok-push_chain.ensures
    c.in_ok-walk.ensures added)
    c.walk-else-is_empty-2-2.ensures

pub walk-requires : goal.walk-requires
walk-requires t c =
    let none = none_is _ _ c.is_empty.ensures c.if-is_empty.true in
    let some = left_some _ _ _ c.halves.ensures.whole c.requires.some none in
    (falls c.args.level t c.decreases c.if-level-eq0.false, (c.requires.height, (some, c.halves.ensures.left)))

pub walk-requires-then-is_empty-2 : goal.walk-requires-then-is_empty-2
walk-requires-then-is_empty-2 t c =
    let some = some_is _ _ c.is_empty.ensures c.if-is_empty.false in
    (falls c.args.level t c.decreases c.if-level-eq0.false, (c.requires.height, (some, c.halves.ensures.right)))

pub walk-requires-else-is_empty-2 : goal.walk-requires-else-is_empty-2
walk-requires-else-is_empty-2 t c =
    let some = some_is _ _ c.is_empty-else-is_empty.ensures c.if-is_empty-2.false in
    (falls c.args.level t c.decreases c.if-level-eq0.false, (c.requires.height, (some, c.halves.ensures.left)))

pub walk-requires-else-is_empty-2-2 : goal.walk-requires-else-is_empty-2-2
walk-requires-else-is_empty-2-2 t c =
    let some = some_is _ _ c.is_empty.ensures c.if-is_empty.false in
    (falls c.args.level t c.decreases c.if-level-eq0.false, (c.requires.height, (some, c.halves.ensures.right)))
