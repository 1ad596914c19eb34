use Rattle.std.proofs.Common.{◌≡◌, ◌+◌, ◌-◌, ◌*◌, ◌<◌, ◌≤◌, ℕ, ap, refl, arith}
use Rattle.std.specs.Ordering.{nat_cmp}
use Rattle.std.specs.FinMap.{FinMap}
use Rattle.std.proofs.Math.Pow.{pow_mono}
use Rattle.std.proofs.lemmas.Result.{on_ok_weaker}
use Rattle.sd_tree_keys.specs.declared.height.TheConstants.{HIGHEST}
use Rattle.sd_cover_tracing.specs.Walk.{IsOnChain}
use Rattle.sd_cover_tracing.specs.Walk.{StandsAt}
use Rattle.sd_cover_tracing.specs.Index.{IsIndex, indexed_leaves}
use Rattle.sd_cover_tracing.specs.declared.counts.TheConstants.{NODES}
use Rattle.sd_cover_tracing.proofs.Bridge.{stands_high}
use Rattle.sd_cover_tracing.proofs.Walks.{IsInner, at_left, at_right, split, some_count, chain_left, chain_right}
use Rattle.sd_cover_tracing.proofs.Walks.{begins_left}
use Rattle.sd_cover_tracing.proofs.Walks.{begins_right, added_leaf, added_left, added_right, added_both, steps_one}
use Rattle.sd_cover_tracing.proofs.Walks.{steps_two}
use Rattle.sd_cover_tracing.proofs.sets.+walk.Goals as goal

-- a height is a small number
small : (d : ℕ) → d ≤ HIGHEST → d < 32
small d tall = omega arith

-- what is not none is some
some_of : (n m : ℕ) → n ≡ m → (n ≡ 0 → ⊥) → 0 < m
some_of n m is some = omega arith

-- what is none stays none
none_of : (n m : ℕ) → n ≡ m → n ≡ 0 → m ≡ 0
none_of n m is none = cc

-- one level down is fewer to go
falls : (level t : ℕ) → level ≡ t → (level ≡ 0 → ⊥) → level - 1 < t
falls level t is up = omega arith

-- the left child's leaves are all where none is left
all_left : (whole l : ℕ) → l ≤ whole → whole - l ≡ 0 → l ≡ whole
all_left whole l within none = omega arith

-- the right child's are all where the left has none
all_right : (whole l : ℕ) → l ≡ 0 → whole - l ≡ whole
all_right whole l none = omega arith

-- the steps below a node where one child counts
one_step : (whole tally part level old first new : ℕ) → whole ≡ tally → 0 < tally → part ≡ whole → 0 < level →
    first ≡ old + 1 → new ≤ first + part * (level - 1) → new ≤ old + whole * level
one_step whole tally part level old first new is some same up begun more =
    let product = ap (λ (n : ℕ). n * (level - 1)) same in
    let bound = steps_one whole level (omega arith) up in
    omega arith

-- the steps below a node where both count
two_steps : (whole l level old first mid new : ℕ) → l ≤ whole → (l ≡ 0 → ⊥) → 0 < level → first ≡ old + 1 →
    mid ≤ first + l * (level - 1) → new ≤ mid + (whole - l) * (level - 1) → new ≤ old + whole * level
two_steps whole l level old first mid new within some up begun more most =
    let sum : l + (whole - l) ≡ whole = omega arith in
    let product = ap (λ (n : ℕ). n * level) sum in
    let bound = steps_two l (whole - l) level (omega arith) up in
    omega arith

-- the steps of the first child are no more than those of both
first_steps : (whole l level old first mid : ℕ) → l ≤ whole → (l ≡ 0 → ⊥) → 0 < level → first ≡ old + 1 →
    mid ≤ first + l * (level - 1) → mid ≤ old + whole * level
first_steps whole l level old first mid within some up begun more =
    two_steps whole l level old first mid mid within some up begun more (omega arith)

-- the node of a call that isn't a leaf's
inner : {d level head v : ℕ} {m : FinMap nat_cmp ℕ} → d ≤ HIGHEST → 0 < level → IsIndex d m → StandsAt d level v →
    IsOnChain d (indexed_leaves d m) head v → IsInner d m level head v
inner tall up is at on = record { small = omega arith; index = is; up = up; at = at; on = on }

-- a left child's number is one of a node
child_fits : {d level head v : ℕ} {m : FinMap nat_cmp ℕ} → d ≤ HIGHEST → IsInner d m level head v → 2 * v < NODES
child_fits {d} {level} {head} {v} tall here =
    let high = stands_high d (level - 1) (2 * v + 1) (at_right here) in
    let most = pow_mono {i = d + 1} {j = 21} (omega arith) in
    omega arith

pub returns-then-level-eq0-clause-value : goal.returns-then-level-eq0-clause-value
returns-then-level-eq0-clause-value g t c =
    let adds = added_leaf c.args.h c.args.counts.now.counts (small c.args.h c.requires.height) c.requires.index
    c.args.level c.args.head in
    on_ok_weaker c.push_chain.result (adds c.args.v _ _ c.if-level-eq0.true c.requires.stands c.requires.chain)
    c.push_chain.ensures.value

pub get-left-requires-clause-high : goal.get-left-requires-clause-high
get-left-requires-clause-high g t c =
    let up = some_of c.args.level c.args.level refl c.if-level-eq0.false in
    child_fits c.requires.height (inner c.requires.height up c.requires.index c.requires.stands c.requires.chain)

pub overflow_sub-right : goal.overflow_sub-right
overflow_sub-right g t c =
    let up = some_of c.args.level c.args.level refl c.if-level-eq0.false in
    let here = inner c.requires.height up c.requires.index c.requires.stands c.requires.chain in
    let left = c.get-left.ensures.value in
    let parts = split here c.args.revoked c.get-left.result c.requires.revoked left in
    parts.0

pub walk-requires : goal.walk-requires
walk-requires g t c =
    let up = some_of c.args.level c.args.level refl c.if-level-eq0.false in
    let here = inner c.requires.height up c.requires.index c.requires.stands c.requires.chain in
    let left = c.get-left.ensures.value in
    let parts = split here c.args.revoked c.get-left.result c.requires.revoked left in
    let none = none_of _ _ parts.1 c.if-right-eq0.true in
    λ κs lives. (
      falls c.args.level t c.decreases c.if-level-eq0.false,
      (lives, (c.requires.height, (c.requires.index, (at_left here, (left, chain_left here none))))),
    )

pub walk-requires-then-left-eq0 : goal.walk-requires-then-left-eq0
walk-requires-then-left-eq0 g t c =
    let up = some_of c.args.level c.args.level refl c.if-level-eq0.false in
    let here = inner c.requires.height up c.requires.index c.requires.stands c.requires.chain in
    let left = c.get-left.ensures.value in
    let parts = split here c.args.revoked c.get-left.result c.requires.revoked left in
    let none = none_of _ _ left c.if-left-eq0.true in
    λ κs lives. (
      falls c.args.level t c.decreases c.if-level-eq0.false,
      (lives, (c.requires.height, (c.requires.index, (at_right here, (parts.1, chain_right here none))))),
    )

pub walk-requires-else-left-eq0 : goal.walk-requires-else-left-eq0
walk-requires-else-left-eq0 g t c =
    let up = some_of c.args.level c.args.level refl c.if-level-eq0.false in
    let here = inner c.requires.height up c.requires.index c.requires.stands c.requires.chain in
    let left = c.get-left.ensures.value in
    let parts = split here c.args.revoked c.get-left.result c.requires.revoked left in
    let some_left = some_of _ _ left c.if-left-eq0.false in
    let some_right = some_of _ _ parts.1 c.if-right-eq0.false in
    λ κs lives. (
      falls c.args.level t c.decreases c.if-level-eq0.false,
      (lives, (c.requires.height, (c.requires.index, (at_left here, (left, begins_left here some_left some_right))))),
    )

pub walk-requires-else-left-eq0-2 : goal.walk-requires-else-left-eq0-2
walk-requires-else-left-eq0-2 g t c =
    let up = some_of c.args.level c.args.level refl c.if-level-eq0.false in
    let here = inner c.requires.height up c.requires.index c.requires.stands c.requires.chain in
    let left = c.get-left.ensures.value in
    let parts = split here c.args.revoked c.get-left.result c.requires.revoked left in
    let some_left = some_of _ _ left c.if-left-eq0.false in
    let some_right = some_of _ _ parts.1 c.if-right-eq0.false in
    λ κs lives. (
      falls c.args.level t c.decreases c.if-level-eq0.false,
      (
        lives,
        (c.requires.height, (c.requires.index, (at_right here, (parts.1, begins_right here some_left some_right)))),
      ),
    )

pub returns-then-right-eq0-clause-value : goal.returns-then-right-eq0-clause-value
returns-then-right-eq0-clause-value g t c =
    let up = some_of c.args.level c.args.level refl c.if-level-eq0.false in
    let here = inner c.requires.height up c.requires.index c.requires.stands c.requires.chain in
    let left = c.get-left.ensures.value in
    let parts = split here c.args.revoked c.get-left.result c.requires.revoked left in
    let none = none_of _ _ parts.1 c.if-right-eq0.true in
    on_ok_weaker c.walk.result (added_left here _ _ none) c.walk.ensures.value

pub returns-then-left-eq0-clause-value : goal.returns-then-left-eq0-clause-value
returns-then-left-eq0-clause-value g t c =
    let up = some_of c.args.level c.args.level refl c.if-level-eq0.false in
    let here = inner c.requires.height up c.requires.index c.requires.stands c.requires.chain in
    let left = c.get-left.ensures.value in
    let parts = split here c.args.revoked c.get-left.result c.requires.revoked left in
    let none = none_of _ _ left c.if-left-eq0.true in
    on_ok_weaker c.walk-then-left-eq0.result (added_right here _ _ none) c.walk-then-left-eq0.ensures.value

pub returns-in_ok-walk-clause-value : goal.returns-in_ok-walk-clause-value
returns-in_ok-walk-clause-value g t c =
    let up = some_of c.args.level c.args.level refl c.if-level-eq0.false in
    let here = inner c.requires.height up c.requires.index c.requires.stands c.requires.chain in
    let left = c.get-left.ensures.value in
    let parts = split here c.args.revoked c.get-left.result c.requires.revoked left in
    let some_left = some_of _ _ left c.if-left-eq0.false in
    let some_right = some_of _ _ parts.1 c.if-right-eq0.false in
    let begun = c.in_ok-push_chain.ensures.value in
    let adds = added_both here _ _ _ _ some_left some_right begun c.in_ok-walk.ensures.value in
    on_ok_weaker c.walk-else-left-eq0-2.result adds c.walk-else-left-eq0-2.ensures.value

pub returns-then-right-eq0-clause-steps : goal.returns-then-right-eq0-clause-steps
returns-then-right-eq0-clause-steps g t c =
    let up = some_of c.args.level c.args.level refl c.if-level-eq0.false in
    let here = inner c.requires.height up c.requires.index c.requires.stands c.requires.chain in
    let left = c.get-left.ensures.value in
    let parts = split here c.args.revoked c.get-left.result c.requires.revoked left in
    let all = all_left c.args.revoked c.get-left.result parts.0 c.if-right-eq0.true in
    one_step c.args.revoked _ _ c.args.level _ _ _ c.requires.revoked (some_count here) all up
    c.get-left.ensures.steps c.walk.ensures.steps

pub returns-then-left-eq0-clause-steps : goal.returns-then-left-eq0-clause-steps
returns-then-left-eq0-clause-steps g t c =
    let up = some_of c.args.level c.args.level refl c.if-level-eq0.false in
    let here = inner c.requires.height up c.requires.index c.requires.stands c.requires.chain in
    let left = c.get-left.ensures.value in
    let parts = split here c.args.revoked c.get-left.result c.requires.revoked left in
    let all = all_right c.args.revoked c.get-left.result c.if-left-eq0.true in
    one_step c.args.revoked _ _ c.args.level _ _ _ c.requires.revoked (some_count here) all up
    c.get-left.ensures.steps c.walk-then-left-eq0.ensures.steps

pub returns-in_err-walk-clause-steps : goal.returns-in_err-walk-clause-steps
returns-in_err-walk-clause-steps g t c =
    let up = some_of c.args.level c.args.level refl c.if-level-eq0.false in
    let here = inner c.requires.height up c.requires.index c.requires.stands c.requires.chain in
    let left = c.get-left.ensures.value in
    let parts = split here c.args.revoked c.get-left.result c.requires.revoked left in
    first_steps c.args.revoked c.get-left.result c.args.level _ _ _ parts.0 c.if-left-eq0.false up
    c.get-left.ensures.steps c.walk-else-left-eq0.ensures.steps

pub returns-in_ok-walk-clause-steps : goal.returns-in_ok-walk-clause-steps
returns-in_ok-walk-clause-steps g t c =
    let up = some_of c.args.level c.args.level refl c.if-level-eq0.false in
    let here = inner c.requires.height up c.requires.index c.requires.stands c.requires.chain in
    let left = c.get-left.ensures.value in
    let parts = split here c.args.revoked c.get-left.result c.requires.revoked left in
    two_steps c.args.revoked c.get-left.result c.args.level _ _ _ _ parts.0 c.if-left-eq0.false up
    c.get-left.ensures.steps c.walk-else-left-eq0.ensures.steps c.walk-else-left-eq0-2.ensures.steps
