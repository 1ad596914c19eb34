-- A chain cover and what the names of revoked leaves reach.
use Rattle.std.proofs.Common.{ℕ, ◌^◌, ◌<◌, ◌≤◌, ◌≡◌, true, false, nat_eq, List}
use Rattle.std.proofs.Common.{arith}
use Rattle.std.specs.Prelude.{◌↔◌, Contains, All, Any}
use Rattle.std.specs.List.{flat_map, list_any}
use Rattle.std.proofs.lemmas.Bool.{false_from_ne_true}
use Rattle.std.proofs.lemmas.List.Elements.{All-contains}
use Rattle.std.proofs.lemmas.List.Folds.{Any-from_list_any}
use Rattle.sd_base.proofs.Lists.{is_found, counted_any}
use Rattle.sd_tree_keys.specs.Leaves.{is_member}
use Rattle.sd_tree_keys.specs.declared.set.SetName.{SetName}
use Rattle.sd_book.specs.declared.command.Command.{Command}
use Rattle.sd_book.specs.Commands.{revoked}
use Rattle.sd_book.proofs.Revocations.{below}
use Rattle.sd_tree_keys.specs.Names.{names_of_receiver}
use Rattle.sd_cover_tracing.specs.Chains.{IsChainCover}
use Rattle.sd_cover_tracing.proofs.Covers.{cover_partition}
use Rattle.sd_cover_tracing.proofs.Heights.{of_height}
use Rattle.sd_cover_tracing.proofs.Partitions.{among_unrevoked}
use Rattle.sd_cover_tracing.proofs.Ends.{AreLeaves}
use Rattle.sd_cover_tracing.proofs.Lists.{counted_some, found_member}
use Rattle.sd_cover_tracing.specs.Reach.{IsReached, Named, Key, ReachesNoneOf, source_of}
use Rattle.sd_cover_tracing.proofs.Reached.{reached_by_one}
use Rattle.sd_cover_tracing.proofs.Own.{reaches_its_sets}

-- no set of a chain cover has a revoked leaf
none_has : (d : ℕ) (leaves : List ℕ) (sets : List SetName) (u : ℕ) → d ≤ 20 → AreLeaves d leaves
    → IsChainCover d leaves sets → Contains leaves u → (name : SetName) → Contains sets name → is_member d name u ≡ true
    → ⊥
none_has d leaves sets u low all cover m name there member =
    let leaf = all u m in
    let count = cover_partition d leaves sets (omega arith) all cover u leaf in
    let none = rw (among_unrevoked d leaves u leaf, is_found leaves u m) at count in
    let some = counted_some (λ (n : SetName). is_member d n u) sets name there member in
    omega arith

-- the names of a revoked leaf reach no set of the cover
pub revoked_reach_none : (d : ℕ) (leaves : List ℕ) (sets : List SetName) (u : ℕ) → d ≤ 20 → All (λ w. w < 2 ^ d) leaves
    → IsChainCover d leaves sets → Contains leaves u → ReachesNoneOf (names_of_receiver d u) sets
revoked_reach_none d leaves sets u low all cover m name there =
    let each : AreLeaves d leaves = λ w. All-contains (λ n. n < 2 ^ d) leaves w all in
    let its = reaches_its_sets d u low (each u m) in
    let height = of_height d leaves sets each cover name there in
    let none = none_has d leaves sets u low each cover m name there in
    (λ r. none ((its.source name height).0 r), λ r. none ((its.key name height).0 r))

-- the same of a book's period
pub revoked_in_book_reach_none : (d : ℕ) (commands : List Command) (q : ℕ) (sets : List SetName) (u : ℕ) → d ≤ 20
    → IsChainCover d (revoked d commands q) sets → Contains (revoked d commands q) u →
    ReachesNoneOf (names_of_receiver d u) sets
revoked_in_book_reach_none d commands q sets u low cover m =
    revoked_reach_none d (revoked d commands q) sets u low (below d commands q) cover m

-- what all leaves of a coalition reach none of, they reach none of together
pool_reaches_none : (d : ℕ) (coalition : List ℕ) (sets : List SetName)
    → ((u : ℕ) → Contains coalition u → ReachesNoneOf (names_of_receiver d u) sets)
    → ReachesNoneOf (flat_map (names_of_receiver d) coalition) sets
pool_reaches_none d coalition sets each name there = (
  λ r. let (k, u, within, is, own) =
      (reached_by_one d coalition (Named (source_of name))).0 r in (each u (k, within, is) name there).0 own,
  λ r. let (k, u, within, is, own) =
      (reached_by_one d coalition (Key name)).0 r in (each u (k, within, is) name there).1 own,
)

-- the names of revoked leaves together reach no set of the cover
pub revoked_pool_reaches_none : (d : ℕ) (leaves : List ℕ) (sets : List SetName) (coalition : List ℕ) → d ≤ 20
    → All (λ w. w < 2 ^ d) leaves → IsChainCover d leaves sets → All (Contains leaves) coalition
    → ReachesNoneOf (flat_map (names_of_receiver d) coalition) sets
revoked_pool_reaches_none d leaves sets coalition low all cover members =
    pool_reaches_none d coalition sets
    (λ u m. revoked_reach_none d leaves sets u low all cover (All-contains (Contains leaves) coalition u members m))

-- the same of a book's period
pub revoked_pool_in_book_reaches_none : (d : ℕ) (commands : List Command) (q : ℕ) (sets : List SetName)
    (coalition : List ℕ) → d ≤ 20 → IsChainCover d (revoked d commands q) sets
    → All (Contains (revoked d commands q)) coalition → ReachesNoneOf (flat_map (names_of_receiver d) coalition) sets
revoked_pool_in_book_reaches_none d commands q sets coalition low cover members =
    revoked_pool_reaches_none d (revoked d commands q) sets coalition low (below d commands q) cover members

-- a leaf that isn't revoked is in a set of the cover, and its names reach the set's key
unrevoked_reach_some : (d : ℕ) (leaves : List ℕ) (sets : List SetName) (u : ℕ) → d ≤ 20 → AreLeaves d leaves
    → IsChainCover d leaves sets → u < 2 ^ d → ¬ Contains leaves u →
    Any (λ name. IsReached (names_of_receiver d u) (Key name)) sets
unrevoked_reach_some d leaves sets u low all cover leaf free =
    let absent : list_any (nat_eq u) leaves ≡ false = false_from_ne_true _ (λ e. free (found_member u leaves e)) in
    let count =
    rw (among_unrevoked d leaves u leaf, absent) at (cover_partition d leaves sets (omega arith) all cover u leaf)
    in
    let (k, name, within, is, member) =
    Any-from_list_any (λ (n : SetName). is_member d n u) sets (counted_any _ sets (omega arith)) in (
      k,
      name,
      within,
      is,
      ((reaches_its_sets d u low leaf).key name (of_height d leaves sets all cover name (k, within, is))).1 member,
    )

-- a leaf's names reach the key of some set of the cover exactly where the leaf isn't revoked
pub cover_reached : (d : ℕ) (leaves : List ℕ) (sets : List SetName) (u : ℕ) → d ≤ 20 → All (λ w. w < 2 ^ d) leaves
    → IsChainCover d leaves sets → u < 2 ^ d → Any (λ name. IsReached (names_of_receiver d u) (Key name)) sets ↔ ¬
    Contains leaves u
cover_reached d leaves sets u low all cover leaf = (
  λ (k, name, within, is, r) m. (revoked_reach_none d leaves sets u low all cover m name (k, within, is)).1 r,
  unrevoked_reach_some d leaves sets u low (λ w. All-contains (λ n. n < 2 ^ d) leaves w all) cover leaf,
)

-- the same of a book's period
pub cover_in_book_reached : (d : ℕ) (commands : List Command) (q : ℕ) (sets : List SetName) (u : ℕ) → d ≤ 20
    → IsChainCover d (revoked d commands q) sets → u < 2 ^ d →
    Any (λ name. IsReached (names_of_receiver d u) (Key name)) sets
    ↔ ¬ Contains (revoked d commands q) u
cover_in_book_reached d commands q sets u low cover leaf =
    cover_reached d (revoked d commands q) sets u low (below d commands q) cover leaf
