-- The sets that a broadcast names for a period, and who is in them.
use Rattle.std.proofs.Common.{◌≡◌, ℕ, ◌-◌, ◌≤◌, false, List, length, get_or}
use Rattle.std.proofs.Common.{refl, inl, inr, arith}
use Rattle.std.specs.Prelude.{All, Contains}
use Rattle.std.proofs.lemmas.Bool.{cases_Bool}
use Rattle.std.proofs.lemmas.List.Elements.{Contains-get_or}
use Rattle.sd_base.proofs.Lists.{is_found}
use Rattle.sd_tree_keys.specs.Leaves.{is_member}
use Rattle.sd_tree_keys.specs.declared.set.SetName.{SetName}
use Rattle.sd_tree_keys.specs.Names.{names_of_receiver}
use Rattle.sd_book.specs.Commands.{revoked, entitled}
use Rattle.sd_book.proofs.Revocations.{below}
use Rattle.sd_cover_tracing.specs.Partition.{IsPartition}
use Rattle.sd_cover_tracing.proofs.Covers.{cover_partition}
use Rattle.sd_cover_tracing.proofs.Partitions.{among_unrevoked}
use Rattle.sd_cover_tracing.proofs.Lists.{counted_some}
use Rattle.sd_cover_tracing.specs.Reach.{ReachesNoneOf}
use Rattle.sd_law_covers.proofs.CoversReach.{revoked_reach_none}
use Rattle.sd_spec.specs.Plan.{Plan, IsPlan, sets_at, period_of}
use Rattle.sd_spec.specs.Refused.{IsSendable}
use Rattle.sd_spec.specs.Sent.{broadcast}
use Rattle.sd_law_broadcast.specs.Packets.{AreLong}
use Rattle.sd_law_broadcast.specs.Named.{sets_named, NamesPeriod}
use Rattle.sd_law_broadcast.proofs.Fitting.{are_leaves, sets_cover, sets_small}
use Rattle.sd_law_broadcast.proofs.Naming.{named_are_sets}

-- a period's sets are disjoint and have the leaves that are entitled in it
pub sets_partition : (plan : Plan) (q : ℕ) → IsPlan plan →
    IsPartition plan.site.height (sets_at plan q) (entitled plan.site.height plan.commands q)
sets_partition plan q is =
    let high = is.site.height.1 in
    cover_partition plan.site.height (revoked plan.site.height plan.commands q) (sets_at plan q) (omega (arith, high))
    (are_leaves plan q) (sets_cover plan q is)

-- none of them has a revoked leaf
pub none_has : (plan : Plan) (q u : ℕ) → IsPlan plan → Contains (revoked plan.site.height plan.commands q) u →
    All (λ name. is_member plan.site.height name u ≡ false) (sets_at plan q)
none_has plan q u is m k d within = elim (cases_Bool (is_member plan.site.height (get_or (sets_at plan q) k d) u)) [
  | inr none ↦ none
  | inl member ↦
      let leaves : List ℕ = revoked plan.site.height plan.commands q in
      let leaf = are_leaves plan q u m in
      let count = sets_partition plan q is u leaf in
      let none = rw (among_unrevoked plan.site.height leaves u leaf, is_found leaves u m) at count in
      let some = counted_some (λ (n : SetName). is_member plan.site.height n u) (sets_at plan q)
      (get_or (sets_at plan q) k d) (Contains-get_or (sets_at plan q) k d within) member in
      absurd (omega (arith, none, some))
]

-- what its names reach is no label or key of one
none_reached : (plan : Plan) (q u : ℕ) → IsPlan plan → Contains (revoked plan.site.height plan.commands q) u →
    ReachesNoneOf (names_of_receiver plan.site.height u) (sets_at plan q)
none_reached plan q u is m =
    let high = is.site.height.1 in
    revoked_reach_none plan.site.height (revoked plan.site.height plan.commands q) (sets_at plan q) u
    (omega (arith, high)) (below plan.site.height plan.commands q) (sets_cover plan q is) m

-- all of this is true of the sets that a broadcast names for a period that it reaches
pub period_named : (plan : Plan) (clear : List (List ℕ)) (q : ℕ) → IsPlan plan → IsSendable plan.site clear →
    AreLong clear → plan.site.first_period ≤ q → q ≤ period_of plan (length clear - 1) →
    NamesPeriod plan q (sets_named plan.site.height plan.site.emm q (broadcast plan clear))
period_named plan clear q is all long from reached =
    let names = named_are_sets plan clear q is all long from reached in
    rw names (record {
      sets = refl;
      partition = sets_partition plan q is;
      small = sets_small plan q is;
      none = λ u m. none_has plan q u is m;
      unreached = λ u m. none_reached plan q u is m;
    })
