-- Inner: one round of a search, and the list of leaves that are revoked or found.
use Rattle.std.specs.Prelude.{◌≡◌, ℕ, ◌+◌, ◌-◌, ◌*◌, ◌^◌, ◌<◌, ◌≤◌, ◌⊎◌, ◌↔◌, true, false, List, All, Contains, length}
use Rattle.std.specs.Prelude.{get_or}
use Rattle.std.specs.Prelude.{Option, Some, None}
use Rattle.std.specs.List.{list_any}
use Rattle.sd_tree_keys.specs.Leaves.{is_member}
use Rattle.sd_tree_keys.specs.SetNames.{IsOfHeight}
use Rattle.sd_tree_keys.specs.declared.set.SetName.{SetName}
use Rattle.sd_tree_keys.specs.declared.set.SetName.TheVariants.{Whole}
use Rattle.sd_cover_tracing.specs.Chains.{IsChainCover}
use Rattle.sd_cover_tracing.specs.Cover.{cover_of}
use Rattle.std.specs.List.Sorted.{IsStrictlyIncreasing}
use Rattle.sd_cover_tracing.specs.declared.found.Found.{Found}
use Rattle.sd_cover_tracing.specs.Halves.{has_some, narrowed_leaf_and_cuts}
use Rattle.sd_cover_tracing.specs.Search.{IsLastOpen, halvings}
use Rattle.sd_cover_tracing.specs.Trace.{IsRound, IsAnyRound}

-- the cover of the leaves that aren't gone, with no more sets than it may have
pub record IsRoundCover (d : ℕ) (gone : List ℕ) (sets : List SetName) : Type 0 where
  pub is : sets ≡ cover_of d gone
  pub cover : IsChainCover d gone sets
  pub names : All (IsOfHeight d) sets
  pub few : length sets < 2 ^ 18

-- what is found among sets, by so many probes, whatever the box answers
pub record IsFoundIn (d : ℕ) (sets : List SetName) (found : Found) : Type 0 where
  pub place : ℕ
  pub within : place < length sets
  pub leaf : found.leaf < 2 ^ d
  pub member : is_member d (get_or sets place Whole) found.leaf ≡ true
  pub splits : found.splits ≤ d
  pub trials : found.splits + 1 ≤ found.trials
  pub turns : 2 ^ (found.trials - found.splits - 1) < 2 * length sets

abbrev pub FindsIn : ℕ → List SetName → ℕ → ℕ → Option Found → Type 0
FindsIn d sets before after None = after ≡ before + 1
FindsIn d sets before after (Some found) = IsFoundIn d sets found × (after ≡ before + found.trials)

-- the leaf of a coalition to which the last of these sets that opens is cut down
pub record IsLastIn (d : ℕ) (coalition : List ℕ) (sets : List SetName) (found : Found) : Type 0 where
  pub place : ℕ
  pub opened : IsLastOpen d coalition sets place
  pub leaf : (found.leaf, found.splits) ≡ narrowed_leaf_and_cuts d coalition d (get_or sets place Whole)
  pub trials : found.trials ≡ 1 + halvings (length sets) 0 (length sets) place + found.splits

abbrev pub FindsLast : ℕ → List ℕ → List SetName → Option Found → Type 0
FindsLast d coalition sets None = list_any (has_some d coalition) sets ≡ false
FindsLast d coalition sets (Some found) = IsLastIn d coalition sets found

-- a round found a leaf by so many probes, or found none by one
abbrev pub RoundOf : ℕ → List ℕ → ℕ → ℕ → Option Found → Type 0
RoundOf d gone before after None = after ≡ before + 1
RoundOf d gone before after (Some found) = IsAnyRound d gone found × (after ≡ before + found.trials)

-- the round of a coalition, which ends where none of its leaves is left
abbrev pub RoundOfCoalition : ℕ → List ℕ → List ℕ → Option Found → Type 0
RoundOfCoalition d coalition gone None = (u : ℕ) → u < 2 ^ d → Contains coalition u → Contains gone u
RoundOfCoalition d coalition gone (Some found) = IsRound d coalition gone found

-- the list has one leaf more
pub record IsJoined (leaf : ℕ) (old new : List ℕ) : Type 0 where
  pub ascending : IsStrictlyIncreasing new
  pub members : (u : ℕ) → Contains new u ↔ ((u ≡ leaf) ⊎ Contains old u)
  pub more : length new ≡ length old + 1
