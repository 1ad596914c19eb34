-- Public meaning: the leaves that a box still opens for, in the order in which they are found [Naor,
-- Naor, Lotspiech 2001, 5].
use Rattle.std.specs.Prelude.{◌≡◌, ◌&&◌, not, nat_eq, filter, ℕ, zero, suc, ◌+◌, ◌-◌, ◌*◌, ◌^◌, ◌<◌, ◌≤◌, max, List, []}
use Rattle.std.specs.Prelude.{◌∷◌, Contains, length, get_or, Option, Some, None, if◌then◌else◌}
use Rattle.std.specs.List.{list_any}
use Rattle.std.specs.Option.{option_map_or}
use Rattle.sd_tree_keys.specs.Leaves.{leaves}
use Rattle.sd_tree_keys.specs.declared.set.SetName.{SetName}
use Rattle.sd_tree_keys.specs.declared.set.SetName.TheVariants.{Whole}
use Rattle.sd_cover_tracing.specs.Cover.{cover_of}
use Rattle.sd_cover_tracing.specs.declared.found.Found.{Found}
use Rattle.sd_cover_tracing.specs.Halves.{has_some, narrowed_leaf_and_cuts}
use Rattle.sd_cover_tracing.specs.Search.{halvings, IsLastOpen}

-- What one round finds where these leaves are revoked or found: of the cover's sets the last that opens is cut down to
-- a leaf [Naor, Naor, Lotspiech 2001, 5; this project, docs/FORMATS.md, Tracing].
pub record IsRound (d : ℕ) (coalition gone : List ℕ) (found : Found) : Type 0 where
  pub place : ℕ
  pub opened : IsLastOpen d coalition (cover_of d gone) place
  pub leaf : (found.leaf, found.splits) ≡ narrowed_leaf_and_cuts d coalition d (get_or (cover_of d gone) place Whole)
  pub trials : found.trials ≡ 1 + halvings (length (cover_of d gone)) 0 (length (cover_of d gone)) place + found.splits

-- what all rounds find, until no leaf of the coalition is left
unfoldable pub IsTrace : ℕ → List ℕ → List ℕ → List Found → Type 0
IsTrace d coalition gone [] = (u : ℕ) → u < 2 ^ d → Contains coalition u → Contains gone u
IsTrace d coalition gone (found ∷ later) = IsRound d coalition gone found × IsTrace d coalition (found.leaf ∷ gone)
    later

-- what one round keeps to, whatever the box answers
pub record IsAnyRound (d : ℕ) (gone : List ℕ) (found : Found) : Type 0 where
  pub leaf : found.leaf < 2 ^ d
  pub fresh : ¬ Contains gone found.leaf
  pub splits : found.splits ≤ d
  pub trials : found.splits + 1 ≤ found.trials
  pub turns : 2 ^ (found.trials - found.splits - 1) < 2 * length (cover_of d gone)

-- what all rounds keep to, whatever the box answers
unfoldable pub AreAnyRounds : ℕ → List ℕ → List Found → Type 0
AreAnyRounds d gone [] = Unit {0}
AreAnyRounds d gone (found ∷ later) = IsAnyRound d gone found × AreAnyRounds d (found.leaf ∷ gone) later

-- the leaves of the coalition that aren't among these, ascending
abbrev pub not_among : ℕ → List ℕ → List ℕ → List ℕ
not_among d gone coalition = filter (λ u. list_any (nat_eq u) coalition && not (list_any (nat_eq u) gone)) (leaves d)

-- the leaf was found by few probes where n leaves were revoked or found before: one, at most d cuts, and x halvings,
-- where 2^x is below twice the greatest number of sets that a cover of n leaves has [Naor, Naor, Lotspiech 2001, 3.2
-- and 5]
pub record IsCheap (d n : ℕ) (found : Found) : Type 0 where
  pub splits : found.splits ≤ d
  pub trials : found.splits + 1 ≤ found.trials
  pub turns : 2 ^ (found.trials - found.splits - 1) < 2 * max 1 (2 * n - 1)

-- the place of the last set with a leaf of the coalition
unfoldable pub last_open : ℕ → List ℕ → List SetName → Option ℕ
last_open d coalition [] = None
last_open d coalition (name ∷ sets) =
    option_map_or (λ z. Some (suc z)) (last_open d coalition sets) (if has_some d coalition name then Some 0 else None)

-- what is found where the set at place z is cut down to a leaf: by one probe of all sets, the halvings that lead to the
-- place, and the cuts [Naor, Naor, Lotspiech 2001, 5; this project, docs/FORMATS.md, Tracing]
unfoldable pub found_at : ℕ → List ℕ → List SetName → ℕ → Found
found_at d coalition sets z =
    let cut = narrowed_leaf_and_cuts d coalition d (get_or sets z Whole) in
    record { leaf = cut.0; trials = 1 + halvings (length sets) 0 (length sets) z + cut.1; splits = cut.1 }

-- what is found in so many rounds where these leaves are revoked or found, as long as a set opens
unfoldable pub found_in : ℕ → List ℕ → List ℕ → ℕ → List Found
found_in d coalition gone zero = []
found_in d coalition gone (suc rounds) =
    option_map_or (λ z. found_at d coalition (cover_of d gone) z
    ∷ found_in d coalition ((found_at d coalition (cover_of d gone) z).leaf ∷ gone) rounds)
    (last_open d coalition (cover_of d gone)) []

-- the trace of a coalition: a round for each of its leaves that isn't revoked [this project, docs/FORMATS.md, Tracing]
abbrev pub trace_of : ℕ → List ℕ → List ℕ → List Found
trace_of d coalition revoked = found_in d coalition revoked (length (not_among d revoked coalition))
