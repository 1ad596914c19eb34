-- One round more, and those to come.
use Rattle.std.proofs.Common.{◌≡◌, ℕ, ◌+◌, ◌*◌, ◌-◌, ◌^◌, ◌<◌, List, [], ◌∷◌, length}
use Rattle.std.proofs.Common.{get_or, sym, subst, inl, inr}
use Rattle.std.specs.Prelude.{◌↔◌, All, Contains}
use Rattle.std.proofs.lemmas.List.Elements.{All-contains, Contains-get_or}
use Rattle.sd_tree_keys.specs.declared.set.SetName.{SetName}
use Rattle.sd_tree_keys.specs.declared.set.SetName.TheVariants.{Whole}
use Rattle.sd_cover_tracing.proofs.Lists.{member_cases, member_first, member_later}
use Rattle.sd_cover_tracing.proofs.There.{same_leaves}
use Rattle.sd_cover_tracing.specs.declared.found.Found.{Found}
use Rattle.sd_cover_tracing.specs.Halves.{narrowed_leaf_and_cuts}
use Rattle.sd_cover_tracing.specs.Search.{halvings, IsLastOpen}
use Rattle.sd_cover_tracing.specs.Rounds.{IsJoined}
use Rattle.sd_cover_tracing.specs.Trace.{IsRound, IsAnyRound, IsTrace, AreAnyRounds}

-- lists of the same leaves
abbrev pub SameLeaves : List ℕ → List ℕ → Type 0
SameLeaves a b = (u : ℕ) → Contains a u ↔ Contains b u

-- with one more each
same_more : (v : ℕ) (a b : List ℕ) → SameLeaves a b → SameLeaves (v ∷ a) (v ∷ b)
same_more v a b same u = (
  λ m. elim (member_cases v a u m) [
    | inl is ↦ subst (Contains (v ∷ b)) is (member_first v b)
    | inr later ↦ member_later v b u ((same u).0 later)
  ],
  λ m. elim (member_cases v b u m) [
    | inl is ↦ subst (Contains (v ∷ a)) is (member_first v a)
    | inr later ↦ member_later v a u ((same u).1 later)
  ],
)

-- rounds ask for the leaves that are gone, in whatever order
any_round_same : (d : ℕ) (a b : List ℕ) (found : Found) → d < 32 → SameLeaves a b → IsAnyRound d a found →
    IsAnyRound d b found
any_round_same d a b found low same r = record {
  leaf = r.leaf;
  fresh = λ m. r.fresh ((same found.leaf).1 m);
  splits = r.splits;
  trials = r.trials;
  turns = subst (λ (sets : List SetName). 2 ^ (found.trials - found.splits - 1) < 2 * length sets)
      (same_leaves d a b low same) r.turns;
}

pub any_rounds_same : (d : ℕ) (a b : List ℕ) (found : List Found) → d < 32 → SameLeaves a b → AreAnyRounds d a found →
    AreAnyRounds d b found
unfolding AreAnyRounds
any_rounds_same d a b [] low same r = tt
any_rounds_same d a b (f ∷ fs) low same r = (
  any_round_same d a b f low same r.0,
  any_rounds_same d (f.leaf ∷ a) (f.leaf ∷ b) fs low (same_more f.leaf a b same)
      r.1,
)

round_same : (d : ℕ) (coalition a b : List ℕ) (found : Found) → d < 32 → SameLeaves a b → IsRound d coalition a found →
    IsRound d coalition b found
round_same d coalition a b found low same r =
    let is = same_leaves d a b low same in
    record {
      place = r.place;
      opened = subst (λ (sets : List SetName). IsLastOpen d coalition sets r.place) is r.opened;
      leaf = subst (λ (sets : List SetName). (found.leaf, found.splits) ≡ narrowed_leaf_and_cuts d coalition d
          (get_or sets r.place Whole)) is r.leaf;
      trials = subst (λ (sets : List SetName). found.trials ≡ 1 + halvings (length sets) 0 (length sets) r.place
          + found.splits) is r.trials;
    }

pub trace_same : (d : ℕ) (coalition a b : List ℕ) (found : List Found) → d < 32 → SameLeaves a b →
    IsTrace d coalition a found → IsTrace d coalition b found
unfolding IsTrace
trace_same d coalition a b [] low same r = λ u leaf m. (same u).0 (r u leaf m)
trace_same d coalition a b (f ∷ fs) low same r = (
  round_same d coalition a b f low same r.0,
  trace_same d coalition (f.leaf ∷ a) (f.leaf ∷ b) fs low (same_more f.leaf a b same) r.1,
)

-- what is joined has the leaves of the list with the leaf before them
joined_same : (v : ℕ) (old new : List ℕ) → IsJoined v old new → SameLeaves new (v ∷ old)
joined_same v old new joined u = (
  λ m. elim ((joined.members u).0 m) [
    | inl is ↦ subst (Contains (v ∷ old)) (sym is) (member_first v old)
    | inr before ↦ member_later v old u before
  ],
  λ m. elim (member_cases v old u m) [
    | inl is ↦ (joined.members u).1 (inl (sym is))
    | inr before ↦ (joined.members u).1 (inr before)
  ],
)

-- one round more of any box
pub rounds_more : (d : ℕ) (gone new : List ℕ) (found : Found) (later : List Found) → d < 32 → IsAnyRound d gone found →
    IsJoined found.leaf gone new → AreAnyRounds d new later → AreAnyRounds d gone (found ∷ later)
unfolding AreAnyRounds
rounds_more d gone new found later low one joined more =
    (one, any_rounds_same d new (found.leaf ∷ gone) later low (joined_same found.leaf gone new joined) more)

-- and of one that tells its coalition
pub trace_more : (d : ℕ) (coalition gone new : List ℕ) (found : Found) (later : List Found) → d < 32 →
    IsRound d coalition gone found → IsJoined found.leaf gone new → IsTrace d coalition new later →
    IsTrace d coalition gone (found ∷ later)
unfolding IsTrace
trace_more d coalition gone new found later low one joined more =
    (one, trace_same d coalition new (found.leaf ∷ gone) later low (joined_same found.leaf gone new joined) more)

-- all leaves of the longer list are of the height
pub joined_leaves : (d v : ℕ) (old new : List ℕ) → v < 2 ^ d → All (λ u. u < 2 ^ d) old → IsJoined v old new →
    All (λ u. u < 2 ^ d) new
joined_leaves d v old new leaf all joined k other within =
    elim ((joined.members (get_or new k other)).0 (Contains-get_or new k other within)) [
      | inl is ↦ rw is leaf
      | inr before ↦ All-contains (λ u. u < 2 ^ d) old (get_or new k other) all before
    ]

-- no round of any box
pub none_any : (d : ℕ) (gone : List ℕ) → AreAnyRounds d gone []
unfolding AreAnyRounds
none_any d gone = tt

-- one round by itself
pub one_any : (d : ℕ) (gone : List ℕ) (found : Found) → IsAnyRound d gone found → AreAnyRounds d gone (found ∷ [])
unfolding AreAnyRounds
one_any d gone found one = (one, tt)

-- no round of a coalition of which no leaf is left
pub none_traced : (d : ℕ) (coalition gone : List ℕ) → ((u : ℕ) → u < 2 ^ d → Contains coalition u → Contains gone u) →
    IsTrace d coalition gone []
unfolding IsTrace
none_traced d coalition gone none = none
