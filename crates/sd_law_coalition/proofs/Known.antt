-- What is known is what the pooled names reach, and the periods in which a leaf of the coalition isn't revoked.
use Rattle.std.proofs.Common.{ℕ, ◌/◌, ◌^◌, ◌<◌, ◌≤◌, ◌≡◌, Bool, true, false, not, nat_eq, List, [], ◌∷◌}
use Rattle.std.proofs.Common.{eq-eqb, refl, sym, subst, arith}
use Rattle.std.specs.Prelude.{◌↔◌, Contains, All, Any}
use Rattle.std.specs.List.{flat_map, list_any}
use Rattle.std.proofs.Math.Nat.{min-le_right}
use Rattle.std.proofs.lemmas.Bool.{false≢true, false_from_ne_true}
use Rattle.std.proofs.lemmas.List.Elements.{All-cons, All-contains, All-filter, All-from_get_or, All-nil, All-weaker}
use Rattle.std.proofs.lemmas.List.Elements.{filter_passes}
use Rattle.std.proofs.lemmas.List.Folds.{list_any_at}
use Rattle.std.proofs.lemmas.List.FromFn.{length-range_with_len, get_or-range_with_len}
use Rattle.sd_base.proofs.Lists.{all_by}
use Rattle.sd_tree_keys.specs.Leaves.{is_member, leaves}
use Rattle.sd_tree_keys.specs.SetNames.{IsOfHeight}
use Rattle.sd_tree_keys.specs.declared.set.SetName.{SetName}
use Rattle.sd_tree_keys.specs.Names.{names_of_receiver}
use Rattle.sd_book.specs.Commands.{entitled, last_period}
use Rattle.sd_book.proofs.Revocations.{below}
use Rattle.sd_cover_tracing.specs.Chains.{IsChainCover}
use Rattle.sd_cover_tracing.proofs.Heights.{of_height}
use Rattle.sd_cover_tracing.proofs.There.{the_cover}
use Rattle.sd_cover_tracing.proofs.Lists.{only_member}
use Rattle.sd_cover_tracing.specs.Reach.{Secret, Named, Key, IsGeneratorStep, IsHeld, IsReached}
use Rattle.sd_cover_tracing.proofs.Derivation.{Reach, at_first, by_rule, from_derived, to_derived, passes}
use Rattle.sd_cover_tracing.proofs.Reached.{held_is_reached, next_is_reached, reached_by_one}
use Rattle.sd_cover_tracing.proofs.Own.{member_reaches_together}
use Rattle.sd_law_covers.proofs.CoversReach.{cover_reached}
use Rattle.sd_law_coalition.specs.Know.{Service, Knowable, OfTree, PeriodKey, ControlWord, IsKnowledgeStep, generated}
use Rattle.sd_law_coalition.specs.Know.{entitled as of_set}
use Rattle.sd_law_coalition.specs.Know.{controlled, IsPooled, IsKnown, HasUnrevoked, KnowsNothingOf, KnowsPeriod}
use Rattle.sd_law_coalition.specs.Know.{period_of_word}
use Rattle.sd_law_coalition.specs.Know.{revoked_at, service_sets}

-- what is known, by how it came in
abbrev Had : Service → List ℕ → Knowable → Type 0
Had service coalition item = Reach (IsPooled service.height coalition) (IsKnowledgeStep service) item

-- what is known has come in by the rules
pub from_known : (service : Service) (coalition : List ℕ) (item : Knowable) → IsKnown service coalition item
    → Had service coalition item
unfolding IsKnown
from_known service coalition item k = from_derived (IsPooled service.height coalition) (IsKnowledgeStep service) item k

-- what has come in by the rules is known
pub to_known : (service : Service) (coalition : List ℕ) (item : Knowable) → Had service coalition item
    → IsKnown service coalition item
unfolding IsKnown
to_known service coalition item r = to_derived (IsPooled service.height coalition) (IsKnowledgeStep service) item r

-- what the cards hold is known
pub held_is_known : (service : Service) (coalition : List ℕ) (item : Knowable) → IsPooled service.height coalition item
    → IsKnown service coalition item
held_is_known service coalition item is = to_known service coalition item (at_first is)

-- what follows from what is known is known
pub next_is_known : (service : Service) (coalition : List ℕ) (from to : Knowable) → IsKnown service coalition from
    → IsKnowledgeStep service from to → IsKnown service coalition to
next_is_known service coalition from to k y =
    to_known service coalition to (by_rule (from_known service coalition from k) y)

-- a test that what the cards hold passes, and what follows from what passes, is passed by all that is known
pub known_passes : (service : Service) (coalition : List ℕ) (test : Knowable → Bool)
    → ((item : Knowable) → IsPooled service.height coalition item → test item ≡ true)
    → ((from to : Knowable) → IsKnowledgeStep service from to → test from ≡ true → test to ≡ true) → (item : Knowable)
    → IsKnown service coalition item → test item ≡ true
known_passes service coalition test is closed item k =
    passes (IsPooled service.height coalition) (IsKnowledgeStep service) test is closed
    (from_known service coalition item k)

-- the sets of a period are the chain cover of its revoked leaves
cover_at : (service : Service) (q : ℕ) → service.height ≤ 20
    → IsChainCover service.height (revoked_at service q) (service_sets service q)
unfolding service_sets
cover_at service q low =
    (the_cover service.height (revoked_at service q) (service_sets service q) (omega arith)
    (λ u m. All-contains (λ w. w < 2 ^ service.height) (revoked_at service q) u
    (below service.height service.commands q) m)).1 refl

-- they are of the tree's height
height_at : (service : Service) (q : ℕ) (name : SetName) → service.height ≤ 20 → Contains (service_sets service q) name
    → IsOfHeight service.height name
height_at service q name low there =
    of_height service.height (revoked_at service q) (service_sets service q)
    (λ u m. All-contains (λ w. w < 2 ^ service.height) (revoked_at service q) u
    (below service.height service.commands q) m)
    (cover_at service q low) name there

-- a leaf's names reach the key of some set of a period exactly where it isn't revoked in it
pub reached_at : (service : Service) (q u : ℕ) → service.height ≤ 20 → u < 2 ^ service.height
    → Any (λ name. IsReached (names_of_receiver service.height u) (Key name)) (service_sets service q)
    ↔ ¬ Contains (revoked_at service q) u
reached_at service q u low leaf =
    cover_reached service.height (revoked_at service q) (service_sets service q) u low
    (below service.height service.commands q) (cover_at service q low) leaf

-- what is known comes to: a secret is reached, and a period has an unrevoked leaf
abbrev Comes : Service → List ℕ → Knowable → Type 0
Comes service coalition (OfTree secret) = IsReached (flat_map (names_of_receiver service.height) coalition) secret
Comes service coalition (PeriodKey q) = (q ≤ last_period service.commands) × HasUnrevoked service coalition q
Comes service coalition (ControlWord t) = HasUnrevoked service coalition (period_of_word service t)

-- where a secret of a set is reached, an unrevoked leaf reaches it
pub unrevoked_reaches : (service : Service) (coalition : List ℕ) (q : ℕ) (name : SetName) → service.height ≤ 20
    → All (λ u. u < 2 ^ service.height) coalition → Contains (service_sets service q) name
    → IsReached (flat_map (names_of_receiver service.height) coalition) (Key name) → HasUnrevoked service coalition q
unrevoked_reaches service coalition q name low leaves (k, within, is) r =
    let (place, u, inside, at, own) = (reached_by_one service.height coalition (Key name)).0 r in
    let leaf = All-contains (λ w. w < 2 ^ service.height) coalition u leaves (place, inside, at) in
    (place, u, inside, at, (reached_at service q u low leaf).0 (k, name, within, is, own))

-- what has come in by the rules comes to that
comes : (service : Service) (coalition : List ℕ) → service.height ≤ 20 → All (λ u. u < 2 ^ service.height) coalition
    → {item : Knowable} → Had service coalition item → Comes service coalition item
comes service coalition low leaves (at_first {x = OfTree (Named name)} m) =
    held_is_reached (flat_map (names_of_receiver service.height) coalition) name m
comes service coalition low leaves (at_first {x = OfTree (Key name)} m) = absurd m
comes service coalition low leaves (at_first {x = PeriodKey q} m) = absurd m
comes service coalition low leaves (at_first {x = ControlWord t} m) = absurd m
comes service coalition low leaves (by_rule r (generated {from = from} {to = to} f)) =
    next_is_reached (flat_map (names_of_receiver service.height) coalition) from to
    (comes service coalition low leaves r) f
comes service coalition low leaves (by_rule r (of_set {name = name} {q = q} due there)) =
    let some = unrevoked_reaches service coalition q name low leaves there (comes service coalition low leaves r) in
    (omega (arith, due), some)
comes service coalition low leaves (by_rule r (controlled {q = q} {t = t} is)) =
    subst (HasUnrevoked service coalition) (sym is) (comes service coalition low leaves r).1

-- a secret that has come in by the generator is known
lifted : (service : Service) (coalition : List ℕ) {secret : Secret}
    → Reach (IsHeld (flat_map (names_of_receiver service.height) coalition)) IsGeneratorStep secret
    → Had service coalition (OfTree secret)
lifted service coalition (at_first m) = at_first m
lifted service coalition (by_rule r f) = by_rule (lifted service coalition r) (generated f)

-- a secret that is reached is known
reached_is_known : (service : Service) (coalition : List ℕ) (secret : Secret)
    → IsReached (flat_map (names_of_receiver service.height) coalition) secret →
    IsKnown service coalition (OfTree secret)
unfolding IsReached
reached_is_known service coalition secret r =
    to_known service coalition (OfTree secret)
    (lifted service coalition
    (from_derived (IsHeld (flat_map (names_of_receiver service.height) coalition)) IsGeneratorStep secret r))

-- the key of a period is known where a leaf isn't revoked in it
key_is_known : (service : Service) (coalition : List ℕ) (q : ℕ) → service.height ≤ 20
    → All (λ u. u < 2 ^ service.height) coalition → q ≤ last_period service.commands
    → HasUnrevoked service coalition q → IsKnown service coalition (PeriodKey q)
key_is_known service coalition q low leaves due (place, u, inside, at, free) =
    let leaf = All-contains (λ w. w < 2 ^ service.height) coalition u leaves (place, inside, at) in
    let (k, name, within, is, own) = (reached_at service q u low leaf).1 free in
    let pooled = (reached_by_one service.height coalition (Key name)).1 (place, u, inside, at, own) in
    next_is_known service coalition (OfTree (Key name)) (PeriodKey q)
    (reached_is_known service coalition (Key name) pooled) (of_set due (k, within, is))

-- and so is each control word of it
word_is_known : (service : Service) (coalition : List ℕ) (t : ℕ) → service.height ≤ 20
    → All (λ u. u < 2 ^ service.height) coalition → HasUnrevoked service coalition (period_of_word service t)
    → IsKnown service coalition (ControlWord t)
word_is_known service coalition t low leaves free =
    next_is_known service coalition (PeriodKey (period_of_word service t)) (ControlWord t)
    (key_is_known service coalition (period_of_word service t) low leaves
    (min-le_right (t / service.span) (last_period service.commands)) free)
    (controlled refl)

-- just the secrets that are reached are known
pub secrets_known : (service : Service) (coalition : List ℕ) (secret : Secret) → service.height ≤ 20
    → All (λ u. u < 2 ^ service.height) coalition → IsKnown service coalition (OfTree secret)
    ↔ IsReached (flat_map (names_of_receiver service.height) coalition) secret
secrets_known service coalition secret low leaves = (
  λ k. comes service coalition low leaves (from_known service coalition (OfTree secret) k),
  reached_is_known service coalition secret,
)

-- the key of a period is known exactly where a leaf isn't revoked in it
pub periods_known : (service : Service) (coalition : List ℕ) (q : ℕ) → service.height ≤ 20
    → All (λ u. u < 2 ^ service.height) coalition → q ≤ last_period service.commands
    → IsKnown service coalition (PeriodKey q) ↔ HasUnrevoked service coalition q
periods_known service coalition q low leaves due = (
  λ k. (comes service coalition low leaves (from_known service coalition (PeriodKey q) k)).1,
  key_is_known service coalition q low leaves due,
)

-- and so is a control word of it
pub words_known : (service : Service) (coalition : List ℕ) (t : ℕ) → service.height ≤ 20
    → All (λ u. u < 2 ^ service.height) coalition → IsKnown service coalition (ControlWord t)
    ↔ HasUnrevoked service coalition (period_of_word service t)
words_known service coalition t low leaves = (
  λ k. comes service coalition low leaves (from_known service coalition (ControlWord t) k),
  word_is_known service coalition t low leaves,
)

-- a coalition of one leaf
alone : (d : ℕ) (coalition : List ℕ) (u : ℕ) → All (λ w. w < 2 ^ d) coalition → Contains coalition u
    → All (λ w. w < 2 ^ d) (u ∷ [])
alone d coalition u leaves m =
    All-cons (λ w. w < 2 ^ d) u [] (All-contains (λ w. w < 2 ^ d) coalition u leaves m) (All-nil (λ w. w < 2 ^ d))

-- what holds of some member of the coalition of one leaf holds of the leaf
of_only : (P : ℕ → Type 0) (u : ℕ) → Any P (u ∷ []) → P u
of_only P u (k, w, within, is, p) = subst P (only_member u w (k, within, is)) p

-- what is known by all of a coalition together is known by one of its leaves
to_one : (service : Service) (coalition : List ℕ) (item : Knowable) → service.height ≤ 20
    → All (λ u. u < 2 ^ service.height) coalition → IsKnown service coalition item
    → Any (λ u. IsKnown service (u ∷ []) item) coalition
to_one service coalition (OfTree secret) low leaves known =
    let (k, u, within, is, own) =
    (reached_by_one service.height coalition secret).0 ((secrets_known service coalition secret low leaves).0 known) in
    let pooled = (reached_by_one service.height (u ∷ []) secret).1 (0, u, omega arith, refl, own) in
    (k, u, within, is, reached_is_known service (u ∷ []) secret pooled)
to_one service coalition (PeriodKey q) low leaves known =
    let (due, (k, u, within, is, free)) = comes service coalition low leaves (from_known service coalition _ known) in
    let single = alone service.height coalition u leaves (k, within, is) in
    (k, u, within, is, key_is_known service (u ∷ []) q low single due (0, u, omega arith, refl, free))
to_one service coalition (ControlWord t) low leaves known =
    let (k, u, within, is, free) = comes service coalition low leaves (from_known service coalition _ known) in
    let single = alone service.height coalition u leaves (k, within, is) in
    (k, u, within, is, word_is_known service (u ∷ []) t low single (0, u, omega arith, refl, free))

-- what one leaf of a coalition knows alone is known by all together
from_one : (service : Service) (coalition : List ℕ) (item : Knowable) (u : ℕ) → service.height ≤ 20
    → All (λ w. w < 2 ^ service.height) coalition → Contains coalition u → IsKnown service (u ∷ []) item
    → IsKnown service coalition item
from_one service coalition (OfTree secret) u low leaves (k, within, is) known =
    let single = alone service.height coalition u leaves (k, within, is) in
    let reached = (secrets_known service (u ∷ []) secret low single).0 known in
    let own = of_only (λ w. IsReached (names_of_receiver service.height w) secret) u
    ((reached_by_one service.height (u ∷ []) secret).0 reached) in
    reached_is_known service coalition secret
    ((reached_by_one service.height coalition secret).1 (k, u, within, is, own))
from_one service coalition (PeriodKey q) u low leaves (k, within, is) known =
    let single = alone service.height coalition u leaves (k, within, is) in
    let (due, free) = comes service (u ∷ []) low single (from_known service (u ∷ []) _ known) in
    let own = of_only (λ w. ¬ Contains (revoked_at service q) w) u free in
    key_is_known service coalition q low leaves due (k, u, within, is, own)
from_one service coalition (ControlWord t) u low leaves (k, within, is) known =
    let single = alone service.height coalition u leaves (k, within, is) in
    let free = comes service (u ∷ []) low single (from_known service (u ∷ []) _ known) in
    let own = of_only (λ w. ¬ Contains (revoked_at service (period_of_word service t)) w) u free in
    word_is_known service coalition t low leaves (k, u, within, is, own)

-- a coalition knows together just what one of its leaves knows alone
pub known_by_one : (service : Service) (coalition : List ℕ) (item : Knowable) → service.height ≤ 20
    → All (λ u. u < 2 ^ service.height) coalition → IsKnown service coalition item
    ↔ Any (λ u. IsKnown service (u ∷ []) item) coalition
known_by_one service coalition item low leaves = (
  to_one service coalition item low leaves,
  λ (k, u, within, is, known). from_one service coalition item u low leaves (k, within, is) known,
)

-- revoked leaves are leaves
revoked_leaves : (service : Service) (coalition : List ℕ) (q : ℕ) → All (Contains (revoked_at service q)) coalition
    → All (λ u. u < 2 ^ service.height) coalition
revoked_leaves service coalition q members =
    All-weaker (Contains (revoked_at service q)) (λ u. u < 2 ^ service.height)
    (λ u m. All-contains (λ w. w < 2 ^ service.height) (revoked_at service q) u
    (below service.height service.commands q) m)
    coalition members

-- where all leaves of a coalition are revoked, none isn't
none_unrevoked : (service : Service) (coalition : List ℕ) (q : ℕ) → All (Contains (revoked_at service q)) coalition
    → HasUnrevoked service coalition q → ⊥
none_unrevoked service coalition q members (k, u, within, is, free) =
    free (All-contains (Contains (revoked_at service q)) coalition u members (k, within, is))

-- leaves that are all revoked in a period know nothing of it
pub revoked_know_nothing : (service : Service) (coalition : List ℕ) (q : ℕ) → service.height ≤ 20
    → All (Contains (revoked_at service q)) coalition → KnowsNothingOf service coalition q
revoked_know_nothing service coalition q low members =
    let leaves = revoked_leaves service coalition q members in
    record {
      key = λ known.
          none_unrevoked service coalition q members
          (comes service coalition low leaves (from_known service coalition (PeriodKey q) known)).1;
      words = λ t is known.
          none_unrevoked service coalition q members
          (subst (HasUnrevoked service coalition) is
          (comes service coalition low leaves (from_known service coalition (ControlWord t) known)));
    }

-- each leaf of a tree is below 2^d
leaf_below : (d u : ℕ) → Contains (leaves d) u → u < 2 ^ d
leaf_below d u m =
    All-contains (λ w. w < 2 ^ d) (leaves d) u (All-from_get_or (λ w. w < 2 ^ d) (leaves d) 0
    (λ i h. omega (
      arith,
      length-range_with_len 0 (2 ^ d),
      get_or-range_with_len 0 (2 ^ d) i 0
          (omega (arith, length-range_with_len 0 (2 ^ d))),
    ))) m

-- an entitled leaf is one of the tree
entitled_below : (service : Service) (q u : ℕ) → Contains (entitled service.height service.commands q) u
    → u < 2 ^ service.height
entitled_below service q u m =
    All-contains (λ w. w < 2 ^ service.height) (entitled service.height service.commands q) u
    (All-filter (λ w. not (list_any (nat_eq w) (revoked_at service q))) (λ w. w < 2 ^ service.height)
    (leaves service.height)
    (all_by (λ w. w < 2 ^ service.height) (leaves service.height) (leaf_below service.height)))
    m

-- and it isn't revoked
pub entitled_free : (service : Service) (q u : ℕ) → Contains (entitled service.height service.commands q) u
    → ¬ Contains (revoked_at service q) u
entitled_free service q u m (k, within, is) =
    let found = list_any_at (nat_eq u) (revoked_at service q) k u within (rw is (eq-eqb u u refl)) in
    let passed = All-contains (λ w. not (list_any (nat_eq w) (revoked_at service q)) ≡ true)
    (entitled service.height service.commands q) u
    (filter_passes (λ w. not (list_any (nat_eq w) (revoked_at service q))) (leaves service.height)) m in
    false≢true (rw found at passed)

-- an entitled leaf knows all of its period alone
entitled_alone : (service : Service) (q u : ℕ) → service.height ≤ 20 → q ≤ last_period service.commands
    → Contains (entitled service.height service.commands q) u → KnowsPeriod service (u ∷ []) q
entitled_alone service q u low due m =
    let single : All (λ w. w < 2 ^ service.height) (u ∷ []) =
    All-cons (λ w. w < 2 ^ service.height) u [] (entitled_below service q u m) (All-nil (λ w. w < 2 ^ service.height))
    in
    let free : HasUnrevoked service (u ∷ []) q = (0, u, omega arith, refl, entitled_free service q u m) in
    record {
      key = key_is_known service (u ∷ []) q low single due free;
      words = λ t is. word_is_known service (u ∷ []) t low single (subst (HasUnrevoked service (u ∷ [])) (sym is) free);
    }

-- and with others
pub entitled_know_all : (service : Service) (coalition : List ℕ) (q u : ℕ) → service.height ≤ 20
    → q ≤ last_period service.commands → Contains (entitled service.height service.commands q) u
    → All (λ w. w < 2 ^ service.height) coalition → Contains coalition u → KnowsPeriod service coalition q
entitled_know_all service coalition q u low due m leaves there =
    let own = entitled_alone service q u low due m in
    record {
      key = from_one service coalition (PeriodKey q) u low leaves there own.key;
      words = λ t is. from_one service coalition (ControlWord t) u low leaves there (own.words t is);
    }

-- a leaf knows all of a period in which it is entitled, and nothing of one in which it is revoked
pub one_period_alone : (service : Service) (p q u : ℕ) → service.height ≤ 20 → p ≤ last_period service.commands
    → Contains (entitled service.height service.commands p) u → Contains (revoked_at service q) u
    → KnowsPeriod service (u ∷ []) p × KnowsNothingOf service (u ∷ []) q
one_period_alone service p q u low due m gone = (
  entitled_alone service p u low due m,
  revoked_know_nothing service (u ∷ []) q low
      (All-cons (Contains (revoked_at service q)) u [] gone (All-nil (Contains (revoked_at service q)))),
)

-- a set of a period that has a leaf of the coalition tells of an unrevoked one
opened_unrevoked : (service : Service) (coalition : List ℕ) (q : ℕ) (name : SetName) → service.height ≤ 20
    → All (λ u. u < 2 ^ service.height) coalition → Contains (service_sets service q) name
    → list_any (is_member service.height name) coalition ≡ true → HasUnrevoked service coalition q
opened_unrevoked service coalition q name low leaves there found =
    unrevoked_reaches service coalition q name low leaves there
    ((member_reaches_together service.height coalition name low leaves (height_at service q name low there)).0 found)

-- some set of a period has a leaf of the coalition exactly where one of its leaves isn't revoked in it
pub sets_opened : (service : Service) (coalition : List ℕ) (q : ℕ) → service.height ≤ 20
    → All (λ u. u < 2 ^ service.height) coalition
    → Any (λ name. list_any (is_member service.height name) coalition ≡ true) (service_sets service q)
    ↔ HasUnrevoked service coalition q
sets_opened service coalition q low leaves = (
  λ (k, name, within, is, found). opened_unrevoked service coalition q name low leaves (k, within, is) found,
  λ (place, u, inside, at, free).
      let leaf = All-contains (λ w. w < 2 ^ service.height) coalition u leaves (place, inside, at) in
      let (k, name, within, is, own) = (reached_at service q u low leaf).1 free in
      let pooled = (reached_by_one service.height coalition (Key name)).1 (place, u, inside, at, own) in (
        k,
        name,
        within,
        is,
        (member_reaches_together service.height coalition name low leaves
            (height_at service q name low (k, within, is))).1 pooled,
      ),
)

-- where all leaves of a coalition are revoked, no set of the period has one
pub sets_shut : (service : Service) (coalition : List ℕ) (q : ℕ) → service.height ≤ 20
    → All (Contains (revoked_at service q)) coalition
    → All (λ name. list_any (is_member service.height name) coalition ≡ false) (service_sets service q)
sets_shut service coalition q low members =
    all_by (λ name. list_any (is_member service.height name) coalition ≡ false) (service_sets service q)
    (λ name there. false_from_ne_true _ (λ found.
    none_unrevoked service coalition q members
    (opened_unrevoked service coalition q name low (revoked_leaves service coalition q members) there found)))
