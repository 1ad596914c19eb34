-- The keys that a card gives.
use Rattle.std.proofs.Common.{ℕ, ◌+◌, ◌-◌, ◌*◌, ◌/◌, ◌^◌, ◌<◌, ◌≤◌, ◌≡◌, true, List, refl, subst, ◌∙◌}
use Rattle.std.proofs.Common.{arith}
use Rattle.std.specs.Prelude.{slice_get, Some}
use Rattle.sd_tree_keys.specs.Node.{depth}
use Rattle.sd_tree_keys.specs.SetNames.{IsPair, IsOfHeight}
use Rattle.sd_tree_keys.specs.declared.set.SetName.{SetName}
use Rattle.sd_tree_keys.specs.declared.set.SetName.TheVariants.{Whole as WholeSet, Diff}
use Rattle.sd_tree_keys.specs.Leaves.{is_member}
use Rattle.sd_tree_keys.proofs.Levels.{doubled}
use Rattle.sd_tree_keys.proofs.Members.{member_of_pair}
use Rattle.sd_tree_keys.specs.Keys.{key_of}
use Rattle.sd_tree_keys.specs.Names.{names_of_receiver}
use Rattle.sd_tree_keys.specs.declared.name.Name.TheVariants.{Pair}
use Rattle.sd_tree_keys.proofs.Hanging.{hangs}
use Rattle.sd_tree_keys.proofs.Pairs.{given_is_hanging, hanging_is_given}
use Rattle.sd_site_cards.specs.Hanging.{IsHanging}
use Rattle.sd_site_cards.specs.Secrets.{secret_of, HoldsSecret, key_held}
use Rattle.sd_site_cards.proofs.Held.{AreOfLeaf, own_among}
use Rattle.sd_site_cards.proofs.SecretKeys.{pair_node, hangs_below, held_at}
use Rattle.sd_site_cards.proofs.Once.{given_once}
use Rattle.sd_site_cards.specs.CardFields.{CardFields, card_of, card_key}
use Rattle.sd_site_cards.proofs.Places.{pair_at}

-- the place of a pair of a card's leaf
abbrev pub place_of : ℕ → ℕ → ℕ → ℕ
place_of d a b = a * (2 * d - a + 1) / 2 + (b - a)

-- the secret at that place is held for the pair
pub pair_held : (d u i j w k : ℕ) (secrets : List (List ℕ)) (label : List ℕ) → d ≤ 20 → u < 2 ^ d → IsPair d i j
    → is_member d (Diff i j) u ≡ true → IsHanging d u j w → k ≡ place_of d (depth i) (depth w)
    → slice_get secrets k ≡ Some label → HoldsSecret (names_of_receiver d u) secrets (Pair i w) label
pair_held d u i j w k secrets label low leaf pair member hanging place held =
    let less = hangs_below d u i j w low leaf pair member hanging in
    let there = pair_at d u (depth i) (depth w) less (omega (arith, hanging.levels.1, hanging.levels.2)) in
    held_at d u i j w k (names_of_receiver d u) secrets label low leaf pair member hanging (rw place there) held

-- the names that a leaf is given are of it, each once
pub given_of_leaf : (d u : ℕ) → d ≤ 20 → u < 2 ^ d → AreOfLeaf d u (names_of_receiver d u)
given_of_leaf d u low leaf = record {
  height = low;
  leaf = leaf;
  differ = given_once d u leaf;
  given = λ i w held. given_is_hanging d u i w leaf held;
}

-- the card of a leaf gives the key of each set that the leaf is in
pub made_gives_key : (master : List ℕ) (ca d u : ℕ) (name : SetName) → d ≤ 20 → u < 2 ^ d → IsOfHeight d name
    → is_member d name u ≡ true → card_key (card_of master ca d u) name ≡ key_of master name
unfolding card_of key_held key_of secret_of names_of_receiver
made_gives_key master ca d u WholeSet low leaf pair member = refl
made_gives_key master ca d u (Diff i j) low leaf pair member =
    let paths = (member_of_pair d i j u low pair leaf).0 member in
    let node = pair_node d i j low pair in
    let (w, given_pair, some, above) =
    hangs d u i j leaf pair.inner.0 (omega (arith, pair.node, doubled d)) pair.above.0 paths.0 paths.1 in
    own_among master d u i w j (names_of_receiver d u) (given_of_leaf d u low leaf) node.0 node.1
    (hanging_is_given d u i w leaf given_pair) above

-- so a card that is its leaf's gives them
pub own_gives_key : (card : CardFields) (master : List ℕ) (ca : ℕ) (name : SetName) (key : List ℕ) → card.height ≤ 20
    → card.leaf < 2 ^ card.height → IsOfHeight card.height name → is_member card.height name card.leaf ≡ true
    → key ≡ card_key card name → card ≡ card_of master ca card.height card.leaf → key ≡ key_of master name
own_gives_key card master ca name key low leaf pair member is own =
    let given_key = subst (λ (c : CardFields). key ≡ card_key c name) own is in
    given_key ∙ made_gives_key master ca card.height card.leaf name low leaf pair member
