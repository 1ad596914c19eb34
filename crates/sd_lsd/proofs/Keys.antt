-- The keys that a layer card gives.
use Rattle.std.proofs.Common.{ℕ, ◌^◌, ◌<◌, ◌≤◌, ◌≡◌, ◌≢◌, true, List, refl}
use Rattle.std.proofs.lemmas.List.Kept.{AllPairs-filter}
use Rattle.sd_tree_keys.specs.SetNames.{IsOfHeight}
use Rattle.sd_tree_keys.specs.declared.set.SetName.{SetName}
use Rattle.sd_tree_keys.specs.declared.set.SetName.TheVariants.{Whole as WholeSet, Diff}
use Rattle.sd_tree_keys.specs.Leaves.{is_member}
use Rattle.sd_tree_keys.specs.Keys.{key_of}
use Rattle.sd_tree_keys.specs.Names.{names_of_receiver}
use Rattle.sd_tree_keys.specs.declared.name.Name.TheVariants.{Pair}
use Rattle.sd_tree_keys.proofs.Pairs.{given_is_hanging}
use Rattle.sd_site_cards.specs.Secrets.{secret_of, key_held}
use Rattle.sd_site_cards.proofs.Held.{AreOfLeaf, own_among}
use Rattle.sd_site_cards.proofs.SecretKeys.{pair_node}
use Rattle.sd_site_cards.proofs.Once.{given_once}
use Rattle.sd_lsd.specs.Layers.{is_useful}
use Rattle.sd_lsd.specs.LayerNames.{layer_given, is_useful_name}
use Rattle.sd_lsd.specs.Fields.{layer_card_of, layer_key}
use Rattle.sd_lsd.proofs.Filters.{from_filter}
use Rattle.sd_lsd.proofs.Reaching.{useful_pair}

-- the names that a leaf is given in layers are of it, each once
pub given_of_leaf : (d w u : ℕ) → d ≤ 20 → u < 2 ^ d → AreOfLeaf d u (layer_given d w u)
unfolding layer_given
given_of_leaf d w u low leaf = record {
  height = low;
  leaf = leaf;
  differ = AllPairs-filter (λ a b. a ≢ b) (is_useful_name w) (names_of_receiver d u) (given_once d u leaf);
  given = λ i x held. given_is_hanging d u i x leaf (from_filter (is_useful_name w) (names_of_receiver d u)
      (Pair i x) held).0;
}

-- the layer card of a leaf gives the key of each useful set that the leaf is in
pub made_gives_key : (master : List ℕ) (ca d w u : ℕ) (name : SetName) → d ≤ 20 → u < 2 ^ d → IsOfHeight d name
    → is_useful w name ≡ true → is_member d name u ≡ true
    → layer_key (layer_card_of master ca d w u) name ≡ key_of master name
unfolding layer_card_of key_held key_of secret_of layer_given names_of_receiver is_useful
made_gives_key master ca d w u WholeSet low leaf pair useful member = refl
made_gives_key master ca d w u (Diff i j) low leaf pair useful member =
    let node = pair_node d i j low pair in
    let (x, held, some, above) = useful_pair d w u i j low leaf pair useful member in
    own_among master d u i x j (layer_given d w u) (given_of_leaf d w u low leaf) node.0 node.1 held above
