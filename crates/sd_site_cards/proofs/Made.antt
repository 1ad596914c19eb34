-- A card that was made is a card.
use Rattle.std.proofs.Common.{ℕ, ◌-◌, ◌^◌, ◌<◌, ◌≤◌, ◌≡◌, List, ◌∷◌, take, ap, ◌∙◌, arith}
use Rattle.std.specs.List.{range_with_len, flat_map}
use Rattle.std.proofs.lemmas.List.{length-map, take_all}
use Rattle.sd_tree_keys.specs.Names.{names_of_receiver, pair_names_under}
use Rattle.sd_tree_keys.specs.declared.name.Name.{Name}
use Rattle.sd_tree_keys.specs.declared.name.Name.TheVariants.{Whole}
use Rattle.sd_tree_keys.proofs.NameCounts.{length_given, length_given_under}
use Rattle.sd_site_cards.specs.Secrets.{secret_of}
use Rattle.sd_site_cards.proofs.MadeSecrets.{names_first, secrets_long}
use Rattle.sd_site_cards.specs.CardFields.{IsCard, card_of}

-- all pairs of an ancestor
all_under : (d u a : ℕ) → take (d - a) (pair_names_under d u a) ≡ pair_names_under d u a
all_under d u a = take_all (d - a) (pair_names_under d u a) (omega (arith, length_given_under d u a))

-- all pairs of all ancestors, and the whole set, are what a leaf is given
pub all_given : (d u : ℕ) → names_first (λ a. d - a) d u d ≡ names_of_receiver d u
unfolding names_of_receiver
all_given d u = ap (λ (f : ℕ → List Name). Whole ∷ flat_map f (range_with_len 0 d)) (λ i a. all_under d u a i)

-- the card of a leaf is a card
pub made_is_card : (master : List ℕ) (ca d u : ℕ) → ca < 2 ^ 16 → 1 ≤ d → d ≤ 20 → u < 2 ^ d
    → IsCard (card_of master ca d u)
unfolding card_of
made_is_card master ca d u system some low leaf = record {
  height = (some, low);
  leaf = leaf;
  ca = system;
  count = length-map (names_of_receiver d u) (secret_of master) ∙ length_given d u;
  secrets = secrets_long master (names_of_receiver d u);
}
