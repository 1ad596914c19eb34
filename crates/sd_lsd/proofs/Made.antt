-- The secrets of a leaf's layer card, as they are made.
use Rattle.std.proofs.Common.{ℕ, ◌^◌, ◌<◌, ◌≤◌, ◌≡◌, List, map, sym, ap, ◌∙◌}
use Rattle.std.proofs.lemmas.List.{length-map}
use Rattle.sd_site_cards.specs.Secrets.{secret_of}
use Rattle.sd_site_cards.proofs.MadeSecrets.{secrets_long}
use Rattle.sd_lsd.specs.LayerNames.{layer_given}
use Rattle.sd_lsd.specs.Fields.{IsLayerCard, layer_card_of}
use Rattle.sd_lsd.proofs.Given.{layer_first, layer_given_parts, length_layer_given}

-- the secrets of all ancestors
pub secrets_all : (master : List ℕ) (d w u : ℕ) → d ≤ 20 → u < 2 ^ d
    → map (secret_of master) (layer_first d w u d) ≡ map (secret_of master) (layer_given d w u)
secrets_all master d w u low leaf = ap (map (secret_of master)) (sym (layer_given_parts d w u low leaf))

-- the layer card of a leaf is a layer card
pub made_is_card : (master : List ℕ) (ca d w u : ℕ) → ca < 2 ^ 16 → 1 ≤ d → d ≤ 20 → 1 ≤ w → w ≤ d → u < 2 ^ d
    → IsLayerCard (layer_card_of master ca d w u)
unfolding layer_card_of
made_is_card master ca d w u system some low wide within leaf = record {
  height = (some, low);
  width = (wide, within);
  leaf = leaf;
  ca = system;
  count = length-map (layer_given d w u) (secret_of master) ∙ length_layer_given d w u low leaf;
  secrets = secrets_long master (layer_given d w u);
}
