-- Public meaning: the layer card of a receiver, and the file that it is kept in.
use Rattle.std.specs.Prelude.{◌≡◌, ℕ, ◌+◌, ◌^◌, ◌<◌, ◌≤◌, List, [], ◌∷◌, length, map, codes}
use Rattle.sd_tree_keys.specs.Limits.{highest}
use Rattle.sd_tree_keys.specs.declared.set.SetName.{SetName}
use Rattle.sd_site_cards.specs.Files.{AreSecrets, card_file_head, file_bytes}
use Rattle.sd_site_cards.specs.Secrets.{secret_of, key_held}
use Rattle.sd_lsd.specs.LayerNames.{layer_given, layer_count}
use Rattle.sd_lsd.specs.declared.card.LayerCard.{LayerCard}

-- the bytes that a layer card's file begins with, and its version [this project, docs/FORMATS.md, Layer card]
abbrev pub layer_magic : List ℕ
layer_magic = codes "SDLC"

abbrev pub layer_version : ℕ
layer_version = 1

-- what a layer card says: the tree's height, the layers' width, its leaf, the conditional access system, and a secret
-- for each name that the leaf is given in layers
pub record LayerFields : Type 0 where
  pub height : ℕ
  pub width : ℕ
  pub leaf : ℕ
  pub ca : ℕ
  pub secrets : List (List ℕ)

-- a layer card that says this
abbrev pub layer_card_saying : ℕ → ℕ → ℕ → ℕ → List (List ℕ) → LayerFields
layer_card_saying d w u ca secrets = record { height = d; width = w; leaf = u; ca = ca; secrets = secrets }

-- the same of a layer card as the program keeps it
abbrev pub layer_fields_of : LayerCard → LayerFields
layer_fields_of card = layer_card_saying card.height card.width card.leaf card.ca card.secrets.items

-- the numbers are in their ranges, and there are as many secrets as a leaf is given names in layers
-- [this project, docs/FORMATS.md, Layer card]
pub record IsLayerCard (card : LayerFields) : Type 0 where
  pub height : (1 ≤ card.height) × (card.height ≤ highest)
  pub width : (1 ≤ card.width) × (card.width ≤ card.height)
  pub leaf : card.leaf < 2 ^ card.height
  pub ca : card.ca < 2 ^ 16
  pub count : length card.secrets ≡ layer_count card.height card.width + 1
  pub secrets : AreSecrets card.secrets

-- the layer card of a leaf: the secrets of the names that it is given in layers, in their order
-- [Halevy, Shamir 2002, 3]
unfoldable pub layer_card_of : List ℕ → ℕ → ℕ → ℕ → ℕ → LayerFields
layer_card_of master ca d w u = layer_card_saying d w u ca (map (secret_of master) (layer_given d w u))

-- a layer card's file before its secrets [this project, docs/FORMATS.md, Layer card]
unfoldable pub layer_head : ℕ → ℕ → ℕ → ℕ → List ℕ
layer_head d w u ca = card_file_head layer_magic (layer_version ∷ d ∷ w ∷ []) u ca

-- a layer card's file: its head, its secrets, and the check at its end [this project, docs/FORMATS.md, Layer card]
unfoldable pub layer_bytes : LayerFields → List ℕ
layer_bytes card = file_bytes (layer_head card.height card.width card.leaf card.ca) card.secrets

-- the key that a layer card gives for a set [Halevy, Shamir 2002, 3]
abbrev pub layer_key : LayerFields → SetName → List ℕ
layer_key card name = key_held (layer_given card.height card.width card.leaf) card.secrets name
