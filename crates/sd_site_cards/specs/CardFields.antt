-- Public meaning: the card of a receiver, and the file that it is kept in.
use Rattle.std.specs.Prelude.{◌≡◌, ℕ, ◌+◌, ◌*◌, ◌/◌, ◌^◌, ◌<◌, ◌≤◌, List, [], ◌∷◌, length, map, codes}
use Rattle.sd_tree_keys.specs.Limits.{highest}
use Rattle.sd_tree_keys.specs.declared.set.SetName.{SetName}
use Rattle.sd_tree_keys.specs.Names.{names_of_receiver}
use Rattle.sd_site_cards.specs.Files.{AreSecrets, card_file_head, file_bytes}
use Rattle.sd_site_cards.specs.Secrets.{secret_of, DerivesKey, key_held}
use Rattle.sd_site_cards.specs.SiteFields.{SiteFields}
use Rattle.sd_site_cards.specs.declared.card.Card.{Card}

-- the bytes that a card's file begins with, and its version [this project, docs/FORMATS.md, Card]
abbrev pub card_magic : List ℕ
card_magic = codes "SDCD"

abbrev pub card_version : ℕ
card_version = 1

-- what a card says: the tree's height, its leaf, the conditional access system, and a secret for each name that the
-- leaf is given
pub record CardFields : Type 0 where
  pub height : ℕ
  pub leaf : ℕ
  pub ca : ℕ
  pub secrets : List (List ℕ)

-- a card that says this
abbrev pub card_saying : ℕ → ℕ → ℕ → List (List ℕ) → CardFields
card_saying d u ca secrets = record { height = d; leaf = u; ca = ca; secrets = secrets }

-- the same of a card as the program keeps it
abbrev pub card_fields_of : Card → CardFields
card_fields_of card = card_saying card.height card.leaf card.ca card.secrets.items

-- the numbers are in their ranges, and there are as many secrets as a leaf is given names
-- [this project, docs/FORMATS.md, Card]
pub record IsCard (card : CardFields) : Type 0 where
  pub height : (1 ≤ card.height) × (card.height ≤ highest)
  pub leaf : card.leaf < 2 ^ card.height
  pub ca : card.ca < 2 ^ 16
  pub count : length card.secrets ≡ card.height * (card.height + 1) / 2 + 1
  pub secrets : AreSecrets card.secrets

-- the card of a leaf: the secrets of the names that it is given, in their order [Naor, Naor, Lotspiech 2001, 3.2]
unfoldable pub card_of : List ℕ → ℕ → ℕ → ℕ → CardFields
card_of master ca d u = card_saying d u ca (map (secret_of master) (names_of_receiver d u))

-- the card of a leaf of a site
abbrev pub site_card : SiteFields → ℕ → CardFields
site_card site = card_of site.master site.ca site.height

-- a card's file before its secrets [this project, docs/FORMATS.md, Card]
unfoldable pub card_head : ℕ → ℕ → ℕ → List ℕ
card_head d u ca = card_file_head card_magic (card_version ∷ d ∷ []) u ca

-- a card's file: its head, its secrets, and the check at its end [this project, docs/FORMATS.md, Card]
unfoldable pub card_bytes : CardFields → List ℕ
card_bytes card = file_bytes (card_head card.height card.leaf card.ca) card.secrets

-- the key that a card gives for a set [Naor, Naor, Lotspiech 2001, 3.2]
abbrev pub card_key : CardFields → SetName → List ℕ
card_key card name = key_held (names_of_receiver card.height card.leaf) card.secrets name

-- the key is derived from what the card holds, by so many steps
abbrev pub CardDerives : CardFields → SetName → List ℕ → ℕ → Type 0
CardDerives card name key taken = DerivesKey (names_of_receiver card.height card.leaf) card.secrets name key taken
