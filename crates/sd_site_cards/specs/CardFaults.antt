-- Public meaning: what is wrong with bytes that are no card's file.
use Rattle.std.specs.Prelude.{◌≡◌, ℕ, ◌+◌, ◌*◌, ◌/◌, ◌^◌, ◌==◌, ◌&&◌, ◌⊎◌, nat_le, nat_lt, bytes_eq}
use Rattle.std.specs.Prelude.{List, length, take, Option, Some, None}
use Rattle.sd_tree_keys.specs.Limits.{highest}
use Rattle.sd_site_cards.specs.Files.{byte_at, number_from, check_in, check_due, file_fault_unless}
use Rattle.sd_site_cards.specs.declared.file.TheConstants.{SECRET_BYTES, CHECK_BYTES}
use Rattle.sd_site_cards.specs.declared.card_fault.CardFault.{CardFault}
use Rattle.sd_site_cards.specs.declared.card_fault.CardFault.TheVariants.{Magic, Version, Height, Leaf, Length, Check}
use Rattle.sd_site_cards.specs.declared.card_fault.CardFault.TheVariants.{NoMemory}
use Rattle.sd_site_cards.specs.declared.format.TheConstants.{VERSION_AT, HEIGHT_AT, LEAF_AT, CA_AT}
use Rattle.sd_site_cards.specs.CardFields.{card_magic, card_version}
use Rattle.sd_site_cards.specs.declared.format.TheConstants.{SECRETS_AT}

-- the height that the file names [this project, docs/FORMATS.md, Card]
abbrev pub height_in : List ℕ → ℕ
height_in bytes = byte_at bytes HEIGHT_AT

-- the leaf that it names [this project, docs/FORMATS.md, Card]
abbrev pub card_leaf : List ℕ → ℕ
card_leaf bytes = number_from bytes LEAF_AT 4

-- the conditional access system that it names [this project, docs/FORMATS.md, Card]
abbrev pub ca_in : List ℕ → ℕ
ca_in bytes = number_from bytes CA_AT 2

-- how many bytes a card has at height d [this project, docs/FORMATS.md, Card]
unfoldable pub length_at : ℕ → ℕ
length_at d = SECRETS_AT + SECRET_BYTES * (d * (d + 1) / 2 + 1) + CHECK_BYTES

-- what is wrong with the bytes, by the first field that isn't good [this project, docs/FORMATS.md, Card]
unfoldable pub fault_in : List ℕ → Option CardFault
fault_in bytes =
    file_fault_unless (bytes_eq card_magic (take VERSION_AT bytes)) Magic
    (file_fault_unless (byte_at bytes VERSION_AT == card_version) Version
    (file_fault_unless (nat_le 1 (height_in bytes) && nat_le (height_in bytes) highest) Height
    (file_fault_unless (nat_lt (card_leaf bytes) (2 ^ height_in bytes)) Leaf
    (file_fault_unless (length bytes == length_at (height_in bytes)) Length
    (file_fault_unless (bytes_eq (check_in bytes) (check_due bytes)) (Check (check_in bytes) (check_due bytes))
    None)))))

-- the fault that the bytes have; out of memory comes only where they have none
abbrev pub IsFaultOf : List ℕ → CardFault → Type 0
IsFaultOf bytes fault = (fault_in bytes ≡ Some fault) ⊎ ((fault ≡ NoMemory) × (fault_in bytes ≡ None))
