-- A layer card's file says one card.
use Rattle.std.proofs.Common.{ℕ, ◌+◌, ◌^◌, ◌<◌, ◌≡◌, List, [], ◌∷◌, length, sym, refl, ap}
use Rattle.std.proofs.Common.{◌∙◌, arith}
use Rattle.std.proofs.Math.Pow.{pow_mono}
use Rattle.sd_site_cards.specs.Files.{byte_at, number_from, file_body, file_bytes}
use Rattle.sd_site_cards.proofs.Written.{secrets_once}
use Rattle.sd_site_cards.proofs.Heads.{IsFileOf, file_is_sound}
use Rattle.sd_lsd.specs.LayerNames.{layer_count}
use Rattle.sd_lsd.specs.Fields.{LayerFields, IsLayerCard, layer_card_saying, layer_head, layer_bytes, layer_magic}

-- a layer card's file has its start, its fields, its numbers, its length and its check
written : (card : LayerFields) → IsLayerCard card
    → IsFileOf (layer_bytes card) layer_magic (1 ∷ card.height ∷ card.width ∷ []) card.leaf card.ca 3
    (layer_count card.height card.width + 1)
unfolding layer_bytes layer_head
written card is =
    let low : card.leaf < 2 ^ 32 =
    omega (arith, is.leaf, pow_mono {i = card.height} {j = 32} (omega (arith, is.height.1))) in
    file_is_sound layer_magic (1 ∷ card.height ∷ card.width ∷ []) card.leaf card.ca 3
    (layer_count card.height card.width + 1) card.secrets refl refl low is.ca is.count is.secrets

-- so it names the height
height_written : (card : LayerFields) → byte_at (layer_bytes card) 5 ≡ card.height
unfolding layer_bytes file_bytes file_body layer_head
height_written card = refl

-- the width
width_written : (card : LayerFields) → byte_at (layer_bytes card) 6 ≡ card.width
unfolding layer_bytes file_bytes file_body layer_head
width_written card = refl

-- the leaf
leaf_written : (card : LayerFields) → IsLayerCard card → number_from (layer_bytes card) 7 4 ≡ card.leaf
leaf_written card is = (written card is).leaf

-- and the system
ca_written : (card : LayerFields) → IsLayerCard card → number_from (layer_bytes card) 11 2 ≡ card.ca
ca_written card is = (written card is).ca

-- a layer card's file says that card alone
pub written_once : (a b : LayerFields) → IsLayerCard a → IsLayerCard b → layer_bytes a ≡ layer_bytes b → a ≡ b
unfolding layer_bytes layer_head
written_once a b is_a is_b e =
    let height : a.height ≡ b.height =
    sym (height_written a) ∙ (ap (λ (r : List ℕ). byte_at r 5) e ∙ height_written b) in
    let width : a.width ≡ b.width =
    sym (width_written a) ∙ (ap (λ (r : List ℕ). byte_at r 6) e ∙ width_written b) in
    let leaf : a.leaf ≡ b.leaf = sym (leaf_written a is_a) ∙ (ap (λ (r : List ℕ). number_from r 7 4) e
    ∙ leaf_written b is_b) in
    let ca : a.ca ≡ b.ca = sym (ca_written a is_a) ∙ (ap (λ (r : List ℕ). number_from r 11 2) e ∙ ca_written b is_b) in
    let count : length a.secrets ≡ length b.secrets =
    is_a.count ∙ (rw (height, width) (sym is_b.count)) in
    let secrets = secrets_once _ _ a.secrets b.secrets 13 refl refl is_a.secrets is_b.secrets count e in
    λ i. layer_card_saying (height i) (width i) (leaf i) (ca i) (secrets i)
