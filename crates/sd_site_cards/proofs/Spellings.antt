-- A card's file says one card, and nothing is wrong with it.
use Rattle.std.proofs.Common.{ℕ, ◌+◌, ◌*◌, ◌/◌, ◌^◌, ◌<◌, ◌≤◌, ◌≡◌, List, [], ◌∷◌, length, take, None, sym, refl, ap}
use Rattle.std.proofs.Common.{◌∙◌, arith}
use Rattle.std.proofs.lemmas.Bool.{eqb-true, leb-true, le-leb, and_parts, and_from, ltb-true, lt-ltb}
use Rattle.std.proofs.lemmas.Slice.Eq.{bytes_eq-Decides}
use Rattle.std.proofs.lemmas.Bool.Decides.{Decides-eqb}
use Rattle.std.proofs.Math.Pow.{pow_mono}
use Rattle.sd_site_cards.specs.Files.{AreKeptSecrets, byte_at, check_in, check_due, file_body, file_bytes}
use Rattle.sd_site_cards.proofs.Written.{AreBytes, passed, goes, secrets_once}
use Rattle.sd_site_cards.proofs.Heads.{IsFileOf, sound_is_file, file_is_sound}
use Rattle.sd_site_cards.specs.CardFields.{CardFields, IsCard, card_saying, card_head, card_bytes, card_magic}
use Rattle.sd_site_cards.specs.CardFaults.{height_in, card_leaf, ca_in, length_at, fault_in}

-- what nothing is wrong with
pub record IsGood (bytes : List ℕ) : Type 0 where
  pub magic : card_magic ≡ take 4 bytes
  pub version : byte_at bytes 4 ≡ 1
  pub height : (1 ≤ height_in bytes) × (height_in bytes ≤ 20)
  pub leaf : card_leaf bytes < 2 ^ height_in bytes
  pub size : length bytes ≡ length_at (height_in bytes)
  pub check : check_in bytes ≡ check_due bytes

-- where there is no fault, each field is good
pub good_parts : (bytes : List ℕ) → fault_in bytes ≡ None → IsGood bytes
unfolding fault_in
good_parts bytes e =
    let magic = passed _ _ _ e in
    let version = passed _ _ _ magic.1 in
    let height = passed _ _ _ version.1 in
    let leaf = passed _ _ _ height.1 in
    let size = passed _ _ _ leaf.1 in
    let check = passed _ _ _ size.1 in
    let range = and_parts _ _ height.0 in
    record {
      magic = (bytes_eq-Decides _ _).0 magic.0;
      version = eqb-true _ _ version.0;
      height = (leb-true _ _ range.0, leb-true _ _ range.1);
      leaf = ltb-true _ _ leaf.0;
      size = eqb-true _ _ size.0;
      check = (bytes_eq-Decides _ _).0 check.0;
    }

-- what is read from bytes with which nothing is wrong is a card that they spell
pub read_is_spelled : (bytes : List ℕ) (d u ca : ℕ) (secrets : List (List ℕ)) → AreBytes bytes → fault_in bytes ≡ None
    → d ≡ height_in bytes → u ≡ card_leaf bytes → ca ≡ ca_in bytes → AreKeptSecrets bytes 12 secrets
    → IsCard (card_saying d u ca secrets) × (bytes ≡ card_bytes (card_saying d u ca secrets))
unfolding length_at card_bytes card_head
read_is_spelled bytes d u ca secrets fits none height leaf system kept =
    let good = good_parts bytes none in
    let d_in = height_in bytes in
    let file = sound_is_file bytes card_magic (1 ∷ d_in ∷ []) 2 (d_in * (d_in + 1) / 2 + 1) secrets fits (record {
      start = good.magic;
      fields = ap (λ (v : ℕ). v ∷ d_in ∷ []) (sym good.version);
      size = good.size;
      check = good.check;
    }) kept in
    rw (height, leaf, system) (
      record {
        height = good.height;
        leaf = good.leaf;
        ca = file.1;
        count = file.0;
        secrets = kept.long;
      },
      file.2,
    )

-- a card's file has its start, its fields, its numbers, its length and its check
written : (card : CardFields) → IsCard card
    → IsFileOf (card_bytes card) card_magic (1 ∷ card.height ∷ []) card.leaf card.ca 2
    (card.height * (card.height + 1) / 2 + 1)
unfolding card_bytes card_head
written card is =
    let low : card.leaf < 2 ^ 32 =
    omega (arith, is.leaf, pow_mono {i = card.height} {j = 32} (omega (arith, is.height.1))) in
    file_is_sound card_magic (1 ∷ card.height ∷ []) card.leaf card.ca 2 (card.height * (card.height + 1) / 2 + 1)
    card.secrets refl refl low is.ca is.count is.secrets

-- so it names the height
pub height_written : (card : CardFields) → byte_at (card_bytes card) 5 ≡ card.height
unfolding card_bytes file_bytes file_body card_head
height_written card = refl

-- the leaf
pub leaf_written : (card : CardFields) → IsCard card → card_leaf (card_bytes card) ≡ card.leaf
leaf_written card is = (written card is).leaf

-- and the system
pub ca_written : (card : CardFields) → IsCard card → ca_in (card_bytes card) ≡ card.ca
ca_written card is = (written card is).ca

-- nothing is wrong with a card's file
pub written_is_good : (card : CardFields) → IsCard card → fault_in (card_bytes card) ≡ None
unfolding fault_in length_at
written_is_good card is =
    let file = written card is in
    let bytes : List ℕ = card_bytes card in
    let version : byte_at bytes 4 ≡ 1 = ap (λ (r : List ℕ). byte_at r 0) (sym file.sound.fields) in
    let height : (1 ≤ byte_at bytes 5) × (byte_at bytes 5 ≤ 20) = rw (height_written card) is.height in
    let leaf : card_leaf bytes < 2 ^ byte_at bytes 5 = rw (file.leaf, height_written card) is.leaf in
    let size : length bytes ≡ length_at (byte_at bytes 5) =
    rw (height_written card) file.sound.size in
    goes _ _ _ ((bytes_eq-Decides _ _).1 file.sound.start)
    (goes _ _ _ ((Decides-eqb _ _).1 version)
    (goes _ _ _ (and_from _ _ (le-leb _ _ height.0) (le-leb _ _ height.1))
    (goes _ _ _ (lt-ltb _ _ leaf)
    (goes _ _ _ ((Decides-eqb _ _).1 size)
    (goes _ _ _ ((bytes_eq-Decides _ _).1 file.sound.check) refl)))))

-- a card's file says that card alone
pub written_once : (a b : CardFields) → IsCard a → IsCard b → card_bytes a ≡ card_bytes b → a ≡ b
unfolding card_bytes card_head
written_once a b is_a is_b e =
    let height : a.height ≡ b.height =
    sym (height_written a) ∙ (ap (λ (r : List ℕ). byte_at r 5) e ∙ height_written b) in
    let leaf : a.leaf ≡ b.leaf = sym (leaf_written a is_a) ∙ (ap card_leaf e ∙ leaf_written b is_b) in
    let ca : a.ca ≡ b.ca = sym (ca_written a is_a) ∙ (ap ca_in e ∙ ca_written b is_b) in
    let count : length a.secrets ≡ length b.secrets = is_a.count ∙ rw height (sym is_b.count) in
    let secrets = secrets_once _ _ a.secrets b.secrets 12 refl refl is_a.secrets is_b.secrets count e in
    λ i. card_saying (height i) (leaf i) (ca i) (secrets i)
