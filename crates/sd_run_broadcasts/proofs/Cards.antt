-- What a card's file says by its fields.
use Rattle.std.proofs.Common.{◌≡◌, ℕ, ◌+◌, ◌*◌, ◌/◌, List, [], ◌∷◌, ◌++◌, length, take}
use Rattle.std.proofs.Common.{drop, append_assoc, Option, Ok, refl, sym, ap, ◌∙◌}
use Rattle.std.specs.List.{concat}
use Rattle.std.proofs.lemmas.List.{take_at, drop_at}
use Rattle.sd_site_cards.specs.Files.{AreSecrets, check_of, file_body}
use Rattle.sd_site_cards.proofs.Written.{after_head}
use Rattle.sd_site_cards.specs.declared.card_fault.CardFault.{CardFault}
use Rattle.sd_site_cards.specs.CardFaults.{height_in, fault_in}
use Rattle.sd_site_cards.specs.CardFields.{CardFields, IsCard, card_head, card_bytes}
use Rattle.sd_site_cards.proofs.Spellings.{height_written, leaf_written, ca_written, written_is_good}
use Rattle.sd_command_base.specs.Files.{card_unless}
use Rattle.sd_run_broadcasts.specs.Receive.{secrets_of, card_said, card_refusal}

-- secrets that were joined are found again
secrets_again : (secrets : List (List ℕ)) (rest : List ℕ) → AreSecrets secrets →
    secrets_of (length secrets) (concat secrets ++ rest) ≡ secrets
unfolding secrets_of
secrets_again [] rest long = refl
secrets_again (secret ∷ secrets) rest long =
    let joined : concat (secret ∷ secrets) ++ rest ≡ secret ++ (concat secrets ++ rest) =
    append_assoc secret (concat secrets) rest in
    ap (λ (bytes : List ℕ). take 32 bytes ∷ secrets_of (length secrets) (drop 32 bytes)) joined
    ∙ ap (λ (first : List ℕ). first ∷ secrets_of (length secrets) (drop 32 (secret ++ (concat secrets ++ rest))))
    (take_at secret (concat secrets ++ rest) 32 long.0)
    ∙ ap (λ (bytes : List ℕ). secret ∷ secrets_of (length secrets) bytes)
    (drop_at secret (concat secrets ++ rest) 32 long.0)
    ∙ ap (λ (more : List (List ℕ)). secret ∷ more) (secrets_again secrets rest long.1)

after_card_head : (card : CardFields) → drop 12 (card_bytes card)
    ≡ concat card.secrets ++ check_of (file_body (card_head card.height card.leaf card.ca) card.secrets)
unfolding card_bytes card_head
after_card_head card = after_head (card_head card.height card.leaf card.ca) card.secrets 12 refl

-- a card's file says that card
pub said_again : (card : CardFields) → IsCard card → card_said (card_bytes card) ≡ card
unfolding card_said
said_again card is =
    let secrets : secrets_of (card.height * (card.height + 1) / 2 + 1) (drop 12 (card_bytes card)) ≡ card.secrets =
    ap (λ (n : ℕ). secrets_of n (drop 12 (card_bytes card))) (sym is.count)
    ∙ ap (secrets_of (length card.secrets)) (after_card_head card)
    ∙ secrets_again card.secrets _ is.secrets in
    let height : height_in (card_bytes card) ≡ card.height = height_written card in
    rw (height, leaf_written card is, ca_written card is, secrets) refl

-- so the card that was read is the one that is told
pub card_read : (word : ℕ) (bytes : List ℕ) (card : CardFields) → IsCard card → bytes ≡ card_bytes card →
    card_refusal word bytes ≡ Ok card
unfolding card_refusal
card_read word bytes card is e =
    ap (λ (f : Option CardFault). card_unless word f (card_said bytes)) (ap fault_in e ∙ written_is_good card is)
    ∙ ap Ok (ap card_said e ∙ said_again card is)
