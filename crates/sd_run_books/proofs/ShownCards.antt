-- The line of a card's file that was read.
use Rattle.std.proofs.Common.{◌≡◌, ◌≤◌, ◌*◌, ◌/◌, ◌+◌, ℕ, arith, length, List, Option, None, Ok, sym, ap, ◌∙◌}
use Rattle.sd_site_cards.specs.Files.{check_in}
use Rattle.sd_site_cards.specs.declared.card_fault.CardFault.{CardFault}
use Rattle.sd_site_cards.specs.CardFaults.{height_in, card_leaf, ca_in, fault_in, length_at}
use Rattle.sd_site_cards.specs.CardFields.{CardFields, IsCard, card_bytes}
use Rattle.sd_site_cards.proofs.Spellings.{good_parts, height_written, leaf_written, ca_written}
use Rattle.sd_command_base.specs.Files.{card_unless}
use Rattle.sd_run_books.specs.Fingerprint.{fingerprint_in}
use Rattle.sd_run_books.specs.Show.{shown_card_line, shown_line, told_show}

-- the line of a card is that of its file's bytes
line_written : (bytes : List ℕ) (card : CardFields) → IsCard card → bytes ≡ card_bytes card →
    shown_line card.height card.leaf card.ca (check_in bytes) (fingerprint_in bytes)
    ≡ shown_card_line bytes
line_written bytes card is e =
    let height : height_in bytes ≡ card.height = ap height_in e ∙ height_written card in
    let leaf : card_leaf bytes ≡ card.leaf = ap card_leaf e ∙ leaf_written card is in
    let ca : ca_in bytes ≡ card.ca = ap ca_in e ∙ ca_written card is in
    let master = fingerprint_in bytes in
    ap (λ (d : ℕ). shown_line d card.leaf card.ca (check_in bytes) master) (sym height)
    ∙ ap (λ (u : ℕ). shown_line (height_in bytes) u card.ca (check_in bytes) master) (sym leaf)
    ∙ ap (λ (system : ℕ). shown_line (height_in bytes) (card_leaf bytes) system (check_in bytes) master) (sym ca)

-- so it is the line that is meant
pub line_read : (word : ℕ) (bytes line : List ℕ) (card : CardFields) → IsCard card → bytes ≡ card_bytes card →
    fault_in bytes ≡ None →
    line ≡ shown_line card.height card.leaf card.ca (check_in bytes) (fingerprint_in bytes) →
    told_show word bytes ≡ Ok line
unfolding told_show
line_read word bytes line card is e none shown =
    ap (λ (f : Option CardFault). card_unless word f (shown_card_line bytes)) none
    ∙ ap Ok (sym (shown ∙ line_written bytes card is e))

-- a card's file has its first secret
pub has_key : (bytes : List ℕ) → fault_in bytes ≡ None → 44 ≤ length bytes
unfolding length_at
has_key bytes none =
    let d = height_in bytes in
    let size = (good_parts bytes none).size in
    omega (arith, size)
