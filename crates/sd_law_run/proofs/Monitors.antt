-- Good words over good files mean that messages and cards are shown.
use Rattle.std.proofs.Common.{◌≡◌, ℕ, ◌^◌, ◌<◌, ◌≤◌, List, Option, Some, Ok, refl, ap, sym, ◌∙◌, arith}
use Rattle.sd_site_cards.specs.CardFields.{CardFields, IsCard, card_bytes, card_of}
use Rattle.sd_site_cards.proofs.Made.{made_is_card}
use Rattle.sd_site_cards.proofs.Spellings.{written_is_good}
use Rattle.sd_site_cards.specs.Files.{check_in}
use Rattle.sd_command_base.specs.declared.status.Status.TheVariants.{Done}
use Rattle.sd_command_base.specs.declared.status.LimitKind.TheVariants.{CardBytes}
use Rattle.sd_command_base.specs.Spec.{Readings, whole_file_bytes, of_result, value, within, ◌>>=◌}
use Rattle.sd_command_line.specs.Words.{MessagesOf, ShowOf}
use Rattle.sd_command_base.specs.Work.{work_of_text}
use Rattle.sd_command_base.proofs.Follow.{then_is}
use Rattle.sd_command_base.specs.Files.{most_card_bytes, site_in}
use Rattle.sd_command_base.specs.Streams.{stream_status}
use Rattle.sd_run_streams.specs.Messages.{messages_meaning, monitoring, messages_stream_meaning}
use Rattle.sd_run_books.specs.Fingerprint.{fingerprint_in, fingerprint_of}
use Rattle.sd_run_books.specs.Show.{line_of_file, shown_line, told_show}
use Rattle.sd_run_books.proofs.ShownCards.{line_read}
use Rattle.sd_run.specs.Meaning.{meaning}
use Rattle.sd_law_run.specs.Good.{IsGoodMessages, IsGoodShow}
use Rattle.sd_law_run.proofs.Goodness.{file_read, ordered, site_good}
use Rattle.sd_law_run.proofs.Broadcasts.{card_length}
use Rattle.sd_law_run.proofs.Fingerprints.{made_fingerprint}

pub messages_good : (words : List (List ℕ)) (given : Readings) (good : IsGoodMessages words given) →
    ((meaning words given).result ≡ Ok (monitoring good.fields good.bytes))
    × ((monitoring good.fields good.bytes).ends ≡ Done)
unfolding messages_meaning
messages_good words given good = (
  ordered words given (MessagesOf good.site good.stream) good.order
      ∙ then_is (site_in given good.site) good.fields (λ fields. messages_stream_meaning fields good.stream given)
      (site_good given good.site good.fields good.good_site)
      ∙ ap (λ (got : Option (List ℕ)). (whole_file_bytes good.stream.number got
      >>= λ bytes. value (monitoring good.fields bytes)).result) good.there,
  ap stream_status good.whole,
)

-- a card's file within its limit gives its line
card_told : (word : ℕ) (card : CardFields) → IsCard card →
    (line_of_file word (Some (card_bytes card))).result
    ≡ Ok (shown_line card.height card.leaf card.ca (check_in (card_bytes card)) (fingerprint_in (card_bytes card)))
unfolding line_of_file
card_told word card is =
    let bytes = card_bytes card in
    let short = card_length card is in
    then_is (within word most_card_bytes CardBytes (Some bytes)) bytes (λ bytes. of_result (told_show word bytes))
    (file_read word most_card_bytes CardBytes bytes (omega (arith, short)))
    ∙ line_read word bytes (shown_line card.height card.leaf card.ca (check_in bytes) (fingerprint_in bytes)) card is
    refl (written_is_good card is) refl

pub show_good : (words : List (List ℕ)) (given : Readings) (good : IsGoodShow words given) →
    (meaning words given).result
    ≡ Ok
    (work_of_text (shown_line good.fields.height good.fields.leaf good.fields.ca (check_in (card_bytes good.fields))
    (fingerprint_in (card_bytes good.fields))))
show_good words given good =
    let card = good.fields in
    ordered words given (ShowOf good.card) good.order
    ∙ ap (λ (got : Option (List ℕ)). (line_of_file good.card.number got >>= λ line. value (work_of_text line)).result)
    good.there
    ∙ then_is (line_of_file good.card.number (Some (card_bytes card)))
    (shown_line card.height card.leaf card.ca (check_in (card_bytes card)) (fingerprint_in (card_bytes card)))
    (λ line. value (work_of_text line))
    (card_told good.card.number card good.is_card)

-- the line of a leaf's card says its height, its leaf, its system and the fingerprint of its master
pub made_shown : (word : ℕ) (master : List ℕ) (ca d u : ℕ) → ca < 2 ^ 16 → 1 ≤ d → d ≤ 20 → u < 2 ^ d →
    told_show word (card_bytes (card_of master ca d u))
    ≡ Ok (shown_line d u ca (check_in (card_bytes (card_of master ca d u))) (fingerprint_of master))
unfolding card_of
made_shown word master ca d u system some low leaf =
    let card = card_of master ca d u in
    let is = made_is_card master ca d u system some low leaf in
    line_read word (card_bytes card) (shown_line d u ca (check_in (card_bytes card)) (fingerprint_of master)) card is
    refl (written_is_good card is)
    (ap (λ (m : List ℕ). shown_line d u ca (check_in (card_bytes card)) m) (sym (made_fingerprint master ca d u)))
