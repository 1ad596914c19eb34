-- What a broadcast and a card have to do with one another.
use Rattle.std.proofs.Common.{◌≡◌, ℕ, ◌+◌, ◌-◌, ◌*◌, ◌%◌, ◌<◌, ◌≤◌, ◌==◌, Bool, true, false, nat_lt, List, []}
use Rattle.std.proofs.Common.{length, take, Option, Some, None}
use Rattle.std.specs.Prelude.{Contains, bytes_eq, if◌then◌else◌}
use Rattle.std.specs.List.{list_any}
use Rattle.sd_tree_keys.specs.Leaves.{is_member}
use Rattle.sd_packet.specs.Header.{pid_of, scrambling_of}
use Rattle.sd_packet.specs.Positions.{is_placed, moved}
use Rattle.sd_tree_keys.specs.Keys.{period_key_of, control_word_of, check_value_of}
use Rattle.sd_cipher.specs.Scrambling.{descrambled}
use Rattle.sd_site_cards.specs.SiteFields.{AreInRange}
use Rattle.sd_site_cards.specs.CardFields.{CardFields}
use Rattle.sd_cipher.specs.Wrapping.{wrapped as under}
use Rattle.sd_message.specs.EmmSpelled.{listed_entries}
use Rattle.sd_message.specs.Period.{emms_of}
use Rattle.sd_message.specs.declared.emm.Emm.{Emm}
use Rattle.sd_message.specs.EcmParts.{Message, parts_of}
use Rattle.sd_spec.specs.Plan.{Plan, word_of, closing_number}
use Rattle.sd_spec.specs.Kinds.{kind_of, is_scrambled}
use Rattle.sd_spec.specs.Carried.{carried, place_after}
use Rattle.sd_spec.specs.Messages.{period_at, message_at}
use Rattle.sd_psi.specs.declared.our_cat.Tuning.{Tuning}
use Rattle.sd_spec.specs.Keys.{key_from}
use Rattle.sd_spec.specs.Confirmed.{Segment, unmarked}
use Rattle.sd_spec.specs.Offered.{is_before, says_same}
use Rattle.sd_law_losses.specs.Confirmed.{packet_at}
use Rattle.sd_law_losses.proofs.Coming.{AreParts, is_nil}

-- a broadcast and a card
pub record Setting : Type 0 where
  pub plan : Plan
  pub clear : List (List ℕ)
  pub card : CardFields

-- the PIDs of the site's messages
abbrev pub tuning_at : Setting → Tuning
tuning_at s = record { emm = s.plan.site.emm; ecm = s.plan.site.ecm }

-- the number of the closing message
abbrev pub final : Setting → ℕ
final s = closing_number s.plan.site (length s.clear)

-- message number a of the broadcast
unfoldable pub told_by : Setting → ℕ → Message
told_by s a =
    if nat_lt a (final s)
    then message_at s.plan (take (a * s.plan.site.every) s.clear) a (a * s.plan.site.every) false
    else message_at s.plan s.clear a (length s.clear - 1) true

-- clear packet j as it is carried
unfoldable pub carried_at : Setting → ℕ → List ℕ
carried_at s j = carried s.plan.site (take j s.clear) (packet_at s.clear j)

-- the key of period q, where it is due
abbrev pub key_where : Setting → ℕ → Bool → Option (List ℕ)
key_where s q true = Some (period_key_of s.plan.site.master q)
key_where s q false = None

-- what a section of period q is to the card
pub record IsDue (s : Setting) (q : ℕ) (emm : Emm) : Type 0 where
  pub period : emm.period ≡ q
  pub key : key_from s.card emm
      ≡ key_where s q (list_any (λ entry. is_member s.plan.site.height entry.name s.card.leaf) (listed_entries emm))
  pub check : bytes_eq (check_value_of (period_key_of s.plan.site.master q)) emm.check ≡ true

-- a carried packet that is not scrambled is the clear one again
pub record IsOpen (s : Setting) (j : ℕ) : Type 0 where
  pub clear : (scrambling_of (carried_at s j) == 0) ≡ true
  pub again : (segment : Segment) → segment.ca ≡ s.card.ca → segment.ecm ≡ s.plan.site.ecm →
      unmarked segment (carried_at s j) ≡ packet_at s.clear j

-- a carried packet that is scrambled is the clear one under its control word at its position
pub record IsVeiled (s : Setting) (j : ℕ) : Type 0 where
  pub veiled : (scrambling_of (carried_at s j) == 0) ≡ false
  pub parity : (scrambling_of (carried_at s j) == 2 + word_of s.plan.site j % 2) ≡ true
  pub placed : is_placed (carried_at s j) ≡ true
  pub pid : pid_of (carried_at s j) ≡ pid_of (packet_at s.clear j)
  pub clear_placed : is_placed (packet_at s.clear j) ≡ true
  pub again : descrambled (carried_at s j) (control_word_of s.plan.site.master (word_of s.plan.site j))
      (place_after (take j s.clear) (packet_at s.clear j)) ≡ packet_at s.clear j

-- what the laws of the broadcast and of its messages come to for the card
pub record AreLaws (s : Setting) : Type 0 where
  pub range : AreInRange s.plan.site
  pub height : s.card.height ≡ s.plan.site.height
  pub due : (q : ℕ) (emm : Emm) → Contains (emms_of (period_at s.plan q)) emm → IsDue s q emm
  pub same : (q : ℕ) (a b : Emm) → Contains (emms_of (period_at s.plan q)) a →
      Contains (emms_of (period_at s.plan q)) b → says_same a b ≡ true
  pub parts : (a : ℕ) → a ≤ final s → AreParts (told_by s a) [] (parts_of (told_by s a))
  pub some : (a : ℕ) → a ≤ final s → is_nil (parts_of (told_by s a)) ≡ false
  pub forth : (a b : ℕ) → a < b → b ≤ final s → is_before (told_by s b) (told_by s a) ≡ false
  pub word : (a : ℕ) → a ≤ final s →
      under (period_key_of s.plan.site.master (told_by s a).period) (told_by s a).word (told_by s a).wrapped
      ≡ control_word_of s.plan.site.master (told_by s a).word
  pub check : (a : ℕ) → a ≤ final s →
      bytes_eq (check_value_of (control_word_of s.plan.site.master (told_by s a).word)) (told_by s a).check ≡ true
  pub moves : (j pid x : ℕ) → j < length s.clear → moved pid x (carried_at s j) ≡ moved pid x (packet_at s.clear j)
  pub opened : (j : ℕ) → j < length s.clear →
      is_scrambled (kind_of (take j s.clear) (packet_at s.clear j)) ≡ false → IsOpen s j
  pub veiled : (j : ℕ) → j < length s.clear →
      is_scrambled (kind_of (take j s.clear) (packet_at s.clear j)) ≡ true → IsVeiled s j
