-- Public meaning: how many packets take a period's key.
use Rattle.std.specs.Prelude.{ℕ, ◌+◌, ◌&&◌, Bool, false, not, nat_le, List, [], ◌∷◌, length, is_none, if◌then◌else◌}
use Rattle.std.specs.Option.{option_map_or}
use Rattle.sd_base.specs.Types.{Packet, Packets}
use Rattle.sd_site_cards.specs.CardFields.{CardFields}
use Rattle.sd_message.specs.declared.emm.Emm.{Emm}
use Rattle.sd_spec.specs.Tuned.{tuning_of}
use Rattle.sd_spec.specs.Heard.{Heard, Dropped, Entitles, Controls, BadEmm, BadEcm, Other, hears}
use Rattle.sd_spec.specs.Stretches.{current, is_closed}
use Rattle.sd_spec.specs.Runs.{of_run}
use Rattle.sd_spec.specs.Keys.{key_from, key_at}
use Rattle.sd_spec.specs.Offered.{heard}

-- a section takes a key: it is of the current period or a later one, of which no key is known, and gives one [this
-- project, docs/FORMATS.md, Receiver]
unfoldable pub takes_key : CardFields → List Heard → Emm → Bool
takes_key card past emm = nat_le (current past) emm.period
    && (is_none (key_at card past emm.period) && not (is_none (key_from card emm)))

-- a thing that is heard takes a key
abbrev pub takes_key_of : CardFields → List Heard → Heard → Bool
takes_key_of card past (Entitles emm) = takes_key card past emm
takes_key_of card past Dropped = false
takes_key_of card past (Controls part) = false
takes_key_of card past (BadEmm fault) = false
takes_key_of card past (BadEcm fault) = false
takes_key_of card past (Other n packet) = false

-- a thing that is heard takes a key of the run that is current with it, and that isn't closed before it
abbrev pub takes_key_in : CardFields → List Heard → Heard → Bool
takes_key_in card past thing =
    if is_closed (of_run past thing) then false else takes_key_of card (of_run past thing) thing

-- a packet takes a key: it is heard as a section that does
unfoldable pub takes_key_at : CardFields → Packets → Packet → Bool
takes_key_at card past packet =
    option_map_or
    (λ tuning. takes_key_in card (heard card past) (hears card.height tuning (length past) packet))
    (tuning_of card.ca past) false

-- how many of these packets take a key, after others [this project, docs/FORMATS.md, Receiver]
unfoldable pub taken_keys : CardFields → Packets → Packets → ℕ
taken_keys card past [] = 0
taken_keys card past (packet ∷ packets) =
    (if takes_key_at card past packet then 1 else 0) + taken_keys card (packet ∷ past) packets
