-- Public meaning: what the messages of a broadcast say.
use Rattle.std.specs.Prelude.{Bool, List, length, map}
use Rattle.sd_base.specs.Types.{Packets, PeriodNumber, PacketNumber, MessageNumber}
use Rattle.sd_tree_keys.specs.declared.set.SetName.{SetName}
use Rattle.sd_tree_keys.specs.Keys.{key_of, period_key_of, control_word_of, check_value_of}
use Rattle.sd_packet.specs.Positions.{position_of}
use Rattle.sd_site_cards.specs.SiteFields.{SiteFields, run_name_of}
use Rattle.sd_cipher.specs.Wrapping.{wrapped as under}
use Rattle.sd_message.specs.Period.{Period}
use Rattle.sd_message.specs.declared.emm.Entry.{Entry}
use Rattle.sd_message.specs.EcmParts.{Message}
use Rattle.sd_message.specs.declared.ecm_part.Place.{Place}
use Rattle.sd_spec.specs.Plan.{Plan, sets_at, word_of, period_of, since_of}
use Rattle.sd_spec.specs.Kinds.{moved_pids}

-- a set of period q, and the period key under the set's key [this project, docs/FORMATS.md, Keys and labels]
unfoldable pub entry_of : SiteFields → PeriodNumber → SetName → Entry
entry_of site q name = record { name = name; wrapped = under (key_of site.master name) q (period_key_of site.master q) }

-- the entitlements of period q [this project, docs/FORMATS.md, Messages]
unfoldable pub period_at : Plan → PeriodNumber → Period
period_at plan q = record {
  run = run_name_of plan.site;
  number = q;
  check = check_value_of (period_key_of plan.site.master q);
  entries = map (entry_of plan.site q) (sets_at plan q);
}

-- the positions after these packets, of all PIDs that have moved [this project, docs/FORMATS.md, Messages]
unfoldable pub places_after : Packets → List Place
places_after before = map (λ pid. record { pid = pid; position = position_of pid before }) (moved_pids before)

-- control message number a after these packets, with the control word and the period of packet k [this project,
-- docs/FORMATS.md, Broadcast]
unfoldable pub message_at : Plan → Packets → MessageNumber → PacketNumber → Bool → Message
message_at plan before a k closing = record {
  version = plan.site.messages;
  number = a;
  period = period_of plan k;
  word = word_of plan.site k;
  clear = length before;
  since = since_of plan.site.messages plan.site.cryptos a;
  run = run_name_of plan.site;
  closing = closing;
  wrapped =
      under (period_key_of plan.site.master (period_of plan k)) (word_of plan.site k)
      (control_word_of plan.site.master (word_of plan.site k));
  check = check_value_of (control_word_of plan.site.master (word_of plan.site k));
  places = places_after before;
}
