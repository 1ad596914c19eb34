-- Public meaning: what a broadcast lays keystreams over.
use Rattle.std.specs.Prelude.{ℕ, List, [], ◌∷◌, Bool, true, false, take, map, if◌then◌else◌}
use Rattle.std.specs.List.{flat_map}
use Rattle.sd_base.specs.Types.{Bytes, Key, PeriodNumber, WordNumber, PacketNumber}
use Rattle.sd_tree_keys.specs.declared.set.SetName.{SetName}
use Rattle.sd_packet.specs.Header.{pid_of, payload_of}
use Rattle.sd_tree_keys.specs.Keys.{key_of, period_key_of, control_word_of}
use Rattle.sd_cipher.specs.Keystream.{keystream, xored}
use Rattle.sd_cipher.specs.Scrambling.{stream_number}
use Rattle.sd_message.specs.EmmSpelled.{listed_entries}
use Rattle.sd_message.specs.declared.emm.Emm.{Emm}
use Rattle.sd_message.specs.declared.emm.Entry.{Entry}
use Rattle.sd_message.specs.declared.ecm_part.EcmPart.{EcmPart}
use Rattle.sd_spec.specs.Plan.{word_of}
use Rattle.sd_spec.specs.Carried.{place_after}
use Rattle.sd_spec.specs.Sent.{Item, Cat, Entitles, Controls, Carries}
use Rattle.sd_law_broadcast.specs.Runs.{Run, run_sent, run_packet, is_veiled}

-- the name of a key: that of a set, of a period, or a control word by its number
pub data KeyName : Type 0 where
  SetKey : SetName → KeyName
  PeriodKey : PeriodNumber → KeyName
  Word : WordNumber → KeyName

-- the key itself [this project, docs/FORMATS.md, Keys and labels]
abbrev pub key_bytes : Key → KeyName → Key
key_bytes master (SetKey name) = key_of master name
key_bytes master (PeriodKey q) = period_key_of master q
key_bytes master (Word t) = control_word_of master t

-- keys wrap keys under those of sets and periods; control words scramble payloads
abbrev pub is_for_keys : KeyName → Bool
is_for_keys (SetKey name) = true
is_for_keys (PeriodKey q) = true
is_for_keys (Word t) = false

-- a text that lies under a keystream: the key's name, the stream number, and the text
pub record Pad : Type 0 where
  pub key : KeyName
  pub number : ℕ
  pub text : Bytes

-- the text of the pad XORed with the first n bytes of its keystream [this project, docs/FORMATS.md, Keystream]
abbrev pub under_keystream : Key → Pad → ℕ → Bytes
under_keystream master pad n = xored pad.text (keystream (key_bytes master pad.key) pad.number n)

-- the stream number of clear packet k: its PID, and its position [this project, docs/FORMATS.md, Keystream]
unfoldable pub stream_number_at : Run → PacketNumber → ℕ
stream_number_at run k = stream_number (pid_of (run_packet run k)) (place_after (take k run.clear) (run_packet run k))

-- a set's entry: the period's key under the key of the set [this project, docs/FORMATS.md, Messages]
abbrev pub entry_pad : Run → Emm → Entry → Pad
entry_pad run emm entry =
    record { key = SetKey entry.name; number = emm.period; text = period_key_of run.plan.site.master emm.period }

-- a part of a control message: the control word under the period's key [this project, docs/FORMATS.md, Messages]
abbrev pub part_pad : Run → EcmPart → Pad
part_pad run part = record {
  key = PeriodKey part.period;
  number = part.word;
  text = control_word_of run.plan.site.master part.word;
}

-- clear packet k: its payload under its control word [this project, docs/FORMATS.md, Keystream]
abbrev pub payload_pad : Run → PacketNumber → Pad
payload_pad run k = record {
  key = Word (word_of run.plan.site k);
  number = stream_number_at run k;
  text = payload_of (run_packet run k);
}

-- what lies under keystreams in one thing that is sent
abbrev pub pads_in : Run → Item → List Pad
pads_in run Cat = []
pads_in run (Entitles emm) = map (entry_pad run emm) (listed_entries emm)
pads_in run (Controls part) = part_pad run part ∷ []
pads_in run (Carries k packet) = if is_veiled run k then payload_pad run k ∷ [] else []

-- what lies under keystreams in the broadcast of the run, in order
unfoldable pub pads_of : Run → List Pad
pads_of run = flat_map (pads_in run) (run_sent run)
