-- What lies under keystreams in a broadcast is a step of what is known.
use Rattle.std.proofs.Common.{◌≡◌, ℕ, ◌<◌, Bool, true, false, List, [], ◌∷◌, length, refl, subst}
use Rattle.std.specs.Prelude.{All, Contains, if◌then◌else◌}
use Rattle.std.proofs.lemmas.List.Elements.{All-nil, All-cons, All-map, All-contains}
use Rattle.sd_tree_keys.specs.declared.set.SetName.{SetName}
use Rattle.sd_tree_keys.specs.Keys.{control_word_of, period_key_of}
use Rattle.sd_cover_tracing.specs.Reach.{Key}
use Rattle.sd_cover_tracing.proofs.Lists.{member_first}
use Rattle.sd_base.proofs.Lists.{all_by}
use Rattle.sd_message.specs.EmmSpelled.{listed_entries}
use Rattle.sd_message.specs.declared.emm.Emm.{Emm}
use Rattle.sd_message.specs.declared.emm.Entry.{Entry}
use Rattle.sd_message.specs.declared.ecm_part.EcmPart.{EcmPart}
use Rattle.sd_spec.specs.Sent.{Item, Entitles, Controls}
use Rattle.sd_spec.specs.Items.{IsOfBroadcast, cat, entitlement, part, closing, carried_on}
use Rattle.sd_spec.proofs.Items.{all_are_of_broadcast}
use Rattle.sd_law_coalition.specs.Know.{ControlWord, OfTree}
use Rattle.sd_law_coalition.specs.Know as Known
use Rattle.sd_law_broadcast.specs.Known.{IsStepInRuns, entitled, controlled}
use Rattle.sd_law_broadcast.specs.Pads.{KeyName, Pad, PeriodKey, SetKey, Word, entry_pad, pads_in, pads_of, part_pad}
use Rattle.sd_law_broadcast.specs.Pads.{payload_pad}
use Rattle.sd_law_broadcast.specs.Runs.{Run, is_veiled, run_sent}
use Rattle.sd_law_broadcast.proofs.Texts.{pads_are}
use Rattle.sd_law_broadcast.proofs.Using.{entries_are_used, parts_are_used}

-- what is told of a pad by the name of its key
abbrev IsTold : List Run → Run → Pad → KeyName → Type 0
IsTold runs run pad (SetKey name) = IsStepInRuns runs (OfTree (Key name)) (Known.PeriodKey pad.number)
    × (pad.text ≡ period_key_of run.plan.site.master pad.number)
IsTold runs run pad (PeriodKey q) = IsStepInRuns runs (Known.PeriodKey q) (ControlWord pad.number)
    × (pad.text ≡ control_word_of run.plan.site.master pad.number)
IsTold runs run pad (Word t) = (k : ℕ) × (k < length run.clear) × (is_veiled run k ≡ true) × (pad ≡ payload_pad run k)

-- the pad of an entry is one
entry_told : (runs : List Run) (run : Run) (emm : Emm) (entry : Entry) → Contains runs run
    → IsOfBroadcast run.plan run.clear (Entitles emm) → Contains (listed_entries emm) entry
    → IsTold runs run (entry_pad run emm entry) (SetKey entry.name)
entry_told runs run emm entry there is here =
    let (uses, sets) = entries_are_used run emm entry is here in (entitled there uses sets, refl)

-- the pad of a part is one
part_told : (runs : List Run) (run : Run) (one : EcmPart) → Contains runs run
    → IsOfBroadcast run.plan run.clear (Controls one) → IsTold runs run (part_pad run one) (PeriodKey one.period)
part_told runs run one there is = (controlled there (parts_are_used run one is), refl)

-- the pads of each thing that is sent are told
item_told : (runs : List Run) (run : Run) (item : Item) → Contains runs run → IsOfBroadcast run.plan run.clear item
    → All (λ (pad : Pad). IsTold runs run pad pad.key) (pads_in run item)
item_told runs run _ there cat = All-nil (λ (pad : Pad). IsTold runs run pad pad.key)
item_told runs run _ there (entitlement {emm = emm} k within m) =
    All-map (λ (pad : Pad). IsTold runs run pad pad.key) (entry_pad run emm) (listed_entries emm)
    (all_by (λ (entry : Entry). IsTold runs run (entry_pad run emm entry) (SetKey entry.name)) (listed_entries emm)
    (λ entry here. entry_told runs run emm entry there (entitlement k within m) here))
item_told runs run _ there (part {part = one} k within due m) =
    All-cons (λ (pad : Pad). IsTold runs run pad pad.key) (part_pad run one) []
    (part_told runs run one there (part k within due m)) (All-nil (λ (pad : Pad). IsTold runs run pad pad.key))
item_told runs run _ there (closing {part = one} m) =
    All-cons (λ (pad : Pad). IsTold runs run pad pad.key) (part_pad run one) []
    (part_told runs run one there (closing m)) (All-nil (λ (pad : Pad). IsTold runs run pad pad.key))
item_told runs run _ there (carried_on k within) = by_test (is_veiled run k) refl
  where
    by_test : (b : Bool) → is_veiled run k ≡ b
        → All (λ (pad : Pad). IsTold runs run pad pad.key) (if b then payload_pad run k ∷ [] else [])
    by_test true so =
        All-cons (λ (pad : Pad). IsTold runs run pad pad.key) (payload_pad run k) [] (k, within, so, refl)
        (All-nil (λ (pad : Pad). IsTold runs run pad pad.key))
    by_test false plain = All-nil (λ (pad : Pad). IsTold runs run pad pad.key)

-- what is sent is of the broadcast
sent_is_of : (run : Run) (item : Item) → Contains (run_sent run) item → IsOfBroadcast run.plan run.clear item
unfolding run_sent
sent_is_of run item there =
    All-contains (IsOfBroadcast run.plan run.clear) (run_sent run) item (all_are_of_broadcast run.plan run.clear) there

pad_told : (runs : List Run) (run : Run) (pad : Pad) (name : KeyName) → Contains runs run → Contains (pads_of run) pad
    → pad.key ≡ name → IsTold runs run pad name
pad_told runs run pad name there m is =
    let (item, sent, own) = (pads_are run pad).0 m in
    subst (IsTold runs run pad) is
    (All-contains (λ (one : Pad). IsTold runs run one one.key) (pads_in run item) pad
    (item_told runs run item there (sent_is_of run item sent)) own)

pub keys_are_steps : (runs : List Run) (run : Run) (pad : Pad) (name : SetName) → Contains runs run
    → Contains (pads_of run) pad → pad.key ≡ SetKey name
    → IsStepInRuns runs (OfTree (Key name)) (Known.PeriodKey pad.number)
    × (pad.text ≡ period_key_of run.plan.site.master pad.number)
keys_are_steps runs run pad name there m is = pad_told runs run pad (SetKey name) there m is

pub words_are_steps : (runs : List Run) (run : Run) (pad : Pad) (q : ℕ) → Contains runs run → Contains (pads_of run) pad
    → pad.key ≡ PeriodKey q → IsStepInRuns runs (Known.PeriodKey q) (ControlWord pad.number)
    × (pad.text ≡ control_word_of run.plan.site.master pad.number)
words_are_steps runs run pad q there m is = pad_told runs run pad (PeriodKey q) there m is

pub payloads_are_last : (run : Run) (pad : Pad) (t : ℕ) → Contains (pads_of run) pad → pad.key ≡ Word t
    → (k : ℕ) × (k < length run.clear) × (is_veiled run k ≡ true) × (pad ≡ payload_pad run k)
payloads_are_last run pad t m is = pad_told (run ∷ []) run pad (Word t) (member_first run []) m is
