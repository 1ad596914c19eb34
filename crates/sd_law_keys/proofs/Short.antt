-- Stream numbers have 64 bits.
use Rattle.std.proofs.Common.{◌≡◌, ℕ, ◌+◌, ◌-◌, ◌^◌, ◌<◌, Bool, true, false, List, [], ◌∷◌, length, take}
use Rattle.std.proofs.Common.{inl, inr, arith}
use Rattle.std.specs.Prelude.{All, Contains, if◌then◌else◌}
use Rattle.std.proofs.lemmas.Bool.{cases_lt}
use Rattle.std.proofs.lemmas.List.{length-take-le}
use Rattle.std.proofs.lemmas.List.Elements.{All-nil, All-cons, All-map, All-contains}
use Rattle.std.proofs.Math.Nat.{zero-div}
use Rattle.sd_base.proofs.Fields.{field_below}
use Rattle.sd_packet.specs.Header.{pid_of}
use Rattle.sd_packet.proofs.Positions.{moved_by_near, next_position}
use Rattle.sd_message.specs.EmmSpelled.{listed_entries}
use Rattle.sd_message.specs.declared.ecm_part.EcmPart.{EcmPart}
use Rattle.sd_spec.specs.Plan.{IsPlan, crypto_length, crypto_of, period_of, word_of}
use Rattle.sd_spec.specs.Refused.{IsSendable}
use Rattle.sd_spec.specs.Sent.{Item, Controls}
use Rattle.sd_spec.specs.Items.{IsOfBroadcast, cat, entitlement, part, closing, carried_on}
use Rattle.sd_spec.proofs.Items.{all_are_of_broadcast}
use Rattle.sd_spec.proofs.Periods.{section_number}
use Rattle.sd_spec.proofs.Schedule.{period_short}
use Rattle.sd_law_broadcast.specs.Runs.{Run, UsesWord, is_veiled, last_crypto, run_packet, run_sent}
use Rattle.sd_law_broadcast.specs.Pads.{Pad, entry_pad, stream_number_at, pads_in, pads_of, part_pad, payload_pad}
use Rattle.sd_law_broadcast.proofs.Clear.{clear_short, clear_words}
use Rattle.sd_law_broadcast.proofs.Texts.{pads_are}
use Rattle.sd_law_broadcast.proofs.Using.{parts_are_used}

-- what is sent is of the broadcast
sent_is_of : (run : Run) (item : Item) → Contains (run_sent run) item → IsOfBroadcast run.plan run.clear item
unfolding run_sent
sent_is_of run item there =
    All-contains (IsOfBroadcast run.plan run.clear) (run_sent run) item (all_are_of_broadcast run.plan run.clear) there

abbrev IsShort : Pad → Type 0
IsShort pad = pad.number < 2 ^ 64

-- the control word of the last packet is of the site's range, and so is the first one
last_word_short : (run : Run) → IsPlan run.plan → IsSendable run.plan.site run.clear →
    word_of run.plan.site (length run.clear - 1) < 2 ^ 32
unfolding word_of crypto_of
last_word_short run fits is = elim (cases_lt 0 (length run.clear)) [
  | inl has ↦
      let below = clear_words run.plan.site run.clear (length run.clear - 1) is (omega (arith, has)) in
      omega (arith, below, fits.site.last_word.1)
  | inr none ↦
      let empty : length run.clear - 1 ≡ 0 = omega (arith, none) in
      rw empty (omega (arith, zero-div (crypto_length run.plan.site), fits.site.first_word.1))
]

-- the number of a control word that a run uses
word_short : (run : Run) (t q : ℕ) → IsPlan run.plan → IsSendable run.plan.site run.clear → UsesWord run t q →
    t < 2 ^ 64
unfolding last_crypto word_of
word_short run t q fits is (n, within, word, period) =
    omega (arith, word, within, last_word_short run fits is)

-- the number of a part of a control message is that of its control word
part_short : (run : Run) (one : EcmPart) → IsPlan run.plan → IsSendable run.plan.site run.clear →
    IsOfBroadcast run.plan run.clear (Controls one) → All IsShort (part_pad run one ∷ [])
part_short run one fits is of =
    All-cons IsShort (part_pad run one) [] (word_short run one.word one.period fits is (parts_are_used run one of))
    (All-nil IsShort)

-- that of a payload is its PID and its position
payload_short : (run : Run) (k : ℕ) → IsSendable run.plan.site run.clear → k < length run.clear →
    stream_number_at run k < 2 ^ 64
unfolding stream_number_at
payload_short run k is within =
    let pid : ℕ = pid_of (run_packet run k) in
    let before : List (List ℕ) = take (k + 1) run.clear in
    let near = (moved_by_near pid 15 before).1 in
    let long : length before ≡ k + 1 = length-take-le (k + 1) run.clear (omega (arith, within)) in
    let place = next_position pid k run.clear within in
    omega (
      arith,
      field_below (run_packet run k) 11 13,
      place,
      near,
      long,
      within,
      clear_short run.plan.site run.clear is,
    )

pads_short : (run : Run) (item : Item) → IsPlan run.plan → IsSendable run.plan.site run.clear →
    IsOfBroadcast run.plan run.clear item → All IsShort (pads_in run item)
pads_short run _ fits is cat = All-nil IsShort
pads_short run _ fits is (entitlement {emm = emm} k within m) =
    let q : ℕ = period_of run.plan k in
    let short : emm.period < 2 ^ 64 =
    omega (arith, section_number run.plan q emm m, period_short run.plan k fits) in
    All-map IsShort (entry_pad run emm) (listed_entries emm) (λ k d within. short)
pads_short run _ fits is (part {part = one} k within due m) = part_short run one fits is (part k within due m)
pads_short run _ fits is (closing {part = one} m) = part_short run one fits is (closing m)
pads_short run _ fits is (carried_on k within) = by_test (is_veiled run k)
  where
    by_test : (b : Bool) → All IsShort (if b then payload_pad run k ∷ [] else [])
    by_test true = All-cons IsShort (payload_pad run k) [] (payload_short run k is within) (All-nil IsShort)
    by_test false = All-nil IsShort

pub numbers_short : (run : Run) (pad : Pad) → IsPlan run.plan → IsSendable run.plan.site run.clear →
    Contains (pads_of run) pad → pad.number < 2 ^ 64
numbers_short run pad fits is m =
    let (item, there, own) = (pads_are run pad).0 m in
    All-contains IsShort (pads_in run item) pad (pads_short run item fits is (sent_is_of run item there)) own
