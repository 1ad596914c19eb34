-- Texts under one key and one stream number are equal.
use Rattle.std.proofs.Common.{◌≡◌, ℕ, ◌<◌, Bool, true, false, List, [], ◌∷◌, length, refl, sym, ap, subst, ◌∙◌}
use Rattle.std.specs.Prelude.{All, Contains, Some, slice_get, if◌then◌else◌}
use Rattle.std.proofs.lemmas.Bool.{false≢true}
use Rattle.std.proofs.lemmas.List.Elements.{All-nil, All-cons, All-map, All-contains}
use Rattle.sd_packet.specs.Header.{payload_of}
use Rattle.sd_tree_keys.specs.Keys.{period_key_of, control_word_of}
use Rattle.sd_message.specs.EmmSpelled.{listed_entries}
use Rattle.sd_spec.specs.Plan.{word_of}
use Rattle.sd_spec.specs.Refused.{IsSendable}
use Rattle.sd_spec.specs.Sent.{Item}
use Rattle.sd_spec.specs.Items.{IsOfBroadcast, cat, entitlement, part, closing, carried_on}
use Rattle.sd_spec.proofs.Items.{all_are_of_broadcast}
use Rattle.sd_law_broadcast.specs.Runs.{Run, IsRun, HaveOwnWords, run_sent, run_packet, is_veiled}
use Rattle.sd_law_broadcast.specs.Pads.{KeyName, SetKey, PeriodKey, Word, is_for_keys, Pad, stream_number_at, entry_pad}
use Rattle.sd_law_broadcast.specs.Pads.{part_pad}
use Rattle.sd_law_broadcast.specs.Pads.{payload_pad, pads_in, pads_of}
use Rattle.sd_law_broadcast.proofs.Places.{one_packet}
use Rattle.sd_law_broadcast.proofs.Words.{IsWordOf, at_place, packet_words, one_run, one_at}
use Rattle.sd_law_broadcast.proofs.Texts.{pads_are}

-- the payload of a scrambled packet of the run, under control word t and this stream number
record IsPayload (run : Run) (t number : ℕ) (text : List ℕ) : Type 0 where
  k : ℕ
  within : k < length run.clear
  veiled : is_veiled run k ≡ true
  word : t ≡ word_of run.plan.site k
  at : number ≡ stream_number_at run k
  payload : text ≡ payload_of (run_packet run k)

-- the text that a run has under a key and a stream number
abbrev IsText : Run → KeyName → ℕ → List ℕ → Type 0
IsText run (SetKey name) number text = text ≡ period_key_of run.plan.site.master number
IsText run (PeriodKey q) number text = text ≡ control_word_of run.plan.site.master number
IsText run (Word t) number text = IsPayload run t number text

abbrev IsPadOf : Run → Pad → Type 0
IsPadOf run pad = IsText run pad.key pad.number pad.text

-- the pads of each thing that is sent are such
pads_told : (run : Run) (item : Item) → IsOfBroadcast run.plan run.clear item → All (IsPadOf run) (pads_in run item)
pads_told run _ cat = All-nil (IsPadOf run)
pads_told run _ (entitlement {emm = emm} k within m) =
    All-map (IsPadOf run) (entry_pad run emm) (listed_entries emm) (λ k d within. refl)
pads_told run _ (part {part = one} k within due m) =
    All-cons (IsPadOf run) (part_pad run one) [] refl (All-nil (IsPadOf run))
pads_told run _ (closing {part = one} m) =
    All-cons (IsPadOf run) (part_pad run one) [] refl (All-nil (IsPadOf run))
pads_told run _ (carried_on k within) = by_test (is_veiled run k) refl
  where
    by_test : (b : Bool) → is_veiled run k ≡ b → All (IsPadOf run) (if b then payload_pad run k ∷ [] else [])
    by_test true so =
        All-cons (IsPadOf run) (payload_pad run k) []
        (record { k = k; within = within; veiled = so; word = refl; at = refl; payload = refl })
        (All-nil (IsPadOf run))
    by_test false plain = All-nil (IsPadOf run)

-- what is sent is of the broadcast
sent_is_of : (run : Run) (item : Item) → Contains (run_sent run) item → IsOfBroadcast run.plan run.clear item
unfolding run_sent
sent_is_of run item there =
    All-contains (IsOfBroadcast run.plan run.clear) (run_sent run) item (all_are_of_broadcast run.plan run.clear) there

pad_told : (run : Run) (pad : Pad) → Contains (pads_of run) pad → IsPadOf run pad
pad_told run pad m =
    let (item, there, own) = (pads_are run pad).0 m in
    All-contains (IsPadOf run) (pads_in run item) pad (pads_told run item (sent_is_of run item there)) own

-- the text under another run's key and number, which are the same
text_at : (run : Run) (x y : Pad) → Contains (pads_of run) y → x.key ≡ y.key → x.number ≡ y.number
    → IsText run x.key x.number y.text
text_at run x y m keys numbers =
    subst (λ (key : KeyName). IsText run key x.number y.text) (sym keys)
    (subst (λ (n : ℕ). IsText run y.key n y.text) (sym numbers) (pad_told run y m))

-- keys under one key and number are one key
same_keys : (a b : Run) (name : KeyName) (number : ℕ) (s t : List ℕ) → a.plan.site.master ≡ b.plan.site.master
    → is_for_keys name ≡ true → IsText a name number s → IsText b name number t → s ≡ t
same_keys a b (SetKey name) number s t masters so p q =
    p ∙ (ap (λ (m : List ℕ). period_key_of m number) masters ∙ sym q)
same_keys a b (PeriodKey name) number s t masters so p q =
    p ∙ (ap (λ (m : List ℕ). control_word_of m number) masters ∙ sym q)
same_keys a b (Word name) number s t masters is p q = absurd (false≢true is)

pub keys_repeat : (a b : Run) (x y : Pad) → a.plan.site.master ≡ b.plan.site.master → Contains (pads_of a) x
    → Contains (pads_of b) y → x.key ≡ y.key → x.number ≡ y.number → is_for_keys x.key ≡ true → x.text ≡ y.text
keys_repeat a b x y masters m n keys numbers so =
    same_keys a b x.key x.number x.text y.text masters so (pad_told a x m) (text_at b x y n keys numbers)

-- payloads of one run under one stream number are one
one_payload : (run : Run) (t u number : ℕ) (x y : List ℕ) → IsSendable run.plan.site run.clear
    → IsPayload run t number x → IsPayload run u number y → x ≡ y
one_payload run t u number x y is p q =
    let same = one_packet run p.k q.k is p.within q.within p.veiled q.veiled (sym p.at ∙ q.at) in
    p.payload ∙ (ap (λ (k : ℕ). payload_of (run_packet run k)) same ∙ sym q.payload)

-- texts of one run under one key and number are one
one_text : (run : Run) (name : KeyName) (number : ℕ) (s t : List ℕ) → IsSendable run.plan.site run.clear
    → IsText run name number s → IsText run name number t → s ≡ t
one_text run (SetKey name) number s t is p q = p ∙ sym q
one_text run (PeriodKey name) number s t is p q = p ∙ sym q
one_text run (Word w) number s t is p q = one_payload run w w number s t is p q

pub texts_repeat : (run : Run) (x y : Pad) → IsSendable run.plan.site run.clear → Contains (pads_of run) x
    → Contains (pads_of run) y → x.key ≡ y.key → x.number ≡ y.number → x.text ≡ y.text
texts_repeat run x y is m n keys numbers =
    one_text run x.key x.number x.text y.text is (pad_told run x m) (text_at run x y n keys numbers)

-- packets of several runs under one control word and stream number are one packet
pub packets_repeat : (master : List ℕ) (runs : List Run) (i j k l : ℕ) (a b : Run) → All (IsRun master) runs
    → HaveOwnWords runs → slice_get runs i ≡ Some a → slice_get runs j ≡ Some b → k < length a.clear →
    l < length b.clear
    → is_veiled a k ≡ true → is_veiled b l ≡ true → word_of a.plan.site k ≡ word_of b.plan.site l
    → stream_number_at a k ≡ stream_number_at b l → (i ≡ j) × (k ≡ l)
packets_repeat master runs i j k l a b all own first second inside within veiled other words numbers =
    let is = at_place (IsRun master) runs i a first all in
    let its = at_place (IsRun master) runs j b second all in
    let word = packet_words a.plan.site a.clear k is.is_sendable inside in
    let same : IsWordOf b.plan.site (word_of a.plan.site k) =
    subst (IsWordOf b.plan.site) (sym words) (packet_words b.plan.site b.clear l its.is_sendable within) in
    let place = one_run runs i j a b (word_of a.plan.site k) own first second word same in
    let run = one_at runs i j a b first second place in (
      place,
      one_packet b k l its.is_sendable (subst (λ (r : Run). k < length r.clear) run inside) within
          (subst (λ (r : Run). is_veiled r k ≡ true) run veiled) other
          (subst (λ (r : Run). stream_number_at r k ≡ stream_number_at b l) run numbers),
    )

-- the runs have one master
masters_are : (master : List ℕ) (runs : List Run) (i j : ℕ) (a b : Run) → All (IsRun master) runs
    → slice_get runs i ≡ Some a → slice_get runs j ≡ Some b → a.plan.site.master ≡ b.plan.site.master
masters_are master runs i j a b all first second =
    (at_place (IsRun master) runs i a first all).master_is
    ∙ sym (at_place (IsRun master) runs j b second all).master_is

-- texts of several runs under one key and number are one
two_texts : (master : List ℕ) (runs : List Run) (i j : ℕ) (a b : Run) (name : KeyName) (number : ℕ) (s t : List ℕ)
    → All (IsRun master) runs → HaveOwnWords runs → slice_get runs i ≡ Some a → slice_get runs j ≡ Some b
    → IsText a name number s → IsText b name number t → s ≡ t
two_texts master runs i j a b (SetKey name) number s t all own first second p q =
    same_keys a b (SetKey name) number s t (masters_are master runs i j a b all first second) refl p q
two_texts master runs i j a b (PeriodKey name) number s t all own first second p q =
    same_keys a b (PeriodKey name) number s t (masters_are master runs i j a b all first second) refl p q
two_texts master runs i j a b (Word w) number s t all own first second p q =
    let parts = packets_repeat master runs i j p.k q.k a b all own first second p.within q.within p.veiled q.veiled
    (sym p.word ∙ q.word) (sym p.at ∙ q.at) in
    let run = one_at runs i j a b first second parts.0 in
    p.payload ∙ (ap (λ (r : Run). payload_of (run_packet r p.k)) run
    ∙ (ap (λ (k : ℕ). payload_of (run_packet b k)) parts.1 ∙ sym q.payload))

pub texts_of_several : (master : List ℕ) (runs : List Run) (i j : ℕ) (a b : Run) (x y : Pad) → All (IsRun master) runs
    → HaveOwnWords runs → slice_get runs i ≡ Some a → slice_get runs j ≡ Some b → Contains (pads_of a) x
    → Contains (pads_of b) y → x.key ≡ y.key → x.number ≡ y.number → x.text ≡ y.text
texts_of_several master runs i j a b x y all own first second m n keys numbers =
    two_texts master runs i j a b x.key x.number x.text y.text all own first second (pad_told a x m)
    (text_at b x y n keys numbers)
