-- What is sent under a keystream is its pad's text under it.
use Rattle.std.proofs.Common.{◌≡◌, ◌⊎◌, ℕ, ◌-◌, ◌/◌, ◌<◌, Bool, true, false, List, [], length, take, get_or, refl, sym}
use Rattle.std.proofs.Common.{ap, subst, ◌∙◌, inl, inr, arith}
use Rattle.std.specs.Prelude.{All, Contains, ◌↔◌}
use Rattle.std.proofs.lemmas.Bool.{false≢true}
use Rattle.std.proofs.lemmas.List.{length-take-le}
use Rattle.std.proofs.lemmas.List.Elements.{All-map, All-contains, All-get_or}
use Rattle.sd_tree_keys.specs.declared.set.SetName.{SetName}
use Rattle.sd_packet.specs.Header.{payload_of}
use Rattle.sd_cipher.specs.Keystream.{keystream, xored}
use Rattle.sd_cipher.specs.Wrapping.{wrapped}
use Rattle.sd_tree_keys.specs.Keys.{key_of, period_key_of, control_word_of}
use Rattle.sd_site_cards.specs.SiteFields.{SiteFields}
use Rattle.sd_cipher.specs.Scrambling.{control_of, payload_under}
use Rattle.sd_cipher.proofs.Scramblings.{laid_reads, control_fits}
use Rattle.sd_message.specs.EmmSpelled.{listed_entries}
use Rattle.sd_message.specs.Period.{emms_of}
use Rattle.sd_message.specs.declared.emm.Emm.{Emm}
use Rattle.sd_message.specs.declared.emm.Entry.{Entry}
use Rattle.sd_message.proofs.EmmSharing.{joined_are_all}
use Rattle.sd_message.specs.EcmParts.{Message, parts_of, IsOfMessage}
use Rattle.sd_message.specs.declared.ecm_part.EcmPart.{EcmPart}
use Rattle.sd_message.proofs.EcmSharing as Parts
use Rattle.sd_cover_tracing.proofs.Reached.{from_one, to_all}
use Rattle.sd_spec.specs.Plan.{Plan, sets_at, word_of, period_of, closing_number}
use Rattle.sd_spec.specs.Kinds.{kind_of, is_scrambled}
use Rattle.sd_spec.specs.Carried.{parity_of, place_after, pmt_carried, packet_under_word, carried_as, carried}
use Rattle.sd_spec.specs.Messages.{entry_of, period_at, message_at}
use Rattle.sd_spec.specs.Sent.{Item, Cat, Entitles, Controls, Carries}
use Rattle.sd_spec.specs.Items.{IsOfBroadcast, cat, entitlement, part, closing, carried_on}
use Rattle.sd_spec.specs.declared.kind.Kind.{Kind}
use Rattle.sd_spec.specs.declared.kind.Kind.TheVariants.{Passed, Pmt, Scrambled}
use Rattle.sd_spec.proofs.Periods.{section_number}
use Rattle.sd_law_broadcast.specs.Packets.{IsWholePacket, AreWholePackets}
use Rattle.sd_law_broadcast.specs.Runs.{Run, run_sent, run_packet, is_veiled}
use Rattle.sd_law_broadcast.specs.Pads.{Pad, under_keystream, stream_number_at, entry_pad, part_pad, payload_pad}
use Rattle.sd_law_broadcast.specs.Pads.{pads_in}
use Rattle.sd_law_broadcast.specs.Pads.{pads_of}

-- an entry of period q: the period's key under the key of its set
abbrev IsEntry : SiteFields → ℕ → Entry → Type 0
IsEntry site q entry =
    entry.wrapped ≡ xored (period_key_of site.master q) (keystream (key_of site.master entry.name) q 32)

entry_is : (site : SiteFields) (q : ℕ) (name : SetName) → IsEntry site q (entry_of site q name)
unfolding entry_of wrapped
entry_is site q name = refl

entries_are : (plan : Plan) (q : ℕ) → All (IsEntry plan.site q) (period_at plan q).entries
unfolding period_at
entries_are plan q =
    All-map (IsEntry plan.site q) (entry_of plan.site q) (sets_at plan q)
    (λ k d within. entry_is plan.site q (get_or (sets_at plan q) k d))

-- each entry of a section is one of its period's
pub entry_of_period : (plan : Plan) (q : ℕ) (emm : Emm) (entry : Entry) → Contains (emms_of (period_at plan q)) emm
    → Contains (listed_entries emm) entry → Contains (period_at plan q).entries entry
entry_of_period plan q emm entry there m =
    subst (λ (entries : List Entry). Contains entries entry) (joined_are_all (period_at plan q))
    (to_all listed_entries (emms_of (period_at plan q)) emm entry there m)

-- a part of a message has its number, its period and its wrapped word
pub part_of_message : (message : Message) (one : EcmPart) → Contains (parts_of message) one → IsOfMessage message one
part_of_message message one m =
    All-contains (IsOfMessage message) (parts_of message) one (Parts.all_are_of message) m

-- a message has its control word under the key of its period
abbrev IsControl : SiteFields → ℕ → ℕ → List ℕ → Type 0
IsControl site q t text =
    text ≡ xored (control_word_of site.master t) (keystream (period_key_of site.master q) t 32)

message_is : (plan : Plan) (before : List (List ℕ)) (a k : ℕ) (last : Bool) → IsControl plan.site
    (message_at plan before a k last).period (message_at plan before a k last).word
    (message_at plan before a k last).wrapped
unfolding message_at wrapped
message_is plan before a k last = refl

part_is : (plan : Plan) (before : List (List ℕ)) (a k : ℕ) (last : Bool) (one : EcmPart)
    → Contains (parts_of (message_at plan before a k last)) one
    → IsControl plan.site one.period one.word one.wrapped
part_is plan before a k last one m =
    let is = part_of_message (message_at plan before a k last) one m in
    rw (is.period, is.word, is.wrapped) (message_is plan before a k last)

-- a packet that the run scrambles is of that kind
pub kind_is : (kind : Kind) → is_scrambled kind ≡ true → kind ≡ Scrambled
kind_is Passed is = absurd (false≢true is)
kind_is Pmt is = absurd (false≢true is)
kind_is Scrambled so = refl

-- its payload is carried under its control word
veiled_payload : (site : SiteFields) (t position : ℕ) (packet : List ℕ) → IsWholePacket packet
    → payload_of (packet_under_word site t position packet) ≡ payload_under packet (control_word_of site.master t)
    position
unfolding packet_under_word
veiled_payload site t position packet whole =
    (laid_reads packet (control_word_of site.master t) position (control_of (parity_of t)) whole.long (whole.bytes 3)
    (control_fits (parity_of t))).payload_is

carried_veiled : (site : SiteFields) (before : List (List ℕ)) (packet : List ℕ) → kind_of before packet ≡ Scrambled
    → carried site before packet ≡ packet_under_word site (word_of site (length before)) (place_after before packet)
    packet
unfolding carried
carried_veiled site before packet kind = ap (λ (kind : Kind). carried_as kind site before packet) kind

payload_is : (run : Run) (k : ℕ) → AreWholePackets run.clear → k < length run.clear → is_veiled run k ≡ true
    → payload_of (carried run.plan.site (take k run.clear) (run_packet run k))
    ≡ under_keystream run.plan.site.master (payload_pad run k) 184
unfolding is_veiled stream_number_at
payload_is run k whole within so =
    let before : List (List ℕ) = take k run.clear in
    let long : length before ≡ k = length-take-le k run.clear (omega (arith, within)) in
    let kind = kind_is (kind_of before (run_packet run k)) so in
    let one : IsWholePacket (run_packet run k) = All-get_or IsWholePacket run.clear k [] within whole in
    ap payload_of (carried_veiled run.plan.site before (run_packet run k) kind)
    ∙ (veiled_payload run.plan.site (word_of run.plan.site (length before)) (place_after before (run_packet run k))
    (run_packet run k) one
    ∙ ap (λ (n : ℕ). payload_under (run_packet run k) (control_word_of run.plan.site.master (word_of run.plan.site n))
    (place_after before (run_packet run k))) long)

-- any other packet is carried as it was, or with the project's descriptor
other_is : (run : Run) (k : ℕ) → is_veiled run k ≡ false
    → (carried run.plan.site (take k run.clear) (run_packet run k) ≡ run_packet run k)
    ⊎ (carried run.plan.site (take k run.clear) (run_packet run k) ≡ pmt_carried run.plan.site (run_packet run k))
unfolding is_veiled carried
other_is run k plain = by_kind (kind_of (take k run.clear) (run_packet run k)) plain
  where
    by_kind : (kind : Kind) → is_scrambled kind ≡ false
        → (carried_as kind run.plan.site (take k run.clear) (run_packet run k) ≡ run_packet run k)
        ⊎ (carried_as kind run.plan.site (take k run.clear) (run_packet run k)
        ≡ pmt_carried run.plan.site (run_packet run k))
    by_kind Passed is = inl refl
    by_kind Pmt is = inr refl
    by_kind Scrambled is = absurd (false≢true (sym is))

-- what lies in each thing that is sent
abbrev Lies : Run → Item → Type 0
Lies run Cat = Unit {0}
Lies run (Entitles emm) = (entry : Entry) → Contains (listed_entries emm) entry
    → entry.wrapped ≡ under_keystream run.plan.site.master (entry_pad run emm entry) 32
Lies run (Controls one) = one.wrapped ≡ under_keystream run.plan.site.master (part_pad run one) 32
Lies run (Carries k packet) = (AreWholePackets run.clear → is_veiled run k ≡ true
    → payload_of packet ≡ under_keystream run.plan.site.master (payload_pad run k) 184)
    × (is_veiled run k ≡ false
    → (packet ≡ run_packet run k) ⊎ (packet ≡ pmt_carried run.plan.site (run_packet run k)))

lies : (run : Run) (item : Item) → IsOfBroadcast run.plan run.clear item → Lies run item
lies run _ cat = tt
lies run _ (entitlement {emm = emm} k within m) = λ entry here.
    let q : ℕ = period_of run.plan k in
    subst (λ (n : ℕ). IsEntry run.plan.site n entry) (sym (section_number run.plan q emm m))
    (All-contains (IsEntry run.plan.site q) (period_at run.plan q).entries entry (entries_are run.plan q)
    (entry_of_period run.plan q emm entry m here))
lies run _ (part {part = one} k within due m) =
    part_is run.plan (take k run.clear) (k / run.plan.site.every) k false one m
lies run _ (closing {part = one} m) =
    part_is run.plan run.clear (closing_number run.plan.site (length run.clear)) (length run.clear - 1) true one m
lies run _ (carried_on k within) = (λ whole so. payload_is run k whole within so, other_is run k)

pub entries_lie : (run : Run) (emm : Emm) (entry : Entry) → IsOfBroadcast run.plan run.clear (Entitles emm)
    → Contains (listed_entries emm) entry →
    entry.wrapped ≡ under_keystream run.plan.site.master (entry_pad run emm entry) 32
entries_lie run emm entry is here = lies run (Entitles emm) is entry here

pub parts_lie : (run : Run) (one : EcmPart) → IsOfBroadcast run.plan run.clear (Controls one)
    → one.wrapped ≡ under_keystream run.plan.site.master (part_pad run one) 32
parts_lie run one is = lies run (Controls one) is

pub payloads_lie : (run : Run) (k : ℕ) (packet : List ℕ) → AreWholePackets run.clear
    → IsOfBroadcast run.plan run.clear (Carries k packet) → is_veiled run k ≡ true
    → payload_of packet ≡ under_keystream run.plan.site.master (payload_pad run k) 184
payloads_lie run k packet whole is so = (lies run (Carries k packet) is).0 whole so

pub others_stay : (run : Run) (k : ℕ) (packet : List ℕ) → IsOfBroadcast run.plan run.clear (Carries k packet)
    → is_veiled run k ≡ false → (packet ≡ run_packet run k) ⊎ (packet ≡ pmt_carried run.plan.site (run_packet run k))
others_stay run k packet is plain = (lies run (Carries k packet) is).1 plain

-- the pads of a broadcast are those of the things that it sends
pub pads_are : (run : Run) (pad : Pad) → Contains (pads_of run) pad
    ↔ ((item : Item) × Contains (run_sent run) item × Contains (pads_in run item) pad)
unfolding pads_of
pads_are run pad = (
  λ m. from_one (pads_in run) (run_sent run) pad m,
  λ (item, there, m). to_all (pads_in run) (run_sent run) item pad there m,
)
