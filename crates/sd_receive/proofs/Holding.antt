-- What is held after one thing more.
use Rattle.std.proofs.Common.{◌≡◌, inl, inr, ℕ, ◌+◌, ◌++◌, List, [], ◌∷◌, length, length-append, refl, sym, ap, ◌∙◌}
use Rattle.std.proofs.Common.{true, false, arith}
use Rattle.std.specs.Prelude.{Option, Some, None, nat_lt, nat_le, option_map, if◌then◌else◌}
use Rattle.std.proofs.lemmas.Bool.{cases_lt, lt-ltb, le-ltb}
use Rattle.sd_site_cards.specs.CardFields.{CardFields}
use Rattle.sd_cipher.specs.Wrapping.{wrapped as under}
use Rattle.sd_message.specs.EcmParts.{Message, message_of}
use Rattle.sd_message.specs.declared.ecm_part.Place.{Place}
use Rattle.sd_message.specs.declared.ecm_message.EcmHead.{EcmHead}
use Rattle.sd_psi.specs.declared.our_cat.Tuning.{Tuning}
use Rattle.sd_spec.specs.Heard.{Heard, Other}
use Rattle.sd_spec.specs.Stretches.{Stretch, newest_message, completes, others, other_with, held_in}
use Rattle.sd_spec.specs.Keys.{key_at}
use Rattle.sd_spec.specs.Confirmed.{WrittenPackets}
use Rattle.sd_spec.specs.Offered.{segment_wrote, stretch_wrote}
use Rattle.sd_spec.proofs.Hearing.{newest_waits, newest_completes}
use Rattle.sd_receive.specs.PacketBuffer.{after_message, held_more}
use Rattle.sd_receive.specs.Writing.{wrote_of}
use Rattle.sd_receive.proofs.HoldWalking.{between_messages}
use Rattle.sd_receive.specs.Buffered.{word_under, held_under, held_after, holding_after, pair_wrote, unwritten}
use Rattle.sd_receive.proofs.Stretching.{holds_more, holds_same}

-- nothing was heard
pub nothing_held : (card : CardFields) → holding_after card [] ≡ None
unfolding holding_after newest_message
nothing_held card = refl

same_under : (a b : Stretch) (message : Message) (word : Option (List ℕ)) → held_in a ≡ held_in b →
    held_under a message word ≡ held_under b message word
same_under a b message None held = refl
same_under a b message (Some word) held =
    ap (λ (l : List (ℕ × List ℕ)). if nat_lt 4096 (length l) then None else Some (after_message message word l)) held

same_for : (card : CardFields) (a b : Stretch) (message : Option Message) → a.before ≡ b.before →
    held_in a ≡ held_in b →
    held_after card a message ≡ held_after card b message
same_for card a b None before held = refl
same_for card a b (Some message) before held =
    ap (λ (p : List Heard). held_under a message (word_under message (key_at card p message.period))) before
    ∙ same_under a b message (word_under message (key_at card b.before message.period)) held

-- the same packets are held after the same message
same_after : (card : CardFields) (a b : Stretch) → a.message ≡ b.message → a.before ≡ b.before → held_in a ≡ held_in b →
    held_after card a a.message ≡ held_after card b b.message
same_after card a b message before held =
    same_for card a b a.message before held ∙ ap (held_after card b) message

-- what is no other packet, and completes nothing, changes nothing
pub held_same : (card : CardFields) (past : List Heard) (heard : Heard) → completes past heard ≡ None →
    other_with heard (others (newest_message past).after) ≡ others (newest_message past).after →
    holding_after card (heard ∷ past) ≡ holding_after card past
unfolding holding_after
held_same card past heard none same =
    same_after card (newest_message (heard ∷ past)) (newest_message past) (ap (λ (st : Stretch). st.message)
    (newest_waits past heard none))
    (ap (λ (st : Stretch). st.before) (newest_waits past heard none)) (holds_same past heard none same)

-- one packet more is held, where they are not too many
more_held : (stretch : Stretch) (message : Message) (word : Option (List ℕ)) (n : ℕ) (packet : List ℕ)
    (more : Stretch) →
    held_in more ≡ held_in stretch ++ (n, packet) ∷ [] → held_under more message word ≡ held_more
    (held_under stretch message word) n packet
more_held stretch message None n packet more is = refl
more_held stretch message (Some word) n packet more is =
    let held = held_in stretch in
    let long : length (held_in more) ≡ length held + 1 = ap (λ (l : List (ℕ × List ℕ)). length l) is ∙
    length-append held ((n, packet) ∷ []) in
    elim (cases_lt 4096 (length held)) [
      | inl h ↦
          let old : nat_lt 4096 (length held) ≡ true = lt-ltb 4096 (length held) h in
          let new : nat_lt 4096 (length (held_in more)) ≡ true =
          lt-ltb 4096 (length (held_in more)) (omega (arith, h, long)) in
          rw (old, new) refl
      | inr h ↦
          let old : nat_lt 4096 (length held) ≡ false = le-ltb 4096 (length held) h in
          elim (cases_lt (length held) 4096) [
            | inl g ↦
                let room : nat_lt (length held) 4096 ≡ true = lt-ltb (length held) 4096 g in
                let new : nat_lt 4096 (length (held_in more)) ≡ false =
                le-ltb 4096 (length (held_in more)) (omega (arith, g, long)) in
                rw (old, new, room) (ap (λ (l : List (ℕ × List ℕ)). Some (after_message message word l)) is)
            | inr g ↦
                let room : nat_lt (length held) 4096 ≡ false = le-ltb (length held) 4096 g in
                let new : nat_lt 4096 (length (held_in more)) ≡ true =
                lt-ltb 4096 (length (held_in more)) (omega (arith, g, long)) in
                rw (old, new, room) refl
          ]
    ]

more_after : (card : CardFields) (stretch : Stretch) (message : Option Message) (n : ℕ) (packet : List ℕ)
    (more : Stretch) →
    more.before ≡ stretch.before → held_in more ≡ held_in stretch ++ (n, packet) ∷ [] →
    held_after card more message ≡ held_more (held_after card stretch message) n packet
more_after card stretch None n packet more before is = refl
more_after card stretch (Some message) n packet more before is =
    ap (λ (b : List Heard). held_under more message (word_under message (key_at card b message.period))) before
    ∙ more_held stretch message (word_under message (key_at card stretch.before message.period)) n packet more is

pub held_other : (card : CardFields) (past : List Heard) (n : ℕ) (packet : List ℕ) →
    holding_after card (Other n packet ∷ past) ≡ held_more (holding_after card past) n packet
unfolding holding_after
held_other card past n packet =
    let is = newest_waits past (Other n packet) refl in
    ap (λ (m : Option Message). held_after card (newest_message (Other n packet ∷ past)) m)
    (ap (λ (st : Stretch). st.message) is)
    ∙ more_after card (newest_message past) (newest_message past).message n packet
    (newest_message (Other n packet ∷ past))
    (ap (λ (st : Stretch). st.before) is) (holds_more past n packet)

-- after a message nothing is held yet
begun_under : (past : List Heard) (message : Message) (word : Option (List ℕ)) →
    held_under (record { message = Some message; before = past; after = [] }) message word
    ≡ option_map (λ (w : List ℕ). after_message message w []) word
unfolding others
begun_under past message None = refl
begun_under past message (Some word) = refl

pub held_begun : (card : CardFields) (past : List Heard) (heard : Heard) (message : Message) →
    completes past heard ≡ Some message →
    holding_after card (heard ∷ past)
    ≡ option_map (λ (w : List ℕ). after_message message w []) (word_under message (key_at card past message.period))
unfolding holding_after
held_begun card past heard message done =
    ap (λ (st : Stretch). held_after card st st.message) (newest_completes past heard message done)
    ∙ begun_under past message (word_under message (key_at card past message.period))

-- what is written between two messages is what is written of what is held
pair_of : (card : CardFields) (tuning : Tuning) (stretch : Stretch) (a b : Message) (key : Option (List ℕ)) →
    segment_wrote card tuning stretch a b key ≡ wrote_of (held_under stretch a (word_under a key)) card.ca tuning.ecm
    b.places
pair_of card tuning stretch a b None = refl
pair_of card tuning stretch a b (Some key) =
    elim (cases_lt 4096 (length (held_in stretch))) [
      | inl h ↦ let many : nat_lt 4096 (length (held_in stretch)) ≡ true =
          lt-ltb 4096 (length (held_in stretch)) h in rw many refl
      | inr h ↦
          let few : nat_lt 4096 (length (held_in stretch)) ≡ false = le-ltb 4096 (length (held_in stretch)) h in
          rw few (sym (between_messages a b (under key a.word a.wrapped) card.ca tuning.ecm (held_in stretch)))
    ]

pub wrote_is : (card : CardFields) (tuning : Tuning) (stretch : Stretch) (last : Option EcmHead) (old : List Place)
    (b : Message) →
    stretch.message ≡ option_map (λ (kept : EcmHead). message_of kept old) last →
    stretch_wrote card tuning stretch stretch.message b
    ≡ pair_wrote last (held_after card stretch stretch.message) b.since card.ca tuning.ecm b.places
wrote_is card tuning stretch None old b is = rw is refl
wrote_is card tuning stretch (Some last) old b is =
    rw is (ap (λ (w : WrittenPackets). if nat_le b.since last.number then w else unwritten)
    (pair_of card tuning stretch (message_of last old) b (key_at card stretch.before last.period)))
