-- What is written where no packet that is buffered is stray.
use Rattle.std.proofs.Common.{◌≡◌, inl, inr, ℕ, List, [], ◌∷◌, refl, ap, ◌∙◌, subst, true, false, Bool}
use Rattle.std.specs.Prelude.{◌&&◌, ◌==◌, ◌++◌, Option, Some, None, Result, Ok, Err, nat_le, nat_lt, length}
use Rattle.std.specs.Prelude.{map, not, if◌then◌else◌}
use Rattle.std.specs.List.{list_any}
use Rattle.std.specs.Option.{option_map_or}
use Rattle.std.proofs.lemmas.Bool.{or_parts, true≢false}
use Rattle.sd_packet.specs.Header.{pid_of, scrambling_of}
use Rattle.sd_cipher.specs.Scrambling.{descrambled}
use Rattle.sd_cipher.specs.Wrapping.{wrapped as under}
use Rattle.sd_site_cards.specs.CardFields.{CardFields}
use Rattle.sd_message.specs.EcmParts.{Message, message_of}
use Rattle.sd_message.specs.declared.ecm_part.EcmPart.{EcmPart}
use Rattle.sd_message.specs.declared.ecm_message.EcmHead.{EcmHead}
use Rattle.sd_message.specs.declared.stream_fault.StreamFault.{StreamFault}
use Rattle.sd_message.specs.declared.stream_fault.StreamFault.TheVariants as Fault
use Rattle.sd_psi.specs.declared.our_cat.Tuning.{Tuning}
use Rattle.sd_engine.specs.Stage.{SinkState}
use Rattle.sd_engine.specs.declared.stage.StageFault.{StageFault}
use Rattle.sd_spec.specs.Heard.{Heard, Controls}
use Rattle.sd_spec.specs.Stretches.{Stretch, newest_message, held_in}
use Rattle.sd_spec.specs.Keys.{key_at}
use Rattle.sd_spec.specs.Confirmed.{Segment, WrittenPackets, written_from, judged_packet, then_segment_output, tracked}
use Rattle.sd_spec.specs.Confirmed.{is_confirmed, is_foreign}
use Rattle.sd_spec.specs.Confirmed.{unmarked, is_foreign_under}
use Rattle.sd_spec.specs.Counting.{holds_stray, is_scrambled_packet}
use Rattle.sd_spec.specs.Offered.{Offering, most_held, segment_wrote, stretch_wrote, word_fault}
use Rattle.sd_spec.specs.Offered.{heard_offering}
use Rattle.sd_receive.specs.PeriodKeys.{key_kept}
use Rattle.sd_receive.specs.Session.{IsListenerAtMessage, IsWordTold, TakesMessage, RefusesHeardMessage, CutsMessage}
use Rattle.sd_receive.specs.Session.{fault_first}
use Rattle.sd_receive.specs.Session.{TookSome, SessionOutcome}
use Rattle.sd_receive.specs.declared.session.Session.{Session}
use Rattle.sd_receive.proofs.Listening.{took_nothing, comes_weaker}
use Rattle.sd_receive.proofs.Messages.{key_ahead}
use Rattle.sd_receive.proofs.Offering.{part_completes}

-- a packet that isn't stray is judged right
right_then : (clear foreign confirmed : Bool) (a b : List (List ℕ)) (n : ℕ) (rest : WrittenPackets) →
    (not clear && foreign) ≡ false → rest.refused ≡ None →
    (then_segment_output (if clear then Ok a else if foreign then Err n else if confirmed then Ok b else Ok [])
    rest).refused
    ≡ None
right_then true foreign confirmed a b n rest calm none = none
right_then false true confirmed a b n rest calm none = absurd (true≢false calm)
right_then false false true a b n rest calm none = none
right_then false false false a b n rest calm none = none

-- none of some packets is refused of which none is stray
none_refused : (segment : Segment) (before : List (List ℕ)) (held : List (ℕ × List ℕ)) →
    list_any (λ h. is_scrambled_packet h.1 && is_foreign_under segment.first.word h.1) held ≡ false →
    (written_from segment before held).refused ≡ None
unfolding written_from judged_packet
none_refused segment before [] calm = refl
none_refused segment before (h ∷ more) calm =
    let parts = or_parts (is_scrambled_packet h.1 && is_foreign_under segment.first.word h.1)
    (list_any (λ h. is_scrambled_packet h.1 && is_foreign_under segment.first.word h.1) more) calm in
    right_then (scrambling_of h.1 == 0) (is_foreign segment h.1) (is_confirmed segment (pid_of h.1))
    (unmarked segment h.1 ∷ [])
    (descrambled h.1 segment.word (tracked segment.first (pid_of h.1) (before ++ h.1 ∷ [])) ∷ []) h.0
    (written_from segment (before ++ h.1 ∷ []) more) parts.0
    (none_refused segment (before ++ h.1 ∷ []) more parts.1)

either_calm : (test : Bool) (a b : WrittenPackets) → a.refused ≡ None → b.refused ≡ None →
    (if test then a else b).refused ≡ None
either_calm true a b p q = p
either_calm false a b p q = q

abbrev nothing : WrittenPackets
nothing = record { packets = []; refused = None }

-- what is held after message a, which no stray packet is
abbrev holds_foreign : Stretch → Message → Bool
holds_foreign stretch a = list_any (λ h. is_scrambled_packet h.1 && is_foreign_under a.word h.1) (held_in stretch)

segment_calm : (card : CardFields) (tuning : Tuning) (stretch : Stretch) (a b : Message) (key : Option (List ℕ)) →
    holds_foreign stretch a ≡ false → (segment_wrote card tuning stretch a b key).refused ≡ None
segment_calm card tuning stretch a b None calm = refl
segment_calm card tuning stretch a b (Some key) calm =
    let segment : Segment = record {
      first = a;
      last = b;
      word = under key a.word a.wrapped;
      ca = card.ca;
      ecm = tuning.ecm;
      packets = map (λ held. held.1) (held_in stretch);
    } in
    either_calm (nat_lt most_held (length (held_in stretch))) nothing (written_from segment [] (held_in stretch)) refl
    (none_refused segment [] (held_in stretch) calm)

stretch_calm : (card : CardFields) (tuning : Tuning) (stretch : Stretch) (message : Option Message) (b : Message) →
    option_map_or (holds_foreign stretch) message false ≡ false →
    (stretch_wrote card tuning stretch message b).refused ≡ None
stretch_calm card tuning stretch None b calm = refl
stretch_calm card tuning stretch (Some a) b calm =
    either_calm (nat_le b.since a.number) (segment_wrote card tuning stretch a b (key_at card stretch.before a.period))
    nothing (segment_calm card tuning stretch a b (key_at card stretch.before a.period) calm) refl

-- so a message is refused for its control word alone
pub word_alone : (card : CardFields) (tuning : Tuning) (n : ℕ) (past : List Heard) (part : EcmPart) (head : EcmHead)
    (s : Session) → IsListenerAtMessage card past part head s → holds_stray past ≡ false →
    (heard_offering card tuning n past (Controls part)).fault
    ≡ word_fault n (message_of head s.assembler.coming.places.items) (key_at card past head.period)
unfolding holds_stray
word_alone card tuning n past part head s done calm =
    let message = message_of head s.assembler.coming.places.items in
    let bad = word_fault n message (key_at card past head.period) in
    ap (λ (o : Offering). o.fault) (part_completes card tuning n past part message done.assembler.fault
    done.assembler.complete)
    ∙ ap (λ (r : Option ℕ). option_map_or (λ m. Some (Fault.Parity m)) r bad)
    (stretch_calm card tuning (newest_message past) (newest_message past).message message calm)

-- a message whose word is wrong is refused before anything is written
pub word_first : (strict : Bool) (card : CardFields) (tuning : Tuning) (n : ℕ) (head : EcmHead) (s : Session)
    (found : Result (Option (List ℕ)) StreamFault) (fault : StreamFault) (u : SinkState) →
    fault_first strict found ≡ Some fault → IsWordTold n head (key_kept s.keys head.period) found →
    TookSome u u (RefusesHeardMessage strict card tuning n head s fault)
word_first true card tuning n head s found fault u first told = absurd cc
word_first false card tuning n head s (Ok word) fault u first told = absurd cc
word_first false card tuning n head s (Err why) fault u first told =
    took_nothing u (RefusesHeardMessage false card tuning n head s fault) (λ past part done calm. record {
      fault = word_alone card tuning n past part head s done calm
          ∙ (subst (λ (k : Option (List ℕ)).
          word_fault n (message_of head s.assembler.coming.places.items) k ≡ Some why)
          (key_ahead card past part head s done) told ∙ first);
      bytes_are = refl;
    })

no_fault : (fault : Option StreamFault) (why : StreamFault) → fault ≡ None → fault ≡ Some why → ⊥
no_fault fault why none some = cc

-- one whose word is right isn't refused
word_right : (card : CardFields) (tuning : Tuning) (n : ℕ) (head : EcmHead) (s t : Session)
    (word : Option (List ℕ)) (u v : SinkState) (result : Result (Unit {0}) (StageFault StreamFault)) →
    IsWordTold n head (key_kept s.keys head.period) (Ok word) →
    SessionOutcome (TakesMessage true card tuning n head s) (RefusesHeardMessage true card tuning n head s)
    (CutsMessage true card tuning n head s) u v t result →
    SessionOutcome (TakesMessage true card tuning n head s) (RefusesHeardMessage false card tuning n head s)
    (CutsMessage false card tuning n head s) u v t result
word_right card tuning n head s t word u v result right comes =
    let good : (past : List Heard) (part : EcmPart) → IsListenerAtMessage card past part head s →
    holds_stray past ≡ false → (heard_offering card tuning n past (Controls part)).fault ≡ None =
    λ past part done calm. word_alone card tuning n past part head s done calm
    ∙ subst (λ (k : Option (List ℕ)). word_fault n (message_of head s.assembler.coming.places.items) k ≡ None)
    (key_ahead card past part head s done) right.1 in
    comes_weaker (TakesMessage true card tuning n head s) (TakesMessage true card tuning n head s)
    (RefusesHeardMessage true card tuning n head s) (RefusesHeardMessage false card tuning n head s)
    (CutsMessage true card tuning n head s) (CutsMessage false card tuning n head s) u v t result
    (λ x bytes takes. takes)
    (λ fault bytes refuses past part done calm. absurd (no_fault
    (heard_offering card tuning n past (Controls part)).fault fault (good past part done calm)
    (refuses past part done tt).fault))
    (λ bytes cuts. elim cuts [
      | inl h ↦ inl (h.0, λ past part done calm. h.1 past part done tt)
      | inr (strict_is, fault, refuses) ↦ inl (
        s,
        λ past part done calm. absurd (no_fault
            (heard_offering card tuning n past (Controls part)).fault fault (good past part done calm)
            (refuses past part done tt).fault),
      )
    ])
    comes

-- a message that isn't refused first comes to what it does for a strict receiver
pub word_not_first : (strict : Bool) (card : CardFields) (tuning : Tuning) (n : ℕ) (head : EcmHead) (s t : Session)
    (found : Result (Option (List ℕ)) StreamFault) (u v : SinkState)
    (result : Result (Unit {0}) (StageFault StreamFault)) → fault_first strict found ≡ None →
    IsWordTold n head (key_kept s.keys head.period) found →
    SessionOutcome (TakesMessage true card tuning n head s) (RefusesHeardMessage true card tuning n head s)
    (CutsMessage true card tuning n head s) u v t result →
    SessionOutcome (TakesMessage true card tuning n head s) (RefusesHeardMessage strict card tuning n head s)
    (CutsMessage strict card tuning n head s) u v t result
word_not_first true card tuning n head s t found u v result first told comes = comes
word_not_first false card tuning n head s t (Err why) u v result first told comes = absurd cc
word_not_first false card tuning n head s t (Ok word) u v result first told comes =
    word_right card tuning n head s t word u v result told comes
