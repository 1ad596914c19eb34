-- What a message that is complete comes to.
use Rattle.std.proofs.Common.{◌≡◌, inl, inr, ℕ, ◌+◌, ◌≤◌, List, [], ◌∷◌, length, refl, sym, ap, ◌∙◌, subst, arith}
use Rattle.std.proofs.Common.{true}
use Rattle.std.specs.Prelude.{Option, Some, None, option_map, Result, Ok, Err}
use Rattle.std.specs.List.{concat}
use Rattle.std.specs.Option.{option_map_or}
use Rattle.std.specs.Result.{MatchResult}
use Rattle.sd_base.specs.Count.{with_added, IsCaused}
use Rattle.sd_site_cards.specs.CardFields.{CardFields}
use Rattle.sd_message.specs.EcmParts.{message_of}
use Rattle.sd_message.specs.declared.ecm_part.EcmPart.{EcmPart}
use Rattle.sd_message.specs.declared.ecm_message.EcmHead.{EcmHead}
use Rattle.sd_engine.specs.Stage.{SinkState, IsCutShort, TookBytes}
use Rattle.sd_message.specs.declared.stream_fault.StreamFault.{StreamFault}
use Rattle.sd_message.specs.declared.stream_fault.StreamFault.TheVariants as Fault
use Rattle.sd_psi.specs.declared.our_cat.Tuning.{Tuning}
use Rattle.sd_spec.specs.Heard.{Heard, Controls}
use Rattle.sd_spec.specs.Stretches.{newest_message}
use Rattle.sd_spec.specs.Keys.{key_at}
use Rattle.sd_spec.specs.Confirmed.{WrittenPackets}
use Rattle.sd_spec.specs.Offered.{Offering, word_fault, wrote_or, heard_offering}
use Rattle.sd_receive.specs.PeriodKeys.{IsEntitled, key_kept}
use Rattle.sd_receive.specs.EcmAssembler.{IsCollected}
use Rattle.sd_receive.specs.PacketBuffer.{Holding, after_message}
use Rattle.sd_receive.specs.Buffered.{word_under, holding_after, pair_wrote}
use Rattle.sd_receive.specs.Session.{IsListenerAfter, IsListenerAtMessage, capped_count, CountsMore, PassesOffering}
use Rattle.sd_receive.specs.Session.{TookSome, StopsAtOffering, TakesMessage}
use Rattle.sd_receive.specs.Session.{RefusesHeardMessage, CutsMessage}
use Rattle.sd_receive.specs.declared.session.Session.{Session}
use Rattle.sd_receive.proofs.Stretching.{closes}
use Rattle.sd_receive.proofs.Judging.{kept_is}
use Rattle.sd_receive.proofs.Holding.{held_begun, wrote_is}
use Rattle.sd_receive.proofs.Offering.{part_completes, not_past}

-- the message is of no past period
pub in_turn : (card : CardFields) (past : List Heard) (part : EcmPart) (head : EcmHead) (state : Session) →
    IsListenerAtMessage card past part head state → state.keys.period ≤ head.period
in_turn card past part head state done =
    let now = not_past past part (message_of head state.assembler.coming.places.items) done.assembler.fault
    done.assembler.complete in
    omega (arith, now, done.follows.keys.period)

-- the key that is known is that of the message's period
pub key_ahead : (card : CardFields) (past : List Heard) (part : EcmPart) (head : EcmHead) (state : Session) →
    IsListenerAtMessage card past part head state → key_kept state.keys head.period ≡ key_at card past head.period
key_ahead card past part head state done =
    kept_is card past state.keys done.follows.keys head.period
    (not_past past part (message_of head state.assembler.coming.places.items) done.assembler.fault
    done.assembler.complete)

-- what the part offers, by what is kept
pub offering_is : (card : CardFields) (tuning : Tuning) (n : ℕ) (past : List Heard) (part : EcmPart) (head : EcmHead)
    (state : Session) →
    IsListenerAtMessage card past part head state → heard_offering card tuning n past (Controls part)
    ≡ wrote_or (pair_wrote state.assembler.last state.buffer head.since card.ca tuning.ecm
    state.assembler.coming.places.items)
    (word_fault n (message_of head state.assembler.coming.places.items) (key_at card past head.period))
unfolding holding_after
offering_is card tuning n past part head state done =
    let message = message_of head state.assembler.coming.places.items in
    let fault = word_fault n message (key_at card past head.period) in
    part_completes card tuning n past part message done.assembler.fault done.assembler.complete
    ∙ ap (λ (w : WrittenPackets). wrote_or w fault)
    (wrote_is card tuning (newest_message past) state.assembler.last state.assembler.places.items message
    done.follows.assembler.last.says
    ∙ ap (λ (held : Option Holding). pair_wrote state.assembler.last held head.since card.ca tuning.ecm
    state.assembler.coming.places.items)
    (sym done.follows.buffer))

-- what the message offers where a held packet is refused, where its word is, and where nothing is
pub refuses_parity : (offering : Offering) (wrote : WrittenPackets) (fault : Option StreamFault) (k : ℕ)
    (bytes : List ℕ) →
    offering ≡ wrote_or wrote fault → wrote.refused ≡ Some k → bytes ≡ concat wrote.packets →
    StopsAtOffering true offering (Fault.Parity k) bytes
refuses_parity offering wrote fault k bytes is refused written = record {
  fault = ap (λ (o : Offering). o.fault) is ∙ ap (λ (r : Option ℕ). option_map_or (λ m. Some (Fault.Parity m)) r
      fault) refused;
  bytes_are = written ∙ ap (λ (o : Offering). concat o.wrote) (sym is);
}

pub refuses_word : (offering : Offering) (wrote : WrittenPackets) (fault : Option StreamFault) (why : StreamFault)
    (bytes : List ℕ) →
    offering ≡ wrote_or wrote fault → wrote.refused ≡ None → fault ≡ Some why → bytes ≡ concat wrote.packets →
    StopsAtOffering true offering why bytes
refuses_word offering wrote fault why bytes is refused bad written = record {
  fault = ap (λ (o : Offering). o.fault) is ∙ (ap (λ (r : Option ℕ). option_map_or (λ m. Some (Fault.Parity m)) r
      fault) refused ∙ bad);
  bytes_are = written ∙ ap (λ (o : Offering). concat o.wrote) (sym is);
}

pub passes_all : (offering : Offering) (wrote : WrittenPackets) (fault : Option StreamFault) (before after : ℕ)
    (bytes : List ℕ) →
    offering ≡ wrote_or wrote fault → wrote.refused ≡ None → fault ≡ None → bytes ≡ concat wrote.packets →
    CountsMore before after (length wrote.packets) → PassesOffering offering before after bytes
passes_all offering wrote fault before after bytes is refused good written counted = record {
  fault = ap (λ (o : Offering). o.fault) is ∙ (ap (λ (r : Option ℕ). option_map_or (λ m. Some (Fault.Parity m)) r
      fault) refused ∙ good);
  bytes_are = written ∙ ap (λ (o : Offering). concat o.wrote) (sym is);
  counted = subst (λ (o : Offering). CountsMore before after (length o.wrote)) (sym is) counted;
}

-- a count that is added to counts
pub added_counts : (before more total : ℕ) → before ≡ capped_count total →
    with_added before more ≡ capped_count (total + more)
added_counts before more total h = omega (arith, h)

-- what is kept after the message
pub renewed : (card : CardFields) (past : List Heard) (part : EcmPart) (head : EcmHead) (s t : Session)
    (key : Option (List ℕ)) →
    IsListenerAtMessage card past part head s → IsEntitled card (Controls part ∷ past) t.keys →
    IsCollected (Controls part ∷ past) t.assembler →
    key ≡ key_at card past head.period →
    t.buffer ≡ option_map (λ w. after_message (message_of head s.assembler.coming.places.items) w [])
    (word_under (message_of head s.assembler.coming.places.items) key) →
    t.closed ≡ head.closing → IsListenerAfter card (Controls part ∷ past) t
renewed card past part head s t key done keys collects is buffer closed =
    let message = message_of head s.assembler.coming.places.items in
    record {
      closed = closed ∙ sym (closes past (Controls part) message done.unclosed done.assembler.complete);
      keys = keys;
      assembler = collects;
      buffer = buffer
          ∙ (ap (λ (k : Option (List ℕ)). option_map (λ (w : List ℕ). after_message message w [])
          (word_under message k)) is
          ∙ sym (held_begun card past (Controls part) message done.assembler.complete));
    }

-- the same session with another count of what was written
unfoldable pub counting : Session → ℕ → Session
counting t n = record {
  closed = t.closed;
  keys = t.keys;
  assembler = t.assembler;
  buffer = t.buffer;
  written =
      n;
}

counting_is : (t : Session) (n : ℕ) → (counting t n).written ≡ n
unfolding counting
counting_is t n = refl

counted_follows : (card : CardFields) (past : List Heard) (t : Session) (n : ℕ) → IsListenerAfter card past t →
    IsListenerAfter card past (counting t n)
unfolding counting
counted_follows card past t n follows = record {
  closed = follows.closed;
  keys = follows.keys;
  assembler = follows.assembler;
  buffer = follows.buffer;
}

-- what the word's test told of the message, and what is kept then
abbrev pub Begins : CardFields → ℕ → EcmHead → Session → Session → Result (Unit {0}) StreamFault → Type 0
Begins card n head s t result = (past : List Heard) (part : EcmPart) → IsListenerAtMessage card past part head s →
    MatchResult result
    (λ _. (word_fault n (message_of head s.assembler.coming.places.items) (key_at card past head.period) ≡ None)
    × IsListenerAfter card (Controls part ∷ past) t)
    (λ fault. word_fault n (message_of head s.assembler.coming.places.items) (key_at card past head.period) ≡ Some
    fault)

-- all bytes that the message may write are of what it comes to
allowed : (card : CardFields) (tuning : Tuning) (n : ℕ) (head : EcmHead) (s t : Session) (wrote : WrittenPackets)
    (refused : Option ℕ)
    (result : Result (Unit {0}) StreamFault) (bytes : List ℕ) →
    wrote ≡ pair_wrote s.assembler.last s.buffer head.since card.ca tuning.ecm s.assembler.coming.places.items →
    wrote.refused ≡ refused →
    Begins card n head s t result → bytes ≡ concat wrote.packets →
    CutsMessage true card tuning n head s bytes
allowed card tuning n head s t wrote (Some k) result bytes is told begins written =
    inr (
      refl,
      Fault.Parity k,
      λ past part done calm.
          refuses_parity (heard_offering card tuning n past (Controls part)) wrote
          (word_fault n (message_of head s.assembler.coming.places.items) (key_at card past head.period)) k bytes
          (offering_is card tuning n past part head s done
          ∙ ap (λ (w : WrittenPackets). wrote_or w (word_fault n (message_of head s.assembler.coming.places.items)
          (key_at card past head.period))) (sym is))
          told written,
    )
allowed card tuning n head s t wrote None (Err fault) bytes is told begins written =
    inr (
      refl,
      fault,
      λ past part done calm.
          refuses_word (heard_offering card tuning n past (Controls part)) wrote
          (word_fault n (message_of head s.assembler.coming.places.items) (key_at card past head.period)) fault bytes
          (offering_is card tuning n past part head s done
          ∙ ap (λ (w : WrittenPackets). wrote_or w (word_fault n (message_of head s.assembler.coming.places.items)
          (key_at card past head.period))) (sym is))
          told (begins past part done) written,
    )
allowed card tuning n head s t wrote None (Ok done) bytes is told begins written =
    inl (
      counting t (with_added s.written (length wrote.packets)),
      λ past part completes calm. (
        passes_all (heard_offering card tuning n past (Controls part)) wrote
            (word_fault n (message_of head s.assembler.coming.places.items) (key_at card past head.period)) s.written
            (counting t (with_added s.written (length wrote.packets))).written bytes
            (offering_is card tuning n past part head s completes
            ∙ ap (λ (w : WrittenPackets). wrote_or w (word_fault n (message_of head s.assembler.coming.places.items)
            (key_at card past head.period))) (sym is))
            told (begins past part completes).0 written
            (λ total h. counting_is t (with_added s.written (length wrote.packets)) ∙
            added_counts s.written (length wrote.packets) total h),
        counted_follows card (Controls part ∷ past) t (with_added s.written (length wrote.packets))
            (begins past part completes).1,
      ),
    )

-- a write that failed amid them
pub cut_message : (card : CardFields) (tuning : Tuning) (n : ℕ) (head : EcmHead) (s t : Session)
    (wrote : WrittenPackets)
    (result : Result (Unit {0}) StreamFault) (u v : SinkState) →
    wrote ≡ pair_wrote s.assembler.last s.buffer head.since card.ca tuning.ecm s.assembler.coming.places.items →
    Begins card n head s t result → IsCutShort u v (λ bytes. bytes ≡ concat wrote.packets) →
    IsCutShort u v (CutsMessage true card tuning n head s)
cut_message card tuning n head s t wrote result u v is begins cut = record {
  bytes = cut.bytes;
  says = allowed card tuning n head s t wrote wrote.refused result cut.bytes is refl begins cut.says;
  prefix = cut.prefix;
  short = cut.short;
  taken = cut.taken;
  room = cut.room;
}

-- what the message comes to where a held packet is refused, where its word is, and where nothing is
pub parity_message : (card : CardFields) (tuning : Tuning) (n : ℕ) (head : EcmHead) (s : Session)
    (wrote : WrittenPackets)
    (k : ℕ) (u v : SinkState) →
    wrote ≡ pair_wrote s.assembler.last s.buffer head.since card.ca tuning.ecm s.assembler.coming.places.items →
    (wrote.refused ≡ Some k) × TookBytes u v (concat wrote.packets) →
    TookSome u v (RefusesHeardMessage true card tuning n head s (Fault.Parity k))
parity_message card tuning n head s wrote k u v is told = record {
  bytes = concat wrote.packets;
  says = λ past part done calm.
      refuses_parity (heard_offering card tuning n past (Controls part)) wrote
      (word_fault n (message_of head s.assembler.coming.places.items) (key_at card past head.period)) k
      (concat wrote.packets)
      (offering_is card tuning n past part head s done
      ∙ ap (λ (w : WrittenPackets). wrote_or w (word_fault n (message_of head s.assembler.coming.places.items)
      (key_at card past head.period))) (sym is))
      told.0 refl;
  took = told.1;
}

pub word_message : (card : CardFields) (tuning : Tuning) (n : ℕ) (head : EcmHead) (s t : Session)
    (wrote : WrittenPackets)
    (fault : StreamFault)
    (count : ℕ) (u v : SinkState) →
    wrote ≡ pair_wrote s.assembler.last s.buffer head.since card.ca tuning.ecm s.assembler.coming.places.items →
    (wrote.refused ≡ None) × (count ≡ length wrote.packets) × TookBytes u v (concat wrote.packets) →
    Begins card n head s t (Err fault) → TookSome u v (RefusesHeardMessage true card tuning n head s fault)
word_message card tuning n head s t wrote fault count u v is told begins = record {
  bytes = concat wrote.packets;
  says = λ past part done calm.
      refuses_word (heard_offering card tuning n past (Controls part)) wrote
      (word_fault n (message_of head s.assembler.coming.places.items) (key_at card past head.period)) fault
      (concat wrote.packets)
      (offering_is card tuning n past part head s done
      ∙ ap (λ (w : WrittenPackets). wrote_or w (word_fault n (message_of head s.assembler.coming.places.items)
      (key_at card past head.period))) (sym is))
      told.0 (begins past part done) refl;
  took = told.2;
}

pub taken_message : (card : CardFields) (tuning : Tuning) (n : ℕ) (head : EcmHead) (s t x : Session)
    (wrote : WrittenPackets)
    (count : ℕ) (u v : SinkState) →
    wrote ≡ pair_wrote s.assembler.last s.buffer head.since card.ca tuning.ecm s.assembler.coming.places.items →
    (wrote.refused ≡ None) × (count ≡ length wrote.packets) × TookBytes u v (concat wrote.packets) →
    Begins card n head s t (Ok tt) → x ≡ counting t (with_added s.written count) →
    TookSome u v (TakesMessage true card tuning n head s x)
taken_message card tuning n head s t x wrote count u v is told begins same = record {
  bytes = concat wrote.packets;
  says = λ past part done calm. (
    passes_all (heard_offering card tuning n past (Controls part)) wrote
        (word_fault n (message_of head s.assembler.coming.places.items) (key_at card past head.period)) s.written
        x.written (concat wrote.packets)
        (offering_is card tuning n past part head s done
        ∙ ap (λ (w : WrittenPackets). wrote_or w (word_fault n (message_of head s.assembler.coming.places.items)
        (key_at card past head.period))) (sym is))
        told.0 (begins past part done).0 refl
        (λ total h. ap (λ (l : Session). l.written) same ∙ (counting_is t (with_added s.written count)
        ∙ (ap (λ (k : ℕ). with_added s.written k) told.1 ∙ added_counts s.written (length wrote.packets) total h))),
    subst (λ (l : Session). IsListenerAfter card (Controls part ∷ past) l) (sym same)
        (counted_follows card (Controls part ∷ past) t (with_added s.written count) (begins past part done).1),
  );
  took = told.2;
}

-- a count that rose where one thing failed rose where another did, if neither failed
pub caused_by_neither : (before now : ℕ) (P Q : Type 0) → IsCaused before now P → ¬ P → ¬ Q → IsCaused before now Q
caused_by_neither before now P Q caused neither nor = record {
  later = caused.later;
  failed = λ failed. absurd (nor failed);
  calm = λ calm. caused.calm neither;
}
