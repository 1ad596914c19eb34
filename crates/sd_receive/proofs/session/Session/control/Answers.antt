use Rattle.std.proofs.Common.{◌≡◌, ◌∙◌, inl, inr, refl, sym, subst, true, List}
use Rattle.std.specs.Prelude.{None, Ok}
use Rattle.sd_site_cards.specs.CardFields.{card_fields_of}
use Rattle.sd_engine.specs.Stage.{sink_state_of}
use Rattle.sd_message.specs.declared.stream_fault.StreamFault.TheVariants.{BadEcm}
use Rattle.sd_spec.specs.Heard.{Heard, Controls}
use Rattle.sd_spec.specs.Stretches.{current}
use Rattle.sd_receive.specs.EcmAssembler.{IsCollected, IsComplete, PartOutcome}
use Rattle.sd_receive.specs.declared.ecm.EcmProgress.{EcmProgress}
use Rattle.sd_receive.specs.Session.{TakesHeard, RefusesHeard, CutsHeard, TakesMessage, RefusesHeardMessage}
use Rattle.sd_receive.specs.Session.{CutsMessage, IsStill}
use Rattle.sd_receive.specs.declared.session.Session.{Session}
use Rattle.sd_receive.proofs.Listening.{took_nothing, part_waiting, part_bad, part_left, comes_weaker}
use Rattle.sd_receive.proofs.Listening.{message_heard}
use Rattle.sd_receive.proofs.session.Session.control.Goals as goal

pub returns-in-Ok-Waits-clause-value : goal.returns-in-Ok-Waits-clause-value
returns-in-Ok-Waits-clause-value g c =
    let s = c.args.self.now in
    let t : Session = record {
      closed = s.closed;
      keys = s.keys;
      assembler = c.take.new.self;
      buffer =
          s.buffer;
      written = s.written;
    } in
    took_nothing (sink_state_of g.K.Sink c.args.out.now)
    (TakesHeard true (card_fields_of c.args.card.now) c.args.tuning c.args.number (Controls c.args.part.now) None s t)
    (part_waiting (card_fields_of c.args.card.now) c.args.tuning c.args.number c.args.part.now s t refl refl refl
    refl
    (λ past collects now. subst (λ (taken : EcmProgress). PartOutcome past c.args.part.now c.take.new.self (Ok taken))
    c.in-Ok-Waits.field-0-is
    (c.in-Ok-Waits.ensures.value past collects (now ∙ sym c.period.ensures))))

pub complete-requires-clause-live : goal.complete-requires-clause-live
complete-requires-clause-live g c =
    let s = c.args.self.now in
    let t : Session = record {
      closed = s.closed;
      keys = s.keys;
      assembler = c.take.new.self;
      buffer =
          s.buffer;
      written = s.written;
    } in
    let l = c.requires.live in (
      l.0,
      c.args.part.now,
      message_heard (card_fields_of c.args.card.now) c.args.tuning c.args.number c.args.part.now
          c.in-Ok-Complete.head s t refl refl refl
          (λ past collects now. subst (λ (taken : EcmProgress). PartOutcome past c.args.part.now c.take.new.self (Ok
          taken))
          c.in-Ok-Complete.field-0-is
          (c.in-Ok-Complete.ensures.value past collects (now ∙ sym c.period.ensures))) l.0 l.1
          (sym l.1.closed ∙ c.requires.open),
    )

pub returns-in-Ok-Complete-clause-value : goal.returns-in-Ok-Complete-clause-value
returns-in-Ok-Complete-clause-value g c =
    let s = c.args.self.now in
    let t : Session = record {
      closed = s.closed;
      keys = s.keys;
      assembler = c.take.new.self;
      buffer =
          s.buffer;
      written = s.written;
    } in
    let card = card_fields_of c.args.card.now in
    let head = c.in-Ok-Complete.head in
    let done : (past : List Heard) → IsCollected past s.assembler → current past ≡ s.keys.period →
    IsComplete past c.args.part.now head t.assembler =
    λ past collects now. subst (λ (taken : EcmProgress). PartOutcome past c.args.part.now c.take.new.self (Ok taken))
    c.in-Ok-Complete.field-0-is
    (c.in-Ok-Complete.ensures.value past collects (now ∙ sym c.period.ensures)) in
    let strict = c.args.strict in
    let n = c.args.number in
    let part = c.args.part.now in
    let tuning = c.args.tuning in
    let at = message_heard card tuning n part head s t refl refl refl done in
    comes_weaker (TakesMessage true card tuning n head t) (TakesHeard true card tuning n (Controls part) None s)
    (RefusesHeardMessage strict card tuning n head t) (RefusesHeard strict card tuning n (Controls part) s)
    (CutsMessage strict card tuning n head t) (CutsHeard strict card tuning n (Controls part) None s)
    (sink_state_of g.K.Sink c.args.out.now) (sink_state_of g.K.Sink c.complete.new.out) c.complete.new.self
    c.complete.result
    (λ x bytes takes past follows unclosed judged. takes past part (at past follows unclosed))
    (λ fault bytes refuses past follows unclosed. refuses past part (at past follows unclosed))
    (λ bytes cuts. elim cuts [
      | inl h ↦ inl (h.0, λ past follows unclosed judged. h.1 past part (at past follows unclosed))
      | inr h ↦ inr (h.0, h.1, λ past follows unclosed. h.2 past part (at past follows unclosed))
    ])
    c.complete.ensures.value

pub returns-in-Err-clause-value : goal.returns-in-Err-clause-value
returns-in-Err-clause-value g c =
    took_nothing (sink_state_of g.K.Sink c.args.out.now)
    (RefusesHeard c.args.strict (card_fields_of c.args.card.now) c.args.tuning c.args.number (Controls c.args.part.now)
    c.args.self.now
    (BadEcm c.args.number c.in-Err.fault))
    (part_bad c.args.strict (card_fields_of c.args.card.now) c.args.tuning c.args.number c.args.part.now c.args.self.now
    c.in-Err.fault
    (λ past collects now. (c.in-Err.ensures.value past collects (now ∙ sym c.period.ensures)).0))

pub returns-in-Ok-Complete-clause-cause : goal.returns-in-Ok-Complete-clause-cause
returns-in-Ok-Complete-clause-cause g c = c.complete.ensures.cause

pub returns-in-Ok-Complete-clause-stands : goal.returns-in-Ok-Complete-clause-stands
returns-in-Ok-Complete-clause-stands g c = λ fault is.
    let s = c.args.self.now in
    let card = card_fields_of c.args.card.now in
    let t : Session = record {
      closed = s.closed;
      keys = s.keys;
      assembler = c.take.new.self;
      buffer =
          s.buffer;
      written = s.written;
    } in
    let taken = subst (λ (taken : EcmProgress). (past : List Heard) → IsCollected past s.assembler →
    current past ≡ c.period.result → PartOutcome past c.args.part.now c.take.new.self (Ok taken))
    c.in-Ok-Complete.field-0-is c.in-Ok-Complete.ensures.value in
    subst (λ (x : Session). IsStill card s x) (sym (c.complete.ensures.unchanged fault is)) (record {
      follows = λ past follows. part_left card past s t refl refl refl
          (taken past follows.assembler (sym follows.keys.period ∙ sym c.period.ensures)).before follows;
      written = refl;
    })

pub returns-in-Err-clause-stands : goal.returns-in-Err-clause-stands
returns-in-Err-clause-stands g c = λ fault is. record {
  follows = λ past follows. part_left (card_fields_of c.args.card.now) past c.args.self.now _ refl refl refl
      (c.in-Err.ensures.value past follows.assembler (sym follows.keys.period ∙ sym c.period.ensures)).1 follows;
  written = refl;
}
