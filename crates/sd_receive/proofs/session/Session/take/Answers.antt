use Rattle.std.proofs.Common.{refl, ap, sym, subst, true, []}
use Rattle.sd_site_cards.specs.CardFields.{card_fields_of}
use Rattle.sd_engine.specs.Stage.{sink_state_of}
use Rattle.sd_spec.specs.Heard.{Heard}
use Rattle.sd_receive.specs.declared.filter.kind.PacketKind.{PacketKind as Kept}
use Rattle.sd_receive.specs.Filter.{heard_as, IsFormed}
use Rattle.sd_message.specs.declared.stream_fault.StreamFault.TheVariants.{BadEmm, BadEcm}
use Rattle.sd_receive.specs.Session.{TakesHeard, RefusesHeard, CutsHeard, SessionOutcome}
use Rattle.sd_receive.specs.declared.session.Session.{Session}
use Rattle.sd_receive.proofs.Listening.{took_nothing, dropped_heard, other_heard, section_taken}
use Rattle.sd_receive.proofs.Listening.{bad_section, bad_part, still}
use Rattle.sd_receive.proofs.session.Session.take.Goals as goal

pub returns-in-Dropped-clause-value : goal.returns-in-Dropped-clause-value
returns-in-Dropped-clause-value g c =
    let s = c.args.self.now in
    let card = card_fields_of c.args.card.now in
    took_nothing (sink_state_of g.K.Sink c.args.out.now)
    (TakesHeard true card c.args.tuning c.args.number (heard_as c.args.number c.args.packet.now c.args.heard)
    c.args.key s s) (subst (λ (h : Heard). TakesHeard true card c.args.tuning c.args.number h c.args.key s s [])
    (ap (heard_as c.args.number c.args.packet.now) (sym c.in-Dropped.is))
    (dropped_heard card c.args.tuning c.args.number s c.args.key))

pub returns-in-Other-clause-value : goal.returns-in-Other-clause-value
returns-in-Other-clause-value g c =
    let s = c.args.self.now in
    let card = card_fields_of c.args.card.now in
    let t : Session = record {
      closed = s.closed;
      keys = s.keys;
      assembler = s.assembler;
      buffer =
          c.hold.new.self;
      written = s.written;
    } in
    took_nothing (sink_state_of g.K.Sink c.args.out.now)
    (TakesHeard true card c.args.tuning c.args.number (heard_as c.args.number c.args.packet.now c.args.heard)
    c.args.key s t) (subst (λ (h : Heard). TakesHeard true card c.args.tuning c.args.number h c.args.key s t [])
    (ap (heard_as c.args.number c.args.packet.now) (sym c.in-Other.is))
    (other_heard card c.args.tuning c.args.number c.args.packet.now s t refl refl refl refl c.hold.ensures
    c.args.key))

pub returns-in-Entitles-clause-value : goal.returns-in-Entitles-clause-value
returns-in-Entitles-clause-value g c =
    let s = c.args.self.now in
    let card = card_fields_of c.args.card.now in
    let t : Session = record {
      closed = s.closed;
      keys = c.keep.new.self;
      assembler = s.assembler;
      buffer =
          s.buffer;
      written = s.written;
    } in
    took_nothing (sink_state_of g.K.Sink c.args.out.now)
    (TakesHeard true card c.args.tuning c.args.number (heard_as c.args.number c.args.packet.now c.args.heard)
    c.args.key s t) (subst (λ (h : Heard). TakesHeard true card c.args.tuning c.args.number h c.args.key s t [])
    (ap (heard_as c.args.number c.args.packet.now) (sym c.in-Entitles.is))
    (section_taken card c.args.tuning c.args.number c.in-Entitles.emm.now s t refl refl refl refl
    c.args.key (λ past keys judged. c.keep.ensures card c.args.number past keys judged)))

pub returns-in-Controls-clause-value : goal.returns-in-Controls-clause-value
returns-in-Controls-clause-value g c =
    let s = c.args.self.now in
    let card = card_fields_of c.args.card.now in
    subst (λ (h : Heard). SessionOutcome (TakesHeard true card c.args.tuning c.args.number h c.args.key s)
    (RefusesHeard c.args.strict card c.args.tuning c.args.number h s)
    (CutsHeard c.args.strict card c.args.tuning c.args.number h c.args.key s) (sink_state_of g.K.Sink c.args.out.now)
    (sink_state_of g.K.Sink c.control.new.out) c.control.new.self c.control.result)
    (ap (heard_as c.args.number c.args.packet.now) (sym c.in-Controls.is)) c.control.ensures.value

pub returns-in-BadEmm-clause-value : goal.returns-in-BadEmm-clause-value
returns-in-BadEmm-clause-value g c =
    let s = c.args.self.now in
    let card = card_fields_of c.args.card.now in
    let why = BadEmm c.args.number c.in-BadEmm.fault in
    took_nothing (sink_state_of g.K.Sink c.args.out.now)
    (RefusesHeard c.args.strict card c.args.tuning c.args.number
    (heard_as c.args.number c.args.packet.now c.args.heard) s why)
    (subst (λ (h : Heard). RefusesHeard c.args.strict card c.args.tuning c.args.number h s why [])
    (ap (heard_as c.args.number c.args.packet.now) (sym c.in-BadEmm.is))
    (bad_section c.args.strict card c.args.tuning c.args.number c.in-BadEmm.fault s))

pub returns-in-BadEcm-clause-value : goal.returns-in-BadEcm-clause-value
returns-in-BadEcm-clause-value g c =
    let s = c.args.self.now in
    let card = card_fields_of c.args.card.now in
    let why = BadEcm c.args.number c.in-BadEcm.fault in
    took_nothing (sink_state_of g.K.Sink c.args.out.now)
    (RefusesHeard c.args.strict card c.args.tuning c.args.number
    (heard_as c.args.number c.args.packet.now c.args.heard) s why)
    (subst (λ (h : Heard). RefusesHeard c.args.strict card c.args.tuning c.args.number h s why [])
    (ap (heard_as c.args.number c.args.packet.now) (sym c.in-BadEcm.is))
    (bad_part c.args.strict card c.args.tuning c.args.number c.in-BadEcm.fault s))

pub keep-requires : goal.keep-requires
keep-requires g c =
    (subst (λ (h : Kept). IsFormed c.args.card.now.height h) c.in-Entitles.is c.requires.form).0

pub control-requires-clause-form : goal.control-requires-clause-form
control-requires-clause-form g c =
    subst (λ (h : Kept). IsFormed c.args.card.now.height h) c.in-Controls.is c.requires.form

pub returns-in-Controls-clause-stands : goal.returns-in-Controls-clause-stands
returns-in-Controls-clause-stands g c = c.control.ensures.stands

pub returns-in-BadEmm-clause-stands : goal.returns-in-BadEmm-clause-stands
returns-in-BadEmm-clause-stands g c = λ fault is. still (card_fields_of c.args.card.now) c.args.self.now

pub returns-in-BadEcm-clause-stands : goal.returns-in-BadEcm-clause-stands
returns-in-BadEcm-clause-stands g c = λ fault is. still (card_fields_of c.args.card.now) c.args.self.now
