use Rattle.std.proofs.Common.{◌≡◌, ◌+◌, ◌∙◌, ap, arith, ℕ, List, refl, sym, subst, true}
use Rattle.std.specs.Prelude.{Option, Err, IsErrOf}
use Rattle.std.specs.Option.{option_or}
use Rattle.sd_engine.specs.Stage.{sink_state_of, HasGrown}
use Rattle.sd_engine.specs.declared.stage.StageFault.TheVariants.{Write}
use Rattle.sd_engine.proofs.Answering.{same_refusal}
use Rattle.sd_message.specs.declared.stream_fault.StreamFault.{StreamFault}
use Rattle.sd_spec.specs.Heard.{Heard}
use Rattle.sd_spec.specs.Offered.{heard}
use Rattle.sd_spec.specs.Runs.{are_two, run_name_heard}
use Rattle.sd_receive.specs.Filter.{heard_as}
use Rattle.sd_receive.specs.Session.{IsListenerAfter, capped_count, heard_of_run, IsJudgedAs, Judgement, TakesHeard}
use Rattle.sd_receive.specs.Session.{RefusesHeard, CutsHeard, SessionOutcome}
use Rattle.sd_receive.specs.Receiving.{receiver_card, receiver_does, RefusesBy}
use Rattle.sd_receive.specs.declared.receiver.ended.EndedRuns.{EndedRuns}
use Rattle.sd_receive.proofs.Receiving.{counted, listening, thing_of, found_of, idle_closed, over_parts, heard_does}
use Rattle.sd_receive.proofs.Receiving.{heard_refuses, judged_refuses, turned_follows, turned_open, begins_none}
use Rattle.sd_receive.proofs.Receiving.{stands_after}
use Rattle.sd_receive.proofs.Receiving.{fit_after, of_taken, grew_of, refused_of, cut_of, cuts_by, grew_none}
use Rattle.sd_receive.proofs.Receiving.{grew_by_steps}
use Rattle.sd_receive.proofs.receiver.Receiver.take_heard.Goals as goal

-- the run is over
pub returns-then-is_over-clause-value : goal.returns-then-is_over-clause-value
returns-then-is_over-clause-value g c =
    let s = c.args.self.now in
    let strict = c.args.strict in
    let packet = c.args.packet.now in
    let is = c.requires.heard s.count in
    let over = over_parts s.session.closed c.differ-begins.result (sym c.is_over.ensures ∙ c.if-is_over.true) in
    let same = ap (λ (n : Option (Option ℕ)). are_two s.name n)
    (c.name_of-name.ensures s.count packet ∙ ap run_name_heard is) in
    let added : c.saturating_add-self.result ≡ capped_count (s.count + 1) = omega arith in
    grew_none (sink_state_of g.K.Sink c.args.out.now) c.args.steps.now
    (receiver_does s packet (counted s c.saturating_add-self.result s.tuning))
    (idle_closed s packet c.args.tuning c.saturating_add-self.result c.requires.tuned
    (sym same ∙ (sym c.differ-begins.ensures ∙ over.1)) over.0 added)

-- the packet is refused when it is judged
pub returns-in-Err-clause-fault : goal.returns-in-Err-clause-fault
returns-in-Err-clause-fault g c = λ fault same.
    let s = c.args.self.now in
    let strict = c.args.strict in
    let packet = c.args.packet.now in
    let kept = c.args.tuning in
    let begins = c.differ-begins.result in
    let from = c.args.steps.now in
    let to = c.judge.new.steps in
    let thing = heard_as s.count packet c.args.heard in
    let is : thing ≡ thing_of s kept packet = c.requires.heard s.count in
    let found = found_of s packet kept thing c.name_of-name.result begins from to c.requires.tuned is
    (c.name_of-name.ensures s.count packet) c.differ-begins.ensures (sym c.is_over.ensures ∙ c.if-is_over.false)
    (λ past follows. c.judge.ensures.steps packet past follows) in
    subst (λ (f : StreamFault). HasGrown (sink_state_of g.K.Sink c.args.out.now)
    (sink_state_of g.K.Sink c.args.out.now) from to
    (RefusesBy strict s packet f)) (same_refusal c.in-Err.fault fault same)
    (grew_by_steps (sink_state_of g.K.Sink c.args.out.now) from to (RefusesBy strict s packet c.in-Err.fault)
    (judged_refuses strict s packet kept begins c.judge.new.key c.in-Err.fault from to found
    (λ past follows. subst (λ (h : Heard). Judgement (receiver_card s) s.count (heard_of_run begins past) h
    c.judge.new.key (Err c.in-Err.fault)) is (c.in-Err.ensures.value packet past follows))))

pub take-requires-clause-open : goal.take-requires-clause-open
take-requires-clause-open g c =
    turned_open (receiver_card c.args.self.now) c.differ-begins.result c.args.self.now.name c.args.self.now.ended
    c.turn.new.self
    c.args.self.now.session c.turn.new.session c.turn.ensures c.requires.fit.follows
    (sym c.is_over.ensures ∙ c.if-is_over.false)

-- it is refused when it is taken, or a write failed
pub returns-in-Err-take-clause-fault : goal.returns-in-Err-take-clause-fault
returns-in-Err-take-clause-fault g c = λ fault why.
    let s = c.args.self.now in
    let strict = c.args.strict in
    let packet = c.args.packet.now in
    let kept = c.args.tuning in
    let begins = c.differ-begins.result in
    let from = c.args.steps.now in
    let to = c.judge.new.steps in
    let thing = heard_as s.count packet c.args.heard in
    let is : thing ≡ thing_of s kept packet = c.requires.heard s.count in
    let found = found_of s packet kept thing c.name_of-name.result begins from to c.requires.tuned is
    (c.name_of-name.ensures s.count packet) c.differ-begins.ensures (sym c.is_over.ensures ∙ c.if-is_over.false)
    (λ past follows. c.judge.ensures.steps packet past follows) in
    let card = receiver_card s in
    let key = c.judge.new.key in
    let u = c.turn.new.session in
    let t = c.take.new.self in
    let judged = subst (λ (h : Heard). (past : List Heard) → IsListenerAfter card past s.session →
    IsJudgedAs card s.count (heard_of_run begins past) h key) is
    (λ past follows. c.in-Ok.ensures.value packet past follows) in
    let comes = subst (λ (h : Heard). SessionOutcome (TakesHeard true card kept s.count h key u)
    (RefusesHeard strict card kept s.count h u) (CutsHeard strict card kept s.count h key u)
    (sink_state_of g.K.Sink c.args.out.now) (sink_state_of g.K.Sink c.take.new.out) t
    c.take.result) is c.take.ensures.value in
    refused_of (TakesHeard true card kept s.count (thing_of s kept packet) key u)
    (RefusesHeard strict card kept s.count (thing_of s kept packet) u)
    (CutsHeard strict card kept s.count (thing_of s kept packet) key u)
    (sink_state_of g.K.Sink c.args.out.now) (sink_state_of g.K.Sink c.take.new.out) t c.take.result from to fault
    (RefusesBy strict s packet fault) (c.in-Err-take.is ∙ why) comes
    (λ bytes refuses. heard_refuses strict s packet kept begins c.turn.new.self u fault bytes from to found
    c.turn.ensures refuses)

pub returns-in-Err-take-clause-stands : goal.returns-in-Err-take-clause-stands
returns-in-Err-take-clause-stands g c = λ fault why past after.
    let s = c.args.self.now in
    let packet = c.args.packet.now in
    let none = begins_none c.args.strict s packet c.args.tuning c.args.heard c.differ-begins.result c.judge.new.key
    c.turn.new.self c.turn.new.session c.take.new.self (CutsHeard c.args.strict (receiver_card s) c.args.tuning s.count
    (heard_as s.count packet c.args.heard) c.judge.new.key c.turn.new.session) (sink_state_of g.K.Sink c.args.out.now)
    (sink_state_of g.K.Sink c.take.new.out) c.take.result fault c.requires.form
    (c.differ-begins.ensures ∙ ap (λ (n : Option (Option ℕ)). are_two s.name n) (c.name_of-name.ensures s.count packet))
    c.turn.ensures (λ past follows. c.in-Ok.ensures.value packet past follows) (c.in-Err-take.is ∙ why)
    c.take.ensures.value (heard (receiver_card s) past) after.follows in
    stands_after c.differ-begins.result s c.turn.new.self c.turn.new.session c.take.new.self none c.turn.ensures
    (c.take.ensures.stands fault (c.in-Err-take.is ∙ why)) past after

pub returns-in-Err-take-clause-same : goal.returns-in-Err-take-clause-same
returns-in-Err-take-clause-same g c = λ fault why.
    let s = c.args.self.now in
    let packet = c.args.packet.now in
    let l = c.requires.fit.follows in
    let none = begins_none c.args.strict s packet c.args.tuning c.args.heard c.differ-begins.result c.judge.new.key
    c.turn.new.self c.turn.new.session c.take.new.self (CutsHeard c.args.strict (receiver_card s) c.args.tuning s.count
    (heard_as s.count packet c.args.heard) c.judge.new.key c.turn.new.session) (sink_state_of g.K.Sink c.args.out.now)
    (sink_state_of g.K.Sink c.take.new.out) c.take.result fault c.requires.form
    (c.differ-begins.ensures ∙ ap (λ (n : Option (Option ℕ)). are_two s.name n) (c.name_of-name.ensures s.count packet))
    c.turn.ensures (λ past follows. c.in-Ok.ensures.value packet past follows) (c.in-Err-take.is ∙ why)
    c.take.ensures.value l.0 l.1 in
    (refl, ap (λ (e : EndedRuns). e.last) (c.turn.ensures.0 none).1)

pub returns-in-Err-take-clause-fit : goal.returns-in-Err-take-clause-fit
returns-in-Err-take-clause-fit g c = λ fault why.
    let s = c.args.self.now in
    let begins = c.differ-begins.result in
    let l = c.requires.fit.follows in
    record {
      ecm = c.requires.fit.ecm;
      follows = (
        heard_of_run begins l.0,
        (c.take.ensures.stands fault (c.in-Err-take.is ∙ why)).follows (heard_of_run begins l.0)
            (turned_follows (receiver_card s) begins s.name s.ended c.turn.new.self s.session c.turn.new.session
            c.turn.ensures l.0 l.1),
      );
    }

pub returns-in-Err-take-clause-prefix : goal.returns-in-Err-take-clause-prefix
returns-in-Err-take-clause-prefix g c = λ failed.
    let s = c.args.self.now in
    let strict = c.args.strict in
    let packet = c.args.packet.now in
    let kept = c.args.tuning in
    let begins = c.differ-begins.result in
    let from = c.args.steps.now in
    let to = c.judge.new.steps in
    let thing = heard_as s.count packet c.args.heard in
    let is : thing ≡ thing_of s kept packet = c.requires.heard s.count in
    let found = found_of s packet kept thing c.name_of-name.result begins from to c.requires.tuned is
    (c.name_of-name.ensures s.count packet) c.differ-begins.ensures (sym c.is_over.ensures ∙ c.if-is_over.false)
    (λ past follows. c.judge.ensures.steps packet past follows) in
    let card = receiver_card s in
    let key = c.judge.new.key in
    let u = c.turn.new.session in
    let t = c.take.new.self in
    let judged = subst (λ (h : Heard). (past : List Heard) → IsListenerAfter card past s.session →
    IsJudgedAs card s.count (heard_of_run begins past) h key) is
    (λ past follows. c.in-Ok.ensures.value packet past follows) in
    let comes = subst (λ (h : Heard). SessionOutcome (TakesHeard true card kept s.count h key u)
    (RefusesHeard strict card kept s.count h u) (CutsHeard strict card kept s.count h key u)
    (sink_state_of g.K.Sink c.args.out.now) (sink_state_of g.K.Sink c.take.new.out) t
    c.take.result) is c.take.ensures.value in
    let name = option_or (run_name_heard (thing_of s kept packet)) s.name in
    cut_of strict (TakesHeard true card kept s.count (thing_of s kept packet) key u)
    (RefusesHeard strict card kept s.count (thing_of s kept packet) u)
    (sink_state_of g.K.Sink c.args.out.now) (sink_state_of g.K.Sink c.take.new.out) t c.take.result from to s packet
    (CutsHeard strict card kept s.count (thing_of s kept packet) key u)
    (subst (λ r. IsErrOf r Write) (sym c.in-Err-take.is) failed) comes
    (λ bytes cuts. cuts_by strict s packet from to bytes
    (λ x. TakesHeard strict card kept s.count (thing_of s kept packet) key u x bytes)
    (λ fault. RefusesHeard strict card kept s.count (thing_of s kept packet) u fault bytes)
    (λ x takes. (
      listening s (capped_count (s.count + 1)) name c.turn.new.self x,
      heard_does strict s packet kept begins key (capped_count (s.count + 1)) name c.turn.new.self u x bytes from to
          found
          c.turn.ensures judged refl refl takes,
    ))
    (λ fault refuses. heard_refuses strict s packet kept begins c.turn.new.self u fault bytes from to found
    c.turn.ensures refuses)
    cuts)

-- it is taken
pub returns-clause-value : goal.returns-clause-value
returns-clause-value g c =
    let s = c.args.self.now in
    let strict = c.args.strict in
    let packet = c.args.packet.now in
    let kept = c.args.tuning in
    let begins = c.differ-begins.result in
    let from = c.args.steps.now in
    let to = c.judge.new.steps in
    let thing = heard_as s.count packet c.args.heard in
    let is : thing ≡ thing_of s kept packet = c.requires.heard s.count in
    let found = found_of s packet kept thing c.name_of-name.result begins from to c.requires.tuned is
    (c.name_of-name.ensures s.count packet) c.differ-begins.ensures (sym c.is_over.ensures ∙ c.if-is_over.false)
    (λ past follows. c.judge.ensures.steps packet past follows) in
    let card = receiver_card s in
    let key = c.judge.new.key in
    let u = c.turn.new.session in
    let t = c.take.new.self in
    let judged = subst (λ (h : Heard). (past : List Heard) → IsListenerAfter card past s.session →
    IsJudgedAs card s.count (heard_of_run begins past) h key) is
    (λ past follows. c.in-Ok.ensures.value packet past follows) in
    let comes = subst (λ (h : Heard). SessionOutcome (TakesHeard true card kept s.count h key u)
    (RefusesHeard strict card kept s.count h u) (CutsHeard strict card kept s.count h key u)
    (sink_state_of g.K.Sink c.args.out.now) (sink_state_of g.K.Sink c.take.new.out) t
    c.take.result) is c.take.ensures.value in
    let added : c.saturating_add-self-2.result ≡ capped_count (s.count + 1) = omega arith in
    let named : c.or-self.result ≡ option_or (run_name_heard (thing_of s kept packet)) s.name = c.or-self.ensures
    ∙ ap (λ (n : Option (Option ℕ)). option_or n s.name) (c.name_of-name.ensures s.count packet ∙ ap run_name_heard is)
    in
    of_taken c.take.result c.in_default.not-Err
    (grew_of (TakesHeard true card kept s.count (thing_of s kept packet) key u)
    (RefusesHeard strict card kept s.count (thing_of s kept packet) u)
    (CutsHeard strict card kept s.count (thing_of s kept packet) key u)
    (sink_state_of g.K.Sink c.args.out.now) (sink_state_of g.K.Sink c.take.new.out) t c.take.result from to
    (receiver_does s packet (listening s c.saturating_add-self-2.result c.or-self.result c.turn.new.self t)) comes
    (λ bytes takes. heard_does true s packet kept begins key c.saturating_add-self-2.result c.or-self.result
    c.turn.new.self u t bytes from to found c.turn.ensures judged added named takes))

pub returns-clause-ok : goal.returns-clause-ok
returns-clause-ok g c =
    let s = c.args.self.now in
    let strict = c.args.strict in
    let packet = c.args.packet.now in
    let kept = c.args.tuning in
    let begins = c.differ-begins.result in
    let from = c.args.steps.now in
    let to = c.judge.new.steps in
    let thing = heard_as s.count packet c.args.heard in
    let is : thing ≡ thing_of s kept packet = c.requires.heard s.count in
    let found = found_of s packet kept thing c.name_of-name.result begins from to c.requires.tuned is
    (c.name_of-name.ensures s.count packet) c.differ-begins.ensures (sym c.is_over.ensures ∙ c.if-is_over.false)
    (λ past follows. c.judge.ensures.steps packet past follows) in
    let card = receiver_card s in
    let key = c.judge.new.key in
    let u = c.turn.new.session in
    let t = c.take.new.self in
    let judged = subst (λ (h : Heard). (past : List Heard) → IsListenerAfter card past s.session →
    IsJudgedAs card s.count (heard_of_run begins past) h key) is
    (λ past follows. c.in-Ok.ensures.value packet past follows) in
    let comes = subst (λ (h : Heard). SessionOutcome (TakesHeard true card kept s.count h key u)
    (RefusesHeard strict card kept s.count h u) (CutsHeard strict card kept s.count h key u)
    (sink_state_of g.K.Sink c.args.out.now) (sink_state_of g.K.Sink c.take.new.out) t
    c.take.result) is c.take.ensures.value in
    let l = c.requires.fit.follows in
    of_taken c.take.result c.in_default.not-Err
    (fit_after s c.saturating_add-self-2.result c.or-self.result c.turn.new.self u t kept s.count
    (thing_of s kept packet) key (RefusesHeard strict card kept s.count (thing_of s kept packet) u)
    (CutsHeard strict card kept s.count (thing_of s kept packet) key u) (sink_state_of g.K.Sink c.args.out.now)
    (sink_state_of g.K.Sink c.take.new.out) c.take.result (
      heard_of_run begins l.0,
      turned_follows card begins s.name s.ended c.turn.new.self s.session u c.turn.ensures l.0 l.1,
      judged l.0 l.1,
    )
    (turned_open card begins s.name s.ended c.turn.new.self s.session u c.turn.ensures l found.goes_on)
    c.requires.fit.ecm comes)
