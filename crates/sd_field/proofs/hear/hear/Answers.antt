use Rattle.std.proofs.Common.{Err, ◌<◌, ◌++◌, ◌∷◌, [], length, sym, subst, ap, ◌∙◌, inl, inr}
use Rattle.std.proofs.lemmas.Bool.{false≢true}
use Rattle.std.specs.List.{concat}
use Rattle.sd_base.proofs.Lists.{same_held}
use Rattle.sd_engine.specs.Stage.{SinkState}
use Rattle.sd_engine.specs.declared.stage.StageFault.TheVariants.{Refused}
use Rattle.sd_engine.proofs.Answering.{ok_is_no_err, write_is_no_refusal}
use Rattle.sd_spec.specs.Offered.{out_from}
use Rattle.sd_field.specs.Heard.{IsHeard}
use Rattle.sd_field.proofs.Heard.{by_kept, full_more, heard_kept, heard_refused, heard_taken, room_left}
use Rattle.sd_field.proofs.hear.hear.Goals as goal

pub offer-requires : goal.offer-requires
offer-requires g c = record { live = c.requires.live }

pub returns-in-Ok-clause-heard : goal.returns-in-Ok-clause-heard
returns-in-Ok-clause-heard g c card earlier xs few heard =
    let s = c.args.receiver.now in
    let t = c.offer.new.self in
    let packet = c.args.packet.now in
    let grew = c.in-Ok.ensures.value in
    by_kept (IsHeard card earlier (xs ++ packet ∷ []) t c.offer.new.out.held) s.refusal
    (λ calm. subst (IsHeard card earlier (xs ++ packet ∷ []) t) (sym grew.taken)
    (heard_taken card earlier xs s packet t c.args.written.now.held grew.bytes grew.steps few heard calm grew.says
    (c.in-Ok.ensures.ok).0))
    (λ why kept. ok_is_no_err (Refused why) (c.in-Ok.ensures.again why kept).0)

pub returns-in-Ok-clause-room : goal.returns-in-Ok-clause-room
returns-in-Ok-clause-room g c total room =
    let grew = c.in-Ok.ensures.value in
    room_left total c.args.written.now c.offer.new.out grew.bytes room grew.taken grew.room

pub returns-in-Ok-clause-full : goal.returns-in-Ok-clause-full
returns-in-Ok-clause-full g c card earlier xs total failed few heard room = absurd (false≢true failed)

pub returns-in-Err-Refused-clause-heard : goal.returns-in-Err-Refused-clause-heard
returns-in-Err-Refused-clause-heard g c card earlier xs few heard =
    let s = c.args.receiver.now in
    let t = c.offer.new.self in
    let packet = c.args.packet.now in
    let fault = c.in-Err-Refused.field-0-0 in
    let e = c.in-Err-Refused.ensures in
    let is = ap (λ x. Err x) c.in-Err-Refused.field-0-is in
    by_kept (IsHeard card earlier (xs ++ packet ∷ []) t c.offer.new.out.held) s.refusal
    (λ calm. let grew = e.fault fault is in
    subst (IsHeard card earlier (xs ++ packet ∷ []) t) (sym grew.taken)
    (heard_refused card earlier xs s packet t c.args.written.now.held grew.bytes grew.steps fault few heard calm
    grew.says (e.keeps fault is).1 (e.keeps fault is).0))
    (λ why kept. let again = e.again why kept in
    subst (IsHeard card earlier (xs ++ packet ∷ []) t)
    (sym (same_held c.offer.new.out.held c.args.written.now.held (ap (λ (v : SinkState). v.held) again.1)))
    (heard_kept card earlier xs s packet t c.args.written.now.held why few heard kept (e.keeps why again.0).1
    (e.keeps why again.0).0))

pub returns-in-Err-Refused-clause-room : goal.returns-in-Err-Refused-clause-room
returns-in-Err-Refused-clause-room g c total room =
    let is = ap (λ x. Err x) c.in-Err-Refused.field-0-is in
    let grew = c.in-Err-Refused.ensures.fault c.in-Err-Refused.field-0-0 is in
    room_left total c.args.written.now c.offer.new.out grew.bytes room grew.taken grew.room

pub returns-in-Err-Refused-clause-full : goal.returns-in-Err-Refused-clause-full
returns-in-Err-Refused-clause-full g c card earlier xs total failed few heard room = absurd (false≢true failed)

pub returns-in-Err-Write-clause-heard : goal.returns-in-Err-Write-clause-heard
returns-in-Err-Write-clause-heard g c card earlier xs few heard = tt

pub returns-in-Err-Write-clause-room : goal.returns-in-Err-Write-clause-room
returns-in-Err-Write-clause-room g c total room = tt

pub returns-in-Err-Write-clause-full : goal.returns-in-Err-Write-clause-full
returns-in-Err-Write-clause-full g c card earlier xs total failed few heard room =
    let s = c.args.receiver.now in
    let packet = c.args.packet.now in
    let e = c.in-Err-Write.ensures in
    let cut = e.prefix (ap (λ x. Err x) c.in-Err-Write.field-0-is) in
    by_kept (total < length (earlier ++ concat (out_from card [] (xs ++ packet ∷ [])))) s.refusal
    (λ calm. elim cut.says.2 [
      | inl (t, does) ↦ full_more card earlier xs s packet total c.args.written.now cut.bytes few heard calm room
          cut.room (λ past after within. (does past after within).bytes_are)
      | inr (fault, t, refuses) ↦ full_more card earlier xs s packet total c.args.written.now cut.bytes few heard calm
          room cut.room (λ past after within. (refuses past after within).bytes_are)
    ])
    (λ why kept.
    write_is_no_refusal why (sym (ap (λ x. Err x) c.in-Err-Write.field-0-is) ∙ (e.again why kept).0))
