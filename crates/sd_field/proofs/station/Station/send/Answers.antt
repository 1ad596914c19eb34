use Rattle.std.proofs.Common.{◌≡◌, ◌+◌, Err, Some, ap, refl, inl, inr, ◌∙◌}
use Rattle.sd_message.specs.declared.clear_fault.ClearFault.{ClearFault}
use Rattle.sd_engine.specs.declared.stage.StageFault.TheVariants.{Refused}
use Rattle.sd_head.specs.declared.fault.HeadFault.TheVariants as head
use Rattle.sd_field.proofs.Stations.{head_after, never_short, none_sent, station_allowed, station_due, station_full}
use Rattle.sd_field.proofs.Stations.{station_sent}
use Rattle.sd_field.proofs.station.Station.send.Goals as goal

pub returns-in-Ok-clause-sent : goal.returns-in-Ok-clause-sent
returns-in-Ok-clause-sent g c plan packets total stands =
    let grew = c.in-Ok.ensures.value in
    station_sent plan packets total c.args.self.now c.args.packet.now c.offer.new.self c.offer.new.out
    (c.args.self.now.count + 1) grew.bytes grew.steps stands grew.says grew.taken grew.room refl

pub returns-in-Ok-clause-allowed : goal.returns-in-Ok-clause-allowed
returns-in-Ok-clause-allowed g c plan packets total stands =
    let grew = c.in-Ok.ensures.value in
    station_allowed plan packets total c.args.self.now c.args.packet.now c.offer.new.self grew.bytes grew.steps stands
    grew.says

pub returns-in-Err-Refused-Clear-clause-refused : goal.returns-in-Err-Refused-Clear-clause-refused
returns-in-Err-Refused-Clear-clause-refused g c plan packets total fault stands is =
    let own = c.in-Err-Refused-Clear.fault in
    let same : own ≡ fault = cc in
    let grew = c.in-Err-Refused-Clear.ensures.fault (head.Clear own)
    (ap (λ x. Err x) c.in-Err-Refused-Clear.field-0-is
    ∙ ap (λ x. Err (Refused x)) c.in-Err-Refused-Clear.field-0-0-is) in
    let due = station_due plan packets total c.args.self.now c.args.packet.now (head.Clear own) grew.bytes stands
    grew.says in (
      due ∙ ap (λ (f : ClearFault). Some f) same,
      none_sent c.args.self.now.sent.held c.offer.new.out.held grew.bytes grew.taken grew.says.nothing,
    )

pub returns-in-Err-Refused-NoMemory-clause-memory : goal.returns-in-Err-Refused-NoMemory-clause-memory
returns-in-Err-Refused-NoMemory-clause-memory g c plan packets total stands is =
    let grew = c.in-Err-Refused-NoMemory.ensures.fault head.NoMemory
    (ap (λ x. Err x) c.in-Err-Refused-NoMemory.field-0-is
    ∙ ap (λ x. Err (Refused x)) c.in-Err-Refused-NoMemory.field-0-0-is) in
    let due = station_due plan packets total c.args.self.now c.args.packet.now head.NoMemory grew.bytes stands
    grew.says in (
      due.0,
      inl (
        due.1,
        none_sent c.args.self.now.sent.held c.offer.new.out.held grew.bytes grew.taken
            grew.says.nothing,
      ),
    )

pub returns-in-Err-Write-clause-memory : goal.returns-in-Err-Write-clause-memory
returns-in-Err-Write-clause-memory g c plan packets total stands is =
    let cut = c.in-Err-Write.ensures.prefix (ap (λ x. Err x) c.in-Err-Write.field-0-is) in
    let s = c.args.self.now in
    let packet = c.args.packet.now in
    elim cut.says.2 [
      | inl (t, does) ↦
          let did = does plan packets (head_after plan packets s.head stands.head) in
          (did.0, inr (station_full plan packets total s packet cut.bytes stands cut.room did.1))
      | inr (fault, t, refuses) ↦
          absurd (never_short _ _ cut.bytes stands.room.left cut.room refuses.nothing)
    ]
