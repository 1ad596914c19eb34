use Rattle.std.proofs.Common.{false, length, inl, inr}
use Rattle.sd_message.specs.EmmJudged.{emm_read}
use Rattle.sd_message.specs.EcmJudged.{ecm_read}
use Rattle.sd_spec.specs.Heard.{Dropped, Other, heard_emm, heard_ecm}
use Rattle.sd_spec.specs.Offered.{heard as heard_in}
use Rattle.sd_receive.specs.Receiving.{receiver_card}
use Rattle.sd_receive.proofs.Asked.{stray_heard, dropped_unstray, emm_unstray, ecm_unstray}
use Rattle.sd_receive.proofs.receiver.Receiver.is_stray.Goals as goal

pub returns-in-Other : goal.returns-in-Other
returns-in-Other c past after =
    let card = receiver_card c.args.self.now in
    stray_heard past c.args.self.now c.args.packet.now c.in-Some.tuning (Other (length past) c.args.packet.now)
    c.is_stray.result after c.in-Some.is (c.channel_of.ensures.other c.in-Other.is card.height (length past))
    (c.is_stray.ensures card (heard_in card past) (length past) after.follows)

pub returns-in-Cat : goal.returns-in-Cat
returns-in-Cat c past after =
    let card = receiver_card c.args.self.now in
    let receiver = c.args.self.now in
    let tuning = c.in-Some.tuning in
    let was = heard_in card past in
    let packet = c.args.packet.now in
    elim c.in-Cat.is [
      | inl e ↦ stray_heard past receiver packet tuning Dropped false after c.in-Some.is
          (c.channel_of.ensures.cat e card.height (length past)) (dropped_unstray was)
      | inr o ↦ elim o [
        | inl e ↦ stray_heard past receiver packet tuning (heard_emm (emm_read card.height packet)) false after
            c.in-Some.is (c.channel_of.ensures.emm e card.height (length past))
            (emm_unstray was (emm_read card.height packet))
        | inr e ↦ stray_heard past receiver packet tuning (heard_ecm (ecm_read packet)) false after c.in-Some.is
            (c.channel_of.ensures.ecm e card.height (length past)) (ecm_unstray was (ecm_read packet))
      ]
    ]
