use Rattle.std.proofs.Common.{ap, ◌∙◌}
use Rattle.sd_site_cards.specs.SiteFields.{site_fields_of}
use Rattle.sd_site_cards.specs.CardFields.{card_fields_of, card_of}
use Rattle.sd_receive.specs.Receiving.{receiver_card}
use Rattle.sd_run_broadcasts.proofs.Trying.{heard_as}
use Rattle.sd_run_broadcasts.proofs.trial_lines.push_receiver.Goals as goal

pub returns : goal.returns
returns g c =
    let site = c.args.site.now in
    heard_as (site_fields_of site) c.args.sent.now c.args.u c.in_ok-wrote.wrote
    (receiver_card c.in_ok-receiver.receiver)
    c.in_ok-wrote.status _ _ c.push_line.result
    (ap card_fields_of c.in_ok-receiver.ensures.card ∙ (c.in_ok-card.ensures
    ∙ ap (card_of site.master site.ca site.height) c.in-Some.ensures.value)) c.in_ok-wrote.ensures c.push_line.ensures
