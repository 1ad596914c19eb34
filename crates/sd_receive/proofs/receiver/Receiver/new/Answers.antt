use Rattle.std.proofs.Common.{[], refl}
use Rattle.sd_site_cards.specs.CardFields.{card_fields_of}
use Rattle.sd_receive.proofs.Receiving.{first_after}
use Rattle.sd_receive.proofs.receiver.Receiver.new.Goals as goal

pub returns : goal.returns
returns c =
    let fresh = c.in_ok-session.ensures in
    record {
      value = first_after c.args.card c.in_ok-session.session fresh.0 fresh.1;
      card = refl;
      live = λ none. record { ecm = tt; follows = ([], fresh.1 (card_fields_of c.args.card)) };
      told = refl;
    }
