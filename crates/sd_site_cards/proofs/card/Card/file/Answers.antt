use Rattle.std.proofs.lemmas.Result.{IfOk-weaker}
use Rattle.sd_site_cards.specs.CardFields.{card_bytes, card_head}
use Rattle.sd_site_cards.proofs.card.Card.file.Goals as goal

pub returns-clause-value : goal.returns-clause-value
unfolding card_bytes card_head
returns-clause-value c =
    rw (c.deref.ensures.value, c.deref-2.ensures.value, c.in_ok-head.ensures.value, c.get.ensures.value) at
    c.write_file.ensures.value

pub returns-clause-fits : goal.returns-clause-fits
returns-clause-fits c =
    let card = c.args.self.now in
    IfOk-weaker c.write_file.result _ _ (λ bytes secrets. record {
      height = card.height_in;
      leaf = card.leaf_in;
      ca = c.in_ok-head.ensures.fits;
      count = card.count;
      secrets = rw c.deref-2.ensures.value at secrets;
    }) c.write_file.ensures.fits
