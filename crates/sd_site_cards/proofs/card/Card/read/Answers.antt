use Rattle.sd_site_cards.proofs.Heads.{read_once}
use Rattle.sd_site_cards.specs.declared.card_fault.CardFault.TheVariants.{NoMemory}
use Rattle.sd_site_cards.specs.CardFields.{IsCard, card_fields_of, card_bytes}
use Rattle.sd_site_cards.specs.CardFaults.{fault_in}
use Rattle.sd_site_cards.proofs.Spellings.{written_once, written_is_good}
use Rattle.sd_site_cards.proofs.card.Card.read.Goals as goal

pub returns-clause-complete : goal.returns-clause-complete
returns-clause-complete c =
    read_once IsCard card_bytes fault_in NoMemory card_fields_of written_once written_is_good c.args.bytes.now
    c.whole.result c.whole.ensures.sound c.whole.ensures.fault
