use Rattle.sd_spec.proofs.Offers.{offer_is_present, offer_is_written, refused_writes_nothing}
use Rattle.sd_law_field.proofs.watches.offers_are_heard.Goals as goal

pub returns : goal.returns
returns c = record { present = offer_is_present; written = offer_is_written; refused = refused_writes_nothing }
