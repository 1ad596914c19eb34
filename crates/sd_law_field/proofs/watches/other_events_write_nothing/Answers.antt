use Rattle.sd_spec.proofs.Offers.{lost_writes_nothing, off_writes_nothing, unheard_writes_nothing, others_wait}
use Rattle.sd_law_field.proofs.watches.other_events_write_nothing.Goals as goal

pub returns : goal.returns
returns c = record {
  lost = lost_writes_nothing;
  off = off_writes_nothing;
  unheard = unheard_writes_nothing;
  others = others_wait;
}
