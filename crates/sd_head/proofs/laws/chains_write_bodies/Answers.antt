use Rattle.sd_head.proofs.Chained.{all_written, all_clear, all_after}
use Rattle.sd_head.proofs.laws.chains_write_bodies.Goals as goal

pub returns : goal.returns
returns c = record { body = all_written; clear = all_clear; after = all_after }
