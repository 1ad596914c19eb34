use Rattle.sd_law_keys.proofs.Naming.{packets_are_named, strangers_open_none}
use Rattle.sd_law_keys.proofs.written.written_packets_are_named.Goals as goal

pub returns : goal.returns
returns c = record { each = packets_are_named; strangers = strangers_open_none }
