use Rattle.std.proofs.Common.{rules}
use Rattle.sd_receive.proofs.ecm.control_word.word_of.Goals as goal

pub returns-in-Err : goal.returns-in-Err
returns-in-Err c = search rules
