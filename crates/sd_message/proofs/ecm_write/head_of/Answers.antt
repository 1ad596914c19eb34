use Rattle.std.proofs.Common.{rules}
use Rattle.sd_message.proofs.ecm_write.head_of.Goals as goal

pub returns-clause-fits : goal.returns-clause-fits
returns-clause-fits c = record {
  number = c.numbers_of-body.ensures.number;
  period = c.numbers_of-body.ensures.period;
  word = c.numbers_of-body.ensures.word;
  clear = c.numbers_of-body.ensures.clear;
  since = search rules;
  run = c.put_since.ensures.run;
  wrapped = c.put_word.ensures.wrapped;
  check = c.put_word.ensures.check;
}
