use Rattle.std.proofs.Common.{sym, subst}
use Rattle.sd_message.specs.EmmForm.{IsEmm}
use Rattle.sd_message.specs.Period.{Period}
use Rattle.sd_message.proofs.EmmSharing.{made_is, is_emm}
use Rattle.sd_message.proofs.emm.Emm.of_period.Goals as goal

pub returns-clause-form : goal.returns-clause-form
returns-clause-form c = λ up.
    let period : Period = record {
      run = c.args.run;
      number = c.args.period;
      check = c.args.check.now;
      entries = c.args.entries.now;
    } in
    subst IsEmm (sym (made_is period c.args.index c.section_count.result c.entries_of-own.result.now c.filled_up.result
    c.section_count.ensures c.entries_of-own.ensures.value c.filled_up.ensures))
    (is_emm period c.args.index c.requires.index up)
