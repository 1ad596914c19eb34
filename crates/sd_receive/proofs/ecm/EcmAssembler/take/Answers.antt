use Rattle.std.proofs.Common.{sym, subst, ◌∙◌}
use Rattle.std.proofs.lemmas.Bool.{ne_eqb}
use Rattle.sd_spec.specs.Stretches.{newest_message}
use Rattle.sd_receive.specs.PartialEcm.{IsGathered}
use Rattle.sd_receive.specs.EcmAssembler.{parts_collected}
use Rattle.sd_receive.specs.declared.ecm.partial.PartialEcm.{PartialEcm}
use Rattle.sd_receive.proofs.Collecting.{uncounted_part, waiting_part, bad_part, not_last}
use Rattle.sd_receive.proofs.ecm.EcmAssembler.take.Goals as goal

pub returns-then-not-counts : goal.returns-then-not-counts
returns-then-not-counts c = record {
  value = λ past collects now.
      uncounted_part past c.args.part.now c.args.self.now collects
      (sym (c.counts.ensures (newest_message past).message collects.last) ∙ c.if-not-counts.true);
}

pub returns-in-Err : goal.returns-in-Err
returns-in-Err c = record {
  value = λ past collects now. (
    bad_part past c.args.part.now c.in-Err.fault
        (sym (c.counts.ensures (newest_message past).message collects.last) ∙ c.if-not-counts.false)
        (c.in-Err.ensures.value (parts_collected past) collects.run),
    record {
      run = subst (λ (run : PartialEcm). IsGathered (parts_collected past) run.part run.places.items)
          (sym c.in-Err.ensures.unchanged) collects.run;
      last = collects.last;
    },
  );
}

pub returns : goal.returns
returns c = record {
  value = λ past collects now.
      let counts = sym (c.counts.ensures (newest_message past).message collects.last) ∙ c.if-not-counts.false in
      let good = c.in_default.ensures.value (parts_collected past) collects.run in
      waiting_part past c.args.part.now _ counts good.0 good.1 collects.last
      (not_last past c.args.part.now (ne_eqb c.args.part.now.part c.args.part.now.last_part c.if-part.false));
}
