use Rattle.std.proofs.Common.{sym, ◌≡◌, ◌∙◌, ap}
use Rattle.std.specs.Prelude.{Some, None}
use Rattle.std.proofs.lemmas.Bool.{both_ways}
use Rattle.sd_message.specs.EcmParts.{message_of, ecm_head_of}
use Rattle.sd_message.specs.declared.ecm_message.EcmHead.{EcmHead}
use Rattle.sd_spec.specs.Offered.{is_back}
use Rattle.sd_receive.specs.PartialEcm.{next_run}
use Rattle.sd_receive.specs.EcmAssembler.{parts_collected}
use Rattle.sd_receive.proofs.Collecting.{dropping_part, bad_part, ends_here}
use Rattle.sd_receive.proofs.Collecting.{back_part, complete_part, copied, good_places}
use Rattle.sd_receive.proofs.ecm.EcmAssembler.end.Goals as goal

pub returns-in-Err : goal.returns-in-Err
returns-in-Err c = record {
  value = λ past collects now counts. (
    bad_part past c.args.part.now c.in-Err.fault counts
        (c.in-Err.ensures.value (parts_collected past) (copied past c.args.self.now c.copy.new.self collects
        c.copy.ensures.part c.copy.ensures.places)),
    record { run = collects.run; last = collects.last },
  );
}

pub returns-then-is_empty : goal.returns-then-is_empty
returns-then-is_empty c = record {
  value = λ past collects now counts.
      let good = c.in_default.ensures.value (parts_collected past) (copied past c.args.self.now c.copy.new.self
      collects c.copy.ensures.part c.copy.ensures.places) in
      dropping_part past c.args.part.now _ c.take.new.self.part c.take.new.self.places.items counts good
      (c.is_empty.ensures.0 c.if-is_empty.true) c.reset.ensures.gathered collects.last;
}

pub returns-then-is_back : goal.returns-then-is_back
returns-then-is_back c = record {
  value = λ past collects now counts.
      let part = c.args.part.now in
      let all = c.take.new.self.places.items in
      let good = c.in_default.ensures.value (parts_collected past) (copied past c.args.self.now c.copy.new.self
      collects c.copy.ensures.part c.copy.ensures.places) in
      let some : c.take.new.self.part ≡ None → ⊥ =
      λ none. both_ways c.is_empty.result c.if-is_empty.false (c.is_empty.ensures.1 none) in
      let ends = ends_here past part c.take.new.self.part all counts c.requires.last some good.1 in
      let told = c.is_back.ensures past collects.last
      (good_places (next_run (parts_collected past) part) c.take.new.self.part all good.1).ascending now in
      let same = ap (λ (head : EcmHead). is_back past (message_of head all)) c.head-head.ensures in (
        back_part past part (message_of (ecm_head_of part) all) counts good.0 ends.complete
            (sym same ∙ (sym told ∙ c.if-is_back.true)),
        record { run = collects.run; last = collects.last },
      );
}

pub returns : goal.returns
returns c = record {
  value = λ past collects now counts.
      let part = c.args.part.now in
      let all = c.take.new.self.places.items in
      let good = c.in_default.ensures.value (parts_collected past) (copied past c.args.self.now c.copy.new.self
      collects c.copy.ensures.part c.copy.ensures.places) in
      let some : c.take.new.self.part ≡ None → ⊥ =
      λ none. both_ways c.is_empty.result c.if-is_empty.false (c.is_empty.ensures.1 none) in
      let ends = ends_here past part c.take.new.self.part all counts c.requires.last some good.1 in
      let right = good_places (next_run (parts_collected past) part) c.take.new.self.part all good.1 in
      let told = c.is_back.ensures past collects.last right.ascending now in
      let same = ap (λ (head : EcmHead). is_back past (message_of head all)) c.head-head.ensures in
      record {
        fault = complete_part past part (message_of (ecm_head_of part) all) counts good.0 ends.complete
            (sym same ∙ (sym told ∙ c.if-is_back.false));
        complete = ends.complete ∙ ap (λ (head : EcmHead). Some (message_of head all)) (sym c.head-head.ensures);
        ends = ends.part_is;
        says = c.head-head.ensures;
        good = right;
        before = record { run = collects.run; last = collects.last };
      };
}
