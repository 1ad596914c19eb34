use Rattle.std.proofs.Common.{arith, length, sym, subst, ap}
use Rattle.std.specs.Prelude.{List, [], ◌∷◌}
use Rattle.sd_message.specs.declared.ecm_part.Place.{Place}
use Rattle.sd_message.specs.declared.ecm_part.EcmPart.{EcmPart}
use Rattle.sd_receive.specs.PartialEcm.{GatherOutcome}
use Rattle.sd_receive.proofs.Gathering.{begun, few_listed, goes_on, ends_run}
use Rattle.sd_receive.proofs.ecm.partial.PartialEcm.take.Goals as goal

pub put-requires-clause-room : goal.put-requires-clause-room
put-requires-clause-room c =
    let none = ap (λ (l : List Place). length l) c.reset.ensures.places in
    omega (arith, none, few_listed c.args.part.now c.requires)

pub returns-then-part-eq0-clause-value : goal.returns-then-part-eq0-clause-value
returns-then-part-eq0-clause-value c = λ run gathered.
    begun c.args.part.now run _ _ c.if-part-eq0.true c.requires
    (c.put.ensures [] c.reset.ensures.gathered tt)

pub returns-then-goes_on-clause-value : goal.returns-then-goes_on-clause-value
returns-then-goes_on-clause-value c = λ run gathered.
    subst (λ (more : List EcmPart). GatherOutcome more c.add.new.self.part c.add.new.self.places.items c.add.result)
    (sym (goes_on c.args.part.now run (c.args.part.now ∷ run) c.if-part-eq0.false
    (c.if-goes_on.ensures.value run gathered)))
    (c.add.ensures.value run gathered (c.goes_on.ensures.next run gathered c.if-goes_on.true))

pub returns-clause-value : goal.returns-clause-value
returns-clause-value c = λ run gathered.
    ends_run c.args.part.now run _ _ (goes_on c.args.part.now run [] c.if-part-eq0.false
    (c.if-goes_on.ensures.value run gathered))
    c.reset-2.ensures.gathered
