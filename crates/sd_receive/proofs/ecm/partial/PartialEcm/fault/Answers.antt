use Rattle.std.proofs.Common.{arith, subst, sym, ap, ◌∙◌, length, ◌≡◌}
use Rattle.std.specs.Prelude.{List, [], true, false, Option}
use Rattle.std.proofs.lemmas.Bool.{both_ways}
use Rattle.sd_message.specs.declared.ecm_part.Place.{Place}
use Rattle.sd_message.specs.declared.ecm_part.EcmPart.{EcmPart}
use Rattle.sd_spec.specs.Offered.{is_after}
use Rattle.sd_receive.specs.PartialEcm.{IsGathered}
use Rattle.sd_receive.proofs.Gathering.{is_mixed_with, is_mixed_part, is_unordered_part, goes_with_newest}
use Rattle.sd_receive.proofs.Gathering.{goes_with_none, too_many_part, none_wrong_part}
use Rattle.sd_receive.proofs.ecm.partial.PartialEcm.fault.Goals as goal
use Rattle.sd_receive.proofs.ecm.partial.PartialEcm.fault.Goals.{in-Some+else-not-same_header+else-not-is_after}
use Rattle.sd_receive.proofs.ecm.partial.PartialEcm.fault.Goals.{in_default}

pub returns-then-not-same_header-clause-value : goal.returns-then-not-same_header-clause-value
returns-then-not-same_header-clause-value c = λ run gathered.
    is_mixed_part c.args.part.now c.in-Some.before run c.args.self.now.places.items
    (subst (λ (kept : Option EcmPart). IsGathered run kept c.args.self.now.places.items) c.in-Some.is gathered)
    (λ same. both_ways c.same_header.result c.if-not-same_header.true (c.same_header.ensures.1 same))

pub returns-then-not-is_after-clause-value : goal.returns-then-not-is_after-clause-value
returns-then-not-is_after-clause-value c = λ run gathered.
    is_unordered_part c.args.part.now c.in-Some.before run c.args.self.now.places.items
    (subst (λ (kept : Option EcmPart). IsGathered run kept c.args.self.now.places.items) c.in-Some.is gathered)
    (c.same_header.ensures.0 c.if-not-same_header.false)
    (λ old. sym (c.is_after.ensures old []) ∙ c.if-not-is_after.true)

pub returns-then-len-listed-gt-MOST_PLACES-clause-value :
    goal.returns-then-len-listed-gt-MOST_PLACES-clause-value
returns-then-len-listed-gt-MOST_PLACES-clause-value c = λ run gathered.
    let good : (is_mixed_with c.args.part.now run ≡ false) × (is_after c.args.part.now run ≡ true) =
    elim c.match-self.branch [
      | in-Some+else-not-same_header+else-not-is_after w ↦
          goes_with_newest c.args.part.now w.in-Some.before run c.args.self.now.places.items
          (subst (λ (kept : Option EcmPart). IsGathered run kept c.args.self.now.places.items) w.in-Some.is gathered)
          (record {
            same = w.same_header.ensures.0 w.if-not-same_header.false;
            after = λ old. sym (w.is_after.ensures old []) ∙ w.if-not-is_after.false;
          })
      | in_default w ↦ goes_with_none c.args.part.now run c.args.self.now.places.items
          (subst (λ (kept : Option EcmPart). IsGathered run kept c.args.self.now.places.items) w.in_default.is gathered)
    ] in
    let long = ap (λ (l : List Place). length l) c.listed.ensures in
    too_many_part c.args.part.now run c.args.self.now.part c.args.self.now.places.items gathered good
    (omega (arith, long))

pub returns-clause-value : goal.returns-clause-value
returns-clause-value c = λ run gathered.
    let good : (is_mixed_with c.args.part.now run ≡ false) × (is_after c.args.part.now run ≡ true) =
    elim c.match-self.branch [
      | in-Some+else-not-same_header+else-not-is_after w ↦
          goes_with_newest c.args.part.now w.in-Some.before run c.args.self.now.places.items
          (subst (λ (kept : Option EcmPart). IsGathered run kept c.args.self.now.places.items) w.in-Some.is gathered)
          (record {
            same = w.same_header.ensures.0 w.if-not-same_header.false;
            after = λ old. sym (w.is_after.ensures old []) ∙ w.if-not-is_after.false;
          })
      | in_default w ↦ goes_with_none c.args.part.now run c.args.self.now.places.items
          (subst (λ (kept : Option EcmPart). IsGathered run kept c.args.self.now.places.items) w.in_default.is gathered)
    ] in
    let long = ap (λ (l : List Place). length l) c.listed.ensures in
    none_wrong_part c.args.part.now run c.args.self.now.part c.args.self.now.places.items gathered good
    (omega (arith, long))
