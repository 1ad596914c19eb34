use Rattle.std.proofs.Common.{◌≡◌, ◌++◌, List, length, length-append, ap, arith}
use Rattle.sd_message.specs.declared.ecm_part.Place.{Place}
use Rattle.sd_message.specs.EcmSpelled.{listed_places}
use Rattle.sd_receive.proofs.Gathering.{gathers_more, few}
use Rattle.sd_receive.proofs.ecm.partial.PartialEcm.put.Goals as goal

pub invariant_of-self : goal.invariant_of-self
invariant_of-self c =
    let all = c.args.self.now.places.items in
    let joined : c.extend_from_slice.new.self.items ≡ all ++ listed_places c.args.part.now = grind (arith) in
    let long = ap (λ (l : List Place). length l) joined in
    record {
      counted = few c.args.part.now c.requires.form;
      few = omega (arith, long, length-append all (listed_places c.args.part.now), c.requires.room);
      room = omega arith;
    }

pub returns : goal.returns
returns c = λ run gathered next none.
    gathers_more c.args.part.now run c.args.self.now.part c.args.self.now.places.items
    c.extend_from_slice.new.self.items gathered
    c.positions_of.ensures.form next (grind (arith)) c.requires.room none
