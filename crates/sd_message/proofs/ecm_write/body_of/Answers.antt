use Rattle.std.proofs.Common.{◌≡◌, ◌∙◌, length, arith, rules}
use Rattle.sd_message.proofs.Items.{none_put}
use Rattle.sd_message.specs.EcmSpelled.{ecm_head_bytes, place_bytes}
use Rattle.sd_message.proofs.Versions.{fits_packet, few_positions}
use Rattle.sd_message.proofs.EcmSpelling.{one_put}
use Rattle.sd_message.proofs.ecm_write.body_of.Goals as goal

pub loop-k-init : goal.loop-k-init
loop-k-init c = record {
  value = c.head_of-body.ensures.value ∙ none_put place_bytes _ c.args.part.now.positions;
  length = omega (arith, c.head_of-body.ensures.length);
}

pub bounds-part-k : goal.bounds-part-k
bounds-part-k c = omega (
  arith,
  c.requires,
  c.loop-k-test.true,
  c.from-k-end.ensures,
  few_positions
      c.args.part.now.version,
)

pub put_place-requires : goal.put_place-requires
put_place-requires c =
    omega (
      arith,
      c.requires,
      c.loop-k-test.true,
      c.from-k-end.ensures,
      c.loop-k.invariant.length,
      fits_packet
          c.args.part.now.version,
    )

pub loop-k-preserved : goal.loop-k-preserved
loop-k-preserved c =
    let all : length c.args.part.now.positions ≡ 13 = search rules in
    let within = few_positions c.args.part.now.version in
    record {
      value = c.put_place.ensures.value
          ∙ one_put (ecm_head_bytes c.args.part.now) c.loop-k.body c.args.part.now.positions c.loop-k.k _
          (omega (arith, c.requires, c.loop-k-test.true, c.from-k-end.ensures)) c.loop-k.invariant.value;
      length = omega (arith, c.put_place.ensures.length, c.loop-k.invariant.length);
    }

pub returns-clause-few : goal.returns-clause-few
returns-clause-few c =
    omega (
      arith,
      c.requires,
      c.loop-k.auto.k-end,
      c.from-k-end.ensures,
      c.loop-k.invariant.length,
      fits_packet
          c.args.part.now.version,
    )
