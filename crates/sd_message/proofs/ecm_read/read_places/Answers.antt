use Rattle.std.proofs.Common.{◌≡◌, ℕ, ◌-◌, ◌++◌, refl, ap, ◌∙◌, arith}
use Rattle.std.specs.Prelude.{replicate}
use Rattle.std.proofs.lemmas.Bool.{false≢true}
use Rattle.sd_message.proofs.Items.{none_read, one_read, all_read, none_good, one_good, not_good}
use Rattle.sd_message.specs.EcmForm.{IsPositioned, no_place}
use Rattle.sd_message.specs.EcmFields.{ecm_position_in, ecm_positions_in}
use Rattle.sd_message.proofs.ecm_read.read_places.Goals as goal

pub loop-k-init : goal.loop-k-init
loop-k-init c = record {
  value = none_read ecm_position_in 8 13 no_place c.args.bytes.now;
  places = none_good IsPositioned ecm_position_in 8 c.args.bytes.now;
}

pub returns-in_err-places-clause-places : goal.returns-in_err-places-clause-places
returns-in_err-places-clause-places c =
    let unless =
    not_good IsPositioned ecm_position_in 8 c.loop-k.k c.args.count c.args.bytes.now c.loop-k-test.true
    (λ one. false≢true (c.in_err-places.ensures.place.1 one)) in
    rw c.from_residual.ensures (λ some. absurd (false≢true some), λ all. absurd (unless all))

pub loop-k-preserved : goal.loop-k-preserved
loop-k-preserved c = record {
  value = one_read ecm_position_in 8 13 no_place c.args.bytes.now c.loop-k.places c.loop-k.k c.in_ok-places.field-0
      (omega arith) c.loop-k.invariant.value c.in_ok-places.ensures.value;
  places = one_good IsPositioned ecm_position_in 8 c.loop-k.k c.args.bytes.now c.loop-k.invariant.places
      (c.in_ok-places.ensures.place.0 refl);
}

pub returns-clause-value : goal.returns-clause-value
returns-clause-value c =
    let end : c.loop-k.k ≡ c.args.count = omega arith in
    c.loop-k.invariant.value
    ∙ (ap (λ (n : ℕ). ecm_positions_in n c.args.bytes.now ++ replicate (13 - n) no_place) end
    ∙ all_read ecm_position_in 8 13 no_place
    c.args.bytes.now c.args.count)
