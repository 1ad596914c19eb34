use Rattle.std.proofs.Common.{arith, ◌≡◌, ap, length, refl, sym, inl, ◌∙◌, subst, Err}
use Rattle.std.proofs.lemmas.List.{nil_from_length}
use Rattle.sd_command_base.specs.declared.status.Status.{Status}
use Rattle.sd_command_base.specs.Outcome.{IsEnding, IsRefusal}
use Rattle.sd_run_broadcasts.specs.FieldClear.{broken_status}
use Rattle.sd_run_broadcasts.proofs.Cutting.{all_cut, cut_breaks, none_left, nothing_cut, one_more_cut, some_left}
use Rattle.sd_run_broadcasts.proofs.field_clear.cut.Goals as goal

pub loop-rest-init : goal.loop-rest-init
loop-rest-init c = rw c.new-packets.ensures.items (nothing_cut c.args.bytes.now)

pub returns-in-Err-clause-value : goal.returns-in-Err-clause-value
returns-in-Err-clause-value c =
    let l = c.loop-rest in
    let count : c.len.result ≡ length l.packets.items = omega (arith, c.len.ensures, l.packets.ok) in
    let is : c.broken.result ≡ broken_status (length l.packets.items) c.in-Err.cause =
    c.broken.ensures ∙ ap (λ n. broken_status n c.in-Err.cause) count in
    inl (
      cut_breaks c.args.bytes.now l.rest.now l.packets.items c.in-Err.cause l.invariant
          (some_left (length l.rest.now) (sym c.is_empty.ensures ∙ c.loop-rest-test.true)) c.in-Err.ensures
          ∙ ap (λ (s : Status). Err s) (sym is),
      subst IsRefusal (sym is) tt,
      subst IsEnding (sym is) tt,
    )

pub loop-rest-preserved : goal.loop-rest-preserved
loop-rest-preserved c =
    let l = c.loop-rest in
    one_more_cut c.args.bytes.now l.rest.now _ c.in-Ok.packet l.packets.items c.put.new.packets.items l.invariant
    c.in-Ok.ensures c.in_ok-put.ensures refl

pub returns-clause-value : goal.returns-clause-value
returns-clause-value c =
    let l = c.loop-rest in
    all_cut c.args.bytes.now l.rest.now l.packets.items l.invariant
    (nil_from_length l.rest.now
    (none_left (length l.rest.now) (sym c.is_empty.ensures ∙ c.loop-rest-test.false)))

pub returns-clause-few : goal.returns-clause-few
returns-clause-few c = let few = c.loop-rest.invariant.few in omega (arith, few)
