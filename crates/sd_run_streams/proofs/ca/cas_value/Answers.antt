use Rattle.std.proofs.Common.{refl}
use Rattle.std.proofs.lemmas.Result.{IfOk-from_err}
use Rattle.sd_psi.specs.Tables.{descriptors_of}
use Rattle.sd_run_streams.specs.TableLines.{cas_of, cas_data}
use Rattle.sd_run_streams.proofs.Growing.{ca_shown, cas_shown, fewer_left, list_shown, other_first}
use Rattle.sd_run_streams.proofs.ca.cas_value.Goals as goal

-- all descriptors are left
pub loop-descriptor-init : goal.loop-descriptor-init
loop-descriptor-init c = rw c.new-cas.ensures.items refl

-- a CA_descriptor has its value
pub loop-descriptor-preserved-in_ok-push : goal.loop-descriptor-preserved-in_ok-push
loop-descriptor-preserved-in_ok-push c = ca_shown c.loop-descriptor.cas.items c.push.new.self.items
    c.in_ok-ca_value.field-0 (descriptors_of c.loop-descriptor.rest.bytes.now)
    (descriptors_of c.next.new.self.bytes.now) c.in-Some.descriptor.bytes.now c.in-Some-ca.ca.bytes.now _
    c.in_ok-push.ensures.items c.in_ok-ca_value.ensures c.in-Some-ca.ensures.value c.in-Some.ensures.value
    c.in-Some-ca.ensures.none.1 c.loop-descriptor.invariant

-- another descriptor has none
pub loop-descriptor-preserved : goal.loop-descriptor-preserved
loop-descriptor-preserved c =
    rw (other_first (descriptors_of c.loop-descriptor.rest.bytes.now) (descriptors_of c.next.new.self.bytes.now)
    c.in-Some.descriptor.bytes.now c.in-Some.ensures.value (c.in_default-ca.ensures.none.0 refl))
    c.loop-descriptor.invariant

pub loop-descriptor-smaller-in_ok-push : goal.loop-descriptor-smaller-in_ok-push
loop-descriptor-smaller-in_ok-push c = fewer_left (descriptors_of c.loop-descriptor.rest.bytes.now)
    (descriptors_of c.next.new.self.bytes.now) _ c.in-Some.ensures.value

pub loop-descriptor-smaller : goal.loop-descriptor-smaller
loop-descriptor-smaller c = fewer_left (descriptors_of c.loop-descriptor.rest.bytes.now)
    (descriptors_of c.next.new.self.bytes.now) _ c.in-Some.ensures.value

pub returns-in_err-ca_value : goal.returns-in_err-ca_value
returns-in_err-ca_value c = IfOk-from_err c.from_residual.result _ c.from_residual.ensures.0

pub returns-in_err-push : goal.returns-in_err-push
returns-in_err-push c = IfOk-from_err c.from_residual-in_err-push.result _ c.from_residual-in_err-push.ensures.0

-- no descriptor is left
pub returns : goal.returns
unfolding cas_data
returns c = list_shown c.loop-descriptor.cas (cas_of (descriptors_of c.args.descriptors.bytes.now))
    (cas_shown _ _ _ (c.in_default.ensures.none.0 refl) c.loop-descriptor.invariant)
