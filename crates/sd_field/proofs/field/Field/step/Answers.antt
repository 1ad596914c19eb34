use Rattle.std.proofs.Common.{arith, ◌≡◌, ◌∙◌, ◌<◌, ap, length, refl, subst, sym, Bool, true, false, List}
use Rattle.std.specs.Prelude.{Option, Some, None, Result, Ok, Err, get_or, slice_get}
use Rattle.std.proofs.lemmas.Option.{slice_get_read, slice_get_within}
use Rattle.std.proofs.lemmas.Result.{err_from_is_err_and}
use Rattle.sd_message.specs.declared.clear_fault.ClearFault.{ClearFault}
use Rattle.sd_spec.specs.declared.event.Event.{Event}
use Rattle.sd_field.specs.declared.fault.FieldFault.{FieldFault}
use Rattle.sd_field.specs.declared.fault.FieldFault.TheVariants.{Clear, NoMemory}
use Rattle.sd_field.specs.Fields.{FieldValue, EventTakesMemory, after_fault, next_event, next_refusal}
use Rattle.sd_field.proofs.Refused.{done_unrefused}
use Rattle.sd_field.proofs.field.Field.step.Goals as goal

-- a fault is no other answer
fault_is_none : {P : Type 0} (result : Result Bool FieldFault) (fault : FieldFault) (more : Bool) →
    result ≡ Err fault → result ≡ Ok more → P
fault_is_none result fault more failed well = cc

-- that there are more events isn't that there are none
more_is_no_end : {P : Type 0} → ◌≡◌ {A = Result Bool FieldFault} (Ok true) (Ok false) → P
more_is_no_end h = cc

-- what is there isn't missing
some_is_none : {X P : Type 0} (option : Option X) (x : X) → option ≡ None → option ≡ Some x → P
some_is_none option x none some = cc

-- the field failed by what it is inside
failed_is : (inside now : FieldValue) (failed : Option FieldFault) → inside ≡ now → inside.failed ≡ failed →
    now.failed ≡ failed
failed_is inside now failed same is = sym (ap (λ (v : FieldValue). v.failed) same) ∙ is

-- a field that failed stops again as it is
fails_again : (v : FieldValue) (fault : FieldFault) → v.failed ≡ Some fault → v ≡ after_fault fault v
fails_again v fault is = ap (λ (failed : Option FieldFault).
    record { site = v.site; clear = v.clear; events = v.events; done = v.done; failed = failed }) is

-- the fault that is kept is the answer
same_fault : (failed : Option FieldFault) (kept fault : FieldFault) → failed ≡ Some kept → failed ≡ Some fault →
    ◌≡◌ {A = Result Bool FieldFault} (Err kept) (Err fault)
same_fault failed kept fault is again = cc

-- the fault that a step answers is the one of its event
fault_of_event : (result : Result Bool FieldFault) (answered kept fault : FieldFault) → result ≡ Err answered →
    answered ≡ kept → result ≡ Err fault → ◌≡◌ {A = Result (Unit {0}) FieldFault} (Err kept) (Err fault)
fault_of_event result answered kept fault is from again = cc

-- where the event's packet is refused the fault is that refusal
fault_is_refusal : (kept : FieldFault) (refusal : Option ClearFault) (fault : ClearFault) →
    ((why : ClearFault) → ◌≡◌ {A = Result (Unit {0}) FieldFault} (Err kept) (Err (Clear why)) → refusal ≡ Some why) →
    (◌≡◌ {A = Result (Unit {0}) FieldFault} (Err kept) (Err NoMemory) → refusal ≡ None) → refusal ≡ Some fault →
    kept ≡ Clear fault
fault_is_refusal (Clear why) refusal fault clear memory is = let same = clear why refl in cc
fault_is_refusal NoMemory refusal fault clear memory is = some_is_none refusal fault (memory refl) is

-- the next event is the one that was found inside
next_is : (inside now : FieldValue) (events : List Event) (event : Event) → inside ≡ now → events ≡ inside.events →
    inside.done < length events → event ≡ get_or events inside.done event → next_event now ≡ Some event
next_is inside now events event same are left found = subst (λ (v : FieldValue). next_event v ≡ Some event) same
    (subst (λ (es : List Event). slice_get es inside.done ≡ Some event) are
    (slice_get_read events (length events) inside.done event refl left found))

-- where there is a next event not all are done
one_is_left : {P : Type 0} (v : FieldValue) (event : Event) → next_event v ≡ Some event → v.done ≡ length v.events → P
one_is_left v event next done =
    absurd (let left = slice_get_within v.events v.done event next in omega (arith, left, done))

-- a field that failed before answers the same fault
pub returns-in-Some-clause-done : goal.returns-in-Some-clause-done
returns-in-Some-clause-done g c = λ is. fault_is_none (Err c.in-Some.fault) c.in-Some.fault true refl is

pub returns-in-Some-clause-end : goal.returns-in-Some-clause-end
returns-in-Some-clause-end g c =
    let kept = failed_is _ c.args.self.now (Some c.in-Some.fault) c.self.view_is c.in-Some.is in (
      λ is. fault_is_none (Err c.in-Some.fault) c.in-Some.fault false refl is,
      λ both. some_is_none c.args.self.now.failed c.in-Some.fault both.0 kept,
    )

pub returns-in-Some-clause-idle : goal.returns-in-Some-clause-idle
returns-in-Some-clause-idle g c = λ is. refl

pub returns-in-Some-clause-refused : goal.returns-in-Some-clause-refused
returns-in-Some-clause-refused g c = fails_again c.args.self.now c.in-Some.fault
    (failed_is _ c.args.self.now (Some c.in-Some.fault) c.self.view_is c.in-Some.is)

pub returns-in-Some-clause-again : goal.returns-in-Some-clause-again
returns-in-Some-clause-again g c = λ fault again. same_fault c.args.self.now.failed c.in-Some.fault fault
    (failed_is _ c.args.self.now (Some c.in-Some.fault) c.self.view_is c.in-Some.is) again

pub returns-in-Some-clause-clear : goal.returns-in-Some-clause-clear
returns-in-Some-clause-clear g c = λ fault calm. some_is_none c.args.self.now.failed c.in-Some.fault calm
    (failed_is _ c.args.self.now (Some c.in-Some.fault) c.self.view_is c.in-Some.is)

pub returns-in-Some-clause-memory : goal.returns-in-Some-clause-memory
returns-in-Some-clause-memory g c = λ is calm. some_is_none c.args.self.now.failed c.in-Some.fault calm
    (failed_is _ c.args.self.now (Some c.in-Some.fault) c.self.view_is c.in-Some.is)

pub happen-requires-clause-calm : goal.happen-requires-clause-calm
happen-requires-clause-calm g c = failed_is _ c.args.self.now None c.self.view_is c.in_default.is

pub happen-requires-clause-next : goal.happen-requires-clause-next
happen-requires-clause-next g c =
    let found = c.in-Some-get.ensures.lookup in
    next_is _ c.args.self.now c.deref.result.now c.in-Some-get.event.now c.self.view_is c.deref.ensures.value
    found.3.0 found.1

-- the event stopped the field
pub returns-in_err-happen-in-Some-get-clause-end :
    goal.returns-in_err-happen-in-Some-get-clause-end
returns-in_err-happen-in-Some-get-clause-end g c =
    let p = err_from_is_err_and c.from_residual.result c.from_residual.ensures.1 in
    let found = c.in-Some-get.ensures.lookup in
    let next = next_is _ c.args.self.now c.deref.result.now c.in-Some-get.event.now c.self.view_is
    c.deref.ensures.value found.3.0 found.1 in (
      λ is. fault_is_none c.from_residual.result p.0 false p.1 is,
      λ both. one_is_left c.args.self.now c.in-Some-get.event.now next both.1,
    )

pub returns-in_err-happen-in-Some-get-clause-memory :
    goal.returns-in_err-happen-in-Some-get-clause-memory
returns-in_err-happen-in-Some-get-clause-memory g c =
    let p = err_from_is_err_and c.from_residual.result c.from_residual.ensures.1 in
    let kept = c.in_err-happen-in-Some-get.field-0.0 in
    let found = c.in-Some-get.ensures.lookup in
    let next = next_is _ c.args.self.now c.deref.result.now c.in-Some-get.event.now c.self.view_is
    c.deref.ensures.value found.3.0 found.1 in
    λ is calm. subst (EventTakesMemory c.args.self.now) (sym next) (c.in_err-happen-in-Some-get.ensures.memory
    (fault_of_event c.from_residual.result p.0 kept NoMemory p.1 p.2 is)).1

pub returns-in_err-happen-in-Some-get-clause-done :
    goal.returns-in_err-happen-in-Some-get-clause-done
returns-in_err-happen-in-Some-get-clause-done g c =
    let p = err_from_is_err_and c.from_residual.result c.from_residual.ensures.1 in
    λ is. fault_is_none c.from_residual.result p.0 true p.1 is

pub returns-in_err-happen-in-Some-get-clause-idle :
    goal.returns-in_err-happen-in-Some-get-clause-idle
returns-in_err-happen-in-Some-get-clause-idle g c =
    let p = err_from_is_err_and c.from_residual.result c.from_residual.ensures.1 in
    λ is. fault_is_none c.from_residual.result p.0 false p.1 is

pub returns-in_err-happen-in-Some-get-clause-refused :
    goal.returns-in_err-happen-in-Some-get-clause-refused
returns-in_err-happen-in-Some-get-clause-refused g c =
    let p = err_from_is_err_and c.from_residual.result c.from_residual.ensures.1 in
    rw (p.1, p.2) c.in_err-happen-in-Some-get.ensures.refused

pub returns-in_err-happen-in-Some-get-clause-again :
    goal.returns-in_err-happen-in-Some-get-clause-again
returns-in_err-happen-in-Some-get-clause-again g c =
    let calm = failed_is _ c.args.self.now None c.self.view_is c.in_default.is in
    λ fault again. some_is_none c.args.self.now.failed fault calm again

pub returns-in_err-happen-in-Some-get-clause-clear :
    goal.returns-in_err-happen-in-Some-get-clause-clear
returns-in_err-happen-in-Some-get-clause-clear g c =
    let p = err_from_is_err_and c.from_residual.result c.from_residual.ensures.1 in
    let kept = c.in_err-happen-in-Some-get.field-0.0 in
    let e = c.in_err-happen-in-Some-get.ensures in λ fault calm. (
      λ is. e.clear fault (fault_of_event c.from_residual.result p.0 kept (Clear fault) p.1 p.2 is),
      λ is. p.1 ∙ ap (λ (f : FieldFault). Err f) (p.2 ∙ fault_is_refusal kept (next_refusal c.args.self.now) fault
          e.clear (λ memory. (e.memory memory).0) is),
    )

-- the event happened
pub returns-in_ok-happen-in-Some-get-clause-done : goal.returns-in_ok-happen-in-Some-get-clause-done
returns-in_ok-happen-in-Some-get-clause-done g c =
    let found = c.in-Some-get.ensures.lookup in
    let next = next_is _ c.args.self.now c.deref.result.now c.in-Some-get.event.now c.self.view_is
    c.deref.ensures.value found.3.0 found.1 in
    λ is. (
      slice_get_within c.args.self.now.events c.args.self.now.done c.in-Some-get.event.now next,
      failed_is _ c.args.self.now None c.self.view_is c.in_default.is,
      c.in_ok-happen-in-Some-get.ensures.ok,
    )

pub returns-in_ok-happen-in-Some-get-clause-end : goal.returns-in_ok-happen-in-Some-get-clause-end
returns-in_ok-happen-in-Some-get-clause-end g c =
    let found = c.in-Some-get.ensures.lookup in
    let next = next_is _ c.args.self.now c.deref.result.now c.in-Some-get.event.now c.self.view_is
    c.deref.ensures.value found.3.0 found.1 in
    (λ is. more_is_no_end is, λ both. one_is_left c.args.self.now c.in-Some-get.event.now next both.1)

pub returns-in_ok-happen-in-Some-get-clause-idle : goal.returns-in_ok-happen-in-Some-get-clause-idle
returns-in_ok-happen-in-Some-get-clause-idle g c = λ is. more_is_no_end is

pub returns-in_ok-happen-in-Some-get-clause-refused : goal.returns-in_ok-happen-in-Some-get-clause-refused
returns-in_ok-happen-in-Some-get-clause-refused g c = tt

pub returns-in_ok-happen-in-Some-get-clause-again : goal.returns-in_ok-happen-in-Some-get-clause-again
returns-in_ok-happen-in-Some-get-clause-again g c = λ fault again. some_is_none c.args.self.now.failed fault
    (failed_is _ c.args.self.now None c.self.view_is c.in_default.is) again

pub returns-in_ok-happen-in-Some-get-clause-clear : goal.returns-in_ok-happen-in-Some-get-clause-clear
returns-in_ok-happen-in-Some-get-clause-clear g c = λ fault calm. (
  λ is. fault_is_none (Ok true) (Clear fault) true is refl,
  λ is. some_is_none (next_refusal c.args.self.now) fault c.in_ok-happen-in-Some-get.ensures.allowed is,
)

pub returns-in_ok-happen-in-Some-get-clause-memory : goal.returns-in_ok-happen-in-Some-get-clause-memory
returns-in_ok-happen-in-Some-get-clause-memory g c = λ is calm. fault_is_none (Ok true) NoMemory true is refl

-- no event is left
pub returns-in-None-clause-done : goal.returns-in-None-clause-done
returns-in-None-clause-done g c = λ is. more_is_no_end (sym is)

pub returns-in-None-clause-idle : goal.returns-in-None-clause-idle
returns-in-None-clause-idle g c = λ is. refl

pub returns-in-None-clause-refused : goal.returns-in-None-clause-refused
returns-in-None-clause-refused g c = tt

pub returns-in-None-clause-again : goal.returns-in-None-clause-again
returns-in-None-clause-again g c = λ fault again. some_is_none c.args.self.now.failed fault
    (failed_is _ c.args.self.now None c.self.view_is c.in_default.is) again

pub returns-in-None-clause-memory : goal.returns-in-None-clause-memory
returns-in-None-clause-memory g c = λ is calm. fault_is_none (Ok false) NoMemory false is refl

pub returns-in-None-clause-end : goal.returns-in-None-clause-end
returns-in-None-clause-end g c =
    let past = c.in-None.ensures.lookup.3 in
    let within = c.self.invariant.done in
    let end : c.self.inside.done ≡ length c.self.inside.events.items =
    omega (arith, past, within, ap length c.deref.ensures.value) in (
      λ _. (
        sym (ap (λ (x : FieldValue). x.failed) c.self.view_is) ∙ c.in_default.is,
        subst (λ (x : FieldValue). x.done ≡ length x.events) c.self.view_is end,
      ),
      λ _. refl,
    )

pub returns-in-None-clause-clear : goal.returns-in-None-clause-clear
returns-in-None-clause-clear g c fault calm =
    let past = c.in-None.ensures.lookup.3 in
    let within = c.self.invariant.done in
    let end : c.self.inside.done ≡ length c.self.inside.events.items =
    omega (arith, past, within, ap length c.deref.ensures.value) in
    let none = done_unrefused c.args.self.now
    (subst (λ (x : FieldValue). x.done ≡ length x.events) c.self.view_is end) in (
      λ is. fault_is_none (Ok false) (Clear fault) false is refl,
      λ is. some_is_none (next_refusal c.args.self.now) fault none is,
    )
