use Rattle.std.proofs.Common.{rules, arith, ◌≡◌, ◌∙◌, ◌+◌, ◌++◌, ◌∷◌, ℕ, List, replicate, length, length-append, All}
use Rattle.std.proofs.Common.{ap, sym, subst, inr, true, refl, Ok, Err}
use Rattle.std.proofs.lemmas.Result.{err_from_is_err_and}
use Rattle.std.proofs.lemmas.List.{length-replicate}
use Rattle.sd_base.specs.Lines.{lines_of}
use Rattle.sd_spec.specs.declared.event.Event.{Event}
use Rattle.sd_spec.specs.Events.{is_of}
use Rattle.sd_field.specs.Script.{judged_event, put_before, script_from, script_line_event}
use Rattle.sd_field.proofs.Scripts.{line_good, run_of_tree, script_broken, script_ended, script_on}
use Rattle.sd_field.proofs.script.read_script.Goals as goal

pub returns-in_err-event-clause-exact : goal.returns-in_err-event-clause-exact
returns-in_err-event-clause-exact c =
    let p = err_from_is_err_and c.from_residual.result c.from_residual.ensures.1 in
    let l = c.loop-line in
    let d : ℕ = c.args.h in
    let k : ℕ = l.lines + 1 in
    let n : ℕ = length l.events.items in
    let lines : List (List ℕ) = c.in-Some.line.now ∷ lines_of c.in-Some.after.now in
    let long_is : c.len.result ≡ n = omega (arith, c.len.ensures, l.events.ok) in
    let said = l.invariant.said
    ∙ ap (λ (xs : List (List ℕ)). put_before l.events.items (script_from d k n xs)) c.in-Some.ensures.first in
    rw (p.1, p.2) (inr (said ∙ script_broken d k n l.events.items c.in-Some.line.now (lines_of c.in-Some.after.now)
    c.in_err-event.field-0.0
    (subst (λ (m : ℕ). judged_event d k m (script_line_event c.in-Some.line.now) ≡ Err c.in_err-event.field-0.0) long_is
    (sym c.in_err-event.ensures.value))))

pub loop-line-preserved : goal.loop-line-preserved
loop-line-preserved c =
    let l = c.loop-line in
    let d : ℕ = c.args.h in
    let k : ℕ = l.lines + 1 in
    let n : ℕ = length l.events.items in
    let events : List Event = l.events.items in
    let event : Event = c.in_ok-event.event in
    let times : ℕ = c.in_ok-event.times in
    let long_is : c.len.result ≡ n = omega (arith, c.len.ensures, l.events.ok) in
    let said = l.invariant.said
    ∙ ap (λ (xs : List (List ℕ)). put_before events (script_from d k n xs)) c.in-Some.ensures.first in
    let is : judged_event d k n (script_line_event c.in-Some.line.now) ≡ Ok (event, times) =
    subst (λ (m : ℕ). judged_event d k m (script_line_event c.in-Some.line.now) ≡ Ok (event, times)) long_is
    (sym c.in_ok-event.ensures.value) in
    let good = line_good d k n c.in-Some.line.now (event, times) is in
    let all = c.in_ok-push_run.ensures.value in
    let long : length (events ++ replicate times event) ≡ n + times =
    length-append events (replicate times event) ∙ ap (λ (m : ℕ). n + m) (length-replicate times event) in
    let longer : length c.push_run.new.events.items ≡ n + times = ap length all ∙ long in
    let lines = l.invariant.lines in
    let some = good.some in
    let few = good.few in
    record {
      lines = omega (arith, lines, some, longer);
      few = omega (arith, few, longer);
      leaves = subst (All (λ event. is_of d event ≡ true)) (sym all)
          (run_of_tree d times event events good.leaf l.invariant.leaves);
      said = said
          ∙ (script_on d k n events c.in-Some.line.now (lines_of c.in-Some.after.now) (event, times) is
          ∙ (ap (λ (m : ℕ). put_before (events ++ replicate times event)
          (script_from d (k + 1) m (lines_of c.in-Some.after.now))) (sym longer)
          ∙ ap (λ (xs : List Event). put_before xs (script_from d (k + 1) (length c.push_run.new.events.items)
          (lines_of c.in-Some.after.now))) (sym all)));
    }

pub returns-clause-exact : goal.returns-clause-exact
returns-clause-exact c =
    let l = c.loop-line in
    l.invariant.said
    ∙ script_ended c.args.h (l.lines + 1) (length l.events.items) l.events.items (lines_of l.rest.now)
    (ap lines_of (c.in_default.ensures.none.0 refl))

pub loop-line-init : goal.loop-line-init
loop-line-init c = search rules
