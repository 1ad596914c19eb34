use Rattle.std.proofs.Common.{◌≡◌, ◌∙◌, ◌+◌, ◌++◌, ◌∷◌, [], ℕ, List, append_assoc, ap, arith, replicate}
use Rattle.std.proofs.lemmas.List.{replicate_more}
use Rattle.std.proofs.lemmas.Result.{err_from_is_err_and}
use Rattle.sd_spec.specs.declared.event.Event.{Event}
use Rattle.sd_field.proofs.script.push_run.Goals as goal

-- an event more of these
one_more : (before now after : List Event) (n : ℕ) (event : Event) → now ≡ before ++ replicate n event →
    after ≡ now ++ event ∷ [] → after ≡ before ++ replicate (n + 1) event
one_more before now after n event so_far pushed =
    pushed ∙ (ap (λ (xs : List Event). xs ++ event ∷ []) so_far
    ∙ (append_assoc before (replicate n event) (event ∷ [])
    ∙ ap (λ (xs : List Event). before ++ xs) (replicate_more n event)))

pub returns-in_err-push-clause-value : goal.returns-in_err-push-clause-value
returns-in_err-push-clause-value c =
    let p = err_from_is_err_and c.from_residual.result c.from_residual.ensures.1 in
    rw p.1 tt

pub returns-in_err-push-clause-fault : goal.returns-in_err-push-clause-fault
returns-in_err-push-clause-fault c =
    let p = err_from_is_err_and c.from_residual.result c.from_residual.ensures.1 in
    rw p.1 p.2

pub loop-turn-preserved : goal.loop-turn-preserved
loop-turn-preserved c =
    one_more c.args.events.now.items c.loop-turn.events.items c.push.new.self.items c.loop-turn._turn
    c.args.event.now c.loop-turn.invariant c.in_ok-push.ensures.items

-- all times
pub returns-clause-value : goal.returns-clause-value
returns-clause-value c =
    let all : c.loop-turn._turn ≡ c.args.times = omega arith in
    rw (← all) c.loop-turn.invariant
