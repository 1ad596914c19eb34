use Rattle.std.proofs.Common.{◌∙◌, ap, refl}
use Rattle.std.proofs.lemmas.Result.{err_from_is_err_and}
use Rattle.sd_spec.specs.declared.event.Event.TheVariants.{Lose, Off, Offer, On}
use Rattle.sd_field.proofs.Scripts.{alone_run, of_leaf, once, repeated_run}
use Rattle.sd_field.proofs.line.run_at_leaf.Goals as goal

-- an offer
pub returns-in_err-leaf : goal.returns-in_err-leaf
returns-in_err-leaf c =
    let p = err_from_is_err_and c.from_residual.result c.from_residual.ensures.1 in
    rw (← c.in-Some.ensures, p.1, p.2)
    (ap (of_leaf Offer) c.in_err-leaf.ensures ∙ repeated_run c.args.h Offer c.in-Some.text.now (λ u. refl))

pub returns-in-Some : goal.returns-in-Some
returns-in-Some c =
    rw (← c.in-Some.ensures)
    (ap (of_leaf Offer) c.in_ok-leaf.ensures ∙ repeated_run c.args.h Offer c.in-Some.text.now (λ u. refl))

-- a loss
pub returns-in_err-leaf-2 : goal.returns-in_err-leaf-2
returns-in_err-leaf-2 c =
    let p = err_from_is_err_and c.from_residual-in_err-leaf-2.result c.from_residual-in_err-leaf-2.ensures.1 in
    rw (← c.in_default.ensures, ← c.in-Some-text_after.ensures, p.1, p.2)
    (ap (of_leaf Lose) c.in_err-leaf-2.ensures ∙ repeated_run c.args.h Lose c.in-Some-text_after.text.now (λ u. refl))

pub returns-in-Some-text_after : goal.returns-in-Some-text_after
returns-in-Some-text_after c =
    rw (← c.in_default.ensures, ← c.in-Some-text_after.ensures)
    (ap (of_leaf Lose) c.in_ok-leaf-2.ensures ∙ repeated_run c.args.h Lose c.in-Some-text_after.text.now (λ u. refl))

-- a receiver goes off
pub returns-in_err-leaf_in : goal.returns-in_err-leaf_in
returns-in_err-leaf_in c =
    let p = err_from_is_err_and c.from_residual-in_err-leaf_in.result c.from_residual-in_err-leaf_in.ensures.1 in
    rw (← c.in_default.ensures, ← c.in_default-text_after.ensures, ← c.in-Some-text_after-2.ensures, p.1, p.2)
    (ap (once Off) c.in_err-leaf_in.ensures ∙ alone_run c.args.h Off c.in-Some-text_after-2.text.now (λ u. refl))

pub returns-in-Some-text_after-2 : goal.returns-in-Some-text_after-2
returns-in-Some-text_after-2 c =
    rw (← c.in_default.ensures, ← c.in_default-text_after.ensures, ← c.in-Some-text_after-2.ensures)
    (ap (once Off) c.in_ok-leaf_in.ensures ∙ alone_run c.args.h Off c.in-Some-text_after-2.text.now (λ u. refl))

-- a receiver goes on
pub returns-in_err-leaf_in-in-Some-text_after-3 : goal.returns-in_err-leaf_in-in-Some-text_after-3
returns-in_err-leaf_in-in-Some-text_after-3 c =
    let failed = c.from_residual-in_err-leaf_in-in-Some-text_after-3 in
    let p = err_from_is_err_and failed.result failed.ensures.1 in
    rw (
      ← c.in_default.ensures,
      ← c.in_default-text_after.ensures,
      ← c.in_default-text_after-2.ensures,
      ← c.in-Some-text_after-3.ensures,
      p.1,
      p.2,
    )
    (ap (once On) c.in_err-leaf_in-in-Some-text_after-3.ensures
    ∙ alone_run c.args.h On c.in-Some-text_after-3.text.now (λ u. refl))

pub returns-in_ok-leaf_in-in-Some-text_after-3 : goal.returns-in_ok-leaf_in-in-Some-text_after-3
returns-in_ok-leaf_in-in-Some-text_after-3 c =
    rw (
      ← c.in_default.ensures,
      ← c.in_default-text_after.ensures,
      ← c.in_default-text_after-2.ensures,
      ← c.in-Some-text_after-3.ensures,
    )
    (ap (once On) c.in_ok-leaf_in-in-Some-text_after-3.ensures
    ∙ alone_run c.args.h On c.in-Some-text_after-3.text.now (λ u. refl))

-- no word of these
pub returns-in-None : goal.returns-in-None
returns-in-None c =
    rw (
      ← c.in_default.ensures,
      ← c.in_default-text_after.ensures,
      ← c.in_default-text_after-2.ensures,
      ← c.in-None.ensures,
    ) refl
