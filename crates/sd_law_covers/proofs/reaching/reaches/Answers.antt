use Rattle.std.proofs.Common.{◌≡◌, ◌<◌, ◌≤◌, sym, ◌∙◌, ⊎_elim, arith, refl}
use Rattle.std.proofs.lemmas.Bool.{false≢true, cases_lt}
use Rattle.std.proofs.lemmas.List.Elements.{Contains-get_or}
use Rattle.sd_tree_keys.specs.declared.name.Name.{Name}
use Rattle.sd_tree_keys.specs.declared.name.Name.TheVariants.{Whole}
use Rattle.sd_cover_tracing.specs.Reach.{Key, DerivesSecret}
use Rattle.sd_cover_tracing.proofs.Reached.{found_is_reached, reached_is_found, none_of_all}
use Rattle.sd_law_covers.proofs.reaching.reaches.Goals as goal

pub loop-given-init : goal.loop-given-init
loop-given-init c = λ k h. absurd (omega arith)

pub returns-then-leads_to : goal.returns-then-leads_to
returns-then-leads_to c =
    let leads = c.leads_to.ensures.0 c.if-leads_to.true in
    let held = Contains-get_or c.args.held.now c.loop-given.given-index Whole c.loop-given-test.true in
    (λ _. found_is_reached c.args.held.now (Key c.args.name) _ held leads, λ _. refl)

pub loop-given-preserved : goal.loop-given-preserved
loop-given-preserved c = λ k h.
    ⊎_elim (λ (less : k < c.loop-given.given-index). c.loop-given.invariant k less)
    (λ (last : c.loop-given.given-index ≤ k).
    let e : k ≡ c.loop-given.given-index = omega arith in
    rw e (λ leads. false≢true (sym c.if-leads_to.false ∙ c.leads_to.ensures.1 leads)))
    (cases_lt k c.loop-given.given-index)

pub returns : goal.returns
returns c = (
  λ e. absurd (false≢true e),
  λ r. let (name, held, leads) = reached_is_found c.args.held.now (Key c.args.name) r in
      absurd (none_of_all c.args.held.now (λ (n : Name). DerivesSecret n (Key c.args.name)) Whole
      (λ k h. c.loop-given.invariant k (omega (arith, c.loop-given-test.false))) name held leads),
)
