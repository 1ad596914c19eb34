use Rattle.std.proofs.Common.{arith, ◌≡◌, ◌∙◌, ◌+◌, ◌-◌, ◌++◌, ◌∷◌, [], ℕ, List, ap, sym, subst, replicate}
use Rattle.sd_book.specs.Limits.{IsDraft}
use Rattle.sd_book.specs.declared.command.Command.{Command}
use Rattle.sd_book.specs.declared.command.Command.TheVariants.{Period}
use Rattle.sd_field.proofs.Laying.{filled_by, last_by, period_fits, periods_more}
use Rattle.sd_field.proofs.laid.Laid.fill.Goals as goal

pub push-requires-clause-fits : goal.push-requires-clause-fits
push-requires-clause-fits c =
    let inv = c.loop-self.invariant in
    let old = c.args.self.now in
    subst (λ (d : ℕ). IsDraft d (c.loop-self.self.draft.commands ++ Period ∷ [])) (sym inv.height)
    (period_fits old.draft.height c.args.period c.loop-self.self.last old.last old.draft.commands
    c.loop-self.self.draft.commands c.requires.low c.requires.fits c.requires.last inv.least c.loop-self-test.true
    inv.commands)

pub loop-self-preserved : goal.loop-self-preserved
loop-self-preserved c =
    let inv = c.loop-self.invariant in
    let old = c.args.self.now in
    let least = inv.least in
    let most = inv.most in
    let before = c.loop-self-test.true in
    let n : ℕ = c.loop-self.self.last - old.last in
    let next : n + 1 ≡ c.loop-self.self.last + 1 - old.last = omega (arith, least) in
    record {
      height = c.in_ok-push.ensures.height ∙ inv.height;
      sends = inv.sends;
      least = omega (arith, least);
      most = omega (arith, least, most, before);
      commands = c.in_ok-push.ensures.value
          ∙ (ap (λ (xs : List Command). xs ++ Period ∷ []) inv.commands
          ∙ (periods_more n old.draft.commands
          ∙ ap (λ (k : ℕ). old.draft.commands ++ replicate k Period) next));
    }

pub returns-clause-value : goal.returns-clause-value
returns-clause-value c =
    let inv = c.loop-self.invariant in
    let old = c.args.self.now in
    filled_by c.args.period c.loop-self.self.last old.last old.draft.commands c.loop-self.self.draft.commands
    c.requires.last inv.least inv.most c.loop-self-test.false inv.commands

pub returns-clause-last : goal.returns-clause-last
returns-clause-last c =
    let inv = c.loop-self.invariant in
    let old = c.args.self.now in
    last_by c.args.period c.loop-self.self.last old.last old.draft.commands c.loop-self.self.draft.commands
    c.requires.last inv.least inv.most c.loop-self-test.false
    (filled_by c.args.period c.loop-self.self.last old.last old.draft.commands c.loop-self.self.draft.commands
    c.requires.last inv.least inv.most c.loop-self-test.false inv.commands)
