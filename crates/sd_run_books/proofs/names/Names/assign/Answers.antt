use Rattle.std.proofs.Common.{rules, ◌≡◌, ◌∙◌, true, ap, inr, refl, sym}
use Rattle.std.specs.Prelude.{is_some}
use Rattle.sd_run_books.specs.Kept.{leaf_named}
use Rattle.sd_run_books.proofs.Named.{leaf_updated}
use Rattle.sd_run_books.proofs.names.Names.assign.Goals as goal

-- the name was bound already
pub returns-then-is_some-clause-value : goal.returns-then-is_some-clause-value
returns-then-is_some-clause-value c =
    let bound : is_some (leaf_named c.args.self.now.leaves c.args.name.bytes) ≡ true =
    ap is_some (sym c.in_ok-insert.ensures.old) ∙ (sym c.is_some.ensures ∙ c.if-is_some.true) in
    inr (rw bound refl)

pub returns-clause-leaves : goal.returns-clause-leaves
returns-clause-leaves c = leaf_updated c.args.self.now.leaves c.insert.new.self c.args.name _
    c.in_ok-insert.ensures.updates

pub returns-clause-value : goal.returns-clause-value
returns-clause-value c = search rules
