use Rattle.std.proofs.Common.{rules, ◌≡◌, inl, inr, Err, [], length, refl, sym, ap}
use Rattle.std.specs.Prelude.{◌⊎◌}
use Rattle.std.proofs.lemmas.Result.{err_from_is_err_and}
use Rattle.sd_run_books.specs.declared.account_fault.AccountFault.TheVariants.{NoMemory}
use Rattle.sd_run_books.specs.Judged.{accounts_book, account_commands}
use Rattle.sd_run_books.specs.Kept.{leaf_named}
use Rattle.sd_run_books.specs.Line.{said_by_accounts}
use Rattle.sd_run_books.proofs.Reading.{read_all, read_more, read_refused, ends_judged}
use Rattle.sd_run_books.proofs.register.Register.read.Goals as goal

pub loop-line-init : goal.loop-line-init
loop-line-init c =
    let none = c.in_ok-new.ensures.value in
    record {
      height = c.in_ok-new.ensures.height;
      read = record {
        before = [];
        all = refl;
        count = ap length (sym none);
        kept = c.in_ok-new-2.ensures.kept;
        same = ap (λ commands. account_commands c.args.h [] commands (said_by_accounts c.args.h c.args.bytes.now))
            (sym none);
      };
    }

pub take-requires-clause-kept : goal.take-requires-clause-kept
take-requires-clause-kept c =
    let read = c.loop-line.invariant.read in
    (read.before, read.kept, read.count)

pub returns-in_err-take-clause-value : goal.returns-in_err-take-clause-value
returns-in_err-take-clause-value c =
    let read = c.loop-line.invariant.read in
    let p = err_from_is_err_and c.from_residual-in_err-take.result c.from_residual-in_err-take.ensures.1 in
    let why : (c.in_err-take.field-0.0 ≡ NoMemory) ⊎ (accounts_book c.args.h c.args.bytes.now
    ≡ Err c.in_err-take.field-0.0) =
    elim (c.in_err-take.ensures.value read.before read.kept read.count) [
      | inl none ↦ inl none
      | inr refused ↦ inr (read_refused c.args.h c.args.bytes.now c.loop-line.rest.now c.in-Some.line.now
          c.in-Some.after.now c.loop-line.register.draft.commands c.in_err-take.field-0.0
          (leaf_named c.loop-line.register.names.leaves) c.loop-line.register.names.marks.items
          (search rules) read refused)
    ] in
    rw (p.1, p.2) why

pub loop-line-preserved : goal.loop-line-preserved
loop-line-preserved c =
    let read = c.loop-line.invariant.read in
    let taken = c.in_ok-take.ensures.value read.before read.kept read.count in
    record {
      height = search rules;
      read = read_more c.args.h c.args.bytes.now c.loop-line.rest.now c.in-Some.line.now c.in-Some.after.now
          c.loop-line.register.draft.commands c.take.new.self.draft.commands taken.1.0
          (leaf_named c.loop-line.register.names.leaves) (leaf_named c.take.new.self.names.leaves)
          c.loop-line.register.names.marks.items c.take.new.self.names.marks.items (search rules) read taken.0 taken.1.1
          taken.1.2;
    }

pub returns-clause-kept : goal.returns-clause-kept
returns-clause-kept c = read_all c.args.h c.args.bytes.now c.loop-line.rest.now
    c.loop-line.register.draft.commands (leaf_named c.loop-line.register.names.leaves)
    c.loop-line.register.names.marks.items (search rules) c.loop-line.invariant.read

pub returns-clause-value : goal.returns-clause-value
returns-clause-value c = ends_judged c.args.h c.args.bytes.now c.loop-line.rest.now
    c.loop-line.register.draft.commands (leaf_named c.loop-line.register.names.leaves)
    c.loop-line.register.names.marks.items (search rules) c.loop-line.invariant.read
