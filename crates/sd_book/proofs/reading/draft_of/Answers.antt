use Rattle.std.proofs.Common.{◌≡◌, ◌++◌, ◌∷◌, ◌∙◌, ℕ, List, Option, Some, sym, ap, subst, map, true, inr}
use Rattle.std.proofs.lemmas.Result.{err_from_is_err_and}
use Rattle.sd_book.specs.declared.command.Command.{Command}
use Rattle.sd_book.specs.Commands.{is_within}
use Rattle.sd_book.specs.Limits.{IsDraft}
use Rattle.sd_book.specs.Text.{command_of, said_by_book}
use Rattle.sd_book.proofs.Judged.{line_command}
use Rattle.sd_book.proofs.Causes.{line_cause, push_faulty, said_more}
use Rattle.sd_book.proofs.reading.draft_of.Goals.{In-Some, In_ok-command}
use Rattle.sd_book.proofs.reading.draft_of.Goals as goal

pub judged_line-requires : goal.judged_line-requires
judged_line-requires c = rw c.commands.ensures.value c.loop-line.invariant.fits.lines

-- the next line says something, and the lines after it the rest
line_said : (c : In-Some) → said_by_book c.args.bytes.now ≡ map Some c.loop-line.draft.commands
    ++ command_of c.in-Some.line.now ∷ said_by_book c.in-Some.after.now
line_said c = c.loop-line.invariant.said ∙
    ap (λ (said : List (Option Command)). map Some c.loop-line.draft.commands ++ said)
    (ap (map command_of) c.in-Some.ensures.first)

pub returns-in_err-command-clause-fault : goal.returns-in_err-command-clause-fault
returns-in_err-command-clause-fault c =
    let p = err_from_is_err_and c.from_residual-in_err-command.result c.from_residual-in_err-command.ensures.1 in
    let line = line_said (goal.at.returns-in_err-command-clause-fault c).In-Some in
    rw (p.1, p.2) (inr (line_cause c.args.h (said_by_book c.args.bytes.now) c.loop-line.draft.commands
    (command_of c.in-Some.line.now) (said_by_book c.in-Some.after.now) c.in_err-command.field-0.0 line
    c.loop-line.invariant.fits (rw c.commands.ensures.value at (sym c.in_err-command.ensures))))

-- it says the command, which is of the tree
command_said : (c : In_ok-command) → (command_of c.in-Some.line.now ≡ Some c.in_ok-command.command)
    × (is_within c.args.h c.in_ok-command.command ≡ true)
command_said c = line_command c.args.h c.loop-line.draft.commands (command_of c.in-Some.line.now)
    c.in_ok-command.command (rw c.commands.ensures.value at (sym c.in_ok-command.ensures))

pub push-requires : goal.push-requires
push-requires c =
    let said = command_said (goal.at.push-requires c).In_ok-command in
    record { leaf = rw c.loop-line.invariant.height said.1 }

pub returns-in_err-push-clause-fault : goal.returns-in_err-push-clause-fault
returns-in_err-push-clause-fault c =
    let p = err_from_is_err_and c.from_residual-in_err-push.result c.from_residual-in_err-push.ensures.1 in
    let line = line_said (goal.at.returns-in_err-push-clause-fault c).In-Some in
    let said = command_said (goal.at.returns-in_err-push-clause-fault c).In_ok-command in
    rw (p.1, p.2) (push_faulty c.args.h c.loop-line.draft.height (said_by_book c.args.bytes.now)
    c.loop-line.draft.commands
    c.in_ok-command.command (said_by_book c.in-Some.after.now) c.in_err-push.field-0.0 c.loop-line.invariant.height
    (rw said.0 at line) c.loop-line.invariant.fits c.in_err-push.ensures.fault)

pub loop-line-preserved : goal.loop-line-preserved
loop-line-preserved c =
    let height = c.in_ok-push.ensures.height ∙ c.loop-line.invariant.height in
    let line = line_said (goal.at.loop-line-preserved c).In-Some in
    let said = command_said (goal.at.loop-line-preserved c).In_ok-command in
    record {
      fits = subst (λ (k : ℕ). IsDraft k c.push.new.self.commands) height c.in_ok-push.ensures.fits;
      height = height;
      said = said_more (said_by_book c.args.bytes.now) c.loop-line.draft.commands c.push.new.self.commands
          c.in_ok-command.command (said_by_book c.in-Some.after.now) (rw said.0 at line)
          c.in_ok-push.ensures.value;
    }
