-- What taking one line comes to.
use Rattle.std.proofs.Common.{◌≡◌, ℕ, ◌+◌, ◌^◌, Bool, true, List, [], ◌∷◌, ◌++◌, length}
use Rattle.std.proofs.Common.{Option, Some, Result, Ok, Err, sym, ap, subst, ◌∙◌}
use Rattle.sd_book.specs.declared.command.Command.{Command}
use Rattle.sd_book.specs.declared.fault.BookFault.{BookFault}
use Rattle.sd_book.specs.declared.fault.BookFault.TheVariants.{NoMemory}
use Rattle.sd_book.specs.Commands.{is_within}
use Rattle.sd_book.specs.Faults.{IsBrokenLimit}
use Rattle.sd_book.specs.Limits.{IsDraft}
use Rattle.sd_run_books.specs.declared.account_fault.AccountFault.{AccountFault}
use Rattle.sd_run_books.specs.Fault.{as_fault}
use Rattle.sd_run_books.specs.Line.{Entry, entry_on}
use Rattle.sd_run_books.specs.Judged.{command_by, command_after, judged_account_line}
use Rattle.sd_run_books.specs.Kept.{IsBelow, leaf_of_name_after, marks_after, mark_of, AreAccountsKept}
use Rattle.sd_run_books.proofs.Kept.{kept_more}
use Rattle.sd_run_books.proofs.Limits.{taken_fits, refused_fits}
use Rattle.sd_run_books.proofs.NextLine.{same_command, name_free, command_within, command_refused, limit_refused}
use Rattle.sd_run_books.proofs.NextLine.{line_taken}

-- a leaf of the tree has a mark
pub below_all : (d : ℕ) (marks : List Bool) (entry : Entry) → length marks ≡ 2 ^ d → IsBelow (2 ^ d) entry →
    IsBelow (length marks) entry
below_all d marks entry full low = subst (λ n. IsBelow n entry) (sym full) low

module _ (d : ℕ) (before : List (Option Entry)) (text : List ℕ) (entry : Entry) (leaf_for : List ℕ → Option ℕ)
    (marks : List Bool) (k : ℕ) (commands : List Command) (kept : AreAccountsKept d before leaf_for marks)
    (says : entry_on d text ≡ Some entry) (low : IsBelow (2 ^ d) entry) (number : k ≡ length before + 1) where
  -- the command of the line
  made_after : (made : Result Command AccountFault) → command_by leaf_for (mark_of marks) k (Some entry) ≡ made →
      command_after before (entry_on d text) ≡ made
  made_after made e = ap (command_after before) says ∙
      sym (same_command d before entry leaf_for marks k kept low number) ∙ e

  -- a line that makes no command
  pub takes_none : (fault : AccountFault) → command_by leaf_for (mark_of marks) k (Some entry) ≡ Err fault →
      judged_account_line d before commands (entry_on d text) ≡ Err fault
  takes_none fault e = command_refused d before commands (entry_on d text) fault (made_after (Err fault) e)

  -- the command is of the tree
  pub takes_within : (command : Command) → command_by leaf_for (mark_of marks) k (Some entry) ≡ Ok command →
      is_within d command ≡ true
  takes_within command e = command_within d before entry leaf_for marks command kept low
      (sym (same_command d before entry leaf_for marks k kept low number) ∙ e)

  -- a command that breaks a limit
  pub takes_too_much : (command : Command) (fault : BookFault) →
      command_by leaf_for (mark_of marks) k (Some entry) ≡ Ok command → IsDraft d commands → (fault ≡ NoMemory → ⊥) →
      (IsDraft d (commands ++ command ∷ []) → fault ≡ NoMemory) → IsBrokenLimit d commands (Some command ∷ []) fault →
      judged_account_line d before commands (entry_on d text) ≡ Err (as_fault fault)
  takes_too_much command fault e draft none complete broken =
      limit_refused d before commands (entry_on d text) command fault (made_after (Ok command) e)
      (refused_fits d commands command fault draft (takes_within command e) none complete broken)

  -- a line that is taken
  pub takes_line : (command : Command) → command_by leaf_for (mark_of marks) k (Some entry) ≡ Ok command →
      IsDraft d (commands ++ command ∷ []) → judged_account_line d before commands (entry_on d text) ≡ Ok command
  takes_line command e draft = line_taken d before commands (entry_on d text) command (made_after (Ok command) e)
      (taken_fits d commands command draft)

  -- and what is kept then
  pub keeps_line : (command : Command) (new : List ℕ → Option ℕ) (marked : List Bool) →
      command_by leaf_for (mark_of marks) k (Some entry) ≡ Ok command →
      ((name : List ℕ) → new name ≡ leaf_of_name_after entry leaf_for name) → marked ≡ marks_after entry marks →
      AreAccountsKept d (before ++ entry_on d text ∷ []) new marked
  keeps_line command new marked e leaves is = rw (says, is)
      (kept_more d before entry leaf_for new marks low
      (name_free entry leaf_for (mark_of marks) k command e) leaves kept)
