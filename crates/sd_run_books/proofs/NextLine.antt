-- One line more.
use Rattle.std.proofs.Common.{◌≡◌, ℕ, ◌+◌, ◌<◌, ◌^◌, ◌||◌, Bool, true, false, nat_lt, List, [], ◌∷◌, ◌++◌}
use Rattle.std.proofs.Common.{length}
use Rattle.std.proofs.Common.{Option, Some, None, Ok, Err, refl, sym, ap, ◌∙◌}
use Rattle.std.proofs.lemmas.Bool.{lt-ltb}
use Rattle.std.specs.Prelude.{is_some, if◌then◌else◌}
use Rattle.sd_book.specs.declared.command.Command.{Command}
use Rattle.sd_book.specs.declared.command.Command.TheVariants.{Subscribe, Revoke, Period}
use Rattle.sd_book.specs.declared.fault.BookFault.{BookFault}
use Rattle.sd_book.specs.Commands.{is_within}
use Rattle.sd_book.specs.Text.{command_fits}
use Rattle.sd_run_books.specs.declared.account_fault.AccountFault.{AccountFault}
use Rattle.sd_run_books.specs.declared.account_fault.AccountFault.TheVariants.{Taken}
use Rattle.sd_run_books.specs.Fault.{as_fault}
use Rattle.sd_run_books.specs.Line.{Entry, Assigns, Drops, Restores, Ends}
use Rattle.sd_run_books.specs.Bound.{leaf_of, is_held}
use Rattle.sd_run_books.specs.Judged.{on_leaf, command_by, command_after, judged_account_line, account_commands}
use Rattle.sd_run_books.specs.Kept.{IsBelow, mark_of, AreAccountsKept}

-- what is kept of the lines gives the command that one more makes
pub same_command : (d : ℕ) (before : List (Option Entry)) (entry : Entry) (leaf_for : List ℕ → Option ℕ)
    (marks : List Bool) (k : ℕ) → AreAccountsKept d before leaf_for marks → IsBelow (2 ^ d) entry →
    k ≡ length before + 1 →
    command_by leaf_for (mark_of marks) k (Some entry) ≡ command_after before (Some entry)
same_command d before (Assigns name u) leaf_for marks k kept low e = rw (kept.leaves name, kept.held u low, e) refl
same_command d before (Drops name) leaf_for marks k kept low e = rw (kept.leaves name, e) refl
same_command d before (Restores name) leaf_for marks k kept low e = rw (kept.leaves name, e) refl
same_command d before Ends leaf_for marks k kept low e = refl

-- a name that is assigned was free
pub name_free : (entry : Entry) (leaf_for : List ℕ → Option ℕ) (held : ℕ → Bool) (k : ℕ) (command : Command) →
    command_by leaf_for held k (Some entry) ≡ Ok command →
    (other : List ℕ) (u : ℕ) → entry ≡ Assigns other u → leaf_for other ≡ None
name_free entry leaf_for held k command e other u is = free (leaf_for other) (rw is at e)
  where
    free : (o : Option ℕ) → (if is_some o || held u then Err (Taken k) else Ok (Subscribe u)) ≡ Ok command → o ≡ None
    free None e = refl
    free (Some leaf) e = absurd cc

-- a command on the leaf of a name is of the tree
on_leaf_within : (d k : ℕ) (makes : ℕ → Command) (o : Option ℕ) (command : Command) →
    ((u : ℕ) → u < 2 ^ d → is_within d (makes u) ≡ true) → ((u : ℕ) → o ≡ Some u → u < 2 ^ d) →
    on_leaf k makes o ≡ Ok command → is_within d command ≡ true
on_leaf_within d k makes None command makes_within low e = absurd cc
on_leaf_within d k makes (Some u) command makes_within low e =
    let same : makes u ≡ command = cc in
    ap (is_within d) (sym same) ∙ makes_within u (low u refl)

-- and so is each command that a line makes
pub command_within : (d : ℕ) (before : List (Option Entry)) (entry : Entry) (leaf_for : List ℕ → Option ℕ)
    (marks : List Bool) (command : Command) → AreAccountsKept d before leaf_for marks → IsBelow (2 ^ d) entry →
    command_after before (Some entry) ≡ Ok command → is_within d command ≡ true
command_within d before (Assigns name u) leaf_for marks command kept low e =
    subscribed (is_some (leaf_of name before) || is_held u before) e
  where
    below : nat_lt u (2 ^ d) ≡ true
    below = lt-ltb u (2 ^ d) low

    subscribed : (b : Bool) → (if b then Err (Taken (length before + 1)) else Ok (Subscribe u)) ≡ Ok command →
        is_within d command ≡ true
    subscribed true e = absurd cc
    subscribed false e = let same : Subscribe u ≡ command = cc in ap (is_within d) (sym same) ∙ below
command_within d before (Drops name) leaf_for marks command kept low e =
    on_leaf_within d (length before + 1) Revoke (leaf_of name before) command
    (λ u h. lt-ltb u (2 ^ d) h) (kept.within name) e
command_within d before (Restores name) leaf_for marks command kept low e =
    on_leaf_within d (length before + 1) Subscribe (leaf_of name before) command
    (λ u h. lt-ltb u (2 ^ d) h) (kept.within name) e
command_within d before Ends leaf_for marks command kept low e =
    let same : Period ≡ command = cc in ap (is_within d) (sym same)

-- a line that makes no command
pub command_refused : (d : ℕ) (before : List (Option Entry)) (commands : List Command) (said : Option Entry)
    (fault : AccountFault) → command_after before said ≡ Err fault → judged_account_line d before commands said
    ≡ Err fault
command_refused d before commands said fault e = rw e refl

-- a command that breaks a limit
pub limit_refused : (d : ℕ) (before : List (Option Entry)) (commands : List Command) (said : Option Entry)
    (command : Command) (fault : BookFault) → command_after before said ≡ Ok command →
    command_fits d commands command ≡ Err fault → judged_account_line d before commands said ≡ Err (as_fault fault)
limit_refused d before commands said command fault e broken = rw (e, broken) refl

-- a line that is taken
pub line_taken : (d : ℕ) (before : List (Option Entry)) (commands : List Command) (said : Option Entry)
    (command : Command) → command_after before said ≡ Ok command →
    command_fits d commands command ≡ Ok command → judged_account_line d before commands said ≡ Ok command
line_taken d before commands said command e fits = rw (e, fits) refl

-- what is judged after a line that is taken
pub judged_taken : (d : ℕ) (before : List (Option Entry)) (commands : List Command) (said : Option Entry)
    (rest : List (Option Entry)) (command : Command) → judged_account_line d before commands said ≡ Ok command →
    account_commands d before commands (said ∷ rest) ≡ account_commands d (before ++ said ∷ [])
    (commands ++ command ∷ []) rest
judged_taken d before commands said rest command e = rw e refl

-- what is judged where a line is refused
pub judged_refused : (d : ℕ) (before : List (Option Entry)) (commands : List Command) (said : Option Entry)
    (rest : List (Option Entry)) (fault : AccountFault) → judged_account_line d before commands said ≡ Err fault →
    account_commands d before commands (said ∷ rest) ≡ Err fault
judged_refused d before commands said rest fault e = rw e refl
