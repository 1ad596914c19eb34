-- What a book allows after some commands, by what a draft of it answers.
use Rattle.std.proofs.Common.{◌≡◌, ℕ, Bool, true, false, nat_lt, length, List, [], ◌∷◌, ◌++◌, Option, Some, Result}
use Rattle.std.proofs.Common.{Ok, Err, refl, sym, ap, ◌∙◌}
use Rattle.std.specs.Prelude.{map, if◌then◌else◌}
use Rattle.sd_book.specs.declared.command.Command.{Command}
use Rattle.sd_book.specs.declared.fault.BookFault.{BookFault}
use Rattle.sd_book.specs.declared.fault.BookFault.TheVariants.{Limit, NoMemory}
use Rattle.sd_book.specs.declared.fault.BookLimit.{BookLimit}
use Rattle.sd_book.specs.declared.fault.BookLimit.TheVariants.{Revoked}
use Rattle.sd_tree_keys.specs.Limits.{most_revoked}
use Rattle.sd_book.specs.Commands.{is_within, last_period, revoked_after}
use Rattle.sd_book.specs.Faults.{BreaksLimit, IsBrokenLimit, IsBookFaultOf}
use Rattle.sd_book.specs.Limits.{IsDraft, IsWithinLimits}
use Rattle.sd_book.specs.Text.{command_fits, period_end_check}
use Rattle.sd_run_books.specs.Fault.{as_fault}
use Rattle.sd_run_books.specs.Judged.{allowed}
use Rattle.sd_book.proofs.Causes.{one_cause, command_broken, end_broken}
use Rattle.sd_book.proofs.Judged.{command_again, fits_same, judged_one_more, within_by_end, end_again}

-- a limit that is broken after commands is the fault of a file of them and what comes next
broken_cause : (d : ℕ) (before : List Command) (rest : List (Option Command)) (fault : BookFault) → IsDraft d before →
    IsBrokenLimit d before rest fault → IsBookFaultOf d (map Some before ++ rest) fault
broken_cause d before rest fault all broken =
    let why : (limit : BookLimit) (fault : BookFault) → fault ≡ Limit limit → BreaksLimit d before rest limit →
    IsBookFaultOf d (map Some before ++ rest) fault =
    λ limit fault is breaks. rw is (before, rest, refl, all, breaks) in
    why broken.0 fault broken.1 broken.2

-- one point has one broken limit
one_broken : (d : ℕ) (before : List Command) (rest : List (Option Command)) (a b : BookFault) → IsDraft d before →
    IsBrokenLimit d before rest a → IsBrokenLimit d before rest b → a ≡ b
one_broken d before rest a b all x y = one_cause d (map Some before ++ rest) a b
    (broken_cause d before rest a all x) (broken_cause d before rest b all y)

-- a command that a draft takes
pub taken_fits : (d : ℕ) (before : List Command) (command : Command) → IsDraft d (before ++ command ∷ []) →
    command_fits d before command ≡ Ok command
taken_fits d before command all = command_again d before command [] all

-- a command that it refuses, unless memory ran out
pub refused_fits : (d : ℕ) (before : List Command) (command : Command) (fault : BookFault) → IsDraft d before →
    is_within d command ≡ true → (fault ≡ NoMemory → ⊥) →
    (IsDraft d (before ++ command ∷ []) → fault ≡ NoMemory) → IsBrokenLimit d before (Some command ∷ []) fault →
    command_fits d before command ≡ Err fault
refused_fits d before command fault all leaf none complete broken = by (command_fits d before command) refl
  where
    by : (r : Result Command BookFault) → command_fits d before command ≡ r → r ≡ Err fault
    by (Ok got) e =
        let same : command ≡ got = fits_same d before command got e in
        absurd (none (complete (judged_one_more d before command all leaf (e ∙ ap Ok (sym same)))))
    by (Err other) e = ap Err (one_broken d before (Some command ∷ []) other fault all
        (command_broken d before command [] other all e) broken)

-- commands that may end as a book
pub book_ends : (d : ℕ) (commands : List Command) → IsWithinLimits d commands →
    allowed (period_end_check d commands commands) ≡ Ok commands
book_ends d commands all = ap allowed (end_again d commands all)

-- the end of commands, whatever it gives
pub end_by : {A B : Type 0} (d : ℕ) (commands : List Command) (x : A) (y : B) (fault : BookFault) →
    period_end_check d commands x ≡ Err fault → period_end_check d commands y ≡ Err fault
end_by d commands x y fault e = by_test (nat_lt most_revoked (length (revoked_after d commands))) refl e
  where
    by_test : (b : Bool) → nat_lt most_revoked (length (revoked_after d commands)) ≡ b →
        (if b then Err (Limit (Revoked (last_period commands))) else Ok x) ≡ Err fault →
        period_end_check d commands y ≡ Err fault
    by_test true is same = let why : Limit (Revoked (last_period commands)) ≡ fault = cc in rw (is, why) refl
    by_test false is same = absurd cc

-- commands that may not
pub book_ends_not : (d : ℕ) (commands : List Command) (fault : BookFault) → IsDraft d commands →
    (IsWithinLimits d commands → ⊥) → IsBrokenLimit d commands [] fault →
    allowed (period_end_check d commands commands) ≡ Err (as_fault fault)
book_ends_not d commands fault all none broken =
    ap allowed (end_by {A = Unit {0}} d commands tt commands fault (by (period_end_check {A = Unit {0}} d commands tt)
    refl))
  where
    by : (r : Result (Unit {0}) BookFault) → period_end_check {A = Unit {0}} d commands tt ≡ r → r ≡ Err fault
    by (Ok u) e = absurd (none (within_by_end d commands u all e))
    by (Err other) e = ap Err (one_broken d commands [] other fault all (end_broken d commands other e) broken)
