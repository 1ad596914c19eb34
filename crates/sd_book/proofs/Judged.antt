use Rattle.std.proofs.Common.{arith, ◌≡◌, ℕ, ◌+◌, ◌<◌, ◌≤◌, Bool, true, false, cond, List, [], ◌∷◌, ◌++◌, length, map}
use Rattle.std.proofs.Common.{Option, Some, None, Result, Ok, Err, refl, sym, ap, subst, ◌∙◌, append_assoc, inl, inr}
use Rattle.std.proofs.Common.{nat_lt, nat_le}
use Rattle.std.specs.Prelude.{All}
use Rattle.std.proofs.lemmas.Grind.{common_steps}
use Rattle.std.proofs.lemmas.Bool.{cases_lt}
use Rattle.std.proofs.lemmas.List.{append-nil, length-append, drop_at}
use Rattle.std.proofs.lemmas.List.Elements.{All-push, All-nil, All-drop, All-head, All-same}
use Rattle.sd_base.specs.Lines.{lines_of}
use Rattle.sd_book.specs.declared.command.Command.{Command}
use Rattle.sd_book.specs.declared.command.Command.TheVariants.{Subscribe, Revoke, Period}
use Rattle.sd_book.specs.declared.fault.BookFault.{BookFault}
use Rattle.sd_book.specs.declared.fault.BookFault.TheVariants.{Limit}
use Rattle.sd_book.specs.declared.fault.BookLimit.TheVariants.{Lines, Periods, Revoked}
use Rattle.sd_tree_keys.specs.Limits.{most_revoked}
use Rattle.sd_book.specs.Commands.{is_within, is_period, last_period, revoked, revoked_after}
use Rattle.sd_book.specs.Limits.{IsWithinLimits, IsDraft, most_commands, most_periods}
use Rattle.sd_book.specs.Text.{SpellsBook, ◌>>=◌, in_tree, period_end_check, period_fits, command_fits}
use Rattle.sd_book.specs.Text.{judged_book_line, book_commands}
use Rattle.sd_book.specs.Text.{book_of}
use Rattle.sd_book.proofs.Tallies.{period_more, tally_of_none}
use Rattle.sd_book.proofs.Cuts.{period_none, period_period, period_append, until_after, until_period, until_end}

-- the value of a step that did not fail
pub bind_ok : {A B : Type 0} (r : Result A BookFault) (f : A → Result B BookFault) (y : B) → (r >>= f) ≡ Ok y →
    (x : A) × (r ≡ Ok x) × (f x ≡ Ok y)
bind_ok (Ok x) f y e = (x, refl, e)
bind_ok (Err d) f y e = absurd cc

-- a test that did not fail
pub guard_ok : {A : Type 0} (b : Bool) (d : BookFault) (r : Result A BookFault) (y : A) → cond b (Err d) r ≡ Ok y →
    (b ≡ false) × (r ≡ Ok y)
guard_ok true d r y e = absurd cc
guard_ok false d r y e = (refl, e)

-- what a command that fits says of what stands before it
record IsJudged (d : ℕ) (before : List Command) (command : Command) : Type 0 where
  leaf : is_within d command ≡ true
  lines : length before < most_commands
  periods : is_period command ≡ true → last_period before < most_periods
  few : is_period command ≡ true → length (revoked_after d before) ≤ most_revoked

-- the command of a line is of the tree
tree_ok : (d k : ℕ) (o : Option Command) (command : Command) → in_tree d k o ≡ Ok command → (o ≡ Some command)
    × (is_within d command ≡ true)
tree_ok d k None command e = absurd cc
tree_ok d k (Some c) command e = grind (arith, common_steps)

-- so is that of a line which may come
pub line_command : (d : ℕ) (before : List Command) (o : Option Command) (command : Command) →
    cond (nat_le most_commands (length before)) (Err (Limit Lines)) (in_tree d (length before + 1) o) ≡ Ok command →
    (o ≡ Some command) × (is_within d command ≡ true)
line_command d before o command e =
    let g = guard_ok (nat_le most_commands (length before)) (Limit Lines) (in_tree d (length before + 1) o) command e in
    tree_ok d (length before + 1) o command g.1

-- what the commands end with is few
pub ended_ok : {A : Type 0} (d : ℕ) (commands : List Command) (value got : A) → period_end_check d commands value
    ≡ Ok got →
    (length (revoked_after d commands) ≤ most_revoked) × (value ≡ got)
ended_ok d commands value got e =
    let g = guard_ok (nat_lt most_revoked (length (revoked_after d commands))) (Limit (Revoked (last_period commands)))
    (Ok value) got e in
    (grind (arith, common_steps, g.0), cc)

-- a Period was within the limits
fits_ok : (d : ℕ) (before : List Command) (command got : Command) → period_fits d before command ≡ Ok got →
    (command ≡ got) × (is_period command ≡ true → last_period before < most_periods)
    × (is_period command ≡ true → length (revoked_after d before) ≤ most_revoked)
fits_ok d before (Subscribe u) got e = (cc, λ h. absurd cc, λ h. absurd cc)
fits_ok d before (Revoke u) got e = (cc, λ h. absurd cc, λ h. absurd cc)
fits_ok d before Period got e =
    let g = guard_ok (nat_le most_periods (last_period before)) (Limit Periods) (period_end_check d before Period) got
    e in
    let few = ended_ok d before Period got g.1 in
    (few.1, λ h. grind (arith, common_steps, g.0), λ h. few.0)

-- what a command that fits says
pub command_ok : (d : ℕ) (before : List Command) (command got : Command) → command_fits d before command ≡ Ok got →
    (length before < most_commands) × (period_fits d before command ≡ Ok got)
command_ok d before command got e =
    let g = guard_ok (nat_le most_commands (length before)) (Limit Lines) (period_fits d before command) got e in
    (grind (arith, common_steps, g.0), g.1)

-- a command that fits is what is answered
pub fits_same : (d : ℕ) (before : List Command) (command got : Command) → command_fits d before command ≡ Ok got →
    command ≡ got
fits_same d before command got e = (fits_ok d before command got (command_ok d before command got e).1).0

-- and of the commands before it
newest_ok : (d : ℕ) (before : List Command) (command : Command) → is_within d command ≡ true →
    command_fits d before command ≡ Ok command → IsJudged d before command
newest_ok d before command leaf e =
    let parts = command_ok d before command command e in
    let fits = fits_ok d before command command parts.1 in
    record {
      leaf = leaf;
      lines = parts.0;
      periods = fits.1;
      few = fits.2;
    }

-- a command within the limits on lines and on periods fits
both_fit : (d : ℕ) (before : List Command) (command got : Command) → nat_le most_commands (length before) ≡ false →
    period_fits d before command ≡ Ok got → command_fits d before command ≡ Ok got
both_fit d before command got long fits = rw long fits

-- what a judged line says
line_ok : (d : ℕ) (before : List Command) (said : Option Command) (command : Command) → judged_book_line d before said
    ≡ Ok command
    → (said ≡ Some command) × (is_within d command ≡ true) × (command_fits d before command ≡ Ok command)
line_ok d before said command e =
    let g = guard_ok (nat_le most_commands (length before)) (Limit Lines)
    (in_tree d (length before + 1) said >>= λ c. period_fits d before c) command e in
    let t = bind_ok (in_tree d (length before + 1) said) (λ c. period_fits d before c) command g.1 in
    let form = tree_ok d (length before + 1) said t.0 t.1 in
    let fits = fits_ok d before t.0 command t.2 in
    let fitted : command_fits d before t.0 ≡ Ok command = both_fit d before t.0 command g.0 t.2 in
    subst (λ (c : Command). (said ≡ Some c) × (is_within d c ≡ true) × (command_fits d before c ≡ Ok command)) fits.0
    (form.0, form.1, fitted)

-- no command was judged
pub judged_none : (d : ℕ) → IsDraft d []
judged_none d = record {
  leaves = All-nil (λ command. is_within d command ≡ true);
  lines = omega arith;
  periods = omega (arith, period_none);
  revoked = λ q h. absurd (omega (arith, period_none));
}

-- a period that ended before the newest command, or by it
few_more : (d : ℕ) (before : List Command) (command : Command) → IsDraft d before → IsJudged d before command →
    (q : ℕ) → q < last_period (before ++ command ∷ []) → length (revoked d (before ++ command ∷ []) q) ≤ most_revoked
few_more d before (Subscribe u) all newest q h =
    let lt : q < last_period before = grind (arith, common_steps, period_more before (Subscribe u)) in
    rw (until_after q before (Subscribe u ∷ []) lt) (all.revoked q lt)
few_more d before (Revoke u) all newest q h =
    let lt : q < last_period before = grind (arith, common_steps, period_more before (Revoke u)) in
    rw (until_after q before (Revoke u ∷ []) lt) (all.revoked q lt)
few_more d before Period all newest q h =
    elim (cases_lt q (last_period before)) [
      | inl lt ↦ rw (until_after q before (Period ∷ []) lt) (all.revoked q lt)
      | inr le ↦
          let last : q ≡ last_period before = grind (arith, common_steps, period_more before Period) in
          rw (until_period q before [] last) (newest.few refl)
    ]

-- the newest period
periods_more : (d : ℕ) (before : List Command) (command : Command) → IsDraft d before → IsJudged d before command →
    last_period (before ++ command ∷ []) ≤ most_periods
periods_more d before (Subscribe u) all newest = grind (
  arith,
  common_steps,
  period_more before (Subscribe u),
  all.periods,
)
periods_more d before (Revoke u) all newest = grind (arith, common_steps, period_more before (Revoke u), all.periods)
periods_more d before Period all newest = grind (arith, common_steps, period_more before Period, newest.periods refl)

-- with a command that fits they are judged
pub judged_one_more : (d : ℕ) (before : List Command) (command : Command) → IsDraft d before → is_within d command
    ≡ true → command_fits d before command ≡ Ok command → IsDraft d (before ++ command ∷ [])
judged_one_more d before command all leaf e =
    let newest = newest_ok d before command leaf e in
    record {
      leaves = All-push (λ c. is_within d c ≡ true) before command all.leaves leaf;
      lines = omega (arith, length-append before (command ∷ []), newest.lines);
      periods = periods_more d before command all newest;
      revoked = few_more d before command all newest;
    }

-- with the command of a judged line they are judged
pub judged_more : (d : ℕ) (before : List Command) (said : Option Command) (command : Command) → IsDraft d before →
    judged_book_line d before said ≡ Ok command
    → IsDraft d (before ++ command ∷ [])
judged_more d before said command all e =
    let newest = line_ok d before said command e in
    judged_one_more d before command all newest.1 newest.2

-- judged commands that end with few revoked leaves are within the limits
pub within_at_end : (d : ℕ) (commands : List Command) → IsDraft d commands → length (revoked_after d commands)
    ≤ most_revoked → IsWithinLimits d commands
within_at_end d commands all few = record {
  leaves = all.leaves;
  lines = all.lines;
  periods = all.periods;
  revoked = λ q h. elim (cases_lt q (last_period commands)) [
    | inl lt ↦ all.revoked q lt
    | inr le ↦ rw (until_end q commands le) few
  ];
}

-- commands of a draft that may end are within the limits
pub within_by_end : (d : ℕ) (commands : List Command) (u : Unit {0}) → IsDraft d commands →
    period_end_check {A = Unit {0}} d commands tt ≡ Ok u → IsWithinLimits d commands
within_by_end d commands u all e = within_at_end d commands all (ended_ok d commands tt u e).0

-- no command is within the limits
pub none_within : (d : ℕ) → IsWithinLimits d []
none_within d = within_at_end d [] (judged_none d) (omega (arith, (tally_of_none d).revoked))

-- the first commands of a draft
draft_cut : (d : ℕ) (before : List Command) (command : Command) (more : List Command) →
    IsDraft d (before ++ command ∷ more) → is_within d command ≡ true
draft_cut d before command more all =
    let rest : All (λ c. is_within d c ≡ true) (command ∷ more) = All-same (λ c. is_within d c ≡ true) _ _
    (sym (drop_at before (command ∷ more) (length before) refl))
    (All-drop (λ c. is_within d c ≡ true) (length before) (before ++ command ∷ more) all.leaves) in
    All-head (λ c. is_within d c ≡ true) command more rest

-- a command of a draft may stand where it stands
fits_again : (d : ℕ) (before : List Command) (command : Command) (more : List Command) →
    IsDraft d (before ++ command ∷ more)
    → period_fits d before command ≡ Ok command
fits_again d before (Subscribe u) more all = refl
fits_again d before (Revoke u) more all = refl
fits_again d before Period more all =
    let number : last_period before + 1 ≤ last_period (before ++ Period ∷ more) = omega
    (arith, period_append before (Period ∷ more), period_period more) in
    let few : length (revoked_after d before) ≤ most_revoked = rw (until_period (last_period before) before more refl)
    at (all.revoked (last_period before) (omega arith)) in
    let fits : nat_le most_periods (last_period before) ≡ false = grind (arith, common_steps, all.periods) in
    let ends : nat_lt most_revoked (length (revoked_after d before)) ≡ false = grind (arith, common_steps) in
    rw fits (rw ends refl)

-- and breaks no limit
pub command_again : (d : ℕ) (before : List Command) (command : Command) (more : List Command) →
    IsDraft d (before ++ command ∷ more)
    → command_fits d before command ≡ Ok command
command_again d before command more all =
    let long : nat_le most_commands (length before) ≡ false = grind
    (arith, common_steps, all.lines, length-append before (command ∷ more)) in
    rw long (fits_again d before command more all)

-- the line of a command of a draft gives it
line_again : (d : ℕ) (before : List Command) (command : Command) (more : List Command) →
    IsDraft d (before ++ command ∷ more)
    → judged_book_line d before (Some command) ≡ Ok command
line_again d before command more all = rw (draft_cut d before command more all)
    (command_again d before command more all)

-- what is judged after the commands of a draft
pub draft_again : (d : ℕ) (before new : List Command) (rest : List (Option Command)) → IsDraft d (before ++ new)
    → book_commands d before (map Some new ++ rest) ≡ book_commands d (before ++ new) rest
draft_again d before [] rest all = ap (λ (cs : List Command). book_commands d cs rest) (sym (append-nil before))
draft_again d before (command ∷ new) rest all =
    let same : (before ++ command ∷ []) ++ new ≡ before ++ command ∷ new = append_assoc before (command ∷ []) new in
    let others : book_commands d (before ++ command ∷ []) (map Some new ++ rest) ≡ book_commands d
    ((before ++ command ∷ []) ++ new)
    rest = draft_again d (before ++ command ∷ []) new rest
    (subst (λ (cs : List Command). IsDraft d cs) (sym same) all) in
    rw (line_again d before command new all) (others ∙ ap (λ (cs : List Command). book_commands d cs rest) same)

-- commands that end within the limits
pub end_again : (d : ℕ) (commands : List Command) → IsWithinLimits d commands → period_end_check d commands commands
    ≡ Ok commands
end_again d commands all =
    let few : length (revoked_after d commands)
    ≤ most_revoked = rw (until_end (last_period commands) commands (omega arith)) at
    (all.revoked (last_period commands) (omega arith)) in
    let ends : nat_lt most_revoked (length (revoked_after d commands)) ≡ false = grind (arith, common_steps) in
    rw ends refl

-- commands within the limits are a draft
pub within_is_draft : (d : ℕ) (commands : List Command) → IsWithinLimits d commands → IsDraft d commands
within_is_draft d commands all = record {
  leaves = all.leaves;
  lines = all.lines;
  periods = all.periods;
  revoked = λ q h. all.revoked q (omega arith);
}

-- what says commands within the limits is judged to be these commands
pub said_again : (d : ℕ) (commands : List Command) → IsWithinLimits d commands → book_commands d [] (map Some commands)
    ≡ Ok commands
said_again d commands all =
    ap (book_commands d []) (sym (append-nil (map Some commands))) ∙
    draft_again d [] commands [] (within_is_draft d commands all) ∙ end_again d commands all

-- what spells commands within the limits is their book
pub book_again : (d : ℕ) (bytes : List ℕ) (commands : List Command) → SpellsBook (lines_of bytes) commands →
    IsWithinLimits d commands → book_of d bytes ≡ Ok commands
unfolding book_of
book_again d bytes commands spelled all = ap (book_commands d []) spelled ∙ said_again d commands all
