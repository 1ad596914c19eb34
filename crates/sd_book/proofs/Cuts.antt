use Rattle.std.proofs.Common.{arith, ◌≡◌, ℕ, zero, suc, ◌+◌, ◌-◌, ◌<◌, ◌≤◌, min, List, [], ◌∷◌, ◌++◌, true}
use Rattle.std.proofs.Common.{refl, ap, sym, ◌∙◌, inl, inr, take, drop}
use Rattle.std.specs.List.{All}
use Rattle.std.proofs.lemmas.Bool.{cases_lt}
use Rattle.std.proofs.lemmas.List.{take-append-drop}
use Rattle.std.proofs.lemmas.List.Elements.{All-nil, All-cons, All-head, All-tail}
use Rattle.std.proofs.lemmas.Grind.{common_steps}
use Rattle.sd_book.specs.declared.command.Command.{Command}
use Rattle.sd_book.specs.declared.command.Command.TheVariants.{Subscribe, Revoke, Period}
use Rattle.sd_book.specs.Commands.{is_within, last_period, commands_until, revoked, revoked_after}

-- a Subscribe begins no period
pub period_subscribe : (u : ℕ) (commands : List Command) → last_period (Subscribe u ∷ commands) ≡ last_period commands
period_subscribe u commands = grind (arith, common_steps)

-- nor does a Revoke
pub period_revoke : (u : ℕ) (commands : List Command) → last_period (Revoke u ∷ commands) ≡ last_period commands
period_revoke u commands = grind (arith, common_steps)

-- a Period begins one
pub period_period : (commands : List Command) → last_period (Period ∷ commands) ≡ last_period commands + 1
period_period commands = grind (arith, common_steps)

-- no command begins no period
pub period_none : last_period [] ≡ 0
period_none = grind (arith, common_steps)

-- the periods of two lists, one after the other
pub period_append : (commands more : List Command) → last_period (commands ++ more) ≡ last_period commands
    + last_period more
period_append [] more = omega (arith, period_none)
period_append (Subscribe u ∷ commands) more = omega (
  arith,
  period_append commands more,
  period_subscribe u commands,
  period_subscribe u (commands ++ more),
)
period_append (Revoke u ∷ commands) more = omega (
  arith,
  period_append commands more,
  period_revoke u commands,
  period_revoke u (commands ++ more),
)
period_append (Period ∷ commands) more = omega (
  arith,
  period_append commands more,
  period_period commands,
  period_period (commands ++ more),
)

-- what comes after the Period that ends a period doesn't decide it
pub until_after : (q : ℕ) (commands more : List Command) → q < last_period commands →
    commands_until q (commands ++ more) ≡ commands_until q commands
until_after q [] more h = absurd (omega (arith, period_none))
until_after zero (Subscribe u ∷ commands) more h = ap (λ (r : List Command). Subscribe u ∷ r)
    (until_after zero commands more (omega (arith, period_subscribe u commands)))
until_after zero (Revoke u ∷ commands) more h = ap (λ (r : List Command). Revoke u ∷ r)
    (until_after zero commands more (omega (arith, period_revoke u commands)))
until_after zero (Period ∷ commands) more h = refl
until_after (suc q) (Subscribe u ∷ commands) more h = ap (λ (r : List Command). Subscribe u ∷ r)
    (until_after (suc q) commands more (omega (arith, period_subscribe u commands)))
until_after (suc q) (Revoke u ∷ commands) more h = ap (λ (r : List Command). Revoke u ∷ r)
    (until_after (suc q) commands more (omega (arith, period_revoke u commands)))
until_after (suc q) (Period ∷ commands) more h = ap (λ (r : List Command). Period ∷ r)
    (until_after q commands more (omega (arith, period_period commands)))

-- the Period after these commands ends the period that they end in
pub until_period : (q : ℕ) (commands more : List Command) → q ≡ last_period commands →
    commands_until q (commands ++ Period ∷ more) ≡ commands
until_period zero [] more h = refl
until_period (suc q) [] more h = absurd (omega (arith, period_none))
until_period zero (Subscribe u ∷ commands) more h = ap (λ (r : List Command). Subscribe u ∷ r)
    (until_period zero commands more (omega (arith, period_subscribe u commands)))
until_period zero (Revoke u ∷ commands) more h = ap (λ (r : List Command). Revoke u ∷ r)
    (until_period zero commands more (omega (arith, period_revoke u commands)))
until_period zero (Period ∷ commands) more h = absurd (omega (arith, period_period commands))
until_period (suc q) (Subscribe u ∷ commands) more h = ap (λ (r : List Command). Subscribe u ∷ r)
    (until_period (suc q) commands more (omega (arith, period_subscribe u commands)))
until_period (suc q) (Revoke u ∷ commands) more h = ap (λ (r : List Command). Revoke u ∷ r)
    (until_period (suc q) commands more (omega (arith, period_revoke u commands)))
until_period (suc q) (Period ∷ commands) more h = ap (λ (r : List Command). Period ∷ r)
    (until_period q commands more (omega (arith, period_period commands)))

-- all commands decide the last period
pub until_end : (q : ℕ) (commands : List Command) → last_period commands ≤ q → commands_until q commands ≡ commands
until_end q [] h = refl
until_end zero (Subscribe u ∷ commands) h = ap (λ (r : List Command). Subscribe u ∷ r)
    (until_end zero commands (omega (arith, period_subscribe u commands)))
until_end zero (Revoke u ∷ commands) h = ap (λ (r : List Command). Revoke u ∷ r)
    (until_end zero commands (omega (arith, period_revoke u commands)))
until_end zero (Period ∷ commands) h = absurd (omega (arith, period_period commands))
until_end (suc q) (Subscribe u ∷ commands) h = ap (λ (r : List Command). Subscribe u ∷ r)
    (until_end (suc q) commands (omega (arith, period_subscribe u commands)))
until_end (suc q) (Revoke u ∷ commands) h = ap (λ (r : List Command). Revoke u ∷ r)
    (until_end (suc q) commands (omega (arith, period_revoke u commands)))
until_end (suc q) (Period ∷ commands) h = ap (λ (r : List Command). Period ∷ r)
    (until_end q commands (omega (arith, period_period commands)))

-- a period above the last one has the revoked leaves of the last one
pub revoked_past : (d q : ℕ) (commands : List Command) → last_period commands ≤ q →
    revoked d commands q ≡ revoked d commands (last_period commands)
revoked_past d q commands past = ap (revoked_after d)
    (until_end q commands past ∙ sym (until_end (last_period commands) commands (omega arith)))

-- a prefix has no more periods
pub period_prefix : (i : ℕ) (commands : List Command) → last_period (take i commands) ≤ last_period commands
period_prefix i commands = omega (
  arith,
  period_append (take i commands) (drop i commands),
  ap last_period (take-append-drop i commands),
)

-- the commands that decide period q have at most q Periods
pub periods_until : (q : ℕ) (commands : List Command) → last_period (commands_until q commands) ≤ q
periods_until q [] = omega (arith, period_none)
periods_until zero (Subscribe u ∷ commands) = omega (
  arith,
  period_subscribe u (commands_until zero commands),
  periods_until zero commands,
)
periods_until zero (Revoke u ∷ commands) = omega (
  arith,
  period_revoke u (commands_until zero commands),
  periods_until zero commands,
)
periods_until zero (Period ∷ commands) = omega (arith, period_none)
periods_until (suc q) (Subscribe u ∷ commands) = omega (
  arith,
  period_subscribe u (commands_until (suc q) commands),
  periods_until (suc q) commands,
)
periods_until (suc q) (Revoke u ∷ commands) = omega (
  arith,
  period_revoke u (commands_until (suc q) commands),
  periods_until (suc q) commands,
)
periods_until (suc q) (Period ∷ commands) = omega (
  arith,
  period_period (commands_until q commands),
  periods_until q
      commands,
)

-- what holds of all commands holds of those that decide a period
all_until : (P : Command → Type 0) (q : ℕ) (commands : List Command) → All P commands →
    All P (commands_until q commands)
all_until P q [] h = h
all_until P zero (Subscribe u ∷ commands) h = All-cons P _ _ (All-head P _ _ h)
    (all_until P zero commands (All-tail P _ _ h))
all_until P zero (Revoke u ∷ commands) h = All-cons P _ _ (All-head P _ _ h)
    (all_until P zero commands (All-tail P _ _ h))
all_until P zero (Period ∷ commands) h = All-nil P
all_until P (suc q) (Subscribe u ∷ commands) h = All-cons P _ _ (All-head P _ _ h)
    (all_until P (suc q) commands (All-tail P _ _ h))
all_until P (suc q) (Revoke u ∷ commands) h = All-cons P _ _ (All-head P _ _ h)
    (all_until P (suc q) commands (All-tail P _ _ h))
all_until P (suc q) (Period ∷ commands) h = All-cons P _ _ (All-head P _ _ h)
    (all_until P q commands (All-tail P _ _ h))

-- the commands that decide a period are of the tree
pub within_until : (d q : ℕ) (commands : List Command) → All (λ command. is_within d command ≡ true) commands →
    All (λ command. is_within d command ≡ true) (commands_until q commands)
within_until d q commands h = all_until (λ command. is_within d command ≡ true) q commands h

-- a period after the last one of a book has the revoked leaves of that
pub same_revoked : (d first before : ℕ) (commands : List Command) → before ≤ last_period commands - first →
    revoked d commands (min first (last_period commands) + before) ≡ revoked d commands (first + before)
same_revoked d first before commands within =
    elim (cases_lt (last_period commands) first) [
      | inl past ↦
          let low : min first (last_period commands) + before ≡ last_period commands = omega (arith, past, within) in
          let high : last_period commands ≤ first + before = omega (arith, past) in
          ap (revoked d commands) low ∙ sym (revoked_past d (first + before) commands high)
      | inr le ↦
          let same : min first (last_period commands) + before ≡ first + before = omega (arith, le) in
          ap (revoked d commands) same
    ]
