-- Commands that are appended, and the periods of a book.
use Rattle.std.proofs.Common.{arith, ◌≡◌, ℕ, zero, suc, ◌-◌, ◌≤◌, List, [], ◌∷◌, ◌++◌, refl, ap, ◌∙◌}
use Rattle.sd_book.specs.declared.command.Command.{Command}
use Rattle.sd_book.specs.declared.command.Command.TheVariants.{Subscribe, Revoke, Period}
use Rattle.sd_book.specs.Commands.{last_period, commands_until}
use Rattle.sd_book.proofs.Cuts.{period_none, period_period, period_revoke, period_subscribe}

-- a command before two lists that are equal
onto : (command : Command) (before more : List Command) (p q : ℕ) (got : List Command) → p ≡ q →
    got ≡ before ++ commands_until p more → command ∷ got ≡ command ∷ (before ++ commands_until q more)
onto command before more p q got same h =
    ap (λ (r : List Command). command ∷ r) (h ∙ ap (λ (k : ℕ). before ++ commands_until k more) same)

-- what decides a period behind the last one of a book, if more is appended: the book, and what is appended up to the
-- period's end
pub until_more : (q : ℕ) (commands more : List Command) → last_period commands ≤ q →
    commands_until q (commands ++ more) ≡ commands ++ commands_until (q - last_period commands) more
until_more q [] more h =
    let same : q ≡ q - last_period [] = omega (arith, period_none) in
    ap (λ (k : ℕ). commands_until k more) same
until_more zero (Subscribe u ∷ commands) more h =
    onto (Subscribe u) commands more (0 - last_period commands) (0 - last_period (Subscribe u ∷ commands))
    (commands_until zero (commands ++ more)) (omega arith)
    (until_more zero commands more (omega (arith, h, period_subscribe u commands)))
until_more zero (Revoke u ∷ commands) more h =
    onto (Revoke u) commands more (0 - last_period commands) (0 - last_period (Revoke u ∷ commands))
    (commands_until zero (commands ++ more)) (omega arith)
    (until_more zero commands more (omega (arith, h, period_revoke u commands)))
until_more zero (Period ∷ commands) more h = absurd (omega (arith, h, period_period commands))
until_more (suc q) (Subscribe u ∷ commands) more h =
    onto (Subscribe u) commands more (suc q - last_period commands) (suc q - last_period (Subscribe u ∷ commands))
    (commands_until (suc q) (commands ++ more)) (omega (arith, period_subscribe u commands))
    (until_more (suc q) commands more (omega (arith, h, period_subscribe u commands)))
until_more (suc q) (Revoke u ∷ commands) more h =
    onto (Revoke u) commands more (suc q - last_period commands) (suc q - last_period (Revoke u ∷ commands))
    (commands_until (suc q) (commands ++ more)) (omega (arith, period_revoke u commands))
    (until_more (suc q) commands more (omega (arith, h, period_revoke u commands)))
until_more (suc q) (Period ∷ commands) more h =
    onto Period commands more (q - last_period commands) (suc q - last_period (Period ∷ commands))
    (commands_until q (commands ++ more)) (omega (arith, period_period commands))
    (until_more q commands more (omega (arith, h, period_period commands)))

-- some list is the first with something behind it
abbrev pub Begins : List Command → List Command → Type 0
Begins first all = (rest : List Command) × (all ≡ first ++ rest)

begins_too : (command : Command) (first all : List Command) → Begins first all →
    Begins (command ∷ first) (command ∷ all)
begins_too command first all (rest, is) = (rest, ap (λ (r : List Command). command ∷ r) is)

-- what decides a period of a book begins what decides the same period or a later one of a longer book
pub until_grows : (p q : ℕ) (commands more : List Command) → p ≤ q →
    Begins (commands_until p commands) (commands_until q (commands ++ more))
until_grows p q [] more low = (commands_until q more, refl)
until_grows zero zero (Subscribe u ∷ commands) more low =
    begins_too (Subscribe u) (commands_until 0 commands) (commands_until 0 (commands ++ more))
    (until_grows 0 0 commands more low)
until_grows zero (suc q) (Subscribe u ∷ commands) more low =
    begins_too (Subscribe u) (commands_until 0 commands) (commands_until (suc q) (commands ++ more))
    (until_grows 0 (suc q) commands more low)
until_grows (suc p) zero (Subscribe u ∷ commands) more low = absurd (omega (arith, low))
until_grows (suc p) (suc q) (Subscribe u ∷ commands) more low =
    begins_too (Subscribe u) (commands_until (suc p) commands) (commands_until (suc q) (commands ++ more))
    (until_grows (suc p) (suc q) commands more low)
until_grows zero zero (Revoke u ∷ commands) more low =
    begins_too (Revoke u) (commands_until 0 commands) (commands_until 0 (commands ++ more))
    (until_grows 0 0 commands more low)
until_grows zero (suc q) (Revoke u ∷ commands) more low =
    begins_too (Revoke u) (commands_until 0 commands) (commands_until (suc q) (commands ++ more))
    (until_grows 0 (suc q) commands more low)
until_grows (suc p) zero (Revoke u ∷ commands) more low = absurd (omega (arith, low))
until_grows (suc p) (suc q) (Revoke u ∷ commands) more low =
    begins_too (Revoke u) (commands_until (suc p) commands) (commands_until (suc q) (commands ++ more))
    (until_grows (suc p) (suc q) commands more low)
until_grows zero q (Period ∷ commands) more low = (commands_until q (Period ∷ (commands ++ more)), refl)
until_grows (suc p) zero (Period ∷ commands) more low = absurd (omega (arith, low))
until_grows (suc p) (suc q) (Period ∷ commands) more low =
    begins_too Period (commands_until p commands) (commands_until q (commands ++ more))
    (until_grows p q commands more (omega (arith, low)))

-- and it begins the book
pub until_begins : (q : ℕ) (commands : List Command) → Begins (commands_until q commands) commands
until_begins q [] = ([], refl)
until_begins zero (Subscribe u ∷ commands) =
    begins_too (Subscribe u) (commands_until 0 commands) commands (until_begins 0 commands)
until_begins (suc q) (Subscribe u ∷ commands) =
    begins_too (Subscribe u) (commands_until (suc q) commands) commands (until_begins (suc q) commands)
until_begins zero (Revoke u ∷ commands) =
    begins_too (Revoke u) (commands_until 0 commands) commands (until_begins 0 commands)
until_begins (suc q) (Revoke u ∷ commands) =
    begins_too (Revoke u) (commands_until (suc q) commands) commands (until_begins (suc q) commands)
until_begins zero (Period ∷ commands) = (Period ∷ commands, refl)
until_begins (suc q) (Period ∷ commands) =
    begins_too Period (commands_until q commands) commands (until_begins q commands)
