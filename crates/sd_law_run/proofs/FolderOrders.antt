-- The orders of `next` and `twin`.
use Rattle.std.proofs.Common.{arith, eqb-true, zero, suc, ◌≡◌, ◌≢◌, ℕ, ◌-◌, ◌^◌, ◌≤◌, ◌==◌, ◌||◌, not, Bool, true}
use Rattle.std.proofs.Common.{false, cond}
use Rattle.std.proofs.Common.{List, [], ◌∷◌, length, Option, Some, None, Result, Ok, Err, refl, ap, subst}
use Rattle.sd_base.specs.Types.{Bytes}
use Rattle.sd_command_base.specs.declared.status.Status.{Status}
use Rattle.sd_command_base.specs.declared.status.Status.TheVariants.{Usage}
use Rattle.sd_command_base.specs.Shown.{word_at}
use Rattle.sd_command_line.specs.declared.command.Command.{Command}
use Rattle.sd_command_line.specs.declared.command.Command.TheVariants.{Next, Twin, Watch}
use Rattle.sd_command_line.specs.Commands.{command_named, operands_of}
use Rattle.sd_command_line.specs.Words.{Argument, CommandOf, HelpOf, InputOf, NumberOf, Order, OutOf, VersionOf}
use Rattle.sd_command_line.specs.Words.{arguments_from, before, command_in, nonzero_count, help_on, help_words, is_help}
use Rattle.sd_command_line.specs.Words.{is_version, named_words, number, number_of_word, number_argument, order_after}
use Rattle.sd_command_line.specs.Words.{order_of}
use Rattle.sd_command_line.specs.Words.{asks_help, ordered, out_is_taken, version_words}
use Rattle.sd_law_chain.proofs.Found.{one_value, unmet}

-- a command makes sites or not
pub data Kind (command : Command) : Type 0 where
  is_next : command ≡ Next → Kind command
  is_twin : command ≡ Twin → Kind command
  is_other : command ≢ Next → command ≢ Twin → Kind command

pub kind_of : (command : Command) → Kind command
kind_of Next = is_next refl
kind_of Twin = is_twin refl
kind_of Watch = is_other (λ e. absurd cc) (λ e. absurd cc)
kind_of command = is_other (λ e. absurd cc) (λ e. absurd cc)

-- the arguments of an order
abbrev arguments_or : List Argument → Order → List Argument
arguments_or instead (CommandOf command arguments) = arguments
arguments_or instead (HelpOf topic) = instead
arguments_or instead VersionOf = instead

-- the command of an order
abbrev command_or : Command → Order → Command
command_or instead (CommandOf command arguments) = command
command_or instead (HelpOf topic) = instead
command_or instead VersionOf = instead

no_help : (topic : Option Command) (command : Command) (arguments : List Argument) →
    help_on topic ≡ Ok (CommandOf command arguments) → ⊥
no_help None command arguments e = cc
no_help (Some topic) command arguments e = absurd cc

ordered_so : (found command : Command) (said : Result (List Argument) Status) (arguments : List Argument) →
    ordered found said ≡ Ok (CommandOf command arguments) → found ≡ command
ordered_so found command (Err status) arguments e = absurd cc
ordered_so found command (Ok said) arguments e =
    ap (command_or found) (one_value (Ok (CommandOf found said)) (CommandOf found said) (CommandOf command arguments)
    refl e)

-- an order of a command comes from its name, and its arguments are those of its row
pub record IsRead (command : Command) (texts : List Bytes) (arguments : List Argument) : Type 0 where
  pub count : length texts ≡ length (operands_of command)
  pub read : arguments_from 1 (operands_of command) texts ≡ Ok arguments

ordered_read : (command : Command) (said : Result (List Argument) Status) (arguments : List Argument) →
    ordered command said ≡ Ok (CommandOf command arguments) → said ≡ Ok arguments
ordered_read command (Err status) arguments e = absurd cc
ordered_read command (Ok said) arguments e =
    ap (λ (o : Order). Ok (arguments_or said o))
    (one_value (Ok (CommandOf command said)) (CommandOf command said) (CommandOf command arguments) refl e)

as_many : (count read : Bool) → (not count || read) ≡ false → count ≡ true
as_many true read e = refl
as_many false read e = absurd cc

after_so : (found : Option Command) (command : Command) (texts : List Bytes) (arguments : List Argument) →
    order_after found texts ≡ Ok (CommandOf command arguments) → (found ≡ Some command) × IsRead command texts arguments
after_so None command texts arguments e = absurd cc
after_so (Some found) command texts arguments e =
    let operands = operands_of found in
    let taken = unmet (not (length texts == length operands) || out_is_taken found operands texts)
    (ordered found (arguments_from 1 operands texts)) (CommandOf command arguments) Usage e in
    let same = ordered_so found command (arguments_from 1 operands texts) arguments taken.1 in (
      ap Some same,
      record {
        count = subst (λ (c : Command). length texts ≡ length (operands_of c)) same
            (eqb-true _ _ (as_many (length texts == length operands) (out_is_taken found operands texts) taken.0));
        read = ordered_read command (arguments_from 1 (operands_of command) texts) arguments
            (subst (λ (c : Command).
            ordered c (arguments_from 1 (operands_of c) texts) ≡ Ok (CommandOf command arguments)) same taken.1);
      },
    )

help_so : (texts : List Bytes) (command : Command) (arguments : List Argument) →
    help_words texts ≡ Ok (CommandOf command arguments) → ⊥
help_so [] command arguments e = absurd cc
help_so (name ∷ []) command arguments e = no_help (command_named name) command arguments e
help_so (name ∷ word ∷ words) command arguments e = absurd cc

version_so : (texts : List Bytes) (command : Command) (arguments : List Argument) →
    version_words texts ≡ Ok (CommandOf command arguments) → ⊥
version_so [] command arguments e = absurd cc
version_so (word ∷ words) command arguments e = absurd cc

pub order_so : (words : List Bytes) (command : Command) (arguments : List Argument) →
    order_of words ≡ Ok (CommandOf command arguments) →
    (command_in words ≡ Some command) × ((texts : List Bytes) × IsRead command texts arguments)
unfolding named_words
order_so [] command arguments e = absurd cc
order_so (name ∷ texts) command arguments e = by_name (is_help name) (is_version name) (asks_help texts) e
  where
    by_name : (help version asks : Bool) →
        cond help (help_words texts)
        (cond version (version_words texts)
        (cond asks (help_on (command_named name)) (order_after (command_named name) texts)))
        ≡ Ok (CommandOf command arguments) →
        (command_named name ≡ Some command) × ((texts : List Bytes) × IsRead command texts arguments)
    by_name true version asks h = absurd (help_so texts command arguments h)
    by_name false true asks h = absurd (version_so texts command arguments h)
    by_name false false true h = absurd (no_help (command_named name) command arguments h)
    by_name false false false h =
        let read = after_so (command_named name) command texts arguments h in
        (read.0, (texts, read.1))

-- WORDS of `next` and of `twin`
pub next_counts : (texts : List Bytes) (arguments : List Argument) → IsRead Next texts arguments →
    1 ≤ (number 3 arguments).value
unfolding operands_of
next_counts [] arguments is = absurd (omega (arith, is.count))
next_counts (site ∷ []) arguments is = absurd (omega (arith, is.count))
next_counts (site ∷ book ∷ []) arguments is = absurd (omega (arith, is.count))
next_counts (site ∷ book ∷ words ∷ []) arguments is = absurd (omega (arith, is.count))
next_counts (site ∷ book ∷ words ∷ out ∷ []) arguments is = by_count (number_of_word 3 (2 ^ 32 - 1) words) is.read
  where
    by_count : (r : Result ℕ Status) →
        before (Ok (InputOf (word_at 1 site))) (before (Ok (InputOf (word_at 2 book)))
        (before (number_argument 3 (nonzero_count 3 r)) (before (Ok (OutOf (word_at 4 out))) (Ok [])))) ≡ Ok arguments →
        1 ≤ (number 3 arguments).value
    by_count (Ok zero) h = absurd cc
    by_count (Ok (suc n)) h =
        let same = one_value (Ok (InputOf (word_at 1 site) ∷ InputOf (word_at 2 book)
        ∷ NumberOf (record { word = 3; value = suc n }) ∷ OutOf (word_at 4 out) ∷ [])) _ arguments refl h in
        omega (arith, ap (λ (a : List Argument). (number 3 a).value) same)
    by_count (Err status) h = absurd cc
next_counts (site ∷ book ∷ words ∷ out ∷ more ∷ texts) arguments is = absurd (omega (arith, is.count))

pub twin_counts : (texts : List Bytes) (arguments : List Argument) → IsRead Twin texts arguments →
    1 ≤ (number 2 arguments).value
unfolding operands_of
twin_counts [] arguments is = absurd (omega (arith, is.count))
twin_counts (site ∷ []) arguments is = absurd (omega (arith, is.count))
twin_counts (site ∷ words ∷ []) arguments is = absurd (omega (arith, is.count))
twin_counts (site ∷ words ∷ out ∷ []) arguments is = by_count (number_of_word 2 (2 ^ 32 - 1) words) is.read
  where
    by_count : (r : Result ℕ Status) →
        before (Ok (InputOf (word_at 1 site))) (before (number_argument 2 (nonzero_count 2 r))
        (before (Ok (OutOf (word_at 3 out))) (Ok []))) ≡ Ok arguments → 1 ≤ (number 2 arguments).value
    by_count (Ok zero) h = absurd cc
    by_count (Ok (suc n)) h =
        let same = one_value (Ok (InputOf (word_at 1 site) ∷ NumberOf (record { word = 2; value = suc n })
        ∷ OutOf (word_at 3 out) ∷ [])) _ arguments refl h in
        omega (arith, ap (λ (a : List Argument). (number 2 a).value) same)
    by_count (Err status) h = absurd cc
twin_counts (site ∷ words ∷ out ∷ more ∷ texts) arguments is = absurd (omega (arith, is.count))
