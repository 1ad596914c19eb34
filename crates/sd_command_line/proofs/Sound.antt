-- An order that was read has the arguments of its command's row.
use Rattle.std.proofs.Common.{◌≡◌, ℕ, zero, suc, ◌+◌, ◌==◌, ◌||◌, not, Bool, true, false, List, [], ◌∷◌, length}
use Rattle.std.proofs.Common.{Option, Some, None, Result, Ok, Err, IfOk, refl, sym, subst, arith, inl, inr}
use Rattle.std.proofs.Common.{lt-ltb, le-ltb, if◌then◌else◌}
use Rattle.std.proofs.lemmas.Bool.{cases_lt}
use Rattle.sd_command_line.specs.declared.command.Command.{Command}
use Rattle.sd_command_line.specs.declared.operand.Operand.{Operand}
use Rattle.sd_command_line.specs.declared.operand.Kind.{Kind}
use Rattle.sd_command_line.specs.declared.operand.Kind.TheVariants as kind
use Rattle.sd_command_line.specs.Commands.{command_named, operands_of}
use Rattle.sd_command_line.specs.Operands.{operand_kind}
use Rattle.sd_base.specs.Number.{decimal_value}
use Rattle.sd_command_base.specs.declared.status.Status.{Status}
use Rattle.sd_command_base.specs.declared.status.Status.TheVariants.{Usage, BadWord}
use Rattle.sd_command_line.specs.declared.order.Order as declared
use Rattle.sd_command_line.specs.Words.{Argument, Order, argument_of, arguments_from, at_most, before, nonzero_count}
use Rattle.sd_command_line.specs.Words.{help_on, help_words, is_help, is_version, named_words, number_of_word}
use Rattle.sd_command_line.specs.Words.{number_argument}
use Rattle.sd_command_line.specs.Words.{asks_help, ordered}
use Rattle.sd_command_line.specs.Words.{order_after, order_of, out_is_taken, version_words}
use Rattle.sd_command_line.specs.Orders.{AreOf, IsArgumentOf, IsSoundOrder, order_said, shown_order}

-- a number that was read is within its limit
number_sound : (place most : ℕ) (found : Option ℕ) →
    IfOk (number_argument place (at_most place most found)) (IsArgumentOf place (kind.Number most))
number_sound place most None = tt
number_sound place most (Some n) =
    elim (cases_lt most n) [
      | inl lt ↦
          subst
          (λ (b : Bool). IfOk (number_argument place (if b then Err (BadWord place) else Ok n))
          (IsArgumentOf place (kind.Number most))) (sym (lt-ltb most n lt)) tt
      | inr le ↦
          subst
          (λ (b : Bool). IfOk (number_argument place (if b then Err (BadWord place) else Ok n))
          (IsArgumentOf place (kind.Number most))) (sym (le-ltb most n le)) (refl, le)
    ]

-- a count is not 0 either
count_sound : (place most : ℕ) (read : Result ℕ Status) → IfOk (number_argument place read)
    (IsArgumentOf place (kind.Number most)) →
    IfOk (number_argument place (nonzero_count place read)) (IsArgumentOf place (kind.Count most))
count_sound place most (Ok zero) h = tt
count_sound place most (Ok (suc n)) h = (h.0, (omega arith, h.1))
count_sound place most (Err status) h = tt

argument_sound : (place : ℕ) (k : Kind) (text : List ℕ) → IfOk (argument_of place k text) (IsArgumentOf place k)
argument_sound place kind.Input text = refl
argument_sound place kind.Output text = refl
argument_sound place (kind.Number most) text = number_sound place most (decimal_value text)
argument_sound place (kind.Count most) text =
    count_sound place most (number_of_word place most text) (number_sound place most (decimal_value text))

before_sound : (place : ℕ) (operand : Operand) (operands : List Operand) (first : Result Argument Status)
    (rest : Result (List Argument) Status) → IfOk first (IsArgumentOf place (operand_kind operand)) →
    IfOk rest (AreOf (place + 1) operands) → IfOk (before first rest) (AreOf place (operand ∷ operands))
before_sound place operand operands (Err status) rest a b = tt
before_sound place operand operands (Ok argument) (Err status) a b = tt
before_sound place operand operands (Ok argument) (Ok arguments) a b = (a, b)

arguments_sound : (place : ℕ) (operands : List Operand) (texts : List (List ℕ)) → length texts ≡ length operands →
    IfOk (arguments_from place operands texts) (AreOf place operands)
arguments_sound place [] texts h = tt
arguments_sound place (operand ∷ operands) [] h = absurd (omega (arith, h))
arguments_sound place (operand ∷ operands) (text ∷ texts) h =
    before_sound place operand operands (argument_of place (operand_kind operand) text)
    (arguments_from (place + 1) operands texts) (argument_sound place (operand_kind operand) text)
    (arguments_sound (place + 1) operands texts (omega (arith, h)))

ordered_sound : (command : Command) (read : Result (List Argument) Status) → IfOk read (AreOf 1 (operands_of command)) →
    IfOk (ordered command read) IsSoundOrder
ordered_sound command (Ok arguments) h = h
ordered_sound command (Err status) h = tt

unless : (p : Bool) (order : Result Order Status) → (p ≡ false → IfOk order IsSoundOrder) →
    IfOk (if p then Err Usage else order) IsSoundOrder
unless true order h = tt
unless false order h = h refl

either : (p : Bool) (a b : Result Order Status) → IfOk a IsSoundOrder → IfOk b IsSoundOrder →
    IfOk (if p then a else b) IsSoundOrder
either true a b h k = h
either false a b h k = k

as_many : (m n : ℕ) (p : Bool) → not (m == n) || p ≡ false → m ≡ n
as_many m n p h = grind (arith, h)

named_command_sound : (command : Option Command) (texts : List (List ℕ)) → IfOk (order_after command texts) IsSoundOrder
named_command_sound None texts = tt
named_command_sound (Some command) texts =
    let operands = operands_of command in
    unless (not (length texts == length operands) || out_is_taken command operands texts)
    (ordered command (arguments_from 1 operands texts))
    (λ h. ordered_sound command (arguments_from 1 operands texts)
    (arguments_sound 1 operands texts (as_many (length texts) (length operands) (out_is_taken command operands texts)
    h)))

topic_sound : (topic : Option Command) → IfOk (help_on topic) IsSoundOrder
topic_sound None = tt
topic_sound (Some topic) = tt

help_sound : (texts : List (List ℕ)) → IfOk (help_words texts) IsSoundOrder
help_sound [] = tt
help_sound (name ∷ []) = topic_sound (command_named name)
help_sound (name ∷ word ∷ words) = tt

version_sound : (texts : List (List ℕ)) → IfOk (version_words texts) IsSoundOrder
version_sound [] = tt
version_sound (word ∷ words) = tt

named_sound : (name : List ℕ) (texts : List (List ℕ)) → IfOk (named_words name texts) IsSoundOrder
unfolding named_words
named_sound name texts =
    let after =
    if asks_help texts then help_on (command_named name) else order_after (command_named name) texts in
    either (is_help name) (help_words texts) (if is_version name then version_words texts else after) (help_sound texts)
    (either (is_version name) (version_words texts) after (version_sound texts)
    (either (asks_help texts) (help_on (command_named name)) (order_after (command_named name) texts)
    (topic_sound (command_named name)) (named_command_sound (command_named name) texts)))

said_sound : (read : Result declared.Order Status) → IfOk (shown_order read) IsSoundOrder →
    IfOk read (λ order. IsSoundOrder (order_said order))
said_sound (Ok order) h = h
said_sound (Err status) h = tt

words_sound : (words : List (List ℕ)) → IfOk (order_of words) IsSoundOrder
words_sound [] = tt
words_sound (name ∷ texts) = named_sound name texts

-- so is one that was read of words
pub read_sound : (read : Result declared.Order Status) (words : List (List ℕ)) → shown_order read ≡ order_of words →
    IfOk read (λ order. IsSoundOrder (order_said order))
read_sound read words is =
    said_sound read (subst (λ (r : Result Order Status). IfOk r IsSoundOrder) (sym is) (words_sound words))
