-- Words are refused by `Usage` or by `BadWord`.
use Rattle.std.proofs.Common.{◌≡◌, ℕ, zero, suc, ◌+◌, ◌==◌, ◌||◌, nat_lt, not, Bool, true, false, List, [], ◌∷◌, length}
use Rattle.std.proofs.Common.{Option, Some, None, Result, Ok, Err, IfErr, refl, sym, subst, inl, inr, if◌then◌else◌}
use Rattle.sd_base.specs.Number.{decimal_value}
use Rattle.sd_command_base.specs.declared.status.Status.{Status}
use Rattle.sd_command_base.specs.declared.status.Status.TheVariants.{Usage, BadWord}
use Rattle.sd_command_line.specs.declared.command.Command.{Command}
use Rattle.sd_command_line.specs.declared.operand.Operand.{Operand}
use Rattle.sd_command_line.specs.declared.operand.Kind.{Kind}
use Rattle.sd_command_line.specs.declared.operand.Kind.TheVariants as kind
use Rattle.sd_command_line.specs.declared.order.Order as declared
use Rattle.sd_command_line.specs.Commands.{command_named, operands_of}
use Rattle.sd_command_line.specs.Operands.{operand_kind}
use Rattle.sd_command_line.specs.Words.{Argument, Order, argument_of, arguments_from, at_most, before, nonzero_count}
use Rattle.sd_command_line.specs.Words.{help_on, help_words, is_help, is_version, named_words, number_of_word}
use Rattle.sd_command_line.specs.Words.{number_argument}
use Rattle.sd_command_line.specs.Words.{asks_help, order_after, order_of, ordered, out_is_taken, version_words}
use Rattle.sd_command_line.specs.Orders.{RefusesWords, shown_order}

abbrev IsWords : {A : Type 0} → Result A Status → Type 0
IsWords {A} read = IfErr read RefusesWords

within : (place n : ℕ) (p : Bool) → IsWords {A = ℕ} (if p then Err (BadWord place) else Ok n)
within place n true = inr (place, refl)
within place n false = tt

number_refused : (place most : ℕ) (found : Option ℕ) → IsWords (at_most place most found)
number_refused place most None = inr (place, refl)
number_refused place most (Some n) = within place n (nat_lt most n)

count_refused : (place : ℕ) (read : Result ℕ Status) → IsWords read → IsWords (nonzero_count place read)
count_refused place (Ok zero) h = inr (place, refl)
count_refused place (Ok (suc n)) h = tt
count_refused place (Err status) h = h

numbered_refused : (place : ℕ) (read : Result ℕ Status) → IsWords read → IsWords (number_argument place read)
numbered_refused place (Ok n) h = tt
numbered_refused place (Err status) h = h

argument_refused : (place : ℕ) (k : Kind) (text : List ℕ) → IsWords (argument_of place k text)
argument_refused place kind.Input text = tt
argument_refused place kind.Output text = tt
argument_refused place (kind.Number most) text =
    numbered_refused place (number_of_word place most text) (number_refused place most (decimal_value text))
argument_refused place (kind.Count most) text =
    numbered_refused place (nonzero_count place (number_of_word place most text))
    (count_refused place (number_of_word place most text) (number_refused place most (decimal_value text)))

before_refused : (first : Result Argument Status) (rest : Result (List Argument) Status) → IsWords first →
    IsWords rest → IsWords (before first rest)
before_refused (Err status) rest h k = h
before_refused (Ok argument) (Err status) h k = k
before_refused (Ok argument) (Ok arguments) h k = tt

arguments_refused : (place : ℕ) (operands : List Operand) (texts : List (List ℕ)) →
    IsWords (arguments_from place operands texts)
arguments_refused place [] texts = tt
arguments_refused place (operand ∷ operands) [] = tt
arguments_refused place (operand ∷ operands) (text ∷ texts) =
    before_refused (argument_of place (operand_kind operand) text) (arguments_from (place + 1) operands texts)
    (argument_refused place (operand_kind operand) text) (arguments_refused (place + 1) operands texts)

ordered_refused : (command : Command) (read : Result (List Argument) Status) → IsWords read →
    IsWords (ordered command read)
ordered_refused command (Ok arguments) h = tt
ordered_refused command (Err status) h = h

either : (p : Bool) (a b : Result Order Status) → IsWords a → IsWords b → IsWords (if p then a else b)
either true a b h k = h
either false a b h k = k

usage : IsWords {A = Order} (Err Usage)
usage = inl refl

command_refused : (command : Option Command) (texts : List (List ℕ)) → IsWords (order_after command texts)
command_refused None texts = usage
command_refused (Some command) texts =
    let operands = operands_of command in
    either (not (length texts == length operands) || out_is_taken command operands texts) (Err Usage)
    (ordered command (arguments_from 1 operands texts)) usage
    (ordered_refused command (arguments_from 1 operands texts) (arguments_refused 1 operands texts))

topic_refused : (topic : Option Command) → IsWords (help_on topic)
topic_refused None = usage
topic_refused (Some topic) = tt

help_refused : (texts : List (List ℕ)) → IsWords (help_words texts)
help_refused [] = tt
help_refused (name ∷ []) = topic_refused (command_named name)
help_refused (name ∷ word ∷ words) = usage

version_refused : (texts : List (List ℕ)) → IsWords (version_words texts)
version_refused [] = tt
version_refused (word ∷ words) = usage

words_refused : (words : List (List ℕ)) → IsWords (order_of words)
unfolding named_words
words_refused [] = usage
words_refused (name ∷ texts) =
    let after =
    if asks_help texts then help_on (command_named name) else order_after (command_named name) texts in
    either (is_help name) (help_words texts) (if is_version name then version_words texts else after)
    (help_refused texts)
    (either (is_version name) (version_words texts) after (version_refused texts)
    (either (asks_help texts) (help_on (command_named name)) (order_after (command_named name) texts)
    (topic_refused (command_named name)) (command_refused (command_named name) texts)))

said_refused : (read : Result declared.Order Status) → IsWords (shown_order read) → IsWords read
said_refused (Ok order) h = tt
said_refused (Err status) h = h

-- the refusal of an order that was read of words
pub read_refused : (read : Result declared.Order Status) (words : List (List ℕ)) → shown_order read ≡ order_of words →
    IfErr read RefusesWords
read_refused read words is =
    said_refused read (subst (λ (r : Result Order Status). IsWords r) (sym is) (words_refused words))
