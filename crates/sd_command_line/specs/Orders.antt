-- Public meaning: what an order that was read is, and when its words are refused.
use Rattle.std.specs.Prelude.{◌≡◌, ◌+◌, ◌≤◌, ◌⊎◌, ℕ, List, [], ◌∷◌, Result, Ok, Err}
use Rattle.sd_command_line.specs.declared.operand.Operand.{Operand}
use Rattle.sd_command_line.specs.declared.operand.Kind.{Kind}
use Rattle.sd_command_line.specs.declared.operand.Kind.TheVariants as kind
use Rattle.sd_command_line.specs.Commands.{operands_of}
use Rattle.sd_command_line.specs.Operands.{operand_kind}
use Rattle.sd_command_base.specs.declared.status.Status.{Status}
use Rattle.sd_command_base.specs.declared.status.Status.TheVariants.{Usage, BadWord}
use Rattle.sd_command_base.specs.Shown.{word_at}
use Rattle.sd_command_line.specs.declared.argument.Argument.{Argument}
use Rattle.sd_command_line.specs.declared.argument.Argument.TheVariants.{Input, Output, Number}
use Rattle.sd_command_line.specs.declared.argument.Arguments.{Arguments}
use Rattle.sd_command_line.specs.declared.order.Order.{Order}
use Rattle.sd_command_line.specs.declared.order.Order.TheVariants.{Command, Help, Version}
use Rattle.sd_command_line.specs.Words as words

-- an argument at its place
abbrev pub argument_said : ℕ → Argument → words.Argument
argument_said place (Input text) = words.InputOf (word_at place text.now)
argument_said place (Output text) = words.OutOf (word_at place text.now)
argument_said place (Number value) = words.NumberOf (record { word = place; value = value })

-- arguments from a place on
abbrev pub arguments_said : ℕ → List Argument → List words.Argument
arguments_said place [] = []
arguments_said place (argument ∷ arguments) = argument_said place argument ∷ arguments_said (place + 1) arguments

abbrev pub one_said : ℕ → Result Argument Status → Result words.Argument Status
one_said place (Ok argument) = Ok (argument_said place argument)
one_said place (Err status) = Err status

abbrev pub all_said : Result Arguments Status → Result (List words.Argument) Status
all_said (Ok arguments) = Ok (arguments_said 1 arguments.list.items)
all_said (Err status) = Err status

-- the order as the words say it
abbrev pub order_said : Order → words.Order
order_said (Command command arguments) = words.CommandOf command (arguments_said 1 arguments.list.items)
order_said (Help topic) = words.HelpOf topic
order_said Version = words.VersionOf

abbrev pub shown_order : Result Order Status → Result words.Order Status
shown_order (Ok order) = Ok (order_said order)
shown_order (Err status) = Err status

-- an argument is of its kind, has its place as its number, and a number is within its limit
abbrev pub IsArgumentOf : ℕ → Kind → words.Argument → Type 0
IsArgumentOf place kind.Input (words.InputOf word) = word.number ≡ place
IsArgumentOf place kind.Input (words.OutOf word) = ⊥
IsArgumentOf place kind.Input (words.NumberOf number) = ⊥
IsArgumentOf place kind.Output (words.InputOf word) = ⊥
IsArgumentOf place kind.Output (words.OutOf word) = word.number ≡ place
IsArgumentOf place kind.Output (words.NumberOf number) = ⊥
IsArgumentOf place (kind.Number most) (words.InputOf word) = ⊥
IsArgumentOf place (kind.Number most) (words.OutOf word) = ⊥
IsArgumentOf place (kind.Number most) (words.NumberOf number) = (number.word ≡ place) × (number.value ≤ most)
IsArgumentOf place (kind.Count most) (words.InputOf word) = ⊥
IsArgumentOf place (kind.Count most) (words.OutOf word) = ⊥
IsArgumentOf place (kind.Count most) (words.NumberOf number) =
    (number.word ≡ place) × ((1 ≤ number.value) × (number.value ≤ most))

-- arguments are those of a row, from a place on
abbrev pub AreOf : ℕ → List Operand → List words.Argument → Type 0
AreOf place [] [] = Unit {0}
AreOf place [] (argument ∷ arguments) = ⊥
AreOf place (operand ∷ operands) [] = ⊥
AreOf place (operand ∷ operands) (argument ∷ arguments) =
    IsArgumentOf place (operand_kind operand) argument × AreOf (place + 1) operands arguments

-- The arguments are those of the command's row: each file has a number of its own, each number is within its limit.
abbrev pub IsSoundOrder : words.Order → Type 0
IsSoundOrder (words.CommandOf command arguments) = AreOf 1 (operands_of command) arguments
IsSoundOrder (words.HelpOf topic) = Unit {0}
IsSoundOrder words.VersionOf = Unit {0}

-- the two refusals of words
abbrev pub RefusesWords : Status → Type 0
RefusesWords status = (status ≡ Usage) ⊎ ((word : ℕ) × (status ≡ BadWord word))
