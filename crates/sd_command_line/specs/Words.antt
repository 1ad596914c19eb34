-- Public meaning: what the words after the program's name say [this project, docs/FORMATS.md, Commands].
use Rattle.std.specs.Prelude.{ℕ, zero, suc, ◌+◌, ◌-◌, ◌==◌, nat_lt, not, List, [], ◌∷◌, ◌++◌, codes, length}
use Rattle.std.specs.Prelude.{slice_get}
use Rattle.std.specs.Prelude.{bytes_eq, ◌||◌}
use Rattle.std.specs.Prelude.{if◌then◌else◌, Option, Some, None, Bool, false, Result, Ok, Err}
use Rattle.std.specs.List.{list_any}
use Rattle.sd_base.specs.Number.{decimal_value}
use Rattle.sd_command_line.specs.declared.command.Command.{Command}
use Rattle.sd_command_line.specs.declared.command.Command.TheVariants as commands
use Rattle.sd_command_line.specs.declared.operand.Operand.{Operand}
use Rattle.sd_command_line.specs.declared.operand.Kind.{Kind}
use Rattle.sd_command_line.specs.declared.operand.Kind.TheVariants as kind
use Rattle.sd_command_line.specs.Commands.{command_named, operands_of, HoldsSecrets}
use Rattle.sd_command_line.specs.Operands.{is_file, is_output, operand_kind}
use Rattle.sd_command_base.specs.Spec.{FileArgument}
use Rattle.sd_command_base.specs.Made.{used_name}
use Rattle.sd_command_base.specs.Shown.{NumberArgument, word_at}
use Rattle.sd_command_base.specs.declared.status.Status.{Status}
use Rattle.sd_command_base.specs.declared.status.Status.TheVariants.{Usage, BadWord}

-- what an argument says: a file that is read, the file that is made, or a number
pub data Argument : Type 0 where
  InputOf : (word : FileArgument) → Argument
  OutOf : (word : FileArgument) → Argument
  NumberOf : (number : NumberArgument) → Argument

-- a command of the table with its arguments, or one of the two that the table doesn't have
pub data Order : Type 0 where
  CommandOf : (command : Command) (arguments : List Argument) → Order
  HelpOf : (topic : Option Command) → Order
  VersionOf : Order

-- the file that an argument names
abbrev pub named_file : ℕ → Option Argument → FileArgument
named_file place None = word_at place []
named_file place (Some (InputOf word)) = word
named_file place (Some (OutOf word)) = word
named_file place (Some (NumberOf number)) = word_at place []

-- the file of the argument at this place, counted from 1
abbrev pub file : ℕ → List Argument → FileArgument
file place arguments = named_file place (slice_get arguments (place - 1))

-- the number that an argument says
abbrev pub value_of : ℕ → Option Argument → NumberArgument
value_of place None = record { word = place; value = 0 }
value_of place (Some (InputOf word)) = record { word = place; value = 0 }
value_of place (Some (OutOf word)) = record { word = place; value = 0 }
value_of place (Some (NumberOf number)) = number

-- the number of the argument at this place, counted from 1
abbrev pub number : ℕ → List Argument → NumberArgument
number place arguments = value_of place (slice_get arguments (place - 1))

abbrev pub at_most : ℕ → ℕ → Option ℕ → Result ℕ Status
at_most word most None = Err (BadWord word)
at_most word most (Some n) = if nat_lt most n then Err (BadWord word) else Ok n

-- the number of a word, which must be a decimal and at most the greatest
abbrev pub number_of_word : ℕ → ℕ → List ℕ → Result ℕ Status
number_of_word word most text = at_most word most (decimal_value text)

-- 0 is no count
abbrev pub nonzero_count : ℕ → Result ℕ Status → Result ℕ Status
nonzero_count word (Ok zero) = Err (BadWord word)
nonzero_count word (Ok (suc n)) = Ok (suc n)
nonzero_count word (Err status) = Err status

-- the argument that is a number, if there is one
abbrev pub number_argument : ℕ → Result ℕ Status → Result Argument Status
number_argument place (Ok n) = Ok (NumberOf (record { word = place; value = n }))
number_argument place (Err status) = Err status

-- an argument by its kind
abbrev pub argument_of : ℕ → Kind → List ℕ → Result Argument Status
argument_of place kind.Input text = Ok (InputOf (word_at place text))
argument_of place kind.Output text = Ok (OutOf (word_at place text))
argument_of place (kind.Number most) text = number_argument place (number_of_word place most text)
argument_of place (kind.Count most) text = number_argument place (nonzero_count place (number_of_word place most text))

-- an argument before others; the first refusal counts
abbrev pub before : Result Argument Status → Result (List Argument) Status → Result (List Argument) Status
before (Err status) rest = Err status
before (Ok argument) (Err status) = Err status
before (Ok argument) (Ok arguments) = Ok (argument ∷ arguments)

-- the arguments from this place on
abbrev pub arguments_from : ℕ → List Operand → List (List ℕ) → Result (List Argument) Status
arguments_from place [] texts = Ok []
arguments_from place (operand ∷ operands) [] = Ok []
arguments_from place (operand ∷ operands) (text ∷ texts) =
    before (argument_of place (operand_kind operand) text) (arguments_from (place + 1) operands texts)

abbrev pub with_input_text : Kind → List ℕ → List (List ℕ) → List (List ℕ)
with_input_text kind.Input text texts = text ∷ texts
with_input_text kind.Output text texts = texts
with_input_text (kind.Number most) text texts = texts
with_input_text (kind.Count most) text texts = texts

-- the texts that name files to be read
abbrev pub input_texts : List Operand → List (List ℕ) → List (List ℕ)
input_texts [] texts = []
input_texts (operand ∷ operands) [] = []
input_texts (operand ∷ operands) (text ∷ texts) = with_input_text (operand_kind operand) text
    (input_texts operands texts)

abbrev pub or_output : Kind → List ℕ → Option (List ℕ) → Option (List ℕ)
or_output kind.Output text later = Some text
or_output kind.Input text later = later
or_output (kind.Number most) text later = later
or_output (kind.Count most) text later = later

-- the text that names the file to be made, if there is one
abbrev pub out_text : List Operand → List (List ℕ) → Option (List ℕ)
out_text [] texts = None
out_text (operand ∷ operands) [] = None
out_text (operand ∷ operands) (text ∷ texts) = or_output (operand_kind operand) text (out_text operands texts)

abbrev pub is_among : List (List ℕ) → Option (List ℕ) → Bool
is_among texts None = false
is_among texts (Some out) = list_any (λ text. bytes_eq text out) texts

-- OUT is one of the files that are read
abbrev pub out_is_read : List Operand → List (List ℕ) → Bool
out_is_read operands texts = is_among (input_texts operands texts) (out_text operands texts)

-- OUT has the name of the mark of SITE, which the command makes before OUT
abbrev pub out_is_mark : Command → List (List ℕ) → Bool
out_is_mark commands.Air (site ∷ book ∷ clear ∷ out ∷ []) = bytes_eq out (used_name site)
out_is_mark command texts = false

-- OUT is the mark, or one of the files that are read
abbrev pub out_is_taken : Command → List Operand → List (List ℕ) → Bool
out_is_taken command operands texts = out_is_mark command texts || out_is_read operands texts

abbrev pub ordered : Command → Result (List Argument) Status → Result Order Status
ordered command (Ok arguments) = Ok (CommandOf command arguments)
ordered command (Err status) = Err status

-- A command takes as many arguments as its row has, and OUT is neither one of its other files nor the mark. Then come
-- the numbers.
abbrev pub command_words : Command → List Operand → List (List ℕ) → Result Order Status
command_words command operands texts =
    if not (length texts == length operands) || out_is_taken command operands texts then Err Usage
    else ordered command (arguments_from 1 operands texts)

abbrev pub order_after : Option Command → List (List ℕ) → Result Order Status
order_after None texts = Err Usage
order_after (Some command) texts = command_words command (operands_of command) texts

-- `help`, `--help` and `-h` are one command
abbrev pub is_help : List ℕ → Bool
is_help name = bytes_eq name (codes "help") || (bytes_eq name (codes "--help") || bytes_eq name (codes "-h"))

-- `version` and `--version` are one command
abbrev pub is_version : List ℕ → Bool
is_version name = bytes_eq name (codes "version") || bytes_eq name (codes "--version")

-- help on a command, if it is one
abbrev pub help_on : Option Command → Result Order Status
help_on None = Err Usage
help_on (Some topic) = Ok (HelpOf (Some topic))

abbrev pub help_words : List (List ℕ) → Result Order Status
help_words [] = Ok (HelpOf None)
help_words (name ∷ []) = help_on (command_named name)
help_words (name ∷ word ∷ words) = Err Usage

abbrev pub version_words : List (List ℕ) → Result Order Status
version_words [] = Ok VersionOf
version_words (word ∷ words) = Err Usage

abbrev pub is_help_option : List ℕ → Bool
is_help_option word = bytes_eq word (codes "--help") || bytes_eq word (codes "-h")

-- the words after a name ask for help on it: there is one, `--help` or `-h`
abbrev pub asks_help : List (List ℕ) → Bool
asks_help [] = false
asks_help (word ∷ []) = is_help_option word
asks_help (word ∷ more ∷ words) = false

-- `COMMAND --help` and `COMMAND -h` are `help COMMAND`: a file of such a name is `./--help`
unfoldable pub named_words : List ℕ → List (List ℕ) → Result Order Status
named_words name texts =
    if is_help name then help_words texts
    else if is_version name then version_words texts
    else if asks_help texts then help_on (command_named name)
    else order_after (command_named name) texts

-- The first word is the name of a command, whose row says what the others are.
abbrev pub order_of : List (List ℕ) → Result Order Status
order_of [] = Err Usage
order_of (name ∷ texts) = named_words name texts

-- the command of the table that the first word names
abbrev pub command_in : List (List ℕ) → Option Command
command_in [] = None
command_in (name ∷ texts) = command_named name

-- the texts of the arguments that are files
abbrev pub file_texts : List Operand → List (List ℕ) → List (List ℕ)
file_texts [] texts = []
file_texts (operand ∷ operands) [] = []
file_texts (operand ∷ operands) (text ∷ texts) =
    (if is_file (operand_kind operand) then text ∷ [] else []) ++ file_texts operands texts

abbrev pub files_after : Option Command → List (List ℕ) → List (List ℕ)
files_after None texts = []
files_after (Some command) texts =
    if length texts == length (operands_of command) then file_texts (operands_of command) texts else []

-- the files that words name, also if one of their numbers or OUT is refused
abbrev pub files_named : List (List ℕ) → List (List ℕ)
files_named [] = []
files_named (name ∷ texts) = files_after (command_named name) texts

abbrev pub has_out : Option Command → Bool
has_out None = false
has_out (Some command) = list_any (λ operand. is_output (operand_kind operand)) (operands_of command)

-- the first word names a command that has OUT
abbrev pub names_out : List (List ℕ) → Bool
names_out words = has_out (command_in words)

-- words that were read so make a file that holds secrets
abbrev pub HoldsSecretsBy : Result Order Status → Type 0
HoldsSecretsBy (Ok (CommandOf command arguments)) = HoldsSecrets command
HoldsSecretsBy (Ok (HelpOf topic)) = ⊥
HoldsSecretsBy (Ok VersionOf) = ⊥
HoldsSecretsBy (Err status) = ⊥

-- the orders of the commands, by their names
abbrev pub AccountsOf : FileArgument → FileArgument → FileArgument → Order
AccountsOf site accounts out = CommandOf commands.Accounts (InputOf site ∷ InputOf accounts ∷ OutOf out ∷ [])

abbrev pub AirOf : FileArgument → FileArgument → FileArgument → FileArgument → Order
AirOf site book clear out = CommandOf commands.Air (InputOf site ∷ InputOf book ∷ InputOf clear ∷ OutOf out ∷ [])

abbrev pub ApartOf : FileArgument → FileArgument → FileArgument → FileArgument → Order
ApartOf site book other more =
    CommandOf commands.Apart (InputOf site ∷ InputOf book ∷ InputOf other ∷ InputOf more ∷ [])

abbrev pub BookOf : FileArgument → FileArgument → FileArgument → FileArgument → Order
BookOf site book more out = CommandOf commands.Book (InputOf site ∷ InputOf book ∷ InputOf more ∷ OutOf out ∷ [])

abbrev pub CardOf : FileArgument → NumberArgument → FileArgument → Order
CardOf site leaf out = CommandOf commands.Card (InputOf site ∷ NumberOf leaf ∷ OutOf out ∷ [])

abbrev pub CoverOf : FileArgument → FileArgument → Order
CoverOf site book = CommandOf commands.Cover (InputOf site ∷ InputOf book ∷ [])

abbrev pub FieldOf : FileArgument → FileArgument → FileArgument → Order
FieldOf site clear script = CommandOf commands.Field (InputOf site ∷ InputOf clear ∷ InputOf script ∷ [])

abbrev pub HeadOf : FileArgument → FileArgument → FileArgument → FileArgument → Order
HeadOf site book clear out = CommandOf commands.Head (InputOf site ∷ InputOf book ∷ InputOf clear ∷ OutOf out ∷ [])

abbrev pub LayeredOf : FileArgument → FileArgument → NumberArgument → Order
LayeredOf site book width = CommandOf commands.Layered (InputOf site ∷ InputOf book ∷ NumberOf width ∷ [])

abbrev pub LcardOf : FileArgument → NumberArgument → NumberArgument → FileArgument → Order
LcardOf site leaf width out = CommandOf commands.Lcard (InputOf site ∷ NumberOf leaf ∷ NumberOf width ∷ OutOf out ∷ [])

abbrev pub NextOf : FileArgument → FileArgument → NumberArgument → FileArgument → Order
NextOf site book words out =
    CommandOf commands.Next (InputOf site ∷ InputOf book ∷ NumberOf words ∷ OutOf out ∷ [])

abbrev pub OpensOf : FileArgument → FileArgument → FileArgument → Order
OpensOf site book leaves = CommandOf commands.Opens (InputOf site ∷ InputOf book ∷ InputOf leaves ∷ [])

abbrev pub PlanOf : FileArgument → FileArgument → NumberArgument → NumberArgument → Order
PlanOf site book packets pids =
    CommandOf commands.Plan (InputOf site ∷ InputOf book ∷ NumberOf packets ∷ NumberOf pids ∷ [])

abbrev pub ReceiveOf : FileArgument → FileArgument → FileArgument → Order
ReceiveOf card stream out = CommandOf commands.Receive (InputOf card ∷ InputOf stream ∷ OutOf out ∷ [])

abbrev pub SampleOf : ℕ → ℕ → FileArgument → Order
SampleOf value packets out =
    CommandOf commands.Sample
    (NumberOf (record { word = 1; value = value }) ∷ NumberOf (record { word = 2; value = packets }) ∷ OutOf out ∷ [])

abbrev pub MessagesOf : FileArgument → FileArgument → Order
MessagesOf site stream = CommandOf commands.Messages (InputOf site ∷ InputOf stream ∷ [])

abbrev pub ShowOf : FileArgument → Order
ShowOf card = CommandOf commands.Show (InputOf card ∷ [])

abbrev pub StatusOf : FileArgument → FileArgument → NumberArgument → Order
StatusOf site book leaf = CommandOf commands.Status (InputOf site ∷ InputOf book ∷ NumberOf leaf ∷ [])

abbrev pub TablesOf : FileArgument → Order
TablesOf stream = CommandOf commands.Tables (InputOf stream ∷ [])

abbrev pub TraceOf : FileArgument → FileArgument → FileArgument → Order
TraceOf site book leaves = CommandOf commands.Trace (InputOf site ∷ InputOf book ∷ InputOf leaves ∷ [])

abbrev pub TrialOf : FileArgument → FileArgument → FileArgument → Order
TrialOf site book clear = CommandOf commands.Trial (InputOf site ∷ InputOf book ∷ InputOf clear ∷ [])

abbrev pub TwinOf : FileArgument → NumberArgument → FileArgument → Order
TwinOf site words out = CommandOf commands.Twin (InputOf site ∷ NumberOf words ∷ OutOf out ∷ [])

abbrev pub WatchOf : FileArgument → FileArgument → FileArgument → Order
WatchOf card stream out = CommandOf commands.Watch (InputOf card ∷ InputOf stream ∷ OutOf out ∷ [])
