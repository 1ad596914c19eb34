-- Public meaning: what a refusal is to a user, on the standard error [this project, docs/FORMATS.md, Explanations].
use Rattle.std.specs.Prelude.{ℕ, List, [], ◌∷◌, ◌++◌, codes, length, slice_get, Option, Some, None, zero, suc}
use Rattle.std.specs.Prelude.{Bool, if◌then◌else◌, bytes_eq, ◌==◌, ◌||◌, ◌&&◌}
use Rattle.sd_command_line.specs.declared.command.Command.{Command}
use Rattle.sd_command_line.specs.declared.operand.Operand.{Operand}
use Rattle.sd_command_line.specs.Commands.{command_named, operands_of}
use Rattle.sd_command_base.specs.Escaped.{escaped}
use Rattle.sd_command_base.specs.declared.trouble.Trouble.{Trouble}
use Rattle.sd_command_base.specs.declared.status.Clash.{Clash as ClashKind}
use Rattle.sd_command_base.specs.declared.status.Clash.TheVariants.{Heights, Masters, NoWords, SharedWord, Books}
use Rattle.sd_command_line.specs.declared.command.Command.TheVariants.{Field, Tables}
use Rattle.sd_command_line.specs.Operands.{is_file, operand_kind, operand_name}
use Rattle.sd_command_base.specs.declared.status.Status.{Status}
use Rattle.sd_command_base.specs.declared.status.Status.TheVariants.{Usage, Missing, BadSite, BadBook, BadCard}
use Rattle.sd_command_base.specs.declared.status.Status.TheVariants.{BadWord, BadOut, OtherBook, SiteUsed}
use Rattle.sd_command_base.specs.declared.status.Status.TheVariants.{DepotFault, Revoked, BadClear, BadStream, Limit}
use Rattle.sd_command_base.specs.declared.status.Status.TheVariants.{Unheard, Unclosed, Gaps, NoCat, Clash, SiteUsedUp}
use Rattle.sd_command_line.specs.declared.found.Argument.{Argument}
use Rattle.sd_command_line.specs.Words.{command_in, is_help, is_version, out_is_mark}
use Rattle.sd_command_line.specs.Reasons.{card_reason, clash_reason, clear_reason, gaps_reason, limit_reason}
use Rattle.sd_command_line.specs.Reasons.{line_reason, mark_reason, miscounted_reason, missing_reason, no_cat_reason}
use Rattle.sd_command_line.specs.Reasons.{no_page_reason, out_reason, output_reason, own_book_reason, range_reason}
use Rattle.sd_command_line.specs.Reasons.{revoked_reason, site_reason, stream_reason, trouble_reason, unclosed_reason}
use Rattle.sd_command_line.specs.Reasons.{unheard_reason, unknown_reason, used_reason, used_up_reason}

-- what an argument is, and its text
abbrev pub shown_argument : Argument → Operand × List ℕ
shown_argument argument = (argument.operand, argument.text.now)

-- both, where both are there
abbrev pub both : Option Operand → Option (List ℕ) → Option (Operand × List ℕ)
both (Some operand) (Some text) = Some (operand, text)
both (Some operand) None = None
both None text = None

-- the argument of this number of the words after a command's name, numbered from 0
abbrev pub argument_at : Option Command → List (List ℕ) → ℕ → Option (Operand × List ℕ)
argument_at None texts place = None
argument_at (Some command) texts place = both (slice_get (operands_of command) place) (slice_get texts place)

-- the argument of this number, numbered from 1, where the first word is a command that takes as many
abbrev pub argument_numbered : List (List ℕ) → ℕ → Option (Operand × List ℕ)
argument_numbered words zero = None
argument_numbered [] (suc place) = None
argument_numbered (command ∷ texts) (suc place) = argument_at (command_named command) texts place

-- the line of an argument: its name, its text and why it is refused
unfoldable pub argument_line : List ℕ → Operand × List ℕ → List ℕ
argument_line reason (operand, text) =
    codes "sdca: " ++ (operand_name operand ++ (codes " " ++ (escaped text ++ (codes ": " ++ (reason ++ codes "\n")))))

-- the line of the argument that was found, or none
abbrev pub explained_line : Option (Operand × List ℕ) → (Operand → List ℕ) → List ℕ
explained_line None reason = []
explained_line (Some argument) reason = argument_line (reason argument.0) argument

-- the line of the argument of this number
abbrev pub of_argument : List (List ℕ) → ℕ → (Operand → List ℕ) → List ℕ
of_argument words number reason = explained_line (argument_numbered words number) reason

-- the line of a word that is refused, which leads to the list of commands
unfoldable pub word_explained : List ℕ → List ℕ → List ℕ
word_explained reason word = codes "sdca: " ++ (escaped word ++ (codes ": " ++ (reason ++ codes "; see sdca help\n")))

-- the line of a command with a wrong number of arguments, which leads to the command's page
unfoldable pub count_line : List ℕ → List ℕ
count_line name =
    codes "sdca: " ++ (name ++ (codes ": wrong number of arguments; see sdca help " ++ (name ++ codes "\n")))

-- why OUT is refused: it is the mark of SITE, or one of the inputs
abbrev pub taken_reason : Command → List (List ℕ) → List ℕ
taken_reason command texts = if out_is_mark command texts then mark_reason else output_reason

-- the line of words that begin with a command's name: OUT, the last of its arguments, is taken, or the command takes
-- another number of them
abbrev pub command_explained : List (List ℕ) → List ℕ → List (List ℕ) → Option Command → List ℕ
command_explained words name texts None = word_explained unknown_reason name
command_explained words name texts (Some command) =
    if length texts == length (operands_of command) then
    of_argument words (length texts) (λ operand. taken_reason command texts)
    else count_line name

-- the line of a word after help that names no page: help and version are no unknown commands, but have none
abbrev pub no_topic_line : List ℕ → List ℕ
no_topic_line topic =
    if is_help topic || is_version topic then word_explained no_page_reason topic
    else word_explained unknown_reason topic

-- the line of help with these arguments
abbrev pub help_line : List ℕ → List (List ℕ) → List ℕ
help_line name [] = word_explained miscounted_reason name
help_line name (topic ∷ []) = no_topic_line topic
help_line name (topic ∷ word ∷ words) = word_explained miscounted_reason name

-- the line of words that begin with this name
abbrev pub named_line : List (List ℕ) → List ℕ → List (List ℕ) → List ℕ
named_line words name texts =
    if is_help name then help_line name texts
    else if is_version name then word_explained miscounted_reason name
    else command_explained words name texts (command_named name)

-- the line of words that are refused
unfoldable pub usage_line : List (List ℕ) → List ℕ
usage_line [] = codes "sdca: no command is given; see sdca help\n"
usage_line (name ∷ texts) = named_line (name ∷ texts) name texts

-- SITE is argument 1 of the command that asks whether it was used
-- [this project, docs/FORMATS.md, Commands: `air SITE BOOK CLEAR OUT`]
abbrev pub site_word : ℕ
site_word = 1

-- BOOK is argument 2 of each command that asks whether it is the site's
-- [this project, docs/FORMATS.md, Commands: `air SITE BOOK CLEAR OUT`, `head SITE BOOK CLEAR OUT`,
-- `next SITE BOOK WORDS OUT`]
abbrev pub book_argument : ℕ
book_argument = 2

-- CLEAR is this argument of the commands that have it [this project, docs/FORMATS.md, Commands]
abbrev pub clear_word : Option Command → ℕ
clear_word (Some Field) = 2
clear_word command = 3

-- STREAM is this argument of the commands that have it [this project, docs/FORMATS.md, Commands]
abbrev pub stream_word : Option Command → ℕ
stream_word (Some Tables) = 1
stream_word command = 2

-- CARD is argument 1 of `receive` and `watch`
abbrev pub card_word : ℕ
card_word = 1

-- the argument of `apart` that a clash is about: a site, or the second book
abbrev pub clash_word : ClashKind → ℕ
clash_word Heights = 3
clash_word Masters = 3
clash_word (NoWords site) = if site == 1 then 1 else 3
clash_word (SharedWord word) = 3
clash_word (Books leaf period) = 4

-- the line of a number that is refused
abbrev pub number_line : Option (Operand × List ℕ) → List ℕ
number_line None = []
number_line (Some argument) = argument_line (range_reason argument.0 argument.1) argument

-- a line about no argument
unfoldable pub plain_line : List ℕ → List ℕ
plain_line reason = codes "sdca: " ++ (reason ++ codes "\n")

-- the argument is a file and has this text
abbrev pub names_file : Operand → List ℕ → List ℕ → Bool
names_file operand text name = is_file (operand_kind operand) && bytes_eq text name

-- the first file among arguments that has this text
abbrev pub file_with_text : List ℕ → List Operand → List (List ℕ) → Option (Operand × List ℕ)
file_with_text name [] texts = None
file_with_text name (operand ∷ operands) [] = None
file_with_text name (operand ∷ operands) (text ∷ texts) =
    if names_file operand text name then Some (operand, text) else file_with_text name operands texts

-- the line of a file that is an argument, or that is none
abbrev pub file_line : List ℕ → List ℕ → Option (Operand × List ℕ) → List ℕ
file_line reason name None = plain_line (escaped name ++ (codes ": " ++ reason))
file_line reason name (Some argument) = argument_line reason argument

abbrev pub file_after : Option Command → List (List ℕ) → List ℕ → Option (Operand × List ℕ)
file_after None texts name = None
file_after (Some command) texts name =
    if length texts == length (operands_of command) then file_with_text name (operands_of command) texts else None

-- the file of this name among the arguments of words
abbrev pub file_named : List (List ℕ) → List ℕ → Option (Operand × List ℕ)
file_named [] name = None
file_named (command ∷ texts) name = file_after (command_named command) texts name

-- the line of an I/O error, if the machine said at which file it was and what
unfoldable pub trouble_line : List (List ℕ) → Option (List ℕ × Trouble) → List ℕ
trouble_line words None = []
trouble_line words (Some (name, trouble)) = file_line (trouble_reason trouble) name (file_named words name)

-- the line that explains a status to a user, with what the machine said of a file at its last error; no text where the
-- work is done, where printing failed, or where memory ran out
unfoldable pub explained : List (List ℕ) → Option (List ℕ × Trouble) → Status → List ℕ
explained words trouble Usage = usage_line words
explained words trouble (Missing word) = of_argument words word (λ operand. missing_reason operand)
explained words trouble (Revoked leaf period) = of_argument words card_word (λ operand. revoked_reason leaf period)
explained words trouble DepotFault = trouble_line words trouble
explained words trouble (BadSite word fault text) =
    of_argument words word (λ operand. site_reason (command_in words) fault text)
explained words trouble (BadBook word line) = of_argument words word (λ operand. line_reason operand line)
explained words trouble (BadCard word fault) = of_argument words word (λ operand. card_reason fault)
explained words trouble (BadClear refusal) =
    of_argument words (clear_word (command_in words)) (λ operand. clear_reason refusal)
explained words trouble (BadStream refusal) =
    of_argument words (stream_word (command_in words)) (λ operand. stream_reason refusal)
explained words trouble (Limit kind) = plain_line (limit_reason kind)
explained words trouble (Unheard leaf period) =
    of_argument words (stream_word (command_in words)) (λ operand. unheard_reason leaf period)
explained words trouble (Unclosed number) =
    of_argument words (stream_word (command_in words)) (λ operand. unclosed_reason)
explained words trouble (Gaps packets) = of_argument words (stream_word (command_in words)) (λ operand. gaps_reason)
explained words trouble NoCat = of_argument words (stream_word (command_in words)) (λ operand. no_cat_reason)
explained words trouble (BadWord word) = number_line (argument_numbered words word)
explained words trouble (Clash clash) = of_argument words (clash_word clash) (λ operand. clash_reason clash)
explained words trouble (BadOut word cause) = of_argument words word (λ operand. out_reason cause)
explained words trouble SiteUsed = of_argument words site_word (λ operand. used_reason)
explained words trouble OtherBook =
    of_argument words book_argument (λ operand. own_book_reason (command_in words))
explained words trouble (SiteUsedUp packet) = of_argument words site_word (λ operand. used_up_reason)
explained words trouble status = []
