-- Public meaning: what help says of each command [this project, docs/FORMATS.md, Help].
use Rattle.std.specs.Prelude.{◌≡◌, ◌⊎◌, ℕ, List, [], ◌∷◌, codes, bytes_eq, if◌then◌else◌, Option, Some, None}
use Rattle.std.specs.Prelude.{Bool, false, ◌||◌}
use Rattle.std.specs.List.{list_any}
use Rattle.sd_command_line.specs.declared.command.Command.{Command}
use Rattle.sd_command_line.specs.declared.command.Command.TheVariants.{Accounts, Air, Book, Card, Cover, Field, Head}
use Rattle.sd_command_line.specs.declared.command.Command.TheVariants.{Layered}
use Rattle.sd_command_line.specs.declared.command.Command.TheVariants.{Lcard}
use Rattle.sd_command_line.specs.declared.command.Command.TheVariants.{Apart, Messages, Next, Opens, Plan}
use Rattle.sd_command_line.specs.declared.command.Command.TheVariants.{Receive, Sample}
use Rattle.sd_command_line.specs.declared.command.Command.TheVariants.{Show, Status}
use Rattle.sd_command_line.specs.declared.command.Command.TheVariants.{Tables}
use Rattle.sd_command_line.specs.declared.command.Command.TheVariants.{Trace, Trial, Twin, Watch}
use Rattle.sd_command_line.specs.declared.operand.Operand.{Operand}
use Rattle.sd_command_line.specs.declared.operand.Operand.TheVariants as word
use Rattle.sd_command_line.specs.declared.operand.Files.{Files}
use Rattle.sd_command_line.specs.Operands.{files_among}
use Rattle.sd_command_line.specs.declared.exit.Exit.{Exit}
use Rattle.sd_command_line.specs.Exits.{ends_air, is_common, ends_receiver, refuses_operand, refuses_own_book}
use Rattle.sd_command_line.specs.Exits.{refuses_pair}

-- the command's name
unfoldable pub command_name : Command → List ℕ
command_name Accounts = codes "accounts"
command_name Air = codes "air"
command_name Apart = codes "apart"
command_name Book = codes "book"
command_name Card = codes "card"
command_name Cover = codes "cover"
command_name Field = codes "field"
command_name Head = codes "head"
command_name Layered = codes "layered"
command_name Lcard = codes "lcard"
command_name Messages = codes "messages"
command_name Next = codes "next"
command_name Opens = codes "opens"
command_name Plan = codes "plan"
command_name Receive = codes "receive"
command_name Sample = codes "sample"
command_name Show = codes "show"
command_name Status = codes "status"
command_name Tables = codes "tables"
command_name Trace = codes "trace"
command_name Trial = codes "trial"
command_name Twin = codes "twin"
command_name Watch = codes "watch"

-- all commands, by their names
abbrev pub commands : List Command
commands =
    Accounts ∷ Air ∷ Apart ∷ Book ∷ Card ∷ Cover ∷ Field ∷ Head ∷ Layered ∷ Lcard ∷ Messages ∷ Next ∷ Opens ∷ Plan
    ∷ Receive ∷ Sample ∷ Show ∷ Status ∷ Tables ∷ Trace ∷ Trial ∷ Twin ∷ Watch ∷ []

-- the first of them that has this name
abbrev pub first_named : List ℕ → List Command → Option Command
first_named word [] = None
first_named word (command ∷ rest) = if bytes_eq word (command_name command) then Some command else first_named word rest

-- the command of this name
unfoldable pub command_named : List ℕ → Option Command
command_named word = first_named word commands

-- the arguments after the name
unfoldable pub operands_of : Command → List Operand
operands_of Accounts = word.Site ∷ word.Accounts ∷ word.Out ∷ []
operands_of Air = word.Site ∷ word.Book ∷ word.Live ∷ word.Out ∷ []
operands_of Apart = word.Site ∷ word.Book ∷ word.Site ∷ word.Book ∷ []
operands_of Book = word.Site ∷ word.Book ∷ word.Commands ∷ word.Out ∷ []
operands_of Card = word.Site ∷ word.Leaf ∷ word.Out ∷ []
operands_of Cover = word.Site ∷ word.Book ∷ []
operands_of Field = word.Site ∷ word.Clear ∷ word.Script ∷ []
operands_of Head = word.Site ∷ word.Book ∷ word.Clear ∷ word.Out ∷ []
operands_of Layered = word.Site ∷ word.Book ∷ word.Width ∷ []
operands_of Lcard = word.Site ∷ word.Leaf ∷ word.Width ∷ word.Out ∷ []
operands_of Messages = word.Site ∷ word.Stream ∷ []
operands_of Next = word.Site ∷ word.Book ∷ word.Words ∷ word.NewSite ∷ []
operands_of Opens = word.Site ∷ word.Book ∷ word.Leaves ∷ []
operands_of Plan = word.Site ∷ word.Book ∷ word.Clears ∷ word.Pids ∷ []
operands_of Receive = word.Card ∷ word.Stream ∷ word.Out ∷ []
operands_of Sample = word.Number ∷ word.Packets ∷ word.Out ∷ []
operands_of Show = word.Card ∷ []
operands_of Status = word.Site ∷ word.Book ∷ word.Leaf ∷ []
operands_of Tables = word.Stream ∷ []
operands_of Trace = word.Site ∷ word.Book ∷ word.Leaves ∷ []
operands_of Trial = word.Site ∷ word.Book ∷ word.Clear ∷ []
operands_of Twin = word.Site ∷ word.Words ∷ word.NewSite ∷ []
operands_of Watch = word.Card ∷ word.Stream ∷ word.Out ∷ []

-- the files that they name
abbrev pub files_of : Command → Files
files_of command = files_among (operands_of command)

-- what the command does
unfoldable pub work_of : Command → List ℕ
work_of Accounts = codes "makes the book from the accounts of named subscribers, and reports them"
work_of Air = codes "makes OUT, the broadcast of a live clear stream, with a new site"
work_of Apart = codes "checks whether two broadcasts may share cards"
work_of Book = codes "makes a longer book: its commands, then those of COMMANDS"
work_of Card = codes "makes the card of a receiver"
work_of Cover = codes "prints the sets of each period's cover"
work_of Field = codes "prints what receivers write that miss packets or lose power"
work_of Head = codes "makes the scrambled broadcast of a clear stream"
work_of Layered = codes "prints the sets of each period's layered cover"
work_of Lcard = codes "makes the smaller card of a receiver for layered covers"
work_of Messages = codes "prints the messages of a broadcast, one line each"
work_of Next = codes "makes the site of the next broadcast: new control words, a new period"
work_of Opens = codes "prints which sets of each period the cards of a coalition open"
work_of Plan = codes "prints the size of a broadcast on air, before it is made"
work_of Receive = codes "writes the clear packets that a card opens, of one broadcast or of several in a row"
work_of Sample = codes "makes a clear stream for tests"
work_of Show = codes "prints the fields of a card's file, without its keys"
work_of Status = codes "prints whether a receiver is entitled, and when that changes"
work_of Tables = codes "prints the tables of a stream, one line of JSON each"
work_of Trace = codes "prints the receivers whose cards a decoder holds, found by queries"
work_of Trial = codes "prints what each receiver writes from a broadcast"
work_of Twin = codes "makes the site of a broadcast at the same time: new control words, the same periods"
work_of Watch = codes "makes OUT, what the card opens of a stream that may be damaged"

-- OUT holds secrets: those of a receiver, or the master secret of a site
abbrev pub HoldsSecrets : Command → Type 0
HoldsSecrets command = (command ≡ Card) ⊎ (command ≡ Lcard) ⊎ (command ≡ Next) ⊎ (command ≡ Twin)

-- the command may end so with arguments each of which is good
abbrev pub is_own : Command → Exit → Bool
is_own Air exit = ends_air exit
is_own Apart exit = refuses_pair exit
is_own Head exit = refuses_own_book exit
is_own Next exit = refuses_own_book exit
is_own Receive exit = ends_receiver exit
is_own Watch exit = ends_receiver exit
is_own command exit = false

-- the command may end so
unfoldable pub ends_with : Command → Exit → Bool
ends_with command exit =
    is_common exit || (is_own command exit || list_any (λ operand. refuses_operand operand exit) (operands_of command))

-- an example of its arguments
unfoldable pub example_of : Command → List ℕ
example_of Accounts = codes "accounts examples/site.txt examples/accounts.txt book.txt"
example_of Air = codes "air site-1.txt examples/book.txt clear.ts on-air.ts"
example_of Apart = codes "apart examples/site-1.txt examples/book.txt examples/site-2.txt examples/book.txt"
example_of Book = codes "book examples/site.txt examples/book.txt examples/today.txt longer.txt"
example_of Card = codes "card examples/site.txt 2 card-2"
example_of Cover = codes "cover examples/site.txt examples/book.txt"
example_of Field = codes "field examples/site.txt clear.ts examples/script.txt"
example_of Head = codes "head examples/site.txt examples/book.txt clear.ts broadcast.ts"
example_of Layered = codes "layered examples/site.txt examples/book.txt 2"
example_of Lcard = codes "lcard examples/site.txt 2 2 layer-card-2"
example_of Messages = codes "messages examples/site.txt broadcast.ts"
example_of Next = codes "next site-0.txt examples/book.txt 1000 site-1.txt"
example_of Opens = codes "opens examples/site.txt examples/book.txt examples/pooled.txt"
example_of Plan = codes "plan examples/site.txt examples/book.txt 600 3"
example_of Receive = codes "receive card-2 broadcast.ts opened.ts"
example_of Sample = codes "sample 7 600 clear.ts"
example_of Show = codes "show card-2"
example_of Status = codes "status examples/site.txt examples/book.txt 2"
example_of Tables = codes "tables broadcast.ts"
example_of Trace = codes "trace examples/site.txt examples/book.txt examples/pair.txt"
example_of Trial = codes "trial examples/site.txt examples/book.txt clear.ts"
example_of Twin = codes "twin site-1.txt 1000 site-2.txt"
example_of Watch = codes "watch card-2 broadcast.ts opened.ts"
