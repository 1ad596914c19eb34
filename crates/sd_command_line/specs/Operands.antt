-- Public meaning: the arguments that commands take [this project, docs/FORMATS.md, Commands].
use Rattle.std.specs.Prelude.{ℕ, ◌-◌, ◌^◌, List, codes, Bool, true, false, ◌||◌}
use Rattle.std.specs.List.{list_any}
use Rattle.sd_command_line.specs.declared.operand.Operand.{Operand}
use Rattle.sd_command_line.specs.declared.operand.Operand.TheVariants.{Site, Book, Accounts, Commands, Clear, Live}
use Rattle.sd_command_line.specs.declared.operand.Operand.TheVariants.{Script, Stream}
use Rattle.sd_command_line.specs.declared.operand.Operand.TheVariants.{Card, Leaves, Leaf, Width, Number, Packets}
use Rattle.sd_command_line.specs.declared.operand.Operand.TheVariants.{Clears}
use Rattle.sd_command_line.specs.declared.operand.Operand.TheVariants.{Pids, Words, NewSite, Out}
use Rattle.sd_command_line.specs.declared.operand.Kind.{Kind}
use Rattle.sd_command_line.specs.declared.operand.Kind.TheVariants as kind
use Rattle.sd_command_line.specs.declared.operand.Files.{Files}
use Rattle.sd_command_line.specs.declared.operand.Files.TheVariants as files

-- what it is: a file that is read, the file that is made, or a number and the greatest that it may be,
-- from 0 or from 1 on
abbrev pub operand_kind : Operand → Kind
operand_kind Site = kind.Input
operand_kind Book = kind.Input
operand_kind Accounts = kind.Input
operand_kind Commands = kind.Input
operand_kind Clear = kind.Input
operand_kind Live = kind.Input
operand_kind Script = kind.Input
operand_kind Stream = kind.Input
operand_kind Card = kind.Input
operand_kind Leaves = kind.Input
operand_kind Leaf = kind.Number (2 ^ 32 - 1)
operand_kind Width = kind.Number (2 ^ 32 - 1)
operand_kind Number = kind.Number (2 ^ 32 - 1)
operand_kind Packets = kind.Number 1000000
operand_kind Clears = kind.Count (2 ^ 32 - 1)
operand_kind Pids = kind.Number 256
operand_kind Words = kind.Count (2 ^ 32 - 1)
operand_kind NewSite = kind.Output
operand_kind Out = kind.Output

-- a file that is read
abbrev pub is_input : Kind → Bool
is_input kind.Input = true
is_input kind.Output = false
is_input (kind.Number most) = false
is_input (kind.Count most) = false

-- the file that is made
abbrev pub is_output : Kind → Bool
is_output kind.Input = false
is_output kind.Output = true
is_output (kind.Number most) = false
is_output (kind.Count most) = false

-- a file, whether it is read or made
abbrev pub is_file : Kind → Bool
is_file kind = is_input kind || is_output kind

-- the files of a command, by whether it reads some and whether it makes one; each command has a file
abbrev pub files_where : Bool → Bool → Files
files_where reads false = files.Inputs
files_where false true = files.Output
files_where true true = files.Both

-- the files that arguments name
abbrev pub files_among : List Operand → Files
files_among operands =
    files_where (list_any (λ operand. is_input (operand_kind operand)) operands)
    (list_any (λ operand. is_output (operand_kind operand)) operands)

-- the name that it has in the texts
unfoldable pub operand_name : Operand → List ℕ
operand_name Site = codes "SITE"
operand_name Book = codes "BOOK"
operand_name Accounts = codes "ACCOUNTS"
operand_name Commands = codes "COMMANDS"
operand_name Clear = codes "CLEAR"
operand_name Live = codes "CLEAR"
operand_name Script = codes "SCRIPT"
operand_name Stream = codes "STREAM"
operand_name Card = codes "CARD"
operand_name Leaves = codes "LEAVES"
operand_name Leaf = codes "LEAF"
operand_name Width = codes "WIDTH"
operand_name Number = codes "NUMBER"
operand_name Packets = codes "PACKETS"
operand_name Clears = codes "PACKETS"
operand_name Pids = codes "PIDS"
operand_name Words = codes "WORDS"
operand_name NewSite = codes "OUT"
operand_name Out = codes "OUT"

-- what it says
unfoldable pub meaning_of : Operand → List ℕ
meaning_of Site =
    codes "the site file: height, master, PIDs, period lengths, messages, control words, first period, book"
meaning_of Book = codes "the book: one command per line, subscribe LEAF, revoke LEAF or period"
meaning_of Accounts =
    codes "the accounts: one change per line, assign NAME LEAF, drop NAME, restore NAME or period"
meaning_of Commands = codes "the commands to append to BOOK, in the form of a book"
meaning_of Clear = codes "a clear transport stream; /dev/stdin for a pipe"
meaning_of Live = codes "a live clear transport stream, of which bad packets are left out; /dev/stdin for a pipe"
meaning_of Script =
    codes "the events: lines send N, offer LEAF N, lose LEAF N, off LEAF, on LEAF, subscribe LEAF or revoke LEAF"
meaning_of Stream = codes "a transport stream; /dev/stdin for a pipe"
meaning_of Card = codes "the card of a receiver, made by the command card"
meaning_of Leaves = codes "the coalition: one leaf per line, ascending"
meaning_of Leaf = codes "the receiver's number, from 0 to 2^height - 1"
meaning_of Width = codes "the width of the layers, from 1 to the height"
meaning_of Number = codes "the seed of the stream, a number below 2^32"
meaning_of Packets = codes "the number of packets, at most 1000000"
meaning_of Clears =
    codes "how many clear packets: 1 to 4294967295, at most ecm-every * crypto-ecms for each control word of SITE"
meaning_of Pids = codes "the number of PIDs from 32 to 8175 that carry payload, at most 256"
meaning_of Words =
    codes "how many control words the broadcast has: 1 to 4294967295, at most those that SITE has left"
meaning_of NewSite =
    codes "the site that is made: a new file, of which the name is that of SITE with its last number one higher"
meaning_of Out = codes "the output file; /dev/stdout for a pipe, and all lines then go to standard error"
