-- Public meaning: the line of each exit, and by which exits arguments are refused [this project, docs/FORMATS.md,
-- Exits].
use Rattle.std.specs.Prelude.{ℕ, List, [], ◌∷◌, codes, Bool, true, false}
use Rattle.sd_command_line.specs.declared.exit.Exit.{Exit}
use Rattle.sd_command_line.specs.declared.exit.Exit.TheVariants.{Done, Usage, Missing, Revoked, DepotFault, PrintFault}
use Rattle.sd_command_line.specs.declared.exit.Exit.TheVariants.{BadSite, BadBook, BadCard, BadClear, BadStream, Limit}
use Rattle.sd_command_line.specs.declared.exit.Exit.TheVariants.{NoMemory, Unheard, Unclosed, Gaps, NoCat, BadWord}
use Rattle.sd_command_line.specs.declared.exit.Exit.TheVariants.{Clash, BadOut, SiteUsed, OtherBook, SiteUsedUp}
use Rattle.sd_command_line.specs.declared.operand.Files.{Files}
use Rattle.sd_command_line.specs.declared.operand.Files.TheVariants.{Inputs, Output, Both}
use Rattle.sd_command_line.specs.declared.operand.Operand.{Operand}
use Rattle.sd_command_line.specs.declared.operand.Operand.TheVariants as argument

-- its number, and when it comes, for a command with these files
unfoldable pub exit_line : Files → Exit → List ℕ
exit_line files Done = codes "   0  the work is done\n"
exit_line Inputs Usage = codes "   1  usage: unknown command, wrong number of arguments, or text not in UTF-8\n"
exit_line Output Usage = codes "   1  usage: unknown command, wrong number of arguments, or text not in UTF-8\n"
exit_line Both Usage =
    codes "   1  usage: unknown command, wrong number of arguments, text not in UTF-8, or OUT is an input\n"
exit_line Inputs Missing = codes "   2  the file that argument N names does not exist\n"
exit_line Output Missing = codes "   2  the folder of OUT does not exist\n"
exit_line Both Missing =
    codes "   2  the file that argument N names does not exist; for OUT, its folder does not exist\n"
exit_line files Revoked = codes "   3  the receiver is revoked in period Q, the first such period of which it heard\n"
exit_line files DepotFault = codes "   4  an I/O error at a file\n"
exit_line files PrintFault = codes "   5  an I/O error while printing\n"
exit_line files BadSite = codes "   6  the site file is refused\n"
exit_line files BadBook = codes "   7  line N of the file that argument W names is refused\n"
exit_line files BadCard = codes "   8  the card is refused\n"
exit_line files BadClear = codes "   9  a packet of the clear stream is refused\n"
exit_line files BadStream = codes "  10  a packet of the stream is refused\n"
exit_line files Limit = codes "  11  a limit is exceeded\n"
exit_line files NoMemory = codes "  12  out of memory\n"
exit_line files Unheard = codes "  13  the receiver did not hear its entitlement for period Q\n"
exit_line files Unclosed = codes "  14  the stream ends before its closing ECM is complete\n"
exit_line files Gaps = codes "  15  clear packets are missing from OUT\n"
exit_line files NoCat = codes "  16  the stream has no CAT for this card\n"
exit_line files BadWord = codes "  17  argument N is not a decimal number, or is out of range\n"
exit_line files Clash = codes "  18  two broadcasts must not share one set of cards\n"
exit_line files BadOut = codes "  19  OUT is there already, or its name does not follow that of SITE\n"
exit_line files SiteUsed = codes "  20  a run of air used the site\n"
exit_line files OtherBook =
    codes "  21  BOOK is not the book of the site's line 13; for next, it does not begin with that book\n"
exit_line files SiteUsedUp = codes "  22  no number or control word is left for packet K of CLEAR\n"

-- all exits, by their numbers
abbrev pub exits : List Exit
exits =
    Done ∷ Usage ∷ Missing ∷ Revoked ∷ DepotFault ∷ PrintFault ∷ BadSite ∷ BadBook ∷ BadCard ∷ BadClear ∷ BadStream
    ∷ Limit ∷ NoMemory ∷ Unheard ∷ Unclosed ∷ Gaps ∷ NoCat ∷ BadWord ∷ Clash ∷ BadOut ∷ SiteUsed ∷ OtherBook ∷
    SiteUsedUp
    ∷ []

-- each command may end so
abbrev pub is_common : Exit → Bool
is_common Done = true
is_common Usage = true
is_common Missing = true
is_common DepotFault = true
is_common PrintFault = true
is_common NoMemory = true
is_common exit = false

-- a site is refused so
abbrev pub refuses_site : Exit → Bool
refuses_site BadSite = true
refuses_site Limit = true
refuses_site exit = false

-- a file is refused so that has a command, a change, an event or a leaf in each line
abbrev pub refuses_lines : Exit → Bool
refuses_lines BadBook = true
refuses_lines Limit = true
refuses_lines exit = false

-- a card is refused so
abbrev pub refuses_card : Exit → Bool
refuses_card BadCard = true
refuses_card Limit = true
refuses_card exit = false

-- a clear stream is refused so
abbrev pub refuses_clear : Exit → Bool
refuses_clear BadClear = true
refuses_clear exit = false

-- a stream is refused so
abbrev pub refuses_stream : Exit → Bool
refuses_stream BadStream = true
refuses_stream exit = false

-- a number is refused so
abbrev pub refuses_number : Exit → Bool
refuses_number BadWord = true
refuses_number exit = false

-- a site that is to be made of a site is refused so
abbrev pub refuses_new_site : Exit → Bool
refuses_new_site BadOut = true
refuses_new_site exit = false

-- an argument is refused so
abbrev pub refuses_operand : Operand → Exit → Bool
refuses_operand argument.Site exit = refuses_site exit
refuses_operand argument.Book exit = refuses_lines exit
refuses_operand argument.Accounts exit = refuses_lines exit
refuses_operand argument.Commands exit = refuses_lines exit
refuses_operand argument.Script exit = refuses_lines exit
refuses_operand argument.Leaves exit = refuses_lines exit
refuses_operand argument.Card exit = refuses_card exit
refuses_operand argument.Clear exit = refuses_clear exit
refuses_operand argument.Live exit = false
refuses_operand argument.Stream exit = refuses_stream exit
refuses_operand argument.Leaf exit = refuses_number exit
refuses_operand argument.Width exit = refuses_number exit
refuses_operand argument.Number exit = refuses_number exit
refuses_operand argument.Packets exit = refuses_number exit
refuses_operand argument.Clears exit = refuses_number exit
refuses_operand argument.Pids exit = refuses_number exit
refuses_operand argument.Words exit = refuses_number exit
refuses_operand argument.NewSite exit = refuses_new_site exit
refuses_operand argument.Out exit = false

-- two broadcasts are refused so
abbrev pub refuses_pair : Exit → Bool
refuses_pair Clash = true
refuses_pair exit = false

-- the book is refused so that must be that of the site's line 13, or begin with it
abbrev pub refuses_own_book : Exit → Bool
refuses_own_book OtherBook = true
refuses_own_book exit = false

-- a broadcast on air is refused so, by its site or its book, or ends so
abbrev pub ends_air : Exit → Bool
ends_air SiteUsed = true
ends_air OtherBook = true
ends_air SiteUsedUp = true
ends_air exit = false

-- a receiver ends so that did not open all of a stream
abbrev pub ends_receiver : Exit → Bool
ends_receiver Revoked = true
ends_receiver Unheard = true
ends_receiver Unclosed = true
ends_receiver Gaps = true
ends_receiver NoCat = true
ends_receiver exit = false
