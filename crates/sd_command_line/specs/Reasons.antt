-- Public meaning: why an argument is refused, as a user reads it [this project, docs/FORMATS.md, Explanations].
use Rattle.std.specs.Prelude.{ℕ, ◌-◌, ◌^◌, ◌==◌, ◌&&◌, nat_le, if◌then◌else◌, List, ◌++◌, codes, length, take}
use Rattle.std.specs.Prelude.{Option, Some, None}
use Rattle.std.specs.Fmt.{decimal}
use Rattle.sd_base.specs.Number.{decimal_value}
use Rattle.sd_message.specs.declared.clear_fault.ClearFault.{ClearFault}
use Rattle.sd_message.specs.declared.clear_fault.ClearFault.TheVariants as clear
use Rattle.sd_message.specs.ClearFaults.{clear_packet}
use Rattle.sd_message.specs.declared.stream_fault.StreamFault.{StreamFault}
use Rattle.sd_message.specs.declared.stream_fault.StreamFault.TheVariants as stream
use Rattle.sd_message.specs.StreamFaults.{stream_packet}
use Rattle.sd_book.specs.declared.fault.BookLimit.{BookLimit}
use Rattle.sd_book.specs.declared.fault.BookLimit.TheVariants as limit
use Rattle.sd_site_cards.specs.declared.site_fault.SiteFault.{SiteFault}
use Rattle.sd_site_cards.specs.declared.site_fault.SiteFault.TheVariants as site
use Rattle.sd_site_cards.specs.declared.card_fault.CardFault.{CardFault}
use Rattle.sd_site_cards.specs.declared.card_fault.CardFault.TheVariants as card
use Rattle.sd_command_base.specs.declared.bad_line.Excerpt.{Excerpt}
use Rattle.sd_command_base.specs.declared.bad_line.LineCause.{LineCause}
use Rattle.sd_command_base.specs.declared.bad_line.LineCause.TheVariants as cause
use Rattle.sd_command_base.specs.declared.bad_line.BadLine.{BadLine}
use Rattle.sd_command_base.specs.declared.trouble.Trouble.{Trouble}
use Rattle.sd_command_base.specs.declared.trouble.Trouble.TheVariants as trouble
use Rattle.sd_command_base.specs.declared.stream_refusal.StreamRefusal.{StreamRefusal}
use Rattle.sd_command_base.specs.declared.stream_refusal.StreamRefusal.TheVariants as refusal
use Rattle.sd_command_base.specs.declared.status.LimitKind.{LimitKind}
use Rattle.sd_command_base.specs.declared.status.LimitKind.TheVariants as kind
use Rattle.sd_command_base.specs.declared.status.Clash.{Clash}
use Rattle.sd_command_base.specs.declared.status.Clash.TheVariants as clash
use Rattle.sd_command_base.specs.Escaped.{quoted}
use Rattle.sd_command_base.specs.Texts.{refused_packet}
use Rattle.sd_command_base.specs.declared.status.OutCause.{OutCause}
use Rattle.sd_command_base.specs.declared.status.OutCause.TheVariants.{There, Name}
use Rattle.sd_command_line.specs.declared.command.Command.{Command}
use Rattle.sd_command_line.specs.declared.command.Command.TheVariants.{Air, Next, Twin}
use Rattle.sd_command_line.specs.declared.operand.Operand.{Operand}
use Rattle.sd_command_line.specs.declared.operand.Operand.TheVariants.{NewSite, Out}
use Rattle.sd_command_line.specs.Operands.{meaning_of, operand_name}

-- why a file isn't there
unfoldable pub missing_reason : Operand → List ℕ
missing_reason NewSite = codes "no such folder"
missing_reason Out = codes "no such folder"
missing_reason operand = codes "no such file"

-- why a word is refused that is to name a command
unfoldable pub unknown_reason : List ℕ
unknown_reason = codes "unknown command"

-- why `help` or `version` is refused after `help`
unfoldable pub no_page_reason : List ℕ
no_page_reason = codes "it has no page of its own"

-- why `help` or `version` is refused with arguments
unfoldable pub miscounted_reason : List ℕ
miscounted_reason = codes "wrong number of arguments"

-- why OUT is refused
unfoldable pub output_reason : List ℕ
output_reason = codes "it is one of the inputs"

-- why OUT is refused that has the name of the mark
unfoldable pub mark_reason : List ℕ
mark_reason = codes "it is the mark of SITE"

-- why a site is refused that has its mark
unfoldable pub used_reason : List ℕ
used_reason = codes "it was used; make the next one (sdca next)"

-- why a file must not be made
unfoldable pub out_reason : OutCause → List ℕ
out_reason There = codes "it is there already; each site is made once"
out_reason Name = codes "its name is not that of SITE with the last number one higher"

-- why a book is refused: for `next` it must begin with that of the site, for other commands it must be that
unfoldable pub own_book_reason : Option Command → List ℕ
own_book_reason (Some Next) =
    codes "it doesn't begin with the book of the site's line 13; an old book was put back, or a line was changed or lost"
own_book_reason command = codes "it is not the book of the site's line 13; if it only got longer, make the next site"

-- which line of a file it is, by its text if that is shown, and else by what is wrong with it
unfoldable pub line_found : ℕ → Excerpt → List ℕ → List ℕ
line_found k text wrong =
    codes "line "
    ++ (decimal k
    ++ (if length (take text.length text.bytes) == 0 then codes " " ++ wrong
    else codes " is \"" ++ (quoted text ++ codes "\"")))

-- a line, and what it must be
unfoldable pub must_be : List ℕ → List ℕ → List ℕ
must_be found form = found ++ (codes "; it must be " ++ form)

-- what line k of a site is to be [this project, docs/FORMATS.md, Site]
unfoldable pub site_form : ℕ → List ℕ
site_form k =
    if k == 1 then codes "height N, N from 1 to 20"
    else if k == 2 then codes "master and 64 hexadecimal digits"
    else if k == 3 then codes "ca and 4 hexadecimal digits"
    else if k == 4 then codes "emm N, N from 32 to 8175"
    else if k == 5 then codes "ecm N, N from 32 to 8175"
    else if k == 6 then codes "ecm-every N, N from 1 to 4096"
    else if k == 7 then codes "crypto-ecms N, N from 1 to 256"
    else if k == 8 then codes "period-cryptos N, N from 1 to 65535"
    else if k == 9 then codes "messages N, N from 1 to 3 (new sites have 3)"
    else if k == 10 then codes "first-word N, N from 0 to 4294967295"
    else if k == 11 then codes "last-word N, N from 0 to 4294967295"
    else if k == 12 then codes "first-period N, N from 0 to 4294967295"
    else codes "book SIZE DIGEST, SIZE at most 33554432 and DIGEST 64 hexadecimal digits"

-- what line k of a site is to be for a command that asks for more than others
unfoldable pub range_form : Option Command → ℕ → List ℕ
range_form (Some Air) k =
    if k == 9 then codes "messages 3, as sites of next and twin have it"
    else if k == 11 then codes "last-word N, N from first-word on; without a control word a site is for next alone"
    else site_form k
range_form (Some Next) k =
    if k == 12 then codes "first-period N, and a number above N must be left; the chain ends here" else site_form k
range_form (Some Twin) k =
    if k == 12 then codes "first-period N, and a number above N must be left; the chain ends here" else site_form k
range_form command k = site_form k

-- why a site of too few lines is refused by a command
unfoldable pub short_reason : Option Command → List ℕ
short_reason (Some Air) =
    codes "lines are missing; air takes a site of 13 lines, each with its line feed, as next and twin make it"
short_reason (Some Next) =
    codes "lines are missing; next takes a site of 13 lines, or of 12 without a control word, each with its line feed"
short_reason (Some Twin) =
    codes "lines are missing; twin takes a site of 13 lines, each with its line feed, as next makes it"
short_reason command =
    codes "lines are missing; a site has lines 1 to 8, height to period-cryptos, and one of next or twin has 13"

-- why a site is refused by a command
unfoldable pub site_reason : Option Command → SiteFault → Excerpt → List ℕ
site_reason command (site.Line k) text =
    must_be (line_found k text (codes "is malformed")) (site_form k)
    ++ codes "; a site's lines have one order, and none before the last is left out"
site_reason command (site.Range k) text =
    must_be (line_found k text (codes "is out of range")) (range_form command k)
site_reason command site.SamePid text = codes "lines 4 and 5 have one PID; EMMs and ECMs need one each"
site_reason command (site.Extra k) text =
    line_found k text (codes "is there") ++ codes ", which is one too many; a site has at most 13"
site_reason command site.Short text = short_reason command

-- why a card is refused
unfoldable pub card_reason : CardFault → List ℕ
card_reason card.Magic = codes "it is no card of the command card; a card of lcard (a layer card) can't receive"
card_reason card.Version = codes "it is a card of another version; make it again (sdca card)"
card_reason card.Height = codes "its height is out of range; make it again (sdca card)"
card_reason card.Leaf = codes "its leaf is not in a tree of its height; make it again (sdca card)"
card_reason card.Length = codes "its length is not that of a card of its height; make it again (sdca card)"
card_reason (card.Check found due) = codes "its bytes were changed; make it again (sdca card)"
card_reason card.NoMemory = codes "memory ran out"

-- what the argument is to be
unfoldable pub rule_of : Operand → List ℕ
rule_of operand = operand_name operand ++ (codes " is " ++ meaning_of operand)

-- the receivers of a tree of height d, if there is one
unfoldable pub leaf_text : ℕ → List ℕ
leaf_text d =
    if nat_le 1 d && nat_le d 20 then
    codes "receivers of height " ++ (decimal d ++ (codes " are 0 to " ++ decimal (2 ^ d - 1)))
    else codes "its receiver is not in the tree"

-- the rule that a line breaks, for a reader
unfoldable pub cause_text : LineCause → List ℕ
cause_text cause.ByteOrderMark = codes "it begins with a byte-order mark; save the file as plain ASCII"
cause_text cause.NotText = codes "it has a byte that is no printable ASCII; is it the right file?"
cause_text cause.Long = codes "it has more than 48 bytes, and no line of such a file has"
cause_text cause.Empty = codes "it is empty"
cause_text cause.Return = codes "it ends with a carriage return; lines end with a line feed alone"
cause_text cause.Comment = codes "it is a comment, and such a file has none"
cause_text cause.Tab = codes "it has a tab; one space stands between words"
cause_text cause.Space = codes "it has a space too many; one stands between words, and none at an end"
cause_text cause.Capital = codes "it has a capital letter; commands and names have none"
cause_text cause.Form =
    codes "it is none of its lines; numbers are plain decimals, without sign, range or leading zero"
cause_text (cause.Leaf d) = leaf_text d
cause_text cause.Descends = codes "its receiver is not above that of the line before"
cause_text cause.Unended = codes "its line feed is missing, so it may be cut off"
cause_text (cause.Held leaf line) =
    codes "its name has receiver "
    ++ (decimal leaf ++ (codes " since line " ++ (decimal line ++ codes ", for good; drop frees no name")))
cause_text (cause.Named line) =
    codes "its receiver has a name since line " ++ (decimal line ++ codes ", for good; drop frees no receiver")
cause_text cause.Unknown = codes "no line before it assigns its name"

-- why a line of a file is refused, and what lines such a file has
unfoldable pub line_reason : Operand → BadLine → List ℕ
line_reason operand line =
    line_found line.number line.text (codes "is refused")
    ++ (codes ": " ++ (cause_text line.cause ++ (codes "; " ++ rule_of operand)))

-- why a number of this text is refused, and what it is to be
abbrev pub number_fault : Option ℕ → List ℕ
number_fault None = codes "not a decimal number; "
number_fault (Some n) = codes "out of its range; "

unfoldable pub range_reason : Operand → List ℕ → List ℕ
range_reason operand text = number_fault (decimal_value text) ++ rule_of operand

-- why the machine did not read or write a file
unfoldable pub trouble_reason : Trouble → List ℕ
trouble_reason trouble.NoSpace = codes "no space is left on the device; what is there is a part of it"
trouble_reason trouble.Denied = codes "permission denied"
trouble_reason trouble.Folder = codes "it is a folder"
trouble_reason trouble.Input = codes "it is an input and the output, by two names"
trouble_reason trouble.Gone = codes "its reader is gone"
trouble_reason trouble.ReadOnly = codes "its file system is read-only"
trouble_reason trouble.TooLarge = codes "it would be larger than is allowed (ulimit -f)"
trouble_reason trouble.Loop = codes "its path is a loop of links, or too long"
trouble_reason trouble.Other = codes "the machine answered with an I/O error"

-- what is wrong with a packet of a clear stream
unfoldable pub clear_cause : ClearFault → List ℕ
clear_cause (clear.AlreadyScrambled packet) =
    codes "it is scrambled; it is of a broadcast already, or of another system; air leaves it out"
clear_cause (clear.PidTaken packet pid) =
    codes "its PID is one of the broadcast; it is of one already, or the encoder makes a CAT; air leaves it out"
clear_cause (clear.PatForm packet fault) = codes "it is no PAT by itself; the PAT is in several packets, or damaged"
clear_cause (clear.PmtForm packet fault) = codes "it is the PMT of a broadcast already; give the clear stream"
clear_cause (clear.TooManyPids packet) = codes "its PID is the 257th that carries payload; take services out"
clear_cause (clear.TooLong packet) =
    if packet == 2 ^ 32 - 1 then codes "a broadcast has at most 4294967295 packets"
    else codes "no control word of the site is left; make the next site (sdca next)"

unfoldable pub clear_refusal : StreamRefusal ClearFault → List ℕ
clear_refusal (refusal.Broken found) =
    codes "there is no whole packet of 188 bytes; packets of 192 or 204 bytes must be cut to 188 first"
clear_refusal refusal.TooLong = codes "a stream has at most 281474976710656 packets"
clear_refusal (refusal.Packet fault) = clear_cause fault

-- what is wrong with a packet of a broadcast
unfoldable pub stream_cause : StreamFault → List ℕ
stream_cause (stream.WrongKey packet period found due) =
    codes "card and broadcast are of two masters (see sdca show and sdca status), or the message was changed"
stream_cause (stream.WrongWord packet word found due) =
    codes "card and broadcast are of two masters (see sdca show and sdca status), or the message was changed"
stream_cause (stream.BadEmm packet fault) =
    codes "the EMM is damaged, out of order or of another sender; watch reads streams with damage"
stream_cause (stream.BadEcm packet fault) =
    codes "the ECM is damaged, out of order or of another sender; watch reads streams with damage"
stream_cause (stream.Parity packet) = codes "it is not of this broadcast; watch reads streams with damage"

unfoldable pub stream_refused : StreamRefusal StreamFault → List ℕ
stream_refused (refusal.Broken found) = codes "there is no whole packet of 188 bytes; watch reads streams with damage"
stream_refused refusal.TooLong = codes "a stream has at most 281474976710656 packets"
stream_refused (refusal.Packet fault) = stream_cause fault

-- at which packet
unfoldable pub at_packet : ℕ → List ℕ → List ℕ
at_packet packet why = codes "packet " ++ (decimal packet ++ (codes ": " ++ why))

unfoldable pub clear_reason : StreamRefusal ClearFault → List ℕ
clear_reason found = at_packet (refused_packet clear_packet found) (clear_refusal found)

unfoldable pub stream_reason : StreamRefusal StreamFault → List ℕ
stream_reason found = at_packet (refused_packet stream_packet found) (stream_refused found)

-- which limit is exceeded
unfoldable pub book_limit_reason : BookLimit → List ℕ
book_limit_reason limit.Lines = codes "a book has at most 1048576 lines"
book_limit_reason limit.Periods = codes "a book has at most 1023 lines period"
book_limit_reason (limit.Revoked q) = codes "at most 65536 receivers may be revoked in a period"

unfoldable pub limit_reason : LimitKind → List ℕ
limit_reason kind.SiteBytes = codes "a site has at most 4096 bytes; is it the right file?"
limit_reason kind.BookBytes = codes "a book, accounts, leaves and a script have at most 33554432 bytes"
limit_reason kind.CardBytes = codes "a card has at most 8192 bytes; is it the right file?"
limit_reason (kind.Book limit) = book_limit_reason limit
limit_reason kind.TrialHeight = codes "trial takes a height of at most 6; use head and receive"
limit_reason kind.TrialPackets = codes "trial takes at most 65536 packets; use head and receive"
limit_reason kind.Traced = codes "trace revokes at most 65536 receivers"
limit_reason kind.FieldHeight = codes "field takes a height of at most 6; use head and receive"
limit_reason kind.FieldPackets = codes "field takes at most 16384 packets; use head and receive"
limit_reason kind.FieldEvents = codes "field takes at most 524288 events"

-- what a receiver did not get
unfoldable pub revoked_reason : ℕ → ℕ → List ℕ
revoked_reason u q =
    codes "receiver "
    ++ (decimal u
    ++ (codes " is revoked in period "
    ++ (decimal q ++ codes "; OUT has what it was entitled to; a later subscribe entitles it again")))

unfoldable pub unheard_reason : ℕ → ℕ → List ℕ
unheard_reason u q =
    codes "no set of period "
    ++ (decimal q
    ++ (codes " with receiver " ++ (decimal u ++ codes " arrived; packets were lost, or the stream begins late")))

unfoldable pub unclosed_reason : List ℕ
unclosed_reason = codes "it broke off before its closing message, or its end was lost"

unfoldable pub gaps_reason : List ℕ
gaps_reason = codes "packets were lost on the way; OUT has all others"

unfoldable pub no_cat_reason : List ℕ
no_cat_reason = codes "no CAT names the card's system; it is of another system, or no broadcast (see sdca tables)"

-- why two broadcasts may not share one set of cards
unfoldable pub clash_reason : Clash → List ℕ
clash_reason clash.Heights = codes "its height is another one; take sites of one chain (next, twin)"
clash_reason clash.Masters = codes "its master is another one (see sdca status); take sites of one chain (next, twin)"
clash_reason (clash.NoWords site) = codes "it has no control word; make the next site (sdca next)"
clash_reason (clash.SharedWord word) =
    codes "it has a control word of the other site; give two different sites of one chain (next, twin)"
clash_reason (clash.Books leaf period) = codes "it disagrees with the other book there; use one book for both"

-- why a broadcast ended before its stream
unfoldable pub used_up_reason : List ℕ
used_up_reason = codes "no number or control word is left; start again with the next site (sdca next), and more words"
