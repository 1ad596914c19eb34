-- Public meaning: the line of each status [this project, docs/FORMATS.md, Exits].
use Rattle.std.specs.Prelude.{ℕ, List, [], ◌++◌, codes}
use Rattle.std.specs.Fmt.{decimal}
use Rattle.std.specs.Int.{w32, to_be_bytes}
use Rattle.hex.specs.Hex.{encode_lower}
use Rattle.sd_engine.specs.declared.fault.BreakCause.{BreakCause}
use Rattle.sd_engine.specs.declared.fault.BreakCause.TheVariants as breaks
use Rattle.sd_engine.specs.Driving.{most_packets}
use Rattle.sd_message.specs.declared.clear_fault.ClearFault.{ClearFault}
use Rattle.sd_message.specs.declared.clear_fault.ClearFault.TheVariants as clear
use Rattle.sd_message.specs.ClearFaults.{clear_packet}
use Rattle.sd_psi.specs.declared.fault.FormFault.{FormFault}
use Rattle.sd_psi.specs.declared.fault.FormFault.TheVariants as form
use Rattle.sd_site_cards.specs.declared.site_fault.SiteFault.{SiteFault}
use Rattle.sd_site_cards.specs.declared.site_fault.SiteFault.TheVariants as site
use Rattle.sd_book.specs.declared.fault.BookLimit.{BookLimit}
use Rattle.sd_book.specs.declared.fault.BookLimit.TheVariants as limit
use Rattle.sd_site_cards.specs.declared.card_fault.CardFault.{CardFault}
use Rattle.sd_site_cards.specs.declared.card_fault.CardFault.TheVariants as card
use Rattle.sd_message.specs.declared.stream_fault.StreamFault.{StreamFault}
use Rattle.sd_message.specs.declared.stream_fault.StreamFault.TheVariants as stream
use Rattle.sd_message.specs.StreamFaults.{stream_packet}
use Rattle.sd_message.specs.EmmFaults.{emm_fault_name}
use Rattle.sd_message.specs.EcmFaults.{ecm_fault_name}
use Rattle.sd_command_base.specs.declared.status.Status.{Status}
use Rattle.sd_command_base.specs.declared.status.Status.TheVariants.{Done, Usage, Missing, Revoked, DepotFault}
use Rattle.sd_command_base.specs.declared.status.Status.TheVariants.{PrintFault}
use Rattle.sd_command_base.specs.declared.status.Status.TheVariants.{BadSite, BadBook, BadCard, BadClear, BadStream}
use Rattle.sd_command_base.specs.declared.status.Status.TheVariants.{Limit, NoMemory, Unheard, Unclosed, Gaps, NoCat}
use Rattle.sd_command_base.specs.declared.status.Status.TheVariants.{BadWord}
use Rattle.sd_command_base.specs.declared.status.Status.TheVariants.{Clash, BadOut, OtherBook, SiteUsed, SiteUsedUp}
use Rattle.sd_command_base.specs.declared.status.LimitKind.{LimitKind}
use Rattle.sd_command_base.specs.declared.status.LimitKind.TheVariants.{SiteBytes, BookBytes, CardBytes, Book}
use Rattle.sd_command_base.specs.declared.status.LimitKind.TheVariants.{TrialHeight}
use Rattle.sd_command_base.specs.declared.status.LimitKind.TheVariants.{TrialPackets, Traced, FieldHeight}
use Rattle.sd_command_base.specs.declared.status.LimitKind.TheVariants.{FieldPackets}
use Rattle.sd_command_base.specs.declared.status.LimitKind.TheVariants.{FieldEvents}
use Rattle.sd_command_base.specs.declared.status.Clash.{Clash as ClashKind}
use Rattle.sd_command_base.specs.declared.status.Clash.TheVariants.{Heights, Masters, NoWords, SharedWord, Books}
use Rattle.sd_command_base.specs.declared.status.OutCause.{OutCause}
use Rattle.sd_command_base.specs.declared.status.OutCause.TheVariants.{There, Name}
use Rattle.sd_command_base.specs.declared.stream_refusal.StreamRefusal.{StreamRefusal}
use Rattle.sd_command_base.specs.declared.stream_refusal.StreamRefusal.TheVariants as refusal

-- the line of a refused site
unfoldable pub site_refusal_line : SiteFault → List ℕ
site_refusal_line (site.Line k) = codes "site line " ++ (decimal k ++ codes " is malformed\n")
site_refusal_line (site.Range k) = codes "site line " ++ (decimal k ++ codes " is out of range\n")
site_refusal_line site.SamePid = codes "site names one pid twice\n"
site_refusal_line (site.Extra k) = codes "site has extra line " ++ (decimal k ++ codes "\n")
site_refusal_line site.Short = codes "site is short\n"

-- a number of 32 bits in eight hexadecimal digits
unfoldable pub hex_of : ℕ → List ℕ
hex_of n = encode_lower (to_be_bytes w32 n)

-- the form that a PAT or a PMT hasn't
unfoldable pub form_text : FormFault → List ℕ
form_text form.Pointer = codes "pointer"
form_text form.Table = codes "table"
form_text form.Length = codes "length"
form_text (form.Crc found due) = codes "crc " ++ (hex_of found ++ (codes " " ++ hex_of due))
form_text form.Trailing = codes "trailing"
form_text form.NoRoom = codes "no room"
form_text form.Descriptor = codes "descriptor"

-- why a stream breaks
unfoldable pub break_text : BreakCause → List ℕ
break_text breaks.Torn = codes "torn"
break_text breaks.NoSync = codes "no sync"

-- the packet at which a stream is refused, by the packet of a fault
abbrev pub refused_packet : {F : Type 0} → (F → ℕ) → StreamRefusal F → ℕ
refused_packet packet_of (refusal.Broken found) = found.packet
refused_packet packet_of refusal.TooLong = most_packets
refused_packet packet_of (refusal.Packet fault) = packet_of fault

-- why it is, by the text of a fault
abbrev pub refusal_text : {F : Type 0} → (F → List ℕ) → StreamRefusal F → List ℕ
refusal_text text_of (refusal.Broken found) = break_text found.cause
refusal_text text_of refusal.TooLong = codes "too long"
refusal_text text_of (refusal.Packet fault) = text_of fault

-- why a clear packet is refused
unfoldable pub clear_text : ClearFault → List ℕ
clear_text (clear.AlreadyScrambled packet) = codes "already scrambled"
clear_text (clear.PidTaken packet pid) = codes "pid " ++ (decimal pid ++ codes " is taken")
clear_text (clear.PatForm packet fault) = codes "pat " ++ form_text fault
clear_text (clear.PmtForm packet fault) = codes "pmt " ++ form_text fault
clear_text (clear.TooManyPids packet) = codes "too many pids"
clear_text (clear.TooLong packet) = codes "too long"

-- the line of a clear stream that is refused
unfoldable pub clear_refusal_line : StreamRefusal ClearFault → List ℕ
clear_refusal_line found =
    codes "clear packet "
    ++ (decimal (refused_packet clear_packet found)
    ++ (codes ": " ++ (refusal_text clear_text found ++ codes "\n")))

-- a check value, and the one that it is to be
unfoldable pub checks_text : List ℕ → List ℕ → List ℕ
checks_text found due = encode_lower found ++ (codes " " ++ encode_lower due)

-- the line of a card that is refused
unfoldable pub card_refusal_line : CardFault → List ℕ
card_refusal_line card.Magic = codes "card: magic\n"
card_refusal_line card.Version = codes "card: version\n"
card_refusal_line card.Height = codes "card: height\n"
card_refusal_line card.Leaf = codes "card: leaf\n"
card_refusal_line card.Length = codes "card: length\n"
card_refusal_line (card.Check found due) = codes "card: check " ++ (checks_text found due ++ codes "\n")
card_refusal_line card.NoMemory = codes "no memory\n"

-- why a packet of a stream is refused
unfoldable pub stream_text : StreamFault → List ℕ
stream_text (stream.WrongKey packet period found due) =
    codes "wrong key of period " ++ (decimal period ++ (codes " " ++ checks_text found due))
stream_text (stream.WrongWord packet word found due) =
    codes "wrong word " ++ (decimal word ++ (codes " " ++ checks_text found due))
stream_text (stream.BadEmm packet fault) = codes "bad emm " ++ emm_fault_name fault
stream_text (stream.BadEcm packet fault) = codes "bad ecm " ++ ecm_fault_name fault
stream_text (stream.Parity packet) = codes "parity"

-- the line of a stream that is refused
unfoldable pub stream_line : StreamRefusal StreamFault → List ℕ
stream_line found =
    codes "stream packet "
    ++ (decimal (refused_packet stream_packet found)
    ++ (codes ": " ++ (refusal_text stream_text found ++ codes "\n")))

-- the line of a book that is over a limit
unfoldable pub book_limit_line : BookLimit → List ℕ
book_limit_line limit.Lines = codes "limit: book lines\n"
book_limit_line limit.Periods = codes "limit: periods\n"
book_limit_line (limit.Revoked q) = codes "limit: revoked in period " ++ (decimal q ++ codes "\n")

-- the line of what is over its limit
unfoldable pub limit_line : LimitKind → List ℕ
limit_line SiteBytes = codes "limit: site bytes\n"
limit_line BookBytes = codes "limit: book bytes\n"
limit_line CardBytes = codes "limit: card bytes\n"
limit_line (Book limit) = book_limit_line limit
limit_line TrialHeight = codes "limit: trial height\n"
limit_line TrialPackets = codes "limit: trial packets\n"
limit_line Traced = codes "limit: traced\n"
limit_line FieldHeight = codes "limit: field height\n"
limit_line FieldPackets = codes "limit: field packets\n"
limit_line FieldEvents = codes "limit: field events\n"

-- the line of a leaf that is revoked
unfoldable pub revoked_line : ℕ → ℕ → List ℕ
revoked_line leaf period =
    codes "receiver " ++ (decimal leaf ++ (codes " is revoked in period " ++ (decimal period ++ codes "\n")))

-- the line of a leaf of which no entitlement came
unfoldable pub unheard_line : ℕ → ℕ → List ℕ
unheard_line leaf period =
    codes "receiver "
    ++ (decimal leaf ++ (codes " did not hear its entitlement for period " ++ (decimal period ++ codes "\n")))

-- the line of a stream that isn't closed
unfoldable pub unclosed_line : ℕ → List ℕ
unclosed_line number = codes "stream ends before message " ++ (decimal number ++ codes "\n")

-- the line of clear packets that were not written
unfoldable pub gaps_line : ℕ → List ℕ
gaps_line packets = decimal packets ++ codes " clear packets are missing\n"

-- the line of a file that isn't there
unfoldable pub missing_line : ℕ → List ℕ
missing_line word = codes "missing file word " ++ (decimal word ++ codes "\n")

-- the line of a refused line of a file
unfoldable pub book_line : ℕ → ℕ → List ℕ
book_line word line = codes "word " ++ (decimal word ++ (codes " line " ++ (decimal line ++ codes " is refused\n")))

-- the line of a word that is out of its range
unfoldable pub word_refusal_line : ℕ → List ℕ
word_refusal_line word = codes "word " ++ (decimal word ++ codes " is out of range\n")

-- the line of two broadcasts that may not go out under one set of cards
unfoldable pub clash_line : ClashKind → List ℕ
clash_line Heights = codes "sites have two heights\n"
clash_line Masters = codes "sites have two masters\n"
clash_line (NoWords site) = codes "site " ++ (decimal site ++ codes " has no control word\n")
clash_line (SharedWord word) = codes "sites share control word " ++ (decimal word ++ codes "\n")
clash_line (Books leaf period) =
    codes "books disagree on receiver "
    ++ (decimal leaf ++ (codes " in period " ++ (decimal period ++ codes "\n")))

-- the line of a file that must not be OUT
unfoldable pub out_line : ℕ → OutCause → List ℕ
out_line word There = codes "file word " ++ (decimal word ++ codes " is there\n")
out_line word Name = codes "file word " ++ (decimal word ++ codes " does not follow file word 1\n")

-- the line of a site without a number or a control word for this packet
unfoldable pub used_up_line : ℕ → List ℕ
used_up_line packet = codes "site is used up at packet " ++ (decimal packet ++ codes "\n")

-- the line that a status prints; none where the work is done, or where printing failed
unfoldable pub line_of_status : Status → List ℕ
line_of_status Done = []
line_of_status Usage = codes "usage\n"
line_of_status (Missing word) = missing_line word
line_of_status (Revoked leaf period) = revoked_line leaf period
line_of_status DepotFault = codes "device fault\n"
line_of_status PrintFault = []
line_of_status (BadSite word fault text) = site_refusal_line fault
line_of_status (BadBook word line) = book_line word line.number
line_of_status (BadCard word fault) = card_refusal_line fault
line_of_status (BadClear refusal) = clear_refusal_line refusal
line_of_status (BadStream refusal) = stream_line refusal
line_of_status (Limit kind) = limit_line kind
line_of_status NoMemory = codes "no memory\n"
line_of_status (Unheard leaf period) = unheard_line leaf period
line_of_status (Unclosed number) = unclosed_line number
line_of_status (Gaps packets) = gaps_line packets
line_of_status NoCat = codes "no CAT for this card\n"
line_of_status (BadWord word) = word_refusal_line word
line_of_status (Clash clash) = clash_line clash
line_of_status (BadOut word cause) = out_line word cause
line_of_status SiteUsed = codes "site is used\n"
line_of_status OtherBook = codes "book is not that of the site\n"
line_of_status (SiteUsedUp packet) = used_up_line packet
