-- Public meaning: `receive CARD STREAM OUT` [this project, docs/FORMATS.md, Receiver].
use Rattle.std.specs.Prelude.{ℕ, zero, suc, ◌+◌, ◌*◌, ◌/◌, ◌≤◌, List, [], ◌∷◌, take, drop, reverse, Option}
use Rattle.std.specs.Prelude.{Some, None, is_none, if◌then◌else◌, Result}
use Rattle.std.specs.List.{concat}
use Rattle.sd_engine.specs.Taken.{StreamEnd, Whole, Breaks, RunsOn, packets_taken, end_of, AreBytesLeft}
use Rattle.sd_engine.specs.declared.driver.DriveFault.{DriveFault}
use Rattle.sd_engine.specs.declared.driver.DriveFault.TheVariants as drive
use Rattle.sd_site_cards.specs.declared.file.TheConstants.{SECRET_BYTES}
use Rattle.sd_site_cards.specs.declared.format.TheConstants.{SECRETS_AT}
use Rattle.sd_site_cards.specs.CardFaults.{height_in, card_leaf, ca_in, fault_in}
use Rattle.sd_site_cards.specs.CardFields.{CardFields, card_saying}
use Rattle.sd_message.specs.declared.stream_fault.StreamFault.{StreamFault}
use Rattle.sd_spec.specs.declared.ending.Ending.{Ending}
use Rattle.sd_spec.specs.declared.ending.Ending.TheVariants as end
use Rattle.sd_spec.specs.Offered.{offered, out_from, break_from}
use Rattle.sd_spec.specs.Ending.{ending_of}
use Rattle.sd_receive.specs.Receiving.{taken_keys}
use Rattle.sd_command_base.specs.declared.status.Status.{Status}
use Rattle.sd_command_base.specs.declared.status.Status.TheVariants.{Done, Revoked, DepotFault, BadStream}
use Rattle.sd_command_base.specs.declared.status.Status.TheVariants.{Unheard}
use Rattle.sd_command_base.specs.declared.status.Status.TheVariants.{Unclosed, Gaps, NoCat}
use Rattle.sd_command_base.specs.declared.stream_refusal.StreamRefusal.TheVariants.{Broken, TooLong, Packet}
use Rattle.sd_command_base.specs.declared.status.LimitKind.TheVariants.{CardBytes}
use Rattle.sd_command_base.specs.Spec.{Spec, FileArgument, Readings, whole_file_bytes, within, of_result, value, ◌>>=◌}
use Rattle.sd_command_base.specs.Work.{UpTo, Work}
use Rattle.sd_command_base.specs.Files.{card_unless, most_card_bytes}
use Rattle.sd_command_base.specs.Turned.{turning, StreamWritten}

-- the first n secrets in these bytes
unfoldable pub secrets_of : ℕ → List ℕ → List (List ℕ)
secrets_of zero bytes = []
secrets_of (suc n) bytes = take SECRET_BYTES bytes ∷ secrets_of n (drop SECRET_BYTES bytes)

-- what a card's file says by its fields [this project, docs/FORMATS.md, Card]
unfoldable pub card_said : List ℕ → CardFields
card_said bytes =
    card_saying (height_in bytes) (card_leaf bytes) (ca_in bytes)
    (secrets_of (height_in bytes * (height_in bytes + 1) / 2 + 1) (drop SECRETS_AT bytes))

-- the card that the bytes of this word's file say, or the status of its fault
unfoldable pub card_refusal : ℕ → List ℕ → Result CardFields Status
card_refusal word bytes = card_unless word (fault_in bytes) (card_said bytes)

-- the card in the file of argument `word`
unfoldable pub card_of_file : ℕ → Option (List ℕ) → Spec CardFields
card_of_file word got = within word most_card_bytes CardBytes got >>= λ bytes. of_result (card_refusal word bytes)

-- the card in the file of this argument
abbrev pub card_argument : Readings → FileArgument → Spec CardFields
card_argument given word = card_of_file word.number (given word)

-- the status of how a stream ended for the receiver of this leaf
abbrev pub ending_status : ℕ → Ending → Status
ending_status leaf end.Opened = Done
ending_status leaf (end.Revoked period) = Revoked leaf period
ending_status leaf (end.Unheard period) = Unheard leaf period
ending_status leaf end.NoCat = NoCat
ending_status leaf (end.Unclosed number) = Unclosed number
ending_status leaf (end.Gaps packets) = Gaps packets

-- how a stream ended for a card after all its packets
unfoldable pub receive_end_status : CardFields → List (List ℕ) → Status
receive_end_status card packets = ending_status card.leaf (ending_of card (reverse packets))

-- the status of a stream of which no packet is refused
abbrev pub received_status_at : CardFields → List (List ℕ) → StreamEnd → Status
received_status_at card packets Whole = receive_end_status card packets
received_status_at card packets (Breaks found) = BadStream (Broken found)
received_status_at card packets RunsOn = BadStream TooLong

-- this status, unless a packet is refused
abbrev pub unless_refused : Option StreamFault → Status → Status
unless_refused None status = status
unless_refused (Some fault) status = BadStream (Packet fault)

-- what the receiver of a card writes of a stream of these bytes
unfoldable pub received_of : CardFields → List ℕ → List ℕ
received_of card bytes = concat (out_from card [] (packets_taken bytes))

-- the status with which the receiver of a card ends a stream of these bytes
unfoldable pub received_status : CardFields → List ℕ → Status
received_status card bytes =
    unless_refused (break_from card [] (packets_taken bytes)) (received_status_at card (packets_taken bytes)
    (end_of bytes))

-- the first of these packets, up to the one that is refused, after others [this project, docs/FORMATS.md, Receiver]
unfoldable pub upto_break : CardFields → List (List ℕ) → List (List ℕ) → List (List ℕ)
upto_break card past [] = []
upto_break card past (packet ∷ packets) =
    packet ∷ (if is_none (offered card past packet).fault then upto_break card (packet ∷ past) packets else [])

-- the tree's height in steps of the generator for each key that is taken, up to the packet that is refused
unfoldable pub received_steps : CardFields → List ℕ → ℕ
received_steps card bytes = card.height * taken_keys card [] (upto_break card [] (packets_taken bytes))

-- the work that makes OUT of what a card opens of a stream of these bytes
abbrev pub receiving : CardFields → FileArgument → List ℕ → Work
receiving card out bytes =
    turning (UpTo (received_steps card bytes)) out (received_of card bytes) (received_status card bytes)

-- the work of `receive` once the card is known
abbrev pub receive_stream_meaning : CardFields → FileArgument → FileArgument → Readings → Spec Work
receive_stream_meaning card stream out given = whole_file_bytes stream.number (given stream) >>=
    λ bytes. value (receiving card out bytes)

-- the work of `receive CARD STREAM OUT` [this project, docs/FORMATS.md, Receiver]
unfoldable pub receive_meaning : FileArgument → FileArgument → FileArgument → Readings → Spec Work
receive_meaning card stream out given = card_argument given card >>= λ fields. receive_stream_meaning fields stream out
    given

-- the status of a drive that didn't reach the end of its stream
abbrev pub stopped_status : DriveFault StreamFault → Status
stopped_status (drive.Broken found) = BadStream (Broken found)
stopped_status drive.TooLong = BadStream TooLong
stopped_status drive.ReadFault = DepotFault
stopped_status drive.WriteFault = DepotFault
stopped_status (drive.Refused fault) = BadStream (Packet fault)

-- what a card opens of the rest of a stream was written, as far as the two ports went, within its steps
pub record ReceivesLeft (card : CardFields) (left held now : Option (List ℕ)) (from to : ℕ) (status : Status) : Type 0
  where
    pub bytes : List ℕ
    pub is_left : AreBytesLeft left bytes
    pub wrote : StreamWritten (received_of card bytes) (received_status card bytes) held now status
    pub steps : to ≤ from + received_steps card bytes
