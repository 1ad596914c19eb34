-- Public meaning: `head SITE BOOK CLEAR OUT` [this project, docs/FORMATS.md, Broadcast].
use Rattle.std.specs.Prelude.{ℕ, List, [], take, Option, Some, None, Result, Ok, Err}
use Rattle.std.specs.List.{concat}
use Rattle.sd_engine.specs.Taken.{StreamEnd, Whole, Breaks, RunsOn, packets_taken, end_of, AreBytesLeft}
use Rattle.sd_engine.specs.declared.driver.DriveFault.{DriveFault}
use Rattle.sd_engine.specs.declared.driver.DriveFault.TheVariants as drive
use Rattle.sd_head.specs.declared.fault.HeadFault.{HeadFault}
use Rattle.sd_head.specs.declared.fault.HeadFault.TheVariants as head
use Rattle.sd_site_cards.specs.SiteFields.{SiteFields}
use Rattle.sd_site_cards.specs.Text.{book_line_of, site_of}
use Rattle.sd_site_cards.specs.declared.book_line.BookLine.{BookLine}
use Rattle.sd_spec.specs.Plan.{Plan}
use Rattle.sd_spec.specs.Refused.{refusal_from, whole_refusal}
use Rattle.sd_spec.specs.Sent.{body, broadcast}
use Rattle.sd_message.specs.declared.clear_fault.ClearFault.{ClearFault}
use Rattle.sd_message.specs.ClearFaults.{clear_packet}
use Rattle.sd_command_base.specs.declared.status.Status.{Status}
use Rattle.sd_command_base.specs.declared.status.Status.TheVariants.{Done, BadClear, DepotFault, NoMemory}
use Rattle.sd_command_base.specs.declared.stream_refusal.StreamRefusal.TheVariants.{Broken, TooLong, Packet}
use Rattle.sd_command_base.specs.Spec.{Spec, FileArgument, Readings, whole_file_bytes, of_result, value, within, ◌>>=◌}
use Rattle.sd_command_base.specs.Work.{Uncounted, Work}
use Rattle.sd_command_base.specs.declared.status.LimitKind.TheVariants.{SiteBytes}
use Rattle.sd_command_base.specs.Files.{most_site_bytes, own_book_of_file, site_or_status}
use Rattle.sd_command_base.specs.Turned.{turning, StreamWritten}

-- why a clear stream that ends so is refused: the first refusal of a packet, or else, where it ends whole, that of the
-- end
unfoldable pub stream_refusal : SiteFields → List (List ℕ) → StreamEnd → Option ClearFault
stream_refusal site clear Whole = whole_refusal site clear
stream_refusal site clear (Breaks found) = refusal_from site [] clear
stream_refusal site clear RunsOn = refusal_from site [] clear

-- the status that comes of the end of a clear stream that is not refused
abbrev pub clear_status : StreamEnd → Status
clear_status Whole = Done
clear_status (Breaks found) = BadClear (Broken found)
clear_status RunsOn = BadClear TooLong

abbrev pub status_where : StreamEnd → Option ClearFault → Status
status_where end None = clear_status end
status_where end (Some fault) = BadClear (Packet fault)

-- what is sent for a clear stream: the broadcast, or its body alone where the stream breaks, or that of the packets
-- before the first one that is refused
abbrev pub head_sent : Plan → List (List ℕ) → StreamEnd → List (List ℕ)
head_sent plan clear Whole = broadcast plan clear
head_sent plan clear (Breaks found) = body plan clear
head_sent plan clear RunsOn = body plan clear

abbrev pub sent_where : Plan → List (List ℕ) → StreamEnd → Option ClearFault → List (List ℕ)
sent_where plan clear end None = head_sent plan clear end
sent_where plan clear end (Some fault) = body plan (take (clear_packet fault) clear)

unfoldable pub sent_of : Plan → List ℕ → List ℕ
sent_of plan bytes =
    concat (sent_where plan (packets_taken bytes) (end_of bytes) (stream_refusal plan.site (packets_taken bytes)
    (end_of bytes)))

unfoldable pub sent_status : Plan → List ℕ → Status
sent_status plan bytes = status_where (end_of bytes) (stream_refusal plan.site (packets_taken bytes) (end_of bytes))

-- makes OUT of what is sent for a clear stream of these bytes
abbrev pub sending : Plan → FileArgument → List ℕ → Work
sending plan out bytes = turning Uncounted out (sent_of plan bytes) (sent_status plan bytes)

-- a site that was judged, with what its line 13 says of its book, if it is there
abbrev pub with_line : Option BookLine → Result SiteFields Status → Result (SiteFields × Option BookLine) Status
with_line line (Err status) = Err status
with_line line (Ok fields) = Ok (fields, line)

-- the site of what the file of this word gave, with what its line 13 says
unfoldable pub site_and_line_of_file : ℕ → Option (List ℕ) → Spec (SiteFields × Option BookLine)
site_and_line_of_file word got =
    within word most_site_bytes SiteBytes got
    >>= λ bytes. of_result (with_line (book_line_of bytes) (site_or_status word bytes (site_of bytes)))

-- the site and its own book of what their files gave
unfoldable pub head_plan_by : ℕ → ℕ → Option (List ℕ) → Option (List ℕ) → Spec Plan
head_plan_by site book site_got book_got = do
  said ← site_and_line_of_file site site_got
  commands ← own_book_of_file book said.0.height said.1 book_got
  value (record { site = said.0; commands = commands })

abbrev pub head_plan_meaning : FileArgument → FileArgument → Readings → Spec Plan
head_plan_meaning site book given = head_plan_by site.number book.number (given site) (given book)

-- what is sent of what the file of this word gave
abbrev pub sending_of : FileArgument → FileArgument → Option (List ℕ) → Plan → Spec Work
sending_of clear out got plan = whole_file_bytes clear.number got >>= λ bytes. value (sending plan out bytes)

unfoldable pub head_meaning : FileArgument → FileArgument → FileArgument → FileArgument → Readings → Spec Work
head_meaning site book clear out given = head_plan_meaning site book given >>= sending_of clear out (given clear)

-- the status of a clear stream that was driven
abbrev pub head_stop_status : Option ClearFault → Status
head_stop_status None = NoMemory
head_stop_status (Some fault) = BadClear (Packet fault)

abbrev pub sent_told : {F : Type 0} → (F → Option ClearFault) → Result ℕ (DriveFault F) → Status
sent_told told (Ok count) = Done
sent_told told (Err (drive.Broken found)) = BadClear (Broken found)
sent_told told (Err drive.TooLong) = BadClear TooLong
sent_told told (Err drive.ReadFault) = DepotFault
sent_told told (Err drive.WriteFault) = DepotFault
sent_told told (Err (drive.Refused fault)) = head_stop_status (told fault)

-- the refusal of a packet, where it is none for want of memory
abbrev pub refusal_in : HeadFault → Option ClearFault
refusal_in (head.Clear fault) = Some fault
refusal_in head.NoMemory = None

-- what is sent for the stream that was left was written, as far as its source and sink went
pub record SendsLeft (plan : Plan) (left before now : Option (List ℕ)) (status : Status) : Type 0 where
  pub bytes : List ℕ
  pub is_left : AreBytesLeft left bytes
  pub wrote : StreamWritten (sent_of plan bytes) (sent_status plan bytes) before now status
