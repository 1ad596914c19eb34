-- Inner: how a live stream is sent, from one packet to the next.
use Rattle.std.specs.Prelude.{◌≡◌, ◌⊎◌, ◌-◌, ◌^◌, ℕ, Bool, true, false, List, [], ◌∷◌, ◌++◌, length, Option, Result, Ok}
use Rattle.std.specs.Prelude.{Err}
use Rattle.std.specs.List.{concat}
use Rattle.std.specs.Io.KnownBytes.{Appends, Consumes, IsAtEnd}
use Rattle.sd_base.specs.Count.{HasRisen}
use Rattle.sd_base.specs.Types.{Packet, Packets}
use Rattle.sd_ports.specs.Bytes.{AppendsPrefix}
use Rattle.sd_engine.specs.Taken.{AreBytesLeft}
use Rattle.sd_engine.specs.declared.seeking.SeekFault.{SeekFault}
use Rattle.sd_engine.specs.declared.seeking.SeekFault.TheVariants as seek
use Rattle.sd_spec.specs.Aired.{Ends, aired, by_verdict, left_from}
use Rattle.sd_spec.specs.Plan.{Plan}
use Rattle.sd_spec.specs.Sent.{body, bytes_added, closing_of, packets_from, sent}
use Rattle.sd_head.specs.Live.{IsLiveAfter, verdict_after}
use Rattle.sd_head.specs.declared.fault.LiveFault.{LiveFault}
use Rattle.sd_head.specs.declared.fault.LiveFault.TheVariants as live
use Rattle.sd_head.specs.declared.live.Live.{Live}
use Rattle.sd_command_base.specs.declared.status.Status.{Status}
use Rattle.sd_command_base.specs.declared.status.Status.TheVariants.{Done, DepotFault, NoMemory, PrintFault, SiteUsedUp}
use Rattle.sd_command_base.specs.Outside.{PageState}
use Rattle.sd_run_broadcasts.specs.Air.{air_line, air_report, live_sent, live_status, report_at}
use Rattle.sd_run_broadcasts.specs.Found.{HasFound}
use Rattle.sd_run_broadcasts.specs.declared.air_report.AirReport.{AirReport}
use Rattle.sd_run_broadcasts.specs.declared.air_send.Finished.{Finished}

-- the bytes that a packet adds after these, if it is sent
abbrev pub bytes_for : Plan → Packets → Packet → List ℕ
bytes_for plan past packet =
    by_verdict (verdict_after plan past packet) (bytes_added plan (aired plan.site past) packet) [] []

-- the bytes of what was sent before the closing message, and those of the closing message
abbrev pub body_bytes : Plan → Packets → List ℕ
body_bytes plan past = concat (body plan (aired plan.site past))

abbrev pub closing_bytes : Plan → Packets → List ℕ
closing_bytes plan past =
    concat (packets_from plan.site (sent plan (aired plan.site past)) (closing_of plan (aired plan.site past)))

-- what is reported after these packets, if so many bytes are in none
abbrev pub report_after : Plan → Packets → ℕ → AirReport
report_after plan past skipped =
    report_at plan (left_from plan.site [] 0 past) (length past) (length (aired plan.site past)) skipped

-- the status of what stopped a head end
abbrev pub fault_status : LiveFault → Status
fault_status live.Write = DepotFault
fault_status live.NoMemory = NoMemory

-- the outside stopped it
abbrev pub IsStop : Status → Type 0
IsStop status = (status ≡ NoMemory) ⊎ (status ≡ DepotFault)

-- the status of a result
abbrev pub status_in : {T : Type 0} → Result T Status → Status
status_in (Ok x) = Done
status_in (Err status) = status

-- the result of a packet after these: the broadcast goes on, or it ends before the packet, or the outside stopped it
abbrev pub SendsPacket : Plan → Packets → Packet → Option (List ℕ) → Option (List ℕ) → Live → Live →
    Result Bool Status → Type 0
SendsPacket plan past packet held held' old new (Ok true) =
    IsLiveAfter plan (past ++ packet ∷ []) new × Appends held held' (bytes_for plan past packet)
SendsPacket plan past packet held held' old new (Ok false) =
    (verdict_after plan past packet ≡ Ends) × (new ≡ old) × Appends held held' []
SendsPacket plan past packet held held' old new (Err status) =
    IsStop status × AppendsPrefix held held' (bytes_for plan past packet)

-- the result of the closing message after these packets
abbrev pub Finishes : Plan → Packets → ℕ → Bool → Option (List ℕ) → Option (List ℕ) → Result Finished Status → Type 0
Finishes plan past skipped used_up held held' (Ok finished) =
    (finished ≡ record { report = report_after plan past skipped; used_up = used_up })
    × Appends held held' (closing_bytes plan past)
Finishes plan past skipped used_up held held' (Err status) =
    IsStop status × AppendsPrefix held held' (closing_bytes plan past)

-- the result of a stream in which nothing more is found for this cause
abbrev pub Stops : Plan → Packets → SeekFault → Option (List ℕ) → Option (List ℕ) → Result Finished Status → Type 0
Stops plan past seek.Read held held' result = (result ≡ Err DepotFault) × (held' ≡ held)
Stops plan past seek.Write held held' result = (result ≡ Err DepotFault) × (held' ≡ held)
Stops plan past seek.TooLong held held' result = Finishes plan past (2 ^ 64 - 1) true held held' result

-- the status at the end of a stream that was sent
abbrev pub sent_status_at : Bool → ℕ → Status
sent_status_at true packets = SiteUsedUp packets
sent_status_at false packets = Done

abbrev pub finished_status : Finished → Status
finished_status finished = sent_status_at finished.used_up finished.report.packets

-- what came of a live stream of these bytes: it was sent to its end, or the outside stopped it
abbrev pub SendsLiveStream : Plan → List ℕ → Option (List ℕ) → Option (List ℕ) → Result Finished Status → Type 0
SendsLiveStream plan bytes held held' (Ok finished) = (finished.report ≡ air_report plan bytes)
    × (finished_status finished ≡ live_status plan.site bytes) × Appends held held' (live_sent plan bytes)
SendsLiveStream plan bytes held held' (Err status) = IsStop status × AppendsPrefix held held' (live_sent plan bytes)

-- what came of the live stream that was left
pub record SendsLive (plan : Plan) (left held held' : Option (List ℕ)) (result : Result Finished Status) :
    Type 0 where
  pub bytes : List ℕ
  pub is_left : AreBytesLeft left bytes
  pub sends : SendsLiveStream plan bytes held held' result

-- so far: these bytes were read, these packets were found in them, and what is sent of them was written
pub record IsSending (plan : Plan) (left left' held held' : Option (List ℕ)) (live : Live) (waiting : List ℕ)
    (ended : Bool) (skipped count : ℕ) : Type 0 where
  pub bytes : List ℕ
  pub packets : Packets
  pub read : Consumes left left' bytes
  pub end : ended ≡ true → IsAtEnd left'
  pub found : HasFound bytes packets waiting ended skipped
  pub counted : length packets ≡ count
  pub keeps : IsLiveAfter plan packets live
  pub wrote : Appends held held' (body_bytes plan packets)

-- how the sending ended, before its report is printed
abbrev pub sending_result : Result Finished Status → Result (Unit {0}) Status
sending_result (Ok finished) = Ok tt
sending_result (Err status) = Err status

-- The report was printed, and the command ends as the sending did; or memory was out for the report, or printing
-- failed.
abbrev pub TellsReport : Finished → PageState → PageState → Status → Type 0
TellsReport finished a b status =
    ((status ≡ finished_status finished) × Appends a.printed b.printed (air_line finished.report)
    × (b.faults ≡ a.faults))
    ⊎ (((status ≡ NoMemory) × (b ≡ a))
    ⊎ ((status ≡ PrintFault) × AppendsPrefix a.printed b.printed (air_line finished.report)
    × HasRisen a.faults b.faults))
