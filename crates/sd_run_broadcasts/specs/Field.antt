-- Public meaning: `field SITE CLEAR SCRIPT` [this project, docs/FORMATS.md, Field].
use Rattle.std.specs.Prelude.{◌^◌, ◌*◌, ◌/◌, ℕ, zero, suc, List, [], ◌++◌, length, take}
use Rattle.std.specs.Prelude.{codes, Option, Some, None, Result, Ok, Err}
use Rattle.std.specs.List.{concat}
use Rattle.std.specs.Fmt.{decimal}
use Rattle.hex.specs.Hex.{encode_lower}
use Rattle.sha2.specs.Sha256.{sha256}
use Rattle.sd_engine.specs.Stream.{packets_of, break_of}
use Rattle.sd_engine.specs.declared.fault.StreamBreak.{StreamBreak}
use Rattle.sd_site_cards.specs.SiteFields.{SiteFields}
use Rattle.sd_book.specs.Commands.{last_period}
use Rattle.sd_spec.specs.Refused.{refusal_from}
use Rattle.sd_spec.specs.Sent.{body}
use Rattle.sd_message.specs.declared.clear_fault.ClearFault.{ClearFault}
use Rattle.sd_spec.specs.declared.event.Event.{Event}
use Rattle.sd_field.specs.declared.fault.ScriptFault.{ScriptFault}
use Rattle.sd_field.specs.declared.fault.ScriptFault.TheVariants as script
use Rattle.sd_field.specs.Fields.{FieldValue, plan_of_field, sends_of, field_clear_packets, written_of}
use Rattle.sd_field.specs.Script.{script_of}
use Rattle.sd_command_base.specs.declared.status.Status.{Status}
use Rattle.sd_command_base.specs.declared.status.Status.TheVariants.{BadBook, BadClear, Limit, NoMemory}
use Rattle.sd_command_base.specs.declared.bad_line.LineCause.TheVariants.{Leaf}
use Rattle.sd_command_base.specs.BadLines.{bad_line, malformed}
use Rattle.sd_command_base.specs.declared.stream_refusal.StreamRefusal.TheVariants.{Broken, Packet}
use Rattle.sd_command_base.specs.declared.status.LimitKind.TheVariants.{BookBytes, FieldHeight, FieldPackets}
use Rattle.sd_command_base.specs.declared.status.LimitKind.TheVariants.{FieldEvents}
use Rattle.sd_command_base.specs.Spec.{Spec, FileArgument, Readings, of_result, value, within, ◌>>=◌}
use Rattle.sd_command_base.specs.Work.{Work}
use Rattle.sd_command_base.specs.Files.{low_site_of_file, most_book_bytes}
use Rattle.sd_command_base.specs.Printed.{printing}

-- the greatest height of a field's tree
abbrev pub most_field_height : ℕ
most_field_height = 6

-- the bytes of the longest clear stream of a field: 16,384 packets
abbrev pub field_clear_bytes : ℕ
field_clear_bytes = 16384 * 188

-- the packets of a clear stream, or where it breaks
abbrev pub unbroken : Option StreamBreak → List (List ℕ) → Result (List (List ℕ)) Status
unbroken None packets = Ok packets
unbroken (Some found) packets = Err (BadClear (Broken found))

-- the packets of a clear stream of these bytes, or the status of the place where it breaks
abbrev pub told_clear : List ℕ → Result (List (List ℕ)) Status
told_clear bytes = unbroken (break_of bytes) (packets_of bytes)

-- the packets of the clear stream in the file of argument `word`
unfoldable pub clear_of_file : ℕ → Option (List ℕ) → Spec (List (List ℕ))
clear_of_file word got = within word field_clear_bytes FieldPackets got >>= λ bytes. of_result (told_clear bytes)

-- the status of a script of these bytes that is refused for a tree of height d, in the file of argument `word`
abbrev pub refused_script : ℕ → ℕ → List ℕ → ScriptFault → Status
refused_script word d bytes (script.Line k) = BadBook word (malformed k bytes)
refused_script word d bytes (script.Leaf k) = BadBook word (bad_line (Leaf d) k bytes)
refused_script word d bytes script.Events = Limit FieldEvents
refused_script word d bytes script.NoMemory = NoMemory

-- the events of a script in the file of argument `word`, or the status of its fault
abbrev pub script_or_status : ℕ → ℕ → List ℕ → Result (List Event) ScriptFault → Result (List Event) Status
script_or_status word d bytes (Ok events) = Ok events
script_or_status word d bytes (Err fault) = Err (refused_script word d bytes fault)

-- the events of the script in the file of argument `word`, for a tree of height d
unfoldable pub script_of_file : ℕ → ℕ → Option (List ℕ) → Spec (List Event)
script_of_file word d got =
    within word most_book_bytes BookBytes got >>= λ bytes. of_result (script_or_status word d bytes (script_of d bytes))

-- a site and the packets of a clear stream
pub record Inputs : Type 0 where
  pub site : SiteFields
  pub clear : List (List ℕ)

-- the site and the clear stream in the files of two arguments
unfoldable pub inputs_by : ℕ → ℕ → Option (List ℕ) → Option (List ℕ) → Spec Inputs
inputs_by site clear site_got clear_got = do
  fields ← low_site_of_file site most_field_height FieldHeight site_got
  packets ← clear_of_file clear clear_got
  value (record { site = fields; clear = packets })

-- the site and the clear stream that the two files say
abbrev pub inputs_meaning : FileArgument → FileArgument → Readings → Spec Inputs
inputs_meaning site clear given = inputs_by site.number clear.number (given site) (given clear)

-- a field whose events are all done
abbrev pub done_field : SiteFields → List (List ℕ) → List Event → FieldValue
done_field site clear events =
    record { site = site; clear = clear; events = events; done = length events; failed = None }

-- the line of the number of sends, the number of packets that were sent, and the book's last period [this project,
-- docs/FORMATS.md, Field]
unfoldable pub first_line : ℕ → ℕ → ℕ → List ℕ
first_line sends packets period =
    codes "sends " ++ (decimal sends ++ (codes " packets " ++ (decimal packets ++
    (codes " period " ++ (decimal period ++ codes "\n")))))

-- the line of leaf u, whose receivers wrote this number of packets with this digest [this project, docs/FORMATS.md,
-- Field]
unfoldable pub field_receiver_line : ℕ → ℕ → List ℕ → List ℕ
field_receiver_line u wrote digest =
    codes "receiver " ++ (decimal u ++ (codes " wrote " ++ (decimal wrote ++
    (codes " digest " ++ (digest ++ codes "\n")))))

-- the first 16 bytes of the SHA-256 of these, in hexadecimal [FIPS 180-4, 6.2]
unfoldable pub digest_of : List ℕ → List ℕ
digest_of bytes = encode_lower (take 16 (sha256 bytes))

-- the line of leaf u, whose receivers wrote these bytes
abbrev pub wrote_line : ℕ → List ℕ → List ℕ
wrote_line u bytes = field_receiver_line u (length bytes / 188) (digest_of bytes)

-- the first line of a field, and then those of the first n leaves
unfoldable pub lines_of_field : FieldValue → ℕ → List ℕ
lines_of_field v zero =
    first_line (sends_of v) (length (concat (body (plan_of_field v) (field_clear_packets v))) / 188)
    (last_period (plan_of_field v).commands)
lines_of_field v (suc n) = lines_of_field v n ++ wrote_line n (written_of n v)

-- a text, unless a clear packet is refused
abbrev pub unrefused : Option ClearFault → List ℕ → Result (List ℕ) Status
unrefused None text = Ok text
unrefused (Some fault) text = Err (BadClear (Packet fault))

-- all lines of a field, or the first refusal among the clear packets that are sent
unfoldable pub text_in : FieldValue → Result (List ℕ) Status
text_in v = unrefused (refusal_from v.site [] (field_clear_packets v)) (lines_of_field v (2 ^ v.site.height))

-- the text that `field` prints of a site, a clear stream and events, or the status of a refusal
abbrev pub field_text : SiteFields → List (List ℕ) → List Event → Result (List ℕ) Status
field_text site clear events = text_in (done_field site clear events)

-- the work of `field SITE CLEAR SCRIPT`: all events are done in memory, and then the lines are printed [this project,
-- docs/FORMATS.md, Field]
unfoldable pub field_meaning : FileArgument → FileArgument → FileArgument → Readings → Spec Work
field_meaning site clear script given =
    inputs_meaning site clear given
    >>= λ inputs. script_of_file script.number inputs.site.height (given script)
    >>= λ events. value (printing (field_text inputs.site inputs.clear events))
