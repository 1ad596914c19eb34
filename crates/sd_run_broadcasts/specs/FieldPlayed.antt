-- Inner: how the events of a field are done, one after the other.
use Rattle.std.specs.Prelude.{◌≡◌, ◌⊎◌, ◌<◌, [], Bool, true, false, length, Some, None, Result, Ok, Err}
use Rattle.sd_spec.specs.Refused.{refusal_from}
use Rattle.sd_message.specs.declared.clear_fault.ClearFault.{ClearFault}
use Rattle.sd_field.specs.Fields.{FieldValue, after_next, next_refusal, field_clear_packets}
use Rattle.sd_command_base.specs.declared.status.Status.{Status}
use Rattle.sd_command_base.specs.declared.status.Status.TheVariants.{BadClear, NoMemory}
use Rattle.sd_command_base.specs.declared.stream_refusal.StreamRefusal.TheVariants.{Packet}
use Rattle.sd_run_broadcasts.specs.Field.{done_field}

-- one event was done, or none was left, or the clear packet that it sends is refused, or memory didn't suffice
abbrev pub EventOutcome : FieldValue → FieldValue → Result Bool Status → Type 0
EventOutcome before now (Ok true) =
    (now ≡ after_next before) × (before.done < length before.events) × (next_refusal before ≡ None)
EventOutcome before now (Ok false) = (now ≡ before) × (before.done ≡ length before.events)
EventOutcome before now (Err status) =
    ((fault : ClearFault) × (next_refusal before ≡ Some fault) × (status ≡ BadClear (Packet fault)))
    ⊎ (status ≡ NoMemory)

-- this field once all of its events are done
abbrev pub all_done : FieldValue → FieldValue
all_done v = done_field v.site v.clear v.events

-- all events were done, or one sends the first clear packet that is refused, or memory didn't suffice
abbrev pub PlayOutcome : FieldValue → FieldValue → Result (Unit {0}) Status → Type 0
PlayOutcome before now (Ok done) =
    (now ≡ all_done before) × (refusal_from before.site [] (field_clear_packets (all_done before)) ≡ None)
PlayOutcome before now (Err status) =
    ((fault : ClearFault) × (refusal_from before.site [] (field_clear_packets (all_done before)) ≡ Some fault)
    × (status ≡ BadClear (Packet fault)))
    ⊎ (status ≡ NoMemory)
