-- `field` never means `Usage`.
use Rattle.std.proofs.Common.{ℕ, List, Option, Some, None, Result, Ok, Err}
use Rattle.sd_engine.specs.Stream.{packets_of, break_of}
use Rattle.sd_engine.specs.declared.fault.StreamBreak.{StreamBreak}
use Rattle.sd_spec.specs.declared.event.Event.{Event}
use Rattle.sd_field.specs.Script.{script_of}
use Rattle.sd_field.specs.declared.fault.ScriptFault.{ScriptFault}
use Rattle.sd_field.specs.declared.fault.ScriptFault.TheVariants as script
use Rattle.sd_command_base.specs.declared.status.LimitKind.TheVariants.{BookBytes, FieldHeight, FieldPackets}
use Rattle.sd_command_base.specs.Spec.{FileArgument, Readings, of_result, value, within, ◌>>=◌}
use Rattle.sd_command_base.specs.Files.{low_site_of_file, most_book_bytes}
use Rattle.sd_command_base.specs.Printed.{printing}
use Rattle.sd_command_base.proofs.Others.{IsOther, other_after, other_file, other_low_site}
use Rattle.sd_run_broadcasts.specs.Field.{clear_of_file, field_meaning, field_text, inputs_by, field_clear_bytes}
use Rattle.sd_run_broadcasts.specs.Field.{most_field_height, script_of_file, told_clear, script_or_status, unbroken}

other_unbroken : (found : Option StreamBreak) (packets : List (List ℕ)) → IsOther (unbroken found packets)
other_unbroken None packets = tt
other_unbroken (Some found) packets = λ e. cc

other_clear : (word : ℕ) (got : Option (List ℕ)) → IsOther (clear_of_file word got).result
unfolding clear_of_file
other_clear word got =
    other_after (within word field_clear_bytes FieldPackets got).calls
    (within word field_clear_bytes FieldPackets got).result (λ bytes. of_result (told_clear bytes))
    (other_file word field_clear_bytes FieldPackets got) (λ bytes. other_unbroken (break_of bytes) (packets_of bytes))

other_told : (word d : ℕ) (bytes : List ℕ) (r : Result (List Event) ScriptFault) →
    IsOther (script_or_status word d bytes r)
other_told word d bytes (Ok events) = tt
other_told word d bytes (Err (script.Line k)) = λ e. cc
other_told word d bytes (Err (script.Leaf k)) = λ e. cc
other_told word d bytes (Err script.Events) = λ e. cc
other_told word d bytes (Err script.NoMemory) = λ e. cc

other_script : (word d : ℕ) (got : Option (List ℕ)) → IsOther (script_of_file word d got).result
unfolding script_of_file
other_script word d got =
    other_after (within word most_book_bytes BookBytes got).calls (within word most_book_bytes BookBytes got).result
    (λ bytes. of_result (script_or_status word d bytes (script_of d bytes)))
    (other_file word most_book_bytes BookBytes got)
    (λ bytes. other_told word d bytes (script_of d bytes))

other_inputs : (site clear : ℕ) (site_got clear_got : Option (List ℕ)) →
    IsOther (inputs_by site clear site_got clear_got).result
unfolding inputs_by
other_inputs site clear site_got clear_got =
    other_after (low_site_of_file site most_field_height FieldHeight site_got).calls
    (low_site_of_file site most_field_height FieldHeight site_got).result
    (λ fields. clear_of_file clear clear_got >>= λ packets. value (record { site = fields; clear = packets }))
    (other_low_site site most_field_height FieldHeight site_got)
    (λ fields. other_after (clear_of_file clear clear_got).calls (clear_of_file clear clear_got).result
    (λ packets. value (record { site = fields; clear = packets })) (other_clear clear clear_got) (λ packets. tt))

pub other_field : (site clear script : FileArgument) (given : Readings) →
    IsOther (field_meaning site clear script given).result
unfolding field_meaning
other_field site clear script given =
    other_after (inputs_by site.number clear.number (given site) (given clear)).calls
    (inputs_by site.number clear.number (given site) (given clear)).result
    (λ inputs. script_of_file script.number inputs.site.height (given script)
    >>= λ events. value (printing (field_text inputs.site inputs.clear events)))
    (other_inputs site.number clear.number (given site) (given clear))
    (λ inputs. other_after (script_of_file script.number inputs.site.height (given script)).calls
    (script_of_file script.number inputs.site.height (given script)).result
    (λ events. value (printing (field_text inputs.site inputs.clear events)))
    (other_script script.number inputs.site.height (given script)) (λ events. tt))
