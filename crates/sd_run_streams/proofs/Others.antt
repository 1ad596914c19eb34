-- No command of this crate ever means `Usage`.
use Rattle.sd_site_cards.specs.SiteFields.{SiteFields}
use Rattle.sd_command_base.specs.Spec.{FileArgument, Readings, whole_file_bytes, value}
use Rattle.sd_command_base.proofs.Others.{IsOther, other_after, other_stream, other_site_file}
use Rattle.sd_command_base.specs.Files.{site_of_file}
use Rattle.sd_run_streams.specs.Tables.{inspecting, tables_meaning}
use Rattle.sd_run_streams.specs.Messages.{messages_meaning, monitoring, messages_stream_meaning}

pub other_tables : (stream : FileArgument) (given : Readings) → IsOther (tables_meaning stream given).result
unfolding tables_meaning
other_tables stream given =
    other_after (whole_file_bytes stream.number (given stream)).calls (whole_file_bytes stream.number
    (given stream)).result
    (λ bytes. value (inspecting bytes)) (other_stream stream.number (given stream)) (λ bytes. tt)

other_monitored : (site : SiteFields) (stream : FileArgument) (given : Readings) →
    IsOther (messages_stream_meaning site stream given).result
other_monitored site stream given =
    other_after (whole_file_bytes stream.number (given stream)).calls (whole_file_bytes stream.number
    (given stream)).result
    (λ bytes. value (monitoring site bytes)) (other_stream stream.number (given stream)) (λ bytes. tt)

pub other_messages : (site stream : FileArgument) (given : Readings) →
    IsOther (messages_meaning site stream given).result
unfolding messages_meaning
other_messages site stream given =
    other_after (site_of_file site.number (given site)).calls (site_of_file site.number (given site)).result
    (λ fields. messages_stream_meaning fields stream given) (other_site_file site.number (given site))
    (λ fields. other_monitored fields stream given)
