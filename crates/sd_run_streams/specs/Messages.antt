-- Public meaning: `messages SITE STREAM` [this project, docs/FORMATS.md, Messages printed].
use Rattle.std.specs.Prelude.{ℕ, List, false, Option, None}
use Rattle.sd_engine.specs.Taken.{packets_taken, end_of, AreBytesLeft}
use Rattle.sd_site_cards.specs.SiteFields.{SiteFields}
use Rattle.sd_run_streams.specs.MessageLines.{message_lines}
use Rattle.sd_command_base.specs.declared.status.Status.{Status}
use Rattle.sd_command_base.specs.Outside.{PageState}
use Rattle.sd_command_base.specs.Spec.{Spec, FileArgument, Readings, whole_file_bytes, value, ◌>>=◌}
use Rattle.sd_command_base.specs.Work.{NoSteps, Work}
use Rattle.sd_command_base.specs.Prints.{PrintsReading}
use Rattle.sd_command_base.specs.Files.{site_in}
use Rattle.sd_command_base.specs.Streams.{stream_status}

-- prints the lines of the messages on the site's PIDs in a stream of these bytes
abbrev pub monitoring : SiteFields → List ℕ → Work
monitoring site bytes = record {
  mark = None;
  out = None;
  pieces = message_lines site 0 (packets_taken bytes);
  ends = stream_status (end_of bytes);
  breaks = false;
  live = false;
  steps = NoSteps;
}

-- the work that the stream's file says, once the site is known
abbrev pub messages_stream_meaning : SiteFields → FileArgument → Readings → Spec Work
messages_stream_meaning site stream given = whole_file_bytes stream.number (given stream) >>=
    λ bytes. value (monitoring site bytes)

-- the work that the two files say
unfoldable pub messages_meaning : FileArgument → FileArgument → Readings → Spec Work
messages_meaning site stream given = site_in given site >>= λ fields. messages_stream_meaning fields stream given

-- the lines of the stream that was left were printed, as far as its source and print went
pub record MonitorsLeft (site : SiteFields) (left : Option (List ℕ)) (a b : PageState) (status : Status) : Type 0 where
  pub bytes : List ℕ
  pub is_left : AreBytesLeft left bytes
  pub prints : PrintsReading (monitoring site bytes) a b status
