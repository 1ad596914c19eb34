-- Public meaning: `tables STREAM` [this project, docs/FORMATS.md, Inspector].
use Rattle.std.specs.Prelude.{ℕ, List, [], ◌∷◌, length, false, Option, None, Result, Ok, Err}
use Rattle.std.specs.List.{flat_map}
use Rattle.sd_base.specs.declared.memory.NoMemory.{NoMemory as OutOfMemory}
use Rattle.sd_packet.specs.Header.{pid_of}
use Rattle.sd_engine.specs.Taken.{packets_taken, end_of, AreBytesLeft}
use Rattle.sd_engine.specs.declared.driver.DriveFault.{DriveFault}
use Rattle.sd_engine.specs.declared.driver.DriveFault.TheVariants as drive
use Rattle.sd_run_streams.specs.TableLines.{section_line}
use Rattle.sd_run_streams.specs.Inspected.{sections_at}
use Rattle.sd_command_base.specs.declared.status.Status.{Status}
use Rattle.sd_command_base.specs.declared.status.Status.TheVariants.{Done, BadStream, DepotFault, PrintFault}
use Rattle.sd_command_base.specs.declared.status.Status.TheVariants.{NoMemory}
use Rattle.sd_command_base.specs.declared.stream_refusal.StreamRefusal.TheVariants.{Broken, TooLong}
use Rattle.sd_command_base.specs.Outside.{PageState}
use Rattle.sd_command_base.specs.Spec.{Spec, FileArgument, Readings, whole_file_bytes, value, ◌>>=◌}
use Rattle.sd_command_base.specs.Work.{NoSteps, Work}
use Rattle.sd_command_base.specs.Prints.{PrintsReading}
use Rattle.sd_command_base.specs.Streams.{stream_status}

-- the lines of each packet in turn, where these came before them, of which the last comes first
abbrev pub packet_lines : List (List ℕ) → List (List ℕ) → List (List ℕ)
packet_lines before [] = []
packet_lines before (packet ∷ packets) =
    flat_map (section_line (length before) (pid_of packet)) (sections_at packet before) ∷ packet_lines (packet ∷ before)
    packets

-- prints the lines of the tables in a stream of these bytes
abbrev pub inspecting : List ℕ → Work
inspecting bytes = record {
  mark = None;
  out = None;
  pieces = packet_lines [] (packets_taken bytes);
  ends = stream_status (end_of bytes);
  breaks = false;
  live = false;
  steps = NoSteps;
}

unfoldable pub tables_meaning : FileArgument → Readings → Spec Work
tables_meaning stream given = whole_file_bytes stream.number (given stream) >>= λ bytes. value (inspecting bytes)

-- the status of a stream that was driven
abbrev pub drive_status : Result ℕ (DriveFault OutOfMemory) → Status
drive_status (Ok count) = Done
drive_status (Err (drive.Broken found)) = BadStream (Broken found)
drive_status (Err drive.TooLong) = BadStream TooLong
drive_status (Err drive.ReadFault) = DepotFault
drive_status (Err drive.WriteFault) = PrintFault
drive_status (Err (drive.Refused fault)) = NoMemory

-- the lines of the stream that was left were printed, as far as its source and print went
pub record InspectsLeft (left : Option (List ℕ)) (a b : PageState) (status : Status) : Type 0 where
  pub bytes : List ℕ
  pub is_left : AreBytesLeft left bytes
  pub prints : PrintsReading (inspecting bytes) a b status
