-- Public meaning: what the inspector prints of packets. In each list of packets the last comes first.
use Rattle.std.specs.Prelude.{ℕ, ◌==◌, ◌&&◌, ◌||◌, Bool, List, [], ◌∷◌, ◌++◌, length, map, filter, flat_map}
use Rattle.std.specs.Prelude.{if◌then◌else◌, is_none}
use Rattle.std.specs.List.{list_any}
use Rattle.sd_packet.specs.Header.{pid_of, unit_start_of, counter_of, payload_of}
use Rattle.sd_section.specs.Header.{whole_of}
use Rattle.sd_section.specs.Judged.{section_fault}
use Rattle.sd_section.specs.Assembled.{Fed, sections_completed_by}
use Rattle.sd_psi.specs.Tables.{pmt_pids_of, is_pat}
use Rattle.sd_run_streams.specs.TableLines.{section_line}

-- what an assembler takes of a packet
abbrev pub fed_of : List ℕ → Fed
fed_of packet = record {
  unit_start = unit_start_of packet == 1;
  counter = counter_of packet;
  payload = payload_of
      packet;
}

-- the packets of a PID
unfoldable pub on_pid : ℕ → List (List ℕ) → List Fed
on_pid pid packets = map fed_of (filter (λ packet. pid_of packet == pid) packets)

-- the sections that the last packet completes on PID 0 [ISO/IEC 13818-1, 2.4.4.3]
unfoldable pub pat_sections_at : List ℕ → List (List ℕ) → List (List ℕ)
pat_sections_at packet before = if pid_of packet == 0 then sections_completed_by (on_pid 0 (packet ∷ before)) else []

-- nothing is wrong with a section in the long form
abbrev pub is_sound : List ℕ → Bool
is_sound section = is_none (section_fault section)

-- the PIDs of the PMTs that a section names, where it is a PAT [ISO/IEC 13818-1, 2.4.4.3]
unfoldable pub pids_named_by : List ℕ → List ℕ
pids_named_by section = if is_sound section && is_pat (whole_of section) then pmt_pids_of (whole_of section) else []

-- the PIDs of all PMTs that were named up to here
unfoldable pub named_in : List (List ℕ) → List ℕ
named_in [] = []
named_in (packet ∷ before) = named_in before ++ flat_map pids_named_by (pat_sections_at packet before)

-- the PID is watched: PID 0 with the PAT, PID 1 with the CAT, and each PID that was named so far
-- [this project, docs/FORMATS.md, Inspector]
unfoldable pub is_watched : ℕ → List (List ℕ) → Bool
is_watched pid packets = (pid == 0) || ((pid == 1) || list_any (λ named. named == pid) (named_in packets))

-- the packets of a PID since it is watched
unfoldable pub watched_on : ℕ → List (List ℕ) → List Fed
watched_on pid [] = []
watched_on pid (packet ∷ before) =
    if (pid_of packet == pid) && is_watched pid before then fed_of packet ∷ watched_on pid before else watched_on pid
    before

-- the sections that the last packet completes on its PID
unfoldable pub sections_at : List ℕ → List (List ℕ) → List (List ℕ)
sections_at packet before =
    if is_watched (pid_of packet) before then sections_completed_by (watched_on (pid_of packet) (packet ∷ before))
    else []

-- a line for each section; packets are numbered from 0 [this project, docs/FORMATS.md, Inspector]
unfoldable pub lines_in : List (List ℕ) → List ℕ
lines_in [] = []
lines_in (packet ∷ before) = lines_in before ++ flat_map (section_line (length before) (pid_of packet))
    (sections_at packet before)
