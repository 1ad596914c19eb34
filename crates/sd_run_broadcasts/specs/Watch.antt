-- Public meaning: `watch CARD STREAM OUT` [this project, docs/FORMATS.md, Receiver].
use Rattle.std.specs.Prelude.{ℕ, zero, ◌-◌, ◌*◌, ◌^◌, true, List, [], ◌∷◌, ◌++◌, map, reverse, min}
use Rattle.std.specs.Prelude.{codes, if◌then◌else◌, Option, Some, None}
use Rattle.std.specs.List.{concat}
use Rattle.serde_json.specs.Data.{Data, Members, object, no_members}
use Rattle.serde_json.specs.Written.{compact_text}
use Rattle.sd_base.specs.Types.{RunName}
use Rattle.sd_engine.specs.Cut.{skipped_before, readable, is_stream_too_long}
use Rattle.sd_site_cards.specs.CardFields.{CardFields}
use Rattle.sd_message.specs.declared.stream_fault.StreamFault.{StreamFault}
use Rattle.sd_spec.specs.declared.report.Report.{Report}
use Rattle.sd_spec.specs.Offered.{out_from}
use Rattle.sd_spec.specs.Ending.{ending_of}
use Rattle.sd_spec.specs.Counting.{counting, tried_keys}
use Rattle.sd_spec.specs.Reports.{reports}
use Rattle.sd_command_base.specs.declared.status.Status.{Status}
use Rattle.sd_command_base.specs.declared.status.Status.TheVariants.{BadStream}
use Rattle.sd_command_base.specs.declared.stream_refusal.StreamRefusal.TheVariants.{TooLong, Packet}
use Rattle.sd_command_base.specs.Spec.{Spec, FileArgument, Readings, whole_file_bytes, value, ◌>>=◌}
use Rattle.sd_command_base.specs.Turned.{is_break}
use Rattle.sd_command_base.specs.Work.{UpTo, Work}
use Rattle.sd_run_broadcasts.specs.Members.{num_member, text_member, text_of_status}
use Rattle.sd_run_broadcasts.specs.Receive.{card_argument, ending_status}

-- what is written of a stream of these bytes: what a card opens of the packets that count
unfoldable pub watched_of : CardFields → List ℕ → List ℕ
watched_of card bytes = concat (out_from card [] (counting card [] (readable bytes)))

-- how the stream ends: as the packets that count end, unless there is more than is read of a stream
unfoldable pub watched_status : CardFields → List ℕ → Status
watched_status card bytes =
    if is_stream_too_long bytes then BadStream TooLong
    else ending_status card.leaf (ending_of card (reverse (counting card [] (readable bytes))))

-- the tree's height in steps of the generator for each key that is tried
unfoldable pub watched_steps : CardFields → List ℕ → ℕ
watched_steps card bytes = card.height * tried_keys card [] (readable bytes)

-- how many bytes before packet k, or before the end, are in no packet, up to 2^64 - 1
abbrev pub skipped_at : List ℕ → ℕ → ℕ
skipped_at bytes k = min (skipped_before k zero bytes) (2 ^ 64 - 1)

-- why the first of the refused packets is refused, if one is
abbrev pub first_text : Option StreamFault → List ℕ
first_text None = []
first_text (Some fault) = text_of_status (BadStream (Packet fault))

-- the name of the run, if it has one
abbrev pub watch_run_member : Option RunName → Members → Members
watch_run_member None more = more
watch_run_member (Some None) more = more
watch_run_member (Some (Some run)) more = num_member (codes "run") run more

-- a report for the receiver of this leaf, before which so many bytes are in no packet [this project, docs/FORMATS.md,
-- Receiver]
unfoldable pub watch_report_data : ℕ → ℕ → Report → Data
watch_report_data leaf skipped report = object
    (num_member (codes "doubled") report.tally.doubled
    (text_member (codes "ending") (text_of_status (ending_status leaf report.ending))
    (text_member (codes "first") (first_text report.tally.first)
    (num_member (codes "marked") report.tally.marked
    (num_member (codes "odd") report.tally.odd
    (num_member (codes "packets") report.packets
    (num_member (codes "refused") report.tally.refused
    (watch_run_member report.run
    (num_member (codes "skipped") skipped
    (num_member (codes "written") report.written
    no_members))))))))))

-- its line: compact JSON with the keys in ascending order, and a line feed
unfoldable pub watch_report_line : ℕ → ℕ → Report → List ℕ
watch_report_line leaf skipped report = compact_text (watch_report_data leaf skipped report) ++ 10 ∷ []

-- the lines of these reports on a stream of these bytes
abbrev pub report_lines : CardFields → List ℕ → List Report → List (List ℕ)
report_lines card bytes told = map (λ report. watch_report_line card.leaf (skipped_at bytes report.packets) report) told

-- all lines that are printed of a stream of these bytes: one before each packet that turns to another run, and one at
-- the end
unfoldable pub watched_lines : CardFields → List ℕ → List (List ℕ)
watched_lines card bytes = report_lines card bytes (reports card (readable bytes))

-- the work that makes OUT of what a card opens of a stream of these bytes, and meanwhile prints the lines
abbrev pub watching : CardFields → FileArgument → List ℕ → Work
watching card out bytes = record {
  mark = None;
  out = Some (record { word = out.number; name = out.text; bytes = watched_of card bytes });
  pieces = watched_lines card bytes;
  ends = watched_status card bytes;
  breaks = is_break (watched_status card bytes);
  live = true;
  steps = UpTo (watched_steps card bytes);
}

-- the work of `watch` once the card is known
abbrev pub watched_meaning : CardFields → FileArgument → FileArgument → Readings → Spec Work
watched_meaning card stream out given =
    whole_file_bytes stream.number (given stream) >>= λ bytes. value (watching card out bytes)

-- the work of `watch CARD STREAM OUT` [this project, docs/FORMATS.md, Receiver]
unfoldable pub watch_meaning : FileArgument → FileArgument → FileArgument → Readings → Spec Work
watch_meaning card stream out given = card_argument given card >>= λ fields. watched_meaning fields stream out given
