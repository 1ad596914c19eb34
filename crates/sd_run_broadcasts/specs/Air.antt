-- Public meaning: `air SITE BOOK CLEAR OUT` [this project, docs/FORMATS.md, On air].
use Rattle.std.specs.Prelude.{ℕ, ◌-◌, ◌==◌, Bool, true, false, not, nat_lt, List, [], ◌∷◌, ◌++◌, length}
use Rattle.std.specs.Prelude.{codes, if◌then◌else◌, Option, Some, None, Result, Ok, Err}
use Rattle.std.specs.List.{concat}
use Rattle.serde_json.specs.Data.{Data, object, no_members}
use Rattle.serde_json.specs.Written.{compact_text}
use Rattle.sd_base.specs.Types.{PacketNumber}
use Rattle.sd_engine.specs.Cut.{readable, is_stream_too_long}
use Rattle.sd_site_cards.specs.SiteFields.{SiteFields}
use Rattle.sd_site_cards.specs.Written.{site_of_chain, none_fewer}
use Rattle.sd_site_cards.specs.declared.book_line.BookLine.{BookLine}
use Rattle.sd_site_cards.specs.declared.site_fault.SiteFault.{SiteFault}
use Rattle.sd_site_cards.specs.declared.site_fault.SiteFault.TheVariants.{Range}
use Rattle.sd_message.specs.declared.clear_fault.ClearFault.{ClearFault}
use Rattle.sd_spec.specs.Aired.{aired, ended_from, left_from}
use Rattle.sd_spec.specs.Plan.{Plan, period_of, word_of}
use Rattle.sd_spec.specs.Sent.{broadcast}
use Rattle.sd_spec.specs.declared.left_out.LeftOut.{LeftOut}
use Rattle.sd_command_base.specs.declared.status.Status.{Status}
use Rattle.sd_command_base.specs.declared.status.Status.TheVariants.{Done, BadClear, SiteUsedUp}
use Rattle.sd_command_base.specs.declared.status.LimitKind.TheVariants.{SiteBytes}
use Rattle.sd_command_base.specs.declared.stream_refusal.StreamRefusal.TheVariants.{Packet}
use Rattle.sd_command_base.specs.Spec.{Spec, FileArgument, Readings, whole_file_bytes, of_result, value, within, ◌>>=◌}
use Rattle.sd_command_base.specs.Work.{Uncounted, Work}
use Rattle.sd_command_base.specs.Files.{most_site_bytes, own_book_of_file, refused_site}
use Rattle.sd_command_base.specs.Made.{unused, used_name}
use Rattle.sd_run_broadcasts.specs.Marked.{mark_at}
use Rattle.sd_run_broadcasts.specs.Members.{num_member, text_member, text_of_status}
use Rattle.sd_run_broadcasts.specs.Watch.{skipped_at}
use Rattle.sd_run_broadcasts.specs.declared.air_report.AirReport.{AirReport}

-- a site of these bytes and what its line 13 says, if the site's messages are of version 3 and it has a control word
abbrev pub told_air_site : ℕ → List ℕ → Result (SiteFields × Option BookLine) SiteFault →
    Result (SiteFields × Option BookLine) Status
told_air_site word bytes (Err fault) = Err (refused_site word bytes fault)
told_air_site word bytes (Ok said) =
    if not (said.0.messages == 3) then Err (refused_site word bytes (Range 9))
    else if nat_lt said.0.last_word said.0.first_word then Err (refused_site word bytes (Range 11))
    else Ok said

-- the site for `air` of what the file of this word gave, which must have thirteen lines, and what its line 13 says
-- [this project, docs/FORMATS.md, On air]
unfoldable pub air_site_of_file : ℕ → Option (List ℕ) → Spec (SiteFields × Option BookLine)
air_site_of_file word got =
    within word most_site_bytes SiteBytes got >>= λ bytes. of_result (told_air_site word bytes
    (site_of_chain none_fewer bytes))

-- the site for `air` and its own book of what their files gave
unfoldable pub air_plan_by : ℕ → ℕ → Option (List ℕ) → Option (List ℕ) → Spec Plan
air_plan_by site book site_got book_got = do
  said ← air_site_of_file site site_got
  commands ← own_book_of_file book said.0.height said.1 book_got
  value (record { site = said.0; commands = commands })

abbrev pub air_plan_meaning : FileArgument → FileArgument → Readings → Spec Plan
air_plan_meaning site book given = air_plan_by site.number book.number (given site) (given book)

-- the clear packets that are sent of a live stream of these bytes [this project, docs/FORMATS.md, On air]
abbrev pub live_clear : SiteFields → List ℕ → List (List ℕ)
live_clear site bytes = aired site (readable bytes)

-- the number of the packet before which the broadcast ends, if no number or control word is left for it
abbrev pub live_end : SiteFields → List ℕ → Option PacketNumber
live_end site bytes = ended_from site [] 0 (readable bytes)

-- the status at the end: the site is used up if the broadcast ends before a packet, or if there is more than is read of
-- a stream
abbrev pub aired_status : Option PacketNumber → Bool → PacketNumber → Status
aired_status (Some n) longer count = SiteUsedUp n
aired_status None true count = SiteUsedUp count
aired_status None false count = Done

unfoldable pub live_status : SiteFields → List ℕ → Status
live_status site bytes = aired_status (live_end site bytes) (is_stream_too_long bytes) (length (readable bytes))

-- what is sent for a live stream of these bytes: the broadcast of the packets that are sent
unfoldable pub live_sent : Plan → List ℕ → List ℕ
live_sent plan bytes = concat (broadcast plan (live_clear plan.site bytes))

-- how many packets are found up to the end
abbrev pub found_by : Option PacketNumber → PacketNumber → PacketNumber
found_by (Some n) count = n
found_by None count = count

abbrev pub live_found : SiteFields → List ℕ → PacketNumber
live_found site bytes = found_by (live_end site bytes) (length (readable bytes))

-- what is reported once so many packets were found and so many of them sent, and so many bytes are in none: the closing
-- message is that of the last packet that was sent
abbrev pub report_at : Plan → LeftOut → PacketNumber → PacketNumber → ℕ → AirReport
report_at plan out packets sent skipped = record {
  left_out = out;
  packets = packets;
  sent = sent;
  period = period_of plan (sent - 1);
  word = word_of plan.site (sent - 1);
  left = plan.site.last_word - word_of plan.site (sent - 1);
  skipped = skipped;
}

-- what is reported of a live stream of these bytes
unfoldable pub air_report : Plan → List ℕ → AirReport
air_report plan bytes = report_at plan (left_from plan.site [] 0 (readable bytes)) (live_found plan.site bytes)
    (length (live_clear plan.site bytes)) (skipped_at bytes (live_found plan.site bytes))

-- why the first of the packets that break a rule does, if one does: the line that `head` has for it
abbrev pub broken_text : Option ClearFault → List ℕ
broken_text None = []
broken_text (Some fault) = text_of_status (BadClear (Packet fault))

-- a report on a live stream [this project, docs/FORMATS.md, On air]
unfoldable pub air_data : AirReport → Data
air_data report = object
    (text_member (codes "first") (broken_text report.left_out.first)
    (num_member (codes "left") report.left
    (num_member (codes "marked") report.left_out.marked
    (num_member (codes "packets") report.packets
    (num_member (codes "pats") report.left_out.pats
    (num_member (codes "period") report.period
    (num_member (codes "refused") report.left_out.refused
    (num_member (codes "sent") report.sent
    (num_member (codes "skipped") report.skipped
    (num_member (codes "word") report.word
    no_members))))))))))

-- its line: compact JSON with the keys in ascending order, and a line feed
unfoldable pub air_line : AirReport → List ℕ
air_line report = compact_text (air_data report) ++ 10 ∷ []

-- the file that is the mark of a site: it says that a run of `air` used the site
abbrev pub mark_word : FileArgument → FileArgument
mark_word site = record { number = site.number; text = used_name site.text }

-- the work that makes the mark, and then OUT of what is sent for a live stream of these bytes, and prints the report
abbrev pub airing : Plan → FileArgument → FileArgument → List ℕ → Work
airing plan site out bytes = record {
  mark = Some (mark_at (mark_word site));
  out = Some (record { word = out.number; name = out.text; bytes = live_sent plan bytes });
  pieces = air_line (air_report plan bytes) ∷ [];
  ends = live_status plan.site bytes;
  breaks = false;
  live = false;
  steps = Uncounted;
}

-- the work once the plan is known, by what the files of the live stream and of the mark gave: the site must not be used
abbrev pub aired_by : Plan → FileArgument → ℕ → FileArgument → Option (List ℕ) → Option (List ℕ) → Spec Work
aired_by plan site clear out clear_got mark_got = do
  bytes ← whole_file_bytes clear clear_got
  new ← unused mark_got
  value (airing plan site out bytes)

abbrev pub aired_meaning : Plan → FileArgument → FileArgument → FileArgument → Readings → Spec Work
aired_meaning plan site clear out given =
    aired_by plan site clear.number out (given clear) (given (mark_word site))

-- the work of `air SITE BOOK CLEAR OUT` [this project, docs/FORMATS.md, On air]
unfoldable pub air_meaning : FileArgument → FileArgument → FileArgument → FileArgument → Readings → Spec Work
air_meaning site book clear out given =
    air_plan_meaning site book given >>= λ plan. aired_meaning plan site clear out given
