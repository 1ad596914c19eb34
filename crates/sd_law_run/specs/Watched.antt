-- Public meaning: what `watch` does of any stream, whatever its bytes are [this project, docs/FORMATS.md, Receiver].
use Rattle.std.specs.Prelude.{◌≡◌, ◌≢◌, ◌+◌, ◌-◌, ◌*◌, ◌^◌, ◌≤◌, List, [], ◌∷◌, ◌++◌, codes, length, min, take}
use Rattle.std.specs.Prelude.{Some, None}
use Rattle.std.specs.List.{concat}
use Rattle.std.specs.Io.KnownBytes.{Appends}
use Rattle.sd_base.specs.Types.{Bytes, FileName, LeafNumber, Packets}
use Rattle.sd_ports.specs.Bytes.{IsPrefix}
use Rattle.sd_engine.specs.Cut.{readable}
use Rattle.sd_site_cards.specs.CardFields.{CardFields}
use Rattle.sd_spec.specs.declared.report.Report.{Report}
use Rattle.sd_spec.specs.declared.report.Tally.{Tally}
use Rattle.sd_spec.specs.Plan.{Plan}
use Rattle.sd_spec.specs.Sent.{broadcast}
use Rattle.sd_spec.specs.Counting.{tried_keys}
use Rattle.sd_law_losses.specs.Confirmed.{opened_by}
use Rattle.sd_law_losses.specs.Endings.{first_revoked, whole_ending}
use Rattle.sd_command_base.specs.declared.status.Status.{Status}
use Rattle.sd_command_base.specs.Texts.{line_of_status}
use Rattle.sd_command_base.specs.Outside.{IoState}
use Rattle.sd_run_broadcasts.specs.Watch.{watch_report_line, skipped_at, watched_lines, watched_of, watched_status}
use Rattle.sd_law_formats.specs.Cuts.{packet_index}
use Rattle.sd_law_run.specs.Headline.{Names, file_in}
use Rattle.sd_law_run.specs.Opened.{unrevoked_periods, revoked_status, revoked_text}

-- `watch CARD STREAM OUT` [this project, docs/FORMATS.md, Commands]
abbrev pub watch_run : Names → List Bytes
watch_run names = codes "watch" ∷ names.card ∷ names.stream ∷ names.out ∷ []

-- A line that is printed of these bytes behind other lines is that of a report. Of the bytes before the place at which
-- the report is printed, `watch` prints those other lines and this one, and OUT is a prefix of what it is of all bytes.
pub record IsLastLine (card : CardFields) (bytes : Bytes) (before : List Bytes) (line : Bytes) : Type 0 where
  pub report : Report
  pub told : watch_report_line card.leaf (skipped_at bytes report.packets) report ≡ line
  pub within : packet_index report.packets bytes ≤ length bytes
  pub lines : watched_lines card (take (packet_index report.packets bytes) bytes) ≡ before ++ line ∷ []
  pub out : IsPrefix (watched_of card (take (packet_index report.packets bytes) bytes)) (watched_of card bytes)

-- The result of `watch CARD STREAM OUT`, if CARD is this card and STREAM has these bytes.
pub record WatchResult (names : Names) (card : CardFields) (bytes : Bytes) (a b : IoState) (answer : Status) : Type 0
  where
    -- the answer is how the packets that count end, or that there is more than is read of a stream
    pub ends : answer ≡ watched_status card bytes
    -- OUT is what the card opens of the packets that count
    pub written : file_in b names.out ≡ Some (watched_of card bytes)
    -- the lines of the reports are printed, and that of the answer
    pub told : Appends a.page.printed b.page.printed (concat (watched_lines card bytes) ++ line_of_status answer)
    -- each of the reports is the last one on the bytes before it
    pub last : (before after : List Bytes) (line : Bytes) → watched_lines card bytes ≡ before ++ line ∷ after →
        IsLastLine card bytes before line
    -- at most as many steps of the generator as the tree is high, for each key that is tried
    pub steps : b.steps ≤ a.steps + card.height * tried_keys card [] (readable bytes)
    pub others : (name : FileName) → name ≢ names.out → file_in b name ≡ file_in a name

-- the tally of packets that all count
abbrev pub all_count_tally : Tally
all_count_tally = record { marked = 0; doubled = 0; odd = 0; refused = 0; first = None }

-- The result of `watch CARD STREAM OUT`, if CARD is the card of leaf u, and STREAM is the broadcast, of which all
-- packets count
pub record WholeResult (names : Names) (plan : Plan) (u : LeafNumber) (clear : Packets) (a b : IoState)
    (answer : Status) : Type 0 where
  -- OUT is the clear packets of the periods in which the leaf isn't revoked, and no others
  pub written : file_in b names.out ≡ Some (concat (opened_by plan u clear))
  -- the answer is `Done`, or names the leaf as revoked and the first period in which it is
  pub ends : answer ≡ revoked_status u (first_revoked plan u clear)
  -- one line is printed, of all packets and those that were written, and then that of the answer
  pub report : Report
  pub told : Appends a.page.printed b.page.printed
      (watch_report_line u 0 report ++ revoked_text u (first_revoked plan u clear))
  pub packets : report.packets ≡ length (broadcast plan clear)
  pub wrote : report.written ≡ min (length (opened_by plan u clear)) (2 ^ 64 - 1)
  pub tally : report.tally ≡ all_count_tally
  pub ending : report.ending ≡ whole_ending (first_revoked plan u clear)
  -- at most as many steps of the generator as the tree is high, for each period in which the leaf isn't revoked
  pub steps : b.steps ≤ a.steps + plan.site.height * unrevoked_periods plan u clear
  pub others : (name : FileName) → name ≢ names.out → file_in b name ≡ file_in a name
