-- Public meaning: what `air` does of any clear stream, whatever its bytes are [this project, docs/FORMATS.md, On air].
use Rattle.std.specs.Prelude.{◌≡◌, ◌≢◌, ◌-◌, ◌≤◌, true, false, List, [], ◌∷◌, ◌++◌, codes, length, Option, Some, None}
use Rattle.std.specs.List.{concat, list_any}
use Rattle.std.specs.Io.KnownBytes.{Appends}
use Rattle.sd_base.specs.Types.{Bytes, FileName, PeriodNumber}
use Rattle.sd_engine.specs.Taken.{packets_taken}
use Rattle.sd_site_cards.specs.SiteFields.{SiteFields}
use Rattle.sd_site_cards.specs.Text.{IsSite, book_line_of}
use Rattle.sd_site_cards.specs.Written.{are_lines_whole}
use Rattle.sd_site_cards.specs.declared.book_line.BookLine.{BookLine}
use Rattle.sd_spec.specs.Counting.{is_marked}
use Rattle.sd_spec.specs.Plan.{Plan, period_of}
use Rattle.sd_spec.specs.Sent.{broadcast}
use Rattle.sd_law_broadcast.specs.Named.{sets_named, NamesPeriod}
use Rattle.sd_law_broadcast.specs.Synced.{AreBytes}
use Rattle.sd_command_base.specs.declared.status.Status.{Status}
use Rattle.sd_command_base.specs.Files.{is_book}
use Rattle.sd_command_base.specs.Made.{used_name}
use Rattle.sd_command_base.specs.Outside.{IoState}
use Rattle.sd_command_base.specs.Texts.{line_of_status}
use Rattle.sd_run_broadcasts.specs.Air.{air_line, air_report, live_clear, live_status}
use Rattle.sd_law_run.specs.Good.{IsGoodBook}
use Rattle.sd_law_run.specs.Headline.{Names, file_in}
use Rattle.sd_law_run.specs.Outcome.{out_name}
use Rattle.sd_law_run.specs.Sendable.{AreSendable}

-- `air SITE BOOK CLEAR STREAM` [this project, docs/FORMATS.md, Commands]
abbrev pub air_run : Names → List Bytes
air_run names = codes "air" ∷ names.site ∷ names.book ∷ names.clear ∷ names.stream ∷ []

-- a file is there and a site for `air`: it has all thirteen lines, of which the last says this of the book; its
-- messages are of version 3; and it has a control word
pub record IsGoodAirSite (got : Option Bytes) (site : SiteFields) (line : BookLine) : Type 0 where
  pub bytes : Bytes
  pub there : got ≡ Some bytes
  pub is_site : IsSite bytes site
  pub whole : are_lines_whole 13 bytes ≡ true
  pub said : book_line_of bytes ≡ Some line
  pub version : site.messages ≡ 3
  pub word : site.first_word ≤ site.last_word

-- SITE and BOOK are a site for `air` and its own book, within their limits; CLEAR has these bytes, whatever they are;
-- and the site was not used
pub record AreForAir (at : IoState) (names : Names) (plan : Plan) (bytes : Bytes) : Type 0 where
  pub line : BookLine
  pub site : IsGoodAirSite (file_in at names.site) plan.site line
  pub book : IsGoodBook (file_in at names.book) plan.site.height plan.commands
  pub own : is_book (Some line) book.bytes ≡ true
  pub there : file_in at names.clear ≡ Some bytes
  -- each number of a file is a byte's
  pub are_bytes : AreBytes bytes
  pub unused : file_in at (used_name names.site) ≡ None

-- the same, but the site was used
pub record AreForUsedAir (at : IoState) (names : Names) (plan : Plan) : Type 0 where
  pub line : BookLine
  pub site : IsGoodAirSite (file_in at names.site) plan.site line
  pub book : IsGoodBook (file_in at names.book) plan.site.height plan.commands
  pub own : is_book (Some line) book.bytes ≡ true
  pub bytes : Bytes
  pub there : file_in at names.clear ≡ Some bytes
  pub mark : Bytes
  pub used : file_in at (used_name names.site) ≡ Some mark

-- The result of `air SITE BOOK CLEAR STREAM`
pub record AirResult (names : Names) (plan : Plan) (bytes : Bytes) (a b : IoState) (answer : Status) : Type 0 where
  -- the answer is `Done`, or that the site is used up
  pub ends : answer ≡ live_status plan.site bytes
  -- STREAM is the whole broadcast of the packets of CLEAR that are sent
  pub sent_is : file_in b names.stream ≡ Some (concat (broadcast plan (live_clear plan.site bytes)))
  -- each of them can be sent, and none is marked
  pub sendable : AreSendable plan (live_clear plan.site bytes)
  pub unmarked : list_any is_marked (live_clear plan.site bytes) ≡ false
  -- each of its periods names, in the bytes of STREAM, disjoint sets that unite to exactly the leaves that aren't
  -- revoked. No label or key of a named set is derivable from what a revoked leaf is given
  pub periods : (q : PeriodNumber) → plan.site.first_period ≤ q →
      q ≤ period_of plan (length (live_clear plan.site bytes) - 1) →
      NamesPeriod plan q (sets_named plan.site.height plan.site.emm q
      (packets_taken (concat (broadcast plan (live_clear plan.site bytes)))))
  -- the mark of the site is there, and empty
  pub marked : file_in b (used_name names.site) ≡ Some []
  -- the line of the report is printed, and that of the answer
  pub told : Appends a.page.printed b.page.printed (air_line (air_report plan bytes) ++ line_of_status answer)
  -- all other files are as they were
  pub others : (name : FileName) → name ≢ names.stream → name ≢ used_name names.site → file_in b name ≡ file_in a name

-- a run leaves OUT, if its arguments name one, as it was
abbrev pub LeavesOutFile : List Bytes → IoState → IoState → Type 0
LeavesOutFile words a b = (out : FileName) → out_name words ≡ Some out → file_in b out ≡ file_in a out
