-- Public meaning: `trial SITE BOOK CLEAR` [this project, docs/FORMATS.md, Trial].
use Rattle.std.specs.Prelude.{◌≡◌, ◌⊎◌, ◌^◌, ◌*◌, ◌/◌, ℕ, zero, suc, Bool, true, false, List, ◌++◌, length}
use Rattle.std.specs.Prelude.{codes, Option, Result, Ok, Err}
use Rattle.std.specs.Fmt.{decimal}
use Rattle.sd_ports.specs.Bytes.{Prefix}
use Rattle.sd_site_cards.specs.SiteFields.{SiteFields}
use Rattle.sd_site_cards.specs.CardFields.{CardFields, site_card}
use Rattle.sd_spec.specs.Plan.{Plan}
use Rattle.sd_command_base.specs.declared.status.Status.{Status}
use Rattle.sd_command_base.specs.declared.status.Status.TheVariants.{Done, Revoked, DepotFault, Limit, NoMemory}
use Rattle.sd_command_base.specs.declared.status.LimitKind.TheVariants.{TrialHeight, TrialPackets}
use Rattle.sd_command_base.specs.Spec.{Spec, FileArgument, Readings, value, ◌>>=◌}
use Rattle.sd_command_base.specs.Work.{Work}
use Rattle.sd_command_base.specs.Outcome.{IsEnding}
use Rattle.sd_command_base.specs.Files.{low_site_of_file, book_of_file}
use Rattle.sd_command_base.specs.Printed.{printing}
use Rattle.sd_run_broadcasts.specs.Head.{sent_of, sent_status}
use Rattle.sd_run_broadcasts.specs.Receive.{received_of, received_status}
use Rattle.sd_run_broadcasts.specs.Prefixes.{prefix_of_file}

-- the greatest height of a trial's tree
abbrev pub most_trial_height : ℕ
most_trial_height = 6

-- the bytes of the longest clear stream of a trial: 65,536 packets
abbrev pub trial_clear_bytes : ℕ
trial_clear_bytes = 65536 * 188

-- a site whose tree is low enough, and then the book for its tree, in the files of two arguments
unfoldable pub trial_plan_by : ℕ → ℕ → Option (List ℕ) → Option (List ℕ) → Spec Plan
trial_plan_by site book site_got book_got = do
  fields ← low_site_of_file site most_trial_height TrialHeight site_got
  commands ← book_of_file book fields.height book_got
  value (record { site = fields; commands = commands })

-- the plan that the files of SITE and BOOK say
abbrev pub trial_plan_meaning : FileArgument → FileArgument → Readings → Spec Plan
trial_plan_meaning site book given = trial_plan_by site.number book.number (given site) (given book)

-- the bytes of the broadcast of a clear stream that is no longer than it may be, or why there is none
abbrev pub sent_or : Status → Bool → List ℕ → Result (List ℕ) Status
sent_or Done false sent = Ok sent
sent_or Done true sent = Err (Limit TrialPackets)
sent_or status more sent = Err status

-- the bytes of the broadcast of a clear stream of which this prefix was taken, or why there is none
unfoldable pub told_sent : Plan → Prefix → Result (List ℕ) Status
told_sent plan prefix = sent_or (sent_status plan prefix.bytes) prefix.more (sent_of plan prefix.bytes)

-- a head end that was run in memory ended because memory didn't suffice
abbrev pub is_wanting : Status → Bool
is_wanting NoMemory = true
is_wanting DepotFault = true
is_wanting status = false

-- for this clear stream the head end ended with this status, and sent these bytes
pub record HasSentTrial (plan : Plan) (clear sent : List ℕ) (status : Status) : Type 0 where
  pub status_is : status ≡ sent_status plan clear
  pub ending : IsEnding status
  pub sent_are : sent ≡ sent_of plan clear

-- the line of a clear stream and its broadcast, of these numbers of packets [this project, docs/FORMATS.md, Trial]
unfoldable pub trial_clear_line : ℕ → ℕ → List ℕ
trial_clear_line clear sent =
    codes "clear " ++ (decimal clear ++ (codes " broadcast " ++ (decimal sent ++ codes "\n")))

-- the line of a receiver that isn't revoked [this project, docs/FORMATS.md, Trial]
unfoldable pub done_line : ℕ → ℕ → List ℕ
done_line u wrote = codes "receiver " ++ (decimal u ++ (codes " wrote " ++ (decimal wrote ++ codes " done\n")))

-- the line of a receiver that is revoked, first in period q [this project, docs/FORMATS.md, Trial]
unfoldable pub trial_revoked_line : ℕ → ℕ → ℕ → List ℕ
trial_revoked_line u wrote q =
    codes "receiver " ++ (decimal u ++
    (codes " wrote " ++ (decimal wrote ++ (codes " revoked " ++ (decimal q ++ codes "\n")))))

-- the line of leaf u's receiver by the number of packets that it wrote and its status, or the status itself if that has
-- no line
abbrev pub told_line : ℕ → ℕ → Status → Result (List ℕ) Status
told_line u wrote Done = Ok (done_line u wrote)
told_line u wrote (Revoked leaf period) = Ok (trial_revoked_line u wrote period)
told_line u wrote status = Err status

-- the line of leaf u's receiver, whose card is this and which was given these bytes
abbrev pub trial_card_line : ℕ → CardFields → List ℕ → Result (List ℕ) Status
trial_card_line u card bytes = told_line u (length (received_of card bytes) / 188) (received_status card bytes)

-- the receiver of a card that was given these bytes wrote this number of bytes and ended with this status
pub record HasHeard (card : CardFields) (bytes : List ℕ) (wrote : ℕ) (status : Status) : Type 0 where
  pub status_is : status ≡ received_status card bytes
  pub ending : IsEnding status
  pub wrote_is : wrote ≡ length (received_of card bytes)

-- the line of the receiver with the site's card of leaf u, which was given these bytes
unfoldable pub trial_receiver_line : SiteFields → List ℕ → ℕ → Result (List ℕ) Status
trial_receiver_line site bytes u = trial_card_line u (site_card site u) bytes

-- one line after a text, or the first status that has no line
abbrev pub then_line : Result (List ℕ) Status → Result (List ℕ) Status → Result (List ℕ) Status
then_line (Ok text) (Ok line) = Ok (text ++ line)
then_line (Ok text) (Err status) = Err status
then_line (Err status) line = Err status

-- a first line, and then those of the first n leaves, or the first status that has no line
unfoldable pub lines_of_trial : SiteFields → List ℕ → List ℕ → ℕ → Result (List ℕ) Status
lines_of_trial site bytes first zero = Ok first
lines_of_trial site bytes first (suc n) = then_line (lines_of_trial site bytes first n)
    (trial_receiver_line site bytes n)

-- all lines of a trial of a clear stream of `clear` bytes
abbrev pub trial_lines : Plan → ℕ → Result (List ℕ) Status → Result (List ℕ) Status
trial_lines plan clear (Ok sent) =
    lines_of_trial plan.site sent (trial_clear_line (clear / 188) (length sent / 188)) (2 ^ plan.site.height)
trial_lines plan clear (Err status) = Err status

-- the text that `trial` prints, or the status of a refusal
unfoldable pub trial_text : Plan → Prefix → Result (List ℕ) Status
trial_text plan prefix = trial_lines plan (length prefix.bytes) (told_sent plan prefix)

-- the work of a trial: the head end and the receivers are run in memory, and the lines are printed
abbrev pub trying : Plan → Prefix → Work
trying plan prefix = printing (trial_text plan prefix)

-- the work of `trial SITE BOOK CLEAR` [this project, docs/FORMATS.md, Trial]
unfoldable pub trial_meaning : FileArgument → FileArgument → FileArgument → Readings → Spec Work
trial_meaning site book clear given =
    trial_plan_meaning site book given
    >>= λ plan. prefix_of_file clear.number trial_clear_bytes (given clear) >>= λ prefix. value (trying plan prefix)

-- a text grew by the line that is meant
abbrev pub AddsLine : Result (List ℕ) Status → List ℕ → List ℕ → Result (Unit {0}) Status → Type 0
AddsLine meant before now (Ok done) = then_line (Ok before) meant ≡ Ok now
AddsLine meant before now (Err status) = ((meant ≡ Err status) × IsEnding status) ⊎ (status ≡ NoMemory)
