-- Public meaning: `plan SITE BOOK PACKETS PIDS` [this project, docs/FORMATS.md, Plan].
use Rattle.std.specs.Prelude.{ℕ, ◌+◌, ◌-◌, ◌*◌, nat_le, min, map, List, [], ◌∷◌, ◌++◌, length, codes}
use Rattle.std.specs.Prelude.{false, if◌then◌else◌, Option, None, Result, Ok, Err}
use Rattle.std.specs.List.{concat, range_with_len, sum_by}
use Rattle.std.specs.Fmt.{decimal}
use Rattle.std.specs.Int.{div_ceil}
use Rattle.sd_site_cards.specs.SiteFields.{SiteFields}
use Rattle.sd_book.specs.Commands.{last_period, revoked}
use Rattle.sd_message.specs.EmmForm.{sections_for}
use Rattle.sd_message.specs.EcmParts.{parts_for}
use Rattle.sd_spec.specs.Plan.{Plan, closing_number, crypto_of, period_in, sets_at, word_in}
use Rattle.sd_command_base.specs.declared.status.Status.{Status}
use Rattle.sd_command_base.specs.declared.status.Status.TheVariants.{BadWord, Done}
use Rattle.sd_command_base.specs.Spec.{Spec, FileArgument, Readings, of_result, value, ◌>>=◌}
use Rattle.sd_command_base.specs.Work.{NoSteps, Work}
use Rattle.sd_command_base.specs.Shown.{NumberArgument}
use Rattle.sd_command_base.specs.Files.{site_of_file, book_in}

-- how many crypto periods m packets begin, m above 0
abbrev pub cryptos_for : SiteFields → ℕ → ℕ
cryptos_for site m = crypto_of site (m - 1) + 1

-- the number of the last control word of m packets, m above 0
abbrev pub last_word_for : SiteFields → ℕ → ℕ
last_word_for site m = word_in site (cryptos_for site m - 1)

-- the last period of n crypto periods, n above 0
abbrev pub last_period_for : Plan → ℕ → ℕ
last_period_for plan n = period_in plan (n - 1)

-- how many periods n crypto periods begin, n above 0
abbrev pub period_count : Plan → ℕ → ℕ
period_count plan n = last_period_for plan n + 1 - plan.site.first_period

-- the periods of n crypto periods, n above 0
abbrev pub periods_for : Plan → ℕ → List ℕ
periods_for plan n = range_with_len plan.site.first_period (period_count plan n)

-- how many of n crypto periods there are from the first one of period q on
abbrev pub cryptos_from : Plan → ℕ → ℕ → ℕ
cryptos_from plan n q = n - (q - plan.site.first_period) * plan.site.span

-- how many of n crypto periods are of period q: the book's last goes on to the end, and so does a first one after it
abbrev pub cryptos_in : Plan → ℕ → ℕ → ℕ
cryptos_in plan n q =
    if nat_le (last_period plan.commands) q then cryptos_from plan n q else min plan.site.span (cryptos_from plan n q)

-- how many entitlements stand in each crypto period of period q
abbrev pub entitlements_at : Plan → ℕ → ℕ
entitlements_at plan q = sections_for (length (sets_at plan q))

-- how many packets the CATs and the entitlements of period q are, in n crypto periods
abbrev pub tables_in : Plan → ℕ → ℕ → ℕ
tables_in plan n q = cryptos_in plan n q * (1 + entitlements_at plan q)

-- how many control messages m packets have: one before each stretch of `every` packets, and the closing one
abbrev pub messages_for : SiteFields → ℕ → ℕ
messages_for site m = closing_number site m + 1

-- the most packets that are added to m packets, m above 0, of which at most so many PIDs have positions
unfoldable pub added_most : Plan → ℕ → ℕ → ℕ
added_most plan m pids =
    sum_by (tables_in plan (cryptos_for plan.site m)) (periods_for plan (cryptos_for plan.site m))
    + messages_for plan.site m * parts_for plan.site.messages pids

-- how many packets are added to a thousand, where so many are added to m: rounded up
abbrev pub per_thousand : ℕ → ℕ → ℕ
per_thousand added m = div_ceil (1000 * added) m

-- the line of a period
unfoldable pub plan_period_line : ℕ → ℕ → ℕ → ℕ → ℕ → List ℕ
plan_period_line q revoked sets entitlements cryptos =
    codes "period "
    ++ (decimal q
    ++ (codes " revoked "
    ++ (decimal revoked
    ++ (codes " sets "
    ++ (decimal sets
    ++ (codes " entitlements " ++ (decimal entitlements ++ (codes " cryptos " ++ (decimal cryptos ++ codes "\n")))))))))

-- the line of period q of n crypto periods
abbrev pub line_at : Plan → ℕ → ℕ → List ℕ
line_at plan n q =
    plan_period_line q (length (revoked plan.site.height plan.commands q)) (length (sets_at plan q))
    (entitlements_at plan q)
    (cryptos_in plan n q)

-- the line of these messages, each of so many parts
unfoldable pub message_count_line : ℕ → ℕ → List ℕ
message_count_line messages parts =
    codes "messages " ++ (decimal messages ++ (codes " parts " ++ (decimal parts ++ codes "\n")))

-- the line of so many packets added to m
unfoldable pub plan_clear_line : ℕ → ℕ → List ℕ
plan_clear_line m added =
    codes "clear "
    ++ (decimal m ++ (codes " added " ++
    (decimal added ++ (codes " broadcast " ++ (decimal (m + added) ++ codes "\n")))))

-- the line of so many packets added to a thousand
unfoldable pub rate_line : ℕ → List ℕ
rate_line rate =
    codes "per 1000 added " ++ (decimal rate ++ (codes " broadcast " ++ (decimal (1000 + rate) ++ codes "\n")))

-- the line of a period and a control word: the first ones, the last ones or the next ones
unfoldable pub place_line : List ℕ → ℕ → ℕ → List ℕ
place_line which period word =
    which ++ (codes " period " ++ (decimal period ++ (codes " word " ++ (decimal word ++ codes "\n"))))

-- the lines of these messages, each of so many parts, and of so many packets added to m
abbrev pub total_lines : ℕ → ℕ → ℕ → ℕ → List ℕ
total_lines messages parts m added =
    (message_count_line messages parts ++ plan_clear_line m added) ++ rate_line (per_thousand added m)

-- the lines of the first period and word, of the last ones, and of the next ones
abbrev pub end_lines : ℕ → ℕ → ℕ → ℕ → List ℕ
end_lines first_period first_word last_period last_word =
    (place_line (codes "first") first_period first_word ++ place_line (codes "last") last_period last_word)
    ++ place_line (codes "next") (last_period + 1) (last_word + 1)

-- all lines for m packets, m above 0, of which at most so many PIDs have positions
unfoldable pub air_text : Plan → ℕ → ℕ → List ℕ
air_text plan m pids =
    let n = cryptos_for plan.site m in
    (concat (map (line_at plan n) (periods_for plan n))
    ++ total_lines (messages_for plan.site m) (parts_for plan.site.messages pids) m (added_most plan m pids))
    ++ end_lines plan.site.first_period plan.site.first_word (last_period_for plan n) (last_word_for plan.site m)

-- prints them
abbrev pub planning : Plan → ℕ → ℕ → Work
planning plan m pids = record {
  mark = None;
  out = None;
  pieces = air_text plan m pids ∷ [];
  ends = Done;
  breaks = false;
  live = false;
  steps = NoSteps;
}

-- the site, which is to have a control word for each of so many packets
abbrev pub told_room : NumberArgument → SiteFields → Result SiteFields Status
told_room packets fields =
    if nat_le (last_word_for fields packets.value) fields.last_word then Ok fields else Err (BadWord packets.word)

-- so it is of the site that the file of this word gave
abbrev pub roomy_site_of_file : ℕ → NumberArgument → Option (List ℕ) → Spec SiteFields
roomy_site_of_file word packets got = site_of_file word got >>= λ fields. of_result (told_room packets fields)

-- the work that the words and the two files say
abbrev pub plan_command_meaning : FileArgument → FileArgument → NumberArgument → ℕ → Readings → Spec Work
plan_command_meaning site book packets pids given = do
  fields ← roomy_site_of_file site.number packets (given site)
  commands ← book_in given fields.height book
  value (planning (record { site = fields; commands = commands }) packets.value pids)
