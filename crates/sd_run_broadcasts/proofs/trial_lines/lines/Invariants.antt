use Rattle.std.proofs.Common.{◌≡◌, ◌/◌, length, Ok, string_bytes}
use Rattle.sd_site_cards.specs.SiteFields.{site_fields_of}
use Rattle.sd_run_broadcasts.specs.Trial.{trial_clear_line, lines_of_trial}
use Rattle.sd_run_broadcasts.proofs.trial_lines.lines.Given as goal

-- the text so far has the first line and those of the leaves so far
abbrev pub invariant-loop-u : goal.invariant-loop-u
invariant-loop-u g l =
    lines_of_trial (site_fields_of l.site) l.sent (trial_clear_line (l.clear / 188) (length l.sent / 188)) l.u
    ≡ Ok (string_bytes l.text)
