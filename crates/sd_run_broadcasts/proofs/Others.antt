-- `trial` never means `Usage`.
use Rattle.std.proofs.Common.{ℕ, List, Option}
use Rattle.sd_command_base.specs.declared.status.LimitKind.TheVariants.{TrialHeight}
use Rattle.sd_command_base.specs.Spec.{FileArgument, Readings, whole_file_bytes, value, ◌>>=◌}
use Rattle.sd_ports.specs.Bytes.{prefix_of}
use Rattle.sd_command_base.specs.Files.{book_of_file, low_site_of_file}
use Rattle.sd_command_base.proofs.Others.{IsOther, other_after, other_book_file, other_low_site, other_stream}
use Rattle.sd_run_broadcasts.specs.Prefixes.{prefix_of_file}
use Rattle.sd_run_broadcasts.specs.Trial.{trial_clear_bytes, most_trial_height, trial_plan_by, trial_meaning, trying}

other_plan : (site book : ℕ) (site_got book_got : Option (List ℕ)) →
    IsOther (trial_plan_by site book site_got book_got).result
unfolding trial_plan_by
other_plan site book site_got book_got =
    other_after (low_site_of_file site most_trial_height TrialHeight site_got).calls
    (low_site_of_file site most_trial_height TrialHeight site_got).result
    (λ fields. book_of_file book fields.height book_got
    >>= λ commands. value (record { site = fields; commands = commands }))
    (other_low_site site most_trial_height TrialHeight site_got)
    (λ fields. other_after (book_of_file book fields.height book_got).calls
    (book_of_file book fields.height book_got).result
    (λ commands. value (record { site = fields; commands = commands })) (other_book_file book fields.height book_got)
    (λ commands. tt))

other_prefix : (word most : ℕ) (got : Option (List ℕ)) → IsOther (prefix_of_file word most got).result
unfolding prefix_of_file
other_prefix word most got =
    other_after (whole_file_bytes word got).calls (whole_file_bytes word got).result
    (λ bytes. value (prefix_of most bytes))
    (other_stream word got) (λ bytes. tt)

pub other_trial : (site book clear : FileArgument) (given : Readings) →
    IsOther (trial_meaning site book clear given).result
unfolding trial_meaning
other_trial site book clear given =
    other_after (trial_plan_by site.number book.number (given site) (given book)).calls
    (trial_plan_by site.number book.number (given site) (given book)).result
    (λ plan. prefix_of_file clear.number trial_clear_bytes (given clear) >>= λ prefix. value (trying plan prefix))
    (other_plan site.number book.number (given site) (given book))
    (λ plan. other_after (prefix_of_file clear.number trial_clear_bytes (given clear)).calls
    (prefix_of_file clear.number trial_clear_bytes (given clear)).result (λ prefix. value (trying plan prefix))
    (other_prefix clear.number trial_clear_bytes (given clear)) (λ prefix. tt))
