-- Good words and files of a trial mean its lines.
use Rattle.std.proofs.Common.{◌≡◌, ◌^◌, ◌≤◌, cond, List, ℕ, Ok, Err, ap, ◌∙◌, le-ltb}
use Rattle.sd_engine.specs.Taken.{packets_taken}
use Rattle.sd_site_cards.specs.SiteFields.{SiteFields}
use Rattle.sd_spec.specs.Plan.{Plan}
use Rattle.sd_command_base.specs.declared.status.Status.TheVariants.{Limit}
use Rattle.sd_command_base.specs.declared.status.LimitKind.TheVariants.{TrialHeight}
use Rattle.sd_command_base.specs.Spec.{FileArgument, Readings, of_result, value, ◌>>=◌}
use Rattle.sd_command_base.proofs.Follow.{then_is}
use Rattle.sd_command_base.specs.Files.{site_in, book_in, low_site_of_file, low_site_or_status}
use Rattle.sd_command_line.specs.Words.{TrialOf}
use Rattle.sd_run_broadcasts.specs.Trial.{most_trial_height}
use Rattle.sd_law_field.specs.Trials.{opened_lines}
use Rattle.sd_command_base.specs.Printed.{printing}
use Rattle.sd_run_broadcasts.specs.Trial.{trial_plan_by, trial_plan_meaning}
use Rattle.sd_law_field.proofs.Tried as opened
use Rattle.sd_law_run.specs.Good.{IsGoodSite, IsGoodBook}
use Rattle.sd_law_run.specs.Tried.{IsGoodTrial, plan_tried}
use Rattle.sd_run.specs.Meaning.{meaning}
use Rattle.sd_law_run.proofs.Goodness.{site_good, site_low, book_good, ordered}
use Rattle.sd_law_run.proofs.Plans.{good_plan}

-- a site whose tree is low enough is taken
low_good : (given : Readings) (word : FileArgument) (fields : SiteFields) → IsGoodSite (given word) fields →
    fields.height ≤ most_trial_height → (low_site_of_file word.number most_trial_height TrialHeight
    (given word)).result ≡ Ok fields
unfolding low_site_of_file
low_good given word fields good low =
    then_is (site_in given word) fields (λ site. of_result (low_site_or_status most_trial_height TrialHeight site))
    (site_good given word fields good)
    ∙ ap (λ b. cond b (Err (Limit TrialHeight)) (Ok fields)) (le-ltb most_trial_height fields.height low)

-- it and a book of its tree are the plan
plan_said : (given : Readings) (site book : FileArgument) (plan : Plan) → IsGoodSite (given site) plan.site →
    plan.site.height ≤ most_trial_height → IsGoodBook (given book) plan.site.height plan.commands →
    (trial_plan_meaning site book given).result ≡ Ok plan
unfolding trial_plan_by
plan_said given site book plan good_site low good_book =
    then_is (low_site_of_file site.number most_trial_height TrialHeight (given site)) plan.site
    (λ fields. book_in given fields.height book
    >>= λ commands. value {A = Plan} (record { site = fields; commands = commands }))
    (low_good given site plan.site good_site low)
    ∙ then_is (book_in given plan.site.height book) plan.commands
    (λ commands. value {A = Plan} (record { site = plan.site; commands = commands }))
    (book_good given plan.site.height book plan.commands (site_low (given site) plan.site good_site) good_book)

pub trial_good : (words : List (List ℕ)) (given : Readings) (good : IsGoodTrial words given) →
    (meaning words given).result
    ≡ Ok (printing (Ok (opened_lines (plan_tried good) (packets_taken good.bytes) (2 ^ good.fields.height))))
trial_good words given good =
    let plan = plan_tried good in
    ordered words given (TrialOf good.site good.book good.clear) good.order
    ∙ opened.trial_good good.site good.book good.clear given plan good.bytes
    (good_plan given good.site good.book plan good.good_site good.good_book)
    (plan_said given good.site good.book plan good.good_site good.low good.good_book) good.there good.short
    good.are_bytes good.whole good.is_clear
