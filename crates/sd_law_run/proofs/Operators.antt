-- Good words and files of an operator's tools mean work.
use Rattle.std.proofs.Common.{◌≡◌, cond, List, Option, Some, None, Ok, Err, ap, ◌∙◌, ℕ}
use Rattle.std.proofs.lemmas.Bool.{le-leb}
use Rattle.sd_command_base.specs.declared.status.Status.TheVariants.{BadWord, Clash}
use Rattle.sd_command_base.specs.declared.status.Clash.{Clash as ClashKind}
use Rattle.sd_command_base.specs.Spec.{Readings, of_result, value, ◌>>=◌}
use Rattle.sd_command_base.specs.Work.{work_of_text}
use Rattle.sd_command_base.proofs.Follow.{then_is}
use Rattle.sd_command_base.specs.Both.{SiteBook, both_meaning}
use Rattle.sd_command_base.specs.Files.{site_in, book_in}
use Rattle.sd_command_line.specs.Words.{ApartOf, PlanOf}
use Rattle.sd_run_books.specs.Apart.{apart_text, plan_clash, plan_of_both, told_apart, told_clash}
use Rattle.sd_run_books.specs.Air.{last_word_for, planning, roomy_site_of_file, told_room}
use Rattle.sd_law_run.specs.Good.{IsGoodApart, IsGoodPlan}
use Rattle.sd_run.specs.Meaning.{meaning}
use Rattle.sd_law_run.proofs.Goodness.{site_good, site_low, book_good, both_good, ordered}

-- what a broadcast takes is printed
pub air_good : (words : List (List ℕ)) (given : Readings) (good : IsGoodPlan words given) →
    (meaning words given).result ≡ Ok (planning (record { site = good.fields; commands = good.commands })
    good.packets.value good.pids.value)
air_good words given good =
    let f = good.fields in
    let packets = good.packets in
    ordered words given (PlanOf good.site good.book packets good.pids) good.order
    ∙ then_is (roomy_site_of_file good.site.number packets (given good.site)) f
    (λ fields. book_in given fields.height good.book
    >>= λ commands. value (planning (record { site = fields; commands = commands }) packets.value good.pids.value))
    (then_is (site_in given good.site) f (λ fields. of_result (told_room packets fields))
    (site_good given good.site f good.good_site)
    ∙ ap (λ b. cond b (Ok f) (Err (BadWord packets.word)))
    (le-leb (last_word_for f packets.value) f.last_word good.room))
    ∙ then_is (book_in given f.height good.book) good.commands
    (λ commands. value (planning (record { site = f; commands = commands }) packets.value good.pids.value))
    (book_good given f.height good.book good.commands (site_low (given good.site) f good.good_site) good.good_book)

-- the sites and books of good words
abbrev pub first_plan : (words : List (List ℕ)) (given : Readings) → IsGoodApart words given → SiteBook
first_plan words given good = record { site = good.fields; commands = good.commands }

abbrev pub second_plan : (words : List (List ℕ)) (given : Readings) → IsGoodApart words given → SiteBook
second_plan words given good = record { site = good.other_fields; commands = good.more_commands }

-- the four files are read, and the two are judged
judged_so : (words : List (List ℕ)) (given : Readings) (good : IsGoodApart words given) →
    (meaning words given).result ≡ (of_result (told_clash
    (plan_clash (plan_of_both (first_plan words given good)) (plan_of_both (second_plan words given good)))
    (apart_text (plan_of_both (first_plan words given good)) (plan_of_both (second_plan words given good))))
    >>= λ text. value (work_of_text text)).result
unfolding told_apart
judged_so words given good =
    let one = first_plan words given good in
    let two = second_plan words given good in
    ordered words given (ApartOf good.site good.book good.other good.more) good.order
    ∙ then_is (both_meaning good.site good.book given) one
    (λ first. both_meaning good.other good.more given
    >>= λ second. of_result (told_apart (plan_of_both first) (plan_of_both second)) >>=
    λ text. value (work_of_text text))
    (both_good given good.site good.book good.fields good.commands good.good_site good.good_book)
    ∙ then_is (both_meaning good.other good.more given) two
    (λ second. of_result (told_apart (plan_of_both one) (plan_of_both second)) >>= λ text. value (work_of_text text))
    (both_good given good.other good.more good.other_fields good.more_commands good.good_other good.good_more)

-- both lines are printed where there is no clash
pub apart_good : (words : List (List ℕ)) (given : Readings) (good : IsGoodApart words given) →
    plan_clash (plan_of_both (first_plan words given good)) (plan_of_both (second_plan words given good)) ≡ None →
    (meaning words given).result ≡ Ok (work_of_text (apart_text (plan_of_both (first_plan words given good))
    (plan_of_both (second_plan words given good))))
apart_good words given good none =
    judged_so words given good
    ∙ ap (λ (c : Option ClashKind). (of_result (told_clash c (apart_text (plan_of_both (first_plan words given good))
    (plan_of_both (second_plan words given good)))) >>= λ text. value (work_of_text text)).result) none

-- and where there is one it is the refusal
pub apart_clashes : (words : List (List ℕ)) (given : Readings) (good : IsGoodApart words given) (clash : ClashKind) →
    plan_clash (plan_of_both (first_plan words given good)) (plan_of_both (second_plan words given good)) ≡ Some clash →
    (meaning words given).result ≡ Err (Clash clash)
apart_clashes words given good clash some =
    judged_so words given good
    ∙ ap (λ (c : Option ClashKind). (of_result (told_clash c (apart_text (plan_of_both (first_plan words given good))
    (plan_of_both (second_plan words given good)))) >>= λ text. value (work_of_text text)).result) some
