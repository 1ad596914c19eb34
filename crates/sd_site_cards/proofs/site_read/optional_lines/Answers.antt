use Rattle.std.proofs.Common.{rules}
use Rattle.std.proofs.lemmas.Result.{err_from_is_err_and}
use Rattle.sd_site_cards.specs.Text.{optional_on}
use Rattle.sd_site_cards.proofs.LeftOut.{first_word_bad, last_word_bad, first_period_bad}
use Rattle.sd_site_cards.proofs.site_read.optional_lines.Goals as goal

pub returns-in_err-first_word-clause-value : goal.returns-in_err-first_word-clause-value
returns-in_err-first_word-clause-value c =
    let p = err_from_is_err_and c.from_residual-in_err-first_word.result c.from_residual-in_err-first_word.ensures.1 in
    rw (p.1, p.2) (first_word_bad _ _ _ _ (rw c.from.ensures at c.in_ok-messages.ensures.value)
    c.in_err-first_word.ensures.value)

pub returns-in_err-last_word-clause-value : goal.returns-in_err-last_word-clause-value
returns-in_err-last_word-clause-value c =
    let p = err_from_is_err_and c.from_residual-in_err-last_word.result c.from_residual-in_err-last_word.ensures.1 in
    rw (p.1, p.2) (last_word_bad _ _ _ _ _ _ (rw c.from.ensures at c.in_ok-messages.ensures.value)
    c.in_ok-first_word.ensures.value c.in_err-last_word.ensures.value)

pub returns-in_err-first_period-clause-value : goal.returns-in_err-first_period-clause-value
returns-in_err-first_period-clause-value c =
    let p =
    err_from_is_err_and c.from_residual-in_err-first_period.result c.from_residual-in_err-first_period.ensures.1 in
    rw (p.1, p.2) (first_period_bad _ _ _ _ _ _ _ _ (rw c.from.ensures at c.in_ok-messages.ensures.value)
    c.in_ok-first_word.ensures.value c.in_ok-last_word.ensures.value c.in_err-first_period.ensures.value)

pub returns-clause-value : goal.returns-clause-value
unfolding optional_on
returns-clause-value c = search rules
