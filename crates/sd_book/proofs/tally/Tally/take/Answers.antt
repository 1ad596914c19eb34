use Rattle.sd_book.proofs.Tallies.{tally_with_subscribe, tally_with_revoke, tally_with_period}
use Rattle.sd_book.proofs.tally.Tally.take.Goals as goal

pub returns-in-Subscribe-clause-tally : goal.returns-in-Subscribe-clause-tally
returns-in-Subscribe-clause-tally c = λ commands tally. rw c.in-Subscribe.is
    (rw c.mark.ensures.period (tally_with_subscribe _ commands _ _ _ _ _ _ tally c.mark.ensures.marks
    c.mark.new.self.counted))

pub returns-in-Revoke-clause-tally : goal.returns-in-Revoke-clause-tally
returns-in-Revoke-clause-tally c = λ commands tally. rw c.in-Revoke.is
    (rw c.mark-in-Revoke.ensures.period (tally_with_revoke _ commands _ _ _ _ _ _ tally c.mark-in-Revoke.ensures.marks
    c.mark-in-Revoke.new.self.counted))

pub returns-in-Period-clause-tally : goal.returns-in-Period-clause-tally
returns-in-Period-clause-tally c = λ commands tally. rw c.in-Period.is (tally_with_period _ commands _ _ _ tally)
