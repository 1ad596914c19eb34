use Rattle.std.proofs.lemmas.Bool.{true≢false}
use Rattle.sd_receive.proofs.Finding.{found_gives, none_gives}
use Rattle.sd_receive.proofs.emm.section.wrapped_key_in.Goals as goal

pub returns-in-Some-clause-value : goal.returns-in-Some-clause-value
returns-in-Some-clause-value g c =
    found_gives _ c.args.emm.now c.listed-entry-items.result.now c.loop-entry.entry-index _
    c.in-Some.key
    c.loop-entry.invariant.items c.loop-entry-test.true c.loop-entry.invariant.found
    (λ e. true≢false (c.in-Some.ensures.none.1 e)) c.in-Some.ensures.value

pub returns-clause-value : goal.returns-clause-value
returns-clause-value g c =
    none_gives _ c.args.emm.now c.listed-entry-items.result.now c.loop-entry.entry-index
    c.loop-entry.invariant.items c.loop-entry-test.false c.loop-entry.invariant.found
