use Rattle.std.proofs.Common.{ℕ, List, subst}
use Rattle.sd_command_base.specs.Outside.{io_state_at}
use Rattle.sd_command_base.specs.Results.{RunResult}
use Rattle.sd_run.specs.Meaning.{meaning}
use Rattle.sd_law_run.proofs.Ordered.{watch_answers}
use Rattle.sd_law_run.proofs.Watched.{watch_part}
use Rattle.sd_law_run.proofs.Parts.{all_sendable}
use Rattle.sd_law_run.proofs.WatchedWhole.{whole_part}
use Rattle.sd_law_run.proofs.watching.watch.Goals as goal

pub returns-clause-goes_on : goal.returns-clause-goes_on
returns-clause-goes_on g c names card bytes words out stream is card_there stream_there well =
    let a = io_state_at g.D.Depot g.P.Sink c.args.depot.now c.args.print.now c.args.steps.now in
    let b = io_state_at g.D.Depot g.P.Sink c.run.new.depot c.run.new.print c.run.new.steps in
    let told = rw c.read.ensures at c.run.ensures.value in
    let own = subst (λ (w : List (List ℕ)). RunResult (meaning w) a b c.run.result) words told in
    watch_part names card bytes a b c.run.result is card_there stream_there
    (watch_answers names a b c.run.result out stream own) well

pub returns-clause-watched : goal.returns-clause-watched
returns-clause-watched g c names plan u clear z words out stream given steady unmarked within card_there stream_there
    well =
    let a = io_state_at g.D.Depot g.P.Sink c.args.depot.now c.args.print.now c.args.steps.now in
    let b = io_state_at g.D.Depot g.P.Sink c.run.new.depot c.run.new.print c.run.new.steps in
    let told = rw c.read.ensures at c.run.ensures.value in
    let own = subst (λ (w : List (List ℕ)). RunResult (meaning w) a b c.run.result) words told in
    whole_part plan clear (all_sendable names plan clear z given) steady unmarked u within names a b c.run.result
    card_there stream_there
    (watch_answers names a b c.run.result out stream own) well
