use Rattle.std.proofs.Common.{ℕ, List, subst}
use Rattle.std.specs.Prelude.{map, string_bytes}
use Rattle.sd_command_base.specs.Outside.{io_state_at}
use Rattle.sd_command_base.specs.Results.{RunResult}
use Rattle.sd_run.specs.Meaning.{meaning}
use Rattle.sd_law_run.proofs.Aired.{air_part, used_part}
use Rattle.sd_law_run.proofs.Losing.{lost_part}
use Rattle.sd_law_run.proofs.Ordered.{air_answers, receive_answers, watch_answers}
use Rattle.sd_law_run.proofs.Parts.{receive_part}
use Rattle.sd_law_run.proofs.Used.{changed_marked, mark_left, used_refused}
use Rattle.sd_law_run.proofs.WatchedWhole.{whole_part}
use Rattle.sd_law_run.proofs.airing.air.Goals as goal

pub returns-clause-goes_on : goal.returns-clause-goes_on
returns-clause-goes_on g c names plan bytes words site book clear mark given well =
    let a = io_state_at g.D.Depot g.P.Sink c.args.depot.now c.args.print.now c.args.steps.now in
    let b = io_state_at g.D.Depot g.P.Sink c.run.new.depot c.run.new.print c.run.new.steps in
    let told = rw c.read.ensures at c.run.ensures.value in
    let own = subst (λ (w : List (List ℕ)). RunResult (meaning w) a b c.run.result) words told in
    air_part names plan bytes a given b c.run.result mark
    (air_answers names a b c.run.result site book clear mark own) well

pub returns-clause-once : goal.returns-clause-once
returns-clause-once g c files mark told used there =
    used_refused (map string_bytes c.args.words.now) files mark
    (io_state_at g.D.Depot g.P.Sink c.args.depot.now c.args.print.now c.args.steps.now)
    (io_state_at g.D.Depot g.P.Sink c.run.new.depot c.run.new.print c.run.new.steps) c.run.result
    told (rw c.read.ensures at c.run.ensures.value) used there

pub returns-clause-used : goal.returns-clause-used
returns-clause-used g c names plan words site book clear mark given well =
    let a = io_state_at g.D.Depot g.P.Sink c.args.depot.now c.args.print.now c.args.steps.now in
    let b = io_state_at g.D.Depot g.P.Sink c.run.new.depot c.run.new.print c.run.new.steps in
    let told = rw c.read.ensures at c.run.ensures.value in
    let own = subst (λ (w : List (List ℕ)). RunResult (meaning w) a b c.run.result) words told in
    used_part names plan a b c.run.result given (air_answers names a b c.run.result site book clear mark own) well

pub returns-clause-marked_first : goal.returns-clause-marked_first
returns-clause-marked_first g c files mark out told used named changed =
    changed_marked (map string_bytes c.args.words.now) files mark out
    (io_state_at g.D.Depot g.P.Sink c.args.depot.now c.args.print.now c.args.steps.now)
    (io_state_at g.D.Depot g.P.Sink c.run.new.depot c.run.new.print c.run.new.steps) c.run.result
    told (rw c.read.ensures at c.run.ensures.value) used changed

pub returns-clause-mark : goal.returns-clause-mark
returns-clause-mark g c files mark told used =
    mark_left (map string_bytes c.args.words.now) files mark
    (io_state_at g.D.Depot g.P.Sink c.args.depot.now c.args.print.now c.args.steps.now)
    (io_state_at g.D.Depot g.P.Sink c.run.new.depot c.run.new.print c.run.new.steps) c.run.result
    told (rw c.read.ensures at c.run.ensures.value) used

pub returns-clause-received : goal.returns-clause-received
returns-clause-received g c names plan u clear words card stream sends within card_there stream_there well =
    let a = io_state_at g.D.Depot g.P.Sink c.args.depot.now c.args.print.now c.args.steps.now in
    let b = io_state_at g.D.Depot g.P.Sink c.run.new.depot c.run.new.print c.run.new.steps in
    let told = rw c.read.ensures at c.run.ensures.value in
    let own = subst (λ (w : List (List ℕ)). RunResult (meaning w) a b c.run.result) words told in
    receive_part plan clear sends names u a b c.run.result within card_there stream_there
    (receive_answers names a b c.run.result card stream own) well

pub returns-clause-lost : goal.returns-clause-lost
returns-clause-lost g c names plan u clear flags words card stream sends within card_there stream_there well =
    let a = io_state_at g.D.Depot g.P.Sink c.args.depot.now c.args.print.now c.args.steps.now in
    let b = io_state_at g.D.Depot g.P.Sink c.run.new.depot c.run.new.print c.run.new.steps in
    let told = rw c.read.ensures at c.run.ensures.value in
    let own = subst (λ (w : List (List ℕ)). RunResult (meaning w) a b c.run.result) words told in
    lost_part names plan clear sends u flags a b c.run.result within card_there stream_there
    (receive_answers names a b c.run.result card stream own) well

pub returns-clause-watched : goal.returns-clause-watched
returns-clause-watched g c names plan u clear words out stream sends steady unmarked within card_there stream_there
    well =
    let a = io_state_at g.D.Depot g.P.Sink c.args.depot.now c.args.print.now c.args.steps.now in
    let b = io_state_at g.D.Depot g.P.Sink c.run.new.depot c.run.new.print c.run.new.steps in
    let told = rw c.read.ensures at c.run.ensures.value in
    let own = subst (λ (w : List (List ℕ)). RunResult (meaning w) a b c.run.result) words told in
    whole_part plan clear sends steady unmarked u within names a b c.run.result card_there stream_there
    (watch_answers names a b c.run.result out stream own) well
