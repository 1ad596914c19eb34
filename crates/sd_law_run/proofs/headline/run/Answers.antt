use Rattle.std.proofs.Common.{ℕ, List, subst}
use Rattle.std.specs.Prelude.{map, string_bytes}
use Rattle.sd_command_base.specs.Outside.{io_state_at}
use Rattle.sd_command_base.specs.Results.{RunResult}
use Rattle.sd_run.specs.Meaning.{meaning}
use Rattle.sd_law_run.proofs.Parts.{all_sendable, head_part, card_part, receive_part}
use Rattle.sd_law_run.proofs.Ordered.{head_answers, card_answers, receive_answers, leaf_low}
use Rattle.sd_law_run.proofs.Losing.{lost_part}
use Rattle.sd_law_run.proofs.Outs.{done_leaves, file_stays, files_made, refusal_leaves}
use Rattle.sd_law_run.proofs.headline.run.Goals as goal

pub returns-clause-head : goal.returns-clause-head
returns-clause-head g c names plan clear words site book stream given well =
    let a = io_state_at g.D.Depot g.P.Sink c.args.depot.now c.args.print.now c.args.steps.now in
    let b = io_state_at g.D.Depot g.P.Sink c.run.new.depot c.run.new.print c.run.new.steps in
    let told = rw c.read.ensures at c.run.ensures.value in
    let own = subst (λ (w : List (List ℕ)). RunResult (meaning w) a b c.run.result) words told in
    head_part names plan clear a given b c.run.result (head_answers names a b c.run.result site book stream own) well

pub returns-clause-card : goal.returns-clause-card
returns-clause-card g c names leaf site u words says apart good within well =
    let a = io_state_at g.D.Depot g.P.Sink c.args.depot.now c.args.print.now c.args.steps.now in
    let b = io_state_at g.D.Depot g.P.Sink c.run.new.depot c.run.new.print c.run.new.steps in
    let told = rw c.read.ensures at c.run.ensures.value in
    let own = subst (λ (w : List (List ℕ)). RunResult (meaning w) a b c.run.result) words told in
    card_part names site u a b c.run.result good within
    (card_answers names leaf u a b c.run.result apart says (leaf_low _ site u good within) own) well

pub returns-clause-receive : goal.returns-clause-receive
returns-clause-receive g c names plan u clear z words card stream given within card_there stream_there well =
    let a = io_state_at g.D.Depot g.P.Sink c.args.depot.now c.args.print.now c.args.steps.now in
    let b = io_state_at g.D.Depot g.P.Sink c.run.new.depot c.run.new.print c.run.new.steps in
    let told = rw c.read.ensures at c.run.ensures.value in
    let own = subst (λ (w : List (List ℕ)). RunResult (meaning w) a b c.run.result) words told in
    receive_part plan clear (all_sendable names plan clear z given) names u a b c.run.result within card_there
    stream_there
    (receive_answers names a b c.run.result card stream own) well

pub returns-clause-lost : goal.returns-clause-lost
returns-clause-lost g c names plan u clear z flags words card stream given within card_there stream_there well =
    let a = io_state_at g.D.Depot g.P.Sink c.args.depot.now c.args.print.now c.args.steps.now in
    let b = io_state_at g.D.Depot g.P.Sink c.run.new.depot c.run.new.print c.run.new.steps in
    let told = rw c.read.ensures at c.run.ensures.value in
    let own = subst (λ (w : List (List ℕ)). RunResult (meaning w) a b c.run.result) words told in
    lost_part names plan clear (all_sendable names plan clear z given) u flags a b c.run.result within card_there
    stream_there
    (receive_answers names a b c.run.result card stream own) well

pub returns-clause-done : goal.returns-clause-done
returns-clause-done g c files told is =
    done_leaves (meaning (map string_bytes c.args.words.now)) files
    (io_state_at g.D.Depot g.P.Sink c.args.depot.now c.args.print.now c.args.steps.now)
    (io_state_at g.D.Depot g.P.Sink c.run.new.depot c.run.new.print c.run.new.steps) c.run.result
    told is (rw c.read.ensures at c.run.ensures.value)

pub returns-clause-files : goal.returns-clause-files
returns-clause-files g c files name told no_out no_mark =
    file_stays (map string_bytes c.args.words.now) files
    (io_state_at g.D.Depot g.P.Sink c.args.depot.now c.args.print.now c.args.steps.now)
    (io_state_at g.D.Depot g.P.Sink c.run.new.depot c.run.new.print c.run.new.steps) c.run.result
    told (rw c.read.ensures at c.run.ensures.value) name no_out no_mark

pub returns-clause-made : goal.returns-clause-made
returns-clause-made g c =
    files_made (map string_bytes c.args.words.now)
    (io_state_at g.D.Depot g.P.Sink c.args.depot.now c.args.print.now c.args.steps.now)
    (io_state_at g.D.Depot g.P.Sink c.run.new.depot c.run.new.print c.run.new.steps) c.run.result
    (rw c.read.ensures at c.run.ensures.value)

pub returns-clause-refused : goal.returns-clause-refused
returns-clause-refused g c refuses =
    refusal_leaves (map string_bytes c.args.words.now)
    (io_state_at g.D.Depot g.P.Sink c.args.depot.now c.args.print.now c.args.steps.now)
    (io_state_at g.D.Depot g.P.Sink c.run.new.depot c.run.new.print c.run.new.steps) c.run.result
    refuses (rw c.read.ensures at c.run.ensures.value)
