use Rattle.std.proofs.Common.{map, refl}
use Rattle.std.proofs.lemmas.List.{take_all}
use Rattle.std.proofs.lemmas.Result.{IfOk-from_err}
use Rattle.sd_message.specs.EmmSpelled.{names_in}
use Rattle.sd_run_streams.specs.MessageLines.{name_data}
use Rattle.sd_run_streams.proofs.Growing.{list_shown, part_shown}
use Rattle.sd_run_streams.proofs.emm.names_value.Goals as goal

-- no set's name has its value yet
pub loop-entry-init : goal.loop-entry-init
loop-entry-init c = rw c.new-names.ensures.items refl

-- one more set's name has its value
pub loop-entry-preserved : goal.loop-entry-preserved
loop-entry-preserved c = part_shown name_data (λ entry. entry.name) c.loop-entry.names.items c.push.new.self.items
    c.in_ok-name_value.field-0 c.args.entries.now c.loop-entry.entry-index _ c.in_ok-push.ensures.items
    c.in_ok-name_value.ensures c.loop-entry-test.true c.loop-entry.invariant

pub returns-in_err-name_value : goal.returns-in_err-name_value
returns-in_err-name_value c = IfOk-from_err c.from_residual.result _ c.from_residual.ensures.0

pub returns-in_err-push : goal.returns-in_err-push
returns-in_err-push c = IfOk-from_err c.from_residual-in_err-push.result _ c.from_residual-in_err-push.ensures.0

-- all sets' names have their values
pub returns : goal.returns
returns c = list_shown c.loop-entry.names (map name_data (names_in c.args.entries.now))
    (rw (take_all c.loop-entry.entry-index c.args.entries.now c.loop-entry-test.false) at c.loop-entry.invariant)
