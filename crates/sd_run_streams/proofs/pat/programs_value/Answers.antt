use Rattle.std.proofs.Common.{map, refl}
use Rattle.std.proofs.lemmas.Result.{IfOk-from_err}
use Rattle.sd_psi.specs.Tables.{programs_in, programs_of}
use Rattle.sd_run_streams.specs.TableLines.{program_data}
use Rattle.sd_run_streams.proofs.Growing.{all_shown, fewer_left, first_shown, list_shown}
use Rattle.sd_run_streams.proofs.pat.programs_value.Goals as goal

-- all programs are left
pub loop-number-init : goal.loop-number-init
loop-number-init c = rw (c.new-programs.ensures.items, c.programs-rest.ensures) refl

-- one more program has its value
pub loop-number-preserved : goal.loop-number-preserved
loop-number-preserved c = first_shown program_data c.loop-number.programs.items c.push.new.self.items
    c.in_ok-program_value.field-0 (programs_in c.loop-number.rest.bytes.now) (programs_in c.next.new.self.bytes.now) _
    _ c.in_ok-push.ensures.items c.in_ok-program_value.ensures c.in-Some.ensures.value c.loop-number.invariant

pub loop-number-smaller : goal.loop-number-smaller
loop-number-smaller c = fewer_left (programs_in c.loop-number.rest.bytes.now)
    (programs_in c.next.new.self.bytes.now) _ c.in-Some.ensures.value

pub returns-in_err-program_value : goal.returns-in_err-program_value
returns-in_err-program_value c = IfOk-from_err c.from_residual.result _ c.from_residual.ensures.0

pub returns-in_err-push : goal.returns-in_err-push
returns-in_err-push c = IfOk-from_err c.from_residual-in_err-push.result _ c.from_residual-in_err-push.ensures.0

-- no program is left
pub returns : goal.returns
returns c = list_shown c.loop-number.programs (map program_data (programs_of c.args.pat.now.section.bytes.now))
    (all_shown program_data _ _ (programs_in c.loop-number.rest.bytes.now) (c.in_default.ensures.none.0 refl)
    c.loop-number.invariant)
