use Rattle.std.proofs.Common.{refl}
use Rattle.std.proofs.lemmas.Result.{err_from_is_err_and}
use Rattle.sd_engine.specs.Sample.{sample_of}
use Rattle.sd_ports.specs.Faults.{file_fault}
use Rattle.sd_ports.specs.declared.fault.DepotFault.TheVariants.{Failed}
use Rattle.sd_ports.proofs.Calls.{open_as_before}
use Rattle.sd_ports.proofs.Faults.{file_cause, unwritten}
use Rattle.sd_ports.proofs.Outlets.{there_after, written_whole, written_prefix, written_cut}
use Rattle.sd_run_streams.proofs.Sampling.{whole_calls, failed_calls, unmade_calls, whole_cause, failed_cause}
use Rattle.sd_run_streams.proofs.Sampling.{closing_risen, writing_risen, opened_is_no_fault, failed_file}
use Rattle.sd_run_streams.proofs.Sampling.{stops_stand, stops_later}
use Rattle.sd_run_streams.proofs.sample_command.write_sample.Goals as goal

pub returns-in-Ok-closed-clause-file : goal.returns-in-Ok-closed-clause-file
returns-in-Ok-closed-clause-file g c = written_whole _ _ _ _ _ _ _ (sample_of c.args.number c.args.packets) _ _
    c.in_ok-port.ensures.files c.in_ok-port.ensures.empty c.in-Ok.ensures.ok c.in-Ok-closed.ensures.closed
    c.in_ok-port.ensures.made.given c.in_ok-port.ensures.made.later c.close_out-closed.ensures.made

pub returns-in-Err-closed-clause-file : goal.returns-in-Err-closed-clause-file
returns-in-Err-closed-clause-file g c = written_cut _ _ _ _ _ _ _ (sample_of c.args.number c.args.packets) _ _
    c.in_ok-port.ensures.files c.in_ok-port.ensures.empty c.in-Ok.ensures.ok c.close_out-closed.ensures.prefix
    c.in_ok-port.ensures.made.given c.in_ok-port.ensures.made.later c.close_out-closed.ensures.made

pub returns-in-Err-clause-file : goal.returns-in-Err-clause-file
returns-in-Err-clause-file g c = written_prefix _ _ _ _ _ _ _ (sample_of c.args.number c.args.packets) _ _
    c.in_ok-port.ensures.files c.in_ok-port.ensures.empty c.in-Err.ensures.prefix c.close_out-closed.ensures.prefix
    c.in_ok-port.ensures.made.given c.in_ok-port.ensures.made.later c.close_out-closed.ensures.made

-- the file was made, so it is there to be closed
pub close_out-closed-requires : goal.close_out-closed-requires
close_out-closed-requires g c = there_after _ _ _ _ c.in_ok-port.ensures.files

-- its port was opened and closed
pub returns-in-Ok-closed-clause-ports : goal.returns-in-Ok-closed-clause-ports
returns-in-Ok-closed-clause-ports g c =
    open_as_before _ _ _ c.in_ok-port.ensures.ports.given c.close_out-closed.ensures.ports

pub returns-in-Err-closed-clause-ports : goal.returns-in-Err-closed-clause-ports
returns-in-Err-closed-clause-ports g c =
    open_as_before _ _ _ c.in_ok-port.ensures.ports.given c.close_out-closed.ensures.ports

pub returns-in-Err-clause-ports : goal.returns-in-Err-clause-ports
returns-in-Err-clause-ports g c =
    open_as_before _ _ _ c.in_ok-port.ensures.ports.given c.close_out-closed.ensures.ports

-- which took two calls
pub returns-in-Ok-closed-clause-calls : goal.returns-in-Ok-closed-clause-calls
returns-in-Ok-closed-clause-calls g c =
    whole_calls _ _ _ c.in_ok-port.ensures.calls c.close_out-closed.ensures.calls

pub returns-in-Err-closed-clause-calls : goal.returns-in-Err-closed-clause-calls
returns-in-Err-closed-clause-calls g c =
    failed_calls _ _ _ c.in_ok-port.ensures.calls c.close_out-closed.ensures.calls

pub returns-in-Err-clause-calls : goal.returns-in-Err-clause-calls
returns-in-Err-clause-calls g c =
    failed_calls _ _ _ c.in_ok-port.ensures.calls c.close_out-closed.ensures.calls

-- a fault was told
pub returns-in-Err-closed-clause-stops : goal.returns-in-Err-closed-clause-stops
returns-in-Err-closed-clause-stops g c = λ other. absurd (other refl)

pub returns-in-Err-clause-stops : goal.returns-in-Err-clause-stops
returns-in-Err-clause-stops g c = λ other. absurd (other refl)

pub returns-in-Err-closed-clause-cause : goal.returns-in-Err-closed-clause-cause
returns-in-Err-closed-clause-cause g c = failed_cause c.in_ok-port.port _ _ _ _ _ _ c.in_ok-port.ensures.cause
    (closing_risen _ _ _ c.in-Err-closed.ensures.cause.failed)
    c.close_out-closed.ensures.within c.close_out-closed.ensures.misses

pub returns-in-Err-clause-cause : goal.returns-in-Err-clause-cause
returns-in-Err-clause-cause g c = failed_cause c.in_ok-port.port _ _ _ _ _ _ c.in_ok-port.ensures.cause
    (writing_risen _ _ _ _ c.in_ok-port.ensures.fresh c.in-Err.ensures.cause.failed
    c.close_out-closed.ensures.cause.later)
    c.close_out-closed.ensures.within c.close_out-closed.ensures.misses

-- none was there to tell
pub returns-in-Ok-closed-clause-cause : goal.returns-in-Ok-closed-clause-cause
returns-in-Ok-closed-clause-cause g c = whole_cause c.in_ok-port.port _ _ _ _ _ _ _ _ c.in_ok-port.ensures.cause
    c.in_ok-port.ensures.fresh c.in-Ok.ensures.cause c.in-Ok-closed.ensures.cause
    c.close_out-closed.ensures.within c.close_out-closed.ensures.misses

pub returns-in-Ok-closed-clause-stops : goal.returns-in-Ok-closed-clause-stops
returns-in-Ok-closed-clause-stops g c = λ other. stops_stand _ _ _ _ _
    (c.in_ok-port.ensures.stops.calm (λ fault. opened_is_no_fault c.in_ok-port.port Failed fault))
    c.in_ok-port.ensures.fresh c.in-Ok.ensures.cause.calm c.close_out-closed.ensures.stops
    c.close_out-closed.ensures.below

-- no count falls
pub returns-in-Ok-closed-clause-later : goal.returns-in-Ok-closed-clause-later
returns-in-Ok-closed-clause-later g c = stops_later _ _ _ _ c.in_ok-port.ensures.stops c.close_out-closed.ensures.stops
    c.close_out-closed.ensures.below

pub returns-in-Err-closed-clause-later : goal.returns-in-Err-closed-clause-later
returns-in-Err-closed-clause-later g c = stops_later _ _ _ _ c.in_ok-port.ensures.stops
    c.close_out-closed.ensures.stops c.close_out-closed.ensures.below

pub returns-in-Err-clause-later : goal.returns-in-Err-clause-later
returns-in-Err-clause-later g c = stops_later _ _ _ _ c.in_ok-port.ensures.stops c.close_out-closed.ensures.stops
    c.close_out-closed.ensures.below

-- no file was made
pub returns-in_err-port : goal.returns-in_err-port
returns-in_err-port g c =
    let p = err_from_is_err_and c.from_residual.result c.from_residual.ensures.1 in
    let fault = c.in_err-port.field-0.0 in
    rw (p.1, p.2) (record {
      file = unwritten _ _ _ _ c.args.name.now (sample_of c.args.number c.args.packets) fault
          c.in_err-port.ensures.unchanged c.in_err-port.ensures.missing c.in_err-port.ensures.made;
      cause = file_cause _ _ _ _ fault c.in_err-port.ensures.cause;
      stops = λ other. c.in_err-port.ensures.stops.calm (λ failed. other (failed_file _ fault failed));
      later = c.in_err-port.ensures.stops.later;
      ports = c.in_err-port.ensures.ports.refused;
      calls = unmade_calls _ _ (file_fault fault) c.in_err-port.ensures.calls;
    })
