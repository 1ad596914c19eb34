use Rattle.sd_ports.proofs.Calls.{open_as_before}
use Rattle.sd_ports.proofs.Outlets.{there_after, written_whole, written_prefix, written_cut}
use Rattle.sd_ports.proofs.file.write_file.Goals as goal

pub returns-in-Ok-closed-clause-file : goal.returns-in-Ok-closed-clause-file
returns-in-Ok-closed-clause-file g c =
    written_whole _ _ _ _ _ _ _ c.args.bytes.now _ _ c.in_ok-port.ensures.files c.in_ok-port.ensures.empty
    c.in-Ok.ensures.all c.in-Ok-closed.ensures.closed c.in_ok-port.ensures.made.given c.in_ok-port.ensures.made.later
    c.close_out-closed.ensures.made

pub returns-in-Err-closed-clause-file : goal.returns-in-Err-closed-clause-file
returns-in-Err-closed-clause-file g c =
    written_cut _ _ _ _ _ _ _ c.args.bytes.now _ _ c.in_ok-port.ensures.files c.in_ok-port.ensures.empty
    c.in-Ok.ensures.all c.close_out-closed.ensures.prefix c.in_ok-port.ensures.made.given
    c.in_ok-port.ensures.made.later c.close_out-closed.ensures.made

pub returns-in-Err-clause-file : goal.returns-in-Err-clause-file
returns-in-Err-clause-file g c =
    written_prefix _ _ _ _ _ _ _ c.args.bytes.now _ _ c.in_ok-port.ensures.files c.in_ok-port.ensures.empty
    c.in-Err.ensures.prefix c.close_out-closed.ensures.prefix c.in_ok-port.ensures.made.given
    c.in_ok-port.ensures.made.later c.close_out-closed.ensures.made

pub close_out-closed-requires : goal.close_out-closed-requires
close_out-closed-requires g c = there_after _ _ _ _ c.in_ok-port.ensures.files

pub returns-in-Ok-closed-clause-ports : goal.returns-in-Ok-closed-clause-ports
returns-in-Ok-closed-clause-ports g c =
    open_as_before _ _ _ c.in_ok-port.ensures.ports.given c.close_out-closed.ensures.ports

pub returns-in-Err-closed-clause-ports : goal.returns-in-Err-closed-clause-ports
returns-in-Err-closed-clause-ports g c =
    open_as_before _ _ _ c.in_ok-port.ensures.ports.given c.close_out-closed.ensures.ports

pub returns-in-Err-clause-ports : goal.returns-in-Err-clause-ports
returns-in-Err-clause-ports g c =
    open_as_before _ _ _ c.in_ok-port.ensures.ports.given c.close_out-closed.ensures.ports
