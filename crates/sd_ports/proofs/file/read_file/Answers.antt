use Rattle.std.proofs.Common.{rules}
use Rattle.sd_ports.proofs.Calls.{open_as_before}
use Rattle.sd_ports.proofs.file.read_file.Goals as goal

pub returns-in_err-read-clause-cause : goal.returns-in_err-read-clause-cause
returns-in_err-read-clause-cause g c = search rules

pub returns-in_err-read-clause-stops : goal.returns-in_err-read-clause-stops
returns-in_err-read-clause-stops g c = search rules

pub returns-in_err-read-clause-ports : goal.returns-in_err-read-clause-ports
returns-in_err-read-clause-ports g c =
    open_as_before _ _ _ c.in_ok-port.ensures.ports.given c.close_in.ensures.ports

pub returns-clause-ports : goal.returns-clause-ports
returns-clause-ports g c = open_as_before _ _ _ c.in_ok-port.ensures.ports.given c.close_in.ensures.ports
