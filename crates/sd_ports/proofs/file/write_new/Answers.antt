use Rattle.sd_ports.proofs.Outlets.{failed_new, made_new, there_after, written_whole, written_prefix, written_cut}
use Rattle.sd_ports.proofs.file.write_new.Goals as goal

pub close_out-closed-requires : goal.close_out-closed-requires
close_out-closed-requires g c = there_after _ _ _ _ (rw c.in-Some.is at c.in_ok-port.ensures.files)

pub returns-in-Ok-closed-clause-file : goal.returns-in-Ok-closed-clause-file
returns-in-Ok-closed-clause-file g c =
    made_new _ _ _ _ _ _ (rw c.in-Some.is at c.in_ok-port.ensures.new) (
    written_whole _ _ _ _ _ _ _ c.args.bytes.now _ _ (rw c.in-Some.is at c.in_ok-port.ensures.files)
    (rw c.in-Some.is at c.in_ok-port.ensures.empty) c.in-Ok.ensures.all c.in-Ok-closed.ensures.closed
    (rw c.in-Some.is at c.in_ok-port.ensures.made.given) c.in_ok-port.ensures.made.later
    c.close_out-closed.ensures.made)

pub returns-in-Err-closed-clause-file : goal.returns-in-Err-closed-clause-file
returns-in-Err-closed-clause-file g c =
    failed_new _ _ _ _ _ _ (rw c.in-Some.is at c.in_ok-port.ensures.new) (
    written_cut _ _ _ _ _ _ _ c.args.bytes.now _ _ (rw c.in-Some.is at c.in_ok-port.ensures.files)
    (rw c.in-Some.is at c.in_ok-port.ensures.empty) c.in-Ok.ensures.all c.close_out-closed.ensures.prefix
    (rw c.in-Some.is at c.in_ok-port.ensures.made.given) c.in_ok-port.ensures.made.later
    c.close_out-closed.ensures.made)

pub returns-in-Err-clause-file : goal.returns-in-Err-clause-file
returns-in-Err-clause-file g c =
    failed_new _ _ _ _ _ _ (rw c.in-Some.is at c.in_ok-port.ensures.new) (
    written_prefix _ _ _ _ _ _ _ c.args.bytes.now _ _ (rw c.in-Some.is at c.in_ok-port.ensures.files)
    (rw c.in-Some.is at c.in_ok-port.ensures.empty) c.in-Err.ensures.prefix c.close_out-closed.ensures.prefix
    (rw c.in-Some.is at c.in_ok-port.ensures.made.given) c.in_ok-port.ensures.made.later
    c.close_out-closed.ensures.made)
