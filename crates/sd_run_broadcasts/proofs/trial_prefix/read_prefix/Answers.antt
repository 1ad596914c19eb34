use Rattle.std.proofs.Common.{◌∙◌, arith}
use Rattle.sd_ports.specs.Bytes.{prefix_of}
use Rattle.sd_ports.proofs.Calls.{twice_called, open_as_before}
use Rattle.sd_command_base.specs.Outside.{depot_state}
use Rattle.sd_command_base.specs.Spec.{whole_file_bytes, value}
use Rattle.sd_command_base.proofs.Follow.{looks_first}
use Rattle.sd_command_base.proofs.Looked.{bytes_seen, opens_refused}
use Rattle.sd_run_broadcasts.specs.Prefixes.{prefix_of_file}
use Rattle.sd_run_broadcasts.proofs.Prefixes.{prefix_answered}
use Rattle.sd_run_broadcasts.proofs.trial_prefix.read_prefix.Goals as goal

pub returns-in-Err : goal.returns-in-Err
unfolding prefix_of_file
returns-in-Err g c =
    let word = c.args.word.number in
    let name = c.args.word.text.now in
    let p = depot_state g.D.Depot c.args.depot.now in
    let q = depot_state g.D.Depot c.open_in.new.self in
    let h = c.in-Err.ensures in
    looks_first bytes_seen (λ prefix. prefix) (whole_file_bytes word) (λ bytes. value (prefix_of c.args.most bytes))
    name p q _
    (rw c.opening_fault.ensures (opens_refused word name p q _ h.not_there h.cause h.stops
    (record { files = h.files; made = h.made; ports = h.ports.refused; calls = let n = h.calls in omega (arith, n) })))

pub returns : goal.returns
returns g c =
    let p = depot_state g.D.Depot c.args.depot.now in
    let q = depot_state g.D.Depot c.close_in.new.self in
    let h = c.in-Ok.ensures in
    let k = c.close_in.ensures in
    let r = c.read_most-read.ensures in
    rw c.told.ensures (prefix_answered c.args.word.number c.args.most c.args.word.text.now p q _ _ _ _ _
    c.read_most-read.result h.opened (h.cause.no_fault (λ e. cc)) k.within k.faults (h.stops.calm (λ e. cc)) k.below
    k.stops h.fresh
    (record { value = r.value; within = r.within; full = r.full; failed = r.failed; calm = r.calm })
    (k.files ∙ h.files) (k.misses ∙ h.cause.no_miss (λ e. cc)) (k.made ∙ h.made)
    (open_as_before _ _ _ h.ports.given k.ports) (twice_called p.calls _ q.calls h.calls k.calls))
