use Rattle.std.proofs.Common.{ℕ, ◌+◌, ◌≤◌, Err, Ok, refl, inl, inr, arith}
use Rattle.std.specs.Prelude.{IsErrOf}
use Rattle.sd_base.specs.Count.{with_added}
use Rattle.sd_ports.specs.declared.file.FileFault.{FileFault}
use Rattle.sd_ports.specs.declared.file.FileFault.TheVariants as file
use Rattle.sd_command_base.specs.Outside.{depot_state}
use Rattle.sd_command_base.specs.declared.status.Status.TheVariants.{DepotFault, NoMemory}
use Rattle.sd_command_base.proofs.Places.{only_called}
use Rattle.sd_command_base.proofs.Looked.{looks_read, looks_long, looks_stopped}
use Rattle.sd_command_base.proofs.files.read_bytes.Goals as goal

-- what was read is no fault, and one fault is no other
read_not : {T : Type 0} (x : T) (fault : FileFault) → ¬ IsErrOf (Ok x) fault
read_not x fault e = cc

too_big_failed : {T : Type 0} → ¬ IsErrOf {T = T} (Err file.TooBig) file.Failed
too_big_failed e = cc

too_big_missing : {T : Type 0} → ¬ IsErrOf {T = T} (Err file.TooBig) file.Missing
too_big_missing e = cc

failed_missing : {T : Type 0} → ¬ IsErrOf {T = T} (Err file.Failed) file.Missing
failed_missing e = cc

no_memory_failed : {T : Type 0} → ¬ IsErrOf {T = T} (Err file.NoMemory) file.Failed
no_memory_failed e = cc

no_memory_missing : {T : Type 0} → ¬ IsErrOf {T = T} (Err file.NoMemory) file.Missing
no_memory_missing e = cc

-- a count rises by no more than is added
added_most : (before now more : ℕ) → now ≤ with_added before more → now ≤ before + more
added_most before now more most = omega (arith, most)

pub returns-in-Ok : goal.returns-in-Ok
returns-in-Ok g c =
    let a = depot_state g.D.Depot c.args.depot.now in
    let b = depot_state g.D.Depot c.read_file.new.depot in
    let h = c.in-Ok.ensures in
    looks_read (λ bytes. bytes.items) c.in-Ok.bytes c.args.word.number c.args.most c.args.kind c.args.word.text.now a b
    h.read h.within
    (only_called 2 a b h.files (h.cause.no_fault (read_not c.in-Ok.bytes file.Failed))
    (h.stops.calm (read_not c.in-Ok.bytes file.Failed)) (h.cause.no_miss (read_not c.in-Ok.bytes file.Missing)) h.made
    h.ports h.calls.done)

pub returns-in-Err-TooBig : goal.returns-in-Err-TooBig
returns-in-Err-TooBig g c =
    let a = depot_state g.D.Depot c.args.depot.now in
    let b = depot_state g.D.Depot c.read_file.new.depot in
    let h = rw c.in-Err-TooBig.field-0-is at c.in-Err-TooBig.ensures in
    looks_long (λ bytes. bytes.items) c.args.word.number c.args.most c.args.kind c.args.word.text.now a b
    (h.too_big refl)
    (record { files = h.files; made = h.made; ports = h.ports; calls = added_most a.calls b.calls 2 h.calls.most })
    (h.cause.no_fault too_big_failed) (h.cause.no_miss too_big_missing)

pub returns-in-Err-Failed : goal.returns-in-Err-Failed
returns-in-Err-Failed g c =
    let a = depot_state g.D.Depot c.args.depot.now in
    let b = depot_state g.D.Depot c.read_file.new.depot in
    let h = rw c.in-Err-Failed.field-0-is at c.in-Err-Failed.ensures in
    looks_stopped (λ bytes. bytes.items) c.args.word.number c.args.most c.args.kind c.args.word.text.now a b DepotFault
    (inr (refl, h.cause.failed refl, h.stops.failed refl)) h.once
    (record { files = h.files; made = h.made; ports = h.ports; calls = added_most a.calls b.calls 2 h.calls.most })
    (h.cause.no_miss failed_missing)

pub returns-in-Err-NoMemory : goal.returns-in-Err-NoMemory
returns-in-Err-NoMemory g c =
    let a = depot_state g.D.Depot c.args.depot.now in
    let b = depot_state g.D.Depot c.read_file.new.depot in
    let h = rw c.in-Err-NoMemory.field-0-is at c.in-Err-NoMemory.ensures in
    looks_stopped (λ bytes. bytes.items) c.args.word.number c.args.most c.args.kind c.args.word.text.now a b NoMemory
    (inl (refl, h.cause.no_fault no_memory_failed, h.stops.calm no_memory_failed)) h.once
    (record { files = h.files; made = h.made; ports = h.ports; calls = added_most a.calls b.calls 2 h.calls.most })
    (h.cause.no_miss no_memory_missing)
