use Rattle.std.proofs.Common.{◌≡◌, ◌∙◌, ◌/◌, List, ℕ, take, ap}
use Rattle.std.specs.FinMap.{insert}
use Rattle.sd_ports.specs.Files.{Files}
use Rattle.sd_ports_memory.specs.Memory.{Shelf, told_files}
use Rattle.sd_ports_memory.proofs.Closing.{half_stays}
use Rattle.sd_ports_memory.proofs.shelf.MemDepotDepot.close_out.Goals as goal

pub returns-in-Err-clause-prefix : goal.returns-in-Err-clause-prefix
returns-in-Err-clause-prefix c =
    let seen = ap (λ (s : Shelf). s.files) c.self-2.view_is in
    let begun = ap (λ (s : Shelf). s.files) c.in-Err.ensures.err in
    let entered = ap (λ (s : Shelf). s.files) c.self.view_is in
    let files : told_files c.self-2.inside.files ≡ c.args.self.now.files = search (seen, begun, entered) in
    half_stays _ _ c.args.name.now c.args.port.held (c.len.result / 2)
    (c.replace.ensures
    ∙ ap (λ (m : Files). insert m c.args.name.now c.truncate.new.self.items) files
    ∙ ap (insert c.args.self.now.files c.args.name.now)
    (c.truncate.ensures.items ∙ ap (λ (bytes : List ℕ). take (c.len.result / 2) bytes) c.into_bytes-bytes.ensures))
