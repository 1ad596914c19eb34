use Rattle.sd_ports_memory.proofs.Shelves.{told_there, lent_there}
use Rattle.sd_ports_memory.proofs.shelf.replace.Goals as goal

pub unwrap-file-requires : goal.unwrap-file-requires
unwrap-file-requires c =
    lent_there c.get_mut.result _ c.get_mut.ensures.value (told_there c.args.files.now c.args.name.now c.requires)
