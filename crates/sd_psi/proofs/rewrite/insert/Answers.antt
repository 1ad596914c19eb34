use Rattle.sd_psi.proofs.Moving.{insert_laid}
use Rattle.sd_psi.proofs.rewrite.insert.Goals as goal

pub returns : goal.returns
returns c =
    insert_laid c.args.bytes.now c.set_lengths.new.head c.args.descriptor.now c.rotate_right.new.self
    c.copy_from_slice.new.self c.seal.new.section _ _ c.requires.long c.set_lengths.ensures.length
    c.requires.descriptor
    c.fields-get-section_length.ensures.value c.fields-get-program_info_length.ensures.value c.set_lengths.ensures.value
    c.rotate_right.ensures.after c.copy_from_slice.ensures.after c.seal.ensures.value
