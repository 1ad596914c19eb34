use Rattle.sd_psi.proofs.Moving.{remove_laid}
use Rattle.sd_psi.proofs.rewrite.remove.Goals as goal

pub returns : goal.returns
returns c =
    remove_laid c.args.bytes.now c.set_lengths.new.head c.rotate_left.new.self _ _ _ c.requires.long
    c.set_lengths.ensures.length
    c.fields-get-section_length.ensures.value c.fields-get-program_info_length.ensures.value c.set_lengths.ensures.value
    c.rotate_left.ensures.after c.close.ensures
