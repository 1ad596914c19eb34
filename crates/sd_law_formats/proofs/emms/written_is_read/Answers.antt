use Rattle.sd_message.proofs.EmmReading.{written_spells}
use Rattle.sd_law_formats.proofs.emms.written_is_read.Goals as goal

pub returns : goal.returns
returns c =
    let emm = c.args.emm.now in
    c.read_emm.ensures.complete emm c.write_emm.ensures.fits c.requires.form c.requires.sets
    (rw c.write_emm.ensures.value (written_spells emm c.args.pid c.args.counter c.requires.pid c.requires.counter))
