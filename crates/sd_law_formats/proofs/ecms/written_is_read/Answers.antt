use Rattle.sd_message.proofs.EcmReading.{written_spells}
use Rattle.sd_law_formats.proofs.ecms.written_is_read.Goals as goal

pub returns : goal.returns
returns c =
    let part = c.args.part.now in
    c.read_ecm.ensures.complete part c.write_ecm.ensures.fits c.requires.form
    (rw c.write_ecm.ensures.value (written_spells part c.args.pid c.args.counter c.requires.pid c.requires.counter))
