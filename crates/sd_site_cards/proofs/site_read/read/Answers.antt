use Rattle.sd_site_cards.proofs.Alone.{is_site, is_read, is_cause}
use Rattle.sd_site_cards.proofs.site_read.read.Goals as goal

pub returns-clause-sound : goal.returns-clause-sound
returns-clause-sound c = is_site c.args.bytes.now c.judge.result c.judge.ensures

pub returns-clause-complete : goal.returns-clause-complete
returns-clause-complete c = is_read c.args.bytes.now c.judge.result c.judge.ensures

pub returns-clause-fault : goal.returns-clause-fault
returns-clause-fault c = is_cause c.args.bytes.now c.judge.result c.judge.ensures
