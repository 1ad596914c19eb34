use Rattle.sd_run_streams.proofs.Learning.{fault_learned}
use Rattle.sd_run_streams.proofs.watched.Watched.learn.Goals as goal

pub returns-in-Err : goal.returns-in-Err
returns-in-Err c = λ pid section is.
    fault_learned pid section c.args.table.now c.in-Err._fault c.args.self.now.marks.items c.in-Err.is is
