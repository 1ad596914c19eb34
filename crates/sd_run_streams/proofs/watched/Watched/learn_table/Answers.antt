use Rattle.sd_run_streams.proofs.Learning.{cat_learned, pmt_learned}
use Rattle.sd_run_streams.proofs.watched.Watched.learn_table.Goals as goal

pub returns-in-Cat : goal.returns-in-Cat
returns-in-Cat c = λ pid section sound is.
    cat_learned pid section c.args.table.now c.in-Cat._cat c.args.self.now.marks.items c.in-Cat.is is

pub returns-in-Pmt : goal.returns-in-Pmt
returns-in-Pmt c = λ pid section sound is.
    pmt_learned pid section c.args.table.now c.in-Pmt._pmt c.args.self.now.marks.items c.in-Pmt.is is
