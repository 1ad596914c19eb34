use Rattle.std.proofs.Common.{refl}
use Rattle.sd_receive.proofs.Listening.{follows_none}
use Rattle.sd_receive.proofs.session.Session.reset.Goals as goal

pub returns-clause-follows : goal.returns-clause-follows
returns-clause-follows c = λ card past follows.
    follows_none card _ refl (c.reset.ensures card past follows.keys) c.reset-2.ensures c.reset-3.ensures
