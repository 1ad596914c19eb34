use Rattle.std.proofs.Common.{refl}
use Rattle.sd_receive.proofs.Listening.{follows_none}
use Rattle.sd_receive.proofs.session.Session.new.Goals as goal

pub returns : goal.returns
returns c = (
  refl,
  λ card. follows_none card _ refl (c.in_ok-keys.ensures card) c.in_ok-assembler.ensures c.in_ok-buffer.ensures,
)
