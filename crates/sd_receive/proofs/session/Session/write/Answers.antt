use Rattle.std.proofs.Common.{rules, sym, subst}
use Rattle.sd_message.specs.EcmForm.{AreShort}
use Rattle.sd_receive.proofs.session.Session.write.Goals as goal

pub write-requires-clause-short : goal.write-requires-clause-short
write-requires-clause-short g c = subst AreShort (sym c.coming.ensures) c.requires.short

pub returns-in-Some-clause-value : goal.returns-in-Some-clause-value
returns-in-Some-clause-value g c = search rules
