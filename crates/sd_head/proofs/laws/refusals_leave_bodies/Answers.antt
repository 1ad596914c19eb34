use Rattle.sd_head.proofs.Chained.{refused_written, refused_clear, first_refused, end_refused}
use Rattle.sd_head.proofs.laws.refusals_leave_bodies.Goals as goal

pub returns : goal.returns
returns c = record { body = refused_written; clear = refused_clear; fault = first_refused; end = end_refused }
