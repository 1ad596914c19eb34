use Rattle.std.proofs.Common.{refl, ap, sym}
use Rattle.sd_book.specs.Commands.{last_period}
use Rattle.sd_spec.specs.Book.{event_book, sends}
use Rattle.sd_field.proofs.laid.Laid.new.Goals as goal

pub returns : goal.returns
unfolding event_book sends
returns c m =
    let e = c.in_ok-new.ensures in
    record { height = e.height; commands = e.value; last = sym (ap last_period e.value); sends = refl }
