use Rattle.std.proofs.Common.{◌+◌, ◌∙◌, ap, refl, sym, length}
use Rattle.std.specs.Prelude.{is_some}
use Rattle.sd_engine.specs.Stream.{packets_of}
use Rattle.sd_field.proofs.Seats.{left_at, lost_seat, none_at, none_lost}
use Rattle.sd_field.proofs.seat.lose_next.Goals as goal

pub returns-then-is_some : goal.returns-then-is_some
returns-then-is_some c = record {
  seated = λ plan card clear total u w seated.
      lost_seat plan card clear total u (length (packets_of c.args.sent.now)) w c.args.seat.now
      (c.args.seat.now.cursor + 1) (left_at (packets_of c.args.sent.now) c.args.seat.now.cursor
      (ap is_some (sym c.packet_at.ensures.value) ∙ (sym c.is_some.ensures ∙ c.if-is_some.true))) seated refl;
}

pub returns-else-is_some : goal.returns-else-is_some
returns-else-is_some c = record {
  seated = λ plan card clear total u w seated.
      none_lost plan card clear total u (length (packets_of c.args.sent.now)) w c.args.seat.now
      (none_at (packets_of c.args.sent.now) c.args.seat.now.cursor
      (ap is_some (sym c.packet_at.ensures.value) ∙ (sym c.is_some.ensures ∙ c.if-is_some.false))) seated;
}
