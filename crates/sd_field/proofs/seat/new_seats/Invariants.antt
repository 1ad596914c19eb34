use Rattle.std.proofs.Common.{◌≡◌, length}
use Rattle.sd_field.specs.Seats.{AreNew}
use Rattle.sd_field.proofs.seat.new_seats.Given as goal

abbrev pub invariant-loop-number : goal.invariant-loop-number
invariant-loop-number g l = record {
  many : length l.seats.items ≡ l.number;
  new : AreNew l.site l.room l.seats.items;
}
