use Rattle.std.proofs.Common.{◌≡◌}
use Rattle.sd_book.specs.Place.{IsPlaceIn}
use Rattle.sd_head.specs.Kept.{revoked_before}
use Rattle.sd_head.proofs.entitling.take_periods.Given as goal

-- the periods so far are taken
abbrev pub invariant-loop-period : goal.invariant-loop-period
invariant-loop-period g l = record {
  place : IsPlaceIn l.book.commands l.place;
  next : l.place.next ≡ l._period;
  height : l.index.height ≡ l.fn.index.height;
  value : l.fn.index.revoked ≡ revoked_before l.book.height l.book.commands l.fn.place.next →
      l.index.revoked ≡ revoked_before l.book.height l.book.commands l.place.next;
}
