use Rattle.std.proofs.Common.{arith, ◌≡◌, ◌∙◌, ◌+◌, ◌++◌, ◌∷◌, [], ℕ, List, ap, sym, subst}
use Rattle.std.proofs.Common.{length, length-append}
use Rattle.sd_site_cards.specs.CardFields.{card_of}
use Rattle.sd_field.specs.Seats.{AreNew, IsNewSeat}
use Rattle.sd_field.specs.declared.seat.Seat.{Seat}
use Rattle.sd_field.proofs.Seats.{seats_more, some_there}
use Rattle.sd_field.proofs.seat.new_seats.Goals as goal
use Rattle.sd_field.proofs.seat.new_seats.Goals.{in-Some+in_ok-seat+in_ok-add, in_default}

pub loop-number-preserved : goal.loop-number-preserved
loop-number-preserved g c = elim c.match-new.branch [
  | in-Some+in_ok-seat+in_ok-add w ↦
      let site = c.args.site.now in
      let before : List Seat = c.loop-number.seats.items in
      let more : Seat = w.in_ok-seat.seat in
      let invariant = c.loop-number.invariant in
      let items : c.match-new.seats.items ≡ before ++ more ∷ [] =
      ap (λ seats. seats.items) w.seats-is ∙ w.in_ok-add.ensures in
      let here : w.in-Some.u ≡ length before = w.in-Some.ensures.value ∙ sym invariant.many in
      let new = subst (λ (u : ℕ). IsNewSeat (card_of site.master site.ca site.height u) c.args.room more) here
      w.in_ok-seat.ensures in
      record {
        many = ap length items ∙ (length-append before (more ∷ [])
            ∙ ap (λ (n : ℕ). n + 1) invariant.many);
        new = subst (λ (seats : List Seat). AreNew site c.args.room seats) (sym items)
            (seats_more site c.args.room before more invariant.new new);
      }
  | in_default w ↦
      absurd (let some = c.new.ensures.range.1 (omega (
        arith,
        c.loop-number-test.true,
        c.loop-number.auto.number-end,
        c.leaves-number-end.ensures.value,
      )) in some_there c.new.result some w.in_default.not-Some)
]
