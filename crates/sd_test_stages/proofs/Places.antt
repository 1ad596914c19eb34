-- One place.
use Rattle.std.proofs.Common.{◌^◌, ◌<◌, ◌≡◌, true, [], ◌∷◌, arith}
use Rattle.std.proofs.lemmas.List.Elements.{All-nil, All-cons}
use Rattle.sd_packet.specs.Positions.{is_positional}
use Rattle.sd_message.specs.EcmForm.{AreShort, ArePlaces}
use Rattle.sd_message.specs.declared.ecm_part.Place.{Place}

-- the position of one place has 48 bits
pub one_short : (place : Place) → place.position < 2 ^ 48 → AreShort (place ∷ [])
one_short place short =
    All-cons (λ (p : Place). p.position < 2 ^ 48) place [] short (All-nil (λ (p : Place). p.position < 2 ^ 48))

-- one place is the places of a message
pub one_place : (place : Place) → is_positional place.pid ≡ true → place.position < 2 ^ 48 → ArePlaces (place ∷ [])
one_place place positional short = record {
  few = omega arith;
  positioned = All-cons (λ (p : Place). is_positional p.pid ≡ true) place [] positional
      (All-nil (λ (p : Place). is_positional p.pid ≡ true));
  ascending = λ i j d less within. absurd (omega (arith, less, within));
  short = one_short place short;
}
