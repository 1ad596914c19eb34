-- The positions of a message, as many at a time as fit into a part.
use Rattle.std.proofs.Common.{◌≡◌, inl, inr, ℕ, ◌+◌, ◌-◌, ◌*◌, ◌<◌, ◌≤◌, ◌^◌, List, length, drop, eq-eqb, arith, refl}
use Rattle.std.proofs.Common.{sym, ap, ◌∙◌, subst}
use Rattle.std.specs.Prelude.{All, Some, slice_get, flat_map, replicate}
use Rattle.std.proofs.lemmas.Bool.{cases_eq, ne_eqb}
use Rattle.sd_message.specs.Pieces.{pieces_for}
use Rattle.sd_message.proofs.Pieces as Pieces
use Rattle.sd_message.proofs.Pieces.{full_or_last, some_or_first, long_piece, each_of_piece, pairs_of_piece}
use Rattle.sd_message.proofs.Pieces.{filled_items, filled_rest, filled_length}
use Rattle.sd_message.specs.EcmVersions.{IsVersion, IsNamed, IsSince, positions_for}
use Rattle.sd_message.specs.EcmSpelled.{listed_places}
use Rattle.sd_message.specs.EcmForm.{IsEcmCounted, IsPositioned, ArePositioned, ArePidsAscending, AreShort, IsEcm}
use Rattle.sd_message.specs.EcmForm.{FitsEcmFields}
use Rattle.sd_message.specs.EcmForm.{no_place}
use Rattle.sd_message.specs.EcmFields.{padded_places}
use Rattle.sd_message.specs.EcmParts.{Message, parts_for, part_count_of, places_at, part_at, parts_of, IsMessage}
use Rattle.sd_message.specs.EcmParts.{IsOfMessage}
use Rattle.sd_message.specs.EcmParts.{SaySame}
use Rattle.sd_message.specs.declared.ecm_part.Place.{Place}
use Rattle.sd_message.specs.declared.ecm_part.EcmPart.{EcmPart}
use Rattle.sd_message.proofs.Versions.{few_positions, some_positions}

-- a part with this last part and these positions
abbrev pub made : Message → ℕ → ℕ → List Place → List Place → EcmPart
made message x last own positions = record {
  version = message.version;
  number = message.number;
  period = message.period;
  word = message.word;
  clear = message.clear;
  since = message.since;
  run = message.run;
  closing = message.closing;
  part = x;
  last_part = last;
  wrapped = message.wrapped;
  check = message.check;
  count = length own;
  positions = positions;
}

-- a part of the message, by its fields
pub made_is : (message : Message) (x last : ℕ) (own positions : List Place) → last ≡ part_count_of message - 1 →
    own ≡ places_at message x → positions ≡ padded_places own → made message x last own positions ≡ part_at message x
unfolding part_at
made_is message x last own positions p q r = rw (r, q, p) refl

-- a part has room for some
some_fit : (version : ℕ) → 1 ≤ positions_for version
some_fit version = omega (arith, some_positions version)

-- a part of the message has the positions of its place
listed_at : (message : Message) (x : ℕ) → listed_places (part_at message x) ≡ places_at message x
unfolding part_at
listed_at message x = filled_items 13 no_place (places_at message x)

-- joined, the parts have all positions
pub joined_are_all : (message : Message) → flat_map listed_places (parts_of message) ≡ message.places
unfolding parts_of
joined_are_all message =
    Pieces.joined_are_all listed_places (part_at message) (positions_for message.version) message.places
    (some_fit message.version) (listed_at message)

-- so those ascend over all parts
pub all_ascend : (message : Message) → ArePidsAscending message.places →
    ArePidsAscending (flat_map listed_places (parts_of message))
all_ascend message up = subst ArePidsAscending (sym (joined_are_all message)) up

-- how many parts there are
pub as_many : (message : Message) → length (parts_of message) ≡ part_count_of message
unfolding parts_of
as_many message = Pieces.as_many (part_at message) (part_count_of message)

-- a fact of each place is one of each part
each_part : (P : EcmPart → Type 0) (message : Message) → ((x : ℕ) → x < part_count_of message → P (part_at message x)) →
    All P (parts_of message)
unfolding parts_of
each_part P message each = Pieces.each_made P (part_at message) (part_count_of message) each

-- the part of a number
pub stands_at : (message : Message) (x : ℕ) → x < part_count_of message → slice_get (parts_of message) x
    ≡ Some (part_at message x)
unfolding parts_of
stands_at message x within = Pieces.stands_at (part_at message) (part_count_of message) x within

-- what stands at a number
made_at : (message : Message) (x : ℕ) (part : EcmPart) → slice_get (parts_of message) x ≡ Some part →
    part ≡ part_at message x
unfolding parts_of
made_at message x part there = Pieces.made_at (part_at message) (part_count_of message) x part there

-- has it
pub number_is : (message : Message) (x : ℕ) (part : EcmPart) → slice_get (parts_of message) x ≡ Some part →
    part.part ≡ x
unfolding part_at
number_is message x part there = ap (λ (p : EcmPart). p.part) (made_at message x part there)

-- two parts of the message say the same of it
same_at : (message : Message) (x y : ℕ) → SaySame (part_at message x) (part_at message y)
unfolding part_at
same_at message x y = (refl, refl)

pub two_say_the_same : (message : Message) (x y : ℕ) (a b : EcmPart) → slice_get (parts_of message) x ≡ Some a →
    slice_get (parts_of message) y ≡ Some b → SaySame a b
two_say_the_same message x y a b p q =
    subst (λ (part : EcmPart). SaySame part b) (sym (made_at message x a p))
    (subst (λ (part : EcmPart). SaySame (part_at message x) part) (sym (made_at message y b q)) (same_at message x y))

-- position k stands in the part of its quotient by the number of positions in a part, at the remainder
pub place_stands : (message : Message) (q r k : ℕ) → positions_for message.version * q + r ≡ k →
    r < positions_for message.version →
    k < length message.places → slice_get (listed_places (part_at message q)) r ≡ slice_get message.places k
place_stands message q r k place few within =
    ap (λ (l : List Place). slice_get l r) (listed_at message q)
    ∙ Pieces.item_stands (positions_for message.version) q r k message.places no_place place few within

-- the counts of a part are good
counted_at : (message : Message) (x : ℕ) → x < part_count_of message →
    IsEcmCounted (positions_for message.version) x (part_count_of message - 1) (length (places_at message x))
counted_at message x within =
    let n : ℕ = positions_for message.version in
    let long = long_piece n message.places x in
    let full = full_or_last n (length message.places) x (some_fit message.version) within in
    let some = some_or_first n (length message.places) x (some_fit message.version) within in
    let least = some_fit message.version in
    record {
      few = omega arith;
      full = elim full [ inl h ↦ inl h | inr h ↦ inr (omega arith) ];
      some = elim some [ inl h ↦ inl h | inr h ↦ inr (omega arith) ];
    }

-- what a part says of its version, its number and its rest
record AreRight (part : EcmPart) : Type 0 where
  version : IsVersion part.version
  named : IsNamed part.version part.run
  since : IsSince part.version part.number part.since
  numbered : part.part ≤ part.last_part
  counted : IsEcmCounted (positions_for part.version) part.part part.last_part part.count
  rest : drop part.count part.positions ≡ replicate (13 - part.count) no_place

are_right : (message : Message) (x : ℕ) → x < part_count_of message → IsVersion message.version →
    IsNamed message.version message.run → IsSince message.version message.number message.since →
    AreRight (part_at message x)
unfolding part_at
are_right message x within version named since = record {
  version = version;
  named = named;
  since = since;
  numbered = omega arith;
  counted = counted_at message x within;
  rest = filled_rest 13 no_place (places_at message x);
}

-- a part of the message is one that this project writes
pub is_ecm : (message : Message) (x : ℕ) → x < part_count_of message → IsVersion message.version →
    IsNamed message.version message.run → IsSince message.version message.number message.since →
    ArePositioned message.places → ArePidsAscending message.places → AreShort message.places → IsEcm (part_at message x)
is_ecm message x within version named since places up positions =
    let n : ℕ = positions_for message.version in
    let parts = are_right message x within version named since in
    record {
      version = parts.version;
      named = parts.named;
      since = parts.since;
      numbered = parts.numbered;
      counted = parts.counted;
      places = rw (listed_at message x) (each_of_piece IsPositioned n message.places x places);
      ascending = rw (listed_at message x) (pairs_of_piece (λ (a b : Place). a.pid < b.pid) n message.places x up);
      positions = rw (listed_at message x) (each_of_piece (λ (place : Place). place.position < 2 ^ 48) n message.places
          x positions);
      rest = parts.rest;
    }

-- how many parts a message has at most
few_parts : (version places : ℕ) → places ≤ 256 → parts_for version places ≤ 22
unfolding pieces_for positions_for
few_parts version places few = elim (cases_eq version 1) [
  | inl e ↦ rw (eq-eqb version 1 e) (omega arith)
  | inr g ↦ rw (ne_eqb version 1 g) (omega arith)
]

-- and each fits its fields
fits_at : (message : Message) (x : ℕ) → x < part_count_of message → IsMessage message →
    FitsEcmFields (part_at message x)
unfolding part_at
fits_at message x within is =
    let few = few_parts message.version (length message.places) is.count in
    let long = long_piece (positions_for message.version) message.places x in
    let most = few_positions message.version in
    let before : message.since ≤ message.number = elim is.since.before [
      | inl h ↦ omega arith
      | inr h ↦ omega
          (arith, h.0)
    ] in
    let number = is.number in
    record {
      head = record {
        number = is.number;
        period = is.period;
        word = is.word;
        clear = is.clear;
        since = omega arith;
        run = is.run;
        wrapped = is.wrapped;
        check = is.check;
      };
      part_fits = omega arith;
      last_part = omega arith;
      positions = filled_length 13 no_place (places_at message x) (omega arith);
    }

-- each part of the message is one that this project writes, and fits its fields
pub all_are_ecms : (message : Message) → IsMessage message →
    All (λ part. IsEcm part × FitsEcmFields part) (parts_of message)
all_are_ecms message is =
    each_part (λ part. IsEcm part × FitsEcmFields part) message
    (λ x within. (
      is_ecm message x within is.version is.named is.since is.places is.ascending is.positions,
      fits_at message x
          within is,
    ))

-- each says the same of the message
pub all_are_of : (message : Message) → All (IsOfMessage message) (parts_of message)
unfolding part_at
all_are_of message =
    each_part (IsOfMessage message) message (λ x within. record {
      version = refl;
      number = refl;
      period = refl;
      word = refl;
      clear = refl;
      since = refl;
      run = refl;
      closing = refl;
      wrapped = refl;
      check = refl;
      last_part = refl;
    })
