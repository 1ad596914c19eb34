-- Public meaning: which parts are ones that a control message has.
use Rattle.std.specs.Prelude.{◌≡◌, ℕ, ◌-◌, ◌^◌, ◌<◌, ◌≤◌, ◌⊎◌, true, List, length, drop, replicate, All, AllPairs}
use Rattle.std.specs.Prelude.{IfSome}
use Rattle.sd_packet.specs.Positions.{is_positional}
use Rattle.sd_message.specs.EcmVersions.{IsVersion, IsNamed, IsSince, positions_for, most_positions, most_places}
use Rattle.sd_message.specs.EcmSpelled.{listed_places}
use Rattle.sd_message.specs.declared.ecm_part.Place.{Place}
use Rattle.sd_message.specs.declared.ecm_part.EcmPart.{EcmPart}

-- each part has as many positions as fit but the last, which has one or more, or none where it is part 0
-- [this project, docs/FORMATS.md, Messages]
pub record IsEcmCounted (most part last count : ℕ) : Type 0 where
  pub few : count ≤ most
  pub full : (part ≡ last) ⊎ (count ≡ most)
  pub some : (part ≡ 0) ⊎ (0 < count)

-- the PID is one that has positions [this project, docs/FORMATS.md, Messages]
abbrev pub IsPositioned : Place → Type 0
IsPositioned place = is_positional place.pid ≡ true

-- so is each
abbrev pub ArePositioned : List Place → Type 0
ArePositioned places = All IsPositioned places

-- the PIDs are strictly ascending [this project, docs/FORMATS.md, Messages]
abbrev pub ArePidsAscending : List Place → Type 0
ArePidsAscending places = AllPairs (λ a b. a.pid < b.pid) places

-- each position has 48 bits
abbrev pub AreShort : List Place → Type 0
AreShort places = All (λ place. place.position < 2 ^ 48) places

-- positions that a message may have: few enough, of PIDs that have positions, ascending, each of 48 bits
-- [this project, docs/FORMATS.md, Messages]
pub record ArePlaces (places : List Place) : Type 0 where
  pub few : length places ≤ most_places
  pub positioned : ArePositioned places
  pub ascending : ArePidsAscending places
  pub short : AreShort places

-- what stands past the positions
abbrev pub no_place : Place
no_place = record { pid = 0; position = 0 }

-- a part of a control message [this project, docs/FORMATS.md, Messages]
pub record IsEcm (part : EcmPart) : Type 0 where
  pub version : IsVersion part.version
  pub named : IsNamed part.version part.run
  pub since : IsSince part.version part.number part.since
  pub numbered : part.part ≤ part.last_part
  pub counted : IsEcmCounted (positions_for part.version) part.part part.last_part part.count
  pub places : ArePositioned (listed_places part)
  pub ascending : ArePidsAscending (listed_places part)
  pub positions : AreShort (listed_places part)
  pub rest : drop part.count part.positions ≡ replicate (most_positions - part.count) no_place

-- what stands before the positions fits its fields
pub record FitsEcmHead (part : EcmPart) : Type 0 where
  pub number : part.number < 2 ^ 32
  pub period : part.period < 2 ^ 32
  pub word : part.word < 2 ^ 32
  pub clear : part.clear < 2 ^ 32
  pub since : part.since < 2 ^ 32
  pub run : IfSome part.run (λ run. run < 2 ^ 32)
  pub wrapped : length part.wrapped ≡ 32
  pub check : length part.check ≡ 16

-- the numbers and the bytes fit their fields, as those of each value of the type do
pub record FitsEcmFields (part : EcmPart) : Type 0 where
  pub head : FitsEcmHead part
  pub part_fits : part.part < 2 ^ 8
  pub last_part : part.last_part < 2 ^ 8
  pub positions : length part.positions ≡ most_positions
