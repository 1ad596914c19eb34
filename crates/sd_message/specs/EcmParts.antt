-- Public meaning: all parts of a control message.
use Rattle.std.specs.Prelude.{◌≡◌, ℕ, ◌-◌, ◌^◌, ◌<◌, ◌≤◌, Bool, List, length, Option, IfSome}
use Rattle.sd_message.specs.Pieces.{pieces_for, piece_at, each_below}
use Rattle.sd_message.specs.EcmVersions.{IsVersion, IsNamed, IsSince, positions_for, most_places}
use Rattle.sd_message.specs.EcmForm.{ArePositioned, ArePidsAscending, AreShort}
use Rattle.sd_message.specs.EcmFields.{padded_places}
use Rattle.sd_message.specs.declared.ecm_part.Place.{Place}
use Rattle.sd_message.specs.declared.ecm_part.EcmPart.{EcmPart}
use Rattle.sd_message.specs.declared.ecm_message.EcmHead.{EcmHead}

-- what a control message says: the fields that each of its parts has, and all positions
pub record Message : Type 0 where
  pub version : ℕ
  pub number : ℕ
  pub period : ℕ
  pub word : ℕ
  pub clear : ℕ
  pub since : ℕ
  pub run : Option ℕ
  pub closing : Bool
  pub wrapped : List ℕ
  pub check : List ℕ
  pub places : List Place

-- the message of these fields and positions
abbrev pub message_of : EcmHead → List Place → Message
message_of head places = record {
  version = head.version;
  number = head.number;
  period = head.period;
  word = head.word;
  clear = head.clear;
  since = head.since;
  run = head.run;
  closing = head.closing;
  wrapped = head.wrapped;
  check = head.check;
  places = places;
}

-- how many parts of this version have room for so many positions; there is one without position where there is none
-- [this project, docs/FORMATS.md, Messages]
abbrev pub parts_for : ℕ → ℕ → ℕ
parts_for version places = pieces_for (positions_for version) places

-- the positions of part x [this project, docs/FORMATS.md, Messages]
abbrev pub places_at : Message → ℕ → List Place
places_at message x = piece_at (positions_for message.version) message.places x

-- how many parts the message has
abbrev pub part_count_of : Message → ℕ
part_count_of message = parts_for message.version (length message.places)

-- part x of the message [this project, docs/FORMATS.md, Messages]
unfoldable pub part_at : Message → ℕ → EcmPart
part_at message x = record {
  version = message.version;
  number = message.number;
  period = message.period;
  word = message.word;
  clear = message.clear;
  since = message.since;
  run = message.run;
  closing = message.closing;
  part = x;
  last_part = part_count_of message - 1;
  wrapped = message.wrapped;
  check = message.check;
  count = length (places_at message x);
  positions = padded_places (places_at message x);
}

-- all parts of the message, part 0 first [this project, docs/FORMATS.md, Messages]
unfoldable pub parts_of : Message → List EcmPart
parts_of message = each_below (part_at message) (part_count_of message)

-- the version is one of three, `since` and the broadcast's name are as they are to be, the PIDs are ones that have
-- positions, strictly ascending and no more than a message may have, and what the message says fits the fields of its
-- parts [this project, docs/FORMATS.md, Messages]
pub record IsMessage (message : Message) : Type 0 where
  pub version : IsVersion message.version
  pub named : IsNamed message.version message.run
  pub number : message.number < 2 ^ 32
  pub period : message.period < 2 ^ 32
  pub word : message.word < 2 ^ 32
  pub clear : message.clear < 2 ^ 32
  pub since : IsSince message.version message.number message.since
  pub run : IfSome message.run (λ run. run < 2 ^ 32)
  pub wrapped : length message.wrapped ≡ 32
  pub check : length message.check ≡ 16
  pub count : length message.places ≤ most_places
  pub places : ArePositioned message.places
  pub ascending : ArePidsAscending message.places
  pub positions : AreShort message.places

-- what a part says of its message, beside the number of parts
abbrev pub ecm_head_of : EcmPart → EcmHead
ecm_head_of part = record {
  version = part.version;
  number = part.number;
  period = part.period;
  word = part.word;
  clear = part.clear;
  since = part.since;
  run = part.run;
  closing = part.closing;
  wrapped = part.wrapped;
  check = part.check;
}

-- two parts say the same of their message
abbrev pub SaySame : EcmPart → EcmPart → Type 0
SaySame a b = (ecm_head_of a ≡ ecm_head_of b) × (a.last_part ≡ b.last_part)

-- the part says of the message what each of its parts does
pub record IsOfMessage (message : Message) (part : EcmPart) : Type 0 where
  pub version : part.version ≡ message.version
  pub number : part.number ≡ message.number
  pub period : part.period ≡ message.period
  pub word : part.word ≡ message.word
  pub clear : part.clear ≡ message.clear
  pub since : part.since ≡ message.since
  pub run : part.run ≡ message.run
  pub closing : part.closing ≡ message.closing
  pub wrapped : part.wrapped ≡ message.wrapped
  pub check : part.check ≡ message.check
  pub last_part : part.last_part ≡ part_count_of message - 1
