-- Public meaning: the things that a head end has sent, and the counters of its own messages after them.
use Rattle.std.specs.Prelude.{◌≡◌, ℕ, ◌+◌, ◌%◌, ◌≤◌, Bool, true, false, List, [], ◌++◌, length, count_by, if◌then◌else◌}
use Rattle.std.specs.Prelude.{Option, Some, None}
use Rattle.std.specs.List.{concat}
use Rattle.sd_packet.specs.Packing.{section_packet}
use Rattle.sd_psi.specs.OurCat.{cat_section}
use Rattle.sd_site_cards.specs.SiteFields.{SiteFields}
use Rattle.sd_message.specs.EcmVersions.{IsVersion, IsNamed, IsSince, most_places}
use Rattle.sd_message.specs.EcmForm.{ArePositioned, ArePidsAscending, AreShort}
use Rattle.sd_message.specs.EcmParts.{message_of, parts_of}
use Rattle.sd_message.specs.declared.ecm_message.EcmHead.{EcmHead}
use Rattle.sd_message.specs.declared.ecm_part.Place.{Place}
use Rattle.sd_spec.specs.Sent.{Item, Cat, Entitles, Controls, Carries, is_cat_item}
use Rattle.sd_head.specs.Sending.{counter_after, with_counters, recounted, packed_part}
use Rattle.sd_head.specs.declared.sender.Sender.{Sender}

-- the thing is a section of entitlements
abbrev pub is_entitlement : Item → Bool
is_entitlement Cat = false
is_entitlement (Entitles emm) = true
is_entitlement (Controls part) = false
is_entitlement (Carries k packet) = false

-- it is a part of a control message
abbrev pub is_ecm_item : Item → Bool
is_ecm_item Cat = false
is_ecm_item (Entitles emm) = false
is_ecm_item (Controls part) = true
is_ecm_item (Carries k packet) = false

-- the counters that come next after these things [this project, docs/FORMATS.md, Sections]
pub record HasSentItems (site : SiteFields) (earlier : List Item) (sender : Sender) : Type 0 where
  pub cat_is : sender.cat ≡ section_packet (cat_section site.ca site.emm site.ecm) 1 0
  pub cats_are : sender.cats ≡ count_by is_cat_item earlier % 16
  pub emms_are : sender.emms ≡ count_by is_entitlement earlier % 16
  pub ecms_are : sender.ecms ≡ count_by is_ecm_item earlier % 16

-- the message with these positions may be sent [this project, docs/FORMATS.md, Messages]
pub record MayBeSent (head : EcmHead) (places : List Place) : Type 0 where
  pub version : IsVersion head.version
  pub named : IsNamed head.version head.run
  pub since : IsSince head.version head.number head.since
  pub few : length places ≤ most_places
  pub positioned : ArePositioned places
  pub ascending : ArePidsAscending places
  pub short : AreShort places

-- so may a message, if there is one
abbrev pub AllMayBeSent : Option EcmHead → List Place → Type 0
AllMayBeSent None places = Unit {0}
AllMayBeSent (Some head) places = MayBeSent head places

-- the bytes of the tables, where they are due
abbrev pub tables_bytes : Sender → Bool → List (List ℕ) → List ℕ
tables_bytes sender due emms =
    if due then recounted sender.cat sender.cats ++ concat (with_counters recounted sender.emms emms) else []

-- the bytes of a message, if there is one
abbrev pub message_bytes : ℕ → Sender → Option EcmHead → List ℕ
message_bytes pid sender None = []
message_bytes pid sender (Some head) =
    concat (with_counters (packed_part pid) sender.ecms (parts_of (message_of head sender.places.items)))

-- how many parts it has
abbrev pub parts_in : Sender → Option EcmHead → ℕ
parts_in sender None = 0
parts_in sender (Some head) = length (parts_of (message_of head sender.places.items))

-- the counters after tables and a message
pub record HasCountersAfter (old : Sender) (due : Bool) (emms : List (List ℕ)) (message : Option EcmHead)
    (new : Sender) : Type 0 where
  pub cat : new.cat ≡ old.cat
  pub cats : new.cats ≡ (if due then (old.cats + 1) % 16 else old.cats)
  pub emms_next : new.emms ≡ (if due then counter_after old.emms (length emms) else old.emms)
  pub ecms : new.ecms ≡ counter_after old.ecms (parts_in old message)

-- the positions alone changed
pub record HasPlaced (old new : Sender) : Type 0 where
  pub cat : new.cat ≡ old.cat
  pub cats : new.cats ≡ old.cats
  pub emms : new.emms ≡ old.emms
  pub ecms : new.ecms ≡ old.ecms
