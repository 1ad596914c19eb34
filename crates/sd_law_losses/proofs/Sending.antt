-- The packets of a broadcast's things, and where a receiver is among them.
use Rattle.std.proofs.Common.{◌≡◌, refl, ℕ, Bool, true, false, List, [], ◌∷◌, Option, Some, None, sym, inl, inr}
use Rattle.std.specs.Prelude.{if◌then◌else◌}
use Rattle.std.specs.List.{list_any}
use Rattle.std.proofs.lemmas.Bool.{false≢true}
use Rattle.sd_site_cards.specs.CardFields.{CardFields}
use Rattle.sd_spec.specs.Sent.{Item, Cat, Entitles, Controls, Carries, is_cat_item}
use Rattle.sd_psi.specs.OurCat.{cat_tuning}
use Rattle.sd_psi.specs.declared.our_cat.Tuning.{Tuning}
use Rattle.sd_spec.specs.Heard.{hears}
use Rattle.sd_law_losses.specs.Chosen.{chosen}
use Rattle.sd_law_losses.specs.Kept.{after_cat}
use Rattle.sd_law_losses.specs.Pieces.{packet_run_name}
use Rattle.sd_law_losses.specs.Ends.{is_message}
use Rattle.sd_law_losses.proofs.Leading.{is_quiet}
use Rattle.sd_law_losses.proofs.Following.{IsPacketOf}

-- the packet is the CAT
abbrev pub IsCatOf : CardFields → Tuning → List ℕ → Type 0
IsCatOf card tuning packet =
    (cat_tuning card.ca packet ≡ Some tuning) × (is_quiet (hears card.height tuning 0 packet) ≡ true)

-- a message of the run with this name
abbrev pub IsMessageOf : CardFields → Tuning → Option ℕ → List ℕ → Type 0
IsMessageOf card tuning name packet =
    (cat_tuning card.ca packet ≡ None) × (packet_run_name card.height tuning packet ≡ Some name)

-- or neither
abbrev pub IsOther : CardFields → Tuning → List ℕ → Type 0
IsOther card tuning packet =
    (cat_tuning card.ca packet ≡ None) × (is_quiet (hears card.height tuning 0 packet) ≡ true)

-- the packet of a thing of the run
abbrev pub IsSentAs : CardFields → Tuning → Option ℕ → Item → List ℕ → Type 0
IsSentAs card tuning name Cat packet = IsCatOf card tuning packet
IsSentAs card tuning name (Entitles emm) packet = IsMessageOf card tuning name packet
IsSentAs card tuning name (Controls part) packet = IsMessageOf card tuning name packet
IsSentAs card tuning name (Carries j carried) packet = IsOther card tuning packet

-- the packets of these things, in order
abbrev pub AreSentAs : CardFields → Tuning → Option ℕ → List Item → List (List ℕ) → Type 0
AreSentAs card tuning name [] [] = Unit {0}
AreSentAs card tuning name [] (packet ∷ packets) = ⊥
AreSentAs card tuning name (item ∷ items) [] = ⊥
AreSentAs card tuning name (item ∷ items) (packet ∷ packets) =
    IsSentAs card tuning name item packet × AreSentAs card tuning name items packets

-- no message, or one of the run
pub packet_is : (card : CardFields) (tuning : Tuning) (name : Option ℕ) (item : Item) (packet : List ℕ) →
    IsSentAs card tuning name item packet → IsPacketOf card tuning name packet
packet_is card tuning name Cat packet is = inl is.1
packet_is card tuning name (Entitles emm) packet is = inr is.1
packet_is card tuning name (Controls part) packet is = inr is.1
packet_is card tuning name (Carries j carried) packet is = inl is.1

-- the same things and packets of them
pub sent_chosen : (card : CardFields) (tuning : Tuning) (name : Option ℕ) (fs : List Bool) (items : List Item)
    (packets : List (List ℕ)) → AreSentAs card tuning name items packets →
    AreSentAs card tuning name (chosen fs items) (chosen fs packets)
unfolding chosen
sent_chosen card tuning name [] items packets sent = tt
sent_chosen card tuning name (f ∷ fs) [] [] sent = tt
sent_chosen card tuning name (f ∷ fs) [] (packet ∷ packets) sent = absurd sent
sent_chosen card tuning name (f ∷ fs) (item ∷ items) [] sent = absurd sent
sent_chosen card tuning name (true ∷ fs) (item ∷ items) (packet ∷ packets) sent =
    (sent.0, sent_chosen card tuning name fs items packets sent.1)
sent_chosen card tuning name (false ∷ fs) (item ∷ items) (packet ∷ packets) sent =
    sent_chosen card tuning name fs items packets sent.1

-- where a receiver is in a broadcast: no CAT came, no message of it came, or one did
pub data Progress : Type 0 where
  Untuned : Progress
  Waiting : Progress
  Begun : Progress

abbrev pub after_item : Progress → Item → Progress
after_item Untuned Cat = Waiting
after_item Untuned (Entitles emm) = Untuned
after_item Untuned (Controls part) = Untuned
after_item Untuned (Carries j packet) = Untuned
after_item Waiting Cat = Waiting
after_item Waiting (Entitles emm) = Begun
after_item Waiting (Controls part) = Begun
after_item Waiting (Carries j packet) = Waiting
after_item Begun item = Begun

-- where it is after these things
abbrev pub after_items : Progress → List Item → Progress
after_items at [] = at
after_items at (item ∷ items) = after_items (after_item at item) items

-- after a message nothing changes
pub begun_stays : (items : List Item) → after_items Begun items ≡ Begun
begun_stays [] = refl
begun_stays (item ∷ items) = begun_stays items

-- once a CAT came it waits for a message
pub after_waiting : (items : List Item) →
    after_items Waiting items ≡ (if list_any is_message items then Begun else Waiting)
after_waiting [] = refl
after_waiting (Cat ∷ items) = after_waiting items
after_waiting (Entitles emm ∷ items) = begun_stays items
after_waiting (Controls part ∷ items) = begun_stays items
after_waiting (Carries j packet ∷ items) = after_waiting items

pub after_untuned : (items : List Item) → after_items Untuned items
    ≡ (if list_any is_cat_item items then (if list_any is_message (after_cat items) then Begun else Waiting) else
    Untuned)
unfolding after_cat
after_untuned [] = refl
after_untuned (Cat ∷ items) = after_waiting items
after_untuned (Entitles emm ∷ items) = after_untuned items
after_untuned (Controls part ∷ items) = after_untuned items
after_untuned (Carries j packet ∷ items) = after_untuned items

-- without a CAT nothing is told
pub untold : (items : List Item) → list_any is_cat_item items ≡ false → list_any is_message (after_cat items) ≡ false
unfolding after_cat
untold [] none = refl
untold (Cat ∷ items) none = absurd (false≢true (sym none))
untold (Entitles emm ∷ items) none = untold items none
untold (Controls part ∷ items) none = untold items none
untold (Carries j packet ∷ items) none = untold items none
