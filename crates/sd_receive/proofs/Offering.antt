-- What a part of a control message offers.
use Rattle.std.proofs.Common.{◌≡◌, ℕ, List, refl, ap, ◌∙◌, subst, true, false, Bool}
use Rattle.std.specs.Prelude.{Option, Some, None, if◌then◌else◌, nat_lt, ◌≤◌}
use Rattle.std.specs.Option.{option_map_or}
use Rattle.std.proofs.lemmas.Bool.{or_parts, ltb-false}
use Rattle.sd_site_cards.specs.CardFields.{CardFields}
use Rattle.sd_message.specs.EcmParts.{Message}
use Rattle.sd_message.specs.declared.ecm_part.EcmPart.{EcmPart}
use Rattle.sd_message.specs.declared.ecm_fault.EcmFault.{EcmFault}
use Rattle.sd_message.specs.declared.ecm_fault.EcmFault.TheVariants.{Back}
use Rattle.sd_message.specs.declared.stream_fault.StreamFault.TheVariants as Fault
use Rattle.sd_psi.specs.declared.our_cat.Tuning.{Tuning}
use Rattle.sd_spec.specs.Heard.{Heard, Controls}
use Rattle.sd_spec.specs.Stretches.{newest_message, message_parts_to, completes, current}
use Rattle.sd_spec.specs.Keys.{key_at}
use Rattle.sd_spec.specs.Offered.{Offering, no_offering, refused_offering, part_fault, is_before, is_back}
use Rattle.sd_spec.specs.Offered.{part_offering}
use Rattle.sd_spec.specs.Offered.{message_offering, stretch_wrote, word_fault, wrote_or, heard_offering}
use Rattle.sd_receive.specs.EcmAssembler.{back_fault, part_fault_of}

-- a message that goes back
back_of : (back : Bool) (fault : EcmFault) (n : ℕ) (next : Offering) → (if back then Some Back else None) ≡ Some fault →
    (if back then refused_offering (Fault.BadEcm n Back) else next) ≡ refused_offering (Fault.BadEcm n fault)
back_of true fault n next is = let e : Back ≡ fault = cc in ap (λ (f : EcmFault). refused_offering (Fault.BadEcm n f)) e
back_of false fault n next is = absurd cc

forth_of : (back : Bool) (next first : Offering) → (if back then Some Back else None) ≡ None →
    (if back then first else next) ≡ next
forth_of true next first is = absurd cc
forth_of false next first is = refl

-- a part is refused by itself, or as the last of its message
part_of : (card : CardFields) (tuning : Tuning) (n : ℕ) (past : List Heard) (alone : Option EcmFault)
    (message : Option Message)
    (fault : EcmFault) → option_map_or Some alone (back_fault past message) ≡ Some fault →
    part_offering n alone (message_offering card tuning n past message) ≡ refused_offering (Fault.BadEcm n fault)
part_of card tuning n past (Some bad) message fault is = let e : bad ≡ fault =
    cc in ap (λ (f : EcmFault). refused_offering (Fault.BadEcm n f)) e
part_of card tuning n past None None fault is = absurd cc
part_of card tuning n past None (Some message) fault is =
    back_of (is_back past message) fault n (wrote_or (stretch_wrote card tuning (newest_message past)
    (newest_message past).message
    message)
    (word_fault n message (key_at card past message.period))) is

-- nothing is wrong with it
good_of : (card : CardFields) (tuning : Tuning) (n : ℕ) (past : List Heard) (alone : Option EcmFault)
    (message : Message) →
    option_map_or Some alone (back_fault past (Some message)) ≡ None →
    part_offering n alone (message_offering card tuning n past (Some message))
    ≡ wrote_or (stretch_wrote card tuning (newest_message past) (newest_message past).message message)
    (word_fault n message (key_at card past message.period))
good_of card tuning n past (Some bad) message is = absurd cc
good_of card tuning n past None message is =
    forth_of (is_back past message) (wrote_or (stretch_wrote card tuning (newest_message past)
    (newest_message past).message message)
    (word_fault n message (key_at card past message.period))) (refused_offering (Fault.BadEcm n Back)) is

waits_of : (card : CardFields) (tuning : Tuning) (n : ℕ) (past : List Heard) (alone : Option EcmFault) →
    option_map_or Some alone None ≡ None → part_offering n alone no_offering ≡ no_offering
waits_of card tuning n past (Some bad) is = absurd cc
waits_of card tuning n past None is = refl

pub part_refused : (card : CardFields) (tuning : Tuning) (n : ℕ) (past : List Heard) (part : EcmPart)
    (fault : EcmFault) →
    part_fault_of past part ≡ Some fault → heard_offering card tuning n past (Controls part) ≡ refused_offering
    (Fault.BadEcm n fault)
unfolding part_fault_of
part_refused card tuning n past part fault is =
    part_of card tuning n past (part_fault (message_parts_to (newest_message past) part))
    (completes past (Controls part)) fault is

pub part_waits : (card : CardFields) (tuning : Tuning) (n : ℕ) (past : List Heard) (part : EcmPart) →
    part_fault_of past part ≡ None →
    completes past (Controls part) ≡ None → heard_offering card tuning n past (Controls part) ≡ no_offering
unfolding part_fault_of
part_waits card tuning n past part good none =
    ap (λ (m : Option Message). part_offering n (part_fault (message_parts_to (newest_message past) part))
    (message_offering card tuning n past m)) none
    ∙ waits_of card tuning n past (part_fault (message_parts_to (newest_message past) part))
    (subst (λ (m : Option Message). option_map_or Some (part_fault (message_parts_to (newest_message past) part))
    (back_fault past m) ≡
    None) none good)

pub part_completes : (card : CardFields) (tuning : Tuning) (n : ℕ) (past : List Heard) (part : EcmPart)
    (message : Message) →
    part_fault_of past part ≡ None → completes past (Controls part) ≡ Some message →
    heard_offering card tuning n past (Controls part)
    ≡ wrote_or (stretch_wrote card tuning (newest_message past) (newest_message past).message message)
    (word_fault n message (key_at card past message.period))
unfolding part_fault_of
part_completes card tuning n past part message good done =
    ap (λ (m : Option Message). part_offering n (part_fault (message_parts_to (newest_message past) part))
    (message_offering card tuning n past m)) done
    ∙ good_of card tuning n past (part_fault (message_parts_to (newest_message past) part)) message
    (subst (λ (m : Option Message). option_map_or Some (part_fault (message_parts_to (newest_message past) part))
    (back_fault past m) ≡
    None) done good)

-- a message that is taken is of no past period
back_told : (alone : Option EcmFault) (back : Bool) → option_map_or Some alone (if back then Some Back else None) ≡
    None → back ≡ false
back_told (Some bad) back is = absurd cc
back_told None true is = absurd cc
back_told None false is = refl

pub not_past : (past : List Heard) (part : EcmPart) (message : Message) → part_fault_of past part ≡ None →
    completes past (Controls part) ≡ Some message → current past ≤ message.period
unfolding part_fault_of is_back
not_past past part message good done =
    let forth : is_back past message ≡ false = back_told (part_fault (message_parts_to (newest_message past) part))
    (is_back past message)
    (subst (λ (m : Option Message). option_map_or Some (part_fault (message_parts_to (newest_message past) part))
    (back_fault past m) ≡
    None) done good) in
    ltb-false message.period (current past)
    (or_parts (nat_lt message.period (current past)) (option_map_or (is_before message) (newest_message past).message
    false)
    forth).0
