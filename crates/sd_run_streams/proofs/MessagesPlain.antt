-- Nothing that is shown of a message is a float.
use Rattle.std.proofs.Common.{ℕ, ◌≡◌, false, Bool, true, cond, List, [], ◌∷◌, map, refl, sym, subst}
use Rattle.std.specs.Prelude.{Option, Some, None, Result, Ok, Err, codes, ◌==◌, IfSome}
use Rattle.serde_json.specs.Data.{Data, Members}
use Rattle.serde_json.specs.View.{items_of}
use Rattle.serde_json.specs.Written.{has_float, items_have_float, members_have_float}
use Rattle.sd_tree_keys.specs.declared.set.SetName.{SetName}
use Rattle.sd_packet.specs.Header.{pid_of}
use Rattle.sd_site_cards.specs.SiteFields.{SiteFields}
use Rattle.sd_message.specs.EmmSpelled.{listed_entries as entries_of, names_in}
use Rattle.sd_message.specs.EmmJudged.{emm_read}
use Rattle.sd_message.specs.EmmFaults.{emm_fault_name}
use Rattle.sd_message.specs.declared.emm.Emm.{Emm}
use Rattle.sd_message.specs.declared.emm_fault.EmmFault.{EmmFault}
use Rattle.sd_message.specs.EcmSpelled.{listed_places as places_of}
use Rattle.sd_message.specs.EcmJudged.{ecm_read}
use Rattle.sd_message.specs.EcmFaults.{ecm_fault_name}
use Rattle.sd_message.specs.declared.ecm_part.Place.{Place}
use Rattle.sd_message.specs.declared.ecm_part.EcmPart.{EcmPart}
use Rattle.sd_message.specs.declared.ecm_fault.EcmFault.{EcmFault}
use Rattle.sd_run_streams.specs.MessageLines.{run_member, name_data, emm_data, place_data, ecm_data, message_fault_data}
use Rattle.sd_run_streams.specs.MessageLines.{emm_told}
use Rattle.sd_run_streams.specs.MessageLines.{ecm_told}
use Rattle.sd_run_streams.specs.MessageLines.{message_data}

plain_names : (names : List SetName) → items_have_float (items_of (map name_data names)) ≡ false
unfolding name_data
plain_names [] = refl
plain_names (name ∷ names) = plain_names names

plain_places : (places : List Place) → items_have_float (items_of (map place_data places)) ≡ false
unfolding place_data
plain_places [] = refl
plain_places (place ∷ places) = plain_places places

-- the run's name brings none
plain_run : (run : Option ℕ) (more : Members) → members_have_float (run_member run more) ≡ members_have_float more
plain_run None more = refl
plain_run (Some run) more = refl

plain_emm : (packet pid : ℕ) (emm : Emm) → has_float (emm_data packet pid emm) ≡ false
unfolding emm_data
plain_emm packet pid emm = rw (plain_names (names_in (entries_of emm)), plain_run emm.run _) refl

plain_ecm : (packet pid : ℕ) (part : EcmPart) → has_float (ecm_data packet pid part) ≡ false
unfolding ecm_data
plain_ecm packet pid part = rw (plain_places (places_of part), plain_run part.run _) refl

plain_fault : (fault table : List ℕ) (packet pid : ℕ) → has_float (message_fault_data fault table packet pid) ≡ false
unfolding message_fault_data
plain_fault fault table packet pid = refl

-- nothing, or data without a float
abbrev IsPlain : Option Data → Type 0
IsPlain found = IfSome found (λ shown. has_float shown ≡ false)

plain_read_emm : (packet pid : ℕ) (read : Result (Option Emm) EmmFault) → IsPlain (emm_told packet pid read)
plain_read_emm packet pid (Ok None) = tt
plain_read_emm packet pid (Ok (Some emm)) = plain_emm packet pid emm
plain_read_emm packet pid (Err fault) = plain_fault (emm_fault_name fault) (codes "emm") packet pid

plain_read_ecm : (packet pid : ℕ) (read : Result (Option EcmPart) EcmFault) → IsPlain (ecm_told packet pid read)
plain_read_ecm packet pid (Ok None) = tt
plain_read_ecm packet pid (Ok (Some part)) = plain_ecm packet pid part
plain_read_ecm packet pid (Err fault) = plain_fault (ecm_fault_name fault) (codes "ecm") packet pid

by_pid : (emm ecm : Bool) (a b : Option Data) → IsPlain a → IsPlain b → IsPlain (cond emm a (cond ecm b None))
by_pid true ecm a b p q = p
by_pid false true a b p q = q
by_pid false false a b p q = tt

plain_message : (site : SiteFields) (k : ℕ) (packet : List ℕ) → IsPlain (message_data site k packet)
unfolding message_data
plain_message site k packet =
    by_pid (pid_of packet == site.emm) (pid_of packet == site.ecm) _ _
    (plain_read_emm k (pid_of packet) (emm_read site.height packet))
    (plain_read_ecm k (pid_of packet) (ecm_read packet))

-- so is what is shown of a packet
pub no_float : (site : SiteFields) (k : ℕ) (packet : List ℕ) (shown : Data) → Some shown ≡ message_data site k packet →
    has_float shown ≡ false
no_float site k packet shown is = subst IsPlain (sym is) (plain_message site k packet)
