-- What a head end sent that broke off.
use Rattle.std.proofs.Common.{arith, ◌≡◌, ℕ, suc, zero, ◌+◌, ◌≤◌, ◌==◌, Bool, true, false, not, List, [], ◌∷◌, ◌++◌}
use Rattle.std.proofs.Common.{length}
use Rattle.std.proofs.Common.{take, Option, Some, None, refl, ap, ◌∙◌, length-append}
use Rattle.std.specs.Prelude.{Contains}
use Rattle.std.specs.Option.{option_map_or}
use Rattle.std.proofs.lemmas.List.Elements.{Contains-append_left}
use Rattle.sd_base.specs.Types.{Packet, Packets}
use Rattle.sd_packet.specs.Header.{pid_of, scrambling_of}
use Rattle.sd_site_cards.specs.SiteFields.{SiteFields}
use Rattle.sd_psi.specs.declared.fault.FormFault.{FormFault}
use Rattle.sd_psi.specs.declared.fault.FormFault.TheVariants as Form
use Rattle.sd_message.specs.declared.clear_fault.ClearFault.{ClearFault}
use Rattle.sd_message.specs.declared.clear_fault.ClearFault.TheVariants.{AlreadyScrambled, PidTaken, PatForm, PmtForm}
use Rattle.sd_message.specs.declared.clear_fault.ClearFault.TheVariants.{TooManyPids, TooLong}
use Rattle.sd_message.specs.ClearFaults.{clear_packet}
use Rattle.sd_spec.specs.Plan.{Plan}
use Rattle.sd_spec.specs.Kinds.{kind_of}
use Rattle.sd_spec.specs.Refused.{IsClear, fault_where, form_where, is_full_own, is_one_too_many, is_reserved_pid}
use Rattle.sd_spec.specs.Refused.{is_used_up, pat_wrong, refusal_from, refusal_of}
use Rattle.sd_spec.specs.Sent.{Item, body, broadcast, closing_of, packets_from, sent, sent_from}
use Rattle.sd_spec.proofs.Sending.{packets_in_turn, sent_in_turn}
use Rattle.sd_law_broadcast.specs.Runs.{run_sent}

-- what was sent for the first packets of a stream is sent first
pub sent_before : (plan : Plan) (before rest : Packets) →
    (more : List Item) × (sent plan (before ++ rest) ≡ sent plan before ++ more)
sent_before plan before rest = (sent_from plan ([] ++ before) rest, sent_in_turn plan [] before rest)

-- all of it is of the broadcast of those packets
pub sent_is_of_broadcast : (plan : Plan) (before : Packets) (item : Item) → Contains (sent plan before) item →
    Contains (run_sent (record { plan = plan; clear = before })) item
unfolding run_sent
sent_is_of_broadcast plan before item has =
    Contains-append_left (sent plan before) (closing_of plan before) item has

-- whose packets begin with those that were sent
pub body_begins : (plan : Plan) (before : Packets) →
    (more : Packets) × (broadcast plan before ≡ body plan before ++ more)
unfolding body broadcast
body_begins plan before = (
  packets_from plan.site ([] ++ sent plan before) (closing_of plan before),
  packets_in_turn plan.site [] (sent plan before) (closing_of plan before),
)

-- the fault, if there is one, names this packet
abbrev Names : ℕ → Option ClearFault → Type 0
Names k None = Unit {0}
Names k (Some fault) = clear_packet fault ≡ k

names_where : (b : Bool) (k : ℕ) (fault : ClearFault) (next : Option ClearFault) → clear_packet fault ≡ k →
    Names k next → Names k (fault_where b fault next)
names_where true k fault next is h = is
names_where false k fault next is h = h

names_form : (o : Option FormFault) (k : ℕ) (told : FormFault → ClearFault) (next : Option ClearFault) →
    ((form : FormFault) → clear_packet (told form) ≡ k) → Names k next → Names k (form_where o told next)
names_form None k told next is h = h
names_form (Some form) k told next is h = is form

-- a refusal names its packet
refusal_names : (site : SiteFields) (before : Packets) (packet : Packet) →
    Names (length before) (refusal_of site before packet)
unfolding refusal_of
refusal_names site before packet =
    let k : ℕ = length before in
    let pid : ℕ = pid_of packet in
    let own : Bool = is_full_own site (kind_of before packet) packet in
    let long : Option ClearFault = fault_where (is_used_up site k) (TooLong k) None in
    let many : Option ClearFault = fault_where (is_one_too_many before packet) (TooManyPids k) long in
    let full : Option ClearFault = fault_where own (PmtForm k Form.NoRoom) many in
    let form : Option ClearFault = form_where (pat_wrong packet) (PatForm k) full in
    let taken : Option ClearFault = fault_where (is_reserved_pid site pid) (PidTaken k pid) form in
    names_where (not (scrambling_of packet == 0)) k (AlreadyScrambled k) taken refl
    (names_where (is_reserved_pid site pid) k (PidTaken k pid) form refl
    (names_form (pat_wrong packet) k (PatForm k) full (λ wrong. refl)
    (names_where own k (PmtForm k Form.NoRoom) many refl
    (names_where (is_one_too_many before packet) k (TooManyPids k) long refl
    (names_where (is_used_up site k) k (TooLong k) None refl tt)))))

-- packets up to the one that is refused aren't refused
clear_before : (site : SiteFields) (before packets : Packets) (fault : ClearFault) (k : ℕ) →
    refusal_from site before packets ≡ Some fault → k + length before ≤ clear_packet fault →
    refusal_from site before (take k packets) ≡ None
unfolding refusal_from
clear_before site before [] fault k h low = absurd cc
clear_before site before (packet ∷ packets) fault zero h low = refl
clear_before site before (packet ∷ packets) fault (suc k) h low =
    by_first (refusal_of site before packet) refl (refusal_names site before packet) h
    (λ rest. clear_before site (before ++ packet ∷ []) packets fault k rest
    (omega (arith, low, length-append before (packet ∷ []))))
  where
    by_first : (found : Option ClearFault) → refusal_of site before packet ≡ found → Names (length before) found →
        option_map_or Some found (refusal_from site (before ++ packet ∷ []) packets) ≡ Some fault →
        (refusal_from site (before ++ packet ∷ []) packets ≡ Some fault →
        refusal_from site (before ++ packet ∷ []) (take k packets) ≡ None) →
        option_map_or Some (refusal_of site before packet) (refusal_from site (before ++ packet ∷ []) (take k packets))
        ≡ None
    by_first None is names e rest =
        ap (λ (o : Option ClearFault). option_map_or Some o (refusal_from site (before ++ packet ∷ [])
        (take k packets)))
        is ∙ rest e
    by_first (Some first) is names e rest =
        let same : clear_packet first ≡ clear_packet fault = ap clear_packet (let f : first ≡ fault = cc in f) in
        absurd (omega (arith, same, names, low))

pub first_are_clear : (site : SiteFields) (clear : Packets) (fault : ClearFault) (k : ℕ) →
    refusal_from site [] clear ≡ Some fault → k ≤ clear_packet fault → IsClear site (take k clear)
first_are_clear site clear fault k h low = clear_before site [] clear fault k h (omega (arith, low))
