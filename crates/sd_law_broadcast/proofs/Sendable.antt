-- A clear stream is one that can be sent and whose PATs are right.
use Rattle.std.proofs.Common.{◌≡◌, refl, ◌==◌, Bool, true, false, not, List, ℕ, [], ◌∷◌, ◌++◌, length}
use Rattle.std.proofs.Common.{Option, Some, None}
use Rattle.std.specs.Prelude.{◌↔◌, All}
use Rattle.std.proofs.lemmas.List.Elements.{All-nil, All-cons, All-head, All-tail}
use Rattle.sd_base.proofs.Lists.{both_none}
use Rattle.sd_packet.specs.Header.{pid_of, scrambling_of}
use Rattle.sd_site_cards.specs.SiteFields.{SiteFields}
use Rattle.sd_psi.specs.declared.fault.FormFault.{FormFault}
use Rattle.sd_message.specs.declared.clear_fault.ClearFault.{ClearFault}
use Rattle.sd_spec.specs.Refused.{fault_where, form_where, is_reserved_pid, pat_wrong, refusal_of, unsent_at}
use Rattle.sd_spec.specs.Refused.{refusal_from, unsent_from, IsClear, IsSendable}
use Rattle.sd_law_broadcast.proofs.Clear.{none_then}

-- nothing is wrong with a packet that is to be a PAT
abbrev pub IsRight : List ℕ → Type 0
IsRight packet = pat_wrong packet ≡ None

-- the rule on PATs is the third one
third_kept : (a b : Bool) (x y : ClearFault) (wrong : Option FormFault) (told : FormFault → ClearFault)
    (next : Option ClearFault) → fault_where a x (fault_where b y (form_where wrong told next)) ≡ None →
    (fault_where a x (fault_where b y (form_where None told next)) ≡ None) × (wrong ≡ None)
third_kept true b x y wrong told next h = absurd (cc)
third_kept false true x y wrong told next h = absurd (cc)
third_kept false false x y None told next h = (h, refl)
third_kept false false x y (Some form) told next h = absurd (cc)

third_put : (a b : Bool) (x y : ClearFault) (wrong : Option FormFault) (told : FormFault → ClearFault)
    (next : Option ClearFault) → fault_where a x (fault_where b y (form_where None told next)) ≡ None → wrong ≡ None →
    fault_where a x (fault_where b y (form_where wrong told next)) ≡ None
third_put a b x y None told next h right = h
third_put a b x y (Some form) told next h right = absurd (cc)

-- a packet isn't refused exactly where it can be sent and is right
pub one_sendable : (site : SiteFields) (before : List (List ℕ)) (packet : List ℕ) →
    refusal_of site before packet ≡ None → (unsent_at site before (length before) packet ≡ None) × IsRight packet
unfolding refusal_of unsent_at
one_sendable site before packet h =
    third_kept (not (scrambling_of packet == 0)) (is_reserved_pid site (pid_of packet)) _ _ (pat_wrong packet) _ _ h

pub one_right : (site : SiteFields) (before : List (List ℕ)) (packet : List ℕ) →
    unsent_at site before (length before) packet ≡ None → IsRight packet → refusal_of site before packet ≡ None
unfolding refusal_of unsent_at
one_right site before packet h right =
    third_put (not (scrambling_of packet == 0)) (is_reserved_pid site (pid_of packet)) _ _ (pat_wrong packet) _ _ h
    right

-- and so it is of packets after others
pub all_sendable : (site : SiteFields) (before packets : List (List ℕ)) → refusal_from site before packets ≡ None →
    (unsent_from site before packets ≡ None) × All IsRight packets
unfolding refusal_from unsent_from
all_sendable site before [] h = (refl, All-nil IsRight)
all_sendable site before (packet ∷ packets) h =
    let parts = both_none (refusal_of site before packet) (refusal_from site (before ++ packet ∷ []) packets) h in
    let one = one_sendable site before packet parts.0 in
    let rest = all_sendable site (before ++ packet ∷ []) packets parts.1 in (
      none_then (unsent_at site before (length before) packet) (unsent_from site (before ++ packet ∷ []) packets) one.0
          rest.0,
      All-cons IsRight packet packets one.1 rest.1,
    )

pub all_right : (site : SiteFields) (before packets : List (List ℕ)) → unsent_from site before packets ≡ None →
    All IsRight packets → refusal_from site before packets ≡ None
unfolding refusal_from unsent_from
all_right site before [] h right = refl
all_right site before (packet ∷ packets) h right =
    let parts = both_none (unsent_at site before (length before) packet)
    (unsent_from site (before ++ packet ∷ []) packets) h in
    none_then (refusal_of site before packet) (refusal_from site (before ++ packet ∷ []) packets)
    (one_right site before packet parts.0 (All-head IsRight packet packets right))
    (all_right site (before ++ packet ∷ []) packets parts.1 (All-tail IsRight packet packets right))

pub clear_sendable : (site : SiteFields) (clear : List (List ℕ)) → IsClear site clear → IsSendable site clear
clear_sendable site clear h = (all_sendable site [] clear h).0

pub clear_exactly : (site : SiteFields) (clear : List (List ℕ)) →
    IsClear site clear ↔ (IsSendable site clear × All IsRight clear)
clear_exactly site clear = (all_sendable site [] clear, λ both. all_right site [] clear both.0 both.1)
