-- What was heard comes from packets.
use Rattle.std.proofs.Common.{◌≡◌, ℕ, ◌==◌, Bool, true, false, List, ◌∷◌, ◌++◌, length, Some, None}
use Rattle.std.proofs.Common.{sym, ap, subst, ◌∙◌, append_assoc}
use Rattle.std.specs.Prelude.{All, Contains, Option, Result, Ok, Err, if◌then◌else◌}
use Rattle.std.proofs.lemmas.List.Elements.{All-weaker, Contains-append_right}
use Rattle.sd_cover_tracing.proofs.Lists.{member_first}
use Rattle.sd_packet.specs.Header.{pid_of}
use Rattle.sd_psi.specs.declared.our_cat.Tuning.{Tuning}
use Rattle.sd_site_cards.specs.CardFields.{CardFields}
use Rattle.sd_message.specs.EmmJudged.{emm_read}
use Rattle.sd_message.specs.EcmJudged.{ecm_read}
use Rattle.sd_message.specs.declared.emm.Emm.{Emm}
use Rattle.sd_message.specs.declared.emm_fault.EmmFault.{EmmFault}
use Rattle.sd_message.specs.declared.ecm_part.EcmPart.{EcmPart}
use Rattle.sd_message.specs.declared.ecm_fault.EcmFault.{EcmFault}
use Rattle.sd_spec.specs.Heard.{Heard, Dropped, Other, heard_emm, heard_ecm, hears}
use Rattle.sd_law_keys.specs.Written.{IsHeardIn}

-- what is heard in packets is heard in them with later ones
pub heard_later : (card : CardFields) (past more : List (List ℕ)) (thing : Heard) → IsHeardIn card past thing
    → IsHeardIn card (more ++ past) thing
heard_later card past more thing is = record {
  later = more ++ is.later;
  packet = is.packet;
  earlier = is.earlier;
  tuning = is.tuning;
  stands = ap (λ (l : List (List ℕ)). more ++ l) is.stands ∙ sym (append_assoc more is.later (is.packet ∷ is.earlier));
  tuned = is.tuned;
  is_heard = is.is_heard;
}

-- all that is
pub all_later : (card : CardFields) (past more : List (List ℕ)) (things : List Heard) → All (IsHeardIn card past) things
    → All (IsHeardIn card (more ++ past)) things
all_later card past more things all =
    All-weaker (IsHeardIn card past) (IsHeardIn card (more ++ past)) (λ thing is. heard_later card past more thing is)
    things all

-- no message is an other packet
no_emm : (r : Result (Option Emm) EmmFault) (k : ℕ) (held : List ℕ) → heard_emm r ≡ Other k held → ⊥
no_emm (Ok None) k held is = absurd cc
no_emm (Ok (Some emm)) k held is = absurd cc
no_emm (Err fault) k held is = absurd cc

no_ecm : (r : Result (Option EcmPart) EcmFault) (k : ℕ) (held : List ℕ) → heard_ecm r ≡ Other k held → ⊥
no_ecm (Ok None) k held is = absurd cc
no_ecm (Ok (Some part)) k held is = absurd cc
no_ecm (Err fault) k held is = absurd cc

-- an other packet is the packet itself
other_by : (a b c : Bool) (emm : Result (Option Emm) EmmFault) (ecm : Result (Option EcmPart) EcmFault) (n k : ℕ)
    (packet held : List ℕ)
    → (if a then Dropped else if b then heard_emm emm else if c then heard_ecm ecm else Other n packet) ≡ Other k held
    → packet ≡ held
other_by true b c emm ecm n k packet held is = absurd cc
other_by false true c emm ecm n k packet held is = absurd (no_emm emm k held is)
other_by false false true emm ecm n k packet held is = absurd (no_ecm ecm k held is)
other_by false false false emm ecm n k packet held is = cc

pub other_is : (h : ℕ) (tuning : Tuning) (n k : ℕ) (packet held : List ℕ) → hears h tuning n packet ≡ Other k held
    → packet ≡ held
unfolding hears
other_is h tuning n k packet held is =
    other_by (pid_of packet == 1) (pid_of packet == tuning.emm) (pid_of packet == tuning.ecm) (emm_read h packet)
    (ecm_read packet) n k packet held is

-- so it is one of the packets
pub other_here : (card : CardFields) (past : List (List ℕ)) (k : ℕ) (held : List ℕ) → IsHeardIn card past (Other k held)
    → Contains past held
other_here card past k held is =
    subst (λ (l : List (List ℕ)). Contains l held) (sym is.stands)
    (Contains-append_right is.later (is.packet ∷ is.earlier) held
    (subst (Contains (is.packet ∷ is.earlier))
    (other_is card.height is.tuning (length is.earlier) k is.packet held is.is_heard)
    (member_first is.packet is.earlier)))
