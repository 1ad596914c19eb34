-- Public meaning: the head end as a stage of packets.
use Rattle.std.specs.Prelude.{◌≡◌, ◌⊎◌, ℕ, ◌+◌, ◌-◌, ◌≤◌, List, [], ◌∷◌, ◌++◌, length, Option, Some, None}
use Rattle.std.specs.List.{concat}
use Rattle.sd_spec.specs.Plan.{Plan, period_of}
use Rattle.sd_book.specs.Commands.{revoked}
use Rattle.sd_spec.specs.Refused.{refusal_of, end_refusal, IsSendable}
use Rattle.sd_spec.specs.Sent.{sent, closing_of, bytes_added, packets_from}
use Rattle.sd_head.specs.After.{IsClearAfter as IsKept}
use Rattle.sd_head.specs.Kept.{plan_of}
use Rattle.sd_head.specs.Items.{HasSentItems}
use Rattle.sd_head.specs.Schedule.{IsPeriodAt, IsDue}
use Rattle.sd_head.specs.declared.fault.HeadFault.{HeadFault}
use Rattle.sd_head.specs.declared.head.Head.{Head}

-- the plan that a head end keeps to
abbrev pub plan_of_head : Head → Plan
plan_of_head head = plan_of head.site head.entitling.book

-- the head end has sent the broadcast of these packets, which can be sent, up to where the next one's part begins
pub record IsHeadEndAfter (plan : Plan) (before : List (List ℕ)) (head : Head) : Type 0 where
  pub keeps_to : plan_of_head head ≡ plan
  pub unrefused : head.refusal ≡ None
  pub are_sendable : IsSendable plan.site before
  pub clear_is : IsKept before head.clear
  pub entitled : IsPeriodAt plan (length before) head.entitling
  pub has_sent : HasSentItems plan.site (sent plan before) head.sender

-- the packet comes to what it adds to the broadcast after those before it
abbrev pub head_sends : Head → List ℕ → Head → List ℕ → ℕ → Type 0
head_sends s packet t bytes steps =
    (plan : Plan) (before : List (List ℕ)) → IsHeadEndAfter plan before s →
    (bytes ≡ bytes_added plan before packet) × IsHeadEndAfter plan (before ++ packet ∷ []) t

-- a clear packet comes to what it adds to the broadcast after those before it
abbrev pub head_does : Head → List ℕ → Head → List ℕ → ℕ → Type 0
head_does s packet t bytes steps =
    (plan : Plan) (before : List (List ℕ)) → IsHeadEndAfter plan before s → (refusal_of plan.site before packet ≡ None)
    × (bytes ≡ bytes_added plan before packet) × IsHeadEndAfter plan (before ++ packet ∷ []) t

-- the end comes to the closing message, and the index has the leaves that are revoked in the last period
abbrev pub head_closes : Head → Head → List ℕ → ℕ → Type 0
head_closes s t bytes steps =
    (plan : Plan) (before : List (List ℕ)) → IsHeadEndAfter plan before s →
    (bytes ≡ concat (packets_from plan.site (sent plan before) (closing_of plan before)))
    × (t.entitling.index.revoked ≡ revoked plan.site.height plan.commands (period_of plan (length before - 1)))

-- the end, which isn't refused, comes to that
abbrev pub head_ends : Head → Head → List ℕ → ℕ → Type 0
head_ends s t bytes steps =
    ((plan : Plan) (before : List (List ℕ)) → IsHeadEndAfter plan before s → end_refusal plan.site before ≡ None)
    × head_closes s t bytes steps

-- A refusal writes nothing. It is the one that is kept, or it is due.
pub record RefusesClearPacket (s : Head) (packet : Option (List ℕ)) (fault : HeadFault) (bytes : List ℕ) : Type 0 where
  pub nothing : bytes ≡ []
  pub cause : (s.refusal ≡ Some fault) ⊎ ((plan : Plan) (before : List (List ℕ)) → IsHeadEndAfter plan before s →
      IsDue plan before packet fault)

abbrev pub head_refuses : Head → Option (List ℕ) → HeadFault → Head → List ℕ → ℕ → Type 0
head_refuses s packet fault t bytes steps = RefusesClearPacket s packet fault bytes

-- it stands after some packets, and no write failed
abbrev pub IsOn : Head → Type 0
IsOn head = (before : List (List ℕ)) × IsHeadEndAfter (plan_of_head head) before head

-- the bytes of what a head end sends, where no more steps were counted than that takes
abbrev pub IsOfSent : (Head → List ℕ → ℕ → Type 0) → ℕ → ℕ → List ℕ → Type 0
IsOfSent Sends from to bytes = (steps : ℕ) × (to ≤ from + steps) × ((t : Head) × Sends t bytes steps)

-- it may be offered a packet: it stands after some, or keeps a refusal
abbrev pub IsHeadReady : Head → Type 0
IsHeadReady head = head.refusal ≡ None → (before : List (List ℕ)) × IsHeadEndAfter (plan_of_head head) before head
