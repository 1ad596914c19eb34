-- Public meaning: what is learned of a clear packet that may be the next one.
use Rattle.std.specs.Prelude.{◌≡◌, ℕ, ◌-◌, ◌^◌, ◌<◌, ◌≤◌, ◌==◌, ◌&&◌, nat_le, Bool, true, false, List, length, get_or}
use Rattle.std.specs.Prelude.{slice_index, Option, Some, None, IfSome, Result, IfOk, OnOk, MatchResult}
use Rattle.sd_packet.specs.Header.{pid_of, counter_of, scrambling_of}
use Rattle.sd_packet.specs.Positions.{is_placed, advanced, first_position}
use Rattle.sd_site_cards.specs.SiteFields.{SiteFields}
use Rattle.sd_psi.specs.declared.pat.Pat.{Pat}
use Rattle.sd_message.specs.declared.clear_fault.ClearFault.{ClearFault}
use Rattle.sd_message.specs.declared.clear_fault.ClearFault.TheVariants.{TooManyPids, TooLong}
use Rattle.sd_psi.specs.Forms.{section_in}
use Rattle.sd_message.specs.EcmVersions.{most_places}
use Rattle.sd_spec.specs.Kinds.{is_current_pat}
use Rattle.sd_spec.specs.Plan.{word_of}
use Rattle.sd_spec.specs.Carried.{pmt_carried}
use Rattle.sd_psi.specs.declared.fault.FormFault.{FormFault}
use Rattle.sd_spec.specs.Refused.{broken_rule, fault_where, is_used_up, pat_wrong}
use Rattle.sd_head.specs.After.{IsClearAfter}
use Rattle.sd_head.specs.declared.clear.Clear.{Clear}
use Rattle.sd_head.specs.declared.judged.Judged.{Judged}
use Rattle.sd_head.specs.declared.judged.PatRule.{PatRule}
use Rattle.sd_head.specs.declared.judged.PatRule.TheVariants.{Asked, Skipped}
use Rattle.sd_head.specs.declared.judged.Judged.TheVariants.{Passed, Pmt, Scrambled}
use Rattle.sd_head.specs.declared.judged.Move.{Move}

-- the move that a packet makes, if it has a position
abbrev pub move_in : Judged → Option Move
move_in (Passed pat) = None
move_in (Pmt next carried) = Some next
move_in (Scrambled next) = Some next

-- the current PAT that a packet is, if it is one
abbrev pub pat_in : Judged → Option Pat
pat_in (Passed pat) = pat
pat_in (Pmt next carried) = None
pat_in (Scrambled next) = None

-- the packet moves the position of its PID so, from these positions by PID [this project, docs/FORMATS.md, Positions]
pub record IsMove (positions packet : List ℕ) (next : Move) : Type 0 where
  pub placed : is_placed packet ≡ true
  pub pid : next.pid ≡ pid_of packet
  pub position : next.position ≡ advanced (slice_index positions (pid_of packet)) (counter_of packet)
  pub first : next.is_first ≡ (slice_index positions (pid_of packet) == first_position)

-- a packet makes this move; if there is none, it has no position
abbrev pub IsMoveOf : List ℕ → List ℕ → Option Move → Type 0
IsMoveOf positions packet None = is_placed packet ≡ false
IsMoveOf positions packet (Some next) = IsMove positions packet next

-- there is room for one PID more, if the move is its PID's first
abbrev pub HasPidRoom : List ℕ → Option Move → Type 0
HasPidRoom pids next = IfSome next (λ move. move.is_first ≡ true → length pids < most_places)

-- this is the current PAT that the packet is; if there is none, it isn't one [ISO/IEC 13818-1, 2.4.4.3]
abbrev pub IsPatOf : List ℕ → Option Pat → Type 0
IsPatOf packet None = is_current_pat packet ≡ false
IsPatOf packet (Some pat) = (is_current_pat packet ≡ true) × (pat.section.bytes.now ≡ section_in packet)

-- the packet is of this kind: with a position it is a PMT if the PAT in force names its PID, and this is what is sent
-- [this project, docs/FORMATS.md, Broadcast]
abbrev pub IsOfKind : SiteFields → List Bool → List ℕ → Judged → Type 0
IsOfKind site pmts packet (Passed pat) = IsPatOf packet pat
IsOfKind site pmts packet (Pmt next carried) =
    (get_or pmts (pid_of packet) false ≡ true) × (carried ≡ pmt_carried site packet)
IsOfKind site pmts packet (Scrambled next) = get_or pmts (pid_of packet) false ≡ false

-- this is learned of the packet from what is kept
pub record IsPacketLearned (site : SiteFields) (clear : Clear) (packet : List ℕ) (judged : Judged) : Type 0 where
  pub moves : IsMoveOf clear.positions.items packet (move_in judged)
  pub room : HasPidRoom clear.pids.items (move_in judged)
  pub kind : IsOfKind site clear.pmts.items packet judged

-- the packet, of which this was learned, may be the next one: it is clear and there is a number for it
pub record MayFollow (site : SiteFields) (clear : Clear) (packet : List ℕ) (judged : Judged) : Type 0 where
  pub unscrambled : scrambling_of packet ≡ 0
  pub number : clear.count < 2 ^ 32 - 1
  pub learned : IsPacketLearned site clear packet judged

-- why a packet that makes this move is one too many: its PID would be one more than may have positions, or no number
-- or no control word is left for it [this project, docs/FORMATS.md, Broadcast]
abbrev pub limit_fault : SiteFields → Clear → Move → Option ClearFault
limit_fault site clear next =
    fault_where (next.is_first && nat_le most_places (length clear.pids.items)) (TooManyPids clear.count)
    (fault_where (is_used_up site clear.count) (TooLong clear.count) None)

-- what is wrong with a packet as a PAT, if the rule on PATs is asked
abbrev pub wrong_by : PatRule → List ℕ → Option FormFault
wrong_by Asked packet = pat_wrong packet
wrong_by Skipped packet = None

-- the first rule that a packet breaks as the next one after these packets, with the rule on PATs or without it [this
-- project, docs/FORMATS.md, Broadcast]
abbrev pub fault_by : PatRule → SiteFields → List (List ℕ) → List ℕ → Option ClearFault
fault_by rule site before packet = broken_rule site before packet (wrong_by rule packet) (length before)

-- the result of judging a packet as the next one: what is learned of it, or the first rule that it breaks
-- [this project, docs/FORMATS.md, Broadcast]
pub record IsJudgement (rule : PatRule) (site : SiteFields) (clear : Clear) (packet : List ℕ)
    (result : Result Judged ClearFault) : Type 0 where
  pub value : (before : List (List ℕ)) → IsClearAfter before clear → MatchResult result
      (λ _. fault_by rule site before packet ≡ None) (λ fault. fault_by rule site before packet ≡ Some fault)
  pub follows : IfOk result (MayFollow site clear packet)
  pub word : OnOk result (word_of site clear.count ≤ site.last_word)
