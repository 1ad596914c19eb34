-- Public meaning: what a receiver that took a CAT does with what it hears.
use Rattle.std.specs.Prelude.{◌≡◌, ◌⊎◌, ℕ, ◌+◌, ◌-◌, ◌^◌, min, Bool, true, false, if◌then◌else◌, List, [], ◌∷◌}
use Rattle.std.specs.Prelude.{length}
use Rattle.std.specs.Prelude.{Option, Some, None, Result, Ok, Err}
use Rattle.std.specs.List.{concat}
use Rattle.std.specs.Result.{MatchResult}
use Rattle.sd_site_cards.specs.CardFields.{CardFields}
use Rattle.sd_message.specs.declared.ecm_part.EcmPart.{EcmPart}
use Rattle.sd_message.specs.declared.ecm_message.EcmHead.{EcmHead}
use Rattle.sd_message.specs.EcmParts.{message_of}
use Rattle.sd_engine.specs.Stage.{SinkState, IsCutShort, TookBytes}
use Rattle.sd_engine.specs.declared.stage.StageFault.{StageFault}
use Rattle.sd_engine.specs.declared.stage.StageFault.TheVariants.{Write, Refused}
use Rattle.sd_message.specs.declared.stream_fault.StreamFault.{StreamFault}
use Rattle.sd_psi.specs.declared.our_cat.Tuning.{Tuning}
use Rattle.sd_spec.specs.Heard.{Heard, Dropped, Entitles, Controls, BadEmm, BadEcm, Other}
use Rattle.sd_spec.specs.Stretches.{is_closed}
use Rattle.sd_spec.specs.Offered.{Offering, heard_offering, refused_offering, word_fault}
use Rattle.sd_spec.specs.Counting.{holds_stray}
use Rattle.sd_receive.specs.PeriodKeys.{IsEntitled, IsEmmJudged}
use Rattle.sd_receive.specs.EcmAssembler.{IsCollected, IsComplete}
use Rattle.sd_receive.specs.Buffered.{holding_after, word_under}
use Rattle.sd_receive.specs.declared.session.Session.{Session}

-- what is kept of what was heard of the current run [this project, docs/FORMATS.md, Receiver]
pub record IsListenerAfter (card : CardFields) (past : List Heard) (state : Session) : Type 0 where
  pub closed : state.closed ≡ is_closed past
  pub keys : IsEntitled card past state.keys
  pub assembler : IsCollected past state.assembler
  pub buffer : state.buffer ≡ holding_after card past

-- what is kept of what was heard before a part that completes the message that says this, with the message at hand
pub record IsListenerAtMessage (card : CardFields) (past : List Heard) (part : EcmPart) (head : EcmHead)
    (state : Session) : Type 0 where
  pub unclosed : is_closed past ≡ false
  pub follows : IsListenerAfter card past state
  pub assembler : IsComplete past part head state.assembler

-- a number as a count of 64 bits, which is at most 2^64 - 1
abbrev pub capped_count : ℕ → ℕ
capped_count n = min n (2 ^ 64 - 1)

-- a capped count rises by this number
abbrev pub CountsMore : ℕ → ℕ → ℕ → Type 0
CountsMore before after more = (total : ℕ) → before ≡ capped_count total → after ≡ capped_count (total + more)

-- these bytes are what an offering writes, its packets are counted, and it refuses nothing
pub record PassesOffering (offering : Offering) (before after : ℕ) (bytes : List ℕ) : Type 0 where
  pub fault : offering.fault ≡ None
  pub bytes_are : bytes ≡ concat offering.wrote
  pub counted : CountsMore before after (length offering.wrote)

-- what was heard is as a strict receiver takes it, which is anything, or as one does that writes nothing of a packet
-- that it refuses: no stray packet is buffered
abbrev pub IsCalm : Bool → List Heard → Type 0
IsCalm true past = Unit {0}
IsCalm false past = holds_stray past ≡ false

-- an offering refuses the packet, and these bytes are what it writes, or, where the receiver isn't strict, none
pub record StopsAtOffering (strict : Bool) (offering : Offering) (why : StreamFault) (bytes : List ℕ) : Type 0 where
  pub fault : offering.fault ≡ Some why
  pub bytes_are : bytes ≡ (if strict then concat offering.wrote else [])

-- what was heard of the run of what comes: nothing, if that begins a run
abbrev pub heard_of_run : Bool → List Heard → List Heard
heard_of_run begins past = if begins then [] else past

-- if a section is heard as packet n, nothing is wrong with it and it gives this key
abbrev pub IsJudgedAs : CardFields → ℕ → List Heard → Heard → Option (List ℕ) → Type 0
IsJudgedAs card n past (Entitles emm) key = IsEmmJudged card n past emm key
IsJudgedAs card n past Dropped key = Unit {0}
IsJudgedAs card n past (Controls part) key = Unit {0}
IsJudgedAs card n past (BadEmm fault) key = Unit {0}
IsJudgedAs card n past (BadEcm fault) key = Unit {0}
IsJudgedAs card n past (Other k packet) key = Unit {0}

-- the result of judging what is heard as packet n: this key, or nothing is written and the packet is refused
abbrev pub Judgement : CardFields → ℕ → List Heard → Heard → Option (List ℕ) → Result Unit StreamFault → Type 0
Judgement card n past heard key (Ok done) = IsJudgedAs card n past heard key
Judgement card n past heard key (Err fault) =
    (tuning : Tuning) → heard_offering card tuning n past heard ≡ refused_offering fault

-- a thing that is heard as packet n, of which this key was judged, is taken, with these bytes written
abbrev pub TakesHeard : Bool → CardFields → Tuning → ℕ → Heard → Option (List ℕ) → Session → Session → List ℕ → Type 0
TakesHeard strict card tuning n heard key s t bytes = (past : List Heard) → IsListenerAfter card past s →
    is_closed past ≡ false → IsJudgedAs card n past heard key → IsCalm strict past →
    PassesOffering (heard_offering card tuning n past heard) s.written t.written bytes ×
    IsListenerAfter card (heard ∷ past) t

-- a thing that is heard as packet n is refused, with these bytes written
abbrev pub RefusesHeard : Bool → CardFields → Tuning → ℕ → Heard → Session → StreamFault → List ℕ → Type 0
RefusesHeard strict card tuning n heard s fault bytes = (past : List Heard) → IsListenerAfter card past s →
    is_closed past ≡ false → IsCalm strict past →
    StopsAtOffering strict (heard_offering card tuning n past heard) fault bytes

-- the bytes of which a write may fail: those of a thing that is taken, or, where the receiver is strict, refused
abbrev pub CutsHeard : Bool → CardFields → Tuning → ℕ → Heard → Option (List ℕ) → Session → List ℕ → Type 0
CutsHeard strict card tuning n heard key s bytes =
    ((t : Session) × TakesHeard strict card tuning n heard key s t bytes)
    ⊎ ((strict ≡ true) × (fault : StreamFault) × RefusesHeard strict card tuning n heard s fault bytes)

-- what is kept is of the same that was heard, and as many packets are counted
pub record IsStill (card : CardFields) (s t : Session) : Type 0 where
  pub follows : (past : List Heard) → IsListenerAfter card past s → IsListenerAfter card past t
  pub written : t.written ≡ s.written

-- the message that the part in packet n completes is taken, with these bytes written
abbrev pub TakesMessage : Bool → CardFields → Tuning → ℕ → EcmHead → Session → Session → List ℕ → Type 0
TakesMessage strict card tuning n head s t bytes = (past : List Heard) (part : EcmPart) →
    IsListenerAtMessage card past part head s → IsCalm strict past →
    PassesOffering (heard_offering card tuning n past (Controls part)) s.written t.written bytes ×
    IsListenerAfter card (Controls part ∷ past) t

-- the message that the part in packet n completes is refused, with these bytes written
abbrev pub RefusesHeardMessage : Bool → CardFields → Tuning → ℕ → EcmHead → Session → StreamFault → List ℕ → Type 0
RefusesHeardMessage strict card tuning n head s fault bytes = (past : List Heard) (part : EcmPart) →
    IsListenerAtMessage card past part head s → IsCalm strict past →
    StopsAtOffering strict (heard_offering card tuning n past (Controls part)) fault bytes

-- the bytes of which a write may fail: those of a message that is taken, or, where the receiver is strict, refused
abbrev pub CutsMessage : Bool → CardFields → Tuning → ℕ → EcmHead → Session → List ℕ → Type 0
CutsMessage strict card tuning n head s bytes =
    ((t : Session) × TakesMessage strict card tuning n head s t bytes)
    ⊎ ((strict ≡ true) × (fault : StreamFault) × RefusesHeardMessage strict card tuning n head s fault bytes)

-- a sink took some bytes that have a property
pub record TookSome (old new : SinkState) (Says : List ℕ → Type 0) : Type 0 where
  pub bytes : List ℕ
  pub says : Says bytes
  pub took : TookBytes old new bytes

-- the result of a packet: it is taken or refused and all that it writes went into the sink, or a write failed
abbrev pub SessionOutcome : (Session → List ℕ → Type 0) → (StreamFault → List ℕ → Type 0) → (List ℕ → Type 0) →
    SinkState → SinkState → Session → Result Unit (StageFault StreamFault) → Type 0
SessionOutcome Takes Refuses Cuts old new t (Ok done) = TookSome old new (Takes t)
SessionOutcome Takes Refuses Cuts old new t (Err (Refused fault)) = TookSome old new (Refuses fault)
SessionOutcome Takes Refuses Cuts old new t (Err Write) = IsCutShort old new Cuts

-- what is told of the control word of the message that packet n completes, under this key of its period: the word, or
-- why it is wrong
abbrev pub IsWordTold : ℕ → EcmHead → Option (List ℕ) → Result (Option (List ℕ)) StreamFault → Type 0
IsWordTold n head key found = MatchResult found
    (λ word. (word ≡ word_under (message_of head []) key) × (word_fault n (message_of head []) key ≡ None))
    (λ fault. word_fault n (message_of head []) key ≡ Some fault)

-- why a message is refused before anything is written: for its control word, if that is wrong and the receiver isn't
-- strict
abbrev pub fault_first : Bool → Result (Option (List ℕ)) StreamFault → Option StreamFault
fault_first true found = None
fault_first false (Ok word) = None
fault_first false (Err fault) = Some fault
