-- Public meaning: the receiver as a stage of packets.
use Rattle.std.specs.Prelude.{◌≡◌, ℕ, ◌-◌, ◌*◌, ◌^◌, ◌<◌, ◌≤◌, Bool, true, false, List, [], ◌∷◌, ◌++◌, length, reverse}
use Rattle.std.specs.Prelude.{if◌then◌else◌, ◌+◌, Option, Some, None, IfSome}
use Rattle.std.specs.List.{concat}
use Rattle.sd_site_cards.specs.CardFields.{CardFields, card_fields_of}
use Rattle.sd_message.specs.declared.stream_fault.StreamFault.{StreamFault}
use Rattle.sd_base.specs.Types.{RunName}
use Rattle.sd_spec.specs.Tuned.{tuning_of}
use Rattle.sd_spec.specs.Heard.{Heard}
use Rattle.sd_spec.specs.Runs.{run_name_in}
use Rattle.sd_spec.specs.Ending.{endings_joined, run_ending, run_wrote, ended_before, turns_at}
use Rattle.sd_spec.specs.Reports.{run_end}
use Rattle.sd_spec.specs.Counting.{holds_stray}
use Rattle.sd_spec.specs.Offered.{heard, offered, out_from, break_from}
pub use Rattle.sd_spec.specs.Taken.{takes_key_of}
unfoldable pub use Rattle.sd_spec.specs.Taken.{takes_key_at, taken_keys}
use Rattle.sd_engine.specs.Stage.{IsAllowed}
use Rattle.sd_receive.specs.Session.{IsListenerAfter, capped_count}
use Rattle.sd_receive.specs.declared.receiver.ended.EndedRun.{EndedRun}
use Rattle.sd_receive.specs.declared.receiver.ended.EndedRuns.{EndedRuns}
use Rattle.sd_receive.specs.declared.session.Session.{Session}
use Rattle.sd_receive.specs.declared.receiver.Receiver.{Receiver}

-- what the receiver's card says
abbrev pub receiver_card : Receiver → CardFields
receiver_card receiver = card_fields_of receiver.card

-- what is kept after these packets, of which the newest comes first, and none was refused [this project,
-- docs/FORMATS.md, Receiver]
pub record HasReceived (past : List (List ℕ)) (receiver : Receiver) : Type 0 where
  pub count : receiver.count ≡ length past
  pub tuning : receiver.tuning ≡ tuning_of receiver.card.ca past
  pub name : receiver.name ≡ run_name_in (heard (receiver_card receiver) past)
  pub so_far : receiver.ended.so_far ≡ ended_before (receiver_card receiver) past
  pub follows : IsListenerAfter (receiver_card receiver) (heard (receiver_card receiver) past) receiver.session
  pub written : receiver.session.written ≡ capped_count (run_wrote (receiver_card receiver) past)
  pub total : capped_count (receiver.ended.written + receiver.session.written)
      ≡ capped_count (length (out_from (receiver_card receiver) [] (reverse past)))
  pub unbroken : break_from (receiver_card receiver) [] (reverse past) ≡ None
  pub unrefused : receiver.refusal ≡ None

-- the current run, of this name, was ended after runs that ended so: all that was heard of it was forgotten but its
-- name, how it ended and how many packets were written of it
pub record HasTurned (name : Option RunName) (before : EndedRuns) (s t : Session) (ended : EndedRuns) : Type 0 where
  pub follows : (card : CardFields) (past : List Heard) → IsListenerAfter card past s → IsListenerAfter card [] t
  pub written : t.written ≡ 0
  pub total : ended.written ≡ capped_count (before.written + s.written)
  pub so_far : (card : CardFields) (past : List Heard) (total : ℕ) → IsListenerAfter card past s →
      s.written ≡ capped_count total → ended.so_far ≡ endings_joined before.so_far (run_ending card past total)
  pub last : (card : CardFields) (past : List Heard) (total : ℕ) → IsListenerAfter card past s →
      s.written ≡ capped_count total → ended.last ≡ Some (record { run = name; ending = run_ending card past total })

-- the current run is ended if another begins
abbrev pub TurnsBy : Bool → Option RunName → EndedRuns → Session → Session → EndedRuns → Type 0
TurnsBy begins name before s t ended =
    (begins ≡ false → (t ≡ s) × (ended ≡ before)) × (begins ≡ true → HasTurned name before s t ended)

-- the run that ended last, if it wasn't taken yet, with a packet more: the current one if the packet begins another
abbrev pub ended_at : CardFields → List (List ℕ) → List ℕ → Option EndedRun → Option EndedRun
ended_at card past packet before =
    if turns_at card past packet then Some (record { run = run_name_in (heard card past); ending = run_end card past })
    else before

-- the most steps of the generator for a packet: as many as the tree is high if it takes a key, and else none
abbrev pub steps_at : CardFields → List (List ℕ) → List ℕ → ℕ
steps_at card past packet = if takes_key_at card past packet then card.height else 0

-- the result of a packet that is taken: what is written, the receiver after it, and a bound on the steps
pub record TakesReceivedPacket (past : List (List ℕ)) (s : Receiver) (packet : List ℕ) (t : Receiver) (bytes : List ℕ)
    (steps : ℕ) :
    Type 0 where
  pub fault : (offered (receiver_card s) past packet).fault ≡ None
  pub bytes_are : bytes ≡ concat (offered (receiver_card s) past packet).wrote
  pub few : steps ≤ steps_at (receiver_card s) past packet
  pub after : HasReceived (packet ∷ past) t
  pub ended : t.ended.last ≡ ended_at (receiver_card s) past packet s.ended.last
  pub same : t.card ≡ s.card

-- the result of a packet that is refused, by a strict receiver or by one that writes nothing of it
pub record RefusesReceivedPacket (strict : Bool) (past : List (List ℕ)) (s : Receiver) (packet : List ℕ)
    (why : StreamFault)
    (bytes : List ℕ) (steps : ℕ) : Type 0 where
  pub fault : (offered (receiver_card s) past packet).fault ≡ Some why
  pub bytes_are : bytes ≡ (if strict then concat (offered (receiver_card s) past packet).wrote else [])
  pub few : steps ≤ steps_at (receiver_card s) past packet

-- a packet was refused before: the receiver answers the same, and writes nothing
pub record KeepsRefusal (s : Receiver) (why : StreamFault) (bytes : List ℕ) (steps : ℕ) : Type 0 where
  pub kept : s.refusal ≡ Some why
  pub bytes_are : bytes ≡ []
  pub none : steps ≡ 0

-- one packet more can be counted
abbrev pub IsCountable : List (List ℕ) → Type 0
IsCountable past = length past < 2 ^ 64 - 1

-- a packet is taken, whatever packets led to the receiver's state
abbrev pub receiver_does : Receiver → List ℕ → Receiver → List ℕ → ℕ → Type 0
receiver_does s packet t bytes steps = (past : List (List ℕ)) → HasReceived past s → IsCountable past →
    TakesReceivedPacket past s packet t bytes steps

-- a packet is refused, whatever packets led to the receiver's state
abbrev pub Refusing : Receiver → List ℕ → StreamFault → List ℕ → ℕ → Type 0
Refusing s packet fault bytes steps =
    (past : List (List ℕ)) → HasReceived past s → IsCountable past →
    RefusesReceivedPacket true past s packet fault bytes steps

-- a packet is taken, whatever packets led to the receiver's state, if no stray packet is buffered after them
abbrev pub Opening : Receiver → List ℕ → Receiver → List ℕ → ℕ → Type 0
Opening s packet t bytes steps = (past : List (List ℕ)) → HasReceived past s → IsCountable past →
    holds_stray (heard (receiver_card s) past) ≡ false → TakesReceivedPacket past s packet t bytes steps

-- a packet is refused and nothing of it is written, whatever packets led to the receiver's state, if no stray
-- packet is buffered after them
abbrev pub Leaving : Receiver → List ℕ → StreamFault → List ℕ → ℕ → Type 0
Leaving s packet fault bytes steps = (past : List (List ℕ)) → HasReceived past s → IsCountable past →
    holds_stray (heard (receiver_card s) past) ≡ false → RefusesReceivedPacket false past s packet fault bytes steps

-- a packet is taken or refused, by a strict receiver or by one that writes nothing of a packet that it refuses
abbrev pub TakesBy : Bool → Receiver → List ℕ → Receiver → List ℕ → ℕ → Type 0
TakesBy true = receiver_does
TakesBy false = Opening

abbrev pub RefusesBy : Bool → Receiver → List ℕ → StreamFault → List ℕ → ℕ → Type 0
RefusesBy true = Refusing
RefusesBy false = Leaving

-- the bytes of which a write may fail: those of a packet that is taken, or, where the receiver is strict, refused
abbrev pub CutsBy : Bool → Receiver → List ℕ → ℕ → ℕ → List ℕ → Type 0
CutsBy true s packet from to bytes = IsAllowed (receiver_does s packet) (λ fault t. Refusing s packet fault) from to
    bytes
CutsBy false s packet from to bytes = (steps : ℕ) × (to ≤ from + steps)
    × (t : Receiver) × Opening s packet t bytes steps

-- at the end of the stream nothing is changed, written or counted
abbrev pub receiver_ends : Receiver → Receiver → List ℕ → ℕ → Type 0
receiver_ends s t bytes steps = (t ≡ s) × (bytes ≡ []) × (steps ≡ 0)

-- this packet is refused; or, without one, a packet was refused before
abbrev pub receiver_refuses : Receiver → Option (List ℕ) → StreamFault → Receiver → List ℕ → ℕ → Type 0
receiver_refuses s None fault t bytes steps = KeepsRefusal s fault bytes steps
receiver_refuses s (Some packet) fault t bytes steps = Refusing s packet fault bytes steps

-- the PID of control messages has 13 bits, and what is kept is of something that was heard
pub record IsSoundReceiver (receiver : Receiver) : Type 0 where
  pub ecm : IfSome receiver.tuning (λ tuning. tuning.ecm < 8192)
  pub follows : (past : List Heard) × IsListenerAfter (receiver_card receiver) past receiver.session

-- a receiver may be offered a packet
abbrev pub MayReceive : Receiver → Type 0
MayReceive receiver = receiver.refusal ≡ None → IsSoundReceiver receiver

-- the result of packets after others, none of which is refused: what is written, the receiver after them, and a bound
-- on the steps [this project, docs/FORMATS.md, Receiver]
pub record OutcomeAfter (card : CardFields) (past packets : List (List ℕ)) (t : Receiver) (bytes : List ℕ) (steps : ℕ)
    : Type 0 where
  pub written : bytes ≡ concat (out_from card past packets)
  pub unbroken : break_from card past packets ≡ None
  pub after : HasReceived (reverse packets ++ past) t
  pub few : steps ≤ card.height * taken_keys card past packets
  pub same : receiver_card t ≡ card

-- the result of the first packets of a stream, none of which is refused
pub record OutcomeOf (card : CardFields) (packets : List (List ℕ)) (t : Receiver) (bytes : List ℕ) (steps : ℕ) : Type 0
  where
    pub written : bytes ≡ concat (out_from card [] packets)
    pub unbroken : break_from card [] packets ≡ None
    pub after : HasReceived (reverse packets) t
    pub few : steps ≤ card.height * taken_keys card [] packets
    pub same : receiver_card t ≡ card

-- the result of the first packets of a stream of which one is refused, whatever comes after it
pub record BreakAt (card : CardFields) (packets : List (List ℕ)) (packet : List ℕ) (more : List (List ℕ))
    (why : StreamFault)
    (bytes : List ℕ) (steps : ℕ) : Type 0 where
  pub written : bytes ≡ concat (out_from card [] (packets ++ packet ∷ more))
  pub broken : break_from card [] (packets ++ packet ∷ more) ≡ Some why
  pub few : steps ≤ card.height * taken_keys card [] (packets ++ packet ∷ [])
