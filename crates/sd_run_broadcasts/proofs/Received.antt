-- What is received of a stream, as far as its ports go.
use Rattle.std.proofs.Common.{◌≡◌, ℕ, zero, suc, ◌+◌, ◌-◌, ◌*◌, ◌^◌, ◌<◌, ◌≤◌, List, [], ◌∷◌, ◌++◌, length}
use Rattle.std.proofs.Common.{take, drop, reverse, append-nil, append_assoc, Option, Some, None, Ok, Err}
use Rattle.std.proofs.Common.{refl, sym, ap, subst, ◌∙◌, arith, inl, inr}
use Rattle.std.specs.Prelude.{slice_get, IfSome, is_none, if◌then◌else◌}
use Rattle.std.specs.List.{concat}
use Rattle.std.proofs.lemmas.List.{take-append-drop, length-take, length-reverse}
use Rattle.std.proofs.lemmas.List.Folds.{concat-append}
use Rattle.std.specs.Io.KnownBytes.{Appends}
use Rattle.std.proofs.KnownBytes.{Appends-trans}
use Rattle.sd_base.proofs.Lists.{nothing_joined, reversed, first_none, rest_none}
use Rattle.sd_site_cards.specs.CardFields.{CardFields}
use Rattle.sd_ports.specs.Bytes.{IsPrefix}
use Rattle.sd_ports.proofs.Starts.{prefix_of_prefix, after_first, nothing_after}
use Rattle.sd_engine.specs.Stage.{Chain}
use Rattle.sd_engine.specs.Driving.{DriveState, most_packets, ChainToEnd, ChainToRefusal, IsAllowedAt, DriveOutcome}
use Rattle.sd_engine.specs.Driving.{PassesPackets}
use Rattle.sd_engine.specs.Taken.{StreamEnd, Whole, Breaks, RunsOn, packets_taken, end_of, RefusesAt, CutAt}
use Rattle.sd_engine.specs.Taken.{DriveOutcomeOver}
use Rattle.sd_engine.proofs.Taken.{least_of, is_over, all_few}
use Rattle.sd_engine.specs.declared.driver.DriveFault.{DriveFault}
use Rattle.sd_engine.specs.declared.driver.DriveFault.TheVariants as drive
use Rattle.sd_message.specs.declared.stream_fault.StreamFault.{StreamFault}
use Rattle.sd_spec.specs.declared.ending.Ending.{Ending}
use Rattle.sd_spec.specs.declared.ending.Ending.TheVariants as end
use Rattle.sd_spec.specs.Tuned.{tuning_of}
use Rattle.sd_spec.specs.Offered.{heard, offered, out_from, break_from}
use Rattle.sd_spec.specs.Ending.{ending_of}
use Rattle.sd_receive.specs.declared.receiver.Receiver.{Receiver}
use Rattle.sd_receive.specs.Receiving.{HasReceived, MayReceive, receiver_card, steps_at, taken_keys, receiver_does}
use Rattle.sd_receive.specs.Receiving.{receiver_ends, receiver_refuses}
use Rattle.sd_receive.specs.Receiving.{OutcomeOf, BreakAt}
use Rattle.sd_receive.proofs.Chained.{came_to_all, broke_at, out_joined, steps_more}
use Rattle.sd_command_base.specs.declared.status.Status.{Status}
use Rattle.sd_command_base.specs.declared.status.Status.TheVariants.{BadStream, DepotFault}
use Rattle.sd_command_base.specs.declared.stream_refusal.StreamRefusal.TheVariants.{Packet}
use Rattle.sd_command_base.specs.Outcome.{IsEnding}
use Rattle.sd_command_base.specs.Turned.{StreamWritten, all_written, some_written}
use Rattle.sd_run_broadcasts.specs.Receive.{receive_end_status, ending_status, received_status_at, unless_refused}
use Rattle.sd_run_broadcasts.specs.Receive.{stopped_status, received_of, received_status, received_steps, ReceivesLeft}
use Rattle.sd_run_broadcasts.specs.Receive.{upto_break}

-- the statuses may stand at the end of work
ending_ends : (leaf : ℕ) (ending : Ending) → IsEnding (ending_status leaf ending)
ending_ends leaf end.Opened = tt
ending_ends leaf (end.Revoked period) = tt
ending_ends leaf (end.Unheard period) = tt
ending_ends leaf end.NoCat = tt
ending_ends leaf (end.Unclosed number) = tt
ending_ends leaf (end.Gaps packets) = tt

stream_ends : (card : CardFields) (packets : List (List ℕ)) (end : StreamEnd) →
    IsEnding (received_status_at card packets end)
unfolding receive_end_status
stream_ends card packets Whole = ending_ends card.leaf (ending_of card (reverse packets))
stream_ends card packets (Breaks found) = tt
stream_ends card packets RunsOn = tt

unless_ends : (why : Option StreamFault) (status : Status) → IsEnding status → IsEnding (unless_refused why status)
unless_ends None status ends = ends
unless_ends (Some why) status ends = tt

received_ends : (card : CardFields) (bytes : List ℕ) → IsEnding (received_status card bytes)
unfolding received_status
received_ends card bytes =
    unless_ends (break_from card [] (packets_taken bytes)) (received_status_at card (packets_taken bytes)
    (end_of bytes))
    (stream_ends card (packets_taken bytes) (end_of bytes))

-- a stream of which no packet is refused ends as its bytes do
pub none_refused : (card : CardFields) (bytes : List ℕ) (end : StreamEnd) →
    break_from card [] (packets_taken bytes) ≡ None → end_of bytes ≡ end →
    received_status card bytes ≡ received_status_at card (packets_taken bytes) end
unfolding received_status
none_refused card bytes end none is = rw (none, is) refl

some_refused : (card : CardFields) (bytes : List ℕ) (why : StreamFault) →
    break_from card [] (packets_taken bytes) ≡ Some why →
    received_status card bytes ≡ BadStream (Packet why)
unfolding received_status
some_refused card bytes why some =
    ap (λ (f : Option StreamFault). unless_refused f (received_status_at card (packets_taken bytes) (end_of bytes)))
    some

-- as few packets are taken as can be counted
few_of : (packets : List (List ℕ)) (k : ℕ) → length packets ≤ most_packets → length (take k packets) < 2 ^ 64 - 1
few_of packets k few = omega (arith, few, length-take k packets)

some_few : (bytes : List ℕ) (k : ℕ) → length (take k (packets_taken bytes)) < 2 ^ 64 - 1
some_few bytes k = few_of (packets_taken bytes) k (least_of bytes).1

-- the packet at a place and those after it
split_at : (packets : List (List ℕ)) (k : ℕ) (packet : List ℕ) → slice_get packets k ≡ Some packet →
    (more : List (List ℕ)) × (packets ≡ take k packets ++ packet ∷ more)
split_at [] k packet at = absurd (let e : slice_get {X = List ℕ} [] k ≡ Some packet = at in cc)
split_at (first ∷ packets) zero packet at = (packets, ap (λ (p : List ℕ). p ∷ packets) (some_same first packet at))
  where
    some_same : (x y : List ℕ) → Some x ≡ Some y → x ≡ y
    some_same x y e = cc
split_at (first ∷ packets) (suc k) packet at =
    let rest = split_at packets k packet at in (rest.0, ap (λ (ps : List (List ℕ)). first ∷ ps) rest.1)

-- all packets went through
all_through : (card : CardFields) (packets : List (List ℕ)) (s t : Receiver) (bytes : List ℕ) (n : ℕ) →
    receiver_card s ≡ card → HasReceived [] s →
    length packets ≤ 2 ^ 64 - 1 → Chain receiver_does s packets t bytes n → OutcomeOf card packets t bytes n
all_through card packets s t bytes n is after few chain =
    subst (λ (c : CardFields). OutcomeOf c packets t bytes n) is (came_to_all packets s t bytes n after few chain)

-- what some first packets write is a prefix of what all do
first_of_out : (card : CardFields) (packets more : List (List ℕ)) → break_from card [] packets ≡ None →
    IsPrefix (concat (out_from card [] packets)) (concat (out_from card [] (packets ++ more)))
first_of_out card packets more none = (
  concat (out_from card (reverse packets ++ []) more),
  sym (concat-append (out_from card [] packets) (out_from card (reverse packets ++ []) more))
      ∙ ap concat (sym (out_joined card [] packets more none).0),
)

some_of_out : (card : CardFields) (packets : List (List ℕ)) (k : ℕ) → break_from card [] (take k packets) ≡ None →
    IsPrefix (concat (out_from card [] (take k packets))) (concat (out_from card [] packets))
some_of_out card packets k none =
    subst (λ (all : List (List ℕ)). IsPrefix (concat (out_from card [] (take k packets)))
    (concat (out_from card [] all)))
    (take-append-drop k packets) (first_of_out card (take k packets) (drop k packets) none)

-- what a packet writes comes first of what it and those after it do
wrote_first : (card : CardFields) (past more : List (List ℕ)) (packet : List ℕ) →
    (rest : List (List ℕ)) × (out_from card past (packet ∷ more) ≡ (offered card past packet).wrote ++ rest)
unfolding out_from
wrote_first card past more packet =
    (if is_none (offered card past packet).fault then out_from card (packet ∷ past) more else [], refl)

-- what some first packets and the next one write is a prefix of what all do
next_of_out : (card : CardFields) (packets : List (List ℕ)) (k : ℕ) (packet : List ℕ) →
    slice_get packets k ≡ Some packet →
    break_from card [] (take k packets) ≡ None →
    IsPrefix (concat (out_from card [] (take k packets)) ++ concat
    (offered card (reverse (take k packets)) packet).wrote)
    (concat (out_from card [] packets))
next_of_out card packets k packet at none =
    let early = take k packets in
    let split = split_at packets k packet at in
    let past : reverse early ++ [] ≡ reverse early = append-nil (reverse early) in
    let rest = wrote_first card (reverse early) split.0 packet in
    let wrote = (offered card (reverse early) packet).wrote in
    let joined : out_from card [] packets ≡ out_from card [] early ++ (wrote ++ rest.0) =
    ap (out_from card []) split.1
    ∙ (out_joined card [] early (packet ∷ split.0) none).0
    ∙ ap (λ (before : List (List ℕ)). out_from card [] early ++ out_from card before (packet ∷ split.0)) past
    ∙ ap (λ (more : List (List ℕ)). out_from card [] early ++ more) rest.1 in (
      concat rest.0,
      append_assoc (concat (out_from card [] early)) (concat wrote) (concat rest.0)
          ∙ ap (λ (xs : List ℕ). concat (out_from card [] early) ++ xs) (sym (concat-append wrote rest.0))
          ∙ sym (concat-append (out_from card [] early) (wrote ++ rest.0))
          ∙ ap concat (sym joined),
    )

-- what a packet writes and the steps that it takes, where it is taken or refused
wrote_at : (card : CardFields) (past : List (List ℕ)) (mid : Receiver) (packet bytes : List ℕ) (from to : ℕ) →
    receiver_card mid ≡ card → HasReceived past mid → length past < 2 ^ 64 - 1 →
    IsAllowedAt receiver_does receiver_ends receiver_refuses mid (Some packet) from to bytes →
    (bytes ≡ concat (offered card past packet).wrote) × (to - from ≤ steps_at card past packet)
wrote_at card past mid packet bytes from to is after few (n, counted, inl (t, does)) =
    let done = does past after few in
    let most = subst (λ (c : CardFields). n ≤ steps_at c past packet) is done.few in (
      done.bytes_are ∙ ap (λ (c : CardFields). concat (offered c past packet).wrote) is,
      omega (arith, counted, most),
    )
wrote_at card past mid packet bytes from to is after few (n, counted, inr (why, t, refuses)) =
    let stopped = refuses past after few in
    let most = subst (λ (c : CardFields). n ≤ steps_at c past packet) is stopped.few in (
      stopped.bytes_are ∙ ap (λ (c : CardFields). concat (offered c past packet).wrote) is,
      omega (arith, counted, most),
    )

-- what the receiver may write of a packet, or of the end, goes on with what all packets write
part_of_out : (card : CardFields) (packets : List (List ℕ)) (k : ℕ) (mid : Receiver) (first bytes : List ℕ)
    (n from to : ℕ) (here : Option (List ℕ)) →
    OutcomeOf card (take k packets) mid first n → length (take k packets) < 2 ^ 64 - 1 → slice_get packets k ≡ here →
    IsAllowedAt receiver_does receiver_ends receiver_refuses mid here from to bytes →
    IsPrefix (first ++ bytes) (concat (out_from card [] packets))
part_of_out card packets k mid first bytes n from to None came few at (m, counted, inl (t, ends)) =
    nothing_after first bytes (concat (out_from card [] packets)) ends.1
    (subst (λ (xs : List ℕ). IsPrefix xs (concat (out_from card [] packets))) (sym came.written)
    (some_of_out card packets k came.unbroken))
part_of_out card packets k mid first bytes n from to None came few at (m, counted, inr (why, t, kept)) =
    nothing_after first bytes (concat (out_from card [] packets)) kept.bytes_are
    (subst (λ (xs : List ℕ). IsPrefix xs (concat (out_from card [] packets))) (sym came.written)
    (some_of_out card packets k came.unbroken))
part_of_out card packets k mid first bytes n from to (Some packet) came few at allowed =
    let past = reverse (take k packets) in
    let long : length past ≡ length (take k packets) = length-reverse (take k packets) in
    let wrote =
    (wrote_at card past mid packet bytes from to came.same came.after (omega (arith, long, few)) allowed).0 in
    subst (λ (xs : List ℕ). IsPrefix xs (concat (out_from card [] packets)))
    (ap (λ (xs : List ℕ). xs ++ concat (offered card past packet).wrote) (sym came.written) ∙
    ap (λ (xs : List ℕ). first ++ xs) (sym wrote))
    (next_of_out card packets k packet at came.unbroken)

-- the keys of some first packets are no more than those of all
few_keys : (card : CardFields) (past packets more : List (List ℕ)) →
    taken_keys card past packets ≤ taken_keys card past (packets ++ more)
unfolding taken_keys
few_keys card past [] more = omega arith
few_keys card past (packet ∷ packets) more = let rest = few_keys card (packet ∷ past) packets more in omega
    (arith, rest)

pub scaled : (h a b : ℕ) → a ≤ b → h * a ≤ h * b
scaled h a b few =
    let more = b - a in
    let all : b ≡ a + more = omega (arith, few) in
    let apart : h * (a + more) ≡ h * a + h * more = grind (arith) in
    let both : h * b ≡ h * a + h * more = ap (λ (n : ℕ). h * n) all ∙ apart in
    omega (arith, both)

-- packets of which none is refused are all offered, whatever comes after them
upto_joined : (card : CardFields) (past packets more : List (List ℕ)) → break_from card past packets ≡ None →
    upto_break card past (packets ++ more) ≡ packets ++ upto_break card (reverse packets ++ past) more
unfolding upto_break break_from
upto_joined card past [] more none = refl
upto_joined card past (packet ∷ packets) more none =
    let good = first_none (offered card past packet).fault (break_from card (packet ∷ past) packets) none in
    let rest = rest_none (offered card past packet).fault (break_from card (packet ∷ past) packets) none in
    let turned = reversed packet packets past in
    rw good (ap (λ (ps : List (List ℕ)). packet ∷ ps) (upto_joined card (packet ∷ past) packets more rest
    ∙ ap (λ (before : List (List ℕ)). packets ++ upto_break card before more) (sym turned)))

upto_all : (card : CardFields) (packets : List (List ℕ)) → break_from card [] packets ≡ None →
    upto_break card [] packets ≡ packets
unfolding upto_break
upto_all card packets none =
    ap (upto_break card []) (sym (append-nil packets)) ∙ upto_joined card [] packets [] none ∙ append-nil packets

-- a packet that is offered is offered whether or not it is refused
upto_next : (card : CardFields) (past more : List (List ℕ)) (packet : List ℕ) →
    (rest : List (List ℕ)) × (upto_break card past (packet ∷ more) ≡ packet ∷ rest)
unfolding upto_break
upto_next card past more packet =
    (if is_none (offered card past packet).fault then upto_break card (packet ∷ past) more else [], refl)

-- the most steps of a stream of these packets
abbrev pub most_steps : CardFields → List (List ℕ) → ℕ
most_steps card packets = card.height * taken_keys card [] (upto_break card [] packets)

-- the steps of some first packets are no more than those of all that are offered
first_steps : (card : CardFields) (first more packets : List (List ℕ)) → first ++ more ≡ upto_break card [] packets →
    card.height * taken_keys card [] first ≤ most_steps card packets
first_steps card first more packets joined =
    scaled card.height (taken_keys card [] first) (taken_keys card [] (upto_break card [] packets))
    (subst (λ (ps : List (List ℕ)). taken_keys card [] first ≤ taken_keys card [] ps) joined
    (few_keys card [] first more))

some_steps : (card : CardFields) (packets : List (List ℕ)) (k : ℕ) → break_from card [] (take k packets) ≡ None →
    card.height * taken_keys card [] (take k packets) ≤ most_steps card packets
some_steps card packets k none =
    let early = take k packets in
    let late = drop k packets in
    first_steps card early (upto_break card (reverse early ++ []) late) packets
    (sym (ap (upto_break card []) (sym (take-append-drop k packets)) ∙ upto_joined card [] early late none))

-- and so with the next one
next_steps : (card : CardFields) (packets : List (List ℕ)) (k : ℕ) (packet : List ℕ) → slice_get packets k
    ≡ Some packet → break_from card [] (take k packets) ≡ None →
    card.height * taken_keys card [] (take k packets ++ packet ∷ []) ≤ most_steps card packets
next_steps card packets k packet at none =
    let early = take k packets in
    let split = split_at packets k packet at in
    let next = upto_next card (reverse early ++ []) split.0 packet in
    let joined : upto_break card [] packets ≡ early ++ packet ∷ next.0 =
    ap (upto_break card []) split.1 ∙ upto_joined card [] early (packet ∷ split.0) none
    ∙ ap (λ (ps : List (List ℕ)). early ++ ps) next.1 in
    first_steps card (early ++ packet ∷ []) next.0 packets
    (append_assoc early (packet ∷ []) next.0 ∙ sym joined)

-- the steps that were counted at a packet, or at the end, go on with those of the packets before it
part_of_steps : (card : CardFields) (packets : List (List ℕ)) (k : ℕ) (mid : Receiver) (first bytes : List ℕ)
    (n from to : ℕ) (here : Option (List ℕ)) →
    OutcomeOf card (take k packets) mid first n → length (take k packets) < 2 ^ 64 - 1 → slice_get packets k ≡ here →
    IsAllowedAt receiver_does receiver_ends receiver_refuses mid here from to bytes →
    n + (to - from) ≤ most_steps card packets
part_of_steps card packets k mid first bytes n from to None came few at (m, counted, inl (t, ends)) =
    let before = came.few in let none = ends.2 in
    omega (arith, before, counted, none, some_steps card packets k came.unbroken)
part_of_steps card packets k mid first bytes n from to None came few at (m, counted, inr (why, t, kept)) =
    let before = came.few in let none = kept.none in
    omega (arith, before, counted, none, some_steps card packets k came.unbroken)
part_of_steps card packets k mid first bytes n from to (Some packet) came few at allowed =
    let early = take k packets in
    let long : length (reverse early) ≡ length early = length-reverse early in
    let one =
    (wrote_at card (reverse early) mid packet bytes from to came.same came.after (omega (arith, long, few)) allowed).1
    in
    let both = steps_more card early packet n (to - from) came.few
    (subst (λ (past : List (List ℕ)). to - from ≤ steps_at card past packet) (sym (append-nil (reverse early))) one) in
    omega (arith, both, next_steps card packets k packet at came.unbroken)

steps_are : (card : CardFields) (bytes : List ℕ) → received_steps card bytes ≡ most_steps card (packets_taken bytes)
unfolding received_steps
steps_are card bytes = refl

-- of a stream of which no packet is refused all packets count
all_steps : (card : CardFields) (packets : List (List ℕ)) → break_from card [] packets ≡ None →
    most_steps card packets ≡ card.height * taken_keys card [] packets
all_steps card packets none =
    ap (λ (ps : List (List ℕ)). card.height * taken_keys card [] ps) (upto_all card packets none)

pub unrefused_steps : (card : CardFields) (bytes : List ℕ) → break_from card [] (packets_taken bytes) ≡ None →
    received_steps card bytes ≡ card.height * taken_keys card [] (packets_taken bytes)
unrefused_steps card bytes none = steps_are card bytes ∙ all_steps card (packets_taken bytes) none

pub bytes_are : (card : CardFields) (bytes : List ℕ) → received_of card bytes ≡ concat
    (out_from card [] (packets_taken bytes))
unfolding received_of
bytes_are card bytes = refl

-- what was written of a stream, and how many steps it took
record Receives (card : CardFields) (bytes : List ℕ) (a b : DriveState Receiver) (status : Status) : Type 0 where
  wrote : StreamWritten (received_of card bytes) (received_status card bytes) a.sink.held b.sink.held status
  steps : b.steps ≤ a.steps + received_steps card bytes

-- all of it was written
wrote_all : (card : CardFields) (bytes : List ℕ) (a b : DriveState Receiver) (status : Status) (wrote : List ℕ)
    (n : ℕ) →
    status ≡ received_status card bytes → wrote ≡ concat (out_from card [] (packets_taken bytes)) →
    Appends a.sink.held b.sink.held wrote → b.steps ≤ a.steps + n →
    n ≤ most_steps card (packets_taken bytes) →
    Receives card bytes a b status
wrote_all card bytes a b status wrote n is are taken counted few = record {
  wrote = all_written is (subst IsEnding (sym is) (received_ends card bytes))
      (subst (λ (xs : List ℕ). Appends a.sink.held b.sink.held xs) (are ∙ sym (bytes_are card bytes)) taken);
  steps = let all = steps_are card bytes in omega (arith, all, counted, few);
}

-- the device failed after a prefix of it
wrote_some : (card : CardFields) (bytes : List ℕ) (a b : DriveState Receiver) (prefix : List ℕ) (n : ℕ) →
    IsPrefix prefix (concat (out_from card [] (packets_taken bytes))) → Appends a.sink.held b.sink.held prefix →
    b.steps ≤ a.steps + n → n ≤ most_steps card (packets_taken bytes) →
    Receives card bytes a b DepotFault
wrote_some card bytes a b prefix n short taken counted few = record {
  wrote = some_written (inr refl) (
    prefix,
    subst (λ (xs : List ℕ). IsPrefix prefix xs) (sym (bytes_are card bytes)) short,
    taken,
  );
  steps = let all = steps_are card bytes in omega (arith, all, counted, few);
}

-- the stream was received up to a packet that is refused
refused_wrote : (card : CardFields) (bytes : List ℕ) (a b : DriveState Receiver) (why : StreamFault) →
    receiver_card a.stage ≡ card → HasReceived [] a.stage →
    RefusesAt receiver_does receiver_refuses bytes a b why → Receives card bytes a b (BadStream (Packet why))
refused_wrote card bytes a b why is after h =
    go (slice_get (packets_taken bytes) h.count) refl h.passed.bytes h.passed.steps h.passed.taken h.passed.counted
    h.passed.says
  where
    go : (here : Option (List ℕ)) → slice_get (packets_taken bytes) h.count ≡ here → (wrote : List ℕ) (n : ℕ) →
        Appends a.sink.held b.sink.held wrote → b.steps ≤ a.steps + n →
        ChainToRefusal receiver_does receiver_refuses a.stage (take h.count (packets_taken bytes)) here why b.stage
        wrote n →
        Receives card bytes a b (BadStream (Packet why))
    go None at wrote n taken counted (mid, first, last, m, k, chain, kept, joined, all) =
        let came = came_to_all (take h.count (packets_taken bytes)) a.stage mid first m after
        (let few = some_few bytes h.count in omega (arith, few)) chain in
        absurd (let some = kept.kept in let none = came.after.unrefused in let both = sym none ∙ some in cc)
    go (Some packet) at wrote n taken counted (mid, first, last, m, k, chain, refuses, joined, all) =
        let packets = packets_taken bytes in
        let early = take h.count packets in
        let split = split_at packets h.count packet at in
        let broke = subst (λ (c : CardFields). BreakAt c early packet split.0 why (first ++ last) (m + k)) is
        (broke_at early a.stage mid packet split.0 why first last m k after (some_few bytes h.count) chain refuses) in
        let came = all_through card early a.stage mid first m is after (let few = some_few bytes h.count in
        omega (arith, few)) chain in
        let most = next_steps card packets h.count packet at came.unbroken in
        wrote_all card bytes a b (BadStream (Packet why)) wrote n
        (sym (some_refused card bytes why (ap (break_from card []) split.1 ∙ broke.broken)))
        (joined ∙ broke.written ∙ ap (λ (ps : List (List ℕ)). concat (out_from card [] ps)) (sym split.1))
        taken counted (let few = broke.few in omega (arith, all, few, most))

-- a write failed
cut_wrote : (card : CardFields) (bytes : List ℕ) (a b : DriveState Receiver) → receiver_card a.stage ≡ card →
    HasReceived [] a.stage →
    CutAt receiver_does receiver_ends receiver_refuses bytes a b → Receives card bytes a b DepotFault
cut_wrote card bytes a b is after h =
    let packets = packets_taken bytes in
    let few = some_few bytes h.count in
    let came = all_through card (take h.count packets) a.stage h.mid.stage h.passed.bytes h.passed.steps is after
    (omega (arith, few)) h.passed.says in
    let part = part_of_out card packets h.count h.mid.stage h.passed.bytes h.cut.bytes h.passed.steps h.mid.steps
    b.steps (slice_get packets h.count) came few refl h.cut.says in
    let most = part_of_steps card packets h.count h.mid.stage h.passed.bytes h.cut.bytes h.passed.steps h.mid.steps
    b.steps (slice_get packets h.count) came few refl h.cut.says in
    let before = h.passed.counted in
    wrote_some card bytes a b (h.passed.bytes ++ h.cut.prefix) (h.passed.steps + (b.steps - h.mid.steps))
    (prefix_of_prefix (h.passed.bytes ++ h.cut.prefix) (h.passed.bytes ++ h.cut.bytes)
    (concat (out_from card [] packets))
    (after_first h.passed.bytes h.cut.prefix h.cut.bytes h.cut.short) part)
    (Appends-trans a.sink.held h.mid.sink.held b.sink.held h.passed.bytes h.cut.prefix h.passed.taken h.cut.taken)
    (omega (arith, before)) most

-- some first packets went through
some_wrote : (card : CardFields) (bytes : List ℕ) (a b : DriveState Receiver) (count : ℕ) →
    receiver_card a.stage ≡ card →
    HasReceived [] a.stage → PassesPackets receiver_does a (take count (packets_taken bytes)) b →
    Receives card bytes a b DepotFault
some_wrote card bytes a b count is after grew =
    let few = some_few bytes count in
    let came = all_through card (take count (packets_taken bytes)) a.stage b.stage grew.bytes grew.steps is after
    (omega (arith, few)) grew.says in
    wrote_some card bytes a b grew.bytes grew.steps
    (subst (λ (xs : List ℕ). IsPrefix xs (concat (out_from card [] (packets_taken bytes)))) (sym came.written)
    (some_of_out card (packets_taken bytes) count came.unbroken)) grew.taken grew.counted
    (let before = came.few in omega (arith, before, some_steps card (packets_taken bytes) count came.unbroken))

-- what came of a drive that was stopped
stopped_wrote : (card : CardFields) (bytes : List ℕ) (a b : DriveState Receiver) (why : DriveFault StreamFault) →
    receiver_card a.stage ≡ card →
    HasReceived [] a.stage → DriveOutcomeOver receiver_does receiver_ends receiver_refuses bytes a b (Err why) →
    Receives card bytes a b (stopped_status why)
stopped_wrote card bytes a b (drive.Broken found) is after (end, grew) =
    let came = all_through card (packets_taken bytes) a.stage b.stage grew.bytes grew.steps is after (all_few bytes)
    grew.says in
    wrote_all card bytes a b (stopped_status (drive.Broken found)) grew.bytes grew.steps
    (sym (none_refused card bytes (Breaks found) came.unbroken end)) came.written grew.taken grew.counted
    (let few = came.few in let same = all_steps card (packets_taken bytes) came.unbroken in omega (arith, few, same))
stopped_wrote card bytes a b drive.TooLong is after (end, grew) =
    let came = all_through card (packets_taken bytes) a.stage b.stage grew.bytes grew.steps is after (all_few bytes)
    grew.says in
    wrote_all card bytes a b (stopped_status drive.TooLong) grew.bytes grew.steps
    (sym (none_refused card bytes RunsOn came.unbroken end)) came.written grew.taken grew.counted
    (let few = came.few in let same = all_steps card (packets_taken bytes) came.unbroken in omega (arith, few, same))
stopped_wrote card bytes a b drive.ReadFault is after (count, within, grew) =
    some_wrote card bytes a b count is after grew
stopped_wrote card bytes a b drive.WriteFault is after (inl h) = cut_wrote card bytes a b is after h
stopped_wrote card bytes a b drive.WriteFault is after (inr h) = some_wrote card bytes a b h.count is after h.passed
stopped_wrote card bytes a b (drive.Refused why) is after h = refused_wrote card bytes a b why is after h

-- the status of a receiver after all packets
ended_as : (card : CardFields) (packets : List (List ℕ)) (t : Receiver) → receiver_card t ≡ card →
    ending_status t.card.leaf (ending_of (receiver_card t) (reverse packets)) ≡ receive_end_status card packets
unfolding receive_end_status
ended_as card packets t is = ap (λ (c : CardFields). ending_status c.leaf (ending_of c (reverse packets))) is

-- what came of one that went to its end
ended_wrote : (card : CardFields) (bytes : List ℕ) (a b : DriveState Receiver) (count : ℕ) (status : Status) →
    receiver_card a.stage ≡ card →
    HasReceived [] a.stage → DriveOutcomeOver receiver_does receiver_ends receiver_refuses bytes a b (Ok count) →
    ((past : List (List ℕ)) → HasReceived past b.stage → status
    ≡ ending_status b.stage.card.leaf (ending_of (receiver_card b.stage) past)) →
    Receives card bytes a b status
ended_wrote card bytes a b count status is after (whole, counted, grew) told =
    go grew.bytes grew.steps grew.taken grew.counted grew.says
  where
    go : (wrote : List ℕ) (n : ℕ) → Appends a.sink.held b.sink.held wrote → b.steps ≤ a.steps + n →
        ChainToEnd receiver_does receiver_ends a.stage (packets_taken bytes) b.stage wrote n →
        Receives card bytes a b status
    go wrote n taken most (mid, first, last, m, k, chain, ends, joined, all) =
        let came = all_through card (packets_taken bytes) a.stage mid first m is after (all_few bytes) chain in
        let stands : HasReceived (reverse (packets_taken bytes)) b.stage =
        subst (λ (t : Receiver). HasReceived (reverse (packets_taken bytes)) t) (sym ends.0) came.after in
        wrote_all card bytes a b status wrote n
        (told (reverse (packets_taken bytes)) stands ∙ ended_as card (packets_taken bytes) b.stage
        (ap receiver_card ends.0 ∙ came.same)
        ∙ sym (none_refused card bytes Whole came.unbroken whole))
        (nothing_joined first last wrote ends.1 joined ∙ came.written) taken most
        (let few = came.few in let none = ends.2 in let same = all_steps card (packets_taken bytes) came.unbroken in
        omega (arith, all, few, none, same))

-- the receiver was driven over the stream that was left
pub left_stopped : (a b : DriveState Receiver) (why : DriveFault StreamFault) (status : Status) →
    HasReceived [] a.stage →
    DriveOutcome receiver_does receiver_ends receiver_refuses a b (Err why) → status ≡ stopped_status why →
    ReceivesLeft (receiver_card a.stage) a.left a.sink.held b.sink.held a.steps b.steps status
left_stopped a b why status after drives is =
    let over = is_over receiver_does receiver_ends receiver_refuses a b (Err why) drives in
    let came = stopped_wrote (receiver_card a.stage) over.bytes a b why refl after over.drives in
    subst (λ (s : Status). ReceivesLeft (receiver_card a.stage) a.left a.sink.held b.sink.held a.steps b.steps s)
    (sym is)
    (record { bytes = over.bytes; is_left = over.left; wrote = came.wrote; steps = came.steps })

pub left_ended : (a b : DriveState Receiver) (count : ℕ) (status : Status) → HasReceived [] a.stage →
    DriveOutcome receiver_does receiver_ends receiver_refuses a b (Ok count) →
    ((past : List (List ℕ)) → HasReceived past b.stage → status
    ≡ ending_status b.stage.card.leaf (ending_of (receiver_card b.stage) past)) →
    ReceivesLeft (receiver_card a.stage) a.left a.sink.held b.sink.held a.steps b.steps status
left_ended a b count status after drives told =
    let over = is_over receiver_does receiver_ends receiver_refuses a b (Ok count) drives in
    let came = ended_wrote (receiver_card a.stage) over.bytes a b count status refl after over.drives told in
    record { bytes = over.bytes; is_left = over.left; wrote = came.wrote; steps = came.steps }

-- before the first packet the receiver may be offered one
pub new_lives : (s : Receiver) → HasReceived [] s → MayReceive s
unfolding tuning_of
new_lives s after unrefused = record {
  ecm = subst (λ t. IfSome t (λ tuning. tuning.ecm < 8192)) (sym after.tuning) tt;
  follows = (heard (receiver_card s) [], after.follows);
}
