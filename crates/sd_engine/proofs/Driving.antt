-- How a drive goes on by a packet, and how it ends.
use Rattle.std.proofs.Common.{◌≡◌, ℕ, suc, ◌+◌, ◌*◌, ◌<◌, ◌≤◌, List, [], ◌∷◌, ◌++◌, length, take, get_or}
use Rattle.std.proofs.Common.{refl, sym, ap, subst, ◌∙◌, inl, inr, arith, append_assoc, append-nil, length-append}
use Rattle.std.specs.Prelude.{Option, None, Some, Result, Ok, Err, slice_get}
use Rattle.std.specs.Io.KnownBytes.{Appends, Consumes}
use Rattle.std.proofs.KnownBytes.{Consumes-trans, Consumes-nil}
use Rattle.std.proofs.Math.Seq.{take-append_seam, get_or-append_seam}
use Rattle.std.proofs.lemmas.List.{take_all}
use Rattle.std.proofs.lemmas.Option.{slice_get-get_or, slice_get_past}
use Rattle.std.specs.Prelude.{slice_index}
use Rattle.sd_ports.specs.Bytes.{LosesPrefix}
use Rattle.sd_engine.specs.declared.fault.BreakCause.{BreakCause}
use Rattle.sd_engine.specs.declared.fault.BreakCause.TheVariants.{Torn, NoSync}
use Rattle.sd_engine.specs.Stream.{ArePackets, pieces, packets_of, break_after}
use Rattle.sd_engine.specs.Stage.{SinkState, HasGrown, IsCutShort, IsAllowed, Chain}
use Rattle.sd_engine.specs.Feeding.{ReadsMore, GivesPacket, GivesNone, IsWaitingPacket, IsBrokenStream, FeedStop}
use Rattle.sd_engine.specs.declared.feed.FeedFault.{FeedFault}
use Rattle.sd_engine.specs.declared.feed.FeedFault.TheVariants.{Read, Write, Break}
use Rattle.sd_engine.specs.Driving.{DriveState, drive_state_of, IsUnderWay, IsWhole, ChainToEnd, PassesPackets}
use Rattle.sd_engine.specs.Driving.{IsStopped}
use Rattle.sd_engine.specs.Driving.{IsHeldUp, IsStreamBroken}
use Rattle.sd_engine.specs.declared.stage.StageFault.{StageFault}
use Rattle.sd_engine.specs.declared.stage.StageFault.TheVariants.{Write as StageWrite, Refused as StageRefused}
use Rattle.sd_engine.specs.declared.driver.DriveFault.{DriveFault}
use Rattle.sd_engine.specs.declared.driver.DriveFault.TheVariants.{Broken, TooLong, ReadFault, WriteFault, Refused}
use Rattle.sd_engine.specs.Driving.{DriveOutcome, IsStageEnd, stopped_by, broken_by, overrun_by, IsRefused}
use Rattle.sd_engine.specs.Driving.{ChainToRefusal, IsCutOff}
use Rattle.sd_engine.specs.Driving.{IsAllowedAt, IsTooLong, most_packets}
use Rattle.sd_engine.proofs.Walking.{all_counted, all_taken, none_broken, torn_here, no_sync_here}
use Rattle.sd_engine.proofs.Starts.{packets_first, break_first, packets_on, pieces_on}
use Rattle.sd_engine.proofs.Chains.{chain_on, grew_on, grew_none}

-- no packet was taken, and nothing waits
pub not_begun : {S : Type 0} (does : S → List ℕ → S → List ℕ → ℕ → Type 0) (a : DriveState S) (waiting : List ℕ) →
    waiting ≡ [] → IsUnderWay does a a 0 waiting
unfolding pieces
not_begun does a waiting nothing = record {
  taken = [];
  packets = record { long = refl; sync = λ k within. absurd (omega (arith, within)) };
  read = subst (Consumes a.left a.left) (sym nothing) (Consumes-nil a.left);
  passed = grew_none (Chain does a.stage [] a.stage) a.sink a.steps (refl, refl, refl);
}

-- the bytes that were read before, and those that were read after
reads_on : (a b c : Option (List ℕ)) (taken old new : List ℕ) → Consumes a b (taken ++ old) → ReadsMore b c old new →
    Consumes a c (taken ++ new)
reads_on a b c taken old new before reads =
    subst (Consumes a c)
    (append_assoc taken old reads.bytes ∙ ap (λ (xs : List ℕ). taken ++ xs) (sym reads.joined))
    (Consumes-trans a b c (taken ++ old) reads.bytes before reads.consumed)

-- one packet more
pub one_more : {S : Type 0} (does : S → List ℕ → S → List ℕ → ℕ → Type 0) (a : DriveState S)
    (left left' : Option (List ℕ)) (sink sink' : SinkState) (stage stage' : S) (steps steps' count : ℕ)
    (old new packet : List ℕ)
    → IsUnderWay does a (drive_state_of left sink stage steps) count old → GivesPacket left left' old new packet
    → HasGrown sink sink' steps steps' (does stage packet stage')
    → IsUnderWay does a (drive_state_of left' sink' stage' steps') (count + 1) new
one_more does a left left' sink sink' stage stage' steps steps' count old new packet way gives grew =
    let more : count + 1 ≡ suc count = omega arith in
    record {
      taken = way.taken ++ packet;
      packets = packets_on count way.taken packet way.packets gives.long gives.sync;
      read = subst (Consumes a.left left') (sym (append_assoc way.taken packet new))
          (reads_on a.left left left' way.taken old (packet ++ new) way.read gives.read);
      passed = subst (λ (ps : List (List ℕ)). HasGrown a.sink sink' a.steps steps' (Chain does a.stage ps stage'))
          (sym (ap (λ (n : ℕ). pieces n (way.taken ++ packet)) more ∙ pieces_on count way.taken packet way.packets
          gives.long))
          (grew_on (Chain does a.stage (pieces count way.taken) stage) (does stage packet stage')
          (Chain does a.stage (pieces count way.taken ++ packet ∷ []) stage') a.sink sink sink' a.steps steps steps'
          (λ x y n m first last. chain_on does a.stage (pieces count way.taken) stage x n packet stage' y m first last)
          way.passed grew);
    }

-- the end of a whole stream
pub all_driven : {S : Type 0} (does : S → List ℕ → S → List ℕ → ℕ → Type 0) (ends : S → S → List ℕ → ℕ → Type 0)
    (a : DriveState S)
    (left left' : Option (List ℕ)) (sink sink' : SinkState) (stage stage' : S) (steps steps' count : ℕ)
    (old new : List ℕ)
    → IsUnderWay does a (drive_state_of left sink stage steps) count old → GivesNone left left' old new
    → HasGrown sink sink' steps steps' (ends stage stage') → count ≤ most_packets
    → IsWhole does ends a (drive_state_of left' sink' stage' steps') count
all_driven does ends a left left' sink sink' stage stage' steps steps' count old new way gives grew few =
    let whole = all_taken count way.taken way.packets in
    record {
      bytes = way.taken;
      read = subst (Consumes a.left left') (append-nil way.taken)
          (reads_on a.left left left' way.taken old [] way.read gives.read);
      end = gives.end;
      unbroken = none_broken count way.taken way.packets;
      counted = sym (ap (λ (ps : List (List ℕ)). length ps) whole ∙ all_counted count way.taken);
      few = few;
      long = way.packets.long;
      passed = subst (λ (ps : List (List ℕ)).
          HasGrown a.sink sink' a.steps steps' (ChainToEnd does ends a.stage ps stage')) (sym whole)
          (grew_on (Chain does a.stage (pieces count way.taken) stage) (ends stage stage')
          (ChainToEnd does ends a.stage (pieces count way.taken) stage') a.sink sink sink' a.steps steps steps'
          (λ x y n m first last. (stage, x, y, n, m, first, last, refl, refl))
          way.passed grew);
    }

-- the first packets of what was read, and how many there are at least
prefix_of : (count : ℕ) (taken rest : List ℕ) → ArePackets count taken →
    (take count (packets_of (taken ++ rest)) ≡ pieces count taken) × (count ≤ length (packets_of (taken ++ rest)))
prefix_of count taken rest are =
    let all = packets_first count taken rest are in
    let long : length (pieces count taken) ≡ count = all_counted count taken in (
      ap (take count) all ∙ subst (λ (n : ℕ). take n (pieces count taken ++ packets_of rest) ≡ pieces count taken) long
          (take-append_seam (pieces count taken) (packets_of rest)),
      omega (
        arith,
        ap (λ (ps : List (List ℕ)). length ps) all ∙ length-append (pieces count taken) (packets_of rest),
        long,
      ),
    )

-- so many packets went through, and then some bytes were lost, or none
some_went : {S : Type 0} (does : S → List ℕ → S → List ℕ → ℕ → Type 0) (a : DriveState S)
    (left left' : Option (List ℕ)) (sink : SinkState) (stage : S) (steps count : ℕ) (old : List ℕ)
    → IsUnderWay does a (drive_state_of left sink stage steps) count old → LosesPrefix left left' → count ≤ most_packets
    → IsStopped does a (drive_state_of left' sink stage steps) count
some_went does a left left' sink stage steps count old way lost few =
    let prefix = prefix_of count way.taken (old ++ lost.0) way.packets in
    record {
      bytes = way.taken ++ (old ++ lost.0);
      read = reads_on a.left left left' way.taken old (old ++ lost.0) way.read
          (record { bytes = lost.0; consumed = lost.1; joined = refl });
      enough = prefix.1;
      few = few;
      passed = subst (λ (ps : List (List ℕ)). PassesPackets does a ps (drive_state_of left' sink stage steps))
          (sym prefix.0)
          way.passed;
    }

-- a sink that tells what it holds told it before
untold_before : (before now : Option (List ℕ)) (bytes : List ℕ) → Appends before now bytes → now ≡ None → before ≡ None
untold_before None now bytes taken none = refl
untold_before (Some held) now bytes taken none =
    absurd (subst (λ (later : Option (List ℕ)). Appends (Some held) later bytes) none taken)

-- what waited in the sink could not be handed on
write_failed : {S : Type 0} (does : S → List ℕ → S → List ℕ → ℕ → Type 0) (a : DriveState S)
    (left left' : Option (List ℕ)) (sink : SinkState) (stage : S) (steps count : ℕ) (old : List ℕ)
    → IsUnderWay does a (drive_state_of left sink stage steps) count old → left' ≡ left → sink.held ≡ None →
    count ≤ most_packets → IsHeldUp does a (drive_state_of left' sink stage steps)
write_failed does a left left' sink stage steps count old way same none few = record {
  count = count;
  untold = untold_before a.sink.held sink.held way.passed.bytes way.passed.taken none;
  stopped = some_went does a left left' sink stage steps count old way
      (subst (LosesPrefix left) (sym same) ([], Consumes-nil left)) few;
}

-- the sink handed on what waited, which changes nothing that it tells
pub handed_on : {S : Type 0} (does : S → List ℕ → S → List ℕ → ℕ → Type 0) (a : DriveState S)
    (left : Option (List ℕ)) (sink sink' : SinkState) (stage : S) (steps count : ℕ) (old : List ℕ)
    → IsUnderWay does a (drive_state_of left sink stage steps) count old → sink' ≡ sink →
    IsUnderWay does a (drive_state_of left sink' stage steps) count old
handed_on does a left sink sink' stage steps count old way same =
    subst (λ (s : SinkState). IsUnderWay does a (drive_state_of left s stage steps) count old) (sym same) way

-- and a sink that didn't tell what it held before doesn't tell it then
pub still_untold : (sink sink' : SinkState) → sink' ≡ sink → sink.held ≡ None → sink'.held ≡ None
still_untold sink sink' same none = ap (λ (s : SinkState). s.held) same ∙ none

-- what is left is no packet
break_here : (count : ℕ) (rest : List ℕ) (cause : BreakCause) → IsWaitingPacket rest (Err cause) →
    (packets_of rest ≡ []) × (break_after count rest ≡ Some (record { packet = count; cause = cause }))
break_here count rest Torn takes = torn_here rest count takes.0 takes.1
break_here count rest NoSync takes = no_sync_here rest count takes.0 takes.1

pub stream_broken : {S : Type 0} (does : S → List ℕ → S → List ℕ → ℕ → Type 0) (a : DriveState S)
    (left left' : Option (List ℕ)) (sink : SinkState) (stage : S) (steps count : ℕ) (old : List ℕ) (cause : BreakCause)
    → IsUnderWay does a (drive_state_of left sink stage steps) count old → IsBrokenStream left left' old cause →
    count < most_packets
    → IsStreamBroken does a (drive_state_of left' sink stage steps) (record { packet = count; cause = cause })
stream_broken does a left left' sink stage steps count old cause way found few =
    let here = break_here count found.left cause found.broken in
    let all : packets_of (way.taken ++ found.left) ≡ pieces count way.taken =
    packets_first count way.taken found.left way.packets
    ∙ (ap (λ (ps : List (List ℕ)). pieces count way.taken ++ ps) here.0 ∙ append-nil (pieces count way.taken)) in
    record {
      bytes = way.taken ++ found.left;
      read = reads_on a.left left left' way.taken old found.left way.read found.read;
      end = found.end;
      broken = break_first count 0 way.taken found.left way.packets
          ∙ (ap (λ (n : ℕ). break_after n found.left) (let none : 0 + count ≡ count = omega arith in none) ∙ here.1);
      counted = sym (ap (λ (ps : List (List ℕ)). length ps) all ∙ all_counted count way.taken);
      few = few;
      passed = subst (λ (ps : List (List ℕ)).
          PassesPackets does a ps (drive_state_of left' sink stage steps)) (sym all) way.passed;
    }

-- a packet by itself
one_packet : (packet : List ℕ) → length packet ≡ 188 → slice_index packet 0 ≡ 0x47 → ArePackets 1 packet
one_packet packet long sync = record {
  long = omega (arith, long);
  sync = λ k within. let first : 188 * k ≡ 0 = omega (arith, within) in ap (λ (i : ℕ). slice_index packet i) first
      ∙ sync;
}

-- the packet after some first ones
packet_at : (count : ℕ) (taken packet new : List ℕ) → ArePackets count taken → length packet ≡ 188 →
    slice_index packet 0 ≡ 0x47 →
    (slice_get (packets_of (taken ++ (packet ++ new))) count ≡ Some packet)
    × (count < length (packets_of (taken ++ (packet ++ new))))
unfolding pieces
packet_at count taken packet new are long sync =
    let whole : take 188 packet ≡ packet = take_all 188 packet (omega (arith, long)) in
    let next : packets_of (packet ++ new) ≡ packet ∷ packets_of new =
    packets_first 1 packet new (one_packet packet long sync) ∙ ap (λ (p : List ℕ). p ∷ packets_of new) whole in
    let all : packets_of (taken ++ (packet ++ new)) ≡ pieces count taken ++ packet ∷ packets_of new =
    packets_first count taken (packet ++ new) are ∙ ap (λ (ps : List (List ℕ)). pieces count taken ++ ps) next in
    let counted : length (pieces count taken) ≡ count = all_counted count taken in
    let inside : count < length (packets_of (taken ++ (packet ++ new))) =
    omega (
      arith,
      ap (λ (ps : List (List ℕ)). length ps) all
          ∙ length-append (pieces count taken) (packet ∷ packets_of new),
      counted,
    ) in
    let at : get_or (packets_of (taken ++ (packet ++ new))) count [] ≡ packet =
    ap (λ (ps : List (List ℕ)). get_or ps count []) all
    ∙ subst (λ (n : ℕ). get_or (pieces count taken ++ packet ∷ packets_of new) n [] ≡ packet) counted
    (get_or-append_seam (pieces count taken) packet (packets_of new) []) in
    (slice_get-get_or (packets_of (taken ++ (packet ++ new))) count [] inside ∙ ap (λ (p : List ℕ). Some p) at, inside)

-- what was read, as far as a packet and what waits after it
read_to_packet : (a left left' : Option (List ℕ)) (taken old new packet : List ℕ) → Consumes a left (taken ++ old) →
    GivesPacket left left' old new packet → Consumes a left' (taken ++ (packet ++ new))
read_to_packet a left left' taken old new packet before gives = reads_on a left left' taken old (packet ++ new) before
    gives.read

-- the stage refused a packet
pub packet_refused : {S F : Type 0} (does : S → List ℕ → S → List ℕ → ℕ → Type 0)
    (refuses : S → Option (List ℕ) → F → S → List ℕ → ℕ → Type 0) (a : DriveState S)
    (left left' : Option (List ℕ)) (sink sink' : SinkState) (stage stage' : S) (steps steps' count : ℕ)
    (old new packet : List ℕ) (fault : F)
    → IsUnderWay does a (drive_state_of left sink stage steps) count old → GivesPacket left left' old new packet
    → HasGrown sink sink' steps steps' (refuses stage (Some packet) fault stage') → count < most_packets
    → IsRefused does refuses a (drive_state_of left' sink' stage' steps') fault
packet_refused does refuses a left left' sink sink' stage stage' steps steps' count old new packet fault way gives grew
    few =
    let here = packet_at count way.taken packet new way.packets gives.long gives.sync in
    let prefix = prefix_of count way.taken (packet ++ new) way.packets in
    record {
      bytes = way.taken ++ (packet ++ new);
      count = count;
      read = read_to_packet a.left left left' way.taken old new packet way.read gives;
      place = record {
        within = prefix.1;
        few = omega (arith, few);
        fewer = λ h. few;
        end = λ e. absurd
            (omega (arith, e, here.1));
      };
      passed =
          subst (λ (p : Option (List ℕ)). HasGrown a.sink sink' a.steps steps'
          (ChainToRefusal does refuses a.stage (take count (packets_of (way.taken ++ (packet ++ new)))) p fault stage'))
          (sym here.0)
          (subst (λ (ps : List (List ℕ)). HasGrown a.sink sink' a.steps steps'
          (ChainToRefusal does refuses a.stage ps (Some packet) fault stage'))
          (sym prefix.0)
          (grew_on (Chain does a.stage (pieces count way.taken) stage) (refuses stage (Some packet) fault stage')
          (ChainToRefusal does refuses a.stage (pieces count way.taken) (Some packet) fault stage') a.sink sink sink'
          a.steps steps steps'
          (λ x y n m first last. (stage, x, y, n, m, first, last, refl, refl))
          way.passed grew));
    }

-- all packets of a stream that was read to its end
all_of : (count : ℕ) (taken : List ℕ) → ArePackets count taken →
    (take count (packets_of taken) ≡ pieces count taken) × (slice_get (packets_of taken) count ≡ None)
    × (count ≡ length (packets_of taken))
all_of count taken are =
    let whole = all_taken count taken are in
    let counted : length (packets_of taken) ≡ count = ap (λ (ps : List (List ℕ)). length ps) whole
    ∙ all_counted count taken in (
      take_all count (packets_of taken) (omega (arith, counted)) ∙ whole,
      slice_get_past (packets_of taken) count (omega (arith, counted)),
      sym counted,
    )

-- the stage refused the end
pub end_refused : {S F : Type 0} (does : S → List ℕ → S → List ℕ → ℕ → Type 0)
    (refuses : S → Option (List ℕ) → F → S → List ℕ → ℕ → Type 0) (a : DriveState S)
    (left left' : Option (List ℕ)) (sink sink' : SinkState) (stage stage' : S) (steps steps' count : ℕ)
    (old new : List ℕ) (fault : F)
    → IsUnderWay does a (drive_state_of left sink stage steps) count old → GivesNone left left' old new
    → HasGrown sink sink' steps steps' (refuses stage None fault stage') → count ≤ most_packets
    → IsRefused does refuses a (drive_state_of left' sink' stage' steps') fault
end_refused does refuses a left left' sink sink' stage stage' steps steps' count old new fault way gives grew few =
    let all = all_of count way.taken way.packets in
    record {
      bytes = way.taken;
      count = count;
      read = subst (Consumes a.left left') (append-nil way.taken)
          (reads_on a.left left left' way.taken old [] way.read gives.read);
      place = record {
        within = omega (arith, all.2);
        few = few;
        fewer = λ h. absurd (omega (arith, h, all.2));
        end = λ e. (gives.end, none_broken count way.taken way.packets, way.packets.long);
      };
      passed =
          subst (λ (p : Option (List ℕ)). HasGrown a.sink sink' a.steps steps'
          (ChainToRefusal does refuses a.stage (take count (packets_of way.taken)) p fault stage')) (sym all.1)
          (subst (λ (ps : List (List ℕ)). HasGrown a.sink sink' a.steps steps'
          (ChainToRefusal does refuses a.stage ps None fault stage'))
          (sym all.0)
          (grew_on (Chain does a.stage (pieces count way.taken) stage) (refuses stage None fault stage')
          (ChainToRefusal does refuses a.stage (pieces count way.taken) None fault stage') a.sink sink sink' a.steps
          steps steps'
          (λ x y n m first last. (stage, x, y, n, m, first, last, refl, refl))
          way.passed grew));
    }

-- a write failed at a packet
pub packet_cut : {S F : Type 0} (does : S → List ℕ → S → List ℕ → ℕ → Type 0) (ends : S → S → List ℕ → ℕ → Type 0)
    (refuses : S → Option (List ℕ) → F → S → List ℕ → ℕ → Type 0) (a : DriveState S)
    (left left' : Option (List ℕ)) (sink sink' : SinkState) (stage stage' : S) (steps steps' count : ℕ)
    (old new packet : List ℕ)
    → IsUnderWay does a (drive_state_of left sink stage steps) count old → GivesPacket left left' old new packet
    → IsCutShort sink sink' (IsAllowed (does stage packet) (refuses stage (Some packet)) steps steps') →
    count < most_packets
    → IsCutOff does ends refuses a (drive_state_of left' sink' stage' steps')
packet_cut does ends refuses a left left' sink sink' stage stage' steps steps' count old new packet way gives cut few =
    let here = packet_at count way.taken packet new way.packets gives.long gives.sync in
    let prefix = prefix_of count way.taken (packet ++ new) way.packets in
    record {
      bytes = way.taken ++ (packet ++ new);
      count = count;
      read = read_to_packet a.left left left' way.taken old new packet way.read gives;
      place = record {
        within = prefix.1;
        few = omega (arith, few);
        fewer = λ h. few;
        end = λ e. absurd
            (omega (arith, e, here.1));
      };
      mid = drive_state_of left sink stage steps;
      passed = subst (λ (ps : List (List ℕ)). PassesPackets does a ps (drive_state_of left sink stage steps))
          (sym prefix.0)
          way.passed;
      cut = subst (λ (p : Option (List ℕ)). IsCutShort sink sink' (IsAllowedAt does ends refuses stage p steps steps'))
          (sym here.0) cut;
    }

-- a write failed at the end
pub end_cut : {S F : Type 0} (does : S → List ℕ → S → List ℕ → ℕ → Type 0) (ends : S → S → List ℕ → ℕ → Type 0)
    (refuses : S → Option (List ℕ) → F → S → List ℕ → ℕ → Type 0) (a : DriveState S)
    (left left' : Option (List ℕ)) (sink sink' : SinkState) (stage stage' : S) (steps steps' count : ℕ)
    (old new : List ℕ)
    → IsUnderWay does a (drive_state_of left sink stage steps) count old → GivesNone left left' old new
    → IsCutShort sink sink' (IsAllowed (ends stage) (refuses stage None) steps steps') → count ≤ most_packets
    → IsCutOff does ends refuses a (drive_state_of left' sink' stage' steps')
end_cut does ends refuses a left left' sink sink' stage stage' steps steps' count old new way gives cut few =
    let all = all_of count way.taken way.packets in
    record {
      bytes = way.taken;
      count = count;
      read = subst (Consumes a.left left') (append-nil way.taken)
          (reads_on a.left left left' way.taken old [] way.read gives.read);
      place = record {
        within = omega (arith, all.2);
        few = few;
        fewer = λ h. absurd (omega (arith, h, all.2));
        end = λ e. (gives.end, none_broken count way.taken way.packets, way.packets.long);
      };
      mid = drive_state_of left sink stage steps;
      passed = subst (λ (ps : List (List ℕ)).
          PassesPackets does a ps (drive_state_of left sink stage steps)) (sym all.0) way.passed;
      cut = subst (λ (p : Option (List ℕ)). IsCutShort sink sink' (IsAllowedAt does ends refuses stage p steps steps'))
          (sym all.1) cut;
    }

-- more bytes stand after the most packets
too_many : {S : Type 0} (does : S → List ℕ → S → List ℕ → ℕ → Type 0) (a : DriveState S)
    (left left' : Option (List ℕ)) (sink : SinkState) (stage : S) (steps : ℕ) (old more : List ℕ)
    → IsUnderWay does a (drive_state_of left sink stage steps) most_packets old → ReadsMore left left' old more →
    0 < length more
    → IsTooLong does a (drive_state_of left' sink stage steps)
too_many does a left left' sink stage steps old more way reads some =
    let prefix = prefix_of most_packets way.taken more way.packets in
    record {
      bytes = way.taken ++ more;
      read = reads_on a.left left left' way.taken old more way.read reads;
      enough = prefix.1;
      longer = omega (arith, way.packets.long, length-append way.taken more, some);
      passed = subst (λ (ps : List (List ℕ)). PassesPackets does a ps (drive_state_of left' sink stage steps))
          (sym prefix.0)
          way.passed;
    }

pub packet_too_many : {S : Type 0} (does : S → List ℕ → S → List ℕ → ℕ → Type 0) (a : DriveState S)
    (left left' : Option (List ℕ)) (sink : SinkState) (stage : S) (steps : ℕ) (old new packet : List ℕ)
    → IsUnderWay does a (drive_state_of left sink stage steps) most_packets old → GivesPacket left left' old new packet
    → IsTooLong does a (drive_state_of left' sink stage steps)
packet_too_many does a left left' sink stage steps old new packet way gives =
    too_many does a left left' sink stage steps old (packet ++ new) way gives.read
    (omega (arith, length-append packet new, gives.long))

some_left : (rest : List ℕ) (cause : BreakCause) → IsWaitingPacket rest (Err cause) → 0 < length rest
some_left rest Torn takes = takes.0
some_left rest NoSync takes = omega (arith, takes.0)

pub break_too_many : {S : Type 0} (does : S → List ℕ → S → List ℕ → ℕ → Type 0) (a : DriveState S)
    (left left' : Option (List ℕ)) (sink : SinkState) (stage : S) (steps : ℕ) (old : List ℕ) (cause : BreakCause)
    → IsUnderWay does a (drive_state_of left sink stage steps) most_packets old → IsBrokenStream left left' old cause
    → IsTooLong does a (drive_state_of left' sink stage steps)
break_too_many does a left left' sink stage steps old cause way found =
    too_many does a left left' sink stage steps old found.left way found.read (some_left found.left cause found.broken)

-- the stage stopped at a packet
pub packet_stopped : {S F : Type 0} (does : S → List ℕ → S → List ℕ → ℕ → Type 0) (ends : S → S → List ℕ → ℕ → Type 0)
    (refuses : S → Option (List ℕ) → F → S → List ℕ → ℕ → Type 0) (a : DriveState S)
    (left left' : Option (List ℕ)) (sink sink' : SinkState) (stage stage' : S) (steps steps' count : ℕ)
    (old new packet : List ℕ)
    (result : Result (Unit {0}) (StageFault F)) (fault : StageFault F)
    → IsUnderWay does a (drive_state_of left sink stage steps) count old → GivesPacket left left' old new packet →
    result ≡ Err fault
    → ((f : F) → result ≡ Err (StageRefused f) →
    HasGrown sink sink' steps steps' (refuses stage (Some packet) f stage'))
    → (result ≡ Err StageWrite →
    IsCutShort sink sink' (IsAllowed (does stage packet) (refuses stage (Some packet)) steps steps')) →
    count < most_packets
    → DriveOutcome does ends refuses a (drive_state_of left' sink' stage' steps') (Err (stopped_by fault))
packet_stopped does ends refuses a left left' sink sink' stage stage' steps steps' count old new packet result
    StageWrite way gives is
    refused cut few =
    inl (packet_cut does ends refuses a left left' sink sink' stage stage' steps steps' count old new packet way gives
    (cut is) few)
packet_stopped does ends refuses a left left' sink sink' stage stage' steps steps' count old new packet result
    (StageRefused f) way
    gives is refused cut few =
    packet_refused does refuses a left left' sink sink' stage stage' steps steps' count old new packet f way gives
    (refused f is) few

-- the stage took the end, or stopped there
pub all_closed : {S F : Type 0} (does : S → List ℕ → S → List ℕ → ℕ → Type 0) (ends : S → S → List ℕ → ℕ → Type 0)
    (refuses : S → Option (List ℕ) → F → S → List ℕ → ℕ → Type 0) (a : DriveState S)
    (left left' : Option (List ℕ)) (sink sink' : SinkState) (stage stage' : S) (steps steps' count : ℕ)
    (old new : List ℕ) (result : Result ℕ (DriveFault F))
    → IsUnderWay does a (drive_state_of left sink stage steps) count old → GivesNone left left' old new
    → IsStageEnd ends refuses sink sink' stage stage' steps steps' count result → count ≤ most_packets
    → DriveOutcome does ends refuses a (drive_state_of left' sink' stage' steps') result
all_closed does ends refuses a left left' sink sink' stage stage' steps steps' count old new (Ok n) way gives closed
    few =
    subst (λ (k : ℕ). IsWhole does ends a (drive_state_of left' sink' stage' steps') k) (sym closed.0)
    (all_driven does ends a left left' sink sink' stage stage' steps steps' count old new way gives closed.1 few)
all_closed does ends refuses a left left' sink sink' stage stage' steps steps' count old new (Err (Broken found)) way
    gives closed few =
    absurd closed
all_closed does ends refuses a left left' sink sink' stage stage' steps steps' count old new (Err TooLong) way gives
    closed few =
    absurd closed
all_closed does ends refuses a left left' sink sink' stage stage' steps steps' count old new (Err ReadFault) way gives
    closed few =
    absurd closed
all_closed does ends refuses a left left' sink sink' stage stage' steps steps' count old new (Err WriteFault) way gives
    closed few =
    inl (end_cut does ends refuses a left left' sink sink' stage stage' steps steps' count old new way gives closed
    few)
all_closed does ends refuses a left left' sink sink' stage stage' steps steps' count old new (Err (Refused fault)) way
    gives closed few =
    end_refused does refuses a left left' sink sink' stage stage' steps steps' count old new fault way gives closed few

-- no packet came
pub not_fed : {S F : Type 0} (does : S → List ℕ → S → List ℕ → ℕ → Type 0) (ends : S → S → List ℕ → ℕ → Type 0)
    (refuses : S → Option (List ℕ) → F → S → List ℕ → ℕ → Type 0) (a : DriveState S)
    (left left' : Option (List ℕ)) (sink : SinkState) (stage : S) (steps count : ℕ) (old : List ℕ) (fault : FeedFault)
    → IsUnderWay does a (drive_state_of left sink stage steps) count old → FeedStop left left' old fault →
    (fault ≡ Write → sink.held ≡ None) → count < most_packets
    → DriveOutcome does ends refuses a (drive_state_of left' sink stage steps) (Err (broken_by count fault))
not_fed does ends refuses a left left' sink stage steps count old Read way stops told few =
    (count, some_went does a left left' sink stage steps count old way stops (omega (arith, few)))
not_fed does ends refuses a left left' sink stage steps count old Write way stops told few =
    inr (write_failed does a left left' sink stage steps count old way stops (told refl) (omega (arith, few)))
not_fed does ends refuses a left left' sink stage steps count old (Break cause) way stops told few =
    stream_broken does a left left' sink stage steps count old cause way stops few

-- nor the end, after the most packets
pub not_ended : {S F : Type 0} (does : S → List ℕ → S → List ℕ → ℕ → Type 0) (ends : S → S → List ℕ → ℕ → Type 0)
    (refuses : S → Option (List ℕ) → F → S → List ℕ → ℕ → Type 0) (a : DriveState S)
    (left left' : Option (List ℕ)) (sink : SinkState) (stage : S) (steps : ℕ) (old : List ℕ) (fault : FeedFault)
    → IsUnderWay does a (drive_state_of left sink stage steps) most_packets old → FeedStop left left' old fault →
    (fault ≡ Write → sink.held ≡ None)
    → DriveOutcome does ends refuses a (drive_state_of left' sink stage steps) (Err (overrun_by fault))
not_ended does ends refuses a left left' sink stage steps old Read way stops told =
    (most_packets, some_went does a left left' sink stage steps most_packets old way stops (omega arith))
not_ended does ends refuses a left left' sink stage steps old Write way stops told =
    inr (write_failed does a left left' sink stage steps most_packets old way stops (told refl) (omega arith))
not_ended does ends refuses a left left' sink stage steps old (Break cause) way stops told =
    break_too_many does a left left' sink stage steps old cause way stops

-- the same under another name of the count
pub recounted : {S : Type 0} (does : S → List ℕ → S → List ℕ → ℕ → Type 0) (a b : DriveState S) (count other : ℕ)
    (waiting : List ℕ)
    → IsUnderWay does a b count waiting → count ≡ other → IsUnderWay does a b other waiting
recounted does a b count other waiting way same = subst (λ (n : ℕ). IsUnderWay does a b n waiting) same way
