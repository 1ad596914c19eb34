-- What a drive takes of all the bytes of a stream.
use Rattle.std.proofs.Common.{◌≡◌, ℕ, ◌+◌, ◌-◌, ◌*◌, ◌^◌, ◌<◌, ◌≤◌, List, [], ◌++◌, length, take, get_or, cond, min}
use Rattle.std.proofs.Common.{le_trans, lt_of_lt_of_le, Bool, length-append, nat_lt}
use Rattle.std.proofs.Common.{refl, sym, ap, subst, ◌∙◌, arith, append-nil, lt-ltb, le-ltb, inl, inr}
use Rattle.std.specs.Prelude.{Option, None, Some, Result, Ok, Err, slice_get}
use Rattle.std.specs.Io.KnownBytes.{Consumes, IsAtEnd}
use Rattle.std.proofs.lemmas.Bool.{cases_lt}
use Rattle.std.proofs.lemmas.List.{take_all, take-take, length-take, get_or-take}
use Rattle.std.proofs.lemmas.Option.{slice_get-get_or}
use Rattle.sd_ports.specs.Bytes.{AppendsPrefix}
use Rattle.sd_engine.specs.Stream.{packets_of, break_of}
use Rattle.sd_engine.specs.Stage.{HasGrown, IsCutShort}
use Rattle.sd_engine.specs.Driving.{DriveState, most_packets, PassesPackets, ChainToEnd, IsPlace, ChainToRefusal}
use Rattle.sd_engine.specs.Driving.{IsAllowedAt, IsStopped, DriveOutcome}
use Rattle.sd_engine.specs.Taken.{StreamEnd, Whole, Breaks, RunsOn, packets_taken, stream_end_by, end_of, AreBytesLeft}
use Rattle.sd_engine.specs.Taken.{IsReachedPacket, IsOver}
use Rattle.sd_engine.specs.declared.fault.StreamBreak.{StreamBreak}
use Rattle.sd_engine.specs.declared.fault.BreakCause.{BreakCause}
use Rattle.sd_engine.specs.declared.fault.BreakCause.TheVariants.{Torn, NoSync}
use Rattle.sd_engine.specs.declared.driver.DriveFault.{DriveFault}
use Rattle.sd_engine.specs.declared.driver.DriveFault.TheVariants.{Broken, TooLong, ReadFault, WriteFault, Refused}
use Rattle.sd_engine.proofs.Longer.{first_stay, packets_stay, break_stays}

-- bytes that come after those that were read, where all that was left is told
record Rest (left now : Option (List ℕ)) (bytes : List ℕ) : Type 0 where
  rest : List ℕ
  all : AreBytesLeft left (bytes ++ rest)
  none : IsAtEnd now → rest ≡ []

rest_of : (left now : Option (List ℕ)) (bytes : List ℕ) → Consumes left now bytes → Rest left now bytes
rest_of None now bytes h = record { rest = []; all = tt; none = λ e. refl }
rest_of (Some xs) None bytes h = absurd h
rest_of (Some xs) (Some ys) bytes h = record { rest = ys; all = h; none = λ e. e }

-- at the end they are all
all_read : (left now : Option (List ℕ)) (bytes : List ℕ) → Consumes left now bytes → IsAtEnd now →
    AreBytesLeft left bytes
all_read left now bytes h end =
    let r = rest_of left now bytes h in
    subst (AreBytesLeft left) (ap (λ (xs : List ℕ). bytes ++ xs) (r.none end) ∙ append-nil bytes) r.all

-- no more packets than the most are there, and so all are taken
all_taken : (bytes : List ℕ) → length (packets_of bytes) ≤ most_packets → packets_taken bytes ≡ packets_of bytes
unfolding packets_taken
all_taken bytes few = take_all most_packets (packets_of bytes) few

min_left : (a b : ℕ) → min a b ≤ a
min_left a b = omega arith

min_right : (a b : ℕ) → min a b ≤ b
min_right a b = omega arith

longer_by : (bytes more : List ℕ) → length bytes ≤ length (bytes ++ more)
longer_by bytes more = omega (arith, length-append bytes more)

-- what stands there where no fewer packets than the most are there
abbrev late : List ℕ → StreamEnd
late bytes = cond (nat_lt (188 * most_packets) (length bytes)) RunsOn Whole

-- how a stream ends that breaks, or not, before the most packets
ends_early : (bytes : List ℕ) → length (packets_of bytes) < most_packets → end_of bytes ≡ stream_end_by (break_of bytes)
unfolding end_of
ends_early bytes few =
    ap (λ (b : Bool). cond b (stream_end_by (break_of bytes)) (late bytes))
    (lt-ltb (length (packets_of bytes)) most_packets few)

ends_late : (bytes : List ℕ) → most_packets ≤ length (packets_of bytes) → end_of bytes ≡ late bytes
unfolding end_of
ends_late bytes many =
    ap (λ (b : Bool). cond b (stream_end_by (break_of bytes)) (late bytes))
    (le-ltb (length (packets_of bytes)) most_packets many)

runs_on : (bytes : List ℕ) → most_packets ≤ length (packets_of bytes) → 188 * most_packets < length bytes → end_of bytes
    ≡ RunsOn
runs_on bytes many long =
    ends_late bytes many ∙ ap (λ (b : Bool). cond b RunsOn Whole) (lt-ltb (188 * most_packets) (length bytes) long)

pub is_whole : (bytes : List ℕ) → break_of bytes ≡ None → length bytes ≤ 188 * most_packets → end_of bytes ≡ Whole
is_whole bytes unbroken short = elim (cases_lt (length (packets_of bytes)) most_packets) [
  | inl few ↦ ends_early bytes few ∙ ap stream_end_by unbroken
  | inr many ↦
      ends_late bytes many ∙ ap (λ (b : Bool). cond b RunsOn Whole) (le-ltb (188 * most_packets) (length bytes) short)
]

-- the first packets that are taken are those of what was read
first_taken : (k : ℕ) (bytes more : List ℕ) → k ≤ length (packets_of bytes) → k ≤ most_packets →
    take k (packets_taken (bytes ++ more)) ≡ take k (packets_of bytes)
unfolding packets_taken
first_taken k bytes more some few =
    take-take k most_packets (packets_of (bytes ++ more)) few ∙ first_stay k bytes more some

-- and there are as many at least
as_many : (k : ℕ) (bytes more : List ℕ) → k ≤ length (packets_of bytes) → k ≤ most_packets →
    k ≤ length (packets_taken (bytes ++ more))
as_many k bytes more some few =
    omega (
      arith,
      some,
      ap (λ (ps : List (List ℕ)). length ps) (first_taken k bytes more some few),
      length-take k (packets_taken (bytes ++ more)),
      length-take k (packets_of bytes),
    )

-- a packet of what was read is one that is taken
same_packet : (k : ℕ) (bytes more : List ℕ) → k < length (packets_of bytes) → k < most_packets →
    slice_get (packets_taken (bytes ++ more)) k ≡ slice_get (packets_of bytes) k
same_packet k bytes more some few =
    let taken = packets_taken (bytes ++ more) in
    let inside : k < length taken = omega (arith, as_many (k + 1) bytes more (omega (arith, some)) (omega (arith, few)))
    in
    slice_get-get_or taken k [] inside
    ∙ ap (λ (p : List ℕ). Some p)
    (sym (get_or-take (k + 1) taken k [] (omega arith))
    ∙ ap (λ (ps : List (List ℕ)). get_or ps k []) (first_taken (k + 1) bytes more (omega (arith, some))
    (omega (arith, few)))
    ∙ get_or-take (k + 1) (packets_of bytes) k [] (omega arith))
    ∙ sym (slice_get-get_or (packets_of bytes) k [] some)

-- a place in what was read is one in the stream
record IsSamePlace (bytes all : List ℕ) (count : ℕ) : Type 0 where
  at : IsReachedPacket all count
  first : take count (packets_taken all) ≡ take count (packets_of bytes)
  here : slice_get (packets_taken all) count ≡ slice_get (packets_of bytes) count

at_packet : (bytes more : List ℕ) (count : ℕ) → count < length (packets_of bytes) → count < most_packets →
    IsSamePlace bytes (bytes ++ more) count
at_packet bytes more count some few =
    let inside = as_many (count + 1) bytes more (omega (arith, some)) (omega (arith, few)) in
    record {
      at = record { within = omega (arith, inside); end = λ e. absurd (omega (arith, e, inside)) };
      first = first_taken count bytes more (omega (arith, some)) (omega (arith, few));
      here = same_packet count bytes more some few;
    }

at_end : (bytes : List ℕ) (count : ℕ) → count ≡ length (packets_of bytes) → count ≤ most_packets → break_of bytes
    ≡ None →
    length bytes ≡ 188 * count → IsSamePlace bytes bytes count
at_end bytes count all few unbroken long =
    let taken = all_taken bytes (omega (arith, all, few)) in
    record {
      at = record {
        within = omega (arith, all, ap (λ (ps : List (List ℕ)). length ps) taken);
        end = λ e. is_whole bytes unbroken (omega (arith, long, few));
      };
      first = ap (take count) taken;
      here = ap (λ (ps : List (List ℕ)). slice_get ps count) taken;
    }

-- the bytes of the stream in which a place of what was read stands
record Placed (before : Option (List ℕ)) (bytes : List ℕ) (count : ℕ) : Type 0 where
  all : List ℕ
  left : AreBytesLeft before all
  same : IsSamePlace bytes all count

placed : (left now : Option (List ℕ)) (bytes : List ℕ) (count : ℕ) → Consumes left now bytes → IsPlace now bytes count →
    Placed left bytes count
placed left now bytes count read place = elim (cases_lt count (length (packets_of bytes))) [
  | inl some ↦
      let r = rest_of left now bytes read in
      record { all = bytes ++ r.rest; left = r.all; same = at_packet bytes r.rest count some (place.fewer some) }
  | inr none ↦
      let all : count ≡ length (packets_of bytes) = omega (arith, none, place.within) in
      let end = place.end all in
      record {
        all = bytes;
        left = all_read left now bytes read end.0;
        same = at_end bytes count all place.few end.1 end.2;
      }
]

-- the bytes of a stream that breaks
record Broke (before : Option (List ℕ)) (bytes : List ℕ) (found : StreamBreak) : Type 0 where
  all : List ℕ
  left : AreBytesLeft before all
  end : end_of all ≡ Breaks found
  taken : packets_taken all ≡ packets_of bytes

breaks_at : (all bytes : List ℕ) (found : StreamBreak) → packets_of all ≡ packets_of bytes → break_of all ≡ Some found →
    length (packets_of bytes) < most_packets → (end_of all ≡ Breaks found) × (packets_taken all ≡ packets_of bytes)
breaks_at all bytes found same broken few =
    let count = ap (λ (ps : List (List ℕ)). length ps) same in (
      ends_early all (omega (arith, count, few)) ∙ ap stream_end_by broken,
      all_taken all (omega (arith, count, few)) ∙ same,
    )

broke : (left now : Option (List ℕ)) (bytes : List ℕ) (packet : ℕ) (cause : BreakCause) → Consumes left now bytes →
    (cause ≡ Torn → IsAtEnd now) → break_of bytes ≡ Some (record { packet = packet; cause = cause }) →
    length (packets_of bytes) < most_packets → Broke left bytes (record { packet = packet; cause = cause })
broke left now bytes packet Torn read end broken few =
    let here = breaks_at bytes bytes (record { packet = packet; cause = Torn }) refl broken few in
    record { all = bytes; left = all_read left now bytes read (end refl); end = here.0; taken = here.1 }
broke left now bytes packet NoSync read end broken few =
    let r = rest_of left now bytes read in
    let here = breaks_at (bytes ++ r.rest) bytes (record { packet = packet; cause = NoSync })
    (packets_stay packet bytes r.rest broken) (break_stays packet bytes r.rest broken) few in
    record { all = bytes ++ r.rest; left = r.all; end = here.0; taken = here.1 }

-- how many packets are taken
pub least_of : (bytes : List ℕ) → (length (packets_taken bytes) ≤ length (packets_of bytes))
    × (length (packets_taken bytes) ≤ most_packets)
unfolding packets_taken
least_of bytes =
    let n = length-take most_packets (packets_of bytes) in (
      subst (λ (k : ℕ). k ≤ length (packets_of bytes)) (sym n) (min_right most_packets (length (packets_of bytes))),
      subst (λ (k : ℕ). k ≤ most_packets) (sym n) (min_left most_packets (length (packets_of bytes))),
    )

-- the most packets went through, and more bytes stand after them
too_long : {S : Type 0} (does : S → List ℕ → S → List ℕ → ℕ → Type 0) (a b : DriveState S) (bytes more : List ℕ) →
    take most_packets (packets_taken (bytes ++ more)) ≡ take most_packets (packets_of bytes) →
    most_packets ≤ length (packets_taken (bytes ++ more)) → 188 * most_packets < length bytes →
    PassesPackets does a (take most_packets (packets_of bytes)) b →
    (end_of (bytes ++ more) ≡ RunsOn) × PassesPackets does a (packets_taken (bytes ++ more)) b
too_long does a b bytes more first many longer passed =
    let all = bytes ++ more in
    let least = least_of all in
    let same : packets_taken all ≡ take most_packets (packets_of bytes) =
    sym (take_all most_packets (packets_taken all) least.1)
    ∙ first in (
      runs_on all (le_trans many least.0) (lt_of_lt_of_le longer (longer_by bytes more)),
      subst (λ (ps : List (List ℕ)). PassesPackets does a ps b) (sym same) passed,
    )

-- some first packets of a stream, whose bytes are all that was left, went through
record SomePassed {S : Type 0} (does : S → List ℕ → S → List ℕ → ℕ → Type 0) (a b : DriveState S) (count : ℕ) : Type 0
  where
    bytes : List ℕ
    left : AreBytesLeft a.left bytes
    within : count ≤ length (packets_taken bytes)
    passed : PassesPackets does a (take count (packets_taken bytes)) b

some_passed : {S : Type 0} (does : S → List ℕ → S → List ℕ → ℕ → Type 0) (a b : DriveState S) (count : ℕ) →
    IsStopped does a b count → SomePassed does a b count
some_passed does a b count h =
    let r = rest_of a.left b.left h.bytes h.read in
    record {
      bytes = h.bytes ++ r.rest;
      left = r.all;
      within = as_many count h.bytes r.rest h.enough h.few;
      passed = subst (λ (ps : List (List ℕ)). PassesPackets does a ps b)
          (sym (first_taken count h.bytes r.rest h.enough h.few)) h.passed;
    }

-- A drive is one of a stream whose bytes are all that was left of the source.
pub is_over : {S F : Type 0} (does : S → List ℕ → S → List ℕ → ℕ → Type 0) (ends : S → S → List ℕ → ℕ → Type 0)
    (refuses : S → Option (List ℕ) → F → S → List ℕ → ℕ →
    Type 0) (a b : DriveState S) (result : Result ℕ (DriveFault F))
    → DriveOutcome does ends refuses a b result → IsOver does ends refuses a b result
is_over does ends refuses a b (Ok count) h =
    let taken = all_taken h.bytes (omega (arith, h.counted, h.few)) in
    record {
      bytes = h.bytes;
      left = all_read a.left b.left h.bytes h.read h.end;
      drives = (
        is_whole h.bytes h.unbroken (omega (arith, h.long, h.few)),
        h.counted ∙ sym (ap (λ (ps : List (List ℕ)). length ps) taken),
        subst (λ (ps : List (List ℕ)). HasGrown a.sink b.sink a.steps b.steps (ChainToEnd does ends a.stage ps b.stage))
            (sym taken) h.passed,
      );
    }
is_over does ends refuses a b (Err (Broken found)) h =
    let o = broke a.left b.left h.bytes found.packet found.cause h.read h.end h.broken (omega (arith, h.counted, h.few))
    in
    record {
      bytes = o.all;
      left = o.left;
      drives = (o.end, subst (λ (ps : List (List ℕ)). PassesPackets does a ps b) (sym o.taken) h.passed);
    }
is_over does ends refuses a b (Err TooLong) h =
    let r = rest_of a.left b.left h.bytes h.read in
    let first = first_taken most_packets h.bytes r.rest h.enough (omega arith) in
    let many = as_many most_packets h.bytes r.rest h.enough (omega arith) in
    record {
      bytes = h.bytes ++ r.rest;
      left = r.all;
      drives = too_long does a b h.bytes r.rest first many h.longer h.passed;
    }
is_over does ends refuses a b (Err ReadFault) (count, h) =
    let part = some_passed does a b count h in
    record { bytes = part.bytes; left = part.left; drives = (count, part.within, part.passed) }
is_over does ends refuses a b (Err WriteFault) (inl h) =
    let o = placed a.left b.left h.bytes h.count h.read h.place in
    record {
      bytes = o.all;
      left = o.left;
      drives = inl (record {
        count = h.count;
        place = o.same.at;
        mid = h.mid;
        passed = subst (λ (ps : List (List ℕ)). PassesPackets does a ps h.mid) (sym o.same.first) h.passed;
        cut = subst (λ (p : Option (List ℕ)). IsCutShort h.mid.sink b.sink
            (IsAllowedAt does ends refuses h.mid.stage p h.mid.steps b.steps)) (sym o.same.here) h.cut;
      });
    }
is_over does ends refuses a b (Err WriteFault) (inr h) =
    let part = some_passed does a b h.count h.stopped in
    record {
      bytes = part.bytes;
      left = part.left;
      drives = inr (record { count = h.count; untold = h.untold; within = part.within; passed = part.passed });
    }
is_over does ends refuses a b (Err (Refused fault)) h =
    let o = placed a.left b.left h.bytes h.count h.read h.place in
    record {
      bytes = o.all;
      left = o.left;
      drives = record {
        count = h.count;
        place = o.same.at;
        passed =
            subst (λ (p : Option (List ℕ)). HasGrown a.sink b.sink a.steps b.steps
            (ChainToRefusal does refuses a.stage (take h.count (packets_taken o.all)) p fault b.stage))
            (sym o.same.here)
            (subst (λ (ps : List (List ℕ)). HasGrown a.sink b.sink a.steps b.steps
            (ChainToRefusal does refuses a.stage ps (slice_get (packets_of h.bytes) h.count) fault b.stage))
            (sym o.same.first) h.passed);
      };
    }

-- the packets that are taken, or some first ones, can be counted
pub few_taken : (k : ℕ) (bytes : List ℕ) → length (take k (packets_taken bytes)) ≤ 2 ^ 64 - 1
few_taken k bytes = few_of (packets_taken bytes) k (least_of bytes).1
  where
    few_of : (packets : List (List ℕ)) (k : ℕ) → length packets ≤ most_packets → length (take k packets) ≤ 2 ^ 64 - 1
    few_of packets k few = omega (arith, few, length-take k packets)

pub all_few : (bytes : List ℕ) → length (packets_taken bytes) ≤ 2 ^ 64 - 1
all_few bytes = let few = (least_of bytes).1 in omega (arith, few)

-- some bytes are left
pub some_left : (left : Option (List ℕ)) → (bytes : List ℕ) × AreBytesLeft left bytes
some_left None = ([], tt)
some_left (Some bytes) = (bytes, refl)

-- of a sink that doesn't tell what it holds, nothing is claimed
pub any_prefix : (before now : Option (List ℕ)) (bytes : List ℕ) → before ≡ None → AppendsPrefix before now bytes
any_prefix before now bytes untold =
    subst (λ (held : Option (List ℕ)). AppendsPrefix held now bytes) (sym untold) ([], (bytes, refl), tt)
