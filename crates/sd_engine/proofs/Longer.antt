-- What stays of the packets and the break of a stream where more bytes come after it.
use Rattle.std.proofs.Common.{◌≡◌, ◌≢◌, ℕ, zero, suc, ◌+◌, ◌<◌, ◌≤◌, List, [], ◌∷◌, ◌++◌, length, take, drop, refl, sym}
use Rattle.std.proofs.Common.{ap, subst, ◌∙◌, arith, inl, inr}
use Rattle.std.proofs.lemmas.List.{get_or_append_left}
use Rattle.std.proofs.Common.{length-append}
use Rattle.std.specs.Prelude.{Option, Some, None, slice_index}
use Rattle.std.proofs.lemmas.Bool.{cases_lt, cases_eq}
use Rattle.std.proofs.lemmas.List.{take-append-le, drop-append-le}
use Rattle.sd_engine.specs.Stream.{packets_of, break_after, break_of, torn, no_sync}
use Rattle.sd_engine.specs.declared.fault.StreamBreak.{StreamBreak}
use Rattle.sd_engine.specs.declared.fault.BreakCause.{BreakCause}
use Rattle.sd_engine.specs.declared.fault.BreakCause.TheVariants.{Torn, NoSync}
use Rattle.sd_engine.proofs.Walking.{no_piece, packets_more, break_after_more, torn_here, no_sync_here, none_at_end}

-- what bytes start with: a packet, bytes of a packet without the sync byte, or fewer
pub data Start (bytes : List ℕ) : Type 0 where
  packet : 188 ≤ length bytes → slice_index bytes 0 ≡ 0x47 → Start bytes
  other : 188 ≤ length bytes → slice_index bytes 0 ≢ 0x47 → Start bytes
  short : length bytes < 188 → Start bytes

start_of : (bytes : List ℕ) → Start bytes
start_of bytes = elim (cases_lt (length bytes) 188) [
  | inl few ↦ short few
  | inr long ↦ elim (cases_eq (slice_index bytes 0) 0x47) [
    | inl sync ↦ packet long sync
    | inr apart ↦ other long apart
  ]
]

-- with more bytes after them the first 188 are the same
begins_same : (bytes more : List ℕ) → 188 ≤ length bytes → slice_index (bytes ++ more) 0 ≡ slice_index bytes 0
begins_same bytes more long = get_or_append_left bytes more 0 0 (omega (arith, long))

longer : (bytes more : List ℕ) → 188 ≤ length bytes → 188 ≤ length (bytes ++ more)
longer bytes more long = omega (arith, long, length-append bytes more)

-- a packet that stands first stays there
packet_stays : (bytes more : List ℕ) → 188 ≤ length bytes → slice_index bytes 0 ≡ 0x47 →
    packets_of (bytes ++ more) ≡ take 188 bytes ∷ packets_of (drop 188 bytes ++ more)
packet_stays bytes more long sync =
    packets_more (bytes ++ more) (longer bytes more long) (begins_same bytes more long ∙ sync)
    ∙ (ap (λ (p : List ℕ). p ∷ packets_of (drop 188 (bytes ++ more))) (take-append-le 188 bytes more long)
    ∙ ap (λ (r : List ℕ). take 188 bytes ∷ packets_of r) (drop-append-le 188 bytes more long))

none_there : (k : ℕ) (packets : List (List ℕ)) → suc k ≤ length packets → packets ≡ [] → ⊥
none_there k packets some none = absurd (omega (arith, some, ap (λ (ps : List (List ℕ)). length ps) none))

-- the first packets stay
pub first_stay : (k : ℕ) (bytes more : List ℕ) → k ≤ length (packets_of bytes) →
    take k (packets_of (bytes ++ more)) ≡ take k (packets_of bytes)
first_stay zero bytes more some = refl
first_stay (suc k) bytes more some = elim (start_of bytes) [
  | packet long sync ↦
      let here = packets_more bytes long sync in
      ap (take (suc k)) (packet_stays bytes more long sync)
      ∙ (ap (λ (ps : List (List ℕ)). take 188 bytes ∷ ps)
      (first_stay k (drop 188 bytes) more (omega (arith, some, ap (λ (ps : List (List ℕ)). length ps) here)))
      ∙ sym (ap (take (suc k)) here))
  | other long apart ↦ absurd (none_there k (packets_of bytes) some (no_sync_here bytes 0 long apart).0)
  | short few ↦ absurd (none_there k (packets_of bytes) some (no_piece bytes few))
]

-- the break is at a packet without the sync byte
abbrev IsNoSync : Option StreamBreak → Type 0
IsNoSync None = ⊥
IsNoSync (Some found) = by_cause found.cause
  where
    by_cause : BreakCause → Type 0
    by_cause Torn = ⊥
    by_cause NoSync = Unit {0}

torn_apart : (b : Option StreamBreak) (n k : ℕ) → b ≡ Some (torn n) → b ≡ Some (no_sync k) → ⊥
torn_apart b n k e f = subst IsNoSync e (subst IsNoSync (sym f) tt)

none_apart : (b : Option StreamBreak) (k : ℕ) → b ≡ None → b ≡ Some (no_sync k) → ⊥
none_apart b k e f = subst IsNoSync e (subst IsNoSync (sym f) tt)

short_apart : (n k : ℕ) (bytes : List ℕ) → length bytes < 188 → break_after n bytes ≡ Some (no_sync k) → ⊥
short_apart n k [] few is = none_apart (break_after n []) k (none_at_end n) is
short_apart n k (byte ∷ bytes) few is =
    torn_apart (break_after n (byte ∷ bytes)) n k (torn_here (byte ∷ bytes) n (omega arith) few).1 is

-- the packets and the break of bytes stay where more come after them
abbrev Stays : ℕ → ℕ → List ℕ → List ℕ → Type 0
Stays n k bytes more = (packets_of (bytes ++ more) ≡ packets_of bytes)
    × (break_after n (bytes ++ more) ≡ Some (no_sync k))

-- where no packet stands first
other_stays : (n k : ℕ) (bytes more : List ℕ) → break_after n bytes ≡ Some (no_sync k) → 188 ≤ length bytes →
    slice_index bytes 0 ≢ 0x47 → Stays n k bytes more
other_stays n k bytes more is long apart =
    let here = no_sync_here bytes n long apart in
    let there = no_sync_here (bytes ++ more) n (longer bytes more long)
    (λ e. apart (sym (begins_same bytes more long) ∙ e)) in
    (there.0 ∙ sym here.0, there.1 ∙ sym here.1 ∙ is)

-- where one does, and so it is of those after it
then_stays : (n k : ℕ) (bytes more : List ℕ) → 188 ≤ length bytes → slice_index bytes 0 ≡ 0x47 →
    Stays (n + 1) k (drop 188 bytes) more → Stays n k bytes more
then_stays n k bytes more long sync then = (
  packet_stays bytes more long sync
      ∙ (ap (λ (ps : List (List ℕ)). take 188 bytes ∷ ps) then.0 ∙ sym (packets_more bytes long sync)),
  break_after_more n (bytes ++ more) (longer bytes more long) (begins_same bytes more long ∙ sync)
      ∙ (ap (break_after (n + 1)) (drop-append-le 188 bytes more long) ∙ then.1),
)

-- a break at a packet without the sync byte stays, and no packet comes after it
broken_on : (m n k : ℕ) (bytes more : List ℕ) → length (packets_of bytes) ≤ m → break_after n bytes ≡ Some (no_sync k) →
    Stays n k bytes more
broken_on zero n k bytes more most is = elim (start_of bytes) [
  | packet long sync ↦
      absurd (omega (arith, most, ap (λ (ps : List (List ℕ)). length ps) (packets_more bytes long sync)))
  | other long apart ↦ other_stays n k bytes more is long apart
  | short few ↦ absurd (short_apart n k bytes few is)
]
broken_on (suc m) n k bytes more most is = elim (start_of bytes) [
  | packet long sync ↦
      then_stays n k bytes more long sync
      (broken_on m (n + 1) k (drop 188 bytes) more
      (omega (arith, most, ap (λ (ps : List (List ℕ)). length ps) (packets_more bytes long sync)))
      (sym (break_after_more n bytes long sync) ∙ is))
  | other long apart ↦ other_stays n k bytes more is long apart
  | short few ↦ absurd (short_apart n k bytes few is)
]

pub packets_stay : (k : ℕ) (bytes more : List ℕ) → break_of bytes ≡ Some (no_sync k) → packets_of (bytes ++ more)
    ≡ packets_of bytes
packets_stay k bytes more is = (broken_on (length (packets_of bytes)) 0 k bytes more (omega arith) is).0

pub break_stays : (k : ℕ) (bytes more : List ℕ) → break_of bytes ≡ Some (no_sync k) → break_of (bytes ++ more)
    ≡ Some (no_sync k)
break_stays k bytes more is = (broken_on (length (packets_of bytes)) 0 k bytes more (omega arith) is).1
