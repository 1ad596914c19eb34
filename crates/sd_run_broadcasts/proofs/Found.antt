-- What was found so far of a stream, from one search to the next.
use Rattle.std.proofs.Common.{◌≡◌, ◌<◌, ◌≤◌, ◌+◌, ◌-◌, ◌^◌, ◌∙◌, ℕ, suc, zero, Bool, true, false, List, [], ◌∷◌, ◌++◌}
use Rattle.std.proofs.Common.{length}
use Rattle.std.proofs.Common.{refl, sym, ap, arith, append_assoc, append-nil, length-append}
use Rattle.std.specs.Prelude.{nat_lt, ◌&&◌, ◌||◌, if◌then◌else◌}
use Rattle.std.proofs.lemmas.Bool.{lt-ltb, le-ltb, ltb-true, ltb-false}
use Rattle.sd_base.specs.Types.{Packets}
use Rattle.sd_engine.specs.Cut.{cut_packets, skipped_before, read_from, readable, is_stream_too_long}
use Rattle.sd_engine.specs.Seeking.{MayCome, CutsOff, CutsNone}
use Rattle.sd_run_broadcasts.specs.Found.{HasFound, IsReadable}

-- before the first search
pub found_none : HasFound [] [] [] false 0
found_none = record {
  cuts = λ more may. refl;
  behind = λ more may k.
      let same : length {A = List ℕ} [] + k ≡ k = omega arith in
      let one : skipped_before (length {A = List ℕ} [] + k) zero ([] ++ more) ≡ skipped_before k zero ([] ++ more) =
      ap (λ (n : ℕ). skipped_before n zero more) same in
      omega (arith, one);
  few = λ more may n under. absurd (omega (arith, under));
  low = omega arith;
}

-- what comes behind what was read comes, too, behind what was read before
pub may_both : (b more : List ℕ) (was now : Bool) → (was ≡ true → b ≡ []) → (was ≡ true → now ≡ true) →
    MayCome now more → MayCome was (b ++ more)
may_both b more was now nothing stays may = λ is. rw (nothing is, may (stays is)) refl

-- how many bytes are in no packet before the packet that was just found
pub found_before : (r b w left p more : List ℕ) (s : Packets) (was now : Bool) (passed more_passed : ℕ) →
    HasFound r s w was passed → (was ≡ true → b ≡ []) → (was ≡ true → now ≡ true) → MayCome now more →
    CutsOff (w ++ b) p left now more_passed →
    skipped_before (length s) zero ((r ++ b) ++ more) ≡ passed + more_passed
found_before r b w left p more s was now passed more_passed found nothing stays may off =
    let both = may_both b more was now nothing stays may in
    let same : length s + 0 ≡ length s = omega arith in
    let one : skipped_before (length s) zero ((r ++ b) ++ more)
    ≡ skipped_before (length s + 0) zero (r ++ (b ++ more)) =
    rw (same, append_assoc r b more) refl in
    let two = found.behind (b ++ more) both 0 in
    let three : skipped_before 0 zero (w ++ (b ++ more)) ≡ skipped_before 0 zero ((w ++ b) ++ more) =
    ap (skipped_before 0 zero) (sym (append_assoc w b more)) in
    let four = off.before more may in
    omega (arith, one, two, three, four)

-- what is so of numbers below this one and of this one
few_by : (bytes : List ℕ) (most n : ℕ) (less : Bool) → nat_lt n most ≡ less → n ≤ most →
    (n < most → skipped_before n zero bytes < 2 ^ 64 - 1) → skipped_before most zero bytes < 2 ^ 64 - 1 →
    skipped_before n zero bytes < 2 ^ 64 - 1
few_by bytes most n true e under earlier here = earlier (ltb-true n most e)
few_by bytes most n false e under earlier here =
    let same : n ≡ most = omega (arith, under, ltb-false n most e) in rw same here

-- a packet more
pub found_more : (r b w left p : List ℕ) (s : Packets) (was now : Bool) (passed more_passed : ℕ) →
    HasFound r s w was passed → (was ≡ true → b ≡ []) → (was ≡ true → now ≡ true) →
    CutsOff (w ++ b) p left now more_passed → passed + more_passed < 2 ^ 64 - 1 →
    HasFound (r ++ b) (s ++ p ∷ []) left now (passed + more_passed)
found_more r b w left p s was now passed more_passed found nothing stays off low = record {
  cuts = λ more may.
      let both = may_both b more was now nothing stays may in
      ap cut_packets (append_assoc r b more) ∙ found.cuts (b ++ more) both
      ∙ ap (λ (xs : List ℕ). s ++ cut_packets xs) (sym (append_assoc w b more))
      ∙ ap (λ (ps : Packets). s ++ ps) (off.first more may)
      ∙ sym (append_assoc s (p ∷ []) (cut_packets (left ++ more)));
  behind = λ more may k.
      let both = may_both b more was now nothing stays may in
      let next : length (s ++ p ∷ []) + k ≡ length s + suc k = omega (arith, length-append s (p ∷ [])) in
      let one : skipped_before (length (s ++ p ∷ []) + k) zero ((r ++ b) ++ more)
      ≡ skipped_before (length s + suc k) zero (r ++ (b ++ more)) =
      rw (next, append_assoc r b more) refl in
      let two = found.behind (b ++ more) both (suc k) in
      let three : skipped_before (suc k) zero (w ++ (b ++ more)) ≡ skipped_before (suc k) zero ((w ++ b) ++ more) =
      ap (skipped_before (suc k) zero) (sym (append_assoc w b more)) in
      let four = off.behind more may k in
      omega (arith, one, two, three, four);
  few = λ more may n under.
      let both = may_both b more was now nothing stays may in
      let long : length (s ++ p ∷ []) ≡ length s + 1 = length-append s (p ∷ []) in
      let here = found_before r b w left p more s was now passed more_passed found nothing stays may off in
      few_by ((r ++ b) ++ more) (length s) n (nat_lt n (length s)) refl (omega (arith, under, long))
      (λ less. rw (append_assoc r b more) (found.few (b ++ more) both n less)) (omega (arith, here, low));
  low = low;
}

-- at the end all packets were found
pub found_all : (r b w : List ℕ) (s : Packets) (was : Bool) (passed more_passed : ℕ) →
    HasFound r s w was passed → (was ≡ true → b ≡ []) → CutsNone (w ++ b) more_passed → cut_packets (r ++ b) ≡ s
found_all r b w s was passed more_passed found nothing none =
    found.cuts b nothing ∙ ap (λ (ps : Packets). s ++ ps) none.none ∙ append-nil s

pub found_last : (r b w : List ℕ) (s : Packets) (was : Bool) (passed more_passed : ℕ) →
    HasFound r s w was passed → (was ≡ true → b ≡ []) → CutsNone (w ++ b) more_passed →
    skipped_before (length s) zero (r ++ b) ≡ passed + more_passed
found_last r b w s was passed more_passed found nothing none =
    let same : length s + 0 ≡ length s = omega arith in
    let one : skipped_before (length s) zero (r ++ b) ≡ skipped_before (length s + 0) zero (r ++ b) = rw same refl in
    let two = found.behind b nothing 0 in
    let three = none.before 0 in
    let four = none.passed_are in
    omega (arith, one, two, three, four)

-- 2^64 - 1 bytes are in no packet
pub found_many : (r b w more : List ℕ) (s : Packets) (was now : Bool) (passed k : ℕ) →
    HasFound r s w was passed → (was ≡ true → b ≡ []) → (was ≡ true → now ≡ true) → MayCome now more →
    2 ^ 64 - 1 ≤ passed + skipped_before k zero ((w ++ b) ++ more) →
    2 ^ 64 - 1 ≤ skipped_before (length s + k) zero ((r ++ b) ++ more)
found_many r b w more s was now passed k found nothing stays may many =
    let both = may_both b more was now nothing stays may in
    let one : skipped_before (length s + k) zero ((r ++ b) ++ more)
    ≡ skipped_before (length s + k) zero (r ++ (b ++ more)) =
    ap (skipped_before (length s + k) zero) (append_assoc r b more) in
    let two = found.behind (b ++ more) both k in
    let three : skipped_before k zero (w ++ (b ++ more)) ≡ skipped_before k zero ((w ++ b) ++ more) =
    ap (skipped_before k zero) (sym (append_assoc w b more)) in
    omega (arith, one, two, three, many)

-- what was found is read, whatever comes
pub found_readable : (r w more : List ℕ) (s : Packets) (ended : Bool) (passed : ℕ) →
    HasFound r s w ended passed → MayCome ended more → length s ≤ 2 ^ 48 → IsReadable (r ++ more) s
found_readable r w more s ended passed found may low = record {
  rest = cut_packets (w ++ more);
  cuts = found.cuts more may;
  low = low;
  few = found.few more may;
}

-- packets of which all may be read come first
reads_first : (bytes : List ℕ) (i : ℕ) (s rest : Packets) → i + length s ≤ 2 ^ 48 →
    ((n : ℕ) → n < length s → skipped_before (i + n) zero bytes < 2 ^ 64 - 1) →
    read_from bytes i (s ++ rest) ≡ s ++ read_from bytes (i + length s) rest
unfolding read_from
reads_first bytes i [] rest low few = let same : i + 0 ≡ i = omega arith in rw same refl
reads_first bytes i (p ∷ s) rest low few =
    let same : i + 0 ≡ i = omega arith in
    let here : skipped_before i zero bytes < 2 ^ 64 - 1 = rw same at (few 0 (omega arith)) in
    let later : (n : ℕ) → n < length s → skipped_before ((i + 1) + n) zero bytes < 2 ^ 64 - 1 = λ n under.
    let at : (i + 1) + n ≡ i + suc n = omega arith in rw at (few (suc n) (omega (arith, under))) in
    let next : i + length (p ∷ s) ≡ (i + 1) + length s = omega arith in
    rw (lt-ltb i (2 ^ 48) (omega (arith, low)), lt-ltb (skipped_before i zero bytes) (2 ^ 64 - 1) here, next)
    (ap (λ (ps : Packets). p ∷ ps) (reads_first bytes (i + 1) s rest (omega (arith, low)) later))

-- none is read behind the most
none_behind : (bytes : List ℕ) (rest : Packets) → read_from bytes (2 ^ 48) rest ≡ []
unfolding read_from
none_behind bytes [] = refl
none_behind bytes (p ∷ rest) = refl

-- none is read behind too many bytes that are in no packet
none_far : (bytes : List ℕ) (i : ℕ) (rest : Packets) → 2 ^ 64 - 1 ≤ skipped_before i zero bytes →
    read_from bytes i rest ≡ []
unfolding read_from
none_far bytes i [] many = refl
none_far bytes i (p ∷ rest) many =
    rw (le-ltb (skipped_before i zero bytes) (2 ^ 64 - 1) many) (by (nat_lt i (2 ^ 48)))
  where
    by : (b : Bool) → (if b && false then p ∷ read_from bytes (i + 1) rest else []) ≡ []
    by true = refl
    by false = refl

-- it is read first
pub readable_begins : (bytes : List ℕ) (s : Packets) → (h : IsReadable bytes s) →
    readable bytes ≡ s ++ read_from bytes (length s) h.rest
readable_begins bytes s h =
    let same : 0 + length s ≡ length s = omega arith in
    let low : 0 + length s ≤ 2 ^ 48 = let l = h.low in omega (arith, l) in
    let few : (n : ℕ) → n < length s → skipped_before (0 + n) zero bytes < 2 ^ 64 - 1 = λ n under.
    let at : 0 + n ≡ n = omega arith in rw at (h.few n under) in
    ap (read_from bytes 0) h.cuts ∙ reads_first bytes 0 s h.rest low few
    ∙ ap (λ (n : ℕ). s ++ read_from bytes n h.rest) same

-- at the end all is read
pub all_readable : (bytes : List ℕ) (s : Packets) → cut_packets bytes ≡ s → length s ≤ 2 ^ 48 →
    ((n : ℕ) → n < length s → skipped_before n zero bytes < 2 ^ 64 - 1) →
    skipped_before (length s) zero bytes < 2 ^ 64 - 1 → (readable bytes ≡ s) × (is_stream_too_long bytes ≡ false)
unfolding is_stream_too_long read_from
all_readable bytes s is low few last = (
  readable_begins bytes s (record { rest = []; cuts = is ∙ sym (append-nil s); low = low; few = few }) ∙ append-nil s,
  rw is (rw (le-ltb (2 ^ 48) (length s) low, lt-ltb (skipped_before (length s) zero bytes) (2 ^ 64 - 1) last) refl),
)

-- no more than the most
pub most_readable : (bytes : List ℕ) (s : Packets) (p : List ℕ) (rest : Packets) →
    cut_packets bytes ≡ s ++ p ∷ rest → length s ≡ 2 ^ 48 →
    ((n : ℕ) → n < length s → skipped_before n zero bytes < 2 ^ 64 - 1) →
    (readable bytes ≡ s) × (is_stream_too_long bytes ≡ true)
unfolding is_stream_too_long
most_readable bytes s p rest is most few =
    let long : length (cut_packets bytes) ≡ length s + suc (length rest) = ap length is ∙ length-append s (p ∷ rest) in (
      readable_begins bytes s (record { rest = p ∷ rest; cuts = is; low = omega (arith, most); few = few })
          ∙ ap (λ (n : ℕ). s ++ read_from bytes n (p ∷ rest)) most
          ∙ ap (λ (ps : Packets). s ++ ps) (none_behind bytes (p ∷ rest)) ∙ append-nil s,
      rw (lt-ltb (2 ^ 48) (length (cut_packets bytes)) (omega (arith, most, long))) refl,
    )

-- none behind too many bytes that are in no packet
pub far_readable : (bytes : List ℕ) (s : Packets) → (h : IsReadable bytes s) →
    ((k : ℕ) → 2 ^ 64 - 1 ≤ skipped_before (length s + k) zero bytes) →
    (readable bytes ≡ s) × (is_stream_too_long bytes ≡ true)
unfolding is_stream_too_long
far_readable bytes s h many =
    let same : length s + 0 ≡ length s = omega arith in
    let here : 2 ^ 64 - 1 ≤ skipped_before (length s) zero bytes = rw same at (many 0) in
    let long : length (cut_packets bytes) ≡ length s + length h.rest = ap length h.cuts ∙ length-append s h.rest in (
      readable_begins bytes s h
          ∙ ap (λ (ps : Packets). s ++ ps) (none_far bytes (length s) h.rest here) ∙ append-nil s,
      rw long (rw (le-ltb (skipped_before (length s + length h.rest) zero bytes) (2 ^ 64 - 1) (many (length h.rest)))
          (by (nat_lt (2 ^ 48) (length s + length h.rest)))),
    )
  where
    by : (b : Bool) → (b || true) ≡ true
    by true = refl
    by false = refl
