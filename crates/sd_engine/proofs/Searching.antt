-- How a search goes on: bytes are passed, more are read, and then a packet is found, or the end.
use Rattle.std.proofs.Common.{◌≡◌, ◌⊎◌, ℕ, zero, suc, ◌+◌, ◌-◌, ◌^◌, ◌<◌, ◌≤◌, true, false, Bool, List, [], ◌∷◌}
use Rattle.std.proofs.Common.{◌++◌, length, take, drop, refl, sym, ap, subst, ◌∙◌, arith, inl, inr}
use Rattle.std.proofs.Common.{append_assoc, append-nil, length-append, length-drop, length-take-le}
use Rattle.std.specs.Prelude.{slice_index, unwrap_or, Option, Some, None}
use Rattle.std.specs.Io.KnownBytes.{Consumes}
use Rattle.std.proofs.KnownBytes.{Consumes-nil, Consumes-trans}
use Rattle.std.proofs.lemmas.Bool.{cases_eq, false≢true}
use Rattle.std.proofs.lemmas.List.{drop-append-le, take-append-le, get_or-drop, get_or_append_left}
use Rattle.sd_engine.specs.Cut.{begins_packet, cut_packets, skipped_before}
use Rattle.sd_engine.specs.Seeking.{MayCome, CutsOff, CutsNone, ReadsOn, SeekOutcome, SkipsTooMany, SeekStop}
use Rattle.sd_engine.specs.Seeking.{HasFilledAhead, IsEnough, IsFound, IsNextSync, IsSearching, Skips}
use Rattle.sd_engine.specs.Seeking.{TakesFirst, FillAheadStop}
use Rattle.sd_engine.specs.declared.seeking.SeekFault.{SeekFault}
use Rattle.sd_engine.specs.declared.seeking.SeekFault.TheVariants.{Read, Write, TooLong}
use Rattle.sd_engine.specs.Feeding.{waiting}
use Rattle.sd_engine.proofs.Feeding.{count_waits, waits_behind}
use Rattle.sd_engine.proofs.Begins.{begins_still, no_sync_first, parts_of}
use Rattle.sd_engine.proofs.Cutting.{cut_end, skipped_end, cut_packet, skipped_packet, skipped_none, cut_passed}
use Rattle.sd_engine.proofs.Cutting.{skipped_passed}

begins_whatever : (left more : List ℕ) (ended : Bool) → IsEnough left ended → MayCome ended more →
    begins_packet (left ++ more) ≡ begins_packet left
begins_whatever left more ended (inl long) may = begins_still left more long
begins_whatever left more ended (inr end) may =
    ap begins_packet (ap (λ (xs : List ℕ). left ++ xs) (may end) ∙ append-nil left)

-- nothing was passed yet
pub none_passed : (bytes : List ℕ) (ended : Bool) → Skips bytes bytes ended 0
none_passed bytes ended = record {
  cuts = λ more may. refl;
  skipped = λ more may k. omega arith;
  long = omega arith;
}

nothing_on : (a : Option (List ℕ)) (ended : Bool) → ReadsOn a a [] ended ended
nothing_on a ended = record {
  read = Consumes-nil a;
  nothing = λ h. refl;
  still = λ h. h;
  end = λ before h. before h;
}

reads_again : (a b c : Option (List ℕ)) (xs ys : List ℕ) (first second third : Bool) →
    ReadsOn a b xs first second → ReadsOn b c ys second third → ReadsOn a c (xs ++ ys) first third
reads_again a b c xs ys first second third one two = record {
  read = Consumes-trans a b c xs ys one.read two.read;
  nothing = λ h. rw (one.nothing h) (two.nothing (one.still h));
  still = λ h. two.still (one.still h);
  end = λ before h. two.end (λ e. one.end before e) h;
}

-- more was read behind what is left
skips_reading : (b c : Option (List ℕ)) (bytes left more : List ℕ) (ended now : Bool) (passed : ℕ) →
    Skips bytes left ended passed → ReadsOn b c more ended now → Skips (bytes ++ more) (left ++ more) now passed
skips_reading b c bytes left more ended now passed skips reads =
    let may : (xs : List ℕ) → MayCome now xs → MayCome ended (more ++ xs) = λ xs h e.
    rw (reads.nothing e) (h (reads.still e)) in
    record {
      cuts = λ xs h.
          ap cut_packets (append_assoc bytes more xs) ∙ skips.cuts (more ++ xs) (may xs h)
          ∙ ap cut_packets (sym (append_assoc left more xs));
      skipped = λ xs h k.
          ap (λ (ys : List ℕ). skipped_before k zero ys) (append_assoc bytes more xs)
          ∙ skips.skipped (more ++ xs) (may xs h) k
          ∙ ap (λ (ys : List ℕ). passed + skipped_before k zero ys) (sym (append_assoc left more xs));
      long = omega (arith, skips.long, length-append bytes more, length-append left more);
    }

-- the byte at which no packet begins, and those before the next sync byte, are passed
skips_next : (left : List ℕ) (ended : Bool) (count : ℕ) → IsEnough left ended → begins_packet left ≡ false →
    IsNextSync left count → Skips left (drop count left) ended count
skips_next left ended count enough none next =
    let within : (more : List ℕ) → count ≤ length (left ++ more) = λ more.
    omega (arith, next.within, length-append left more) in
    let rest : (more : List ℕ) → drop count (left ++ more) ≡ drop count left ++ more = λ more.
    drop-append-le count left more next.within in
    let others : (more : List ℕ) → MayCome ended more → (i : ℕ) → i < count →
    begins_packet (drop i (left ++ more)) ≡ false = λ more may i few.
    elim (cases_eq i 0) [
      | inl first ↦ rw first (begins_whatever left more ended enough may ∙ none)
      | inr later ↦ no_sync_first (drop i (left ++ more)) (λ sync. next.none i (omega (arith, later)) few (
          sym (get_or_append_left left more 0 i (omega (arith, few, next.within)))
          ∙ sym (ap (λ (n : ℕ). slice_index (left ++ more) n) (omega arith))
          ∙ sym (get_or-drop i (left ++ more) 0 0) ∙ sync))
    ] in
    record {
      cuts = λ more may. cut_passed count (left ++ more) (within more) (others more may) ∙ ap cut_packets (rest more);
      skipped = λ more may k.
          skipped_passed k count (left ++ more) (within more) (others more may)
          ∙ ap (λ (xs : List ℕ). count + skipped_before k zero xs) (rest more);
      long = omega (arith, next.within, length-drop count left);
    }

skips_on : (bytes left rest : List ℕ) (ended : Bool) (passed count : ℕ) → Skips bytes left ended passed →
    Skips left rest ended count → Skips bytes rest ended (passed + count)
skips_on bytes left rest ended passed count one two = record {
  cuts = λ more may. one.cuts more may ∙ two.cuts more may;
  skipped = λ more may k.
      one.skipped more may k ∙ ap (λ (n : ℕ). passed + n) (two.skipped more may k) ∙ omega arith;
  long = omega (arith, one.long, two.long);
}

-- a packet is found in what is left
skips_found : (bytes left : List ℕ) (ended : Bool) (passed : ℕ) → Skips bytes left ended passed →
    IsEnough left ended → begins_packet left ≡ true → CutsOff bytes (take 188 left) (drop 188 left) ended passed
skips_found bytes left ended passed skips enough begins =
    let long : 188 ≤ length left = (parts_of left begins).long in
    let here : (more : List ℕ) → MayCome ended more → begins_packet (left ++ more) ≡ true = λ more may.
    begins_whatever left more ended enough may ∙ begins in
    let rest : (more : List ℕ) → drop 188 (left ++ more) ≡ drop 188 left ++ more = λ more.
    drop-append-le 188 left more long in
    record {
      first = λ more may.
          skips.cuts more may ∙ cut_packet (left ++ more) (here more may)
          ∙ ap (λ (p : List ℕ). p ∷ cut_packets (drop 188 (left ++ more))) (take-append-le 188 left more long)
          ∙ ap (λ (xs : List ℕ). take 188 left ∷ cut_packets xs) (rest more);
      before = λ more may.
          skips.skipped more may zero ∙ ap (λ (n : ℕ). passed + n) (skipped_none (left ++ more) (here more may))
          ∙ omega arith;
      behind = λ more may k.
          skips.skipped more may (suc k)
          ∙ ap (λ (n : ℕ). passed + n)
          (skipped_packet k (left ++ more) (here more may) ∙ ap (skipped_before k zero) (rest more));
      long = length-take-le 188 left long;
    }

-- the end is found
skips_end : (bytes left : List ℕ) (passed : ℕ) → Skips bytes left true passed → left ≡ [] → CutsNone bytes passed
skips_end bytes left passed skips none =
    let all : bytes ≡ bytes ++ [] = sym (append-nil bytes) in
    let here : left ++ [] ≡ [] = ap (λ (xs : List ℕ). xs ++ []) none in
    let count : passed ≡ length bytes = omega (arith, skips.long, ap (λ (xs : List ℕ). length xs) none) in
    record {
      none = ap cut_packets all ∙ skips.cuts [] (λ h. refl) ∙ ap cut_packets here ∙ cut_end;
      passed_are = count;
      before = λ k.
          ap (skipped_before k zero) all ∙ skips.skipped [] (λ h. refl) k
          ∙ ap (λ (xs : List ℕ). passed + skipped_before k zero xs) here
          ∙ ap (λ (n : ℕ). passed + n) (skipped_end k) ∙ omega (arith, count);
    }

-- a search begins
pub search_begins : (a : Option (List ℕ)) (old : List ℕ) (ended : Bool) (skipped : ℕ) →
    IsSearching a a old old ended ended skipped skipped
search_begins a old ended skipped = record {
  bytes = [];
  reads = nothing_on a ended;
  passed = 0;
  skips = subst (λ (xs : List ℕ). Skips xs old ended 0) (sym (append-nil old)) (none_passed old ended);
  skipped_are = omega arith;
  few = λ h. h;
}

-- more was read
pub search_filled : (a b c : Option (List ℕ)) (old left new : List ℕ) (was ended now : Bool)
    (skipped_old skipped : ℕ) → IsSearching a b old left was ended skipped_old skipped →
    HasFilledAhead b c left ended new now → IsSearching a c old new was now skipped_old skipped
search_filled a b c old left new was ended now skipped_old skipped so filled = record {
  bytes = so.bytes ++ filled.bytes;
  reads = reads_again a b c so.bytes filled.bytes was ended now so.reads filled.reads;
  passed = so.passed;
  skips =
      subst (λ (xs : List ℕ). Skips (old ++ (so.bytes ++ filled.bytes)) xs now so.passed) (sym filled.joined)
      (subst (λ (xs : List ℕ). Skips xs (left ++ filled.bytes) now so.passed) (append_assoc old so.bytes filled.bytes)
      (skips_reading b c (old ++ so.bytes) left filled.bytes ended now so.passed so.skips filled.reads));
  skipped_are = so.skipped_are;
  few = so.few;
}

-- bytes were passed
pub search_passed : (a b : Option (List ℕ)) (old left : List ℕ) (was ended : Bool) (skipped_old skipped count : ℕ) →
    IsSearching a b old left was ended skipped_old skipped → IsEnough left ended → begins_packet left ≡ false →
    IsNextSync left count → skipped + count < 2 ^ 64 - 1 →
    IsSearching a b old (drop count left) was ended skipped_old (skipped + count)
search_passed a b old left was ended skipped_old skipped count so enough none next few = record {
  bytes = so.bytes;
  reads = so.reads;
  passed = so.passed + count;
  skips =
      skips_on (old ++ so.bytes) left (drop count left) ended so.passed count so.skips
      (skips_next left ended count enough none next);
  skipped_are = omega (arith, so.skipped_are);
  few = λ h. few;
}

-- enough waits, and nothing is read
pub filled_before : (a : Option (List ℕ)) (left : List ℕ) (ended : Bool) → IsEnough left ended →
    HasFilledAhead a a left ended left ended
filled_before a left ended enough = record {
  bytes = [];
  reads = nothing_on a ended;
  joined = sym (append-nil left);
  enough = enough;
}

-- a packet was found
pub search_found : (a b : Option (List ℕ)) (old left packet : List ℕ) (was ended : Bool) (skipped_old skipped : ℕ) →
    IsSearching a b old left was ended skipped_old skipped → IsEnough left ended →
    (begins_packet left ≡ true) × (packet ≡ take 188 left) →
    SeekOutcome a b old was (drop 188 left) ended skipped_old skipped (Some packet)
search_found a b old left packet was ended skipped_old skipped so enough begins = record {
  bytes = so.bytes;
  reads = so.reads;
  passed = so.passed;
  finds =
      subst (λ (p : List ℕ). CutsOff (old ++ so.bytes) p (drop 188 left) ended so.passed) (sym begins.1)
      (skips_found (old ++ so.bytes) left ended so.passed so.skips enough begins.0);
  skipped = so.skipped_are;
  few = so.few;
}

-- what is taken of a search that is done
taken_packet : (left packet : List ℕ) → TakesFirst left (Some packet) →
    (begins_packet left ≡ true) ⊎ (left ≡ []) → (begins_packet left ≡ true) × (packet ≡ take 188 left)
taken_packet left packet takes (inl begins) = (begins, some_is packet (take 188 left) (takes.packet begins))
  where
    some_is : (x y : List ℕ) → Some x ≡ Some y → x ≡ y
    some_is x y e = ap (λ (o : Option (List ℕ)). unwrap_or o []) e
taken_packet left packet takes (inr none) = absurd (let no = takes.none none in cc)

taken_none : (left : List ℕ) → TakesFirst left None → (begins_packet left ≡ true) ⊎ (left ≡ []) → left ≡ []
taken_none left takes (inl begins) = absurd (let no = takes.packet begins in cc)
taken_none left takes (inr none) = none

pub packet_waits : (a b : Option (List ℕ)) (old piece packet : List ℕ) (at filled : ℕ) (was ended : Bool)
    (skipped_old skipped : ℕ) → IsFound a b old (waiting piece at filled) was ended skipped_old skipped →
    TakesFirst (waiting piece at filled) (Some packet) → filled ≤ length piece → 188 ≤ filled - at
packet_waits a b old piece packet at filled was ended skipped_old skipped found takes within =
    let begins = taken_packet (waiting piece at filled) packet takes found.first.1 in
    omega (arith, (parts_of (waiting piece at filled) begins.0).long, count_waits piece at filled within)

pub found_packet : (a b : Option (List ℕ)) (old piece packet : List ℕ) (at filled now_at now_filled : ℕ)
    (was ended now_ended : Bool) (skipped_old skipped : ℕ) →
    IsFound a b old (waiting piece at filled) was ended skipped_old skipped →
    TakesFirst (waiting piece at filled) (Some packet) →
    filled ≤ length piece → now_at ≡ at + 188 → now_filled ≡ filled → now_ended ≡ ended →
    SeekOutcome a b old was (waiting piece now_at now_filled) now_ended skipped_old skipped (Some packet)
found_packet a b old piece packet at filled now_at now_filled was ended now_ended skipped_old skipped found takes within
    at_is filled_is ended_is =
    rw ended_is (
    subst (λ (xs : List ℕ). SeekOutcome a b old was xs ended skipped_old skipped (Some packet))
    (waits_behind piece at filled 188
    (packet_waits a b old piece packet at filled was ended skipped_old skipped found takes within)
    ∙ sym (ap (λ (n : ℕ). waiting piece n now_filled) at_is ∙ ap (λ (n : ℕ). waiting piece (at + 188) n) filled_is))
    (search_found a b old (waiting piece at filled) packet was ended skipped_old skipped found.so found.first.0
    (taken_packet (waiting piece at filled) packet takes found.first.1)))

-- what waits behind the bytes that are passed
pub search_passes : (a b : Option (List ℕ)) (old piece : List ℕ) (at filled now_at now_filled : ℕ)
    (was ended now_ended : Bool) (skipped_old skipped count : ℕ) →
    IsSearching a b old (waiting piece at filled) was ended skipped_old skipped →
    IsEnough (waiting piece at filled) ended → begins_packet (waiting piece at filled) ≡ false →
    IsNextSync (waiting piece at filled) count → skipped + count < 2 ^ 64 - 1 →
    filled ≤ length piece → now_at ≡ at + count → now_filled ≡ filled → now_ended ≡ ended →
    IsSearching a b old (waiting piece now_at now_filled) was now_ended skipped_old (skipped + count)
search_passes a b old piece at filled now_at now_filled was ended now_ended skipped_old skipped count so enough none
    next few within at_is filled_is ended_is =
    rw ended_is (
    subst (λ (xs : List ℕ). IsSearching a b old xs was ended skipped_old (skipped + count))
    (waits_behind piece at filled count (omega (arith, next.within, count_waits piece at filled within))
    ∙ sym (ap (λ (n : ℕ). waiting piece n now_filled) at_is ∙ ap (λ (n : ℕ). waiting piece (at + count) n) filled_is))
    (search_passed a b old (waiting piece at filled) was ended skipped_old skipped count so enough none next few))

-- the end was found
pub search_ended : (a b : Option (List ℕ)) (old left : List ℕ) (was ended : Bool) (skipped_old skipped : ℕ) →
    IsSearching a b old left was ended skipped_old skipped → IsEnough left ended → left ≡ [] →
    SeekOutcome a b old was left ended skipped_old skipped None
search_ended a b old left was ended skipped_old skipped so (inl long) none =
    absurd (omega (arith, long, ap (λ (xs : List ℕ). length xs) none))
search_ended a b old left was ended skipped_old skipped so (inr end) none = record {
  bytes = so.bytes;
  reads = so.reads;
  passed = so.passed;
  finds = (
    end,
    none,
    skips_end (old ++ so.bytes) left so.passed
        (subst (λ (e : Bool). Skips (old ++ so.bytes) left e so.passed) end so.skips) none,
  );
  skipped = so.skipped_are;
  few = so.few;
}

pub found_end : (a b : Option (List ℕ)) (old left : List ℕ) (was ended : Bool) (skipped_old skipped : ℕ) →
    IsFound a b old left was ended skipped_old skipped → TakesFirst left None →
    SeekOutcome a b old was left ended skipped_old skipped None
found_end a b old left was ended skipped_old skipped found takes =
    search_ended a b old left was ended skipped_old skipped found.so found.first.0
    (taken_none left takes found.first.1)

-- too many bytes were passed
pub search_too_long : (a b : Option (List ℕ)) (old left : List ℕ) (was ended : Bool)
    (skipped_old skipped count : ℕ) → IsSearching a b old left was ended skipped_old skipped →
    IsEnough left ended → begins_packet left ≡ false → IsNextSync left count → 2 ^ 64 - 1 ≤ skipped + count →
    SkipsTooMany a b old was skipped_old
search_too_long a b old left was ended skipped_old skipped count so enough none next many =
    let on = skips_on (old ++ so.bytes) left (drop count left) ended so.passed count so.skips
    (skips_next left ended count enough none next) in
    record {
      bytes = so.bytes;
      ended = ended;
      reads = so.reads;
      many = λ more may k. omega (arith, many, so.skipped_are, on.skipped more may k);
    }

-- the end was not read before
not_ended_before : (was ended : Bool) → (was ≡ true → ended ≡ true) → ended ≡ false → was ≡ false
not_ended_before false ended still h = refl
not_ended_before true ended still h = absurd (false≢true (sym h ∙ still refl))

-- a read or a write failed
pub search_stopped : (a b c : Option (List ℕ)) (old left : List ℕ) (was ended : Bool) (skipped_old skipped : ℕ)
    (fault : SeekFault) → IsSearching a b old left was ended skipped_old skipped → FillAheadStop b c ended fault →
    SeekStop a c old was skipped_old fault
search_stopped a b c old left was ended skipped_old skipped Read so stop = (
  not_ended_before was ended so.reads.still stop.0,
  (so.bytes ++ stop.1.0, Consumes-trans a b c so.bytes stop.1.0 so.reads.read stop.1.1),
)
search_stopped a b c old left was ended skipped_old skipped Write so stop = (
  not_ended_before was ended so.reads.still stop.0,
  (so.bytes, subst (λ (o : Option (List ℕ)). Consumes a o so.bytes) (sym stop.1) so.reads.read),
)
search_stopped a b c old left was ended skipped_old skipped TooLong so stop = absurd stop
