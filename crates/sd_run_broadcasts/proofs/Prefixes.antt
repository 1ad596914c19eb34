-- What the first bytes of a file are.
use Rattle.std.proofs.Common.{◌≡◌, ℕ, ◌^◌, ◌<◌, ◌≤◌, Bool, true, false, List, [], ◌∷◌, ◌++◌, length, take, Option}
use Rattle.std.proofs.Common.{Some, None, Result, Ok, Err, refl, sym, ap, ◌∙◌, inl, inr, arith, take_all, length-append}
use Rattle.std.proofs.Common.{le-ltb}
use Rattle.std.proofs.Common.{lt-ltb}
use Rattle.std.specs.Prelude.{nat_lt, IfOk, IsErrOf}
use Rattle.std.proofs.lemmas.List.{take-append-le}
use Rattle.sd_base.specs.Count.{HasRisen, with_added}
use Rattle.sd_ports.specs.Files.{OpensFile}
use Rattle.sd_ports.specs.Bytes.{Prefix, prefix_of, IsTakenFrom}
use Rattle.sd_ports.specs.declared.prefix.ReadMostFault.{ReadMostFault}
use Rattle.sd_ports.specs.declared.prefix.ReadMostFault.TheVariants as fault
use Rattle.sd_ports.proofs.Prefixes.{prefix, same_prefix}
use Rattle.sd_engine.specs.Taken.{AreBytesLeft}
use Rattle.sd_engine.proofs.Taken.{some_left}
use Rattle.sd_command_base.specs.declared.status.Status.{Status}
use Rattle.sd_command_base.specs.declared.status.Status.TheVariants.{DepotFault, NoMemory}
use Rattle.sd_command_base.specs.Outside.{DepotState, depot_after_calls}
use Rattle.sd_command_base.specs.Reads.{IsAsked, StopCause, FileOutcome}
use Rattle.sd_command_base.proofs.Looked.{opened_got}
use Rattle.sd_command_base.proofs.Places.{only_called}
use Rattle.sd_run_broadcasts.specs.Prefixes.{prefix_of_file, told_prefix}

-- what was taken is a prefix of some bytes
untold_prefix : (most : ℕ) (bytes : List ℕ) (more : Bool) → length bytes ≤ most → (more ≡ true → length bytes ≡ most) →
    (whole : List ℕ) × (prefix bytes more ≡ prefix_of most whole)
untold_prefix most bytes false within full = (
  bytes,
  same_prefix bytes (take most bytes) false (nat_lt most (length bytes)) (sym (take_all most bytes within))
      (sym (le-ltb most (length bytes) within)),
)
untold_prefix most bytes true within full =
    let long : length bytes ≡ most = full refl in
    let whole : List ℕ = bytes ++ 0 ∷ [] in (
      whole,
      same_prefix bytes (take most whole) true (nat_lt most (length whole))
          (sym (take-append-le most bytes (0 ∷ []) (omega (arith, long)) ∙ take_all most bytes within))
          (sym (lt-ltb most (length whole) (omega (arith, long, length-append bytes (0 ∷ []))))),
    )

-- the bytes that were left of an input whose prefix was taken
pub record PrefixLeft (left : Option (List ℕ)) (most : ℕ) (prefix : Prefix) : Type 0 where
  pub bytes : List ℕ
  pub is_left : AreBytesLeft left bytes
  pub is : prefix ≡ prefix_of most bytes

pub prefix_left : (left : Option (List ℕ)) (most : ℕ) (prefix : Prefix) → IsTakenFrom most left prefix →
    length prefix.bytes ≤ most → (prefix.more ≡ true → length prefix.bytes ≡ most) → PrefixLeft left most prefix
prefix_left None most prefix h within full =
    let whole = untold_prefix most prefix.bytes prefix.more within full in
    record { bytes = whole.0; is_left = tt; is = whole.1 }
prefix_left (Some left) most prefix h within full = record { bytes = left; is_left = refl; is = h }

-- the file was read as far as it is taken
pub prefix_looks : (word most : ℕ) (name : List ℕ) (a b : DepotState) (left : Option (List ℕ)) (prefix : Prefix) →
    OpensFile a.files name left → PrefixLeft left most prefix → b ≡ depot_after_calls 2 a →
    FileOutcome (λ (prefix : Prefix). prefix) (prefix_of_file word most) name a b (Ok prefix)
unfolding prefix_of_file
prefix_looks word most name a b left prefix opens h same = record {
  got = Some h.bytes;
  is_got = opened_got a.files name left h.bytes opens h.is_left;
  gives = (ap Ok (sym h.is), same);
}

-- reading was stopped
pub prefix_stopped : (word most : ℕ) (name : List ℕ) (a b : DepotState) (left : Option (List ℕ)) (status : Status) →
    OpensFile a.files name left →
    StopCause a b status → IsAsked 2 a b → b.misses ≡ a.misses →
    FileOutcome (λ (prefix : Prefix). prefix) (prefix_of_file word most) name a b (Err status)
unfolding prefix_of_file
prefix_stopped word most name a b left status opens cause asked misses =
    let some = some_left left in record {
      got = Some some.0;
      is_got = opened_got a.files name left some.0 opens some.1;
      gives = inr (record { cause = cause; asked = asked; misses = misses });
    }

-- what the reader of an open file says of the prefix that it took
pub record PrefixRead (left : Option (List ℕ)) (most fresh from : ℕ) (read : Result Prefix ReadMostFault) : Type 0 where
  pub value : IfOk read (λ prefix. IsTakenFrom most left prefix)
  pub within : IfOk read (λ prefix. length prefix.bytes ≤ most)
  pub full : IfOk read (λ prefix. prefix.more ≡ true → length prefix.bytes ≡ most)
  pub failed : IsErrOf read fault.Failed → HasRisen fresh from
  pub calm : ¬ IsErrOf read fault.Failed → from ≡ fresh

-- the counts of faults of a depot that took over those of a port
pub none_added : (before opened now from : ℕ) → opened ≡ before → opened < 2 ^ 64 → now ≡ with_added opened from →
    from ≡ 0 → now ≡ before
none_added before opened now from same within is none = omega (arith, same, within, is, none)

pub some_added : (before opened now fresh from : ℕ) → opened ≡ before → opened < 2 ^ 64 →
    now ≡ with_added opened from → fresh ≡ 0 → HasRisen fresh from → HasRisen before now
some_added before opened now fresh from same within is none rose = omega (arith, same, within, is, none, rose)

-- of no more bytes than are taken, all are
pub whole_prefix : (most : ℕ) (bytes : List ℕ) → length bytes ≤ most → prefix_of most bytes ≡ prefix bytes false
whole_prefix most bytes few =
    same_prefix (take most bytes) bytes (nat_lt most (length bytes)) false (take_all most bytes few)
    (le-ltb most (length bytes) few)

-- once the file was closed
pub prefix_answered : (word most : ℕ) (name : List ℕ) (p q : DepotState) (left : Option (List ℕ))
    (opened stops fresh from : ℕ)
    (read : Result Prefix ReadMostFault) → OpensFile p.files name left → opened ≡ p.faults → opened < 2 ^ 64 →
    q.faults ≡ with_added opened from → stops ≡ p.stops → stops < 2 ^ 64 → q.stops ≡ with_added stops from → fresh ≡ 0 →
    PrefixRead left most fresh from read → q.files ≡ p.files →
    q.misses ≡ p.misses → q.made ≡ p.made → q.opened ≡ p.opened → q.calls ≡ with_added p.calls 2 →
    FileOutcome (λ (prefix : Prefix). prefix) (prefix_of_file word most) name p q (told_prefix read)
prefix_answered word most name p q left opened stops fresh from (Ok prefix) is_open same within now stood below stopped
    none r files misses made ports calls =
    prefix_looks word most name p q left prefix is_open (prefix_left left most prefix r.value r.within r.full)
    (only_called 2 p q files
    (none_added p.faults opened q.faults from same within now (r.calm (λ e. cc) ∙ none))
    (none_added p.stops stops q.stops from stood below stopped (r.calm (λ e. cc) ∙ none)) misses made ports calls)
prefix_answered word most name p q left opened stops fresh from (Err fault.Failed) is_open same within now stood below
    stopped none r files misses made ports calls =
    prefix_stopped word most name p q left DepotFault is_open
    (inr (
      refl,
      some_added p.faults opened q.faults fresh from same within now none (r.failed refl),
      some_added p.stops stops q.stops fresh from stood below stopped none (r.failed refl),
    ))
    (record { files = files; made = made; ports = ports; calls = omega (arith, calls) }) misses
prefix_answered word most name p q left opened stops fresh from (Err fault.NoMemory) is_open same within now stood below
    stopped none r files misses made ports calls =
    prefix_stopped word most name p q left NoMemory is_open
    (inl (
      refl,
      none_added p.faults opened q.faults from same within now (r.calm (λ e. cc) ∙ none),
      none_added p.stops stops q.stops from stood below stopped (r.calm (λ e. cc) ∙ none),
    ))
    (record { files = files; made = made; ports = ports; calls = omega (arith, calls) }) misses
