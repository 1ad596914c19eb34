-- What waits, when more is read and when some of it is taken.
use Rattle.std.proofs.Common.{◌≡◌, ℕ, ◌+◌, ◌-◌, ◌≤◌, List, [], ◌++◌, length, take, drop, refl, sym, ap, subst}
use Rattle.std.proofs.Common.{◌∙◌, inl, inr, arith}
use Rattle.std.proofs.Common.{append_assoc, append-nil, length-drop, length-take-le}
use Rattle.std.specs.Prelude.{Option, Some, Result, IfOk}
use Rattle.std.proofs.lemmas.List.{take-append-le, take-append-drop, drop-drop, drop-take}
use Rattle.std.proofs.lemmas.List.{get_or-take, length-take}
use Rattle.std.specs.Prelude.{slice_index}
use Rattle.std.proofs.Math.Seq.{take-append-add}
use borrow.Rule.Slice.PartMut.{put_mid, post_of}
use Rattle.std.specs.Io.{ReadsAtMost}
use Rattle.std.specs.Io.KnownBytes.{IsAtEnd, ReadConsumes}
use Rattle.std.proofs.KnownBytes.{Consumes-nil, Consumes-trans}
use Rattle.std.specs.Prelude.{Ok, Err}
use Rattle.sd_ports.specs.Bytes.{LosesPrefix}
use Rattle.sd_engine.specs.Feeding.{waiting, ReadsMore, HasFilled, IsWaitingPacket, GivesPacket, GivesNone}

-- no byte was read, and the same wait
pub nothing_read : (a : Option (List ℕ)) (old new : List ℕ) → new ≡ old → ReadsMore a a old new
nothing_read a old new same = record {
  bytes = [];
  consumed = Consumes-nil a;
  joined = same ∙ sym (append-nil old);
}

-- some bytes were read, and then more
pub more_read : (a b c : Option (List ℕ)) (old mid new : List ℕ) → ReadsMore a b old mid → ReadsMore b c mid new →
    ReadsMore a c old new
more_read a b c old mid new first then = record {
  bytes = first.bytes ++ then.bytes;
  consumed = Consumes-trans a b c first.bytes then.bytes first.consumed then.consumed;
  joined = then.joined
      ∙ (ap (λ (xs : List ℕ). xs ++ then.bytes) first.joined ∙ append_assoc old first.bytes then.bytes);
}

-- some bytes were read, and then some were lost
pub lost_on : (a b c : Option (List ℕ)) (old new : List ℕ) → ReadsMore a b old new → LosesPrefix b c → LosesPrefix a c
lost_on a b c old new first lost =
    (first.bytes ++ lost.0, Consumes-trans a b c first.bytes lost.0 first.consumed lost.1)

-- what waits from the beginning on
from_beginning : (piece : List ℕ) (filled : ℕ) → waiting piece 0 filled ≡ take filled piece
from_beginning piece filled = let none : filled - 0 ≡ filled = omega arith in rw none refl

-- what waits after a read into the rest of the piece
read_into : (piece buf : List ℕ) (filled more k : ℕ) → filled ≤ length piece → more ≤ length buf →
    waiting (put_mid filled k piece buf) 0 (filled + more) ≡ waiting piece 0 filled ++ take more buf
read_into piece buf filled more k within few =
    let long : length (take filled piece) ≡ filled = length-take-le filled piece within in
    from_beginning (put_mid filled k piece buf) (filled + more)
    ∙ (subst (λ (n : ℕ). take (n + more) (put_mid filled k piece buf) ≡ take filled piece ++ take more
    (buf ++ post_of filled k piece))
    long (take-append-add (take filled piece) (buf ++ post_of filled k piece) more)
    ∙ (ap (λ (xs : List ℕ). take filled piece ++ xs) (take-append-le more buf (post_of filled k piece) few)
    ∙ ap (λ (xs : List ℕ). xs ++ take more buf) (sym (from_beginning piece filled))))

-- a read into the rest of the piece
pub read_once : {E : Type 0} (result : Result ℕ E) (a b : Option (List ℕ)) (piece buf : List ℕ) (filled k : ℕ) →
    filled ≤ length piece → ReadsAtMost result buf → ReadConsumes a b result buf →
    IfOk result (λ more.
    ReadsMore a b (waiting piece 0 filled) (waiting (put_mid filled k piece buf) 0 (filled + more)))
read_once (Ok more) a b piece buf filled k within bound read = record {
  bytes = take more buf;
  consumed = read.0;
  joined = read_into piece buf filled more k within bound.0;
}
read_once (Err fault) a b piece buf filled k within bound read = tt

-- as many bytes wait as the range holds
pub count_waits : (piece : List ℕ) (at filled : ℕ) → filled ≤ length piece →
    length (waiting piece at filled) ≡ filled - at
count_waits piece at filled within =
    length-take-le (filled - at) (drop at piece) (omega (arith, within, length-drop at piece))

-- what waits behind its first bytes
pub waits_behind : (piece : List ℕ) (at filled n : ℕ) → n ≤ filled - at →
    drop n (waiting piece at filled) ≡ waiting piece (at + n) filled
waits_behind piece at filled n few =
    let count : filled - at ≡ n + (filled - (at + n)) = omega (arith, few) in
    ap (λ (m : ℕ). drop n (take m (drop at piece))) count
    ∙ (drop-take n (filled - (at + n)) (drop at piece)
    ∙ ap (λ (xs : List ℕ). take (filled - (at + n)) xs) (drop-drop n at piece))

-- a read gave no byte, so the source is at its end
pub end_waits : (least : ℕ) (a b c : Option (List ℕ)) (old mid piece : List ℕ) (filled more : ℕ) → more ≡ 0 →
    ReadsMore a b old mid → ReadsMore b c mid (waiting piece 0 (filled + more)) → IsAtEnd c →
    HasFilled least a c old (waiting piece 0 filled)
end_waits least a b c old mid piece filled more none before read end = record {
  read = subst (λ (n : ℕ). ReadsMore a c old (waiting piece 0 n)) (omega (arith, none))
      (more_read a b c old mid _ before read);
  enough = inr end;
}

-- the first packet of what waits, and what waits after it
pub packet_given : (a b : Option (List ℕ)) (old piece packet : List ℕ) (at filled : ℕ) →
    HasFilled 188 a b old (waiting piece at filled) → filled ≤ length piece → IsWaitingPacket (waiting piece at filled)
    (Ok (Some packet)) →
    GivesPacket a b old (waiting piece (at + 188) filled) packet
packet_given a b old piece packet at filled fills within takes =
    let enough : 188 ≤ filled - at = omega (arith, takes.1, length-take (filled - at) (drop at piece)) in
    let rest : drop 188 (waiting piece at filled) ≡ waiting piece (at + 188) filled =
    waits_behind piece at filled 188 enough in
    let whole : packet ++ waiting piece (at + 188) filled ≡ waiting piece at filled =
    ap (λ (xs : List ℕ). packet ++ xs) (sym rest)
    ∙ (ap (λ (xs : List ℕ). xs ++ drop 188 (waiting piece at filled)) (sym takes.0)
    ∙ take-append-drop 188 (waiting piece at filled)) in
    record {
      read = record { bytes = fills.read.bytes; consumed = fills.read.consumed; joined = whole ∙ fills.read.joined };
      long = ap (λ (xs : List ℕ). length xs) (sym takes.0) ∙ length-take-le 188 (waiting piece at filled) takes.1;
      sync = ap (λ (xs : List ℕ). slice_index xs 0) (sym takes.0)
          ∙ (get_or-take 188 (waiting piece at filled) 0 0 (omega arith) ∙ takes.2);
    }

-- nothing waits, so the source is at its end
pub none_given : (a b : Option (List ℕ)) (old new : List ℕ) → HasFilled 188 a b old new → new ≡ [] →
    GivesNone a b old new
none_given a b old new fills none = record {
  read = subst (ReadsMore a b old) none fills.read;
  none = none;
  end = elim fills.enough [
    | inl long ↦ absurd (omega (arith, long, ap (λ (xs : List ℕ). length xs) none))
    | inr end ↦ end
  ];
}
