-- What a sink took of pieces that it did not all take.
use Rattle.std.proofs.Common.{◌≡◌, ◌≤◌, ℕ, ◌+◌, List, ◌++◌, length, refl, sym, ap, subst, ◌∙◌, arith}
use Rattle.std.proofs.Common.{append_assoc, length-append}
use Rattle.std.specs.Prelude.{Option, Some, None}
use Rattle.std.proofs.KnownBytes.{Appends-trans}
use Rattle.sd_ports.specs.Rooms.{HasTaken}
use Rattle.sd_engine.specs.Stage.{SinkState, IsCutShort, IsTooShort, TookBytes}
use Rattle.sd_receive.specs.Writing.{HasStopped}

-- what is too much for the room that is left is too much with what was taken before
still_short : (a b : Option ℕ) (m n k : ℕ) → HasTaken a b m → IsTooShort b n → m + n ≤ k → IsTooShort a k
still_short None b m n k p q h = tt
still_short (Some room) b m n k p q h =
    let then = subst (λ (left : Option ℕ). IsTooShort left n) p.1 q in
    omega (arith, then, h)

-- some bytes, and then not all of a piece, after which others were to come
pub cut_after : (u v w : SinkState) (xs ys rest : List ℕ) → TookBytes u v xs → HasStopped v w ys →
    IsCutShort u w (λ bytes. bytes ≡ xs ++ (ys ++ rest))
cut_after u v w xs ys rest p q = record {
  bytes = xs ++ (ys ++ rest);
  says = refl;
  prefix = xs ++ q.prefix.0;
  short = (
    q.prefix.1.0 ++ rest,
    append_assoc xs q.prefix.0 (q.prefix.1.0 ++ rest)
        ∙ ap (λ (bs : List ℕ). xs ++ bs) (sym (append_assoc q.prefix.0 q.prefix.1.0 rest)
        ∙ ap (λ (bs : List ℕ). bs ++ rest) q.prefix.1.1),
  );
  taken = Appends-trans u.held v.held w.held xs q.prefix.0 p.taken q.prefix.2;
  room = still_short u.room v.room (length xs) (length ys) (length (xs ++ (ys ++ rest))) p.room q.room
      (omega (arith, length-append xs (ys ++ rest), length-append ys rest));
}
