-- Hexadecimal digits and the bytes that they stand for.
use Rattle.std.proofs.Common.{◌≡◌, ℕ, ◌*◌, ◌==◌, Bool, true, false, cond, eqb, List, length, None, Result, Ok, Err}
use Rattle.std.proofs.Common.{refl, sym, ap}
use Rattle.std.proofs.lemmas.Bool.{eqb-true, eqb-false}
use Rattle.std.specs.Prelude.{if◌then◌else◌, ◌≢◌}
use Rattle.std.specs.Result.{result_ok}
use Rattle.hex.specs.Hex.{decode_of, decode_sized}
use Rattle.hex.proofs.HexLemmas.{decode_sized-twice, decode_sized-ok}

-- a length that isn't twice the count leaves nothing
none_sized : (digits : List ℕ) (count : ℕ) → length digits ≢ 2 * count
    → (d : Result (List ℕ) _) → decode_sized digits count ≡ d → None ≡ result_ok d
none_sized digits count other (Ok bytes) e = absurd (other (decode_sized-ok digits count bytes e))
none_sized digits count other (Err fault) e = refl

by_length : (digits : List ℕ) (count : ℕ) (same : Bool) → eqb (length digits) (2 * count) ≡ same
    → cond same (result_ok (decode_of digits)) None ≡ result_ok (decode_sized digits count)
by_length digits count true e = ap result_ok (sym (decode_sized-twice digits count (eqb-true _ _ e)))
by_length digits count false e = none_sized digits count (eqb-false _ _ e) (decode_sized digits count) refl

-- digits that are decoded into so many bytes are twice as many
pub bytes_of_digits : (digits : List ℕ) (count : ℕ)
    → (if length digits == 2 * count then result_ok (decode_of digits) else None)
    ≡ result_ok (decode_sized digits count)
bytes_of_digits digits count = by_length digits count (eqb (length digits) (2 * count)) refl
