-- What `get` lends of a list is its item at that place.
use Rattle.std.proofs.Common.{◌≡◌, ℕ, List, map, length, Option, None, Some, option_map, option_copied, slice_get, refl}
use Rattle.std.proofs.Common.{string_bytes, String, Bor, sym, ap, ◌∙◌}
use Rattle.std.specs.Slice.{IsItemAt}
use Rattle.std.specs.declared.alloc.Global.{Global}
use Rattle.std.proofs.lemmas.Option.{slice_get-map, slice_get_past, slice_get_read}

-- an item that is lent
pub copied_here : {X : Type 0} (xs : List X) (i : ℕ) (r : Option (Bor X)) → IsItemAt xs i r →
    option_copied r ≡ slice_get xs i
copied_here xs i None p = sym (slice_get_past xs i p.3)
copied_here xs i (Some x) p = sym (slice_get_read xs (length xs) i x.now refl p.3.0 p.1)

-- a text that is lent
pub text_here : (xs : List (String Global)) (i : ℕ) (r : Option (Bor (String Global))) → IsItemAt xs i r →
    option_map (λ (x : Bor (String Global)). string_bytes x.now) r ≡ slice_get (map string_bytes xs) i
text_here xs i None p = ap (option_map string_bytes) (copied_here xs i None p) ∙ sym (slice_get-map string_bytes xs i)
text_here xs i (Some x) p =
    ap (option_map string_bytes) (copied_here xs i (Some x) p) ∙ sym (slice_get-map string_bytes xs i)
