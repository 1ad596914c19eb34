-- The bytes of names.
use Rattle.std.proofs.Common.{arith, ◌≡◌, ℕ, ◌<◌, ◌≤◌, true, List, [], ◌∷◌, zero, suc, length}
use Rattle.std.proofs.lemmas.Grind.{common_steps}
use Rattle.std.proofs.lemmas.Str.{IsUtf8-from_ascii}
use Rattle.std.specs.List.{list_all}
use Rattle.std.specs.Str.{IsAscii, IsUtf8}
use Rattle.sd_run_books.specs.Line.{is_name, is_name_byte, longest_name}

-- a byte of a name is ASCII
small_byte : (byte : ℕ) → is_name_byte byte ≡ true → byte < 128
small_byte byte h = grind (arith, common_steps)

-- and so are all
all_small : (text : List ℕ) → list_all is_name_byte text ≡ true → IsAscii text
all_small [] h i = omega arith
all_small (byte ∷ bytes) h zero =
    let parts : (is_name_byte byte ≡ true) × (list_all is_name_byte bytes ≡ true) = grind (arith, common_steps) in
    small_byte byte parts.0
all_small (byte ∷ bytes) h (suc i) =
    let parts : (is_name_byte byte ≡ true) × (list_all is_name_byte bytes ≡ true) = grind (arith, common_steps) in
    all_small bytes parts.1 i

-- a name is a text
pub name_is_utf8 : (text : List ℕ) → is_name text ≡ true → IsUtf8 text
unfolding is_name
name_is_utf8 text h =
    let all : list_all is_name_byte text ≡ true = grind (arith, common_steps) in
    IsUtf8-from_ascii text (all_small text all)

-- a name isn't longer than the longest
pub name_fits : (text : List ℕ) → is_name text ≡ true → length text ≤ longest_name
unfolding is_name
name_fits text h = grind (arith, common_steps)
