-- Public meaning: how a line on the standard error quotes an argument, and a line of a file
-- [this project, docs/FORMATS.md, Explanations].
use Rattle.std.specs.Prelude.{ℕ, List, [], ◌∷◌, ◌++◌, codes, take, Bool, nat_lt, nat_le, not, ◌||◌, ◌&&◌}
use Rattle.std.specs.Prelude.{if◌then◌else◌}
use Rattle.std.specs.List.{flat_map}
use Rattle.std.specs.Str.{chars}
use Rattle.std.specs.Prelude.{encode_utf8}
use Rattle.hex.specs.Hex.{encode_lower}
use Rattle.sd_command_base.specs.declared.bad_line.Excerpt.{Excerpt}

-- a control character: of C0, DEL, or of C1 [ISO/IEC 6429]
abbrev pub is_control_character : ℕ → Bool
is_control_character c = nat_lt c 0x20 || (not (nat_lt c 0x7f) && nat_lt c 0xa0)

-- a byte as `\x` and two hexadecimal digits
unfoldable pub escaped_byte : ℕ → List ℕ
escaped_byte byte = codes "\\x" ++ encode_lower (byte ∷ [])

-- a control character by its bytes, any other as it is
unfoldable pub escaped_char : ℕ → List ℕ
escaped_char c = if is_control_character c then flat_map escaped_byte (encode_utf8 c) else encode_utf8 c

-- a text without control characters
unfoldable pub escaped : List ℕ → List ℕ
escaped text = flat_map escaped_char (chars text)

-- a byte of printable ASCII as it is, another as `\x` and two hexadecimal digits
unfoldable pub shown_byte : ℕ → List ℕ
shown_byte byte = if nat_le 0x20 byte && nat_le byte 0x7e then byte ∷ [] else escaped_byte byte

-- a line of a file as far as it is shown
unfoldable pub quoted : Excerpt → List ℕ
quoted excerpt = flat_map shown_byte (take excerpt.length excerpt.bytes)
