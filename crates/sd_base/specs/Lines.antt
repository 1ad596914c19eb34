-- Public meaning: the lines of a text, and a line cut at its first space [this project, docs/FORMATS.md, Text files].
use Rattle.std.specs.Prelude.{ℕ, ◌==◌, Bool, not, List, [], ◌∷◌, if◌then◌else◌, Option, Some, None, option_map}
use Rattle.std.specs.List.{list_all}

-- the byte before the first of these lines
abbrev pub onto_first_line : ℕ → List (List ℕ) → List (List ℕ)
onto_first_line byte [] = (byte ∷ []) ∷ []
onto_first_line byte (line ∷ lines) = (byte ∷ line) ∷ lines

-- the text cut at its line feeds, where an empty last piece is no line [this project, docs/FORMATS.md, Text files]
abbrev pub lines_of : List ℕ → List (List ℕ)
lines_of [] = []
lines_of (byte ∷ bytes) = if byte == 10 then [] ∷ lines_of bytes else onto_first_line byte (lines_of bytes)

-- bytes that can stand on one line: none is a line feed [this project, docs/FORMATS.md, Text files]
abbrev pub is_line : List ℕ → Bool
is_line = list_all (λ byte. not (byte == 10))

-- the byte before the first of two parts
abbrev pub onto_first_part : ℕ → List ℕ × List ℕ → List ℕ × List ℕ
onto_first_part byte parts = (byte ∷ parts.0, parts.1)

-- what stands before the first space, and after it
abbrev pub cut_at_space : List ℕ → Option (List ℕ × List ℕ)
cut_at_space [] = None
cut_at_space (byte ∷ bytes) =
    if byte == 32 then Some ([], bytes) else option_map (onto_first_part byte) (cut_at_space bytes)
