-- Inner: what is written of the members of a report that may be left out.
use Rattle.std.specs.Prelude.{◌≡◌, ◌-◌, ◌<◌, ℕ, List, [], ◌∷◌, length, slice_index}
use Rattle.json.specs.Token.{Token, key, string}
use Rattle.sd_command_base.specs.declared.status.Status.{Status}
use Rattle.sd_command_base.specs.Texts.{line_of_status}

-- a text by its name, unless it is empty
abbrev pub text_tokens : List ℕ → List ℕ → List Token
text_tokens name [] = []
text_tokens name (byte ∷ bytes) = key name ∷ string (byte ∷ bytes) ∷ []

-- these bytes end with a line feed, or are none
abbrev pub EndsLine : List ℕ → Type 0
EndsLine line = 0 < length line → slice_index line (length line - 1) ≡ 10

-- so does the line of the status
abbrev pub HasFeed : Status → Type 0
HasFeed status = EndsLine (line_of_status status)
