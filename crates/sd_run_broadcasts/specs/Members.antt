-- Public meaning: the members of a report's line.
use Rattle.std.specs.Prelude.{ℕ, ◌-◌, List, [], ◌∷◌, length, take}
use Rattle.serde_json.specs.Data.{Members, number, unsigned, string, member}
use Rattle.sd_command_base.specs.declared.status.Status.{Status}
use Rattle.sd_command_base.specs.Texts.{line_of_status}

-- the text of a status: its line without the line feed
unfoldable pub text_of_status : Status → List ℕ
text_of_status status = take (length (line_of_status status) - 1) (line_of_status status)

-- a number before other members
abbrev pub num_member : List ℕ → ℕ → Members → Members
num_member key n more = member key (number (unsigned n)) more

-- a text before other members, unless it is empty
abbrev pub text_member : List ℕ → List ℕ → Members → Members
text_member key [] more = more
text_member key (byte ∷ bytes) more = member key (string (byte ∷ bytes)) more
