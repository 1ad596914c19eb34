-- Public meaning: the rule that a refused line of accounts breaks [this project, docs/FORMATS.md, Explanations].
use Rattle.std.specs.Prelude.{ℕ, ◌+◌, ◌-◌, ◌==◌, ◌&&◌, Bool, false, List, [], ◌∷◌, take, codes, bytes_eq, is_some}
use Rattle.std.specs.Prelude.{if◌then◌else◌, Option, Some, None}
use Rattle.sd_base.specs.Lines.{cut_at_space}
use Rattle.sd_base.specs.Number.{decimal_value, rest_after}
use Rattle.sd_command_base.specs.declared.bad_line.LineCause.{LineCause}
use Rattle.sd_command_base.specs.declared.bad_line.LineCause.TheVariants.{Form, Held, Leaf, Named, Unknown}
use Rattle.sd_command_base.specs.declared.bad_line.BadLine.{BadLine}
use Rattle.sd_command_base.specs.BadLines.{bad_line, line_numbered, malformed}
use Rattle.sd_run_books.specs.Line.{Entry, Assigns, Drops, Restores, Ends, entry_on, is_name, said_by_accounts}

-- a name and a decimal, however large
abbrev pub has_number : Option (List ℕ × List ℕ) → Bool
has_number None = false
has_number (Some parts) = is_name parts.0 && is_some (decimal_value parts.1)

abbrev pub is_numbered : Option (List ℕ) → Bool
is_numbered None = false
is_numbered (Some text) = has_number (cut_at_space text)

-- the line assigns a number to a name
unfoldable pub assigns_number : List ℕ → Bool
assigns_number line = is_numbered (rest_after (codes "assign ") line)

-- line k, which isn't one of the lines of accounts, or whose leaf isn't in the tree of height d
unfoldable pub bad_entry : ℕ → ℕ → List ℕ → BadLine
bad_entry d k bytes =
    if assigns_number (line_numbered k bytes) then bad_line (Leaf d) k bytes else malformed k bytes

-- the first of these lines, the first of which is line k, that binds the name or the leaf u
abbrev pub clash_from : ℕ → List ℕ → ℕ → List (Option Entry) → LineCause
clash_from k name u [] = Form
clash_from k name u (None ∷ said) = clash_from (k + 1) name u said
clash_from k name u (Some (Assigns other v) ∷ said) =
    if bytes_eq name other then Held v k else if v == u then Named k else clash_from (k + 1) name u said
clash_from k name u (Some (Drops other) ∷ said) = clash_from (k + 1) name u said
clash_from k name u (Some (Restores other) ∷ said) = clash_from (k + 1) name u said
clash_from k name u (Some Ends ∷ said) = clash_from (k + 1) name u said

-- the line before with which a line clashes that says this after those lines
abbrev pub entry_clash : Option Entry → List (Option Entry) → LineCause
entry_clash None before = Form
entry_clash (Some (Assigns name u)) before = clash_from 1 name u before
entry_clash (Some (Drops name)) before = Form
entry_clash (Some (Restores name)) before = Form
entry_clash (Some Ends) before = Form

-- line k, whose name or leaf is bound by a line before
unfoldable pub taken_entry : ℕ → ℕ → List ℕ → BadLine
taken_entry d k bytes =
    bad_line (entry_clash (entry_on d (line_numbered k bytes)) (take (k - 1) (said_by_accounts d bytes))) k bytes

-- line k, whose name is bound by no line before
abbrev pub unknown_entry : ℕ → List ℕ → BadLine
unknown_entry k bytes = bad_line Unknown k bytes
