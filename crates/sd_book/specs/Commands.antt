-- Public meaning: a book is a list of commands. Its periods are cut by its Period commands.
use Rattle.std.specs.Prelude.{ℕ, zero, suc, ◌==◌, ◌^◌, Bool, true, false, nat_lt, List, [], ◌∷◌, reverse, filter, find}
use Rattle.std.specs.Prelude.{count_by, if◌then◌else◌, Option}
use Rattle.std.specs.Option.{option_map_or}
use Rattle.sd_tree_keys.specs.Leaves.{leaves, unrevoked, with_leaf, without_leaf}
use Rattle.sd_book.specs.declared.command.Command.{Command}
use Rattle.sd_book.specs.declared.command.Command.TheVariants.{Subscribe, Revoke, Period}

abbrev pub is_period : Command → Bool
is_period (Subscribe u) = false
is_period (Revoke u) = false
is_period Period = true

abbrev pub is_revoke : Command → Bool
is_revoke (Subscribe u) = false
is_revoke (Revoke u) = true
is_revoke Period = false

-- the command is on this leaf
abbrev pub is_on : ℕ → Command → Bool
is_on leaf (Subscribe u) = u == leaf
is_on leaf (Revoke u) = u == leaf
is_on leaf Period = false

-- the command's leaf, where it has one, is a leaf of a tree of height d
abbrev pub is_within : ℕ → Command → Bool
is_within d (Subscribe u) = nat_lt u (2 ^ d)
is_within d (Revoke u) = nat_lt u (2 ^ d)
is_within d Period = true

-- the number of the last period
abbrev pub last_period : List Command → ℕ
last_period commands = count_by is_period commands

-- the commands that decide period q: those before the (q+1)-th Period, or all where q is the last period
-- [this project, docs/FORMATS.md, Book]
abbrev pub commands_until : ℕ → List Command → List Command
commands_until q [] = []
commands_until zero (command ∷ commands) = if is_period command then [] else command ∷ commands_until zero commands
commands_until (suc q) (command ∷ commands) = command ∷ commands_until (if is_period command then q else suc q) commands

-- the commands of period q alone: those after the q-th Period, up to the next
abbrev pub commands_in : List Command → ℕ → List Command
commands_in [] q = []
commands_in (command ∷ commands) zero = if is_period command then [] else command ∷ commands_in commands zero
commands_in (command ∷ commands) (suc q) = commands_in commands (if is_period command then q else suc q)

-- the last command on a leaf
unfoldable pub last_on : ℕ → List Command → Option Command
last_on leaf commands = find (is_on leaf) (reverse commands)

-- the last command on the leaf is a revoke
abbrev pub is_revoked : List Command → ℕ → Bool
is_revoked commands leaf = option_map_or is_revoke (last_on leaf commands) false

-- the leaves that are revoked after these commands, ascending
abbrev pub revoked_after : ℕ → List Command → List ℕ
revoked_after d commands = filter (is_revoked commands) (leaves d)

-- the leaves that are revoked in period q of a book for a tree of height d, ascending [this project, docs/FORMATS.md,
-- Book]
abbrev pub revoked : ℕ → List Command → ℕ → List ℕ
revoked d commands q = revoked_after d (commands_until q commands)

-- the leaves that are entitled in period q: those that are not revoked in it, ascending [this project, docs/FORMATS.md,
-- Book]
abbrev pub entitled : ℕ → List Command → ℕ → List ℕ
entitled d commands q = unrevoked d (revoked d commands q)

-- revoked leaves, ascending, after one more command: a revoke adds its leaf, a subscribe takes it out
abbrev pub after_command : ℕ → List ℕ → Command → List ℕ
after_command d leaves (Subscribe u) = without_leaf u leaves
after_command d leaves (Revoke u) = with_leaf d u leaves
after_command d leaves Period = leaves

-- and after more of them
abbrev pub after_commands : ℕ → List ℕ → List Command → List ℕ
after_commands d leaves [] = leaves
after_commands d leaves (command ∷ commands) = after_commands d (after_command d leaves command) commands
