-- Public meaning: what a tally of commands keeps: a mark for each leaf, and two numbers.
use Rattle.std.specs.Prelude.{◌≡◌, ℕ, ◌+◌, Bool, List, [], ◌∷◌, map, length, if◌then◌else◌}
use Rattle.sd_tree_keys.specs.Leaves.{leaves}
use Rattle.sd_book.specs.declared.command.Command.{Command}
use Rattle.sd_book.specs.Commands.{is_revoked, revoked_after, last_period}

-- what is kept of these commands for a tree of height d: a mark for each leaf, the number of marked leaves, and the
-- period that they end in
pub record IsTally (d : ℕ) (commands : List Command) (kept : List Bool) (count number : ℕ) : Type 0 where
  pub marks : kept ≡ map (is_revoked commands) (leaves d)
  pub revoked : count ≡ length (revoked_after d commands)
  pub period : number ≡ last_period commands

-- the numbers of the marks that are set, where the first is that of number u
abbrev pub marked_from : ℕ → List Bool → List ℕ
marked_from u [] = []
marked_from u (mark ∷ marks) = if mark then u ∷ marked_from (u + 1) marks else marked_from (u + 1) marks
