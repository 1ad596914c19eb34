-- Public meaning: what a text of leaves says.
use Rattle.std.specs.Prelude.{ℕ, zero, suc, ◌+◌, ◌-◌, ◌^◌, ◌&&◌, Bool, true, false, not, nat_lt, List, []}
use Rattle.std.specs.Prelude.{length, get_or, map, slice_get}
use Rattle.std.specs.Prelude.{find, if◌then◌else◌, Option, Some, None, Result, Ok, Err}
use Rattle.std.specs.List.{range_with_len}
use Rattle.std.specs.Option.{option_map_or}
use Rattle.sd_base.specs.Lines.{lines_of}
use Rattle.sd_base.specs.Number.{decimal_value}

-- the number on a line, where it is a decimal
abbrev pub leaf_number_on : List (List ℕ) → ℕ → Option ℕ
leaf_number_on lines k = decimal_value (get_or lines k [])

-- the number on the line before is below this one; the first line has none before it
abbrev pub stands_above : List (List ℕ) → ℕ → ℕ → Bool
stands_above lines zero u = true
stands_above lines (suc k) u = option_map_or (λ w. nat_lt w u) (leaf_number_on lines k) false

-- line k, counted from 0, is a leaf of a tree of height h above that of the line before [this project, docs/FORMATS.md,
-- Leaves]
unfoldable pub is_leaf_line : ℕ → List (List ℕ) → ℕ → Bool
is_leaf_line h lines k =
    option_map_or (λ u. nat_lt u (2 ^ h) && stands_above lines k u) (leaf_number_on lines k) false

-- the first line that is none
unfoldable pub first_fault : ℕ → List (List ℕ) → Option ℕ
first_fault h lines = find (λ k. not (is_leaf_line h lines k)) (range_with_len 0 (length lines))

-- the leaves that a text says, or the number of its first bad line, counted from 1
-- [this project, docs/FORMATS.md, Leaves]
unfoldable pub leaves_of_text : ℕ → List ℕ → Result (List ℕ) ℕ
leaves_of_text h text = option_map_or (λ k. Err (k + 1))
    (first_fault h (lines_of text)) (Ok (map (λ line. option_map_or (λ u. u) (decimal_value line) 0) (lines_of text)))

-- the leaf on a line after these leaves, if it is one above the last [this project, docs/FORMATS.md, Leaves]
abbrev pub leaf_after : ℕ → List ℕ → Option ℕ → Option ℕ
leaf_after h before None = None
leaf_after h before (Some u) =
    if nat_lt u (2 ^ h) && option_map_or (λ w. nat_lt w u) (slice_get before (length before - 1)) true then Some u else
    None
