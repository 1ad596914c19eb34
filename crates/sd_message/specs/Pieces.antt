-- Public meaning: a message's items, shared out over its sections.
use Rattle.std.specs.Prelude.{ℕ, ◌+◌, ◌-◌, ◌*◌, ◌/◌, List, ◌++◌, length, take, drop, max, replicate, map}
use Rattle.std.specs.List.{range_with_len}

-- how many sections have room for so many items, n in each; there is one where there is no item
-- [this project, docs/FORMATS.md, Messages]
unfoldable pub pieces_for : ℕ → ℕ → ℕ
pieces_for n items = max 1 ((items + (n - 1)) / n)

-- the items of section x: those from n x on, n of them as far as they are there [this project, docs/FORMATS.md,
-- Messages]
abbrev pub piece_at : {A : Type 0} → ℕ → List A → ℕ → List A
piece_at n items x = take n (drop (n * x) items)

-- filled up to n
abbrev pub filled : {A : Type 0} → ℕ → A → List A → List A
filled n nothing items = items ++ replicate (n - length items) nothing

-- what is made of each number from 0 to n - 1
abbrev pub each_below : {B : Type 0} → (ℕ → B) → ℕ → List B
each_below make n = map make (range_with_len 0 n)
