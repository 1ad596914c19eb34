-- Public meaning: items of equally many bytes, one after the other.
use Rattle.std.specs.Prelude.{ℕ, zero, suc, Bool, true, ◌&&◌, List, [], ◌∷◌, take, drop}
use Rattle.std.specs.List.{list_all}

-- so many items, each read from so many bytes [this project, docs/FORMATS.md, Messages]
unfoldable pub items_in : {A : Type 0} → (List ℕ → A) → ℕ → ℕ → List ℕ → List A
items_in item width zero bytes = []
items_in item width (suc n) bytes = item (take width bytes) ∷ items_in item width n (drop width bytes)

-- whether each item stands so to all after it
unfoldable pub all_pairs : {A : Type 0} → (A → A → Bool) → List A → Bool
all_pairs stands [] = true
all_pairs stands (x ∷ xs) = list_all (stands x) xs && all_pairs stands xs
