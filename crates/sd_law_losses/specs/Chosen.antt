-- Public meaning: which members of a list are there.
use Rattle.std.specs.Prelude.{Bool, List, [], ◌∷◌, if◌then◌else◌}

-- the members whose Bool is true; what is after the last Bool isn't there
unfoldable pub chosen : {A : Type 0} → List Bool → List A → List A
chosen [] xs = []
chosen (f ∷ fs) [] = []
chosen (f ∷ fs) (x ∷ xs) = if f then x ∷ chosen fs xs else chosen fs xs
