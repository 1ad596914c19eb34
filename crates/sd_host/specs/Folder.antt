-- Inner: the folder of a file, by the file's name.
use Rattle.std.specs.Prelude.{ℕ, List, [], ◌∷◌, Option, Some, None}
use Rattle.std.specs.Path.{path_parent}

-- the folder in which a name is looked up that stands in this folder: the current one if that is the empty name
-- [POSIX, dirname]
abbrev pub or_current : Option (List ℕ) → List ℕ
or_current (Some (byte ∷ bytes)) = byte ∷ bytes
or_current (Some []) = 46 ∷ []
or_current None = 46 ∷ []

-- the folder of the file of this name
abbrev pub folder_in : List ℕ → List ℕ
folder_in name = or_current (path_parent name)
