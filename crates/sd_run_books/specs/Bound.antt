-- Public meaning: which name is bound to which leaf. A name and its leaf stay bound for good [this
-- project, docs/FORMATS.md, Accounts].
use Rattle.std.specs.Prelude.{ℕ, ◌==◌, Bool, false, List, [], ◌∷◌, bytes_eq, if◌then◌else◌, Option, Some, None}
use Rattle.std.specs.List.{list_any}
use Rattle.sd_run_books.specs.Line.{Entry, Assigns, Drops, Restores, Ends}

-- the leaf to which this line binds the name
abbrev pub leaf_on : List ℕ → Option Entry → Option ℕ
leaf_on name None = None
leaf_on name (Some (Assigns other u)) = if bytes_eq name other then Some u else None
leaf_on name (Some (Drops other)) = None
leaf_on name (Some (Restores other)) = None
leaf_on name (Some Ends) = None

-- the first of two that is there
abbrev pub first_number_there : Option ℕ → Option ℕ → Option ℕ
first_number_there (Some u) other = Some u
first_number_there None other = other

-- the leaf to which these lines bind the name: that of the first that assigns it
abbrev pub leaf_of : List ℕ → List (Option Entry) → Option ℕ
leaf_of name [] = None
leaf_of name (said ∷ others) = first_number_there (leaf_on name said) (leaf_of name others)

-- this line binds a name to the leaf
abbrev pub holds : ℕ → Option Entry → Bool
holds u None = false
holds u (Some (Assigns name leaf)) = leaf == u
holds u (Some (Drops name)) = false
holds u (Some (Restores name)) = false
holds u (Some Ends) = false

-- one of these lines does
abbrev pub is_held : ℕ → List (Option Entry) → Bool
is_held u said = list_any (holds u) said
