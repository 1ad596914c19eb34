-- Public meaning: objects from lists of their members.
use Rattle.std.specs.Prelude.{ℕ, List, [], ◌∷◌, map}
use Rattle.std.specs.Borrow.{Bor}
use Rattle.serde_json.specs.Data.{Data, Members, object, no_members, put}
use Rattle.serde_json.specs.View.{view}
use Rattle.serde_json.specs.declared.value.Value.{Value}

-- members, once these are put among them in turn
abbrev pub members_with_entries : List (List ℕ × Data) → Members → Members
members_with_entries [] members = members
members_with_entries (m ∷ ms) members = members_with_entries ms (put m.0 m.1 members)

-- the names and the data of some values
abbrev pub named_data : List (Bor (List ℕ) × Value) → List (List ℕ × Data)
named_data values = map (λ v. (v.0.now, view v.1)) values

-- the object of these members
abbrev pub object_by : List (Bor (List ℕ) × Value) → Data
object_by values = object (members_with_entries (named_data values) no_members)
