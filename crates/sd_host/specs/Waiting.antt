-- Public meaning: what a port with a buffer was given: the bytes that its writer has, and those that wait.
use Rattle.std.specs.Prelude.{ℕ, List, drop, Option}
use Rattle.std.specs.Io.KnownBytes.{append_known}

-- what a port with a buffer was given: what its writer holds, and then the bytes that wait from this place on
abbrev pub given_to : Option (List ℕ) → List ℕ → ℕ → Option (List ℕ)
given_to contents waiting sent = append_known contents (drop sent waiting)
