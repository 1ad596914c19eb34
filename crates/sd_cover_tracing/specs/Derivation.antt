-- Public meaning: what is derivable from what is held, by rules that make one thing from another.
use Rattle.std.specs.Prelude.{◌⊎◌, List, [], ◌∷◌, Contains}

-- a list, the last one first, of which each is held or follows from an earlier one
abbrev pub IsDerivation : {S : Type 0} → (S → Type 0) → (S → S → Type 0) → List S → Type 0
IsDerivation held follows [] = Unit {0}
IsDerivation {S = S} held follows (last ∷ earlier) =
    (held last ⊎ ((from : S) × Contains earlier from × follows from last)) × IsDerivation held follows earlier

-- it is derivable from what is held: some derivation ends with it
unfoldable pub IsDerived : {S : Type 0} → (S → Type 0) → (S → S → Type 0) → S → Type 0
IsDerived {S = S} held follows last = (earlier : List S) × IsDerivation held follows (last ∷ earlier)
