-- Public meaning: broadcasts of which fewer packets arrive.
use Rattle.std.specs.Prelude.{◌≡◌, ℕ, true, false, List, [], ◌∷◌, get_or}
use Rattle.sd_law_losses.specs.Channel.{Arrival}

-- the broadcast is the same, and no packet of it arrives that doesn't arrive of the other
pub record IsFewerOf (run fewer : Arrival) : Type 0 where
  pub plan : fewer.plan ≡ run.plan
  pub clear : fewer.clear ≡ run.clear
  pub flags : (i : ℕ) → get_or fewer.flags i false ≡ true → get_or run.flags i false ≡ true

-- the broadcasts are the same, one after the other, and no packet arrives that doesn't arrive of the others
abbrev pub AreFewerOf : List Arrival → List Arrival → Type 0
AreFewerOf [] [] = Unit {0}
AreFewerOf [] (fewer ∷ fewers) = ⊥
AreFewerOf (run ∷ runs) [] = ⊥
AreFewerOf (run ∷ runs) (fewer ∷ fewers) = IsFewerOf run fewer × AreFewerOf runs fewers
