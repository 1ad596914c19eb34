-- Public meaning: counts of faults and of misses never fall, and stand at 2^64 - 1, a count's last value.
use Rattle.std.specs.Prelude.{◌≡◌, ℕ, ◌+◌, ◌-◌, ◌^◌, ◌<◌, ◌≤◌, min, Result, OnOk, OnErr}

-- the count rose: it is greater now, or stands at its last value [this project, docs/FORMATS.md, Counts]
abbrev pub HasRisen : ℕ → ℕ → Type 0
HasRisen before now = min (before + 1) (2 ^ 64 - 1) ≤ now

-- the count didn't rise, so nothing that it counts happened
abbrev pub HasNotRisen : ℕ → ℕ → Type 0
HasNotRisen before now = now < min (before + 1) (2 ^ 64 - 1)

-- the count with these added, up to its last value
abbrev pub with_added : ℕ → ℕ → ℕ
with_added count more = min (count + more) (2 ^ 64 - 1)

-- an error comes only where the count rose, and without one the count stands as before
pub record HasCause {T E : Type 0} (before now : ℕ) (result : Result T E) : Type 0 where
  pub later : before ≤ now
  pub failed : OnErr result (HasRisen before now)
  pub calm : OnOk result (now ≡ before)

-- the count rose where something failed, and else it stands as before
pub record IsCaused (before now : ℕ) (Failed : Type 0) : Type 0 where
  pub later : before ≤ now
  pub failed : Failed → HasRisen before now
  pub calm : ¬ Failed → now ≡ before
