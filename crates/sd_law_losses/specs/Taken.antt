-- Public meaning: how many numbers pass a test, and how many packets take a period's key.
use Rattle.std.specs.Prelude.{ℕ, zero, suc, ◌+◌, Bool, if◌then◌else◌}
pub use Rattle.sd_spec.specs.Taken.{takes_key_of}
unfoldable pub use Rattle.sd_spec.specs.Taken.{takes_key, takes_key_at, taken_keys}

-- how many numbers below n pass
unfoldable pub how_many : (ℕ → Bool) → ℕ → ℕ
how_many test zero = 0
how_many test (suc n) = how_many test n + (if test n then 1 else 0)
