-- Inner: the bytes that a field touches.
use Rattle.std.specs.Prelude.{◌≡◌, ℕ, ◌+◌, ◌*◌, ◌/◌, ◌%◌, ◌<◌, ◌≤◌}

-- from byte `first` on `count` bytes hold the field, and after it stand so many bits of the last
pub record IsSpan (at n first count after : ℕ) : Type 0 where
  pub first_byte : first ≡ at / 8
  pub bits : at % 8 + n + after ≡ 8 * count
  pub near : after < 8
  pub few : count ≤ 5
