-- Public meaning: keys under keys.
use Rattle.std.specs.Prelude.{ℕ, List}
use Rattle.sd_cipher.specs.Keystream.{keystream, xored}

-- a text of 32 bytes wrapped under a key with a number: under the keystream of that key and stream number
-- [this project, docs/FORMATS.md, Keystream]
unfoldable pub wrapped : List ℕ → ℕ → List ℕ → List ℕ
wrapped key number text = xored text (keystream key number 32)
