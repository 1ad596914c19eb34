-- What wrapping twice comes to.
use Rattle.std.proofs.Common.{ℕ, ◌≡◌, List, length, arith}
use Rattle.sd_cipher.proofs.Streams.{keystream_length, xored_twice}
use Rattle.sd_cipher.specs.Keystream.{keystream, xored}
use Rattle.sd_cipher.specs.Wrapping.{wrapped}

-- a text wrapped twice is the text
pub twice : (key text : List ℕ) (number : ℕ) → length text ≡ 32 → wrapped key number (wrapped key number text) ≡ text
unfolding wrapped
twice key text number long = xored_twice text (keystream key number 32) (omega (arith, keystream_length key number 32))

-- and so is what came of it
pub back : (key text out : List ℕ) (number : ℕ) → length text ≡ 32 → out ≡ xored text (keystream key number 32)
    → wrapped key number out ≡ text
unfolding wrapped
back key text out number long e = rw e (twice key text number long)
