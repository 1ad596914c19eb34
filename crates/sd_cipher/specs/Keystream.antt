-- Public meaning: keystreams, and texts under them.
use Rattle.std.specs.Prelude.{◌≡◌, ℕ, zero, suc, ◌+◌, ◌/◌, List, [], ◌∷◌, ◌++◌, take, bit_xor}
use Rattle.std.specs.Int.{w32, to_le_bytes}
use Rattle.rand_chacha.specs.ChaCha.{ChaCha, word_at, key_of}

-- the first k words of the ChaCha20 keystream with this 64-bit stream number from place 0 on, each as four
-- little-endian bytes [this project, docs/FORMATS.md, Keystream]
unfoldable pub stream_words : List ℕ → ℕ → ℕ → List ℕ
stream_words key number zero = []
stream_words key number (suc k) = stream_words key number k ++ to_le_bytes w32 (word_at 10 (key_of key) number k)

-- the first n bytes of that keystream [this project, docs/FORMATS.md, Keystream]
unfoldable pub keystream : List ℕ → ℕ → ℕ → List ℕ
keystream key number n = take n (stream_words key number ((n + 3) / 4))

-- the first n bytes are those of that keystream, in whole words, and the generator stands at the word after them
-- [this project, docs/FORMATS.md, Keystream]
pub record IsFilled (key : List ℕ) (number n : ℕ) (bytes : List ℕ) (generator : ChaCha) : Type 0 where
  pub first : take n bytes ≡ keystream key number n
  pub next : generator ≡ record { key = key_of key; stream = number; word_pos = n / 4 }

-- the text under a stream: the exclusive-or of both, byte by byte [this project, docs/FORMATS.md, Keystream]
abbrev pub xored : List ℕ → List ℕ → List ℕ
xored [] stream = []
xored (x ∷ text) [] = []
xored (x ∷ text) (y ∷ stream) = bit_xor x y ∷ xored text stream
