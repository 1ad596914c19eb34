-- The bytes that the generator gives, and what is laid over a text.
use Rattle.std.proofs.Common.{length-append, ℕ, zero, suc, ◌+◌, ◌*◌, ◌/◌, ◌%◌, ◌^◌, ◌<◌, ◌≤◌, ◌≡◌, List, [], ◌∷◌, ◌++◌}
use Rattle.std.proofs.Common.{length, take, drop, refl, sym, ◌∙◌, ap, ap₂, ◌-◌, arith, append_assoc, append-nil}
use Rattle.std.specs.Prelude.{bit_xor, slice_set, slice_index}
use Rattle.std.specs.Int.{w32, to_le_bytes}
use Rattle.std.proofs.lemmas.List.{length-take-le, take_all}
use Rattle.std.proofs.lemmas.Slice.{take-put_mid}
use borrow.Rule.Slice.PartMut.{put_mid}
use Rattle.std.specs.Int.Bits.{xor_assoc, xor_self, xor_zero_r}
use Rattle.rand_core.specs.Steps.{word_bytes, first_bytes, fill_via_u32}
use Rattle.rand_chacha.specs.ChaCha.{ChaCha, next_word, word_at, key_of}
use Rattle.sd_cipher.specs.Keystream.{stream_words, keystream, xored, IsFilled}

-- the generator of this key and stream number, k words on
abbrev at_place : List ℕ → ℕ → ℕ → ChaCha
at_place key number k = record { key = key_of key; stream = number; word_pos = k }

-- k words from a fresh generator are the stream's first
words_are : (key : List ℕ) (number k : ℕ) → k < 2 ^ 68
    → word_bytes (to_le_bytes w32) (next_word 10) k (at_place key number 0)
    ≡ (stream_words key number k, at_place key number k)
unfolding word_bytes stream_words
words_are key number zero h = refl
words_are key number (suc k) h =
    let place : (k + 1) % 2 ^ 68 ≡ suc k = omega arith in
    rw (words_are key number k (omega arith)) (
    ap (λ (p : ℕ). (
      stream_words key number k
          ++ to_le_bytes w32 (word_at 10 (key_of key) number k),
      at_place key number p,
    )) place)

-- what a fresh generator fills in is the keystream
pub fill_is : (key : List ℕ) (number n : ℕ) → n < 2 ^ 64
    → (fill_via_u32 (next_word 10) n (at_place key number 0)).0 ≡ keystream key number n
unfolding keystream
fill_is key number n h = ap (λ (p : List ℕ × ChaCha). take n p.0) (words_are key number ((n + 3) / 4) (omega arith))

words_length : (key : List ℕ) (number k : ℕ) → length (stream_words key number k) ≡ k * 4
unfolding stream_words
words_length key number zero = refl
words_length key number (suc k) =
    omega (
      arith,
      words_length key number k,
      length-append (stream_words key number k) (to_le_bytes w32 (word_at 10 (key_of key) number k)),
    )

-- a keystream has as many bytes as are asked for
pub keystream_length : (key : List ℕ) (number n : ℕ) → length (keystream key number n) ≡ n
unfolding keystream
keystream_length key number n =
    length-take-le n (stream_words key number ((n + 3) / 4)) (omega (arith, words_length key number ((n + 3) / 4)))

-- the words of a generator that has given k of them follow the stream's first k
words_on : (key : List ℕ) (number k j : ℕ) → k + j < 2 ^ 68
    → (stream_words key number k ++ (word_bytes (to_le_bytes w32) (next_word 10) j (at_place key number k)).0
    ≡ stream_words key number (k + j))
    × ((word_bytes (to_le_bytes w32) (next_word 10) j (at_place key number k)).1 ≡ at_place key number (k + j))
unfolding word_bytes stream_words
words_on key number k zero h =
    let none : k + 0 ≡ k = omega arith in
    rw none (append-nil (stream_words key number k), refl)
words_on key number k (suc j) h =
    let before = words_on key number k j (omega arith) in
    let p : List ℕ × ChaCha = word_bytes (to_le_bytes w32) (next_word 10) j (at_place key number k) in
    let next : k + suc j ≡ suc (k + j) = omega arith in
    let place : (k + j + 1) % 2 ^ 68 ≡ suc (k + j) = omega arith in
    rw next (
      sym (append_assoc (stream_words key number k) p.0 (to_le_bytes w32 (next_word 10 p.1).0))
          ∙ (ap (λ (bytes : List ℕ). bytes ++ to_le_bytes w32 (next_word 10 p.1).0) before.0
          ∙ ap (λ (q : ChaCha). stream_words key number (k + j) ++ to_le_bytes w32 (next_word 10 q).0) before.1),
      ap (λ (q : ChaCha). (next_word 10 q).1) before.1 ∙ ap (at_place key number) place,
    )

-- in whole words a keystream is its words
whole_words : (key : List ℕ) (number k n : ℕ) → k * 4 ≡ n → keystream key number n ≡ stream_words key number k
unfolding keystream
whole_words key number k n is =
    let words : (n + 3) / 4 ≡ k = omega arith in
    rw words (take_all n (stream_words key number k) (omega (arith, words_length key number k)))

-- bytes that are filled up to one place, and from there to another with what the generator gives
pub filled_on : (key : List ℕ) (number from to j : ℕ) (xs ys : List ℕ) (g h : ChaCha) → from ≤ to
    → to ≤ length xs → from % 4 ≡ 0 → to % 4 ≡ 0 → to < 2 ^ 64 → (ys, h) ≡ fill_via_u32 (next_word 10) j g
    → j ≡ to - from → IsFilled key number from xs g → IsFilled key number to (put_mid from (to - from) xs ys) h
filled_on key number from to j xs ys g h ordered within low high small drawn count is =
    let k : ℕ = from / 4 in
    let n : ℕ = (to - from) / 4 in
    let p : List ℕ × ChaCha = word_bytes (to_le_bytes w32) (next_word 10) n (at_place key number k) in
    let before = words_on key number k n (omega arith) in
    let words : (j + 3) / 4 ≡ n = omega arith in
    let given : (ys, h) ≡ first_bytes j p =
    drawn ∙ (ap (λ (m : ℕ). first_bytes j (word_bytes (to_le_bytes w32) (next_word 10) m g)) words
    ∙ ap (λ (q : ChaCha). first_bytes j (word_bytes (to_le_bytes w32) (next_word 10) n q)) is.next) in
    let long : length p.0 ≡ j =
    omega (
      arith,
      ap length before.0,
      length-append (stream_words key number k) p.0,
      words_length key number k,
      words_length key number (k + n),
    ) in
    let ys_are : ys ≡ p.0 =
    ap (λ (q : List ℕ × ChaCha). q.0) given ∙ take_all j p.0 (omega (arith, long)) in
    record {
      first =
          take-put_mid from (to - from) xs ys to (omega (arith, ap length ys_are, long)) (omega arith)
          ∙ (ap₂ ◌++◌ (is.first ∙ whole_words key number k from (omega arith)) ys_are
          ∙ (before.0 ∙ sym (whole_words key number (k + n) to (omega arith))));
      next =
          ap (λ (q : List ℕ × ChaCha). q.1) given ∙ (before.1 ∙ ap (at_place key number) (omega arith));
    }

-- a fresh generator has filled nothing
pub filled_none : (key : List ℕ) (number : ℕ) (bytes : List ℕ) (generator : ChaCha)
    → generator ≡ at_place key number 0 → IsFilled key number 0 bytes generator
unfolding keystream
filled_none key number bytes generator is = record { first = refl; next = is }

-- bytes that are filled to their end are the keystream's
pub filled_all : (key : List ℕ) (number n : ℕ) (bytes : List ℕ) (generator : ChaCha) → length bytes ≡ n
    → IsFilled key number n bytes generator → bytes ≡ keystream key number n
filled_all key number n bytes generator long is = sym (take_all n bytes (omega (arith, long))) ∙ is.first

-- a byte under another twice is the byte
xor_twice : (x y : ℕ) → bit_xor (bit_xor x y) y ≡ x
xor_twice x y = xor_assoc x y y ∙ (ap (bit_xor x) (xor_self y) ∙ xor_zero_r x)

-- a stream laid twice over a text leaves the text
pub xored_twice : (text stream : List ℕ) → length text ≤ length stream → xored (xored text stream) stream ≡ text
xored_twice [] ys h = refl
xored_twice (x ∷ xs) [] h = absurd (omega arith)
xored_twice (x ∷ xs) (y ∷ ys) h = rw (xor_twice x y) (ap (λ (r : List ℕ). x ∷ r) (xored_twice xs ys (omega arith)))

-- one byte more of the text is laid under the stream
pub laid_more : (text stream : List ℕ) (i : ℕ) → i < length text → length text ≡ length stream →
    take (i + 1) (slice_set text i (bit_xor (slice_index text i) (slice_index stream i)))
    ++ xored (drop (i + 1) (slice_set text i (bit_xor (slice_index text i) (slice_index stream i))))
    (drop (i + 1) stream) ≡ take i text ++ xored (drop i text) (drop i stream)
laid_more [] ys i h long = absurd (omega arith)
laid_more (x ∷ xs) [] i h long = absurd (omega arith)
laid_more (x ∷ xs) (y ∷ ys) zero h long = refl
laid_more (x ∷ xs) (y ∷ ys) (suc i) h long =
    let next : suc i + 1 ≡ suc (i + 1) = omega arith in
    rw next (ap (λ (r : List ℕ). x ∷ r) (laid_more xs ys i (omega arith) (omega arith)))

-- a text under a stream that is as long keeps its length
pub xored_length : (text stream : List ℕ) → length text ≤ length stream → length (xored text stream) ≡ length text
xored_length [] ys h = refl
xored_length (x ∷ xs) [] h = absurd (omega (arith, h))
xored_length (x ∷ xs) (y ∷ ys) h = ap suc (xored_length xs ys (omega (arith, h)))
