-- Four and eight bytes at a time, and a CRC after its bytes.
use Rattle.std.proofs.Common.{ℕ, suc, ◌+◌, ◌*◌, ◌/◌, ◌%◌, ◌^◌, ◌<◌, ◌≡◌, List, [], ◌∷◌, ◌++◌, length, get_or, drop}
use Rattle.std.proofs.Common.{drop-cons, refl, sym, ap, ◌∙◌, arith}
use Rattle.std.specs.Prelude.{bit_xor}
use Rattle.std.specs.Int.{w32, to_be_bytes, from_be_bytes}
use Rattle.std.proofs.lemmas.List.{drop_all}
use Rattle.std.proofs.lemmas.Nat.{xor_of_32, xor_comm}
use lib.Bits.{xor_self}
use Rattle.sd_section.specs.Crc.{after_bits, after_byte, after_bytes, crc_of}
use Rattle.sd_section.specs.Steps.{steps, byte_register}
use Rattle.sd_section.proofs.Xor.{xor_apart, xor_scaled, xor_swap}
use Rattle.sd_section.proofs.Numbers.{steps_xor, steps_more, steps_move, steps_zero, bits_at_top, bits_split}
use Rattle.sd_section.proofs.Numbers.{bits_below}
use Rattle.sd_section.proofs.Numbers.{byte_same}

-- some bytes and some more
pub bytes_more : (x : ℕ) (xs ys : List ℕ) → after_bytes x (xs ++ ys) ≡ after_bytes (after_bytes x xs) ys
unfolding after_bytes
bytes_more x [] ys = refl
bytes_more x (byte ∷ xs) ys = bytes_more (after_byte x byte) xs ys

-- a register stays a number of 32 bits
pub bytes_below : (x : ℕ) (bytes : List ℕ) → x < 2 ^ 32 → after_bytes x bytes < 2 ^ 32
unfolding after_bytes
bytes_below x [] h = h
bytes_below x (byte ∷ bytes) h = bytes_below (after_byte x byte) bytes (bits_below 8 x byte h)

-- four bytes are the number that they make
pub four_bytes : (x a b c d word : ℕ) → x < 2 ^ 32 → word < 2 ^ 32 → word / 2 ^ 24 % 256 ≡ a % 256
    → word / 2 ^ 16 % 256 ≡ b % 256 →
    word / 2 ^ 8 % 256 ≡ c % 256 → word % 256 ≡ d % 256 →
    after_bytes x (a ∷ b ∷ c ∷ d ∷ []) ≡ steps 32 (bit_xor x word)
unfolding after_bytes
four_bytes x a b c d word h w ea eb ec ed =
    let x1 : ℕ = after_bits x (word / 2 ^ 24) 8 in
    let x2 : ℕ = after_bits x1 (word / 2 ^ 16) 8 in
    let x3 : ℕ = after_bits x2 (word / 2 ^ 8) 8 in
    let h1 : x1 < 2 ^ 32 = bits_below 8 x (word / 2 ^ 24) h in
    let h2 : x2 < 2 ^ 32 = bits_below 8 x1 (word / 2 ^ 16) h1 in
    let h3 : x3 < 2 ^ 32 = bits_below 8 x2 (word / 2 ^ 8) h2 in
    let first : after_bits x a 8 ≡ x1 = byte_same x a (word / 2 ^ 24) h (sym ea) in
    let second : after_bits x1 b 8 ≡ x2 = byte_same x1 b (word / 2 ^ 16) h1 (sym eb) in
    let third : after_bits x2 c 8 ≡ x3 = byte_same x2 c (word / 2 ^ 8) h2 (sym ec) in
    let fourth : after_bits x3 d 8 ≡ after_bits x3 word 8 = byte_same x3 d word h3 (sym ed) in
    let whole : after_bits x word 32 ≡ after_bits x3 word 8 =
    bits_split 8 24 x word ∙ (bits_split 8 16 x1 word ∙ bits_split 8 8 x2 word) in
    let all : word % 2 ^ 32 * 2 ^ 0 ≡ word = omega arith in
    ap (λ (y : ℕ). after_bits (after_bits (after_bits y b 8) c 8) d 8) first
    ∙ (ap (λ (y : ℕ). after_bits (after_bits y c 8) d 8) second
    ∙ (ap (λ (y : ℕ). after_bits y d 8) third
    ∙ (fourth
    ∙ (sym whole
    ∙ (bits_at_top 32 0 x word refl h
    ∙ ap (λ (y : ℕ). steps 32 (bit_xor x y)) all)))))

-- after some bytes and the register that they led to, the register is 0
pub own_register : (x : ℕ) → x < 2 ^ 32 → after_bytes x (to_be_bytes w32 x) ≡ 0
own_register x h =
    four_bytes x (x / 256 ^ 3 % 256) (x / 256 ^ 2 % 256) (x / 256 ^ 1 % 256) (x % 256) x h h (omega arith) (omega arith)
    (omega arith) (omega arith)
    ∙ ap (steps 32) (xor_self x) ∙ steps_zero 32

-- a CRC has 32 bits
pub crc_below : (bytes : List ℕ) → crc_of bytes < 2 ^ 32
unfolding crc_of
crc_below bytes = bytes_below 0xFFFFFFFF bytes (omega arith)

-- the CRC of bytes with their own CRC after them is 0
pub crc_of_sealed : (bytes : List ℕ) → crc_of (bytes ++ to_be_bytes w32 (crc_of bytes)) ≡ 0
unfolding crc_of
crc_of_sealed bytes =
    bytes_more 0xFFFFFFFF bytes (to_be_bytes w32 (after_bytes 0xFFFFFFFF bytes)) ∙
    own_register (after_bytes 0xFFFFFFFF bytes) (crc_below bytes)

-- a number of four bytes is the sum of those bytes, each in its place
four_parts : (word : ℕ) → word < 2 ^ 32 →
    bit_xor (bit_xor (bit_xor (word / 256 ^ 3 % 256 * 2 ^ 24) (word / 256 ^ 2 % 256 * 2 ^ 16))
    (word / 256 ^ 1 % 256 * 2 ^ 8)) (word % 256) ≡ word
four_parts word h =
    let two : bit_xor (word / 256 ^ 3 % 256 * 2 ^ 24) (word / 256 ^ 2 % 256 * 2 ^ 16) ≡ word / 2 ^ 16 * 2 ^ 16 =
    xor_apart (word / 256 ^ 3 % 256) 24 (word / 256 ^ 2 % 256 * 2 ^ 16) (omega arith) ∙ omega arith in
    let three : bit_xor (word / 2 ^ 16 * 2 ^ 16) (word / 256 ^ 1 % 256 * 2 ^ 8) ≡ word / 2 ^ 8 * 2 ^ 8 =
    xor_apart (word / 2 ^ 16) 16 (word / 256 ^ 1 % 256 * 2 ^ 8) (omega arith) ∙ omega arith in
    let four : bit_xor (word / 2 ^ 8 * 2 ^ 8) (word % 256) ≡ word =
    xor_apart (word / 2 ^ 8) 8 (word % 256) (omega arith) ∙ omega arith in
    ap (λ (n : ℕ). bit_xor (bit_xor n (word / 256 ^ 1 % 256 * 2 ^ 8)) (word % 256)) two
    ∙ (ap (λ (n : ℕ). bit_xor n (word % 256)) three ∙ four)

-- bits 0 move a byte to the top, and act on it there
moved_first : (m n byte : ℕ) → byte * 2 ^ m < 2 ^ 32 → steps (m + n) byte ≡ steps n (byte * 2 ^ m)
moved_first m n byte h = steps_more m n byte ∙ ap (steps n) (steps_move m byte h)

-- the register of a number under bits 0 is the sum of those of its bytes
pub of_bytes : (after word : ℕ) → word < 2 ^ 32 →
    bit_xor (bit_xor (bit_xor (byte_register (after + 3) (word / 256 ^ 3 % 256)) (byte_register (after + 2)
    (word / 256 ^ 2 % 256)))
    (byte_register (after + 1) (word / 256 ^ 1 % 256))) (byte_register after (word % 256)) ≡ steps (8 * after + 32) word
unfolding byte_register
of_bytes after word h =
    let n : ℕ = 8 * after + 32 in
    let a : ℕ = word / 256 ^ 3 % 256 * 2 ^ 24 in
    let b : ℕ = word / 256 ^ 2 % 256 * 2 ^ 16 in
    let c : ℕ = word / 256 ^ 1 % 256 * 2 ^ 8 in
    let d : ℕ = word % 256 in
    let ha : a < 2 ^ 32 = omega arith in
    let hb : b < 2 ^ 32 = omega arith in
    let hc : c < 2 ^ 32 = omega arith in
    let hd : d < 2 ^ 32 = omega arith in
    let hab : bit_xor a b < 2 ^ 32 = xor_of_32 a b ha hb in
    let habc : bit_xor (bit_xor a b) c < 2 ^ 32 = xor_of_32 (bit_xor a b) c hab hc in
    let na : 8 * (after + 3) + 8 ≡ n = omega arith in
    let nb : 8 + (8 * (after + 2) + 8) ≡ n = omega arith in
    let nc : 16 + (8 * (after + 1) + 8) ≡ n = omega arith in
    let nd : 24 + (8 * after + 8) ≡ n = omega arith in
    let ea : steps (8 * (after + 3) + 8) a ≡ steps n a = ap (λ (k : ℕ). steps k a) na in
    let tb : b * 2 ^ 8 ≡ word / 256 ^ 2 % 256 * 2 ^ 24 = omega arith in
    let tc : c * 2 ^ 16 ≡ word / 256 ^ 1 % 256 * 2 ^ 24 = omega arith in
    let eb : steps (8 * (after + 2) + 8) (word / 256 ^ 2 % 256 * 2 ^ 24) ≡ steps n b =
    ap (steps (8 * (after + 2) + 8)) (sym tb)
    ∙ (sym (moved_first 8 (8 * (after + 2) + 8) b (omega arith)) ∙ ap (λ (k : ℕ). steps k b) nb) in
    let ec : steps (8 * (after + 1) + 8) (word / 256 ^ 1 % 256 * 2 ^ 24) ≡ steps n c =
    ap (steps (8 * (after + 1) + 8)) (sym tc)
    ∙ (sym (moved_first 16 (8 * (after + 1) + 8) c (omega arith)) ∙ ap (λ (k : ℕ). steps k c) nc) in
    let ed : steps (8 * after + 8) (d * 2 ^ 24) ≡ steps n d =
    sym (moved_first 24 (8 * after + 8) d (omega arith)) ∙ ap (λ (k : ℕ). steps k d) nd in
    let whole : steps n word ≡ steps n (bit_xor (bit_xor (bit_xor a b) c) d) = ap (steps n) (sym (four_parts word h)) in
    let split : steps n (bit_xor (bit_xor (bit_xor a b) c) d) ≡
    bit_xor (bit_xor (bit_xor (steps n a) (steps n b)) (steps n c)) (steps n d) =
    steps_xor n (bit_xor (bit_xor a b) c) d habc hd
    ∙ ap (λ (k : ℕ). bit_xor k (steps n d)) (steps_xor n (bit_xor a b) c hab hc
    ∙ ap (λ (k : ℕ). bit_xor k (steps n c)) (steps_xor n a b ha hb)) in
    ap (λ (k : ℕ). bit_xor
    (bit_xor (bit_xor k (steps (8 * (after + 2) + 8) (word / 256 ^ 2 % 256 * 2 ^ 24)))
    (steps (8 * (after + 1) + 8) (word / 256 ^ 1 % 256 * 2 ^ 24))) (steps (8 * after + 8) (d * 2 ^ 24))) ea
    ∙ (ap (λ (k : ℕ). bit_xor
    (bit_xor (bit_xor (steps n a) k) (steps (8 * (after + 1) + 8) (word / 256 ^ 1 % 256 * 2 ^ 24)))
    (steps (8 * after + 8) (d * 2 ^ 24))) eb
    ∙ (ap (λ (k : ℕ). bit_xor (bit_xor (bit_xor (steps n a) (steps n b)) k) (steps (8 * after + 8) (d * 2 ^ 24))) ec
    ∙ (ap (λ (k : ℕ). bit_xor (bit_xor (bit_xor (steps n a) (steps n b)) (steps n c)) k) ed
    ∙ (sym split ∙ sym whole))))

-- eight bytes are the two numbers that they make
two_words : (x first second : ℕ) (xs ys : List ℕ) → x < 2 ^ 32 → first < 2 ^ 32 → second < 2 ^ 32 →
    after_bytes x xs ≡ steps 32 (bit_xor x first) →
    after_bytes (after_bytes x xs) ys ≡ steps 32 (bit_xor (after_bytes x xs) second) →
    bit_xor (steps 64 (bit_xor x first)) (steps 32 second) ≡ after_bytes x (xs ++ ys)
two_words x first second xs ys hx hf hs ef eb =
    let sum : bit_xor x first < 2 ^ 32 = xor_of_32 x first hx hf in
    let more : steps 64 (bit_xor x first) ≡ steps 32 (steps 32 (bit_xor x first)) =
    steps_more 32 32 (bit_xor x first) in
    ap (λ (k : ℕ). bit_xor k (steps 32 second)) (more ∙ ap (steps 32) (sym ef))
    ∙ (sym (steps_xor 32 (after_bytes x xs) second (bytes_below x xs hx) hs)
    ∙ (sym eb ∙ sym (bytes_more x xs ys)))

-- a list of eight, each written out
pub eight_listed : (bs : List ℕ) → length bs ≡ 8 →
    bs ≡ get_or bs 0 0 ∷ get_or bs 1 0 ∷ get_or bs 2 0 ∷ get_or bs 3 0 ∷ get_or bs 4 0 ∷ get_or bs 5 0 ∷ get_or bs 6 0 ∷
    get_or bs 7 0 ∷ []
eight_listed bs long =
    let one : (i : ℕ) → i < 8 → drop i bs ≡ get_or bs i 0 ∷ drop (suc i) bs = λ i h. drop-cons bs i 0 (omega arith) in
    let next : (i : ℕ) (rest : List ℕ) → i < 8 → drop (suc i) bs ≡ rest →
    drop i bs ≡ get_or bs i 0 ∷ rest = λ i rest h e. one i h ∙ ap (λ (l : List ℕ). get_or bs i 0 ∷ l) e in
    let end : drop 8 bs ≡ [] = drop_all 8 bs (omega arith) in
    next 0 _ (omega arith) (next 1 _ (omega arith) (next 2 _ (omega arith) (next 3 _ (omega arith)
    (next 4 _ (omega arith) (next 5 _ (omega arith) (next 6 _ (omega arith) (next 7 _ (omega arith) end)))))))

-- eight bytes are their first four as a number, and their last four
pub eight_bytes : (x first second : ℕ) (bs : List ℕ) → x < 2 ^ 32 → length bs ≡ 8 → ((i : ℕ) → get_or bs i 0 < 256) →
    first ≡ from_be_bytes w32 (get_or bs 0 0 ∷ get_or bs 1 0 ∷ get_or bs 2 0 ∷ get_or bs 3 0 ∷ []) →
    second ≡ from_be_bytes w32 (get_or bs 4 0 ∷ get_or bs 5 0 ∷ get_or bs 6 0 ∷ get_or bs 7 0 ∷ []) →
    bit_xor (steps 64 (bit_xor x first)) (steps 32 second) ≡ after_bytes x bs
eight_bytes x first second bs hx long bytes ef es =
    let b0 = bytes 0 in
    let b1 = bytes 1 in
    let b2 = bytes 2 in
    let b3 = bytes 3 in
    let b4 = bytes 4 in
    let b5 = bytes 5 in
    let b6 = bytes 6 in
    let b7 = bytes 7 in
    let xs : List ℕ = get_or bs 0 0 ∷ get_or bs 1 0 ∷ get_or bs 2 0 ∷ get_or bs 3 0 ∷ [] in
    let ys : List ℕ = get_or bs 4 0 ∷ get_or bs 5 0 ∷ get_or bs 6 0 ∷ get_or bs 7 0 ∷ [] in
    let hf : first < 2 ^ 32 = omega arith in
    let hs : second < 2 ^ 32 = omega arith in
    let y : ℕ = after_bytes x xs in
    let one : y ≡ steps 32 (bit_xor x first) =
    four_bytes x (get_or bs 0 0) (get_or bs 1 0) (get_or bs 2 0) (get_or bs 3 0) first hx hf (omega arith) (omega arith)
    (omega arith) (omega arith) in
    let two : after_bytes y ys ≡ steps 32 (bit_xor y second) =
    four_bytes y (get_or bs 4 0) (get_or bs 5 0) (get_or bs 6 0) (get_or bs 7 0) second (bytes_below x xs hx) hs
    (omega arith) (omega arith) (omega arith) (omega arith) in
    two_words x first second xs ys hx hf hs one two ∙ ap (after_bytes x) (sym (eight_listed bs long))

-- a byte changes the register's top byte, which leaves, and the other three move up
pub byte_out : (x byte : ℕ) → x < 2 ^ 32 → byte < 256 →
    bit_xor (x * 2 ^ 8 % 2 ^ 32) (byte_register 0 (bit_xor (x / 256 ^ 3 % 256) byte)) ≡ after_bits x byte 8
unfolding byte_register
byte_out x byte h b =
    let top : ℕ = x / 256 ^ 3 % 256 in
    let low : ℕ = x % 2 ^ 24 in
    let parts : bit_xor (top * 2 ^ 24) low ≡ x = xor_apart top 24 low (omega arith) ∙ omega arith in
    let th : top * 2 ^ 24 < 2 ^ 32 = omega arith in
    let bh : byte * 2 ^ 24 < 2 ^ 32 = omega arith in
    let lh : low < 2 ^ 32 = omega arith in
    let tb : bit_xor (top * 2 ^ 24) (byte * 2 ^ 24) ≡ bit_xor top byte * 2 ^ 24 = xor_scaled top byte 24 in
    let moved : steps 8 low ≡ x * 2 ^ 8 % 2 ^ 32 = steps_move 8 low (omega arith) ∙ omega arith in
    let own : byte % 2 ^ 8 * 2 ^ 24 ≡ byte * 2 ^ 24 = omega arith in
    let order : bit_xor x (byte * 2 ^ 24) ≡ bit_xor (bit_xor top byte * 2 ^ 24) low =
    ap (λ (n : ℕ). bit_xor n (byte * 2 ^ 24)) (sym parts)
    ∙ (xor_swap (top * 2 ^ 24) low (byte * 2 ^ 24) ∙ ap (λ (n : ℕ). bit_xor n low) tb) in
    let both : bit_xor top byte * 2 ^ 24 < 2 ^ 32 = rw (sym tb) (xor_of_32 (top * 2 ^ 24) (byte * 2 ^ 24) th bh) in
    ap (λ (n : ℕ). bit_xor n (steps 8 (bit_xor top byte * 2 ^ 24))) (sym moved)
    ∙ (xor_comm (steps 8 low) (steps 8 (bit_xor top byte * 2 ^ 24))
    ∙ (sym (steps_xor 8 (bit_xor top byte * 2 ^ 24) low both lh)
    ∙ (ap (steps 8) (sym order ∙ ap (bit_xor x) (sym own)) ∙ sym (bits_at_top 8 24 x byte refl h))))
