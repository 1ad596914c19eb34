-- The head of a card's file: four bytes that say what it is, fields of a byte each, the leaf and the conditional access
-- system.
use Rattle.std.proofs.Common.{ℕ, zero, suc, ◌+◌, ◌*◌, ◌^◌, ◌<◌, ◌≤◌, ◌≡◌, List, [], ◌∷◌, ◌++◌, length, take, drop}
use Rattle.std.proofs.Common.{Option, None, Result, Ok, Err, inl, inr, sym, refl, ap, append_assoc, ◌∙◌, arith}
use Rattle.std.specs.Prelude.{◌⊎◌, Some, IfOk, MatchResult}
use Rattle.std.specs.List.{concat}
use Rattle.std.proofs.Math.Seq.{take-add}
use Rattle.std.proofs.lemmas.List.{take_at, drop_at, length-append}
use Rattle.std.proofs.lemmas.Option.{none-some}
use Rattle.byteorder.specs.Endian.{big_bytes, big_number}
use Rattle.sd_base.proofs.Endian.{two_again, four_again, number_again}
use Rattle.sd_site_cards.specs.Files.{AreSecrets, AreKeptSecrets, byte_at, file_bytes_from, number_from, check_of}
use Rattle.sd_site_cards.specs.Files.{check_in}
use Rattle.sd_site_cards.specs.Files.{check_due, card_file_head, file_body, file_bytes}
use Rattle.sd_site_cards.proofs.Written.{AreBytes, bytes_at, cut_bytes, kept_count, file_said, file_length}
use Rattle.sd_site_cards.proofs.Written.{check_written}

-- bytes in a row are the first of them and the others
from_add : (bytes : List ℕ) (k n m l : ℕ) → k + n ≡ l
    → file_bytes_from bytes k (n + m) ≡ file_bytes_from bytes k n ++ file_bytes_from bytes l m
from_add bytes k zero m l e =
    let same : k ≡ l = omega arith in
    let none : 0 + m ≡ m = omega arith in
    rw (same, none) refl
from_add bytes k (suc n) m l e =
    let more : suc n + m ≡ suc (n + m) = omega arith in
    rw more (ap (λ (r : List ℕ). byte_at bytes k ∷ r) (from_add bytes (suc k) n m l (omega arith)))

-- the numbers that a file names are written as their bytes
four_said : (bytes : List ℕ) (k : ℕ) → AreBytes bytes → file_bytes_from bytes k 4 ≡ big_bytes 4 (number_from bytes k 4)
unfolding number_from
four_said bytes k fits = sym (four_again (file_bytes_from bytes k 4) (bytes_at bytes k 4 fits) (omega arith))

two_said : (bytes : List ℕ) (k : ℕ) → AreBytes bytes → file_bytes_from bytes k 2 ≡ big_bytes 2 (number_from bytes k 2)
unfolding number_from
two_said bytes k fits = sym (two_again (file_bytes_from bytes k 2) (bytes_at bytes k 2 fits) (omega arith))

-- a number of two bytes is below 2^16
two_within : (bytes : List ℕ) (k : ℕ) → AreBytes bytes → number_from bytes k 2 < 2 ^ 16
unfolding number_from
two_within bytes k fits = omega (arith, fits k, fits (suc k))

-- the parts of a head, one after the other
pub head_joined : (magic fields four two : List ℕ)
    → ((magic ++ fields) ++ four) ++ two ≡ magic ++ (fields ++ (four ++ two))
head_joined magic fields four two = append_assoc (magic ++ fields) four two ∙ append_assoc magic fields (four ++ two)

-- bytes with this start and these n fields have the head that says so, and the numbers after the fields
head_said : (bytes magic fields : List ℕ) (n : ℕ) → AreBytes bytes → magic ≡ take 4 bytes
    → fields ≡ file_bytes_from bytes 4 n → 4 + (n + 6) ≤ length bytes
    → take (4 + (n + 6)) bytes ≡ card_file_head magic fields (number_from bytes (4 + n) 4)
    (number_from bytes (4 + n + 4) 2)
head_said bytes magic fields n fits start own long =
    let numbers : file_bytes_from bytes (4 + n) 6
    ≡ big_bytes 4 (number_from bytes (4 + n) 4) ++ big_bytes 2 (number_from bytes (4 + n + 4) 2) =
    from_add bytes (4 + n) 4 2 (4 + n + 4) refl
    ∙ (ap (λ (r : List ℕ). r ++ file_bytes_from bytes (4 + n + 4) 2) (four_said bytes (4 + n) fits)
    ∙ ap (λ (r : List ℕ). big_bytes 4 (number_from bytes (4 + n) 4) ++ r) (two_said bytes (4 + n + 4) fits)) in
    let after : take (n + 6) (drop 4 bytes) ≡ fields ++ file_bytes_from bytes (4 + n) 6 =
    cut_bytes bytes 4 (n + 6) long
    ∙ (from_add bytes 4 n 6 (4 + n) refl ∙ ap (λ (r : List ℕ). r ++ file_bytes_from bytes (4 + n) 6) (sym own)) in
    take-add 4 (n + 6) bytes
    ∙ (ap (λ (r : List ℕ). r ++ take (n + 6) (drop 4 bytes)) (sym start)
    ∙ ap (λ (r : List ℕ). magic ++ r) (after ∙ ap (λ (r : List ℕ). fields ++ r) numbers))

-- bytes with which nothing is wrong: they have this start, n fields and room for m secrets, and their check is the one
-- that is due
pub record IsSound (bytes magic own : List ℕ) (n m : ℕ) : Type 0 where
  pub start : magic ≡ take 4 bytes
  pub fields : own ≡ file_bytes_from bytes 4 n
  pub size : length bytes ≡ 4 + (n + 6) + 32 * m + 16
  pub check : check_in bytes ≡ check_due bytes

-- so the secrets that they keep are m, the system has two bytes, and they are the file of that head and those secrets
pub sound_is_file : (bytes magic fields : List ℕ) (n m : ℕ) (secrets : List (List ℕ)) → AreBytes bytes
    → IsSound bytes magic fields n m → AreKeptSecrets bytes (4 + (n + 6)) secrets
    → (length secrets ≡ m) × (number_from bytes (4 + n + 4) 2 < 2 ^ 16)
    × (bytes ≡ file_bytes (card_file_head magic fields (number_from bytes (4 + n) 4) (number_from bytes (4 + n + 4) 2))
    secrets)
sound_is_file bytes magic fields n m secrets fits sound kept =
    let head = head_said bytes magic fields n fits sound.start sound.fields (omega (arith, sound.size)) in (
      kept_count bytes secrets (4 + (n + 6)) m kept sound.size,
      two_within bytes (4 + n + 4) fits,
      file_said bytes _ secrets (4 + (n + 6)) m kept sound.size head sound.check,
    )

-- ---- a file that is written is sound

-- the part of bytes that stands after others
part_at : (xs ys zs : List ℕ) (k n : ℕ) → length xs ≡ k → length ys ≡ n → file_bytes_from (xs ++ (ys ++ zs)) k n ≡ ys
part_at xs ys zs k n at long =
    sym (cut_bytes (xs ++ (ys ++ zs)) k n
    (omega (arith, length-append xs (ys ++ zs), length-append ys zs, at, long)))
    ∙ (ap (take n) (drop_at xs (ys ++ zs) k at) ∙ take_at ys zs n long)

-- a file of secrets, cut at the parts of its head
file_parts : (magic own : List ℕ) (leaf ca : ℕ) (secrets : List (List ℕ))
    → (rest : List ℕ) × (file_bytes (card_file_head magic own leaf ca) secrets
    ≡ magic ++ (own ++ (big_bytes 4 leaf ++ (big_bytes 2 ca ++ rest))))
unfolding file_bytes file_body
file_parts magic own leaf ca secrets =
    let numbers = big_bytes 4 leaf ++ big_bytes 2 ca in
    let head = card_file_head magic own leaf ca in
    let check = check_of (head ++ concat secrets) in
    let rest = concat secrets ++ check in (
      rest,
      append_assoc head (concat secrets) check
          ∙ (append_assoc magic (own ++ numbers) rest
          ∙ ap (λ (r : List ℕ). magic ++ r) (append_assoc own numbers rest)),
    )

-- these bytes are sound, and name this leaf and this system after the fields
pub record IsFileOf (bytes magic own : List ℕ) (u system n m : ℕ) : Type 0 where
  pub sound : IsSound bytes magic own n m
  pub leaf : number_from bytes (4 + n) 4 ≡ u
  pub ca : number_from bytes (4 + n + 4) 2 ≡ system

-- which a file with their head is
pub file_is_sound : (magic own : List ℕ) (leaf ca n m : ℕ) (secrets : List (List ℕ)) → length magic ≡ 4
    → length own ≡ n → leaf < 2 ^ 32 → ca < 2 ^ 16 → length secrets ≡ m → AreSecrets secrets
    → IsFileOf (file_bytes (card_file_head magic own leaf ca) secrets) magic own leaf ca n m
unfolding number_from
file_is_sound magic own leaf ca n m secrets four fields leaf_low ca_low count long =
    let four_bytes = big_bytes 4 leaf in
    let two_bytes = big_bytes 2 ca in
    let head = card_file_head magic own leaf ca in
    let (rest, parts) = file_parts magic own leaf ca secrets in
    let at_leaf : length (magic ++ own) ≡ 4 + n = omega (arith, length-append magic own, four, fields) in
    let at_ca : length ((magic ++ own) ++ four_bytes) ≡ 4 + n + 4 =
    omega (arith, length-append (magic ++ own) four_bytes, at_leaf) in
    let before_leaf = parts ∙ sym (append_assoc magic own (four_bytes ++ (two_bytes ++ rest))) in
    let before_ca = before_leaf ∙ sym (append_assoc (magic ++ own) four_bytes (two_bytes ++ rest)) in
    let size : length head ≡ 4 + (n + 6) =
    omega (
      arith,
      length-append magic (own ++ (four_bytes ++ two_bytes)),
      length-append own (four_bytes ++ two_bytes),
      four,
      fields,
    ) in
    record {
      sound = record {
        start = sym (ap (take 4) parts ∙ take_at magic _ 4 four);
        fields = sym (ap (λ (r : List ℕ). file_bytes_from r 4 n) parts ∙ part_at magic own _ 4 n four fields);
        size = file_length head secrets long ∙ omega (arith, size, count);
        check = check_written head secrets;
      };
      leaf = ap (λ (r : List ℕ). big_number 4 (file_bytes_from r (4 + n) 4)) before_leaf
          ∙ (ap (big_number 4) (part_at (magic ++ own) four_bytes (two_bytes ++ rest) (4 + n) 4 at_leaf refl)
          ∙ number_again 4 leaf [] (omega (arith, leaf_low)));
      ca = ap (λ (r : List ℕ). big_number 2 (file_bytes_from r (4 + n + 4) 2)) before_ca
          ∙ (ap (big_number 2) (part_at ((magic ++ own) ++ four_bytes) two_bytes rest (4 + n + 4) 2 at_ca refl)
          ∙ number_again 2 ca [] (omega (arith, ca_low)));
    }

-- If each file says one card alone and nothing is wrong with it, a reader whose cards are spelled by the bytes, and
-- whose faults are those of the bytes or out of memory, reads each card's file as that card, unless memory is out.
pub read_once : {C X F : Type 0} (IsCard : C → Type 0) (spelled : C → List ℕ) (fault_in : List ℕ → Option F)
    (memory : F) (said : X → C)
    → ((a b : C) → IsCard a → IsCard b → spelled a ≡ spelled b → a ≡ b)
    → ((card : C) → IsCard card → fault_in (spelled card) ≡ None)
    → (bytes : List ℕ) (result : Result X F) → IfOk result (λ read. IsCard (said read) × (bytes ≡ spelled (said read)))
    → MatchResult result (λ _. fault_in bytes ≡ None)
    (λ fault. (fault_in bytes ≡ Some fault) ⊎ ((fault ≡ memory) × (fault_in bytes ≡ None)))
    → (card : C) → IsCard card → bytes ≡ spelled card
    → MatchResult result (λ read. said read ≡ card) (λ fault. fault ≡ memory)
read_once IsCard spelled fault_in memory said once good bytes (Ok read) is none card of e =
    once (said read) card is.0 of (sym is.1 ∙ e)
read_once IsCard spelled fault_in memory said once good bytes (Err fault) is (inl some) card of e =
    absurd (none-some _ (sym (ap fault_in e ∙ good card of) ∙ some))
read_once IsCard spelled fault_in memory said once good bytes (Err fault) is (inr out) card of e = out.0
