-- A file of secrets, whatever its head is.
use Rattle.std.proofs.Common.{ℕ, zero, suc, ◌+◌, ◌-◌, ◌*◌, ◌/◌, ◌<◌, ◌≤◌, ◌≡◌, Bool, true, false, List, [], ◌∷◌, ◌++◌}
use Rattle.std.proofs.Common.{length, take, drop, get_or, Option, None, append_assoc, sym, refl, ap, ◌∙◌, arith}
use Rattle.std.specs.List.{concat}
use Rattle.std.proofs.lemmas.List.{take_at, drop_at, take-append-drop, length-append, length-take-le, length-drop}
use Rattle.std.proofs.lemmas.List.{take-take, append-nil}
use Rattle.std.proofs.Math.Seq.{take-add, drop-cons}
use Rattle.sha2.specs.Sha256.{sha256}
use Rattle.sha2.proofs.Facts256.{length-sha256}
use Rattle.sd_site_cards.specs.Files.{AreSecrets, AreKeptSecrets, file_bytes_from, check_of, check_in, check_due}
use Rattle.sd_site_cards.specs.Files.{file_body, file_bytes, file_fault_unless}
use Rattle.sd_site_cards.proofs.Joined.{concat_more, length_joined, joined_once}

-- each number is a byte
abbrev pub AreBytes : List ℕ → Type 0
AreBytes bytes = (i : ℕ) → get_or bytes i 0 < 256

-- bytes of bytes are bytes
pub bytes_at : (bytes : List ℕ) (k n : ℕ) → AreBytes bytes → AreBytes (file_bytes_from bytes k n)
bytes_at bytes k zero fits i = omega arith
bytes_at bytes k (suc n) fits zero = fits k
bytes_at bytes k (suc n) fits (suc i) = bytes_at bytes (suc k) n fits i

-- cut bytes are those from that place on
pub cut_bytes : (bytes : List ℕ) (k n : ℕ) → k + n ≤ length bytes → take n (drop k bytes) ≡ file_bytes_from bytes k n
cut_bytes bytes k zero le = refl
cut_bytes bytes k (suc n) le =
    rw (drop-cons bytes k 0 (omega arith))
    (ap (λ (r : List ℕ). get_or bytes k 0 ∷ r) (cut_bytes bytes (suc k) n (omega arith)))

-- where no fault is after, the field is good
pub passed : {F : Type 0} (good : Bool) (fault : F) (after : Option F) → file_fault_unless good fault after ≡ None
    → (good ≡ true) × (after ≡ None)
passed true fault after e = (refl, e)
passed false fault after e = absurd cc

-- a field that is good has no fault of its own
pub goes : {F : Type 0} (good : Bool) (fault : F) (after : Option F) → good ≡ true → after ≡ None
    → file_fault_unless good fault after ≡ None
goes true fault after is none = none
goes false fault after is none = absurd cc

-- a file's body with no secret is its head
pub body_of_none : (head : List ℕ) → file_body head [] ≡ head
unfolding file_body
body_of_none head = append-nil head

-- one secret more in the file
pub body_more : (head : List ℕ) (secrets : List (List ℕ)) (secret : List ℕ) → file_body head secrets
    ++ secret ≡ file_body head (secrets ++ secret ∷ [])
unfolding file_body
body_more head secrets secret =
    append_assoc head (concat secrets) secret ∙ ap (λ (r : List ℕ). head ++ r) (concat_more secrets secret)

-- a file's check has 16 bytes
check_length : (body : List ℕ) → length (check_of body) ≡ 16
unfolding check_of
check_length body = length-take-le 16 (sha256 body) (omega (arith, length-sha256 body))

-- the length of a file
pub file_length : (head : List ℕ) (secrets : List (List ℕ)) → AreSecrets secrets
    → length (file_bytes head secrets) ≡ length head + 32 * length secrets + 16
unfolding file_bytes file_body
file_length head secrets long =
    let body = head ++ concat secrets in
    length-append body (check_of body)
    ∙ omega (arith, length-append head (concat secrets), length_joined secrets long, check_length body)

-- the check in a file is the one that is due
pub check_written : (head : List ℕ) (secrets : List (List ℕ))
    → check_in (file_bytes head secrets) ≡ check_due (file_bytes head secrets)
unfolding check_in check_due file_bytes
check_written head secrets =
    let body = file_body head secrets in
    let check = check_of body in
    let before : length (body ++ check) - 16 ≡ length body =
    omega (arith, length-append body check, check_length body) in
    rw before (drop_at body check (length body) refl
    ∙ sym (ap (λ (r : List ℕ). check_of r) (take_at body check (length body) refl)))

-- after its head stand the secrets and the check
pub after_head : (head : List ℕ) (secrets : List (List ℕ)) (k : ℕ) → length head ≡ k
    → drop k (file_bytes head secrets) ≡ concat secrets ++ check_of (file_body head secrets)
unfolding file_bytes file_body
after_head head secrets k at =
    let check = check_of (head ++ concat secrets) in
    ap (drop k) (append_assoc head (concat secrets) check) ∙ drop_at head (concat secrets ++ check) k at

-- so the secrets are cut out of it again
secrets_written : (head : List ℕ) (secrets : List (List ℕ)) (k : ℕ) → length head ≡ k → AreSecrets secrets
    → take (32 * length secrets) (drop k (file_bytes head secrets)) ≡ concat secrets
secrets_written head secrets k at long =
    ap (take (32 * length secrets)) (after_head head secrets k at)
    ∙ take_at (concat secrets) (check_of (file_body head secrets)) (32 * length secrets) (length_joined secrets long)

-- files that are the same, with heads that are equally long, have the same secrets
pub secrets_once : (a b : List ℕ) (ss ts : List (List ℕ)) (k : ℕ) → length a ≡ k → length b ≡ k → AreSecrets ss
    → AreSecrets ts → length ss ≡ length ts → file_bytes a ss ≡ file_bytes b ts → ss ≡ ts
secrets_once a b ss ts k at_a at_b long_s long_t count e =
    joined_once ss ts long_s long_t count (sym (secrets_written a ss k at_a long_s)
    ∙ (ap (λ (r : List ℕ). take (32 * length ss) (drop k r)) e
    ∙ (ap (λ (n : ℕ). take (32 * n) (drop k (file_bytes b ts))) count ∙ secrets_written b ts k at_b long_t)))

-- secrets that are joined to all but the bytes left over of what is between the head and the check are those kept there
pub kept_of_inner : (bytes inner : List ℕ) (secrets : List (List ℕ)) (k : ℕ) → k + 16 ≤ length bytes
    → inner ≡ take (length bytes - 16 - k) (drop k bytes) → length secrets ≡ length inner / 32
    → concat secrets ≡ take (32 * length secrets) inner → AreSecrets secrets → AreKeptSecrets bytes k secrets
kept_of_inner bytes inner secrets k room is count joined long =
    let m : ℕ = length bytes - 16 - k in
    let size : length inner ≡ m = ap length is
    ∙ length-take-le m (drop k bytes) (omega (arith, length-drop k bytes)) in
    record {
      count = rw (sym size) count;
      joined = joined ∙ (ap (take (32 * length secrets)) is
          ∙ take-take (32 * length secrets) m (drop k bytes) (omega (arith, count, size)));
      long = long;
    }

-- as many secrets are kept as there is room for between the head and the check
pub kept_count : (bytes : List ℕ) (secrets : List (List ℕ)) (k n : ℕ) → AreKeptSecrets bytes k secrets
    → length bytes ≡ k + 32 * n + 16 → length secrets ≡ n
kept_count bytes secrets k n kept size = omega (arith, kept.count, size)

-- bytes with this head and the check that is due are the file of the secrets that they keep
pub file_said : (bytes head : List ℕ) (secrets : List (List ℕ)) (k n : ℕ) → AreKeptSecrets bytes k secrets
    → length bytes ≡ k + 32 * n + 16 → take k bytes ≡ head → check_in bytes ≡ check_due bytes
    → bytes ≡ file_bytes head secrets
unfolding file_bytes file_body check_in check_due
file_said bytes head secrets k n kept size first check =
    let cut : concat secrets ≡ take (32 * n) (drop k bytes) =
    kept.joined ∙ ap (λ (m : ℕ). take (32 * m) (drop k bytes)) (kept_count bytes secrets k n kept size) in
    let before : length bytes - 16 ≡ k + 32 * n = omega (arith, size) in
    let body : take (length bytes - 16) bytes ≡ head ++ concat secrets =
    ap (λ (m : ℕ). take m bytes) before ∙ (take-add k (32 * n) bytes
    ∙ (ap (λ (r : List ℕ). r ++ take (32 * n) (drop k bytes)) first ∙ ap (λ (r : List ℕ). head ++ r) (sym cut))) in
    sym (take-append-drop (length bytes - 16) bytes)
    ∙ (ap (λ (r : List ℕ). take (length bytes - 16) bytes ++ r) check ∙ ap (λ (r : List ℕ). r ++ check_of r) body)
