-- Public meaning: how a card's file keeps secrets, and the check at its end.
use Rattle.std.specs.Prelude.{◌≡◌, ◌-◌, ◌*◌, ◌/◌, ℕ, zero, suc, Bool, true, false, List, [], ◌∷◌, ◌++◌, length, take}
use Rattle.std.specs.Prelude.{drop, get_or, Option, Some}
use Rattle.std.specs.List.{AllByRecursion, concat}
use Rattle.byteorder.specs.Endian.{big_number, big_bytes}
use Rattle.sha2.specs.Sha256.{sha256}
use Rattle.sd_site_cards.specs.declared.file.TheConstants.{SECRET_BYTES, CHECK_BYTES}

-- each secret has its 32 bytes [this project, docs/FORMATS.md, Card]
abbrev pub AreSecrets : List (List ℕ) → Type 0
AreSecrets secrets = AllByRecursion (λ secret. length secret ≡ SECRET_BYTES) secrets

-- a byte of the file; one that isn't there counts as 0 [this project, docs/FORMATS.md, Card]
abbrev pub byte_at : List ℕ → ℕ → ℕ
byte_at bytes k = get_or bytes k 0

-- n bytes of the file from place k on [this project, docs/FORMATS.md, Card]
abbrev pub file_bytes_from : List ℕ → ℕ → ℕ → List ℕ
file_bytes_from bytes k zero = []
file_bytes_from bytes k (suc n) = byte_at bytes k ∷ file_bytes_from bytes (suc k) n

-- the number in n bytes of the file from place k on, the high byte first [this project, docs/FORMATS.md, Card]
unfoldable pub number_from : List ℕ → ℕ → ℕ → ℕ
number_from bytes k n = big_number n (file_bytes_from bytes k n)

-- the check of bytes: the first 16 bytes of their hash [FIPS 180-4; this project, docs/FORMATS.md, Card]
unfoldable pub check_of : List ℕ → List ℕ
check_of body = take CHECK_BYTES (sha256 body)

-- the head of a card's file: the bytes that say what it is, fields of a byte each, the leaf and the conditional access
-- system [this project, docs/FORMATS.md, Card]
abbrev pub card_file_head : List ℕ → List ℕ → ℕ → ℕ → List ℕ
card_file_head magic fields leaf ca = magic ++ (fields ++ (big_bytes 4 leaf ++ big_bytes 2 ca))

-- a file before its check: a head, and the secrets one after the other [this project, docs/FORMATS.md, Card]
unfoldable pub file_body : List ℕ → List (List ℕ) → List ℕ
file_body head secrets = head ++ concat secrets

-- the file: the check of all before stands at its end [this project, docs/FORMATS.md, Card]
unfoldable pub file_bytes : List ℕ → List (List ℕ) → List ℕ
file_bytes head secrets = file_body head secrets ++ check_of (file_body head secrets)

-- the check that the file ends with
unfoldable pub check_in : List ℕ → List ℕ
check_in bytes = drop (length bytes - CHECK_BYTES) bytes

-- the check that it is to end with: that of all before
unfoldable pub check_due : List ℕ → List ℕ
check_due bytes = check_of (take (length bytes - CHECK_BYTES) bytes)

-- these are the secrets that a file keeps from place k on: as many as are whole before the check, one after the other
pub record AreKeptSecrets (bytes : List ℕ) (k : ℕ) (secrets : List (List ℕ)) : Type 0 where
  pub count : length secrets ≡ (length bytes - CHECK_BYTES - k) / SECRET_BYTES
  pub joined : concat secrets ≡ take (SECRET_BYTES * length secrets) (drop k bytes)
  pub long : AreSecrets secrets

-- this fault where a field isn't good, and else what is wrong after the field
abbrev pub file_fault_unless : {F : Type 0} → Bool → F → Option F → Option F
file_fault_unless true fault after = after
file_fault_unless false fault after = Some fault
