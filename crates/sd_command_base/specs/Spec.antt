-- Public meaning: what words and files mean, step by step: a value or a refusal, and how many calls of
-- the depot it takes.
use Rattle.std.specs.Prelude.{◌≡◌, ℕ, ◌+◌, nat_lt, List, length, if◌then◌else◌, Option, Some, None, Result, Ok, Err}
use Rattle.std.specs.FinMap.{get}
use Rattle.sd_ports.specs.Files.{Files}
use Rattle.sd_command_base.specs.declared.status.Status.{Status}
use Rattle.sd_command_base.specs.declared.status.Status.TheVariants.{Missing, Limit}
use Rattle.sd_command_base.specs.declared.status.LimitKind.{LimitKind}

pub record Spec (A : Type 0) : Type 0 where
  -- as many calls of the depot as are made for it
  pub calls : ℕ
  pub result : Result A Status

abbrev pub value : {A : Type 0} → A → Spec A
value x = record { calls = 0; result = Ok x }

abbrev pub of_result : {A : Type 0} → Result A Status → Spec A
of_result result = record { calls = 0; result = result }

abbrev pub and_then : {A B : Type 0} → ℕ → Result A Status → (A → Spec B) → Spec B
and_then calls (Ok x) next = record { calls = calls + (next x).calls; result = (next x).result }
and_then calls (Err status) next = record { calls = calls; result = Err status }

-- a step that is taken where the one before was not refused
infixl 10 ◌>>=◌
abbrev pub ◌>>=◌ : {A B : Type 0} → Spec A → (A → Spec B) → Spec B
first >>= next = and_then first.calls first.result next

-- a word that names a file, with its number
pub record FileArgument : Type 0 where
  pub number : ℕ
  pub text : List ℕ

-- What the file of each word gave, and `None` where no file has the name. Two words may have one text: of a depot that
-- doesn't tell its files nothing says that the two readings gave the same.
abbrev pub Readings : Type 0
Readings = FileArgument → Option (List ℕ)

abbrev pub contents_of : Files → Readings
contents_of files word = get files word.text

-- files that the model knows give their bytes
abbrev pub AreReadingsOfFiles : Option Files → Readings → Type 0
AreReadingsOfFiles None given = Unit {0}
AreReadingsOfFiles (Some files) given = given ≡ contents_of files

-- so it is of one file
abbrev pub IsReadingOfFile : Option Files → List ℕ → Option (List ℕ) → Type 0
IsReadingOfFile None name got = Unit {0}
IsReadingOfFile (Some files) name got = got ≡ get files name

-- the bytes of a word's file, however many: it is opened, read and closed
abbrev pub whole_file_bytes : ℕ → Option (List ℕ) → Spec (List ℕ)
whole_file_bytes word None = record { calls = 1; result = Err (Missing word) }
whole_file_bytes word (Some bytes) = record { calls = 2; result = Ok bytes }

-- the bytes of a word's file, which are to be at most so many: it is opened, read and closed
abbrev pub within : ℕ → ℕ → LimitKind → Option (List ℕ) → Spec (List ℕ)
within word most kind None = record { calls = 1; result = Err (Missing word) }
within word most kind (Some bytes) =
    record { calls = 2; result = if nat_lt most (length bytes) then Err (Limit kind) else Ok bytes }
