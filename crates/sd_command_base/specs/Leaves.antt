-- Public meaning: what a file of leaves says [this project, docs/FORMATS.md, Leaves].
use Rattle.std.specs.Prelude.{ℕ, List, Option, Result, Ok, Err}
use Rattle.sd_command_base.specs.Text.{leaves_of_text}
use Rattle.sd_command_base.specs.declared.status.Status.{Status}
use Rattle.sd_command_base.specs.declared.status.Status.TheVariants.{BadBook}
use Rattle.sd_command_base.specs.declared.status.LimitKind.TheVariants.{BookBytes}
use Rattle.sd_command_base.specs.BadLines.{bad_leaf}
use Rattle.sd_command_base.specs.Spec.{Spec, FileArgument, Readings, within, of_result, ◌>>=◌}
use Rattle.sd_command_base.specs.Files.{most_book_bytes}

-- the leaves of a tree of height d that a file's bytes say, or its first bad line
abbrev pub leaves_or_status : ℕ → ℕ → List ℕ → Result (List ℕ) ℕ → Result (List ℕ) Status
leaves_or_status word d bytes (Ok leaves) = Ok leaves
leaves_or_status word d bytes (Err k) = Err (BadBook word (bad_leaf d k bytes))

-- the leaves, of a tree of height d, of what the file of this word gave
unfoldable pub leaves_of_file : ℕ → ℕ → Option (List ℕ) → Spec (List ℕ)
leaves_of_file word d got =
    within word most_book_bytes BookBytes got >>= λ bytes. of_result (leaves_or_status word d bytes
    (leaves_of_text d bytes))

abbrev pub leaves_in : Readings → ℕ → FileArgument → Spec (List ℕ)
leaves_in given d word = leaves_of_file word.number d (given word)
