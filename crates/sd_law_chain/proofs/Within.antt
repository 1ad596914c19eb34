-- A book that is read is within the limits, and a digest is bytes.
use Rattle.std.proofs.Common.{arith, ◌≡◌, ℕ, suc, zero, ◌<◌, ◌≤◌, ◌/◌, ◌^◌, List, [], ◌∷◌, ◌++◌, ap, sym, subst, ◌∙◌}
use Rattle.std.specs.Prelude.{All, Option, Ok, take, drop, slice_index}
use Rattle.std.specs.Int.{bytes_high_first, to_be_bytes, w32, byte_at}
use Rattle.std.proofs.lemmas.List.{take-append-drop}
use Rattle.std.proofs.lemmas.List.Elements.{All-nil, All-cons, All-append}
use Rattle.std.proofs.Math.Nat.{mod-lt}
use Rattle.sha2.specs.Sha256.{digest_bytes, sha256}
use Rattle.sd_book.specs.declared.command.Command.{Command}
use Rattle.sd_book.specs.Commands.{last_period}
use Rattle.sd_book.specs.Limits.{IsDraft, IsWithinLimits}
use Rattle.sd_book.specs.Text.{book_of, book_commands, judged_book_line, said_by_book}
use Rattle.sd_book.proofs.Cuts.{period_append}
use Rattle.sd_book.proofs.Judged.{bind_ok, ended_ok, judged_more, judged_none, within_at_end}
use Rattle.sd_run_books.specs.Chain.{commands_said}
use Rattle.sd_law_chain.specs.Chain.{EndsLines}
use Rattle.sd_law_chain.proofs.Lines.{commands_joined}

judged_within : (d : ℕ) (before : List Command) (said : List (Option Command)) (commands : List Command) →
    IsDraft d before → book_commands d before said ≡ Ok commands → IsWithinLimits d commands
judged_within d before [] commands draft h =
    let is = ended_ok d before before commands h in
    subst (IsWithinLimits d) is.1 (within_at_end d before draft is.0)
judged_within d before (one ∷ said) commands draft h =
    let (command, first, rest) =
    bind_ok (judged_book_line d before one) (λ c. book_commands d (before ++ c ∷ []) said) commands h in
    judged_within d (before ++ command ∷ []) said commands (judged_more d before one command draft first) rest

-- a book that is read is within the limits
pub read_within : (d : ℕ) (bytes : List ℕ) (commands : List Command) → book_of d bytes ≡ Ok commands →
    IsWithinLimits d commands
unfolding book_of
read_within d bytes commands h = judged_within d [] (said_by_book bytes) commands (judged_none d) h

-- the first bytes of a text, up to a line feed, have no more lines `period` than all
pub fewer_periods : (n : ℕ) (bytes : List ℕ) → EndsLines (take n bytes) →
    last_period (commands_said (take n bytes)) ≤ last_period (commands_said bytes)
fewer_periods n bytes ends =
    let first : List Command = commands_said (take n bytes) in
    let rest : List Command = commands_said (drop n bytes) in
    let joined : commands_said bytes ≡ first ++ rest =
    ap commands_said (sym (take-append-drop n bytes)) ∙ commands_joined (take n bytes) (drop n bytes) ends in
    omega (arith, period_append first rest, ap last_period joined)

byte_below : (i n : ℕ) → byte_at i n < 256
byte_below zero n = omega arith
byte_below (suc i) n = mod-lt (n / 256 ^ suc i) (omega arith)

bytes_below : (k n : ℕ) → All (λ byte. byte < 256) (bytes_high_first k n)
bytes_below zero n = All-nil (λ byte. byte < 256)
bytes_below (suc k) n = All-cons (λ byte. byte < 256) (byte_at k n) (bytes_high_first k n) (byte_below k n)
    (bytes_below k n)

digest_below : (h : List ℕ) (n : ℕ) → All (λ byte. byte < 256) (digest_bytes h n)
unfolding digest_bytes
digest_below h zero = All-nil (λ byte. byte < 256)
digest_below h (suc n) =
    All-append (λ byte. byte < 256) (digest_bytes h n) (to_be_bytes w32 (slice_index h n)) (digest_below h n)
    (bytes_below 4 (slice_index h n))

-- a digest is bytes
pub sha_below : (text : List ℕ) → All (λ byte. byte < 256) (sha256 text)
unfolding sha256
sha_below text = digest_below _ 8
