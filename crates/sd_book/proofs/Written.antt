use Rattle.std.proofs.Common.{arith, ◌≡◌, ℕ, ◌<◌, ◌≤◌, ◌^◌, true, List, [], ◌∷◌, ◌++◌, map, Some, None, Ok, refl, ap}
use Rattle.std.proofs.Common.{◌∙◌, append_assoc, codes, ◌+◌, sym, take, length, get_or}
use Rattle.std.specs.Prelude.{All}
use Rattle.std.specs.Fmt.{decimal}
use Rattle.std.proofs.lemmas.Grind.{common_steps, take_at_read}
use Rattle.std.proofs.lemmas.List.{flat_map_more}
use Rattle.std.proofs.lemmas.List.Elements.{All-head, All-tail}
use Rattle.std.proofs.Math.Pow.{pow_mono}
use Rattle.sd_base.specs.Lines.{lines_of, is_line}
use Rattle.sd_base.specs.Number.{rest_after, decimal_after}
use Rattle.sd_base.proofs.Cuts.{line_cut}
use Rattle.sd_base.proofs.DecimalNumbers.{decimal_in_line, decimal_after_decimal}
use Rattle.sd_book.specs.declared.command.Command.{Command}
use Rattle.sd_book.specs.declared.command.Command.TheVariants.{Subscribe, Revoke, Period}
use Rattle.sd_book.specs.Commands.{is_within}
use Rattle.sd_book.specs.Limits.{IsWithinLimits}
use Rattle.sd_book.specs.Text.{command_of, SpellsBook, book_command_line, text_of_book, book_commands, book_of}
use Rattle.sd_book.proofs.Judged.{book_again}

-- a leaf of a tree is a number of 64 bits
leaf_small : (d u : ℕ) → d ≤ 20 → u < 2 ^ d → u < 2 ^ 64
leaf_small d u small h =
    let within : 2 ^ d ≤ 2 ^ 20 = pow_mono small in
    omega arith

-- the line of a Revoke doesn't begin as that of a Subscribe does
other_word : (u : ℕ) → decimal_after (codes "subscribe ") (codes "revoke " ++ decimal u) ≡ None
unfolding rest_after
other_word u = refl

-- a command's line says it
says : (d : ℕ) (command : Command) → d ≤ 20 → is_within d command ≡ true →
    command_of (book_command_line command) ≡ Some command
unfolding command_of book_command_line
says d (Subscribe u) small h =
    let below : u < 2 ^ 64 = leaf_small d u small (grind (arith, common_steps)) in
    rw (decimal_after_decimal (codes "subscribe ") u below) refl
says d (Revoke u) small h =
    let below : u < 2 ^ 64 = leaf_small d u small (grind (arith, common_steps)) in
    rw (other_word u, decimal_after_decimal (codes "revoke ") u below) refl
says d Period small h = refl

-- and stands on one line
alone : (d : ℕ) (command : Command) → d ≤ 20 → is_within d command ≡ true → is_line (book_command_line command) ≡ true
unfolding book_command_line
alone d (Subscribe u) small h = decimal_in_line u (leaf_small d u small (grind (arith, common_steps)))
alone d (Revoke u) small h = decimal_in_line u (leaf_small d u small (grind (arith, common_steps)))
alone d Period small h = refl

-- the lines of a book's text are those of its commands
lines_written : (d : ℕ) (commands : List Command) → d ≤ 20 → All (λ command. is_within d command ≡ true) commands →
    lines_of (text_of_book commands) ≡ map book_command_line commands
unfolding text_of_book
lines_written d [] small leaves = refl
lines_written d (command ∷ commands) small leaves =
    let line = alone d command small (All-head (λ c. is_within d c ≡ true) command commands leaves) in
    let rest = lines_written d commands small (All-tail (λ c. is_within d c ≡ true) command commands leaves) in
    rw (append_assoc (book_command_line command) (10 ∷ []) (text_of_book commands))
    (line_cut (book_command_line command) (text_of_book commands) line
    ∙ ap (λ (lines : List (List ℕ)). book_command_line command ∷ lines)
    rest)

-- and spell them
spelled : (d : ℕ) (commands : List Command) → d ≤ 20 → All (λ command. is_within d command ≡ true) commands →
    SpellsBook (map book_command_line commands) commands
spelled d [] small leaves = refl
spelled d (command ∷ commands) small leaves =
    let first = says d command small (All-head (λ c. is_within d c ≡ true) command commands leaves) in
    let rest = spelled d commands small (All-tail (λ c. is_within d c ≡ true) command commands leaves) in
    rw (first, rest) refl

-- the lines of the text of commands of the tree spell these commands
pub spelled_again : (d : ℕ) (commands : List Command) → d ≤ 20 → All (λ command. is_within d command ≡ true) commands →
    SpellsBook (lines_of (text_of_book commands)) commands
spelled_again d commands small leaves = rw (lines_written d commands small leaves) (spelled d commands small leaves)

-- the text of commands of the tree is judged as these commands are
pub judged_again : (d : ℕ) (commands : List Command) → d ≤ 20 → All (λ command. is_within d command ≡ true) commands
    → book_of d (text_of_book commands) ≡ book_commands d [] (map Some commands)
unfolding book_of
judged_again d commands small leaves =
    ap (book_commands d []) (ap (map command_of) (lines_written d commands small leaves)
    ∙ spelled d commands small leaves)

-- the text of commands within the limits is read as these commands
pub read_again : (d : ℕ) (commands : List Command) → d ≤ 20 → IsWithinLimits d commands →
    book_of d (text_of_book commands)
    ≡ Ok commands
read_again d commands small all =
    book_again d (text_of_book commands) commands (spelled_again d commands small all.leaves) all

-- the text of the first commands and the line of the next
pub text_one_more : (commands : List Command) (i : ℕ) (command : Command) → i < length commands →
    command ≡ get_or commands i command →
    text_of_book (take i commands) ++ (book_command_line command ++ 10 ∷ []) ≡ text_of_book (take (i + 1) commands)
unfolding text_of_book
text_one_more commands i command inside at =
    let longer : take (i + 1) commands ≡ take i commands ++ command ∷ [] =
    (take_at_read commands i command inside).1 ∙ ap (λ (c : Command). take i commands ++ c ∷ []) (sym at) in
    rw longer (flat_map_more (λ (c : Command). book_command_line c ++ 10 ∷ []) [] (take i commands) command)
