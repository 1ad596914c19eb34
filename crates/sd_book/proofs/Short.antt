-- How long a book file is.
use Rattle.std.proofs.Common.{arith, ◌≡◌, ℕ, ◌*◌, ◌^◌, ◌<◌, ◌≤◌, Bool, true, false, cond, List, [], ◌∷◌, length}
use Rattle.std.proofs.Common.{map, Option, Some, None, refl, ap, codes}
use Rattle.std.specs.Prelude.{All, option_map}
use Rattle.std.specs.Str.{bytes_eq}
use Rattle.std.proofs.lemmas.Grind.{common_steps}
use Rattle.std.proofs.lemmas.List.Elements.{All-head, All-tail}
use Rattle.std.proofs.lemmas.Slice.Eq.{bytes_eq-Decides}
use Rattle.std.proofs.Math.Pow.{pow_mono}
use Rattle.sd_base.specs.Lines.{lines_of}
use Rattle.sd_base.specs.Number.{decimal_after}
use Rattle.sd_base.proofs.Lengths.{long_lines, text_length, said_length}
use Rattle.sd_book.specs.declared.command.Command.{Command}
use Rattle.sd_book.specs.declared.command.Command.TheVariants.{Subscribe, Revoke, Period}
use Rattle.sd_book.specs.Commands.{is_within}
use Rattle.sd_book.specs.Limits.{IsWithinLimits}
use Rattle.sd_book.specs.Text.{command_of, first_command_there, SpellsBook}

-- a leaf has at most seven digits
leaf_digits : (d u : ℕ) → d ≤ 20 → u < 2 ^ d → u < 10 ^ 7
leaf_digits d u low h = let within : 2 ^ d ≤ 2 ^ 20 = pow_mono low in omega arith

-- a line of a command has at most 17 bytes
line_short : (d : ℕ) (line : List ℕ) (command : Command) → d ≤ 20 → is_within d command ≡ true →
    command_of line ≡ Some command → length line ≤ 17
unfolding command_of
line_short d line command low within e =
    by_tests (bytes_eq line (codes "period")) (decimal_after (codes "subscribe ") line)
    (decimal_after (codes "revoke ") line) refl refl refl e
  where
    by_tests : (b : Bool) (s r : Option ℕ) → bytes_eq line (codes "period") ≡ b →
        decimal_after (codes "subscribe ") line ≡ s → decimal_after (codes "revoke ") line ≡ r →
        cond b (Some Period) (first_command_there (option_map Subscribe s) (option_map Revoke r)) ≡ Some command →
        length line ≤ 17
    by_tests true s r is f g h =
        let same = ap (λ (l : List ℕ). length l) ((bytes_eq-Decides line (codes "period")).0 is) in omega (arith, same)
    by_tests false (Some u) r is f g h =
        let own : Subscribe u ≡ command = cc in
        let leaf : u < 2 ^ d = grind (arith, common_steps, own, within) in
        let digits = leaf_digits d u low leaf in
        let long = said_length (codes "subscribe ") line u 7 (omega arith) digits (omega (arith, digits)) f in
        omega (arith, long)
    by_tests false None (Some u) is f g h =
        let own : Revoke u ≡ command = cc in
        let leaf : u < 2 ^ d = grind (arith, common_steps, own, within) in
        let digits = leaf_digits d u low leaf in
        let long = said_length (codes "revoke ") line u 7 (omega arith) digits (omega (arith, digits)) g in
        omega (arith, long)
    by_tests false None None is f g h = absurd (cc)

-- so many lines of commands have at most 18 bytes each, with their line feeds
lines_short : (d : ℕ) (lines : List (List ℕ)) (commands : List Command) → d ≤ 20 →
    All (λ command. is_within d command ≡ true) commands → map command_of lines ≡ map Some commands →
    long_lines lines ≤ 18 * length commands
lines_short d [] [] low all e = omega arith
lines_short d [] (command ∷ commands) low all e = absurd (cc)
lines_short d (line ∷ lines) [] low all e = absurd (cc)
lines_short d (line ∷ lines) (command ∷ commands) low all e =
    let first : command_of line ≡ Some command = cc in
    let rest : map command_of lines ≡ map Some commands = cc in
    let one = line_short d line command low (All-head (λ c. is_within d c ≡ true) command commands all) first in
    let more = lines_short d lines commands low (All-tail (λ c. is_within d c ≡ true) command commands all) rest in
    omega (arith, one, more)

-- a book file has at most 18 bytes for each line that a book may have
pub book_short : (d : ℕ) (bytes : List ℕ) (commands : List Command) → d ≤ 20 → SpellsBook (lines_of bytes) commands →
    IsWithinLimits d commands → length bytes ≤ 18 * 2 ^ 20
book_short d bytes commands low spells within =
    let lines = lines_short d (lines_of bytes) commands low within.leaves spells in
    omega (arith, text_length bytes, lines, within.lines)
