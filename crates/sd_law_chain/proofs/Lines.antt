-- The commands of texts, one after the other.
use Rattle.std.proofs.Common.{◌≡◌, ℕ, List, ◌++◌, map, ap, ◌∙◌}
use Rattle.std.specs.List.{filter_map}
use Rattle.std.proofs.lemmas.List.{map-append}
use Rattle.std.proofs.lemmas.List.Elements.{filter_map-append}
use Rattle.sd_base.specs.Lines.{lines_of}
use Rattle.sd_book.specs.Text.{command_of, said_by_book}
use Rattle.sd_run_books.specs.Chain.{commands_said}
use Rattle.sd_run_books.proofs.WholeLines.{lines_joined}
use Rattle.sd_law_chain.specs.Chain.{EndsLines}

-- the commands that a text says stay as they were, if it ends with a line feed and grows
pub commands_joined : (a b : List ℕ) → EndsLines a → commands_said (a ++ b) ≡ commands_said a ++ commands_said b
commands_joined a b h =
    ap (λ (lines : List (List ℕ)). filter_map (λ said. said) (map command_of lines)) (lines_joined a b h)
    ∙ ap (filter_map (λ said. said)) (map-append command_of (lines_of a) (lines_of b))
    ∙ filter_map-append (λ said. said) (said_by_book a) (said_by_book b)
