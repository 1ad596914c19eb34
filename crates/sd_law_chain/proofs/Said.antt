-- The commands of a book that is read are those that its lines say.
use Rattle.std.proofs.Common.{◌≡◌, ℕ, List, [], ◌∷◌, map, Some, Ok, refl, sym, ap, ◌∙◌}
use Rattle.std.specs.List.{filter_map}
use Rattle.sd_base.specs.Types.{Bytes}
use Rattle.sd_book.specs.declared.command.Command.{Command}
use Rattle.sd_book.specs.Text.{book_of}
use Rattle.sd_run_books.specs.Chain.{commands_said}
use Rattle.sd_run_books.proofs.OwnBook.{book_said}

said_back : (commands : List Command) → filter_map (λ said. said) (map Some commands) ≡ commands
said_back [] = refl
said_back (command ∷ commands) = ap (λ (cs : List Command). command ∷ cs) (said_back commands)

pub commands_are : (d : ℕ) (bytes : Bytes) (commands : List Command) → book_of d bytes ≡ Ok commands →
    commands ≡ commands_said bytes
commands_are d bytes commands h =
    sym (said_back commands) ∙ ap (filter_map (λ said. said)) (book_said d bytes commands h)
