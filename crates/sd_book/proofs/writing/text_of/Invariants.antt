use Rattle.std.proofs.Common.{◌≡◌, take, string_bytes}
use Rattle.sd_book.specs.Text.{text_of_book}
use Rattle.sd_book.proofs.writing.text_of.Given as goal

abbrev pub invariant-loop-command : goal.invariant-loop-command
invariant-loop-command l = string_bytes l.text ≡ text_of_book (take l.command-index l.commands)
