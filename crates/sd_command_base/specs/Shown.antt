-- Public meaning: what words of an order are as bytes.
use Rattle.std.specs.Prelude.{ℕ, List}
use Rattle.sd_command_base.specs.Spec as meant
use Rattle.sd_command_base.specs.declared.word.Word.{Word}
use Rattle.sd_command_base.specs.declared.word as declared

-- a number word: which one, and its number
pub record NumberArgument : Type 0 where
  pub word : ℕ
  pub value : ℕ

abbrev pub shown_word : Word → meant.FileArgument
shown_word word = record { number = word.number; text = word.text.now }

abbrev pub shown_number : declared.Number.Number → NumberArgument
shown_number number = record { word = number.word; value = number.value }

-- the word of this number and text
abbrev pub word_at : ℕ → List ℕ → meant.FileArgument
word_at number text = record { number = number; text = text }
