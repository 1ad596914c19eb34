-- Public meaning: `layered SITE BOOK WIDTH` [this project, docs/FORMATS.md, Layers].
use Rattle.std.specs.Prelude.{ℕ, ◌&&◌, nat_le, if◌then◌else◌, List, Option, Result, Ok, Err}
use Rattle.sd_book.specs.declared.command.Command.{Command}
use Rattle.sd_lsd.specs.Cover.{layer_cover_of}
use Rattle.sd_command_base.specs.declared.status.Status.{Status}
use Rattle.sd_command_base.specs.declared.status.Status.TheVariants.{BadWord}
use Rattle.sd_command_base.specs.Spec.{Spec, FileArgument, Readings, of_result, value, ◌>>=◌}
use Rattle.sd_command_base.specs.Work.{Work}
use Rattle.sd_command_base.specs.Periods.{bare_end, listing}
use Rattle.sd_command_base.specs.Shown.{NumberArgument}
use Rattle.sd_command_base.specs.Files.{site_of_file, book_in}

-- the height of a tree, and the width of its layers
pub record Layers : Type 0 where
  pub height : ℕ
  pub width : ℕ

abbrev pub layers : ℕ → ℕ → Layers
layers d w = record { height = d; width = w }

abbrev pub shown_layers : ℕ × ℕ → Layers
shown_layers both = layers both.0 both.1

-- the layers of a tree of height d whose width is this number, which is to be 1 to the height
abbrev pub told_layers : ℕ → NumberArgument → Result Layers Status
told_layers d width =
    if nat_le 1 width.value && nat_le width.value d then Ok (layers d width.value) else Err (BadWord width.word)

-- the layers of the site that the file of this word gave
abbrev pub layers_of_file : ℕ → NumberArgument → Option (List ℕ) → Spec Layers
layers_of_file word width got = site_of_file word got >>= λ fields. of_result (told_layers fields.height width)

-- prints the useful sets of each period of a book for a tree of this height and layers of this width
-- [Halevy, Shamir 2002, 3]
abbrev pub layering : ℕ → ℕ → List Command → Work
layering d w commands = listing (layer_cover_of d w) bare_end d commands

-- the work that the words and the two files say
abbrev pub layered_meaning : FileArgument → FileArgument → NumberArgument → Readings → Spec Work
layered_meaning site book width given = do
  layers ← layers_of_file site.number width (given site)
  commands ← book_in given layers.height book
  value (layering layers.height layers.width commands)
