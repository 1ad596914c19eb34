-- Public meaning: `lcard SITE LEAF WIDTH OUT` [this project, docs/FORMATS.md, Layer card].
use Rattle.std.specs.Prelude.{ℕ, ◌^◌, ◌&&◌, nat_lt, nat_le, if◌then◌else◌, Result, Ok, Err}
use Rattle.sd_site_cards.specs.SiteFields.{SiteFields}
use Rattle.sd_lsd.specs.Fields.{layer_card_of, layer_bytes}
use Rattle.sd_command_base.specs.declared.status.Status.{Status}
use Rattle.sd_command_base.specs.declared.status.Status.TheVariants.{BadWord}
use Rattle.sd_command_base.specs.Spec.{Spec, FileArgument, Readings, value, of_result, ◌>>=◌}
use Rattle.sd_command_base.specs.Work.{Uncounted, Work}
use Rattle.sd_command_base.specs.Shown.{NumberArgument}
use Rattle.sd_command_base.specs.Files.{site_in}
use Rattle.sd_command_base.specs.Made.{making}

-- the leaf of this number, which is to be one of a tree of height d
abbrev pub told_leaf : ℕ → NumberArgument → Result ℕ Status
told_leaf d leaf = if nat_lt leaf.value (2 ^ d) then Ok leaf.value else Err (BadWord leaf.word)

-- the width of this number, which is to be 1 to the height
abbrev pub told_width : ℕ → NumberArgument → Result ℕ Status
told_width d width =
    if nat_le 1 width.value && nat_le width.value d then Ok width.value else Err (BadWord width.word)

-- makes the layer card of a site's leaf for layers of this width
abbrev pub carding : SiteFields → NumberArgument → NumberArgument → FileArgument → Spec Work
carding site leaf width out = do
  u ← of_result (told_leaf site.height leaf)
  w ← of_result (told_width site.height width)
  value (making Uncounted out (layer_bytes (layer_card_of site.master site.ca site.height w u)))

-- the work that the words and the site's file say
abbrev pub lcard_meaning : FileArgument → NumberArgument → NumberArgument → FileArgument → Readings → Spec Work
lcard_meaning site leaf width out given = do
  fields ← site_in given site
  carding fields leaf width out
