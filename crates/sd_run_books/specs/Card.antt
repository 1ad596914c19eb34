-- Public meaning: `card SITE LEAF OUT` [this project, docs/FORMATS.md, Card].
use Rattle.std.specs.Prelude.{ℕ, ◌^◌, nat_lt, List, if◌then◌else◌, Result, Ok, Err}
use Rattle.sd_site_cards.specs.SiteFields.{SiteFields}
use Rattle.sd_site_cards.specs.CardFields.{card_bytes, site_card}
use Rattle.sd_command_base.specs.declared.status.Status.{Status}
use Rattle.sd_command_base.specs.declared.status.Status.TheVariants.{BadWord}
use Rattle.sd_command_base.specs.Spec.{Spec, FileArgument, Readings, value, of_result, ◌>>=◌}
use Rattle.sd_command_base.specs.Work.{Uncounted, Work}
use Rattle.sd_command_base.specs.Shown.{NumberArgument}
use Rattle.sd_command_base.specs.Files.{site_in}
use Rattle.sd_command_base.specs.Made.{making}

-- the bytes of the card of a site's leaf, which is to be one of its tree
abbrev pub made_card : SiteFields → NumberArgument → Result (List ℕ) Status
made_card site leaf =
    if nat_lt leaf.value (2 ^ site.height)
    then Ok (card_bytes (site_card site leaf.value))
    else Err (BadWord leaf.word)

abbrev pub card_meaning : FileArgument → NumberArgument → FileArgument → Readings → Spec Work
card_meaning site leaf out given = do
  fields ← site_in given site
  bytes ← of_result (made_card fields leaf)
  value (making Uncounted out bytes)
