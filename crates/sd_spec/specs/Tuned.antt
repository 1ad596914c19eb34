-- Public meaning: the CAT that a receiver takes.
use Rattle.std.specs.Prelude.{[], ◌∷◌, Option, Some, None}
use Rattle.sd_base.specs.Types.{Packets, SystemId}
use Rattle.sd_psi.specs.OurCat.{cat_tuning}
use Rattle.sd_psi.specs.declared.our_cat.Tuning.{Tuning}

-- a CAT that was taken stays
abbrev pub tuned_by : Option Tuning → Option Tuning → Option Tuning
tuned_by (Some tuning) other = Some tuning
tuned_by None other = other

-- what the first CAT among these packets says, the newest packet first [this project, docs/FORMATS.md, Receiver]
unfoldable pub tuning_of : SystemId → Packets → Option Tuning
tuning_of ca [] = None
tuning_of ca (packet ∷ past) = tuned_by (tuning_of ca past) (cat_tuning ca packet)
