use Rattle.std.proofs.Common.{◌≡◌, take}
use Rattle.std.specs.Prelude.{map}
use Rattle.sd_site_cards.specs.SiteFields.{site_fields_of}
use Rattle.sd_spec.specs.Messages.{entry_of}
use Rattle.sd_head.proofs.entries.listed.Given as goal

-- the sets so far have their entries
abbrev pub invariant-loop-name : goal.invariant-loop-name
invariant-loop-name g l = l.entries.items ≡ map (entry_of (site_fields_of l.site) l.q) (take l.name-index l.sets)
