-- Public meaning: what a receiver hears, as the program keeps it.
use Rattle.std.specs.Prelude.{ℕ, List}
use Rattle.sd_message.specs.EmmSpelled.{listed_entries}
use Rattle.sd_message.specs.EmmForm.{IsEmm, AreSets}
use Rattle.sd_message.specs.EcmForm.{IsEcm}
use Rattle.sd_spec.specs.Heard as Reception
use Rattle.sd_receive.specs.declared.filter.kind.PacketKind.{PacketKind}
use Rattle.sd_receive.specs.declared.filter.kind.PacketKind.TheVariants.{Dropped, Entitles, Controls, BadEmm, BadEcm}
use Rattle.sd_receive.specs.declared.filter.kind.PacketKind.TheVariants.{Other}

-- what was heard of the packet of this number
abbrev pub heard_as : ℕ → List ℕ → PacketKind → Reception.Heard
heard_as number packet Dropped = Reception.Dropped
heard_as number packet (Entitles emm) = Reception.Entitles emm.now
heard_as number packet (Controls part) = Reception.Controls part.now
heard_as number packet (BadEmm fault) = Reception.BadEmm fault
heard_as number packet (BadEcm fault) = Reception.BadEcm fault
heard_as number packet Other = Reception.Other number packet

-- a section and a part are in their forms, in a tree of height h
abbrev pub IsFormed : ℕ → PacketKind → Type 0
IsFormed h (Entitles emm) = IsEmm emm.now × AreSets h emm.now.sets (listed_entries emm.now)
IsFormed h (Controls part) = IsEcm part.now
IsFormed h Dropped = Unit {0}
IsFormed h (BadEmm fault) = Unit {0}
IsFormed h (BadEcm fault) = Unit {0}
IsFormed h Other = Unit {0}
