-- Public meaning: what printing left, and its answer.
use Rattle.std.specs.Prelude.{◌≡◌, ◌⊎◌, ℕ, List}
use Rattle.std.specs.Io.KnownBytes.{Appends}
use Rattle.sd_base.specs.Count.{HasRisen}
use Rattle.sd_ports.specs.Bytes.{AppendsPrefix}
use Rattle.sd_command_base.specs.declared.status.Status.{Status}
use Rattle.sd_command_base.specs.declared.status.Status.TheVariants.{Done, DepotFault, PrintFault, NoMemory}
use Rattle.sd_command_base.specs.Outside.{PageState}
use Rattle.sd_command_base.specs.Work.{Work}
use Rattle.sd_command_base.specs.Outcome.{PrintsAll, PrintsSome, PrintsPrefix}

-- all that the work prints was printed; or some first pieces of it, and then memory was out; or a prefix, and then
-- printing failed
abbrev pub PrintsWork : Work → PageState → PageState → Status → Type 0
PrintsWork work a b status =
    ((status ≡ work.ends) × PrintsAll work a b × (b.faults ≡ a.faults))
    ⊎ (((status ≡ NoMemory) × PrintsSome work a b × (b.faults ≡ a.faults))
    ⊎ ((status ≡ PrintFault) × PrintsPrefix work a b × HasRisen a.faults b.faults))

-- so it is of work whose file is read meanwhile: or some first pieces of it were printed, and then reading failed
abbrev pub PrintsReading : Work → PageState → PageState → Status → Type 0
PrintsReading work a b status =
    PrintsWork work a b status ⊎ ((status ≡ DepotFault) × PrintsSome work a b × (b.faults ≡ a.faults))

-- a text was printed, or a prefix of it, and then printing failed
abbrev pub PrintsText : List ℕ → PageState → PageState → Status → Type 0
PrintsText text a b status =
    ((status ≡ Done) × Appends a.printed b.printed text × (b.faults ≡ a.faults))
    ⊎ ((status ≡ PrintFault) × AppendsPrefix a.printed b.printed text × HasRisen a.faults b.faults)

-- a text was printed so, or nothing where memory was out for it
abbrev pub PrintsPiece : List ℕ → PageState → PageState → Status → Type 0
PrintsPiece text a b status = PrintsText text a b status ⊎ ((status ≡ NoMemory) × (b ≡ a))
