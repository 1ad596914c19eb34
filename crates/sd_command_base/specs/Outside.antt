-- Public meaning: what stands around a command at one moment: the depot, what was printed, and the
-- steps that were counted.
use Rattle.std.specs.Prelude.{ℕ, List, Option}
use Rattle.sd_base.specs.Count.{with_added}
use Rattle.sd_ports.specs.Files.{Files}
use Rattle.sd_ports.specs.declared.depot.Depot.{Ghosts as DepotMeanings}
use Rattle.sd_ports.specs.declared.sink.Sink.{Ghosts as SinkMeanings}

-- what a depot means
pub record DepotState : Type 0 where
  -- the files, if the model knows them
  pub files : Option Files
  -- the number of I/O errors, and their number without those at the closing of a file that was made
  pub faults : ℕ
  pub stops : ℕ
  -- how often a file was asked for that isn't there
  pub misses : ℕ
  -- how many files were made, how many ports are open, and how many calls there were
  pub made : ℕ
  pub opened : ℕ
  pub calls : ℕ

-- what was printed, where it is told, and how often printing failed
pub record PageState : Type 0 where
  pub printed : Option (List ℕ)
  pub faults : ℕ

pub record IoState : Type 0 where
  pub place : DepotState
  pub page : PageState
  -- the steps of the generator
  pub steps : ℕ

abbrev pub depot_state : {D Inlet Outlet : Type 0} → DepotMeanings D Inlet Outlet → D → DepotState
depot_state meanings depot = record {
  files = meanings.files depot;
  faults = meanings.faults depot;
  stops = meanings.stops depot;
  misses = meanings.misses depot;
  made = meanings.made depot;
  opened = meanings.opened depot;
  calls = meanings.calls depot;
}

abbrev pub page_state : {P : Type 0} → SinkMeanings P → P → PageState
page_state meanings print = record { printed = meanings.held print; faults = meanings.faults print }

abbrev pub io_state : DepotState → PageState → ℕ → IoState
io_state place page steps = record { place = place; page = page; steps = steps }

-- the same of a depot and a printer, by what they mean
abbrev pub io_state_at : {D Inlet Outlet P : Type 0} → DepotMeanings D Inlet Outlet → SinkMeanings P → D → P → ℕ →
    IoState
io_state_at place page depot print steps = io_state (depot_state place depot) (page_state page print) steps

-- the depot with another count of calls
abbrev pub recalled : ℕ → DepotState → DepotState
recalled calls at = record {
  files = at.files;
  faults = at.faults;
  stops = at.stops;
  misses = at.misses;
  made = at.made;
  opened = at.opened;
  calls = calls;
}

-- the depot after so many more calls that changed nothing else
abbrev pub depot_after_calls : ℕ → DepotState → DepotState
depot_after_calls n at = recalled (with_added at.calls n) at
