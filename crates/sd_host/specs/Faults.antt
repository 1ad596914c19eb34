-- Inner: what an error of the machine is to a depot.
use Rattle.std.specs.Prelude.{ℕ}
use Rattle.std.specs.declared.io.ErrorKind.{ErrorKind}
use Rattle.std.specs.declared.io.ErrorKind.TheVariants.{NotFound, NotADirectory, OutOfMemory}
use Rattle.sd_base.specs.Count.{with_added}
use Rattle.sd_ports.specs.declared.fault.DepotFault.{DepotFault}
use Rattle.sd_ports.specs.declared.fault.DepotFault.TheVariants.{Missing, Failed, NoMemory}

-- what an error of the machine is to a depot: a file is missing if its path or a part of it is not there
-- [POSIX, ENOENT and ENOTDIR]
abbrev pub depot_fault_of : ErrorKind → DepotFault
depot_fault_of NotFound = Missing
depot_fault_of NotADirectory = Missing
depot_fault_of OutOfMemory = NoMemory
depot_fault_of kind = Failed

-- the count of missing files after a fault
abbrev pub misses_after : ℕ → DepotFault → ℕ
misses_after misses Missing = with_added misses 1
misses_after misses Failed = misses
misses_after misses NoMemory = misses

-- the count of failures of the device after a fault
abbrev pub faults_after : ℕ → DepotFault → ℕ
faults_after faults Missing = faults
faults_after faults Failed = with_added faults 1
faults_after faults NoMemory = faults
