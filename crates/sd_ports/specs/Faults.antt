-- Public meaning: faults of depots and of inputs as faults of whole files.
use Rattle.sd_ports.specs.declared.fault.DepotFault.{DepotFault}
use Rattle.sd_ports.specs.declared.fault.DepotFault.TheVariants.{Missing, Failed, NoMemory}
use Rattle.sd_ports.specs.declared.file.FileFault.{FileFault}
use Rattle.sd_ports.specs.declared.file.FileFault.TheVariants as file
use Rattle.sd_ports.specs.declared.whole.ReadAllFault.{ReadAllFault}
use Rattle.sd_ports.specs.declared.whole.ReadAllFault.TheVariants as read

-- what a fault of reading all that is left is to a whole file
abbrev pub whole_fault : ReadAllFault → FileFault
whole_fault read.TooBig = file.TooBig
whole_fault read.Failed = file.Failed
whole_fault read.NoMemory = file.NoMemory

-- what a fault of a depot is to a whole file
abbrev pub file_fault : DepotFault → FileFault
file_fault Missing = file.Missing
file_fault Failed = file.Failed
file_fault NoMemory = file.NoMemory
