-- Public meaning: the names of what is wrong with a part of a control message.
use Rattle.std.specs.Prelude.{ℕ, List, codes}
use Rattle.sd_message.specs.declared.ecm_fault.EcmFault.{EcmFault}
use Rattle.sd_message.specs.declared.ecm_fault.EcmFault.TheVariants.{Count, Order, Pid, Mixed, Back}

-- the name of a fault, as it is printed [this project, docs/FORMATS.md, Messages printed and Exits]
unfoldable pub ecm_fault_name : EcmFault → List ℕ
ecm_fault_name Count = codes "count"
ecm_fault_name Order = codes "order"
ecm_fault_name Pid = codes "pid"
ecm_fault_name Mixed = codes "mixed"
ecm_fault_name Back = codes "back"
