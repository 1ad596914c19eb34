-- Public meaning: the names of what is wrong with a section of entitlements.
use Rattle.std.specs.Prelude.{ℕ, List, codes}
use Rattle.sd_message.specs.declared.emm_fault.EmmFault.{EmmFault}
use Rattle.sd_message.specs.declared.emm_fault.EmmFault.TheVariants.{Count, Order, Node, Mixed}

-- the name of a fault, as it is printed [this project, docs/FORMATS.md, Messages printed and Exits]
unfoldable pub emm_fault_name : EmmFault → List ℕ
emm_fault_name Count = codes "count"
emm_fault_name Order = codes "order"
emm_fault_name Node = codes "node"
emm_fault_name Mixed = codes "mixed"
