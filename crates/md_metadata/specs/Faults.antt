-- What a part of a whole call answers of a step that is refused, and `stop` of a part.
use Rattle.md_faults.specs.declared.step_fault.StoreFault.{StoreFault}
use Rattle.md_faults.specs.declared.step_fault.StoreFault.TheVariants as store
use Rattle.md_metadata.specs.declared.fault.PartFault.{PartFault}
use Rattle.md_metadata.specs.declared.fault.PartFault.TheVariants as part
use Rattle.md_metadata.specs.declared.stop_fault.StopFault.{StopFault}
use Rattle.md_metadata.specs.declared.stop_fault.StopFault.TheVariants as stop

abbrev pub of_store : StoreFault → PartFault
of_store store.Halted = part.Halted
of_store store.NotActive = part.Halted
of_store (store.MemberFailed k) = part.MemberFailed k

abbrev pub of_part : PartFault → StopFault
of_part part.Halted = stop.Halted
of_part (part.MemberFailed k) = stop.MemberFailed k
