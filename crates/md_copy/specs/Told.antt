-- What a gate is told of a rebuild.
use Rattle.std.specs.Prelude.{List, All}
use Rattle.md_cert.specs.declared.slots.Slot.{Slot}
use Rattle.md_streams.specs.declared.gate.Gate.{Ghosts}
use Rattle.md_collect.specs.Workers.Gates.{IsTold}
use Rattle.md_cert.specs.declared.planned.Planned.{Planned}

module _ {G : Type 0} (t : Ghosts G) (gate : G) where
  -- of the read of each of these slots
  abbrev pub IsToldOfSlots : List Slot → Type 0
  IsToldOfSlots slots = All (λ slot. IsTold t gate slot.source slot.chunk) slots

  -- of each read of these plans
  abbrev pub IsToldOfPlans : List Planned → Type 0
  IsToldOfPlans plans = All (λ planned. IsToldOfSlots planned.plan.slots) plans
