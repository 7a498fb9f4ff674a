-- The object of a rebuild's plan.
pub mod PlanObject
-- The object of a rebuild that is done.
pub mod RebuiltObject
-- The object of a rebuild that lists bad sectors, and not their chunks.
pub mod SalvagedObject
