-- The report of a rebuild's plan, as text, in a form of this project's own.
pub mod PlanReport
-- The report of a rebuild, as text, in a form of this project's own.
pub mod RebuiltReport
-- The report of a rebuild that lists bad sectors, and not their chunks, as text, in a form of this project's own.
pub mod SalvagedReport
