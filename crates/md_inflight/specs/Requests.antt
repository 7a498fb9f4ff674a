-- A request in flight, as its caller has it.
pub mod Pending
