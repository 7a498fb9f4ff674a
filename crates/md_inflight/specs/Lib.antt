-- When two runs of sectors meet.
pub mod Spans
-- What a contract sees of the requests in flight.
pub mod Inflight
-- Values that each lie at an address of their own.
pub mod Placed
-- What a chain owns of its nodes, and what a `&mut` to one leaves.
pub mod Ownership
pub mod ChainLends
-- A list of addresses that only grows.
pub mod Addresses
-- How the nodes of a chain are linked.
pub mod Linked
-- What a list keeps true of its nodes, its numbers and its book.
pub mod Kept
-- What a list ends as, where a `&mut` to one of its items is returned.
pub mod Lends
-- A request that writes to an array, while it is in flight.
pub mod Requests
