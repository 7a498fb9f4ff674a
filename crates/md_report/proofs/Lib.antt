pub mod Members
-- The lines of members with their images.
pub mod NamedMembers
-- How far members are.
pub mod Recoveries
-- Reports as JSON.
pub mod JsonLemmas
