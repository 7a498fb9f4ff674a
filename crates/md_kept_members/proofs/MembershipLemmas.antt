-- The roles of absent devices are gone through in their order.
pub mod AbsentRoles
-- The numbers of members: there are no more than members.
pub mod NumbersUsed
-- A superblock's profile is a fact, so that any two proofs of it are one.
pub mod Profiles
