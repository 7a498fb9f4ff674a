-- Members by their indices, and what is found by going through them.

-- At most one element of a list passes a test where it counts at most one.
pub mod Counting
-- The freshest superblock of a list, found one by one.
pub mod Freshest
-- Elements of lists by their indices.
pub mod Indices
-- A function is applied to the elements of a list in turn.
pub mod Mapping
-- Which roles are found as bits of a word, member by member.
pub mod Roles
