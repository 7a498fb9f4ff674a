-- Members of an array by their indices, and what is found by going through them.

-- Members of an array that are read by their indices.
pub mod At
-- The first member in sync that lacks something, found by a test of each.
pub mod FirstLacking
-- The roles in which a chunk of the array may be read, by what is found in the list of its members.
pub mod Permitted
-- Which roles are filled once a member comes into sync.
pub mod Filled
