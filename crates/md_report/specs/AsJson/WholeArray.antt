-- The members of an array, with the images that they are on.
pub mod MemberObjects
-- The lists of a report in detail.
pub mod StandingLists
-- How far recovering members are rebuilt.
pub mod RecoveringList
-- What is to be run before a kernel is given the array.
pub mod KernelField
-- The objects of a whole array.
pub mod ArrayObjects
