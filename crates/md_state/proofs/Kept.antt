-- What is kept of the array that the members make.

-- Members in which no fault is found are of one size, and of chunks of one size.
pub mod Geometry
-- What is found in the list of the members is what an array of them keeps.
pub mod Remembered
