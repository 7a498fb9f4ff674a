-- An array in one line: a form of this project's own.
pub mod SummaryReport
-- The report of an array, as text.
pub mod DetailReport
-- The report of an array with the images of its members, as text.
pub mod VerboseReport
