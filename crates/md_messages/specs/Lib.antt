-- What a device holds that is to join an array.
pub mod Holding
-- What is noticed of an array beside what a command gives.
pub mod Noticed
-- A fault's text.
pub mod FaultText
-- The question before a command is done.
pub mod Question
-- Lines of a command that is refused.
pub mod RefusedLines
-- What standard error is told of what was noticed.
pub mod Telling
-- What is said of sectors for which zeros were put out.
pub mod Missing
-- What is said of sectors to which a command writes and that can't be read.
pub mod Unreadable
-- That a kernel may not be given the array yet.
pub mod Unready
