-- Where a chunk stands on a member.
pub mod Places
-- Copy events: what is reported of planned chunks, and which reports count.
pub mod Reports
-- A chunk is read from a source.
pub mod Reading
-- What the collector keeps, and what it answers to a report.
pub mod Collecting
-- A list of reports, taken one after another by a collector whose target is honest.
pub mod Lists
-- What becomes of the collector and its target when a report is taken.
pub mod Targets
-- What reads members side by side.
pub mod Workers
-- What a comparison of members finds.
pub mod Found
