-- A rebuild by its steps: how it begins, and what it answers.

-- What a rebuild answers, by the step that ends it.
pub mod Answered
-- A rebuild that has begun.
pub mod Begun
-- Where a rebuild ended, its target is a member still.
pub mod EndedWithin
