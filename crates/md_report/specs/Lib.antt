-- Reports as text.
pub mod AsText
-- How far recovering members are rebuilt, as text, in a form of this project's own.
pub mod Recovery
-- Reports as JSON.
pub mod AsJson
