-- What a rebuild that is done makes of its target.

-- What a rebuild makes of the target from before the call to after it.
pub mod RebuiltByCall
-- What a rebuild makes of its target from the moment that it is readied.
pub mod RebuiltMember
-- A member beside the target is in the state in which it was through a rebuild, unless a write to it fails.
pub mod StatesKept
