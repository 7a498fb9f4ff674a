-- From the call to the moment at which a pass may be planned.

-- A rebuild's first pass is over the chunks that the target lacked before the call, and planned by where they might be read then.
pub mod BegunAs
-- A recovering target is to say no more that it has what it lacks: but for that all is as it was before.
pub mod Lowered
-- A rebuild is readied, step by step.
pub mod MadeReady
-- What a rebuild is readied for: what is stored first and the admission of a spare leave it able to go on, and then its target is recovering.
pub mod Readied
-- A rebuild that may go on may do so after a pass, after it is recorded, and once lists are stored; and where a member failed on the way, how far it
-- came may be recorded.
pub mod ReadyStill
-- A mirror from which a rebuild starts is as one before it, but for what is stored and for who is recovering: what is rebuilt from the one is
-- rebuilt from the other.
pub mod StartedAs
-- A rebuild that was readied starts as it was before: by what is stored first, and by the admission of a spare.
pub mod StartsReadied
-- What the target lacks its superblock does not say that it has, once a rebuild is readied.
pub mod Unsaid
