-- What is stored beside the data, and what that leaves as it was.

-- A checkpoint is an event of the array's model, and one that fails spoils its member.
pub mod CheckpointDone
-- What is stored before a rebuild and after it, part by part.
pub mod StoredFirst
-- Where marks and superblocks are stored, whatever fails, the data of all members are as before.
pub mod StoringKeeps
-- Who may be rebuilt, and who may be so still.
pub mod TargetStates
