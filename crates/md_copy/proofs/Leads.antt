-- A rebuild as a list of events.

-- A rebuild is a list of events of the array's model, one part after another.
pub mod RebuildLeads
-- A rebuild that is refused is a list of events of the array's model, of which the last may spoil its target.
pub mod RefusedLeads
-- Where a write of the target's bitmap or of its log failed, nothing changed beside the two.
pub mod UnfinishedEnrol
