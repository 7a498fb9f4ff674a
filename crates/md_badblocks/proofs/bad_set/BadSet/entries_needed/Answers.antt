use Rattle.md_badblocks.proofs.Ranges.{entries_fit}
use Rattle.md_badblocks.proofs.bad_set.BadSet.entries_needed.Goals as goal

pub count_entries-requires : goal.count_entries-requires
count_entries-requires c = rw c.deref.ensures.value (entries_fit c.self.inside.runs.items c.self.invariant)
