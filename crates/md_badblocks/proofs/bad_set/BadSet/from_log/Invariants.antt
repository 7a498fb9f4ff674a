use Rattle.md_badblocks.proofs.Reading.{IsReadTo}
use Rattle.md_badblocks.proofs.bad_set.BadSet.from_log.Given as goal

abbrev pub invariant-loop-place : goal.invariant-loop-place
invariant-loop-place l = IsReadTo l.shift l.bytes l.place l.set
