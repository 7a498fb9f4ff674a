use Rattle.md_state.specs.Steps.WriteMember.{IsNotDue}
use Rattle.md_metadata.specs.Storing.{IsRecording, StoresBelow}
use Rattle.md_metadata.proofs.records.store_records.Given as goal

abbrev pub invariant-loop-k : goal.invariant-loop-k
invariant-loop-k g l = StoresBelow IsRecording l.k IsNotDue l.fn.mirror l.mirror
