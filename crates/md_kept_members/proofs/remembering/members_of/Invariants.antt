use Rattle.md_kept_members.specs.Remembering.{AreKept}
use Rattle.md_kept_members.proofs.remembering.members_of.Given as goal

abbrev pub invariant-loop-info : goal.invariant-loop-info
invariant-loop-info l = AreKept l.events 0 l.yielded l.states l.members.items
