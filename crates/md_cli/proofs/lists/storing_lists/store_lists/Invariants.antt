use Rattle.std.proofs.Common.{◌≡◌, length}
use Rattle.md_array.specs.Consistency.{IsConsistent}
use Rattle.md_refusals.specs.declared.fault.CommandFault.{CommandFault}
use Rattle.md_state.specs.View.{MirrorView}
use Rattle.md_cli.specs.StoringLists.{FailsFrom, StoresFrom}
use Rattle.md_cli.proofs.lists.storing_lists.store_lists.Given as goal

abbrev pub invariant-loop-k : goal.invariant-loop-k
invariant-loop-k g l = record {
  sound : IsConsistent l.mirror;
  members : length l.mirror.array.members ≡ length l.fn.mirror.array.members;
  as_many : length l.mirror.disks ≡ length l.fn.mirror.disks;
  stores : (last : MirrorView) → StoresFrom l.lacking l.k l.mirror last → StoresFrom l.lacking 0 l.fn.mirror last;
  fails : (fault : CommandFault) (last : MirrorView) → FailsFrom l.lacking fault l.k l.mirror last → FailsFrom l.lacking fault 0 l.fn.mirror last;
}
