use Rattle.std.proofs.Common.{◌≡◌, false, take}
use Rattle.std.specs.List.{list_any}
use Rattle.md_notices.specs.Kernel.{shows}
use Rattle.md_notices.proofs.kernel.has_one.Given as goal

abbrev pub invariant-loop-k : goal.invariant-loop-k
invariant-loop-k g l = list_any (shows l.mirror.array l.sign) (take l.k l.mirror.array.members) ≡ false
