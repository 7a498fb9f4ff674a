use Rattle.std.proofs.Common.{◌≡◌, take}
use Rattle.std.specs.List.{fold}
use Rattle.md_examine_commands.specs.ScanText.{fresher}
use Rattle.md_examine_commands.proofs.scan.seen.freshest.Given as goal

abbrev pub invariant-loop-seen : goal.invariant-loop-seen
invariant-loop-seen l = l.best ≡ fold fresher l.first (take l.seen-index l.rest)
