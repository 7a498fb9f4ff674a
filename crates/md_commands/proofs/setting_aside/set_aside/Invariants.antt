use Rattle.std.proofs.Common.{◌≡◌, List, ℕ, false, length}
use Rattle.md_array.specs.Consistency.{IsConsistent}
use Rattle.md_commands.specs.SettingAside.{SetsAside}
use Rattle.md_commands.proofs.setting_aside.set_aside.Given as goal

abbrev pub invariant-loop-k : goal.invariant-loop-k
invariant-loop-k g l = record {
  members : List ℕ;
  sets : SetsAside members l.fn.mirror l.mirror;
  running : l.mirror.array.halted ≡ false;
  as_many : length l.mirror.array.members ≡ length l.fn.mirror.array.members;
  sound : IsConsistent l.mirror;
}
