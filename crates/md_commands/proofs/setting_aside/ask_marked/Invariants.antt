use Rattle.std.proofs.Common.{◌-◌}
use Rattle.md_array.specs.Consistency.{IsConsistent}
use Rattle.md_badblocks.specs.Runs.{IsCanonical}
use Rattle.md_state.specs.Rests.{Rests}
use Rattle.md_commands.specs.SettingAside.{FindsUngiven}
use Rattle.md_commands.proofs.setting_aside.ask_marked.Given as goal

abbrev pub decreases-loop-sector : goal.decreases-loop-sector
decreases-loop-sector g l = l.size - l.sector

abbrev pub invariant-loop-sector : goal.invariant-loop-sector
invariant-loop-sector g l = record {
  rests : Rests l.fn.mirror l.mirror;
  found : FindsUngiven l.k l.fn.not_given l.not_given l.fn.mirror l.mirror;
  canonical : IsCanonical l.not_given;
  sound : IsConsistent l.mirror;
}
