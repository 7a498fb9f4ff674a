use Rattle.std.proofs.Common.{map}
use Rattle.md_state.specs.View.{disk_of}
use Rattle.md_call_laws.proofs.CrashLemmas.Agreement.{agreed_when_fresh}
use Rattle.md_call_laws.proofs.crashes.fresh_array.fresh_agreement.Goals as goal

pub returns-in-Ok-resync : goal.returns-in-Ok-resync
returns-in-Ok-resync g c = record {
  agreed = λ honest fresh.
      agreed_when_fresh (map (disk_of g.D.Device) c.args.devices.items) c.in-Ok.mirror c.resync.new.mirror honest fresh c.in-Ok.ensures.gives c.in-Ok-resync.ensures.gives;
}
