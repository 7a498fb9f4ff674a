use Rattle.std.proofs.Common.{◌≡◌, false, map, refl, sym, subst}
use Rattle.md_state.specs.View.{MirrorView, disk_of}
use Rattle.md_array.specs.Consistency.{IsConsistent}
use Rattle.md_array.specs.Steps.LowerOffset.{LowersOffset}
use Rattle.md_array.proofs.StepLemmas.LowerOffset.{lower_happens, lowered_is_consistent, lowered_is_pending}
use Rattle.md_array.proofs.mirror.Mirror.lower_offset.Goals as goal

pub returns : goal.returns
returns g c =
    let disks = map (disk_of g.D.Device) c.self.inside.devices.items in
    let was : MirrorView = record { disks = disks; array = c.self.inside.array } in
    let new : MirrorView = record { disks = disks; array = c.lower_offset.new.self } in
    let sound = subst IsConsistent (sym c.self.view_is) c.requires.sound in
    let running = subst (λ (v : MirrorView). v.array.halted ≡ false) (sym c.self.view_is) c.requires.running in
    let lowers : LowersOffset c.args.k c.args.sector was new = record { disks = refl; lowers = c.lower_offset.ensures } in
    rw (← c.self.view_is) (record {
      gives = lowers;
      event = lower_happens c.args.k c.args.sector was new sound lowers running;
      sound = lowered_is_consistent c.args.k c.args.sector was new sound lowers;
      pending = lowered_is_pending c.args.k c.args.sector was new sound lowers;
    })
