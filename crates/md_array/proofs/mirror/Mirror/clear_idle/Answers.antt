use Rattle.std.proofs.Common.{map, sym, subst}
use Rattle.md_state.specs.View.{disk_of}
use Rattle.md_array.specs.Consistency.{IsConsistent}
use Rattle.md_array.proofs.StepLemmas.BeginKeeps.{clear_event, clear_pending, clear_sound}
use Rattle.md_array.proofs.mirror.Mirror.clear_idle.Goals as goal

pub returns : goal.returns
returns g c =
    let disks = map (disk_of g.D.Device) c.self.inside.devices.items in
    let sound = subst IsConsistent (sym c.self.view_is) c.requires.sound in
    let gives = c.clear_idle.ensures disks in
    rw (← c.self.view_is) (record {
      gives = gives;
      event = clear_event c.args.chunk _ _ sound _ gives;
      sound = clear_sound c.args.chunk _ _ sound _ gives;
      pending = clear_pending c.args.chunk _ _ sound _ gives;
    })
