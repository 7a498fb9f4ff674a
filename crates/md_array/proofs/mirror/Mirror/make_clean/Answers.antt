use Rattle.std.proofs.Common.{map, sym, subst}
use Rattle.md_state.specs.View.{disk_of}
use Rattle.md_array.specs.Consistency.{IsConsistent}
use Rattle.md_array.proofs.StepLemmas.MakeClean.{clean_event, clean_pending, clean_sound}
use Rattle.md_array.proofs.mirror.Mirror.make_clean.Goals as goal

pub returns : goal.returns
returns g c =
    let disks = map (disk_of g.D.Device) c.self.inside.devices.items in
    let sound = subst IsConsistent (sym c.self.view_is) c.requires.sound in
    let gives = c.make_clean.ensures disks in
    rw (← c.self.view_is) (record {
      gives = gives;
      event = clean_event _ _ sound _ gives;
      sound = clean_sound _ _ sound _ gives;
      pending = clean_pending _ _ sound _ gives;
    })
