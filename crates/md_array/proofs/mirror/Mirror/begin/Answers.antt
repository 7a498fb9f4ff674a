use Rattle.std.proofs.Common.{map, sym, subst}
use Rattle.md_state.specs.View.{disk_of}
use Rattle.md_array.specs.Consistency.{IsConsistent}
use Rattle.md_array.proofs.StepLemmas.BeginKeeps.{begin_begun, begin_event, begin_pending, begin_sound}
use Rattle.md_array.proofs.mirror.Mirror.begin.Goals as goal

pub returns : goal.returns
returns g c =
    let disks = map (disk_of g.D.Device) c.self.inside.devices.items in
    let sound = subst IsConsistent (sym c.self.view_is) c.requires.sound in
    let gives = c.begin.ensures disks in
    rw (← c.self.view_is) (record {
      gives = gives;
      event = begin_event c.args.sector c.args.bytes.now _ _ sound _ gives;
      sound = begin_sound c.args.sector c.args.bytes.now _ _ sound _ gives;
      begun = begin_begun c.args.sector c.args.bytes.now _ _ sound c.requires.whole _ gives;
      pending = begin_pending c.args.sector c.args.bytes.now _ _ sound _ gives;
    })
