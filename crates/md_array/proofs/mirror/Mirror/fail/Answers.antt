use Rattle.std.proofs.Common.{map, sym, subst}
use Rattle.md_state.specs.View.{disk_of}
use Rattle.md_array.specs.Consistency.{IsConsistent}
use Rattle.md_array.proofs.StepLemmas.Fail.{fail_event, fail_pending, fail_sound}
use Rattle.md_array.proofs.mirror.Mirror.fail.Goals as goal

pub returns : goal.returns
returns g c =
    let disks = map (disk_of g.D.Device) c.self.inside.devices.items in
    let sound = subst IsConsistent (sym c.self.view_is) c.requires.sound in
    let gives = c.fail_member.ensures disks in
    rw (← c.self.view_is) (record {
      gives = gives;
      event = fail_event c.args.k _ _ sound _ gives;
      sound = fail_sound c.args.k _ _ sound _ gives;
      pending = fail_pending c.args.k _ _ sound _ gives;
    })
