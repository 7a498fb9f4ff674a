use Rattle.std.proofs.Common.{map, sym, subst}
use Rattle.md_state.specs.Requests.{IsPending}
use Rattle.md_state.specs.View.{MirrorView, disk_of}
use Rattle.md_array.specs.Consistency.{IsConsistent}
use Rattle.md_array.proofs.StepLemmas.WriteKeeps.{finish_back, finish_event, finish_pending, finish_sound}
use Rattle.md_array.proofs.mirror.Mirror.finish.Goals as goal

pub returns : goal.returns
returns g c =
    let disks = map (disk_of g.D.Device) c.self.inside.devices.items in
    let sound = subst IsConsistent (sym c.self.view_is) c.requires.sound in
    let pending = subst (λ (v : MirrorView). IsPending v.array c.args.pending) (sym c.self.view_is) c.requires.pending in
    let gives = c.finish.ensures disks in
    rw (← c.self.view_is) (record {
      gives = gives;
      event = finish_event _ _ _ sound pending _ gives;
      sound = finish_sound _ _ _ sound pending _ gives;
      back = finish_back _ _ _ sound pending _ gives;
      pending = finish_pending _ _ _ sound pending _ gives;
    })
