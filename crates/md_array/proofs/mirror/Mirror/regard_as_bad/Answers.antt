use Rattle.std.proofs.Common.{ℕ, Bool, ◌≡◌, ◌<◌, true, length, map, refl, sym, subst}
use Rattle.md_state.specs.Members.{IsMember}
use Rattle.md_state.specs.View.{MirrorView, disk_of}
use Rattle.md_assembly.specs.States.{is_in_sync}
use Rattle.md_kept_members.specs.View.{MemberView}
use Rattle.md_array.specs.Consistency.{IsConsistent}
use Rattle.md_array.specs.Steps.NoteBad.{AreBelowListLimit, AreSectorsOf}
use Rattle.md_array.proofs.Rebuilding.NoteBad.{are_below, regard_event, regard_gives, regard_pending, regard_sound}
use Rattle.md_array.proofs.StepLemmas.OneWrite.{here, within_devices}
use Rattle.md_kept_members.specs.SectorLists.{in_runs}
use Rattle.md_array.proofs.mirror.Mirror.regard_as_bad.Goals as goal

pub returns : goal.returns
returns g c =
    let disk = disk_of g.D.Device in
    let devices = c.self.inside.devices.items in
    let was : MirrorView = record { disks = map disk devices; array = c.self.inside.array } in
    let new : MirrorView = record { disks = map disk devices; array = c.regard_as_bad.new.self } in
    let sound = subst IsConsistent (sym c.self.view_is) c.requires.sound in
    let on_device : c.args.k < length devices = within_devices disk devices c.self.inside.array c.args.self.now c.args.k c.self.view_is c.requires.sound c.requires.within in
    let more : ℕ → Bool = in_runs c.args.sectors.now in
    let below : AreSectorsOf was more → AreBelowListLimit c.args.k more was = λ within.
    are_below c.args.k more was sound within (disk c.index.result.now) (here g.D.Device devices c.args.k c.index.result.now c.index.ensures on_device) c.sectors-sectors.result c.sectors-sectors.ensures.size c.sectors-sectors.ensures.limit in
    let in_sync : (m : MemberView) → IsMember was.array c.args.k m → is_in_sync m.state ≡ true =
    subst (λ (v : MirrorView). (m : MemberView) → IsMember v.array c.args.k m → is_in_sync m.state ≡ true) (sym c.self.view_is) c.requires.in_sync in
    rw (← c.self.view_is) (record {
      gives = regard_gives c.args.k more was new sound refl in_sync c.regard_as_bad.result c.regard_as_bad.ensures;
      event = regard_event c.args.k more was new sound refl in_sync below c.regard_as_bad.result c.regard_as_bad.ensures;
      sound = regard_sound c.args.k more was new sound refl in_sync c.regard_as_bad.result c.regard_as_bad.ensures;
      pending = regard_pending c.args.k more was new sound refl in_sync c.regard_as_bad.result c.regard_as_bad.ensures;
    })
