use Rattle.std.proofs.Common.{ap, map, refl}
use Rattle.md_state.specs.View.{MirrorView, disk_of}
use Rattle.md_array.proofs.Rebuilding.FilledEvent.{fill_happens}
use Rattle.md_array.proofs.StepLemmas.Lend.{back_is_consistent, back_is_read}
use Rattle.md_array.proofs.mirror.Mirror.lend.Goals as goal

-- what is left behind the reference stands in the mirror; then the clauses
pub returns : goal.returns
returns g c =
    let old = c.args.self.now in
    let sound = c.requires.sound in (
      (refl, λ devices. ap (λ (v : MirrorView). record v { disks = map (disk_of g.D.Device) devices.items }) c.self.view_is),
      record {
        in_place = tt;
        devices = ap (λ (v : MirrorView). v.disks) c.self.view_is;
        sound = λ new back. back_is_consistent old sound new back;
        read = λ new failed_at spoiled back are. back_is_read old sound new back failed_at spoiled are;
        event = λ k new fills. fill_happens k old new sound fills;
      },
    )
