use Rattle.std.proofs.Common.{List, map, refl, subst, arith}
use Rattle.md_state.specs.View.{Disk, disk_of}
use Rattle.md_array.specs.Open.Opened.{IsOpenedFrom}
use Rattle.md_array.proofs.General.Honesty.{opened_honest}
use Rattle.md_laws.proofs.Runs.SmallLife as lives
use Rattle.md_laws.proofs.lone_life.small_life.Goals as goal

pub returns : goal.returns
returns g c =
    let before = map (disk_of g.D.Device) c.args.devices.items in
    let m = c.in-Ok.mirror in
    let next = c.in-Ok-open.next in
    record {
      life = λ honest. lives.small_life before m c.runs_twice.new.mirror next c.in-Ok.ensures.gives (omega arith)
          (c.if-not-runs_twice.ensures refl (opened_honest before m honest c.in-Ok.ensures.gives))
          (subst (λ (disks : List Disk). IsOpenedFrom disks next) c.into_devices.ensures c.in-Ok-open.ensures.gives)
          (omega arith) honest;
    }
