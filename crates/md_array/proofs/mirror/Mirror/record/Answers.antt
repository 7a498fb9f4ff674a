use Rattle.std.proofs.Common.{◌≡◌, ◌*◌, ◌<◌, [], ◌∷◌, ap, length, map, set, subst}
use Rattle.std.proofs.lemmas.Result.{err_from_is_err_and}
use Rattle.md_device.specs.Splice.{SameOutside}
use Rattle.md_super.specs.declared.superblock.Superblock.{Superblock}
use Rattle.md_super.specs.Merge.{merged}
use Rattle.md_members.specs.DeviceWrites.Writes.{MakesWrites}
use Rattle.md_kept_members.specs.OnDevices.Superblocks.{IsReadable, write_of}
use Rattle.md_state.specs.View.{ArrayView, MirrorView, disk_of}
use Rattle.md_state.specs.Steps.Record.{IsActive}
use Rattle.md_state.specs.Members.{IsMember}
use Rattle.md_state.proofs.Members.At.{member_read}
use Rattle.md_array.specs.Steps.Record.{MayRecord, Records, RefusesRecord, super_write}
use Rattle.md_array.proofs.General.Answered.{err_of, ok_of}
use Rattle.md_array.proofs.StepLemmas.OneWrite.{fits_now, fits_there, is_failed, is_written, within_devices, within_members}
use Rattle.md_array.proofs.StepLemmas.StoresKeep.{record_refused_happens, record_refused_is_consistent, record_refused_is_pending}
use Rattle.md_array.proofs.StepLemmas.Record.{record_happens, recorded_is_consistent, recorded_is_pending}
use Rattle.md_array.proofs.StepLemmas.Refused.{record_failed, record_refused}
use Rattle.md_array.proofs.mirror.Mirror.record.Given as given
use Rattle.md_array.proofs.mirror.Mirror.record.Goals as goal
use Rattle.md_array.proofs.mirror.Mirror.record.Goals.{After-index_mut, After-store_superblock}

on_device : (g : given.Over) (c : After-index_mut g) → c.args.k < length c.self.inside.devices.items
on_device g c = within_devices (disk_of g.D.Device) c.self.inside.devices.items c.self.inside.array c.args.self.now c.args.k c.self.view_is c.requires.sound c.requires.within

member : (g : given.Over) (c : After-index_mut g) → IsMember c.self.inside.array c.args.k c.index-member.result.now
member g c =
    member_read c.self.inside.array _ c.args.k c.index-member.result.now c.array.view_is
    (within_members (disk_of g.D.Device) c.self.inside.devices.items c.self.inside.array c.args.self.now c.args.k c.self.view_is c.requires.sound c.requires.within)
    c.index-member.ensures

pub store_superblock-requires : goal.store_superblock-requires
store_superblock-requires g c =
    let disk = disk_of g.D.Device in
    let at = (goal.at.store_superblock-requires g c).After-index_mut in
    (fits_there g.D.Device c.self.inside.devices.items c.args.k c.index_mut.result.now c.index_mut.ensures.value c.self.inside.array c.index-member.result.now (on_device g at)
    (fits_now disk c.self.inside.devices.items c.self.inside.array c.args.self.now c.args.k c.self.view_is c.requires.sound c.requires.within) (member g at)).long

-- the fields that are written are the array's
same_shared : (g : given.Over) (c : After-store_superblock g) → c.array.inside.shared ≡ c.self.inside.array.shared
same_shared g c = ap (λ (a : ArrayView). a.shared) c.array.view_is

may : (g : given.Over) (c : After-store_superblock g) → MayRecord c.args.k c.self.inside.array c.index-member.result.now
may g c =
    let active : IsActive c.args.k c.self.inside.array = c.in_ok-check_active.ensures in
    let at : After-index_mut g = c.before in
    record { running = active.running; at = member g at; active = active.active c.index-member.result.now (member g at); readable = subst (λ (v : Superblock). IsReadable (merged v c.index-member.result.now.superblock)) (same_shared g c) c.store_superblock.ensures.readable }

pub returns : goal.returns
returns g c =
    let disk = disk_of g.D.Device in
    let at = (goal.at.returns g c).After-index_mut in
    let m = c.index-member.result.now in
    let outside = subst (λ (v : Superblock). SameOutside (512 * 8) (length (write_of v m).bytes) (g.D.Device.content c.index_mut.result.now) (g.D.Device.content c.store_superblock.new.device)) (same_shared g (goal.at.returns g c).After-store_superblock) c.store_superblock.ensures.outside in
    let writes = subst (λ (v : Superblock). MakesWrites g.D.Device (write_of v m ∷ []) c.index_mut.result.now c.store_superblock.new.device c.store_superblock.result) (same_shared g (goal.at.returns g c).After-store_superblock) c.store_superblock.ensures.writes in
    let new : MirrorView = record { disks = map disk (set c.self.inside.devices.items c.args.k c.store_superblock.new.device); array = c.note_recorded.new.self } in
    let stored : Records c.args.k c.args.self.now new = subst (λ (old : MirrorView). Records c.args.k old new) c.self.view_is (record {
      member = m;
      may = may g (goal.at.returns g c).After-store_superblock;
      disks = is_written g.D.Device c.self.inside.devices.items c.args.k c.index_mut.result.now c.index_mut.ensures.value c.store_superblock.new.device
          (super_write c.self.inside.array m) (on_device g at) outside (ok_of c.store_superblock.result _ _ c.if-is_err.ensures.value writes);
      array = c.note_recorded.ensures m (member g at);
    }) in
    record {
      gives = stored;
      event = record_happens c.args.k c.args.self.now new c.requires.sound stored;
      sound = recorded_is_consistent c.args.k c.args.self.now new c.requires.sound stored;
      pending = recorded_is_pending c.args.k c.args.self.now new c.requires.sound stored;
    }

pub returns-then-is_err : goal.returns-then-is_err
returns-then-is_err g c =
    let disk = disk_of g.D.Device in
    let at = (goal.at.returns-then-is_err g c).After-index_mut in
    let m = c.index-member.result.now in
    let outside = subst (λ (v : Superblock). SameOutside (512 * 8) (length (write_of v m).bytes) (g.D.Device.content c.index_mut.result.now) (g.D.Device.content c.store_superblock.new.device)) (same_shared g (goal.at.returns-then-is_err g c).After-store_superblock) c.store_superblock.ensures.outside in
    let writes = subst (λ (v : Superblock). MakesWrites g.D.Device (write_of v m ∷ []) c.index_mut.result.now c.store_superblock.new.device c.store_superblock.result) (same_shared g (goal.at.returns-then-is_err g c).After-store_superblock) c.store_superblock.ensures.writes in
    let new : MirrorView = record { disks = map disk (set c.self.inside.devices.items c.args.k c.store_superblock.new.device); array = c.store_failed.new.self } in
    let refused : RefusesRecord c.args.k c.args.self.now new c.store_failed.result = subst (λ (old : MirrorView). RefusesRecord c.args.k old new c.store_failed.result) c.self.view_is
    (record_failed c.args.k _ new m c.store_failed.result (may g (goal.at.returns-then-is_err g c).After-store_superblock)
    (is_failed g.D.Device c.self.inside.devices.items c.args.k c.index_mut.result.now c.index_mut.ensures.value c.store_superblock.new.device
    (super_write c.self.inside.array m) (on_device g at) outside (err_of c.store_superblock.result _ _ c.if-is_err.ensures.value writes))
    c.store_failed.ensures) in
    record {
      gives = refused;
      event = record_refused_happens c.args.k c.args.self.now new c.requires.sound c.store_failed.result refused;
      sound = record_refused_is_consistent c.args.k c.args.self.now new c.requires.sound c.store_failed.result refused;
      pending = record_refused_is_pending c.args.k c.args.self.now new c.requires.sound c.store_failed.result refused;
    }

pub returns-in_err-check_active : goal.returns-in_err-check_active
returns-in_err-check_active g c =
    let p = err_from_is_err_and c.from_residual.result c.from_residual.ensures.1 in
    let fault = c.in_err-check_active.field-0.0 in
    let old = c.args.self.now in
    let refused : RefusesRecord c.args.k old old fault = subst (λ (v : MirrorView). RefusesRecord c.args.k v v fault) c.self.view_is (record_refused c.args.k _ fault c.in_err-check_active.ensures) in
    rw (p.1, p.2) (record {
      gives = refused;
      event = record_refused_happens c.args.k old old c.requires.sound fault refused;
      sound = c.requires.sound;
      pending = λ _ is. is;
    })
