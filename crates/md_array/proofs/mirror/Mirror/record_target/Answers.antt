use Rattle.std.proofs.Common.{◌≡◌, ◌∙◌, ◌*◌, ◌<◌, [], ◌∷◌, true, ap, length, map, set, sym, subst}
use Rattle.md_device.specs.Splice.{SameOutside}
use Rattle.md_super.specs.declared.superblock.Superblock.{Superblock}
use Rattle.md_super.specs.Merge.{merged}
use Rattle.md_members.specs.DeviceWrites.Writes.{MakesWrites}
use Rattle.md_kept_members.specs.OnDevices.Superblocks.{IsReadable, write_of}
use Rattle.md_state.specs.Members.{IsMember}
use Rattle.md_state.specs.Missing.{is_rebuilt}
use Rattle.md_state.specs.Requests.{IsPending}
use Rattle.md_state.specs.View.{ArrayView, MirrorView, disk_of}
use Rattle.md_state.proofs.Members.At.{member_read}
use Rattle.md_array.specs.Consistency.{IsConsistent}
use Rattle.md_array.specs.Steps.Record.{MayRecord, Records, super_write}
use Rattle.md_array.specs.Steps.RecordTarget.{LeavesUnrecorded, TargetFails}
use Rattle.md_array.specs.declared.mirror.Mirror.TheInside.{Inside}
use Rattle.md_array.proofs.Rebuilding.RecordTargetEvent.{target_fails_happens}
use Rattle.md_array.proofs.General.Answered.{err_of, ok_of}
use Rattle.md_array.proofs.StepLemmas.OneWrite.{fits_now, fits_there, is_failed, is_written, within_devices, within_members}
use Rattle.md_array.proofs.StepLemmas.Record.{record_happens, recorded_is_consistent, recorded_is_pending}
use Rattle.md_array.proofs.StepLemmas.RecordTarget.{rebuilt_recorded, unrecorded_is_consistent, unrecorded_is_pending}
use Rattle.md_array.proofs.mirror.Mirror.record_target.Given as given
use Rattle.md_array.proofs.mirror.Mirror.record_target.Goals as goal
use Rattle.md_array.proofs.mirror.Mirror.record_target.Goals.{After-index_mut, After-store_superblock}

on_device : (g : given.Over) (c : After-index_mut g) → c.args.k < length c.self.inside.devices.items
on_device g c = within_devices (disk_of g.D.Device) c.self.inside.devices.items c.self.inside.array c.args.self.now c.args.k c.self.view_is c.requires.sound c.requires.within

member : (g : given.Over) (c : After-index_mut g) → IsMember c.self.inside.array c.args.k c.index-member.result.now
member g c =
    member_read c.self.inside.array _ c.args.k c.index-member.result.now c.array.view_is
    (within_members (disk_of g.D.Device) c.self.inside.devices.items c.self.inside.array c.args.self.now c.args.k c.self.view_is c.requires.sound c.requires.within)
    c.index-member.ensures

rebuilt : (g : given.Over) (c : After-index_mut g) → is_rebuilt c.index-member.result.now.state ≡ true
rebuilt g c =
    let m = c.index-member.result.now in
    c.requires.rebuilt m (subst (λ (v : MirrorView). IsMember v.array c.args.k m) c.self.view_is (member g c))

pub store_superblock-requires : goal.store_superblock-requires
store_superblock-requires g c =
    let disk = disk_of g.D.Device in
    let at = (goal.at.store_superblock-requires g c).After-index_mut in
    (fits_there g.D.Device c.self.inside.devices.items c.args.k c.index_mut.result.now c.index_mut.ensures.value c.self.inside.array c.index-member.result.now (on_device g at)
    (fits_now disk c.self.inside.devices.items c.self.inside.array c.args.self.now c.args.k c.self.view_is c.requires.sound c.requires.within) (member g at)).long

-- the fields that are written are the array's
same_shared : (g : given.Over) (c : After-store_superblock g) → c.array.inside.shared ≡ c.self.inside.array.shared
same_shared g c = ap (λ (a : ArrayView). a.shared) c.array.view_is

may : (g : given.Over) (c : After-store_superblock g) → MayRecord c.args.k c.self.inside.array c.index-member.result.now
may g c =
    let at : After-index_mut g = c.before in
    let m = c.index-member.result.now in
    record {
      running = sym (ap (λ (x : Inside g.row.D.Denot). x.array.halted) c.self-inside.view_is) ∙ c.if-self.false;
      at = member g at;
      active = rebuilt_recorded m.state (rebuilt g at);
      readable = subst (λ (v : Superblock). IsReadable (merged v m.superblock)) (same_shared g c) c.store_superblock.ensures.readable;
    }

pub returns : goal.returns
returns g c =
    let disk = disk_of g.D.Device in
    let at = (goal.at.returns g c).After-index_mut in
    let m = c.index-member.result.now in
    let outside = subst (λ (v : Superblock). SameOutside (512 * 8) (length (write_of v m).bytes) (g.D.Device.content c.index_mut.result.now) (g.D.Device.content c.store_superblock.new.device)) (same_shared g (goal.at.returns g c).After-store_superblock) c.store_superblock.ensures.outside in
    let writes = subst (λ (v : Superblock). MakesWrites g.D.Device (write_of v m ∷ []) c.index_mut.result.now c.store_superblock.new.device c.store_superblock.result) (same_shared g (goal.at.returns g c).After-store_superblock) c.store_superblock.ensures.writes in
    let new : MirrorView = record { disks = map disk (set c.self.inside.devices.items c.args.k c.store_superblock.new.device); array = c.note_recorded.new.self } in
    let stored : Records c.args.k c.args.self.now new = subst (λ (old : MirrorView). Records c.args.k old new) c.self.view_is (record {
      member = m;
      may = may g (goal.at.returns g c).After-store_superblock;
      disks = is_written g.D.Device c.self.inside.devices.items c.args.k c.index_mut.result.now c.index_mut.ensures.value c.store_superblock.new.device
          (super_write c.self.inside.array m) (on_device g at) outside (ok_of c.store_superblock.result _ _ c.if-is_err.ensures.value writes);
      array = c.note_recorded.ensures m (member g at);
    }) in
    record {
      gives = stored;
      event = record_happens c.args.k c.args.self.now new c.requires.sound stored;
      sound = recorded_is_consistent c.args.k c.args.self.now new c.requires.sound stored;
      pending = recorded_is_pending c.args.k c.args.self.now new c.requires.sound stored;
    }

pub returns-then-is_err : goal.returns-then-is_err
returns-then-is_err g c =
    let disk = disk_of g.D.Device in
    let at = (goal.at.returns-then-is_err g c).After-index_mut in
    let m = c.index-member.result.now in
    let outside = subst (λ (v : Superblock). SameOutside (512 * 8) (length (write_of v m).bytes) (g.D.Device.content c.index_mut.result.now) (g.D.Device.content c.store_superblock.new.device)) (same_shared g (goal.at.returns-then-is_err g c).After-store_superblock) c.store_superblock.ensures.outside in
    let writes = subst (λ (v : Superblock). MakesWrites g.D.Device (write_of v m ∷ []) c.index_mut.result.now c.store_superblock.new.device c.store_superblock.result) (same_shared g (goal.at.returns-then-is_err g c).After-store_superblock) c.store_superblock.ensures.writes in
    let was : MirrorView = record { disks = map disk c.self.inside.devices.items; array = c.self.inside.array } in
    let new : MirrorView = record { disks = map disk (set c.self.inside.devices.items c.args.k c.store_superblock.new.device); array = c.self.inside.array } in
    let left : LeavesUnrecorded c.args.k was new = record {
      member = m;
      may = may g (goal.at.returns-then-is_err g c).After-store_superblock;
      array = λ i. c.self.inside.array;
      disks = is_failed g.D.Device c.self.inside.devices.items c.args.k c.index_mut.result.now c.index_mut.ensures.value c.store_superblock.new.device
          (super_write c.self.inside.array m) (on_device g at) outside (err_of c.store_superblock.result _ _ c.if-is_err.ensures.value writes);
    } in
    record {
      gives = subst (λ (old : MirrorView). LeavesUnrecorded c.args.k old new) c.self.view_is left;
      event = subst (λ (old : MirrorView). TargetFails c.args.k old new) c.self.view_is
          (target_fails_happens c.args.k was new (subst IsConsistent (sym c.self.view_is) c.requires.sound) (record { leaves = left; rebuilt = rebuilt g at }));
      sound = unrecorded_is_consistent c.args.k was new (subst IsConsistent (sym c.self.view_is) c.requires.sound) left (rebuilt g at);
      pending = λ p is. unrecorded_is_pending c.args.k was new left p (subst (λ (v : MirrorView). IsPending v.array p) (sym c.self.view_is) is);
    }
