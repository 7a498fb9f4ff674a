use Rattle.std.proofs.Common.{◌≡◌, ◌<◌, ◌≤◌, ℕ, arith, length, map, set, subst, sym}
use Rattle.std.proofs.lemmas.Result.{err_from_is_err_and}
use Rattle.md_members.specs.Areas.{bitmap_sectors}
use Rattle.md_members.specs.DeviceWrites.Writes.{Write}
use Rattle.md_kept_members.specs.View.{MemberView}
use Rattle.md_state.specs.View.{MirrorView, disk_of}
use Rattle.md_state.specs.Steps.StoreMarks.{IsServing, IsMarkWrite, MayStoreMarks, RefusesMarkSector, StoresMarkSector}
use Rattle.md_state.specs.Members.{IsMember}
use Rattle.md_state.proofs.Members.At.{member_read}
use Rattle.md_array.specs.Consistency.{IsConsistent}
use Rattle.md_array.specs.Fits.{FitsMember}
use Rattle.md_array.proofs.General.Answered.{err_of, ok_of}
use Rattle.md_array.proofs.StepLemmas.OneWrite.{fits_now, fits_there, is_failed, is_written, within_devices, within_members}
use Rattle.md_array.proofs.StepLemmas.StoreMarks.{marks_stored_is_consistent, marks_stored_is_pending, store_marks_happens}
use Rattle.md_array.proofs.StepLemmas.StoresKeep.{marks_refused_happens, marks_refused_is_consistent, marks_refused_is_pending}
use Rattle.md_array.proofs.StepLemmas.Refused.{store_marks_failed, store_marks_refused}
use Rattle.md_array.proofs.mirror.Mirror.store_marks.Given as given
use Rattle.md_array.proofs.mirror.Mirror.store_marks.Goals as goal
use Rattle.md_array.proofs.mirror.Mirror.store_marks.Goals.{After-index_mut, After-store_block}

on_device : (g : given.Over) (c : After-index_mut g) → c.args.k < length c.self.inside.devices.items
on_device g c = within_devices (disk_of g.D.Device) c.self.inside.devices.items c.self.inside.array c.args.self.now c.args.k c.self.view_is c.requires.sound c.requires.within

member : (g : given.Over) (c : After-index_mut g) → IsMember c.self.inside.array c.args.k c.index-member.result.now
member g c =
    member_read c.self.inside.array _ c.args.k c.index-member.result.now c.array.view_is
    (within_members (disk_of g.D.Device) c.self.inside.devices.items c.self.inside.array c.args.self.now c.args.k c.self.view_is c.requires.sound c.requires.within)
    c.index-member.ensures

fits : (g : given.Over) (c : After-index_mut g) → FitsMember c.self.inside.array c.index-member.result.now (disk_of g.D.Device c.index_mut.result.now)
fits g c =
    fits_there g.D.Device c.self.inside.devices.items c.args.k c.index_mut.result.now c.index_mut.ensures.value c.self.inside.array c.index-member.result.now (on_device g c)
    (fits_now (disk_of g.D.Device) c.self.inside.devices.items c.self.inside.array c.args.self.now c.args.k c.self.view_is c.requires.sound c.requires.within) (member g c)

-- a member's marks are of as many chunks as those in memory
alike : (g : given.Over) (c : After-index_mut g) (m : MemberView) → IsMember c.self.inside.array c.args.k m → m.stored.chunks ≡ c.self.inside.array.marks.chunks
alike g c m at = let sound = subst IsConsistent (sym c.self.view_is) c.requires.sound in sound.chunks.member_count c.args.k m at

in_bitmap : (g : given.Over) (c : After-index_mut g) → c.args.block < bitmap_sectors c.self.inside.array.marks.chunks
in_bitmap g c = subst (λ (v : MirrorView). c.args.block < bitmap_sectors v.array.marks.chunks) (sym c.self.view_is) c.requires.block

inside : (g : given.Over) (c : After-index_mut g) → c.args.block < bitmap_sectors c.index-member.result.now.stored.chunks
inside g c = subst (λ n. c.args.block < bitmap_sectors n) (sym (alike g c c.index-member.result.now (member g c))) (in_bitmap g c)

pub store_block-requires-clause-fits : goal.store_block-requires-clause-fits
store_block-requires-clause-fits g c = fits g (goal.at.store_block-requires-clause-fits g c).After-index_mut

pub store_block-requires-clause-block : goal.store_block-requires-clause-block
store_block-requires-clause-block g c = inside g (goal.at.store_block-requires-clause-block g c).After-index_mut

few : (block chunks : ℕ) → block < bitmap_sectors chunks → chunks ≤ 1048576 → block ≤ 257
few block chunks below limit = omega arith

pub note_stored-requires : goal.note_stored-requires
note_stored-requires g c =
    let at = (goal.at.note_stored-requires g c).After-index_mut in
    let f = fits g at in
    record {
      within = within_members (disk_of g.D.Device) c.self.inside.devices.items c.self.inside.array c.args.self.now c.args.k c.self.view_is c.requires.sound c.requires.within;
      few = few c.args.block c.index-member.result.now.stored.chunks (inside g at) f.few_chunks;
      alike = alike g at;
    }

may : (g : given.Over) (c : After-store_block g) (w : Write) → IsMarkWrite c.self.inside.array c.index-member.result.now c.args.block w → MayStoreMarks c.args.k c.args.block c.self.inside.array c.index-member.result.now w
may g c w write =
    let serving : IsServing c.args.k c.self.inside.array = c.in_ok-check_in_sync.ensures in
    let at : After-index_mut g = c.before in
    record { inside = in_bitmap g at; running = serving.running; in_sync = record { member = member g at; in_sync = serving.in_sync c.index-member.result.now (member g at) }; write = write }

pub returns : goal.returns
returns g c =
    let disk = disk_of g.D.Device in
    let at = (goal.at.returns g c).After-index_mut in
    let m = c.index-member.result.now in
    let tries = c.store_block.ensures in
    let stored = c.note_stored.ensures m (member g at) in
    let new : MirrorView = record { disks = map disk (set c.self.inside.devices.items c.args.k c.store_block.new.device); array = c.note_stored.new.self } in
    let stored_on : StoresMarkSector c.args.k c.args.block c.args.self.now new = subst (λ (old : MirrorView). StoresMarkSector c.args.k c.args.block old new) c.self.view_is (record {
      member = m;
      write = tries.0;
      may = may g (goal.at.returns g c).After-store_block tries.0 tries.1;
      disks = is_written g.D.Device c.self.inside.devices.items c.args.k c.index_mut.result.now c.index_mut.ensures.value c.store_block.new.device
          tries.0 (on_device g at) tries.3 (ok_of c.store_block.result _ _ c.if-is_err.ensures.value tries.2);
      stored = stored.stored;
      has_stored = stored.has_stored;
      array = stored.array;
    }) in
    record {
      gives = stored_on;
      event = store_marks_happens c.args.k c.args.block c.args.self.now new c.requires.sound c.requires.block stored_on;
      sound = marks_stored_is_consistent c.args.k c.args.block c.args.self.now new c.requires.sound c.requires.block stored_on;
      pending = marks_stored_is_pending c.args.k c.args.block c.args.self.now new c.requires.sound c.requires.block stored_on;
    }

pub returns-then-is_err : goal.returns-then-is_err
returns-then-is_err g c =
    let disk = disk_of g.D.Device in
    let at = (goal.at.returns-then-is_err g c).After-index_mut in
    let m = c.index-member.result.now in
    let tries = c.store_block.ensures in
    let new : MirrorView = record { disks = map disk (set c.self.inside.devices.items c.args.k c.store_block.new.device); array = c.store_failed.new.self } in
    let refused : RefusesMarkSector c.args.k c.args.block c.args.self.now new c.store_failed.result = subst (λ (old : MirrorView). RefusesMarkSector c.args.k c.args.block old new c.store_failed.result) c.self.view_is
    (store_marks_failed c.args.k c.args.block _ new m tries.0 c.store_failed.result (may g (goal.at.returns-then-is_err g c).After-store_block tries.0 tries.1)
    (is_failed g.D.Device c.self.inside.devices.items c.args.k c.index_mut.result.now c.index_mut.ensures.value c.store_block.new.device
    tries.0 (on_device g at) tries.3 (err_of c.store_block.result _ _ c.if-is_err.ensures.value tries.2))
    c.store_failed.ensures) in
    record {
      gives = refused;
      event = marks_refused_happens c.args.k c.args.self.now new c.requires.sound c.args.block c.requires.block c.store_failed.result refused;
      sound = marks_refused_is_consistent c.args.k c.args.self.now new c.requires.sound c.args.block c.store_failed.result refused;
      pending = marks_refused_is_pending c.args.k c.args.self.now new c.requires.sound c.args.block c.store_failed.result refused;
    }

pub returns-in_err-check_in_sync : goal.returns-in_err-check_in_sync
returns-in_err-check_in_sync g c =
    let p = err_from_is_err_and c.from_residual.result c.from_residual.ensures.1 in
    let fault = c.in_err-check_in_sync.field-0.0 in
    let old = c.args.self.now in
    let refused : RefusesMarkSector c.args.k c.args.block old old fault = subst (λ (v : MirrorView). RefusesMarkSector c.args.k c.args.block v v fault) c.self.view_is
    (store_marks_refused c.args.k c.args.block _ fault c.in_err-check_in_sync.ensures) in
    rw (p.1, p.2) (record {
      gives = refused;
      event = marks_refused_happens c.args.k old old c.requires.sound c.args.block c.requires.block fault refused;
      sound = c.requires.sound;
      pending = λ _ is. is;
    })
