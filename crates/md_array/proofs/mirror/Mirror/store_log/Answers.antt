use Rattle.std.proofs.Common.{◌≡◌, ◌∙◌, ◌<◌, false, ap, length, map, set, sym, subst}
use Rattle.md_kept_members.specs.Enrolling.{HasRoomFor}
use Rattle.md_state.specs.Members.{IsInSync, IsMember}
use Rattle.md_state.specs.View.{MirrorView, disk_of}
use Rattle.md_state.proofs.Members.At.{member_read}
use Rattle.md_array.specs.Consistency.{IsConsistent}
use Rattle.md_array.specs.Fits.{FitsMember}
use Rattle.md_array.specs.Steps.StoreLog.{RefusesStoreLog, StoresLog}
use Rattle.md_array.specs.declared.mirror.Mirror.TheInside.{Inside}
use Rattle.md_array.proofs.General.Answered.{err_of, ok_of}
use Rattle.md_array.proofs.Rebuilding.StoreLog.{are_written, is_unwritten, log_failed, log_happens, log_refused_happens, log_refused_is_consistent, log_refused_is_pending, logged_is_consistent, logged_is_pending}
use Rattle.md_array.proofs.StepLemmas.OneWrite.{fits_now, fits_there, within_devices, within_members}
use Rattle.md_array.proofs.mirror.Mirror.store_log.Given as given
use Rattle.md_array.proofs.mirror.Mirror.store_log.Goals as goal
use Rattle.md_array.proofs.mirror.Mirror.store_log.Goals.{After-index_mut, After-store_log}

on_device : (g : given.Over) (c : After-index_mut g) → c.args.k < length c.self.inside.devices.items
on_device g c = within_devices (disk_of g.D.Device) c.self.inside.devices.items c.self.inside.array c.args.self.now c.args.k c.self.view_is c.requires.sound c.requires.within

member : (g : given.Over) (c : After-index_mut g) → IsMember c.self.inside.array c.args.k c.index-member.result.now
member g c =
    member_read c.self.inside.array _ c.args.k c.index-member.result.now c.array.view_is
    (within_members (disk_of g.D.Device) c.self.inside.devices.items c.self.inside.array c.args.self.now c.args.k c.self.view_is c.requires.sound c.requires.within)
    c.index-member.ensures

member_now : (g : given.Over) (c : After-index_mut g) → IsMember c.args.self.now.array c.args.k c.index-member.result.now
member_now g c = subst (λ (v : MirrorView). IsMember v.array c.args.k c.index-member.result.now) c.self.view_is (member g c)

in_sync : (g : given.Over) (c : After-index_mut g) → IsInSync c.self.inside.array c.args.k c.index-member.result.now
in_sync g c = record { member = member g c; in_sync = c.requires.in_sync c.index-member.result.now (member_now g c) }

room : (g : given.Over) (c : After-index_mut g) → HasRoomFor c.index-member.result.now.superblock c.index-member.result.now.bad
room g c = c.requires.room c.index-member.result.now (member_now g c)

pub store_log-requires : goal.store_log-requires
store_log-requires g c =
    let at = (goal.at.store_log-requires g c).After-index_mut in
    let fit : FitsMember c.self.inside.array c.index-member.result.now (disk_of g.D.Device c.index_mut.result.now) =
    fits_there g.D.Device c.self.inside.devices.items c.args.k c.index_mut.result.now c.index_mut.ensures.value c.self.inside.array c.index-member.result.now (on_device g at)
    (fits_now (disk_of g.D.Device) c.self.inside.devices.items c.self.inside.array c.args.self.now c.args.k c.self.view_is c.requires.sound c.requires.within) (member g at) in
    record { long = fit.long; has = fit.has; placed = fit.placed; few_chunks = fit.few_chunks; room = room g at }

running : (g : given.Over) (c : After-store_log g) → c.self.inside.array.halted ≡ false
running g c = sym (ap (λ (x : Inside g.row.D.Denot). x.array.halted) c.self-inside.view_is) ∙ c.if-self.false

pub returns : goal.returns
returns g c =
    let disk = disk_of g.D.Device in
    let at = (goal.at.returns g c).After-index_mut in
    let m = c.index-member.result.now in
    let devices = c.self.inside.devices.items in
    let was : MirrorView = record { disks = map disk devices; array = c.self.inside.array } in
    let new : MirrorView = record { disks = map disk (set devices c.args.k c.store_log.new.device); array = c.note_log_stored.new.self } in
    let sound = subst IsConsistent (sym c.self.view_is) c.requires.sound in
    let stored : StoresLog c.args.k was new = record {
      running = running g (goal.at.returns g c).After-store_log;
      member = m;
      in_sync = in_sync g at;
      room = room g at;
      array = c.note_log_stored.ensures m (member g at);
      disks = are_written g.D.Device devices c.args.k c.index_mut.result.now c.index_mut.ensures.value c.store_log.new.device (on_device g at) m (room g at) c.store_log.ensures.outside c.store_log.ensures.untouched
          (ok_of c.store_log.result _ _ c.if-is_err.ensures.value c.store_log.ensures.writes);
    } in
    rw (← c.self.view_is) (record {
      gives = stored;
      event = log_happens c.args.k was new sound stored c.store_log.ensures.canonical;
      sound = logged_is_consistent c.args.k was new sound stored c.store_log.ensures.canonical;
      pending = logged_is_pending c.args.k was new sound stored c.store_log.ensures.canonical;
    })

pub returns-then-is_err : goal.returns-then-is_err
returns-then-is_err g c =
    let disk = disk_of g.D.Device in
    let at = (goal.at.returns-then-is_err g c).After-index_mut in
    let m = c.index-member.result.now in
    let devices = c.self.inside.devices.items in
    let was : MirrorView = record { disks = map disk devices; array = c.self.inside.array } in
    let new : MirrorView = record { disks = map disk (set devices c.args.k c.store_log.new.device); array = c.store_failed.new.self } in
    let sound = subst IsConsistent (sym c.self.view_is) c.requires.sound in
    let fails = is_unwritten g.D.Device devices c.args.k c.index_mut.result.now c.index_mut.ensures.value c.store_log.new.device (on_device g at) m (room g at) c.store_log.ensures.outside c.store_log.ensures.untouched
    (err_of c.store_log.result _ _ c.if-is_err.ensures.value c.store_log.ensures.writes) in
    let refused : RefusesStoreLog c.args.k was new c.store_failed.result =
    log_failed c.args.k was new m c.store_failed.result (running g (goal.at.returns-then-is_err g c).After-store_log) (in_sync g at) c.store_log.ensures.canonical (room g at) fails.0 fails.1 c.store_failed.ensures in
    rw (← c.self.view_is) (record {
      gives = refused;
      event = log_refused_happens c.args.k was new sound c.store_failed.result refused;
      sound = log_refused_is_consistent c.args.k was new sound c.store_failed.result refused;
      pending = log_refused_is_pending c.args.k was new sound c.store_failed.result refused;
    })
