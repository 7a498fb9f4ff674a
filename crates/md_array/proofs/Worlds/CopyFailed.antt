-- A write of sectors that are copied fails: that is the model's event, whatever it left of them.
use Rattle.std.proofs.Common.{◌≡◌, ℕ, ◌+◌, ◌*◌, ◌/◌, ◌<◌, ◌≤◌, List, length, Option, refl, sym, ap, ◌∙◌, subst, arith}
use Rattle.md_device.specs.Splice.{SameOutside}
use Rattle.md_model.specs.Devices.{Stored}
use Rattle.md_model.specs.Events.{Event, MemberPart}
use Rattle.md_model.specs.Failures.{LeftByCopy}
use Rattle.md_model.specs.Resyncing.{MayCopyRun}
use Rattle.md_model.specs.Worlds.{Request}
use Rattle.md_members.specs.DeviceWrites.Writes.{Write}
use Rattle.md_inflight.specs.Requests.Pending.{PendingView}
use Rattle.md_kept_members.specs.View.{MemberView}
use Rattle.md_faults.specs.declared.copy_fault.CopyFault.{CopyFault}
use Rattle.md_faults.specs.declared.copy_fault.CopyFault.TheVariants.{Halted, MemberFailed}
use Rattle.md_state.specs.View.{ArrayView, Disk, MirrorView, geometry_of}
use Rattle.md_state.specs.Steps.CopyData.{AnswersCopy, FailsToCopy, IsCopy, RefusesCopy, run_write}
use Rattle.md_state.specs.DiskWrites.{IsFailed}
use Rattle.md_state.specs.Members.{IsMember}
use Rattle.md_state.specs.Requests.{AreInFlight, IsPending}
use Rattle.md_array.specs.Consistency.{IsConsistent}
use Rattle.md_array.specs.Steps.CopyData.{IfCopyingFailed}
use Rattle.md_array.specs.Events.{Happens}
use Rattle.md_array.specs.Worlds.{AreHonest, stored_of, world_of, world_on}
use Rattle.md_array.proofs.StepLemmas.AfterFailure.{failed_is_consistent, failed_is_pending, halted_is_consistent, halted_is_pending}
use Rattle.md_array.proofs.StepLemmas.OneMember.{stored_there}
use Rattle.md_array.proofs.Worlds.PartsApart.{block_beside_data, data_alone, data_elsewhere, log_beside_data, parts_of}
use Rattle.md_array.proofs.Worlds.ReadAsKept.{own_stays}
use Rattle.md_array.proofs.Worlds.SectorCopied.{may_copy_chunk}
use Rattle.md_array.proofs.Worlds.Failed.{IsThere, does_failing, left, member_fails, there_is}
use Rattle.md_array.proofs.Worlds.InSync.{in_sync_there}
use Rattle.md_array.proofs.Worlds.States.{in_sync_recorded}

module _ (k sector n : ℕ) (old new : MirrorView) (c : IsConsistent old) (f : FailsToCopy k sector n old new) where
  abbrev a : ArrayView
  a = old.array

  abbrev m : MemberView
  m = f.copy.may.target

  abbrev w : Write
  w = run_write m sector f.bytes

  abbrev at : IsMember a k m
  at = f.copy.may.in_sync.member

  outside : (d e : Disk) → SameOutside (512 * w.sector) (length w.bytes) d.content e.content → SameOutside (512 * (m.superblock.data_offset + sector)) (512 * n) d.content e.content
  outside d e = subst (λ (x : ℕ). SameOutside (512 * w.sector) x d.content e.content) (f.copy.long ∙ ap (λ (x : ℕ). 512 * x) f.many)

  inside : sector + n ≤ a.chunks.size
  inside = let inside = f.copy.may.inside in let many = f.many in omega arith

  -- each sector's chunk may be copied
  may_copy_run : AreHonest old.disks → (requests : ℕ → Option Request) → AreInFlight a requests → MayCopyRun (geometry_of a) (world_of old requests) sector n
  may_copy_run honest requests in_flight s from to =
      may_copy_chunk old c honest requests in_flight (s / a.chunks.sectors) (f.copy.may.may s from (let many = f.many in omega arith))

  left_by_copy : (requests : ℕ → Option Request) (t : IsThere k old.disks new.disks)
      → LeftByCopy (world_of old requests) k sector n (left k w old new c f.fails m at requests)
  left_by_copy requests t =
      let was : (world_of old requests).stored k ≡ stored_of a m t.old.content = stored_there old.disks a k m t.old at t.was in
      let is : (world_on new.disks a requests).stored k ≡ stored_of a m t.new.content = stored_there new.disks a k m t.new at t.is in
      let has = parts_of old c k t.old m t.was at in
      let same = outside t.old t.new (f.fails.disks.tried.outside t.old t.new t.was t.is) in
      let content_is = ap (λ (s : Stored). s.content) is in
      record {
        rest = is ∙ data_alone a m t.old.content t.new.content has sector n inside same ∙ (λ i. record (sym was i) { content = sym content_is i });
        outside = λ s apart. ap (λ (x : Stored). x.content s) is
            ∙ data_elsewhere a m t.old.content t.new.content has sector n inside same s apart
            ∙ sym (ap (λ (x : Stored). x.content s) was);
      }

  pub copy_fails_happens : Happens old (Event.WriteFails k (MemberPart.CopiedSectors sector n)) new
  copy_fails_happens honest requests in_flight =
      let e = Event.WriteFails k (MemberPart.CopiedSectors sector n) in
      let t = there_is old k m w new.disks c at f.fails.disks.tried in
      let fails = member_fails k w old new c f.fails m at requests (in_sync_recorded m.state f.copy.may.in_sync.in_sync) in
      does_failing k w old new c f.fails m at requests e honest (w, f.fails.disks) in_flight
      (f.copy.may.idle.running, (left k w old new c f.fails m at requests, (in_sync_there old.disks a requests k m f.copy.may.in_sync, may_copy_run honest requests in_flight, left_by_copy requests t), fails))
      tt (λ _. refl) (λ _. refl)
      (λ d e was is.
      let parts = parts_of old c k d m was at in
      let same = outside d e (f.fails.disks.tried.outside d e was is) in
      own_stays a.shared m.superblock d.content e.content
      (block_beside_data a m d.content e.content parts sector n inside same)
      (log_beside_data a m d.content e.content parts sector n inside same))

-- ---- whatever the fault is
module _ (k sector n : ℕ) (old new : MirrorView) (c : IsConsistent old) where
  pub refused_copy_sound : (f : CopyFault) → RefusesCopy k sector n old new f → IsConsistent new
  refused_copy_sound Halted h = halted_is_consistent k (run_write h.copy.may.target sector h.bytes) old new c h.halts
  refused_copy_sound (MemberFailed j) r = failed_is_consistent k (run_write r.1.copy.may.target sector r.1.bytes) old new c r.1.fails

  pub refused_copy_pending : (f : CopyFault) → RefusesCopy k sector n old new f → (p : PendingView) → IsPending old.array p → IsPending new.array p
  refused_copy_pending Halted h p = halted_is_pending k old.array new.array p h.halts.array
  refused_copy_pending (MemberFailed j) r p = failed_is_pending k old.array new.array p r.1.fails.array

  pub refused_copy_event : (f : CopyFault) → RefusesCopy k sector n old new f → IfCopyingFailed (Happens old (Event.WriteFails k (MemberPart.CopiedSectors sector n)) new) f
  refused_copy_event Halted h = tt
  refused_copy_event (MemberFailed j) r = copy_fails_happens k sector n old new c r.1

-- it failed
pub fails_to_copy : (k sector : ℕ) (bytes : List ℕ) (old new : MirrorView) (copy : IsCopy k sector bytes old) (fault : CopyFault)
    → IsFailed k (run_write copy.may.target sector bytes) old.disks new.disks → AnswersCopy k old.array new.array fault
    → RefusesCopy k sector (length bytes / 512) old new fault
fails_to_copy k sector bytes old new copy fault failed answers = by fault answers
  where
    many : copy.sectors ≡ length bytes / 512
    many = let long = copy.long in omega arith

    by : (f : CopyFault) → AnswersCopy k old.array new.array f → RefusesCopy k sector (length bytes / 512) old new f
    by Halted halts = record { bytes = bytes; copy = copy; many = many; halts = record { disks = failed; array = halts } }
    by (MemberFailed j) fails = (fails.0, record { bytes = bytes; copy = copy; many = many; fails = record { disks = failed; array = fails.1 } })
