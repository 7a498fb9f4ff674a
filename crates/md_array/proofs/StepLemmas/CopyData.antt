-- Sectors go to another member: one write of its device, whichever events that is.
use Rattle.std.proofs.Common.{◌≡◌, ℕ, zero, suc, ◌+◌, ◌*◌, ◌%◌, ◌/◌, ◌<◌, ◌≤◌, List, length, Option, Some, refl, sym, ap, ◌∙◌, subst, arith}
use Rattle.std.specs.Prelude.{option_map, slice_get}
use Rattle.std.proofs.lemmas.Option.{same_Some}
use Rattle.md_model.specs.Events.{Event}
use Rattle.md_super.specs.declared.superblock.Superblock.{Superblock}
use Rattle.md_inflight.specs.Requests.Pending.{PendingView}
use Rattle.md_kept_members.specs.View.{MemberView}
use Rattle.md_state.specs.View.{ArrayView, Disk, MirrorView}
use Rattle.md_state.specs.Steps.CopyData.{AnswersCopy, CopiesTo, IsCopy, IsDone, MayCopy, RefusesCopy, copies_of, run_write}
use Rattle.md_state.specs.DiskWrites.{IsFailed, IsWritten}
use Rattle.md_state.specs.Requests.{AreInFlight, IsPending}
use Rattle.md_faults.specs.declared.copy_fault.CopyFault.{CopyFault}
use Rattle.md_array.specs.Consistency.{IsConsistent}
use Rattle.md_array.specs.Steps.CopyData.{CopiesInTurn}
use Rattle.md_array.specs.InTurn.{Leads, Requests}
use Rattle.md_array.proofs.StepLemmas.CopiedRun.{copies_lead, run_is_consistent}
use Rattle.md_array.proofs.Worlds.CopyFailed.{fails_to_copy}
use Rattle.md_array.proofs.Worlds.PartsApart.{parts_of}
use Rattle.md_array.proofs.StepLemmas.RemarkedWorlds.{same_mirror}

-- the superblock that was read is the target's
pub own_of : (a : ArrayView) (k : ℕ) (m : MemberView) (own : Superblock) → slice_get a.members k ≡ Some m → option_map (λ (x : MemberView). x.superblock) (slice_get a.members k) ≡ Some own → m.superblock ≡ own
own_of a k m own at is = same_Some m.superblock own (sym (ap (option_map (λ (x : MemberView). x.superblock)) at) ∙ is)

module _ (k sector : ℕ) (bytes : List ℕ) (old : MirrorView) (c : IsConsistent old) (copy : IsCopy k sector bytes old) where
  pub whole_run : length bytes % 512 ≡ 0
  whole_run = let long = copy.long in omega arith

  -- the write lies on the device
  pub run_fits : (own : Superblock) → copy.may.target.superblock ≡ own → (d : Disk) → slice_get old.disks k ≡ Some d → 512 * (own.data_offset + sector) + length bytes ≤ length d.content
  run_fits own is d at =
      let parts = parts_of old c k d copy.may.target at copy.may.in_sync.member in
      let holds = parts.placed.data_holds in
      let within = parts.placed.data_within in
      let size = parts.size in
      let inside = copy.may.inside in
      let long = copy.long in
      let offset : own.data_offset ≡ copy.may.target.superblock.data_offset = ap (λ (s : Superblock). s.data_offset) (sym is) in
      omega arith

  module _ (new : MirrorView) (t : CopiesTo k sector bytes old new) where
    done : IsDone k (run_write t.copy.may.target sector bytes) old.disks new.disks
    done = record { tried = t.disks.tried; done = t.disks.done }

    is_new : ◌≡◌ {A = MirrorView} (record { disks = new.disks; array = old.array }) new
    is_new = sym (same_mirror new new.disks old.array refl t.array)

    by_count : (n : ℕ) → 0 < n → (may : MayCopy t.copy.from k sector n old.array) → length bytes ≡ 512 * n → IsDone k (run_write may.target sector bytes) old.disks new.disks
        → (previous : Option Event) (requests : Requests) → AreInFlight old.array requests → Leads previous old requests (copies_of t.copy.from k sector n) new requests
    by_count zero some may long is previous requests in_flight = absurd (omega arith)
    by_count (suc n) some may long is previous requests in_flight =
        subst (λ (v : MirrorView). Leads previous old requests (copies_of t.copy.from k sector (suc n)) v requests) is_new
        (copies_lead n t.copy.from k sector bytes old new.disks c may long t.copy.holds is previous requests in_flight)

    pub copies_in_turn : CopiesInTurn k sector bytes old new
    copies_in_turn = record {
      from = t.copy.from;
      sectors = t.copy.sectors;
      long = t.copy.long;
      leads = by_count t.copy.sectors t.copy.some t.copy.may t.copy.long done;
    }

    pub copied_run_is_consistent : IsConsistent new
    copied_run_is_consistent = subst IsConsistent is_new (by_count_sound t.copy.sectors t.copy.some t.copy.may t.copy.long done)
      where
        by_count_sound : (n : ℕ) → 0 < n → (may : MayCopy t.copy.from k sector n old.array) → length bytes ≡ 512 * n → IsDone k (run_write may.target sector bytes) old.disks new.disks
            → IsConsistent (record { disks = new.disks; array = old.array })
        by_count_sound zero some may long is = absurd (omega arith)
        by_count_sound (suc n) some may long is = run_is_consistent n t.copy.from k sector bytes old new.disks c may long t.copy.holds is

    pub copied_run_keeps_pending : (p : PendingView) → IsPending old.array p → IsPending new.array p
    copied_run_keeps_pending p is = subst (λ (x : ArrayView). IsPending x p) (sym t.array) is

-- ---- the call, where the mirror is known by what it was read as
module _ (x v : MirrorView) (same : x ≡ v) (k sector : ℕ) (bytes : List ℕ) (copy : IsCopy k sector bytes v) (own : Superblock) (is_own : copy.may.target.superblock ≡ own) (disks : List Disk) where
  pub copies_to : IsWritten k (record { sector = own.data_offset + sector; bytes = bytes }) x.disks disks → CopiesTo k sector bytes v (record { disks = disks; array = x.array })
  copies_to written = record {
    copy = copy;
    disks = subst (λ (y : MirrorView). IsWritten k (run_write copy.may.target sector bytes) y.disks disks) same
        (subst (λ (s : Superblock). IsWritten k (record { sector = s.data_offset + sector; bytes = bytes }) x.disks disks) (sym is_own) written);
    array = ap (λ (y : MirrorView). y.array) same;
  }

  pub refuses_copy : (b : ArrayView) (fault : CopyFault) → IsFailed k (record { sector = own.data_offset + sector; bytes = bytes }) x.disks disks → AnswersCopy k x.array b fault
      → RefusesCopy k sector (length bytes / 512) v (record { disks = disks; array = b }) fault
  refuses_copy b fault failed answers =
      fails_to_copy k sector bytes v (record { disks = disks; array = b }) copy fault
      (subst (λ (y : MirrorView). IsFailed k (run_write copy.may.target sector bytes) y.disks disks) same
      (subst (λ (s : Superblock). IsFailed k (record { sector = s.data_offset + sector; bytes = bytes }) x.disks disks) (sym is_own) failed))
      (subst (λ (y : MirrorView). AnswersCopy k y.array b fault) same answers)
