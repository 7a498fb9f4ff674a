-- A member doesn't come into sync: a write failed, or it was refused. The mirror stays consistent.
use Rattle.std.proofs.Common.{Bool, ◌≡◌, ℕ, ◌/◌, ◌≤◌, false, true≢false, length, slice_get, Some, None, sym, ap, ◌∙◌, subst, arith, ◌^◌}
use Rattle.std.proofs.lemmas.Option.{slice_get_within}
use Rattle.md_members.specs.Areas.{AreAreasPlaced, bitmap_sectors}
use Rattle.md_members.specs.Members.{sectors_of_device}
use Rattle.md_model.proofs.Puts.{by_same}
use Rattle.md_assembly.specs.States.{is_in_sync}
use Rattle.md_assembly.proofs.Indices.{got_same, got_within}
use Rattle.md_inflight.specs.Requests.Pending.{PendingView}
use Rattle.md_kept_members.specs.View.{MemberView}
use Rattle.md_faults.specs.declared.enrol_fault.EnrolFault.{EnrolFault}
use Rattle.md_faults.specs.declared.enrol_fault.EnrolFault.TheVariants as fault
use Rattle.md_state.specs.Steps.Enrol.{MayTakeRole}
use Rattle.md_state.specs.Steps.MakeClean.{first_number}
use Rattle.md_state.specs.Members.{IsMember}
use Rattle.md_state.specs.Requests.{IsPending}
use Rattle.md_state.specs.View.{ArrayView, Disk, MirrorView}
use Rattle.md_array.specs.Consistency.{IsConsistent}
use Rattle.md_array.specs.Steps.Enrol.{FailsToEnrol, RefusesEnrol}
use Rattle.md_array.specs.Fits.{FitsMember}
use Rattle.md_array.proofs.StepLemmas.MakeClean.{none_listed}

-- ---- a write failed
-- a member that may take its role is not in sync
pub out_of_sync : (a : ArrayView) (k role : ℕ) → MayTakeRole k a role → (m : MemberView) → IsMember a k m → is_in_sync m.state ≡ false
out_of_sync a k role may m is =
    let same : may.member ≡ m = got_same a.members k may.member m may.at is in
    ap (λ (x : MemberView). is_in_sync x.state) (sym same) ∙ ap is_in_sync may.recovering

fits_as_long : (a : ArrayView) (m : MemberView) (d e : Disk) → length e.content ≡ length d.content → FitsMember a m d → FitsMember a m e
fits_as_long a m d e long fit =
    let sectors : sectors_of_device d.content ≡ sectors_of_device e.content = ap (λ (x : ℕ). x / 512) (sym long) in
    record {
      long = subst (λ (x : ℕ). 16 ≤ x) sectors fit.long;
      short = subst (λ (x : ℕ). x ≤ 2 ^ 54) sectors fit.short;
      has = fit.has;
      placed = subst (λ (x : ℕ). AreAreasPlaced x m.superblock (bitmap_sectors m.stored.chunks)) sectors fit.placed;
      few_chunks = fit.few_chunks;
      sound = fit.sound;
      told = fit.told;
    }

module _ (k : ℕ) (copied lost : ℕ → Bool) (old new : MirrorView) (c : IsConsistent old) (r : FailsToEnrol k copied lost old new) where
  abbrev a : ArrayView
  a = old.array

  pub unenrolled_is_consistent : IsConsistent new
  unenrolled_is_consistent = subst (λ (x : ArrayView). IsConsistent (record { disks = new.disks; array = x })) (sym r.array) (record {
    fits = record {
      as_many = r.disks.as_many ∙ c.fits.as_many;
      each = λ j e x found member. by_same j k
          (λ here.
          let now : slice_get new.disks k ≡ Some e = sym (ap (slice_get new.disks) here) ∙ found in
          let inside = slice_get_within new.disks k e now in
          let many = r.disks.as_many in
          let d = got_within old.disks k (omega arith) in
          fits_as_long a x d.0 e (r.disks.change d.0 e d.1 now).0.kept.size (c.fits.each k d.0 x d.1 (sym (ap (slice_get a.members) here) ∙ member)))
          (λ apart. c.fits.each j e x (sym (r.disks.others j apart) ∙ found) member);
    };
    roles = c.roles;
    chunks = c.chunks;
    inside = c.inside;
    supers = λ running j e x found member in_sync honest. by_same j k
        (λ here.
        absurd (true≢false (sym in_sync ∙ out_of_sync a k r.role r.may x (sym (ap (slice_get a.members) here) ∙ member))))
        (λ apart. c.supers running j e x (sym (r.disks.others j apart) ∙ found) member in_sync honest);
  })

-- ---- whatever it answers
module _ (k : ℕ) (copied lost : ℕ → Bool) (old new : MirrorView) (c : IsConsistent old) where
  pub refused_is_consistent : (f : EnrolFault) → RefusesEnrol k copied lost old new f → IsConsistent new
  refused_is_consistent fault.Halted r = subst IsConsistent (sym r.unchanged) c
  refused_is_consistent fault.EventsFull r = subst IsConsistent (sym r.unchanged) c
  refused_is_consistent (fault.LogFull j) r = subst IsConsistent (sym r.unchanged) c
  refused_is_consistent fault.TargetFault r = unenrolled_is_consistent k copied lost old new c r
  refused_is_consistent fault.NoMemory r = subst IsConsistent (sym r.unchanged) c

-- nothing is in flight, so that no request is pending
pub idle_pending : {P : Type 0} (a : ArrayView) (p : PendingView) → first_number a ≡ None → IsPending a p → P
idle_pending a p none is = absurd (none_listed a.requests.entries p.ticket.number _ none is.extent)
