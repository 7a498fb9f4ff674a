-- A mirror stays consistent, and its requests its own, where storing something on a member is refused or fails; and where it fails,
-- that is the model's event.
use Rattle.std.proofs.Common.{◌<◌, ℕ, inl, inr, sym, subst}
use Rattle.md_members.specs.Areas.{bitmap_sectors}
use Rattle.md_model.specs.Events.{Event, MemberPart}
use Rattle.md_inflight.specs.Requests.Pending.{PendingView}
use Rattle.md_faults.specs.declared.step_fault.StoreFault.{StoreFault}
use Rattle.md_faults.specs.declared.step_fault.StoreFault.TheVariants.{Halted, NotActive, MemberFailed}
use Rattle.md_state.specs.View.{MirrorView}
use Rattle.md_state.specs.Requests.{IsPending}
use Rattle.md_state.specs.Steps.StoreMarks.{RefusesMarkSector}
use Rattle.md_state.specs.Trying.{Refuses}
use Rattle.md_array.specs.Consistency.{IsConsistent}
use Rattle.md_array.specs.Events.{Happens, HappensIfOldNewOrNone, IfStoringFailed}
use Rattle.md_array.specs.Steps.Record.{RefusesRecord, super_write}
use Rattle.md_array.proofs.StepLemmas.AfterFailure.{failed_is_consistent, failed_is_pending, halted_is_consistent, halted_is_pending}
use Rattle.md_array.proofs.StepLemmas.MarksFailed.{store_marks_fails_happens}
use Rattle.md_array.proofs.StepLemmas.SuperFailed.{record_fails_happens}

module _ (old new : MirrorView) (c : IsConsistent old) where
  pub refused_is_consistent : {Reason : Type 0} → Refuses old new Reason → IsConsistent new
  refused_is_consistent r = subst IsConsistent (sym r.unchanged) c

  pub refused_is_pending : {Reason : Type 0} → Refuses old new Reason → (p : PendingView) → IsPending old.array p → IsPending new.array p
  refused_is_pending r p = subst (λ (v : MirrorView). IsPending v.array p) (sym r.unchanged)

module _ (k : ℕ) (old new : MirrorView) (c : IsConsistent old) where
  pub record_refused_is_consistent : (f : StoreFault) → RefusesRecord k old new f → IsConsistent new
  record_refused_is_consistent Halted (inl r) = refused_is_consistent old new c r
  record_refused_is_consistent Halted (inr h) = halted_is_consistent k (super_write old.array h.member) old new c h.halts
  record_refused_is_consistent NotActive r = refused_is_consistent old new c r
  record_refused_is_consistent (MemberFailed j) r = failed_is_consistent k (super_write old.array r.1.member) old new c r.1.fails

  pub record_refused_is_pending : (f : StoreFault) → RefusesRecord k old new f → (p : PendingView) → IsPending old.array p → IsPending new.array p
  record_refused_is_pending Halted (inl r) p = refused_is_pending old new c r p
  record_refused_is_pending Halted (inr h) p = halted_is_pending k old.array new.array p h.halts.array
  record_refused_is_pending NotActive r p = refused_is_pending old new c r p
  record_refused_is_pending (MemberFailed j) r p = failed_is_pending k old.array new.array p r.1.fails.array

  pub record_refused_happens : (f : StoreFault) → RefusesRecord k old new f → IfStoringFailed (HappensIfOldNewOrNone k old new) f
  record_refused_happens Halted r = tt
  record_refused_happens NotActive r = tt
  record_refused_happens (MemberFailed j) r = record_fails_happens k old new c r.1

  module _ (block : ℕ) where
    pub marks_refused_is_consistent : (f : StoreFault) → RefusesMarkSector k block old new f → IsConsistent new
    marks_refused_is_consistent Halted (inl r) = refused_is_consistent old new c r
    marks_refused_is_consistent Halted (inr h) = halted_is_consistent k h.write old new c h.halts
    marks_refused_is_consistent NotActive r = refused_is_consistent old new c r
    marks_refused_is_consistent (MemberFailed j) r = failed_is_consistent k r.1.write old new c r.1.fails

    pub marks_refused_is_pending : (f : StoreFault) → RefusesMarkSector k block old new f → (p : PendingView) → IsPending old.array p → IsPending new.array p
    marks_refused_is_pending Halted (inl r) p = refused_is_pending old new c r p
    marks_refused_is_pending Halted (inr h) p = halted_is_pending k old.array new.array p h.halts.array
    marks_refused_is_pending NotActive r p = refused_is_pending old new c r p
    marks_refused_is_pending (MemberFailed j) r p = failed_is_pending k old.array new.array p r.1.fails.array

    pub marks_refused_happens : block < bitmap_sectors old.array.marks.chunks → (f : StoreFault) → RefusesMarkSector k block old new f
        → IfStoringFailed (Happens old (Event.WriteFails k (MemberPart.BitmapSector block)) new) f
    marks_refused_happens low Halted r = tt
    marks_refused_happens low NotActive r = tt
    marks_refused_happens low (MemberFailed j) r = store_marks_fails_happens k block old new c r.1 low
