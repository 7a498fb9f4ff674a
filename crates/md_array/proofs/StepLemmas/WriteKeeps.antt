-- What `write_member` and `finish` keep, and which events they are, whatever they answer.
use Rattle.std.proofs.Common.{◌≡◌, ◌≢◌, ℕ, inl, inr, sym, subst}
use Rattle.std.specs.Prelude.{IfErr, MatchResult, OnOk, Result, Ok, Err}
use Rattle.md_inflight.specs.Requests.Pending.{PendingView}
use Rattle.md_faults.specs.declared.step_fault.FinishFault.{FinishFault}
use Rattle.md_faults.specs.declared.step_fault.FinishFault.TheVariants as finish
use Rattle.md_faults.specs.declared.step_fault.WriteMemberFault.{WriteMemberFault}
use Rattle.md_faults.specs.declared.step_fault.WriteMemberFault.TheVariants.{Halted, NotActive, NotMarked, NotRecorded, AlreadyWritten, MemberFailed}
use Rattle.md_model.specs.Events.{Event, MemberPart}
use Rattle.md_state.specs.View.{MirrorView}
use Rattle.md_state.specs.Steps.Finish.{Finishes, RefusesFinish}
use Rattle.md_state.specs.Requests.{IsPending}
use Rattle.md_state.specs.Steps.WriteMember.{RefusesWriteMember, data_write}
use Rattle.md_array.specs.Consistency.{IsConsistent}
use Rattle.md_array.specs.Events.{FinishHappens, HappensAmong, IfWritingFailed}
use Rattle.md_array.proofs.StepLemmas.AfterFailure.{failed_is_consistent, failed_is_pending, halted_is_consistent, halted_is_pending}
use Rattle.md_array.proofs.StepLemmas.DataFailed.{write_member_fails_happens}
use Rattle.md_array.proofs.StepLemmas.Finish.{finish_happens, finished_is_consistent, finished_keeps_pending}
use Rattle.md_array.proofs.StepLemmas.StoresKeep.{refused_is_consistent, refused_is_pending}

module _ (k : ℕ) (old new : MirrorView) (p q : PendingView) (c : IsConsistent old) (pending : IsPending old.array p) where
  abbrev Refusing : WriteMemberFault → Type 0
  Refusing = RefusesWriteMember k old new p q

  still_pending : q ≡ p → IsPending new.array p → IsPending new.array q
  still_pending same = subst (IsPending new.array) (sym same)

  pub refused_write_event : (f : WriteMemberFault) → Refusing f → IfWritingFailed (HappensAmong old p (Event.WriteFails k (MemberPart.RequestData p.ticket.number)) new q) f
  refused_write_event Halted r = tt
  refused_write_event NotActive r = tt
  refused_write_event (NotMarked j) r = tt
  refused_write_event (NotRecorded j) r = tt
  refused_write_event AlreadyWritten r = tt
  refused_write_event (MemberFailed j) r = write_member_fails_happens k old new p q c pending r.1

  pub refused_write_sound : (f : WriteMemberFault) → Refusing f → IsConsistent new
  refused_write_sound Halted (inl r) = refused_is_consistent old new c r.0
  refused_write_sound Halted (inr h) = halted_is_consistent k (data_write h.member p) old new c h.halts
  refused_write_sound NotActive r = refused_is_consistent old new c r.0
  refused_write_sound (NotMarked j) r = refused_is_consistent old new c r.0
  refused_write_sound (NotRecorded j) r = refused_is_consistent old new c r.0
  refused_write_sound AlreadyWritten r = refused_is_consistent old new c r.0
  refused_write_sound (MemberFailed j) r = failed_is_consistent k (data_write r.1.member p) old new c r.1.fails

  pub refused_write_pending : (f : WriteMemberFault) → Refusing f → (o : PendingView) → IsPending old.array o → IsPending new.array o
  refused_write_pending Halted (inl r) o = refused_is_pending old new c r.0 o
  refused_write_pending Halted (inr h) o = halted_is_pending k old.array new.array o h.halts.array
  refused_write_pending NotActive r o = refused_is_pending old new c r.0 o
  refused_write_pending (NotMarked j) r o = refused_is_pending old new c r.0 o
  refused_write_pending (NotRecorded j) r o = refused_is_pending old new c r.0 o
  refused_write_pending AlreadyWritten r o = refused_is_pending old new c r.0 o
  refused_write_pending (MemberFailed j) r o = failed_is_pending k old.array new.array o r.1.fails.array

  same_request : (f : WriteMemberFault) → Refusing f → q ≡ p
  same_request Halted (inl r) = r.1
  same_request Halted (inr h) = h.pending
  same_request NotActive r = r.1
  same_request (NotMarked j) r = r.1
  same_request (NotRecorded j) r = r.1
  same_request AlreadyWritten r = r.1
  same_request (MemberFailed j) r = r.1.pending

  pub refused_write_still : (f : WriteMemberFault) → Refusing f → IsPending new.array q
  refused_write_still f r = still_pending (same_request f r) (refused_write_pending f r p pending)

finish_unchanged : (old new : MirrorView) (p : PendingView) (f : FinishFault) → RefusesFinish old new p f → new ≡ old
finish_unchanged old new p finish.Halted r = r.unchanged
finish_unchanged old new p (finish.Unwritten k) r = r.unchanged
finish_unchanged old new p (finish.MustRecord k) r = r.unchanged

module _ (old new : MirrorView) (p : PendingView) (c : IsConsistent old) (pending : IsPending old.array p) {T : Type 0} where
  abbrev Finishing : Result T (PendingView × FinishFault) → Type 0
  Finishing result = MatchResult result (λ _. Finishes old new p) (λ e. (e.0 ≡ p) × RefusesFinish old new p e.1)

  pub finish_event : (result : Result T (PendingView × FinishFault)) → Finishing result → OnOk result (FinishHappens old new p)
  finish_event (Ok x) f = finish_happens old new p f c pending
  finish_event (Err e) r = tt

  pub finish_sound : (result : Result T (PendingView × FinishFault)) → Finishing result → IsConsistent new
  finish_sound (Ok x) f = finished_is_consistent old new p f c
  finish_sound (Err e) r = subst IsConsistent (sym (finish_unchanged old new p e.1 r.1)) c

  pub finish_back : (result : Result T (PendingView × FinishFault)) → Finishing result → IfErr result (λ e. IsPending new.array e.0)
  finish_back (Ok x) f = tt
  finish_back (Err e) r = subst (IsPending new.array) (sym r.0) (subst (λ (v : MirrorView). IsPending v.array p) (sym (finish_unchanged old new p e.1 r.1)) pending)

  pub finish_pending : (result : Result T (PendingView × FinishFault)) → Finishing result → (o : PendingView) → o.ticket.number ≢ p.ticket.number → IsPending old.array o → IsPending new.array o
  finish_pending (Ok x) f o apart = finished_keeps_pending old new p f o apart
  finish_pending (Err e) r o apart = subst (λ (v : MirrorView). IsPending v.array o) (sym (finish_unchanged old new p e.1 r.1))
