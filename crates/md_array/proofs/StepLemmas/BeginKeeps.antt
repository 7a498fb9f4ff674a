-- What `begin` and `clear_idle` keep, and which events they are, whatever they answer.
use Rattle.std.proofs.Common.{◌≡◌, ◌%◌, ◌/◌, ℕ, List, length, sym, subst}
use Rattle.std.specs.Prelude.{IfOk, MatchResult, Result, Ok, Err}
use Rattle.md_inflight.specs.Requests.Pending.{PendingView}
use Rattle.md_faults.specs.declared.step_fault.BeginFault.{BeginFault}
use Rattle.md_faults.specs.declared.step_fault.BeginFault.TheVariants.{Halted, OutOfRange, Overlaps, NotResynced, EventsFull, NumbersSpent, NoMemory}
use Rattle.md_faults.specs.declared.step_fault.ClearFault.{ClearFault}
use Rattle.md_faults.specs.declared.step_fault.ClearFault.TheVariants as clear
use Rattle.md_state.specs.View.{MirrorView}
use Rattle.md_state.specs.Steps.Begin.{Begins, RefusesBegin}
use Rattle.md_state.specs.Steps.ClearIdle.{Clears, RefusesClear}
use Rattle.md_state.specs.Requests.{IsPending}
use Rattle.md_array.specs.Consistency.{IsConsistent}
use Rattle.md_array.specs.Events.{BeginHappens, ClearHappens}
use Rattle.md_array.proofs.StepLemmas.Begin.{begin_happens, begun_is_consistent, begun_is_pending, begun_keeps_pending}
use Rattle.md_array.proofs.StepLemmas.ClearIdle.{clear_idle_happens, cleared_is_consistent, cleared_keeps_pending}

begin_unchanged : (sector sectors : ℕ) (old new : MirrorView) (f : BeginFault) → RefusesBegin sector sectors old new f → new ≡ old
begin_unchanged sector sectors old new Halted r = r.unchanged
begin_unchanged sector sectors old new OutOfRange r = r.unchanged
begin_unchanged sector sectors old new (Overlaps n) r = r.unchanged
begin_unchanged sector sectors old new NotResynced r = r.unchanged
begin_unchanged sector sectors old new EventsFull r = r.unchanged
begin_unchanged sector sectors old new NumbersSpent r = r.unchanged
begin_unchanged sector sectors old new NoMemory r = r.unchanged

clear_unchanged : (chunk : ℕ) (old new : MirrorView) (f : ClearFault) → RefusesClear chunk old new f → new ≡ old
clear_unchanged chunk old new clear.Halted r = r.unchanged
clear_unchanged chunk old new clear.NotResynced r = r.unchanged
clear_unchanged chunk old new clear.Degraded r = r.unchanged
clear_unchanged chunk old new (clear.Busy n) r = r.unchanged
clear_unchanged chunk old new clear.NotMarked r = r.unchanged

module _ (sector : ℕ) (bytes : List ℕ) (old new : MirrorView) (c : IsConsistent old) where
  abbrev Answers : Result PendingView BeginFault → Type 0
  Answers result = MatchResult result (Begins sector bytes old new) (RefusesBegin sector (length bytes / 512) old new)

  pub begin_event : (result : Result PendingView BeginFault) → Answers result → IfOk result (BeginHappens old new)
  begin_event (Ok p) begins = begin_happens sector bytes old new c p begins
  begin_event (Err f) r = tt

  pub begin_sound : (result : Result PendingView BeginFault) → Answers result → IsConsistent new
  begin_sound (Ok p) begins = begun_is_consistent sector bytes old new c p begins
  begin_sound (Err f) r = subst IsConsistent (sym (begin_unchanged sector _ old new f r)) c

  pub begin_begun : length bytes % 512 ≡ 0 → (result : Result PendingView BeginFault) → Answers result → IfOk result (IsPending new.array)
  begin_begun whole (Ok p) begins = begun_is_pending sector bytes old new c p begins whole
  begin_begun whole (Err f) r = tt

  pub begin_pending : (result : Result PendingView BeginFault) → Answers result → (o : PendingView) → IsPending old.array o → IsPending new.array o
  begin_pending (Ok p) begins o = begun_keeps_pending sector bytes old new c p begins o
  begin_pending (Err f) r o = subst (λ (v : MirrorView). IsPending v.array o) (sym (begin_unchanged sector _ old new f r))

module _ (chunk : ℕ) (old new : MirrorView) (c : IsConsistent old) {T : Type 0} where
  abbrev Clearing : Result T ClearFault → Type 0
  Clearing result = MatchResult result (λ _. Clears chunk old new) (RefusesClear chunk old new)

  pub clear_event : (result : Result T ClearFault) → Clearing result → ClearHappens chunk old new result
  clear_event (Ok p) clears = clear_idle_happens chunk old new c clears
  clear_event (Err f) r = tt

  pub clear_sound : (result : Result T ClearFault) → Clearing result → IsConsistent new
  clear_sound (Ok p) clears = cleared_is_consistent chunk old new c clears
  clear_sound (Err f) r = subst IsConsistent (sym (clear_unchanged chunk old new f r)) c

  pub clear_pending : (result : Result T ClearFault) → Clearing result → (o : PendingView) → IsPending old.array o → IsPending new.array o
  clear_pending (Ok p) clears o = cleared_keeps_pending chunk old new c clears o
  clear_pending (Err f) r o = subst (λ (v : MirrorView). IsPending v.array o) (sym (clear_unchanged chunk old new f r))
