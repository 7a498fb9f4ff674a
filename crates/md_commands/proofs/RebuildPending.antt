-- A rebuild leaves each request in flight: where there is one it is refused, and does nothing.
use Rattle.std.proofs.Common.{◌≡◌, ⊎_elim, ℕ, Result, Ok, Err, MatchResult, sym, subst}
use Rattle.md_inflight.specs.Requests.Pending.{PendingView, extent_of}
use Rattle.md_state.specs.Steps.MakeClean.{IsIdle}
use Rattle.md_state.specs.Requests.{IsPending}
use Rattle.md_state.specs.View.{ArrayView, MirrorView}
use Rattle.md_copy.specs.declared.beginning.fault.RebuildFault.{RebuildFault}
use Rattle.md_copy.specs.declared.beginning.fault.RebuildFault.TheVariants as rebuild
use Rattle.md_copy.specs.declared.rebuilt.Rebuilt.{Rebuilt}
use Rattle.md_copy.specs.Rebuilding.{Rebuilds, RefusesRebuild}
use Rattle.md_array.proofs.StepLemmas.MakeClean.{none_listed}

-- it stays one of the mirror's
abbrev pub KeepsPending : MirrorView → MirrorView → PendingView → Type 0
KeepsPending old new p = IsPending old.array p → IsPending new.array p

pub none_pending : (a : ArrayView) (p : PendingView) → IsIdle a → IsPending a p → ⊥
none_pending a p idle is = none_listed a.requests.entries p.ticket.number (extent_of p) idle.none is.extent

pub unchanged : (old new : MirrorView) (p : PendingView) → new ≡ old → KeepsPending old new p
unchanged old new p e is = subst (λ (v : MirrorView). IsPending v.array p) (sym e) is

not_rebuilt : (fault : RebuildFault) (k : ℕ) (old new : MirrorView) (p : PendingView) → RefusesRebuild k old new fault → KeepsPending old new p
not_rebuilt rebuild.Halted k old new p h is = unchanged old new p h.unchanged is
not_rebuilt rebuild.NotSpare k old new p h is = unchanged old new p h.unchanged is
not_rebuilt rebuild.Dirty k old new p h is = unchanged old new p h.unchanged is
not_rebuilt (rebuild.InFlight number) k old new p h is = unchanged old new p h.unchanged is
not_rebuilt rebuild.EventsFull k old new p h is = unchanged old new p h.unchanged is
not_rebuilt (rebuild.MetadataFault j) k old new p h is =
    ⊎_elim (λ e. absurd (none_pending old.array p e.may.idle is))
    (λ rest. ⊎_elim (λ e. absurd (none_pending old.array p e.may.idle is)) (λ l. absurd (none_pending old.array p l.why.1.begins.may.idle is)) rest)
    h
not_rebuilt rebuild.TargetFault k old new p h is =
    ⊎_elim (λ e. absurd (none_pending old.array p e.may.idle is))
    (λ rest. ⊎_elim (λ e. absurd (none_pending old.array p e.may.idle is)) (λ e. absurd (none_pending old.array p e.begins.may.idle is)) rest)
    h
not_rebuilt rebuild.NoMemory k old new p h is =
    ⊎_elim (λ e. absurd (none_pending old.array p e.may.idle is))
    (λ rest. ⊎_elim (λ e. absurd (none_pending old.array p e.may.idle is)) (λ l. absurd (none_pending old.array p l.why.begins.may.idle is)) rest)
    h
not_rebuilt (rebuild.LogFull j) k old new p h is = absurd (none_pending old.array p h.why.begins.may.idle is)

pub rebuilt_or_not : (k : ℕ) (old new : MirrorView) (result : Result Rebuilt RebuildFault) → MatchResult result (λ told. Rebuilds k told old new) (RefusesRebuild k old new)
    → (p : PendingView) → KeepsPending old new p
rebuilt_or_not k old new (Ok told) h p is = absurd (none_pending old.array p h.begins.may.idle is)
rebuilt_or_not k old new (Err fault) h p is = not_rebuilt fault k old new p h is
