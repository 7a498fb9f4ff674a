-- A salvage leaves each request in flight: where there is one it is refused, and does nothing.
use Rattle.std.proofs.Common.{ℕ, ⊎_elim, Result, Ok, Err, MatchResult}
use Rattle.md_inflight.specs.Requests.Pending.{PendingView}
use Rattle.md_state.specs.View.{MirrorView}
use Rattle.md_copy.specs.declared.beginning.fault.RebuildFault.{RebuildFault}
use Rattle.md_copy.specs.declared.salvaging.salvaged.Salvaged.{Salvaged}
use Rattle.md_copy.specs.Salvaging.Steps.{RefusesSalvage, Salvages}
use Rattle.md_commands.proofs.RebuildPending.{KeepsPending, none_pending, unchanged}

not_salvaged : (fault : RebuildFault) (k : ℕ) (old new : MirrorView) (p : PendingView) → RefusesSalvage k old new fault → KeepsPending old new p
not_salvaged fault k old new p h is =
    ⊎_elim (λ at_once. unchanged old new p at_once.3 is)
    (λ rest.
    ⊎_elim (λ memory. unchanged old new p memory.1.unchanged is)
    (λ later.
    ⊎_elim (λ e. absurd (none_pending old.array p e.may.idle is)) (λ e. absurd (none_pending old.array p e.2.may.idle is)) later)
    rest)
    h

pub salvaged_or_not : (k : ℕ) (old new : MirrorView) (result : Result Salvaged RebuildFault) → MatchResult result (λ told. Salvages k told old new) (RefusesSalvage k old new)
    → (p : PendingView) → KeepsPending old new p
salvaged_or_not k old new (Ok told) h p is = absurd (none_pending old.array p h.begins.may.idle is)
salvaged_or_not k old new (Err fault) h p is = not_salvaged fault k old new p h is
