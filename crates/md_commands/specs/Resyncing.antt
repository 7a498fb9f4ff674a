-- An array is resynced: by a command of its own, or because another one needs it.
use Rattle.std.specs.Prelude.{◌≡◌, Bool, true, false, not, ◌&&◌}
use Rattle.md_streams.specs.declared.sink.Sink.{Ghosts}
use Rattle.md_state.specs.Members.{is_degraded}
use Rattle.md_state.specs.View.{ArrayView, MirrorView}
use Rattle.md_resync.specs.declared.fault.ResyncFault.{ResyncFault}
use Rattle.md_resync.specs.Resyncing.{RefusesResync, Resyncs}
use Rattle.md_report.specs.AsText.WholeArray.SummaryReport.{summary_text}
use Rattle.md_refusals.specs.declared.fault.CommandFault.{CommandFault}
use Rattle.md_refusals.specs.declared.fault.CommandFault.TheVariants.{OutputFault, Resync, Stop}
use Rattle.md_streams.specs.Putting.{PutsOut}
use Rattle.md_commands.specs.Stopping.{FailsToStop, StopsAfter}

-- Some role has no member in sync, and members in sync may differ. The marks of such an array stay, so that each opening finds it
-- like this: a command that reads or writes resyncs it itself.
abbrev pub needs_resync : ArrayView → Bool
needs_resync a = is_degraded a && not a.resynced

-- An array that needs a resync is resynced, any other is left alone.
pub record ResyncsIfNeeded (old new : MirrorView) : Type 0 where
  pub resynced : needs_resync old.array ≡ true → Resyncs old new
  pub untouched : needs_resync old.array ≡ false → new ≡ old

pub record RefusesNeededResync (old new : MirrorView) (fault : ResyncFault) : Type 0 where
  pub needed : needs_resync old.array ≡ true
  pub refused : RefusesResync old new fault

module _ {S : Type 0} (s : Ghosts S) where
  pub record ResyncsArray (old new : MirrorView) (before after : S) : Type 0 where
    pub stops : StopsAfter (Resyncs old) new
    pub shown : PutsOut s before after (summary_text new.array)

  abbrev pub RefusesToResync : MirrorView → MirrorView → S → S → CommandFault → Type 0
  RefusesToResync old new before after (Resync fault) = RefusesResync old new fault × (after ≡ before)
  RefusesToResync old new before after (Stop fault) = FailsToStop (Resyncs old) new fault × (after ≡ before)
  RefusesToResync old new before after OutputFault = StopsAfter (Resyncs old) new × (s.failed after ≡ true)
  RefusesToResync old new before after fault = ⊥
