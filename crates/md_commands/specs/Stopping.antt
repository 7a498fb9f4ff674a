-- The command that stops an array.
use Rattle.std.specs.Prelude.{◌≡◌, ℕ, true, List}
use Rattle.md_streams.specs.declared.sink.Sink.{Ghosts}
use Rattle.md_state.specs.View.{ArrayView, MirrorView}
use Rattle.md_metadata.specs.declared.stop_fault.StopFault.{StopFault}
use Rattle.md_metadata.specs.Stopping.{RefusesStop, StopsMirror}
use Rattle.md_refusals.specs.declared.fault.CommandFault.{CommandFault}
use Rattle.md_refusals.specs.declared.fault.CommandFault.TheVariants.{OutputFault, Stop}
use Rattle.md_streams.specs.Putting.{PutsOut}

-- something was done to the mirror, and then the array was stopped
pub record StopsAfter (Through : MirrorView → Type 0) (new : MirrorView) : Type 0 where
  pub mid : MirrorView
  pub through : Through mid
  pub stops : StopsMirror mid new

-- The array was not stopped.
pub record FailsToStop (Through : MirrorView → Type 0) (new : MirrorView) (fault : StopFault) : Type 0 where
  pub mid : MirrorView
  pub through : Through mid
  pub refused : RefusesStop mid new fault

module _ {S : Type 0} (s : Ghosts S) where
  -- the array is stopped, and then shown, in a text that is made of it
  pub record StopsArray (text_of : ArrayView → List ℕ) (old new : MirrorView)
      (before after : S) : Type 0 where
    pub stops : StopsMirror old new
    pub shown : PutsOut s before after (text_of new.array)

  abbrev pub RefusesToStop : MirrorView → MirrorView → S → S → CommandFault → Type 0
  RefusesToStop old new before after (Stop fault) = RefusesStop old new fault × (after ≡ before)
  RefusesToStop old new before after OutputFault = StopsMirror old new × (s.failed after ≡ true)
  RefusesToStop old new before after fault = ⊥

  -- something was done to the mirror, and then the array was stopped, and shown
  pub record StopsArrayAfter (text_of : ArrayView → List ℕ) (Through : MirrorView → Type 0) (new : MirrorView)
      (before after : S) : Type 0 where
    pub mid : MirrorView
    pub through : Through mid
    pub stops : StopsArray text_of mid new before after

  -- it was not
  pub record FailsToStopArray (Through : MirrorView → Type 0) (new : MirrorView) (before after : S)
      (fault : CommandFault) : Type 0 where
    pub mid : MirrorView
    pub through : Through mid
    pub refused : RefusesToStop mid new before after fault
