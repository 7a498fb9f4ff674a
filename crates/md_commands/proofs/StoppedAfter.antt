-- The ends of the commands by which members change, and which then stop the array.
use Rattle.std.proofs.Common.{ℕ, List, refl}
use Rattle.std.specs.Prelude.{MatchResult, Option, Result, Ok, Err}
use Rattle.md_streams.specs.declared.sink.Sink.{Ghosts}
use Rattle.md_state.specs.Steps.Fail.{FailsMember}
use Rattle.md_state.specs.View.{ArrayView, Disk, MirrorView}
use Rattle.md_refusals.specs.declared.fault.CommandFault.{CommandFault}
use Rattle.md_refusals.specs.declared.fault.CommandFault.TheVariants.{Add, BadMember, Fail, Remove}
use Rattle.md_commands.specs.Adding.{AddsDevice, RefusesJoining}
use Rattle.md_commands.specs.Failing.{RefusesFailing, RefusesToFail}
use Rattle.md_commands.specs.Removing.{RefusesRemoving, RefusesToRemove, RemovesMember}
use Rattle.md_commands.specs.Stopping.{RefusesToStop, StopsArray, StopsArrayAfter}

module _ {S : Type 0} (s : Ghosts S) (k : ℕ) (old mid new : MirrorView) (before after : S) where
  pub failed_or_not : (text_of : ArrayView → List ℕ) → FailsMember k old mid → (result : Result (Unit {0}) CommandFault) → MatchResult result (λ _. StopsArray s text_of mid new before after) (RefusesToStop s mid new before after)
      → MatchResult result (λ _. StopsArrayAfter s text_of (FailsMember k old) new before after) (RefusesToFail s k old new before after)
  failed_or_not text_of fails (Ok x) h = record { mid = mid; through = fails; stops = h }
  failed_or_not text_of fails (Err BadMember) h = absurd h
  failed_or_not text_of fails (Err (Fail fault)) h = absurd h
  failed_or_not text_of fails (Err fault) h = record { mid = mid; through = fails; refused = h }

  pub removed_or_not : (text_of : ArrayView → List ℕ) → RemovesMember k old mid → (result : Result (Unit {0}) CommandFault) → MatchResult result (λ _. StopsArray s text_of mid new before after) (RefusesToStop s mid new before after)
      → MatchResult result (λ _. StopsArrayAfter s text_of (RemovesMember k old) new before after) (RefusesToRemove s k old new before after)
  removed_or_not text_of leaves (Ok x) h = record { mid = mid; through = leaves; stops = h }
  removed_or_not text_of leaves (Err BadMember) h = absurd h
  removed_or_not text_of leaves (Err (Remove fault)) h = absurd h
  removed_or_not text_of leaves (Err fault) h = record { mid = mid; through = leaves; refused = h }

-- the device joined
module _ {S : Type 0} (s : Ghosts S) (device : Disk) (given : Option Disk) (old mid new : MirrorView) (before after : S) where
  pub added_or_not : (text_of : ArrayView → List ℕ) → AddsDevice device old mid → (result : Result (Unit {0}) CommandFault) → MatchResult result (λ _. StopsArray s text_of mid new before after) (RefusesToStop s mid new before after)
      → MatchResult result (λ _. StopsArrayAfter s text_of (AddsDevice device old) new before after) (RefusesJoining s device given old new before after)
  added_or_not text_of joins (Ok x) h = record { mid = mid; through = joins; stops = h }
  added_or_not text_of joins (Err (Add fault)) h = absurd h
  added_or_not text_of joins (Err fault) h = record { mid = mid; through = joins; refused = h }

-- the member is not changed
module _ {S : Type 0} (s : Ghosts S) (k : ℕ) (old new : MirrorView) (before : S) where
  pub not_failed : (fault : CommandFault) → RefusesFailing k old new fault → RefusesToFail s k old new before before fault
  not_failed BadMember h = (h, refl)
  not_failed (Fail fault) h = (h, refl)
  not_failed fault h = absurd h

  pub not_removed : (fault : CommandFault) → RefusesRemoving k old new fault → RefusesToRemove s k old new before before fault
  not_removed BadMember h = (h, refl)
  not_removed (Remove fault) h = (h, refl)
  not_removed fault h = absurd h
