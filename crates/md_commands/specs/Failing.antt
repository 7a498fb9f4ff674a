-- The command that fails a member.
use Rattle.std.specs.Prelude.{◌≡◌, ℕ, ◌<◌, ◌≤◌, length}
use Rattle.md_streams.specs.declared.sink.Sink.{Ghosts}
use Rattle.md_state.specs.Steps.Fail.{FailsMember, RefusesFail}
use Rattle.md_state.specs.Trying.{Refuses}
use Rattle.md_state.specs.View.{ArrayView, MirrorView}
use Rattle.md_refusals.specs.declared.fault.CommandFault.{CommandFault}
use Rattle.md_refusals.specs.declared.fault.CommandFault.TheVariants.{BadMember, Fail}
use Rattle.md_commands.specs.Stopping.{FailsToStopArray}

-- the array has a member with this index, or it has none
abbrev pub HasMember : ArrayView → ℕ → Type 0
HasMember a k = k < length a.members

abbrev pub LacksMember : ArrayView → ℕ → Type 0
LacksMember a k = length a.members ≤ k

-- why member k is not failed
abbrev pub RefusesFailing : ℕ → MirrorView → MirrorView → CommandFault → Type 0
RefusesFailing k old new BadMember = Refuses old new (LacksMember old.array k)
RefusesFailing k old new (Fail fault) = HasMember old.array k × RefusesFail k old new fault
RefusesFailing k old new fault = ⊥

module _ {S : Type 0} (s : Ghosts S) where
  -- it is not, and nothing is put out; or it is, and then the array is not stopped, or not shown
  abbrev pub RefusesToFail : ℕ → MirrorView → MirrorView → S → S → CommandFault → Type 0
  RefusesToFail k old new before after BadMember = RefusesFailing k old new BadMember × (after ≡ before)
  RefusesToFail k old new before after (Fail fault) = RefusesFailing k old new (Fail fault) × (after ≡ before)
  RefusesToFail k old new before after fault = FailsToStopArray s (FailsMember k old) new before after fault
