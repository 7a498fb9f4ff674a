-- The command that rebuilds a member.
use Rattle.std.specs.Prelude.{◌≡◌, ◌<◌, ℕ, Bool, List, Option, true, false, length, slice_get}
use Rattle.std.specs.Int.{div_ceil}
use Rattle.md_assembly.specs.States.{is_recovering}
use Rattle.md_copy.specs.declared.beginning.fault.RebuildFault.{RebuildFault}
use Rattle.md_copy.specs.declared.rebuilt.Rebuilt.{Rebuilt}
use Rattle.md_copy.specs.Rebuilding.{Rebuilds, RefusesRebuild}
use Rattle.md_streams.specs.declared.sink.Sink.{Ghosts}
use Rattle.md_report.specs.AsText.Rebuilds.RebuiltReport.{rebuilt_line, rebuilt_text}
use Rattle.md_state.specs.Trying.{Refuses}
use Rattle.md_state.specs.View.{ArrayView, MirrorView}
use Rattle.md_kept_members.specs.View.{MemberView}
use Rattle.md_copy.specs.Table.Sources.{missing_chunks}
use Rattle.md_refusals.specs.declared.fault.CommandFault.{CommandFault}
use Rattle.md_refusals.specs.declared.fault.CommandFault.TheVariants.{BadMember, OutputFault, Rebuild, Resync, Stop}
use Rattle.md_commands.specs.Failing.{HasMember, LacksMember}
use Rattle.md_streams.specs.Putting.{PutsOut}
use Rattle.md_commands.specs.Resyncing.{RefusesNeededResync, ResyncsIfNeeded}
use Rattle.md_commands.specs.Stopping.{FailsToStop, StopsAfter}

-- how many chunks the member lacks, and the first of them
pub record IsToRebuild (a : ArrayView) (m : MemberView) (chunks : ℕ) (first : Option ℕ) : Type 0 where
  pub count : chunks ≡ length (missing_chunks a m)
  pub first_is : first ≡ slice_get (missing_chunks a m) 0

-- how many chunks the array has
abbrev pub chunks_in_all : ArrayView → ℕ
chunks_in_all a = div_ceil a.chunks.size a.chunks.sectors

-- a watch is told of these totals
abbrev pub IsToldOfTotals : {W : Type 0} → (W → ℕ → Option ℕ → Type 0) → W → ArrayView → MemberView → Type 0
IsToldOfTotals lacks watch a m = lacks watch (length (missing_chunks a m)) (slice_get (missing_chunks a m) 0)

-- The rebuild of a member is taken up: it is recovering, and has some chunk.
pub record IsTakenUp (a : ArrayView) (m : MemberView) : Type 0 where
  pub recovering : is_recovering m.state ≡ true
  pub some : length (missing_chunks a m) < chunks_in_all a

module _ {W : Type 0} (taken_up : W → ℕ → ℕ → Option ℕ → ℕ → Type 0) (watch : W) where
  -- a watch is told of that, and of these totals
  abbrev pub IsToldOfTakingUp : ArrayView → ℕ → MemberView → Type 0
  IsToldOfTakingUp a k m =
      taken_up watch k (length (missing_chunks a m)) (slice_get (missing_chunks a m) 0) (chunks_in_all a)

-- the array is resynced where it has to be, and then member k is rebuilt, and this is told of it
pub record RebuildsResynced (k : ℕ) (told : Rebuilt) (old new : MirrorView) : Type 0 where
  pub ready : MirrorView
  pub readied : ResyncsIfNeeded old ready
  pub rebuilds : Rebuilds k told ready new

-- The member is not rebuilt.
pub record FailsToRebuild (k : ℕ) (old new : MirrorView) (fault : RebuildFault) : Type 0 where
  pub ready : MirrorView
  pub readied : ResyncsIfNeeded old ready
  pub refused : RefusesRebuild k ready new fault

-- The member is not rebuilt, or the array is not stopped after that.
abbrev pub RefusesReadied : ℕ → MirrorView → MirrorView → CommandFault → Type 0
RefusesReadied k old new (Resync fault) = RefusesNeededResync old new fault
RefusesReadied k old new (Rebuild fault) = FailsToRebuild k old new fault
RefusesReadied k old new (Stop fault) =
    FailsToStop (λ mid. (told : Rebuilt) × RebuildsResynced k told old mid) new fault
RefusesReadied k old new fault = ⊥

-- a report on a rebuild, which is made of what is told of it
abbrev pub RebuiltText : Type 0
RebuiltText = Rebuilt → List ℕ

-- The report on the rebuild of member k: the plan of each pass, and then a line; or, where it is to be quiet, the line alone.
abbrev pub rebuilt_shown : Bool → ℕ → Rebuilt → List ℕ
rebuilt_shown false k told = rebuilt_text k told.passes told.plans.items (length told.orphans.items)
rebuilt_shown true k told = rebuilt_line k told.passes (length told.orphans.items)

module _ {S : Type 0} (s : Ghosts S) (k : ℕ) (old new : MirrorView) (before after : S) where
  -- the array is stopped, and then what was done is shown, in a text that is made of it
  pub record RebuildsArray (text_of : Rebuilt → List ℕ) : Type 0 where
    pub told : Rebuilt
    pub done : StopsAfter (RebuildsResynced k told old) new
    pub shown : PutsOut s before after (text_of told)

  -- all is done, and the output failed
  pub record RebuildsInVain : Type 0 where
    pub told : Rebuilt
    pub done : StopsAfter (RebuildsResynced k told old) new
    pub failed : s.failed after ≡ true

  -- the array has a member k, it is not rebuilt or the array not stopped, and nothing is put out
  pub record FailsUnshown (fault : CommandFault) : Type 0 where
    pub member : HasMember old.array k
    pub refused : RefusesReadied k old new fault
    pub unwritten : after ≡ before

  abbrev pub RefusesToRebuild : CommandFault → Type 0
  RefusesToRebuild BadMember = Refuses old new (LacksMember old.array k) × (after ≡ before)
  RefusesToRebuild (Resync fault) = FailsUnshown (Resync fault)
  RefusesToRebuild (Rebuild fault) = FailsUnshown (Rebuild fault)
  RefusesToRebuild (Stop fault) = FailsUnshown (Stop fault)
  RefusesToRebuild OutputFault = RebuildsInVain
  RefusesToRebuild fault = ⊥
