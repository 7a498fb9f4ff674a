-- The command that rebuilds a member, and lists bad sectors, and not their chunks.
use Rattle.std.specs.Prelude.{◌≡◌, ℕ, Bool, List, true, false}
use Rattle.md_copy.specs.declared.beginning.fault.RebuildFault.{RebuildFault}
use Rattle.md_copy.specs.declared.salvaging.salvaged.Salvaged.{Salvaged}
use Rattle.md_copy.specs.Salvaging.Steps.{RefusesSalvage, Salvages}
use Rattle.md_streams.specs.declared.sink.Sink.{Ghosts}
use Rattle.md_report.specs.AsJson.Objects.{object_line}
use Rattle.md_report.specs.AsJson.Rebuilds.SalvagedObject.{salvaged_object}
use Rattle.md_report.specs.AsText.Rebuilds.SalvagedReport.{salvaged_line, salvaged_text}
use Rattle.md_state.specs.Trying.{Refuses}
use Rattle.md_state.specs.View.{MirrorView}
use Rattle.md_refusals.specs.declared.fault.CommandFault.{CommandFault}
use Rattle.md_refusals.specs.declared.fault.CommandFault.TheVariants.{BadMember, OutputFault, Rebuild, Resync, Stop}
use Rattle.md_commands.specs.Failing.{HasMember, LacksMember}
use Rattle.md_streams.specs.Putting.{PutsOut}
use Rattle.md_commands.specs.SettingAside.{RefusesSalvageResync, ResyncsToSalvage}
use Rattle.md_commands.specs.Stopping.{FailsToStop, StopsAfter}

-- the array is resynced where it has to be, and then member k is salvaged, and this is told of it
pub record SalvagesResynced (k : ℕ) (told : Salvaged) (old new : MirrorView) : Type 0 where
  pub ready : MirrorView
  pub readied : ResyncsToSalvage old ready
  pub salvages : Salvages k told ready new

-- The member is not salvaged.
pub record FailsToSalvage (k : ℕ) (old new : MirrorView) (fault : RebuildFault) : Type 0 where
  pub ready : MirrorView
  pub readied : ResyncsToSalvage old ready
  pub refused : RefusesSalvage k ready new fault

-- The member is not salvaged, or the array is not stopped after that.
abbrev pub RefusesSalvaging : ℕ → MirrorView → MirrorView → CommandFault → Type 0
RefusesSalvaging k old new (Resync fault) = RefusesSalvageResync old new fault
RefusesSalvaging k old new (Rebuild fault) = FailsToSalvage k old new fault
RefusesSalvaging k old new (Stop fault) =
    FailsToStop (λ mid. (told : Salvaged) × SalvagesResynced k told old mid) new fault
RefusesSalvaging k old new fault = ⊥

-- a report on it, which is made of what is told of it
abbrev pub SalvagedText : Type 0
SalvagedText = Salvaged → List ℕ

-- The report: the plan of the pass, and then a line; or, where it is to be quiet, the line alone.
abbrev pub salvaged_shown : Bool → ℕ → Salvaged → List ℕ
salvaged_shown false k told = salvaged_text k told.planned told.lost told.listed
salvaged_shown true k told = salvaged_line k told.lost told.listed

-- as an object
abbrev pub salvaged_object_line : ℕ → Salvaged → List ℕ
salvaged_object_line k told = object_line (salvaged_object k told.lost told.listed)

module _ {S : Type 0} (s : Ghosts S) (k : ℕ) (old new : MirrorView) (before after : S) where
  -- the array is stopped, and then what was done is shown, in a text that is made of it
  pub record SalvagesArray (text_of : Salvaged → List ℕ) : Type 0 where
    pub told : Salvaged
    pub done : StopsAfter (SalvagesResynced k told old) new
    pub shown : PutsOut s before after (text_of told)

  -- all is done, and the output failed
  pub record SalvagesInVain : Type 0 where
    pub told : Salvaged
    pub done : StopsAfter (SalvagesResynced k told old) new
    pub failed : s.failed after ≡ true

  -- the array has a member k, it is not salvaged or the array not stopped, and nothing is put out
  pub record FailsUnshown (fault : CommandFault) : Type 0 where
    pub member : HasMember old.array k
    pub refused : RefusesSalvaging k old new fault
    pub unwritten : after ≡ before

  abbrev pub RefusesToSalvage : CommandFault → Type 0
  RefusesToSalvage BadMember = Refuses old new (LacksMember old.array k) × (after ≡ before)
  RefusesToSalvage (Resync fault) = FailsUnshown (Resync fault)
  RefusesToSalvage (Rebuild fault) = FailsUnshown (Rebuild fault)
  RefusesToSalvage (Stop fault) = FailsUnshown (Stop fault)
  RefusesToSalvage OutputFault = SalvagesInVain
  RefusesToSalvage fault = ⊥
