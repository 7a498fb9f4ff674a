-- What becomes of the collector and its target when a report is taken.
use Rattle.std.specs.Prelude.{◌≡◌, ℕ, ◌+◌, ◌*◌, ◌++◌, ◌∷◌, [], List, true, None, Some, Result, Err}
use Rattle.std.specs.Result.{result_err}
use Rattle.md_device.specs.declared.device.Device.{Ghosts}
use Rattle.md_device.specs.Splice.{SameOutside}
use Rattle.md_device.specs.Crashes.{LeavesMore}
use Rattle.md_device.specs.Failing.{failed_write}
use Rattle.md_collect.specs.Places.{start_of, bytes_of_chunk}
use Rattle.md_collect.specs.declared.refusal.Refusal.{Refusal}
use Rattle.md_collect.specs.declared.refusal.Refusal.TheVariants.{TargetFault}
use Rattle.md_collect.specs.Reports.{ReportView, with_report}
use Rattle.md_collect.specs.Collecting.{CollectorView, copying, report_refusal}
use Rattle.md_collect.specs.Lists.{Copied, Takes}

-- a collector, and what its target holds
abbrev pub stage : CollectorView → List ℕ → Copied
stage v target = record { collector = v; target = target }

-- what is copied and where to stays, whatever the answer
pub record KeepsCopy (old new : CollectorView) : Type 0 where
  pub slots : new.slots ≡ old.slots
  pub chunks : new.chunks ≡ old.chunks
  pub offset : new.offset ≡ old.offset

-- a report that does not count is refused for the first reason that stands, and nothing changes
abbrev pub RefusesFirst : {D : Type 0} → CollectorView → CollectorView → D → D → ReportView → Result (Unit {0}) Refusal → Type 0
RefusesFirst old new before after r result =
    (why : Refusal) → report_refusal old r ≡ Some why → (result ≡ Err why) × (new ≡ old) × (after ≡ before)

-- a target that can't be written spoils the collector
abbrev pub SpoilsAtFault : CollectorView → CollectorView → ReportView → Result (Unit {0}) Refusal → Type 0
SpoilsAtFault old new r result = result ≡ Err TargetFault → (report_refusal old r ≡ None) × (new ≡ record old { spoiled = true })

-- of the target at most the chunk changed
abbrev pub ChangesChunk : CollectorView → ℕ → List ℕ → List ℕ → Type 0
ChangesChunk v chunk = SameOutside (512 * (v.offset + start_of v.chunks chunk)) (bytes_of_chunk v.chunks chunk)

-- a crash leaves the target as it was beside the chunk
abbrev pub LeavesBesideChunk : {D : Type 0} → Ghosts D → CollectorView → ℕ → D → D → Type 0
LeavesBesideChunk g v chunk before after =
    g.honest before ≡ true → LeavesMore (g.crashes before) (g.crashes after) (ChangesChunk v chunk (g.content before))

module _ {D : Type 0} (g : Ghosts D) where
  -- the target has the report's bytes in its chunk
  abbrev pub HoldsReport : CollectorView → D → D → ReportView → Type 0
  HoldsReport v before after r = g.honest before ≡ true → g.content after ≡ with_report (copying v) (g.content before) r

  -- the write of all of the chunk failed, and no other call
  abbrev pub FailsChunkWrite : CollectorView → ℕ → D → D → Type 0
  FailsChunkWrite v chunk before after =
      g.faults after ≡ g.faults before ++ failed_write (v.offset + start_of v.chunks chunk) (bytes_of_chunk v.chunks chunk) ∷ []

  -- the step of a list of reports
  abbrev pub TakesStep : CollectorView → CollectorView → D → D → ReportView → Result (Unit {0}) Refusal → Type 0
  TakesStep old new before after r result =
      g.honest before ≡ true → Takes (stage old (g.content before)) r (result_err result) (stage new (g.content after))
