-- A salvage step by step (this project's own): what is due is stored, a spare is admitted, one pass is made, chunks that are left are taken sector by
-- sector, lost sectors are listed, the target comes into sync, and the others are told.
use Rattle.std.specs.Prelude.{◌≡◌, ◌⊎◌, ℕ, ◌<◌, ◌&&◌, List}
use Rattle.md_badblocks.specs.declared.run.Run.{Run}
use Rattle.md_bitmap.specs.Marks.{Bitmap, is_set}
use Rattle.md_kept_members.specs.Enrolling.{log_room}
use Rattle.md_kept_members.specs.View.{MemberView}
use Rattle.md_cert.specs.declared.planned.Planned.{Planned}
use Rattle.md_state.specs.Members.{IsMember}
use Rattle.md_state.specs.Missing.{AreMissing, is_missing}
use Rattle.md_state.specs.View.{ArrayView, MirrorView}
use Rattle.md_array.specs.Consistency.{IsConsistent}
use Rattle.md_copy.specs.Ending.Leaving.{LeavesSo}
use Rattle.md_copy.specs.PassLaws.Passes.{PassView}
use Rattle.md_copy.specs.Passes.Passing.{BreaksOffPass, FailsRecording, LacksMemoryToPass, RecordsPass}
use Rattle.md_copy.specs.Readying.Admission.{RefusesToReady}
use Rattle.md_copy.specs.Rebuilding.{BeginsRebuild, EndsStoring, LacksMemoryAtOnce}
use Rattle.md_copy.specs.Salvaging.Filling.{EndsSalvaging, SalvagesAll}
use Rattle.md_copy.specs.Salvaging.Fitting.{IsFitting}
use Rattle.md_copy.specs.Salvaging.Losing.{EnrolsWithout, FailsWithout}
use Rattle.md_copy.specs.Readying.Storing.{StoresUntilDone}
use Rattle.md_copy.specs.declared.salvaging.salvaged.Salvaged.{Salvaged}
use Rattle.md_copy.specs.declared.beginning.fault.RebuildFault.{RebuildFault}
use Rattle.md_copy.specs.declared.beginning.fault.RebuildFault.TheVariants.{LogFull, NoMemory, TargetFault}
use Rattle.md_copy.specs.Table.Beginning.{CannotRebuild, MayBeginRebuild}
use Rattle.md_copy.specs.Table.Orphans.{IsSubset}
use Rattle.md_copy.specs.Table.Sources.{missing_chunks}

-- ---- whether it may begin
pub record MaySalvage (a : ArrayView) (m : MemberView) : Type 0 where
  pub rebuild : MayBeginRebuild a m
  pub log : 0 < log_room m.superblock

-- A member may not be rebuilt, or it may, and has no log.
abbrev pub CannotSalvage : ℕ → ArrayView → MemberView → RebuildFault → Type 0
CannotSalvage target a m (LogFull k) = (k ≡ target) × MayBeginRebuild a m × (log_room m.superblock ≡ 0)
CannotSalvage target a m fault = CannotRebuild a m fault

-- ---- the pass
-- One pass is made over what the member lacks, by this plan.
pub record MakesWhole (target : ℕ) (m : MemberView) (before after : Bitmap) (old new : MirrorView) (planned : Planned) : Type 0 where
  pub pass : PassView
  pub planned_is : planned ≡ pass.planned
  pub records : RecordsPass target (missing_chunks old.array m) pass before after old new

abbrev pub FailsWhole : ℕ → MemberView → Bitmap → Bitmap → MirrorView → MirrorView → RebuildFault → Type 0
FailsWhole target m before after old new NoMemory = LacksMemoryToPass target (missing_chunks old.array m) before after old new
FailsWhole target m before after old new TargetFault =
    BreaksOffPass target (missing_chunks old.array m) before old new ⊎ FailsRecording target (missing_chunks old.array m) before old new
FailsWhole target m before after old new fault = ⊥

-- ---- from the moment at which it may be planned
-- The target has all that could be copied, but for the lost sectors. Of the chunks that were copied these are kept: it lacks them still.
pub record FillsBut (target : ℕ) (m : MemberView) (pass : PassView) (none copied kept : Bitmap) (lost : List Run) (ready filled : MirrorView) : Type 0 where
  pub whole : Bitmap
  pub passed : MirrorView
  pub records : RecordsPass target (missing_chunks ready.array m) pass none whole ready passed
  pub then : MemberView
  pub at_then : IsMember passed.array target then
  pub salvages : SalvagesAll target then whole copied passed filled lost
  pub now : MemberView
  pub there : IsMember filled.array target now
  pub kept_are : (c : ℕ) → c < filled.array.marks.chunks → is_set kept.bytes c ≡ (is_missing filled.array now c && is_set copied.bytes c)
  pub sound : IsConsistent filled

pub record SalvagesReadied (target : ℕ) (m : MemberView) (none : Bitmap) (ready new : MirrorView) (told : Salvaged) : Type 0 where
  pub pass : PassView
  pub planned : told.planned ≡ pass.planned
  pub copied : Bitmap
  pub kept : Bitmap
  pub filled : MirrorView
  pub fills : FillsBut target m pass none copied kept told.lost ready filled
  pub missing : Bitmap
  pub fits : IsFitting target missing told.lost filled.array told.listed
  pub enrolled : MirrorView
  pub enrols : EnrolsWithout target missing told.listed filled enrolled
  pub sound : IsConsistent enrolled
  pub stores_until_done : StoresUntilDone enrolled new

-- The salvage ends in the pass, while chunks are taken sector by sector, as memory is refused for what is to be listed, or as the target was to come into sync.
abbrev pub EndsSalvageReadied : ℕ → MemberView → Bitmap → Bitmap → MirrorView → MirrorView → RebuildFault → Type 0
EndsSalvageReadied target m none after ready new fault =
    FailsWhole target m none after ready new fault
    ⊎ (((pass : PassView) × (whole : Bitmap) × (passed : MirrorView) × RecordsPass target (missing_chunks ready.array m) pass none whole ready passed
    × ((then : MemberView) × IsMember passed.array target then × EndsSalvaging target then whole after passed new fault))
    ⊎ ((pass : PassView) × (copied : Bitmap) × (kept : Bitmap) × (lost : List Run) × (filled : MirrorView) × FillsBut target m pass none copied kept lost ready filled × IsSubset after kept
    × (((fault ≡ NoMemory) × (new ≡ filled)) ⊎ ((missing : Bitmap) × ((m : MemberView) → IsMember filled.array target m → AreMissing filled.array m missing) × (listed : List Run) × IsFitting target missing lost filled.array listed × FailsWithout target missing listed filled new fault))))

-- ---- the whole call
pub record Salvages (target : ℕ) (told : Salvaged) (old new : MirrorView) : Type 0 where
  pub ready : MirrorView
  pub none : Bitmap
  pub begins : BeginsRebuild target old ready none
  pub log : 0 < log_room begins.member.superblock
  pub salvages : SalvagesReadied target begins.now none ready new told

-- The call is refused at once, before the pass, or from then on, and then how far the target is rebuilt is recorded.
abbrev pub RefusesSalvage : ℕ → MirrorView → MirrorView → RebuildFault → Type 0
RefusesSalvage target old new fault =
    ((m : MemberView) × IsMember old.array target m × CannotSalvage target old.array m fault × (new ≡ old))
    ⊎ (((fault ≡ NoMemory) × LacksMemoryAtOnce target old new)
    ⊎ (EndsStoring target old (λ lowered. RefusesToReady target lowered new fault)
    ⊎ ((ready : MirrorView) × (none : Bitmap) × (begins : BeginsRebuild target old ready none)
    × ((after : Bitmap) × (stopped : MirrorView) × EndsSalvageReadied target begins.now none after ready stopped fault × LeavesSo target after stopped new fault))))
