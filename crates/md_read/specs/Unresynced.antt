-- Sectors of an array whose members in sync may differ in marked chunks are read as a resync would leave them: there from the member that
-- a resync copies (this project's own). Nothing is copied.
use Rattle.std.specs.Prelude.{◌≡◌, ◌⊎◌, ⊤, ℕ, ◌+◌, ◌*◌, ◌-◌, ◌/◌, ◌%◌, ◌<◌, ◌≤◌, true, false, List, [], ◌∷◌, length, take}
use Rattle.std.specs.List.{concat}
use Rattle.md_bitmap.specs.Marks.{is_set}
use Rattle.md_kept_members.specs.View.{MemberView}
use Rattle.md_assembly.specs.States.{is_in_sync_as}
use Rattle.md_state.specs.Steps.Begin.{IsInRange, IsOutOfRange}
use Rattle.md_state.specs.Steps.CopyData.{IsSource, Lists}
use Rattle.md_state.specs.Members.{AllInSync, IsMember}
use Rattle.md_state.specs.Steps.ReadData.{HoldsData}
use Rattle.md_state.specs.Rests.{Rests}
use Rattle.md_state.specs.Trying.{Refuses, RefusesHalted}
use Rattle.md_state.specs.View.{ArrayView, MirrorView}
use Rattle.md_read.specs.Reading.{FailsThisReadAlone, GivesRun, HasReadFailed, IsCutFrom, IsListedInPart, NoneGives}
use Rattle.md_read.specs.declared.sources.Source.{Source}
use Rattle.md_read.specs.declared.sources.Source.TheVariants as source
use Rattle.md_read.specs.declared.sources.SourceAnswer.{SourceAnswer}
use Rattle.md_read.specs.declared.sources.SourceAnswer.TheVariants as answer
use Rattle.md_read.specs.declared.unresynced_fault.UnresyncedFault.{UnresyncedFault}
use Rattle.md_read.specs.declared.unresynced_fault.UnresyncedFault.TheVariants as fault

-- the sector is in a chunk that is marked, or in one that is not
abbrev pub IsSectorMarked : ArrayView → ℕ → Type 0
IsSectorMarked a s = is_set a.marks.bytes (s / a.chunks.sectors) ≡ true

abbrev pub IsUnmarkedAt : ArrayView → ℕ → Type 0
IsUnmarkedAt a s = is_set a.marks.bytes (s / a.chunks.sectors) ≡ false

-- Each of so many sectors from this one on is so.
abbrev pub AllFrom : ℕ → ℕ → (ℕ → Type 0) → Type 0
AllFrom sector sectors Of = (s : ℕ) → sector ≤ s → s < sector + sectors → Of s

-- ---- sectors that were given
-- These sectors are of marked chunks, and were given by the member from which a resync would copy each of
-- them.
pub record GivesAsSource (sector : ℕ) (run : List ℕ) (old new : MirrorView) : Type 0 where
  pub rests : Rests old new
  pub whole : length run % 512 ≡ 0
  pub marked : AllFrom sector (length run / 512) (IsSectorMarked old.array)
  pub from : ℕ
  pub source : AllFrom sector (length run / 512) (λ s. IsSource from s old.array)
  pub holds : HoldsData old from sector run

-- These sectors are of chunks without a mark, and were given as a `read` gives them.
pub record GivesUnmarked (sector : ℕ) (run : List ℕ) (old new : MirrorView) : Type 0 where
  pub unmarked : AllFrom sector (length run / 512) (IsUnmarkedAt old.array)
  pub gives : GivesRun sector run old new

abbrev pub GivesPart : ℕ → List ℕ → MirrorView → MirrorView → Type 0
GivesPart sector run old new = GivesAsSource sector run old new ⊎ GivesUnmarked sector run old new

-- Parts of a range were given, one after another.
abbrev pub PartsInTurn : ℕ → List (List ℕ) → MirrorView → MirrorView → Type 0
PartsInTurn sector [] old new = Rests old new
PartsInTurn sector (run ∷ runs) old new =
    (mid : MirrorView) × GivesPart sector run old mid × PartsInTurn (sector + length run / 512) runs mid new

pub record GivesParts (sector : ℕ) (bytes : List ℕ) (old new : MirrorView) : Type 0 where
  pub runs : List (List ℕ)
  pub joined : bytes ≡ concat runs
  pub in_turn : PartsInTurn sector runs old new

-- ---- the call
-- the mirror runs, and the array has these sectors
pub record MayReadSectors (a : ArrayView) (sector sectors : ℕ) : Type 0 where
  pub running : a.halted ≡ false
  pub range : IsInRange a sector sectors

pub record ReadsUnresynced (sector : ℕ) (bytes : List ℕ) (old new : MirrorView) : Type 0 where
  pub may : MayReadSectors old.array sector (length bytes / 512)
  pub rests : Rests old new
  pub given : GivesParts sector bytes old new

-- No member in sync gave the sector. In a marked chunk that is because all of them list it.
abbrev pub NoneGivesPart : ℕ → MirrorView → MirrorView → Type 0
NoneGivesPart s old new = (IsSectorMarked old.array s × AllInSync old.array (λ m. Lists m s)) ⊎ (IsUnmarkedAt old.array s × NoneGives s old new)

-- Member k, from which a resync would copy the sector, could not be read.
pub record SourceFails (k s : ℕ) (old new : MirrorView) : Type 0 where
  pub marked : IsSectorMarked old.array s
  pub source : IsSource k s old.array
  pub failed : HasReadFailed k s 1 old new

abbrev pub EndsPart : ℕ → UnresyncedFault → MirrorView → MirrorView → Type 0
EndsPart at fault.Halted old new = ⊥
EndsPart at fault.OutOfRange old new = ⊥
EndsPart at (fault.Unreadable s) old new = (s ≡ at) × NoneGivesPart s old new
EndsPart at (fault.ReadFault k s) old new = (s ≡ at) × SourceFails k s old new

-- The sectors before s were given, and their bytes stand in their place. It is this one that was not, for this reason.
pub record EndsAt (sector s : ℕ) (bytes : List ℕ) (reason : UnresyncedFault) (old new : MirrorView) : Type 0 where
  pub rests : Rests old new
  pub from : sector ≤ s
  pub below : s < sector + length bytes / 512
  pub mid : MirrorView
  pub earlier : GivesParts sector (take (512 * (s - sector)) bytes) old mid
  pub later : Rests mid new
  pub ends : EndsPart s reason mid new

abbrev pub IsEndedBy : ℕ → List ℕ → UnresyncedFault → MirrorView → MirrorView → Type 0
IsEndedBy sector bytes fault.Halted old new = ⊥
IsEndedBy sector bytes fault.OutOfRange old new = ⊥
IsEndedBy sector bytes (fault.Unreadable s) old new = EndsAt sector s bytes (fault.Unreadable s) old new
IsEndedBy sector bytes (fault.ReadFault k s) old new = EndsAt sector s bytes (fault.ReadFault k s) old new

abbrev pub RefusesUnresynced : ℕ → List ℕ → MirrorView → MirrorView → UnresyncedFault → Type 0
RefusesUnresynced sector bytes old new fault.Halted = RefusesHalted old new
RefusesUnresynced sector bytes old new fault.OutOfRange = Refuses old new (IsOutOfRange old.array sector (length bytes / 512))
RefusesUnresynced sector bytes old new (fault.Unreadable s) =
    MayReadSectors old.array sector (length bytes / 512) × EndsAt sector s bytes (fault.Unreadable s) old new
RefusesUnresynced sector bytes old new (fault.ReadFault k s) =
    MayReadSectors old.array sector (length bytes / 512) × EndsAt sector s bytes (fault.ReadFault k s) old new

-- Where the sectors are refused before a device is read, the buffer stays as it was.
abbrev pub LeavesUnresyncedBuffer : List ℕ → List ℕ → UnresyncedFault → Type 0
LeavesUnresyncedBuffer was bytes fault.Halted = bytes ≡ was
LeavesUnresyncedBuffer was bytes fault.OutOfRange = bytes ≡ was
LeavesUnresyncedBuffer was bytes reason = ⊤

-- ---- the member that a resync copies from
-- The source of these sectors.
abbrev pub IsSourceOfSectors : ℕ → ℕ → ArrayView → Source → Type 0
IsSourceOfSectors sector sectors a (source.Member k) = AllFrom sector sectors (λ s. IsSource k s a)
IsSourceOfSectors sector sectors a source.Nobody = AllFrom sector sectors (λ s. AllInSync a (λ m. Lists m s))
IsSourceOfSectors sector sectors a source.Several = (1 < sectors) × IsListedInPart sector sectors a

-- whoever is in sync in the role lists the sector
abbrev pub IsListedIn : ℕ → ℕ → ArrayView → Type 0
IsListedIn role s a = (k : ℕ) (m : MemberView) → IsMember a k m → is_in_sync_as role m.state ≡ true → Lists m s

-- Why these sectors are not given at once: a member in sync lists a part of them, so that they may have several sources; or their source was
-- asked for them once, and that read failed.
abbrev pub SourceMayGiveFewer : ℕ → ℕ → MirrorView → MirrorView → Type 0
SourceMayGiveFewer sector sectors old new =
    IsListedInPart sector sectors old.array
    ⊎ ((k : ℕ) × AllFrom sector sectors (λ s. IsSource k s old.array) × FailsThisReadAlone k sector sectors old new)

-- Only of one sector alone a failed read says that the source does not give it: of several that were read at once some may be given yet.
abbrev pub TriesSource : ℕ → List ℕ → List ℕ → MirrorView → MirrorView → SourceAnswer → Type 0
TriesSource sector was bytes old new answer.All =
    Rests old new × ((from : ℕ) × AllFrom sector (length was / 512) (λ s. IsSource from s old.array) × HoldsData old from sector bytes)
TriesSource sector was bytes old new answer.Nothing = Rests old new × AllFrom sector (length was / 512) (λ s. AllInSync old.array (λ m. Lists m s))
TriesSource sector was bytes old new (answer.Failed k) =
    Rests old new × (length was / 512 ≡ 1) × AllFrom sector (length was / 512) (λ s. IsSource k s old.array) × HasReadFailed k sector 1 old new
    × FailsThisReadAlone k sector 1 old new
TriesSource sector was bytes old new answer.Several = Rests old new × (1 < length was / 512) × SourceMayGiveFewer sector (length was / 512) old new

-- ---- the front of a part
-- Only the first of so many sectors was given, since they were not given at once.
pub record IsFirstAlone (sector sectors all : ℕ) (old new : MirrorView) : Type 0 where
  pub one : sectors ≡ 1
  pub mid : MirrorView
  pub why : SourceMayGiveFewer sector all old mid
  pub later : Rests mid new

-- the first of them was given alone
abbrev pub GivesFirstPart : ℕ → List ℕ → MirrorView → MirrorView → ℕ → Type 0
GivesFirstPart sector bytes old new sectors = (sectors ≡ 1) × GivesPart sector (take (512 * sectors) bytes) old new

-- so many of the sectors were given: all, or fewer where more of them could not be given at once
pub record GivesPartFront (sector : ℕ) (was bytes : List ℕ) (old new : MirrorView) (sectors : ℕ) : Type 0 where
  pub some : 0 < sectors
  pub few : sectors ≤ length was / 512
  pub given : GivesPart sector (take (512 * sectors) bytes) old new
  pub cut : (sectors ≡ length was / 512)
      ⊎ (IsCutFrom sector sectors (length was / 512) old new ⊎ IsFirstAlone sector sectors (length was / 512) old new)

-- The first of them was not, for this reason.
pub record GivesNoPart (sector : ℕ) (old new : MirrorView) (reason : UnresyncedFault) : Type 0 where
  pub rests : Rests old new
  pub ends : EndsPart sector reason old new
