-- The target of a salvage gets sectors, run by run, each from any member in sync that gives it (this project's own).
use Rattle.std.specs.Prelude.{◌≡◌, ◌≢◌, ◌⊎◌, ◌↔◌, ℕ, ◌+◌, ◌*◌, ◌/◌, ◌%◌, ◌<◌, ◌≤◌, true, List, [], ◌∷◌, length, take, false}
use Rattle.md_badblocks.specs.declared.run.Run.{Run}
use Rattle.md_badblocks.specs.Runs.{IsBad, IsCanonical}
use Rattle.md_bitmap.specs.Chunks.{InChunk}
use Rattle.md_bitmap.specs.Marks.{Bitmap, is_set}
use Rattle.md_device.specs.Splice.{part}
use Rattle.md_kept_members.specs.View.{MemberView}
use Rattle.md_read.specs.Reading.{GivesSectors, NoneGives}
use Rattle.md_copy.specs.declared.beginning.fault.RebuildFault.{RebuildFault}
use Rattle.md_copy.specs.declared.beginning.fault.RebuildFault.TheVariants.{NoMemory, TargetFault}
use Rattle.md_state.specs.DeviceChanges.{IsLeftAlone, LeavesOn, StaysHonest}
use Rattle.md_state.specs.DiskWrites.{AtDevice}
use Rattle.md_state.specs.Members.{IsMember}
use Rattle.md_state.specs.Rests.{Rests}
use Rattle.md_state.specs.Missing.{is_missing}
use Rattle.md_state.specs.View.{ArrayView, MirrorView}
use Rattle.md_array.specs.Consistency.{IsConsistent}
use Rattle.md_array.specs.Steps.Checkpoint.{Checkpoints, FailsToCheckpoint}
use Rattle.md_copy.specs.Salvaging.Putting.{FailsToPut}
use Rattle.md_copy.specs.Salvaging.Sectors.{IsLacked, IsSectorHeld, bytes_of_sector}

-- So many of these sectors were given, from the first one on. If these are not all, no member in sync gave the next one.
pub record GivesFront (sector : ℕ) (was bytes : List ℕ) (old new : MirrorView) (given : ℕ) : Type 0 where
  pub within : given ≤ length was / 512
  pub mid : MirrorView
  pub front : GivesSectors sector (take (512 * given) bytes) old mid
  pub rests : Rests mid new
  pub next : given < length was / 512 → NoneGives (sector + given) mid new

-- ---- sectors from one up to another
-- These bytes of the member's device lie beside the sectors of the array from one up to another.
abbrev pub IsBesideFilled : MemberView → ℕ → ℕ → ℕ → ℕ → Type 0
IsBesideFilled m from to at n = (at + n ≤ 512 * (m.superblock.data_offset + from)) ⊎ (512 * (m.superblock.data_offset + to) ≤ at)

-- two contents of the member's device that are the same but for these sectors
pub record IsSameBesideSectors (m : MemberView) (from to : ℕ) (old new : List ℕ) : Type 0 where
  pub size : length new ≡ length old
  pub beside : (at n : ℕ) → IsBesideFilled m from to at n → part new at n ≡ part old at n

-- Whatever became of it: in memory all is as before, the other devices were only read, and the target changed in these sectors alone, also at a crash.
pub record FillsWithin (target from to : ℕ) (old new : MirrorView) : Type 0 where
  pub member : MemberView
  pub at : IsMember old.array target member
  pub array : new.array ≡ old.array
  pub as_many : length new.disks ≡ length old.disks
  pub others : (j : ℕ) → j ≢ target → AtDevice j old.disks new.disks (λ d e. StaysHonest d e × IsLeftAlone d e)
  pub stays : AtDevice target old.disks new.disks StaysHonest
  pub size : AtDevice target old.disks new.disks (λ d e. length e.content ≡ length d.content)
  pub beside : AtDevice target old.disks new.disks (λ d e. (at n : ℕ) → IsBesideFilled member from to at n → part e.content at n ≡ part d.content at n)
  pub crashes : AtDevice target old.disks new.disks (λ d e. d.honest ≡ true → LeavesOn (IsSameBesideSectors member from to d.content) d e)

-- Of these sectors some came to the lost ones: no member in sync gave them, and the target has them as it had. It holds all others.
pub record FillsSectors (target from to : ℕ) (before lost : List Run) (old new : MirrorView) : Type 0 where
  pub within : FillsWithin target from to old new
  pub canonical : IsCanonical lost
  pub kept : (s : ℕ) → IsBad before s → IsBad lost s
  pub none : (s : ℕ) → IsBad lost s → IsBad before s ⊎ ((from ≤ s) × (s < to) × NoneGives s old new)
  pub held : (s : ℕ) → from ≤ s → s < to → (IsBad lost s → ⊥) → IsSectorHeld new target s
  pub as_was : (s : ℕ) → from ≤ s → s < to → IsBad lost s
      → AtDevice target old.disks new.disks (λ d e. bytes_of_sector within.member e.content s ≡ bytes_of_sector within.member d.content s)

-- Some of these sectors were filled, and then a write of some of them to the target failed.
pub record BreaksWithin (target from to : ℕ) (old new : MirrorView) : Type 0 where
  pub last : MirrorView
  pub within : FillsWithin target from to old last
  pub sector : ℕ
  pub bytes : List ℕ
  pub low : from ≤ sector
  pub high : sector + length bytes / 512 ≤ to
  pub whole : length bytes % 512 ≡ 0
  pub fails : FailsToPut target sector bytes last new

-- why not all were: a write to the target failed, or memory was refused for the list of those that are lost
abbrev pub BreaksFilling : ℕ → ℕ → ℕ → MirrorView → MirrorView → RebuildFault → Type 0
BreaksFilling target from to old new TargetFault = BreaksWithin target from to old new
BreaksFilling target from to old new NoMemory = FillsWithin target from to old new
BreaksFilling target from to old new fault = ⊥

-- The first of these sectors are filled, so many of them. If these are not all, no member in sync gave the next one.
pub record FillsFront (target sector sectors : ℕ) (old new : MirrorView) (given : ℕ) : Type 0 where
  pub few : given ≤ sectors
  pub within : FillsWithin target sector (sector + given) old new
  pub held : (s : ℕ) → sector ≤ s → s < sector + given → IsSectorHeld new target s
  pub next : given < sectors → NoneGives (sector + given) old new

-- ---- one chunk after another
-- a chunk that the member lacks, and that was not copied
pub record IsLeft (a : ArrayView) (m : MemberView) (copied : Bitmap) (c : ℕ) : Type 0 where
  pub low : c < a.marks.chunks
  pub missing : is_missing a m c ≡ true
  pub uncopied : is_set copied.bytes c ≡ false

-- the target lacks the chunk, and it was not copied
abbrev pub IsTargetLeft : ℕ → MirrorView → Bitmap → ℕ → Type 0
IsTargetLeft target v copied c = (m : MemberView) → IsMember v.array target m → IsLeft v.array m copied c

-- A chunk that the target lacked, and that was not copied, is filled. No sector of it was lost before. If none is lost then, it counts as copied from then
-- on.
pub record FillsChunk (target c : ℕ) (before after : Bitmap) (lost_before lost : List Run) (old filled : MirrorView) : Type 0 where
  pub left : IsTargetLeft target old before c
  pub fresh : (s : ℕ) → InChunk old.array.chunks.sectors old.array.chunks.size c s → IsBad lost_before s → ⊥
  pub start : ℕ
  pub end : ℕ
  pub range : (s : ℕ) → InChunk old.array.chunks.sectors old.array.chunks.size c s ↔ ((start ≤ s) × (s < end))
  pub fills : FillsSectors target start end lost_before lost old filled
  pub chunks : after.chunks ≡ before.chunks
  pub others : (b : ℕ) → b ≢ c → is_set after.bytes b ≡ is_set before.bytes b
  pub own : (is_set after.bytes c ≡ true) ↔ ((s : ℕ) → InChunk old.array.chunks.sectors old.array.chunks.size c s → IsBad lost s → ⊥)
  pub sound : IsConsistent filled

-- So, and where no sector is lost so far, of this chunk or those before it, how far the target is rebuilt is recorded on it.
pub record SalvagesChunk (target c : ℕ) (before after : Bitmap) (lost_before lost : List Run) (old new : MirrorView) : Type 0 where
  pub filled : MirrorView
  pub fills : FillsChunk target c before after lost_before lost old filled
  pub ends : ((lost ≢ []) × (new ≡ filled)) ⊎ ((lost ≡ []) × Checkpoints target after filled new)

-- Chunks that the target lacked, and that were not copied, are filled, one after another, by rising numbers.
abbrev pub AreSalvaged : ℕ → List ℕ → Bitmap → Bitmap → List Run → List Run → MirrorView → MirrorView → Type 0
AreSalvaged target [] before after lost_before lost old new = (after ≡ before) × (lost ≡ lost_before) × (new ≡ old)
AreSalvaged target (c ∷ cs) before after lost_before lost old new =
    (mid : Bitmap) × (more : List Run) × (next : MirrorView) × SalvagesChunk target c before mid lost_before more old next
    × AreSalvaged target cs mid after more lost next new

-- the chunk is one of these
abbrev pub LiesAmong : List ℕ → ℕ → Type 0
LiesAmong [] c = ⊥
LiesAmong (x ∷ xs) c = (x ≡ c) ⊎ LiesAmong xs c

-- All chunks that were left are filled.
pub record SalvagesAll (target : ℕ) (m : MemberView) (before after : Bitmap) (old new : MirrorView) (lost : List Run) : Type 0 where
  pub chunks : List ℕ
  pub are : (c : ℕ) → LiesAmong chunks c ↔ IsLeft old.array m before c
  pub salvaged : AreSalvaged target chunks before after [] lost old new

-- of what the target lacked it holds each sector that is not lost
abbrev pub AllAreFilled : ℕ → MirrorView → List Run → Type 0
AllAreFilled target v lost =
    (m : MemberView) → IsMember v.array target m → (s : ℕ) → IsLacked v.array m s → (IsBad lost s → ⊥) → IsSectorHeld v target s

-- ---- where it ends before that
-- How far the target is rebuilt could not be recorded on it.
abbrev pub FailsToRecordChunk : ℕ → Bitmap → MirrorView → MirrorView → RebuildFault → Type 0
FailsToRecordChunk target copied old new fault = (fault ≡ TargetFault) × FailsToCheckpoint target copied old new

-- A chunk could not be filled, or how far the target is rebuilt could not be recorded after it.
abbrev pub FailsChunk : ℕ → ℕ → Bitmap → Bitmap → MirrorView → MirrorView → RebuildFault → Type 0
FailsChunk target c before after old new fault =
    (IsTargetLeft target old before c × (start : ℕ) × (end : ℕ) × ((s : ℕ) → InChunk old.array.chunks.sectors old.array.chunks.size c s ↔ ((start ≤ s) × (s < end)))
    × (after ≡ before) × BreaksFilling target start end old new fault)
    ⊎ ((lost : List Run) × (more : List Run) × (filled : MirrorView) × FillsChunk target c before after lost more old filled × (more ≡ []) × FailsToRecordChunk target after filled new fault)

-- Some chunks that were left are filled, and the next was not.
pub record EndsAtChunk (target : ℕ) (m : MemberView) (before after : Bitmap) (old new : MirrorView) (fault : RebuildFault) : Type 0 where
  pub chunks : List ℕ
  pub are : (c : ℕ) → LiesAmong chunks c → IsLeft old.array m before c
  pub next : ℕ
  pub left : IsLeft old.array m before next
  pub copied : Bitmap
  pub lost : List Run
  pub begun : MirrorView
  pub salvaged : AreSalvaged target chunks before copied [] lost old begun
  pub fails : FailsChunk target next copied after begun new fault

-- A chunk ended it, or memory was refused before the first.
abbrev pub EndsSalvaging : ℕ → MemberView → Bitmap → Bitmap → MirrorView → MirrorView → RebuildFault → Type 0
EndsSalvaging target m before after old new fault = ((fault ≡ NoMemory) × (after ≡ before) × (new ≡ old)) ⊎ EndsAtChunk target m before after old new fault
