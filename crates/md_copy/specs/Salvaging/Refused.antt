-- What stands after a salvage that is refused, fault by fault, in plain terms, whatever the steps were (this project's own).
use Rattle.std.specs.Prelude.{◌≡◌, ◌≢◌, ◌⊎◌, ◌↔◌, ℕ, ◌+◌, ◌^◌, ◌≤◌, true, false, List, slice_get, Some}
use Rattle.md_assembly.specs.States.{is_recovering, is_spare}
use Rattle.md_badblocks.specs.declared.run.Run.{Run}
use Rattle.md_badblocks.specs.Runs.{IsBad}
use Rattle.md_collect.specs.Reading.{CountsFailure}
use Rattle.md_device.specs.Splice.{part}
use Rattle.md_bitmap.specs.Marks.{Bitmap}
use Rattle.md_kept_members.specs.Enrolling.{log_room}
use Rattle.md_kept_members.specs.SectorLists.{in_chunks_but, in_runs}
use Rattle.md_kept_members.specs.View.{MemberView}
use Rattle.md_read.specs.Reading.{NoneGives}
use Rattle.md_state.specs.DiskWrites.{AtDevice}
use Rattle.md_state.specs.Members.{IsInSync, IsMember}
use Rattle.md_state.specs.Steps.Enrol.{HasFullLog}
use Rattle.md_state.specs.View.{ArrayView, Disk, MirrorView, of_disks}
use Rattle.md_copy.specs.Refused.{HasHalted, IsBesideLacking, IsLost, IsNothingDone, OtherMembersKeep, StatesStay}
use Rattle.md_copy.specs.Salvaging.Fitting.{LacksRoomForMore}
use Rattle.md_copy.specs.Salvaging.Widened.{IsWidened, TakesFewest}
use Rattle.md_copy.specs.Salvaging.Sectors.{AreLackedChunks, IsLacked}
use Rattle.md_copy.specs.declared.beginning.fault.RebuildFault.{RebuildFault}
use Rattle.md_copy.specs.declared.beginning.fault.RebuildFault.TheVariants.{Halted, NotSpare, Dirty, InFlight, LogFull, NoMemory, TargetFault, MetadataFault, EventsFull}

-- Sectors that no member in sync gave in this call, and those that were to be listed: these and such as lie close between two of them.
pub record AreLostSoFar (target : ℕ) (m : MemberView) (lost listed : List Run) (old new : MirrorView) : Type 0 where
  pub none : (s : ℕ) → IsBad lost s → IsLacked old.array m s × NoneGives s old new
  pub gap : ℕ
  pub to : ℕ
  pub widest : gap ≤ 510
  pub missing : Bitmap
  pub widened : IsWidened gap to old.array.chunks missing lost listed
  pub lacked : (s : ℕ) → IsBad listed s → IsLacked old.array m s

-- The list of each other member grew at most by these, and only where it was in sync.
pub record ListsGrowWithin (target : ℕ) (listed : List Run) (old new : ArrayView) : Type 0 where
  pub in_sync : (k : ℕ) (m n : MemberView) → k ≢ target → IsInSync old k m → IsMember new k n
      → (sector : ℕ) → IsBad n.bad sector → IsBad m.bad sector ⊎ ((s : ℕ) × IsBad listed s × (sector ≡ m.superblock.data_offset + s))
  pub kept : (k : ℕ) (m n : MemberView) → k ≢ target → IsMember old k m → IsMember new k n → (sector : ℕ) → IsBad m.bad sector → IsBad n.bad sector
  pub out : (k : ℕ) (m n : MemberView) → k ≢ target → IsMember old k m → (IsInSync old k m → ⊥) → IsMember new k n → n.bad ≡ m.bad

-- The target has no log, and nothing was done.
pub record LacksLog (target k : ℕ) (m : MemberView) (old new : MirrorView) : Type 0 where
  pub own : k ≡ target
  pub none : log_room m.superblock ≡ 0
  pub unchanged : new ≡ old

-- The lists of all other members are as they were.
abbrev pub ListsStay : ℕ → ArrayView → ArrayView → Type 0
ListsStay target old new =
    (k : ℕ) (m n : MemberView) → k ≢ target → IsMember old k m → IsMember new k n → (sector : ℕ) → IsBad n.bad sector ↔ IsBad m.bad sector

-- The log of the target has no room for its list with what is to be listed, or that of member k, which is in sync and would have to list some, though that
-- takes the fewest entries that there can be. That is found before anything is listed: the lists of all members are as they were, and by `LeadsUnlisted` no
-- log was written. (Where it is the target, nothing need be lost: a log that was read with a shift may have no room for what the target lists already. And
-- where a log lists some sectors already, another choice of gaps might fit.)
pub record LacksRoomForLost (target k : ℕ) (m : MemberView) (missing : Bitmap) (lost listed : List Run) (old new : MirrorView) : Type 0 where
  pub running : new.array.halted ≡ false
  pub missing_are : AreLackedChunks old.array m missing
  pub fewest : TakesFewest 510 (2 ^ 54) old.array.chunks missing lost listed
  pub lists : ListsStay target old.array new.array
  pub full : ((k ≡ target) × HasFullLog k (in_chunks_but old.array.chunks missing listed) (in_runs listed) new.array) ⊎ LacksRoomForMore k new.array listed

abbrev pub EndsSalvageSo : (target : ℕ) → RebuildFault → MemberView → (missing : Bitmap) → (lost listed : List Run) → MirrorView → MirrorView → Type 0
EndsSalvageSo target Halted m missing lost listed old new = IsNothingDone true old new
EndsSalvageSo target NotSpare m missing lost listed old new = IsNothingDone false old new
EndsSalvageSo target Dirty m missing lost listed old new = IsNothingDone false old new
EndsSalvageSo target (InFlight number) m missing lost listed old new = IsNothingDone false old new
EndsSalvageSo target EventsFull m missing lost listed old new = IsNothingDone false old new
EndsSalvageSo target TargetFault m missing lost listed old new = (new.array.halted ≡ false) × AtDevice target old.disks new.disks (CountsFailure of_disks)
EndsSalvageSo target NoMemory m missing lost listed old new = new.array.halted ≡ false
EndsSalvageSo target (LogFull k) m missing lost listed old new = LacksLog target k m old new ⊎ LacksRoomForLost target k m missing lost listed old new
EndsSalvageSo target (MetadataFault k) m missing lost listed old new = (k ≢ target) × (IsLost k old.array new.array ⊎ HasHalted k old new)

-- Whatever the fault is: the target is in the state in which it was, or it was a spare and is recovering. How far it is rebuilt is no less than before, its
-- list is as before, and so are its data beside what it lacked. The data of all other members are as before, their lists grew at most by what was to be
-- listed, and their states are as before, but for the one that the fault names where a write to it failed. The marks in memory are as before.
pub record HasNotSalvaged (target : ℕ) (fault : RebuildFault) (old new : MirrorView) : Type 0 where
  pub member : MemberView
  pub at : IsMember old.array target member
  pub now : MemberView
  pub there : IsMember new.array target now
  pub state : (now.state ≡ member.state) ⊎ ((is_spare member.state ≡ true) × (is_recovering now.state ≡ true))
  pub offset : is_recovering member.state ≡ true → member.offset ≤ now.offset
  pub list : now.bad ≡ member.bad
  pub beside : (d e : Disk) → slice_get old.disks target ≡ Some d → slice_get new.disks target ≡ Some e
      → (at n : ℕ) → IsBesideLacking old.array member at n → part e.content at n ≡ part d.content at n
  pub others : OtherMembersKeep target fault old new
  pub lost : List Run
  pub listed : List Run
  pub so_far : AreLostSoFar target member lost listed old new
  pub lists : ListsGrowWithin target listed old.array new.array
  pub still : StatesStay target fault old.array new.array
  pub marks : new.array.marks ≡ old.array.marks
  pub resynced : new.array.resynced ≡ old.array.resynced
  pub so : EndsSalvageSo target fault member so_far.missing lost listed old new
