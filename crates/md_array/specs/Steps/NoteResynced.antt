-- The array is known to be resynced, or no longer.
use Rattle.std.specs.Prelude.{◌≡◌, ℕ, ◌+◌, ◌/◌, ◌<◌, Bool, true, List, slice_get, Some}
use Rattle.md_bitmap.specs.Marks.{is_set}
use Rattle.md_device.specs.Device.{held}
use Rattle.md_kept_members.specs.View.{MemberView}
use Rattle.md_state.specs.Steps.CopyData.{Lists}
use Rattle.md_state.specs.Steps.MakeClean.{IsIdle}
use Rattle.md_state.specs.Members.{IsInSync}
use Rattle.md_state.specs.View.{ArrayView, Disk, MirrorView}

-- a sector of a member's data
abbrev pub sector_of : MemberView → Disk → ℕ → List ℕ
sector_of m d s = held d.content (m.superblock.data_offset + s) 512

-- a member in sync, with its device, which does what it answers
pub record IsHonestMember (v : MirrorView) (k : ℕ) (m : MemberView) (d : Disk) : Type 0 where
  pub in_sync : IsInSync v.array k m
  pub disk : slice_get v.disks k ≡ Some d
  pub honest : d.honest ≡ true

-- Any two members in sync hold the same in this sector, unless one of them lists it.
abbrev pub AllAgreeAt : MirrorView → ℕ → Type 0
AllAgreeAt v s =
    (j k : ℕ) (m n : MemberView) (d e : Disk) → IsHonestMember v j m d → IsHonestMember v k n e
    → (Lists m s → ⊥) → (Lists n s → ⊥) → sector_of m d s ≡ sector_of n e s

-- Any two members in sync hold the same in each sector of a marked chunk, unless one of them lists the
-- sector.
abbrev pub AllAgreeWhereMarked : MirrorView → Type 0
AllAgreeWhereMarked v =
    (s : ℕ) → s < v.array.chunks.size → is_set v.array.marks.bytes (s / v.array.chunks.sectors) ≡ true → AllAgreeAt v s

-- each member in sync has every mark of memory stored
abbrev pub AreNoted : ArrayView → Type 0
AreNoted a = (i c : ℕ) (m : MemberView) → IsInSync a i m → c < a.marks.chunks → is_set a.marks.bytes c ≡ true → is_set m.stored.bytes c ≡ true

-- In memory the array counts as resynced from now on, or as not; nothing else changes.
pub record NotesResynced (is : Bool) (old new : MirrorView) : Type 0 where
  pub idle : IsIdle old.array
  pub disks : new.disks ≡ old.disks
  pub array : new.array ≡ record old.array { resynced = is }

pub record BecomesResynced (old new : MirrorView) : Type 0 where
  pub marks : NotesResynced true old new
  pub agree : AllAgreeWhereMarked old
  pub stored : AreNoted old.array
