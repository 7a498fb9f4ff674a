-- The devices are lent, for a rebuild or a check, and come back (this project's own).
use Rattle.std.specs.Prelude.{◌≡◌, ℕ, ◌+◌, ◌-◌, ◌*◌, ◌<◌, ◌≤◌, ◌⊎◌, true, false, length, min, slice_get, Some}
use Rattle.md_device.specs.Splice.{part}
use Rattle.md_bitmap.specs.declared.chunks.Chunks.{Chunks}
use Rattle.md_kept_members.specs.TakingBack.{member_says_of}
use Rattle.md_kept_members.specs.View.{MemberView}
use Rattle.md_state.specs.DeviceChanges.{StaysHonest}
use Rattle.md_state.specs.Members.{IsMember}
use Rattle.md_state.specs.Missing.{is_missing, is_rebuilt}
use Rattle.md_state.specs.View.{ArrayView, Disk, MirrorView}

-- n bytes of a device, on which the array's sectors begin at this offset, lie beside the chunk
abbrev pub IsBesideChunk : Chunks → ℕ → ℕ → ℕ → ℕ → Type 0
IsBesideChunk chunks offset at n c =
    (at + n ≤ 512 * (offset + c * chunks.sectors)) ⊎ (512 * (offset + c * chunks.sectors) + 512 * (min ((c + 1) * chunks.sectors) chunks.size - c * chunks.sectors) ≤ at)

-- These bytes lie beside each chunk that the member lacks.
abbrev pub IsBesideMissing : ArrayView → MemberView → ℕ → ℕ → Type 0
IsBesideMissing a m at n = (c : ℕ) → c < a.marks.chunks → is_missing a m c ≡ true → IsBesideChunk a.chunks m.superblock.data_offset at n c

-- These bytes lie beside each chunk that the member lacks, and of which its superblock does not say that it has it.
abbrev pub IsBesideUnsaid : ArrayView → MemberView → ℕ → ℕ → Type 0
IsBesideUnsaid a m at n = (c : ℕ) → c < a.marks.chunks → is_missing a m c ≡ true → member_says_of (c * a.chunks.sectors) m ≡ false
    → IsBesideChunk a.chunks m.superblock.data_offset at n c

-- A device as it was lent, and as it comes back. Of a member that is being rebuilt data in its missing chunks may differ; of any
-- other nothing does.
pub record ComesBackFromLoan (a : ArrayView) (m : MemberView) (d e : Disk) : Type 0 where
  pub stays : StaysHonest d e
  pub size : length e.content ≡ length d.content
  pub beside : (at n : ℕ) → IsBesideMissing a m at n → part e.content at n ≡ part d.content at n
  pub others : is_rebuilt m.state ≡ false → e.content ≡ d.content

-- The devices of a mirror are back, as many and each in its place: what stands there is compared with the very device that was lent.
pub record AreBack (old new : MirrorView) : Type 0 where
  pub array : new.array ≡ old.array
  pub as_many : length new.disks ≡ length old.disks
  pub each : (k : ℕ) (d e : Disk) (m : MemberView) → slice_get old.disks k ≡ Some d → slice_get new.disks k ≡ Some e → IsMember old.array k m
      → ComesBackFromLoan old.array m d e
