-- Facts of the members of an array, by their indices.
use Rattle.std.specs.Prelude.{◌≡◌, ◌⊎◌, ℕ, ◌+◌, ◌-◌, ◌^◌, ◌<◌, Bool, true, false, not, slice_get, Some}
use Rattle.std.specs.List.{list_any, range_with_len}
use Rattle.md_bitmap.specs.Chunks.{InChunk}
use Rattle.md_badblocks.specs.Runs.{IsBad}
use Rattle.md_assembly.specs.States.{is_in_sync, is_in_sync_as}
use Rattle.md_kept_members.specs.OwnFields.{is_write_mostly}
use Rattle.md_kept_members.specs.View.{MemberView}
use Rattle.md_state.specs.View.{ArrayView}

-- this is member k
abbrev pub IsMember : ArrayView → ℕ → MemberView → Type 0
IsMember a k m = slice_get a.members k ≡ Some m

-- member k is in sync
pub record IsInSync (a : ArrayView) (k : ℕ) (m : MemberView) : Type 0 where
  pub member : IsMember a k m
  pub in_sync : is_in_sync m.state ≡ true

-- all members in sync have it
abbrev pub AllInSync : ArrayView → (MemberView → Type 0) → Type 0
AllInSync a Holds = (i : ℕ) (m : MemberView) → IsInSync a i m → Holds m

-- member j is the first in sync of which it doesn't hold
pub record IsFirstInSyncWithout (a : ArrayView) (Holds : MemberView → Type 0) (j : ℕ) : Type 0 where
  pub member : MemberView
  pub in_sync : IsInSync a j member
  pub lacks : Holds member → ⊥
  pub earlier : (i : ℕ) (m : MemberView) → i < j → IsInSync a i m → Holds m

-- some member is in sync in the role
abbrev pub is_filled : ArrayView → ℕ → Bool
is_filled a role = list_any (λ m. is_in_sync_as role m.state) a.members

-- Some role has no member in sync. The roles of members in sync differ and are below raid_disks, so that it is the same to
-- say that there are fewer members in sync than raid disks.
abbrev pub is_degraded : ArrayView → Bool
is_degraded a = list_any (λ role. not (is_filled a role)) (range_with_len 0 a.shared.raid_disks)

-- all members in sync are one
abbrev pub IsAlone : ArrayView → Type 0
IsAlone a = (j k : ℕ) (m n : MemberView) → IsInSync a j m → IsInSync a k n → j ≡ k

-- the member lists no sector of the chunk
abbrev pub IsUnlisted : ArrayView → ℕ → MemberView → Type 0
IsUnlisted a chunk m = (s : ℕ) → InChunk a.chunks.sectors a.chunks.size chunk s → IsBad m.bad (m.superblock.data_offset + s) → ⊥

-- the member in sync in a role serves the chunk: it lists no sector of it, so that it has there what the array has
abbrev pub IsServed : ArrayView → ℕ → ℕ → Type 0
IsServed a chunk role =
    (k : ℕ) × (m : MemberView) × IsMember a k m × (is_in_sync_as role m.state ≡ true) × IsUnlisted a chunk m

-- Some member in sync that is not write-mostly serves the chunk: it lists no sector of it. Roles of members
-- in sync are below raid_disks, and that is at most 32.
abbrev pub IsServedPlainly : ArrayView → ℕ → Type 0
IsServedPlainly a chunk =
    (role : ℕ) × (role < 32) × (k : ℕ) × (m : MemberView) × IsMember a k m × (is_in_sync_as role m.state ≡ true) × IsUnlisted a chunk m
    × (is_write_mostly m.superblock ≡ false)

-- The chunk may be read in the role: the member there serves it, and is not write-mostly, or no member that is not write-mostly serves it
-- (--write-mostly in mdadm(8): "the md driver will avoid reading from these devices if at all possible").
abbrev pub IsPermitted : ArrayView → ℕ → ℕ → Type 0
IsPermitted a chunk role =
    (k : ℕ) × (m : MemberView) × IsMember a k m × (is_in_sync_as role m.state ≡ true) × IsUnlisted a chunk m
    × ((is_write_mostly m.superblock ≡ false) ⊎ (IsServedPlainly a chunk → ⊥))

-- resync_offset of a clean array
abbrev pub clean_offset : ℕ
clean_offset = 2 ^ 64 - 1
