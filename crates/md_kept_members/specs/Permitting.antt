-- Where a chunk may be read, found by going through a list of members.
use Rattle.std.specs.Prelude.{◌≡◌, ◌⊎◌, ℕ, ◌+◌, ◌<◌, Bool, true, false, List, length, slice_get, Some}
use Rattle.md_bitmap.specs.declared.chunks.Chunks.{Chunks}
use Rattle.md_bitmap.specs.Chunks.{InChunk}
use Rattle.md_badblocks.specs.Runs.{IsBad}
use Rattle.md_kept_members.specs.OwnFields.{is_write_mostly}
use Rattle.md_kept_members.specs.View.{MemberView}
use Rattle.md_assembly.specs.States.{is_in_sync_as}

-- the member lists a sector of the chunk
pub record ListsAny (chunks : Chunks) (chunk : ℕ) (m : MemberView) : Type 0 where
  pub sector : ℕ
  pub inside : InChunk chunks.sectors chunks.size chunk sector
  pub bad : IsBad m.bad (m.superblock.data_offset + sector)

-- The member is in sync in the role, and lists none.
pub record Serves (chunks : Chunks) (chunk role : ℕ) (m : MemberView) : Type 0 where
  pub in_sync : is_in_sync_as role m.state ≡ true
  pub unlisted : ListsAny chunks chunk m → ⊥

-- One of the first n members is in sync in the role and lists no sector of the chunk. It is write-mostly or
-- is not, as it is asked.
pub record IsServedIn (members : List MemberView) (n : ℕ) (chunks : Chunks) (chunk : ℕ) (mostly : Bool) (role : ℕ) : Type 0 where
  pub at : ℕ
  pub member : MemberView
  pub early : at < n
  pub listed : slice_get members at ≡ Some member
  pub serves : Serves chunks chunk role member
  pub flag : is_write_mostly member.superblock ≡ mostly

-- A member is in sync in the role and lists no sector of the chunk. It is write-mostly or is not, as it is
-- asked.
abbrev pub IsServedAs : List MemberView → Chunks → ℕ → Bool → ℕ → Type 0
IsServedAs members chunks chunk mostly role = IsServedIn members (length members) chunks chunk mostly role

-- The chunk may be read in the role: a member that is not write-mostly serves it there; or one that is, and none that is not serves it
-- in any role. Roles are below 32, as many as bits of a word.
abbrev pub IsPermittedAs : List MemberView → Chunks → ℕ → ℕ → Type 0
IsPermittedAs members chunks chunk role =
    IsServedAs members chunks chunk false role
    ⊎ (IsServedAs members chunks chunk true role × ((other : ℕ) → other < 32 → IsServedAs members chunks chunk false other → ⊥))
