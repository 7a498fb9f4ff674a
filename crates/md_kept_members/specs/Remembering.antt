-- How members are remembered: what those that were read have to be, and what is found by going through those that are
-- kept, in a list.
use Rattle.std.specs.Prelude.{◌≡◌, ◌⊎◌, ℕ, ◌/◌, ◌<◌, ◌≤◌, true, List, length, slice_get, Option, Some, None}
use Rattle.std.specs.Int.{div_ceil}
use Rattle.md_bitmap.specs.declared.header.BitmapHeader.{BitmapHeader}
use Rattle.md_bitmap.specs.declared.chunks.Chunks.{Chunks}
use Rattle.md_bitmap.specs.Marks.{Bitmap, IsMarked}
use Rattle.md_bitmap.specs.Sound.{chunk_count}
use Rattle.md_members.specs.declared.info.MemberInfo.{MemberInfo}
use Rattle.md_members.specs.Members.{IsAccepted}
use Rattle.md_assembly.specs.declared.state.MemberState.{MemberState}
use Rattle.md_assembly.specs.States.{is_in_sync}
use Rattle.md_kept_members.specs.View.{MemberView}
use Rattle.md_kept_members.specs.Kept.{IsKept}

-- the member has a bitmap, of as many chunks as the array has by the member's superblock
pub record IsWhole (info : MemberInfo) : Type 0 where
  pub header : BitmapHeader
  pub marks : Bitmap
  pub has_header : info.header ≡ Some header
  pub has_marks : info.marks ≡ Some marks
  pub counted : marks.chunks ≡ chunk_count info.superblock.size header.chunksize
  pub few_chunks : chunk_count info.superblock.size header.chunksize ≤ 1048576

abbrev pub AreWhole : List MemberInfo → Type 0
AreWhole infos = (k : ℕ) (info : MemberInfo) → slice_get infos k ≡ Some info → IsWhole info

-- the chunks of an array by this member
pub record IsChunkingOf (info : MemberInfo) (chunks : Chunks) : Type 0 where
  pub header : BitmapHeader
  pub has_header : info.header ≡ Some header
  pub size : chunks.size ≡ info.superblock.size
  pub width : chunks.sectors ≡ header.chunksize / 512
  pub count : div_ceil chunks.size chunks.sectors ≡ chunk_count info.superblock.size header.chunksize

-- what is kept of each member
pub record AreKept (events cleared : ℕ) (infos : List MemberInfo) (states : List MemberState) (members : List MemberView) : Type 0 where
  pub as_many : length members ≡ length infos
  pub each : (k : ℕ) (info : MemberInfo) (state : MemberState) (m : MemberView) → slice_get infos k ≡ Some info
      → slice_get states k ≡ Some state → slice_get members k ≡ Some m → IsKept events cleared info state m

-- the marks of each are of so many chunks
abbrev pub HaveChunks : List MemberView → ℕ → Type 0
HaveChunks members chunks = (k : ℕ) (m : MemberView) → slice_get members k ≡ Some m → m.stored.chunks ≡ chunks

-- one of the first n members is in sync, and marks the chunk
pub record IsMarkedIn (members : List MemberView) (n c : ℕ) : Type 0 where
  pub at : ℕ
  pub member : MemberView
  pub early : at < n
  pub listed : slice_get members at ≡ Some member
  pub in_sync : is_in_sync member.state ≡ true
  pub marked : IsMarked member.stored c

-- the member is in sync, and its bitmap is accepted
pub record HasAccepted (m : MemberView) : Type 0 where
  pub in_sync : is_in_sync m.state ≡ true
  pub accepted : IsAccepted m.superblock m.header

-- the accepted bitmap of one of the first n members says that marks were cleared at these events
pub record ClearedIn (members : List MemberView) (n events : ℕ) : Type 0 where
  pub at : ℕ
  pub member : MemberView
  pub early : at < n
  pub listed : slice_get members at ≡ Some member
  pub accepted : HasAccepted member
  pub is : events ≡ member.header.events_cleared

-- the greatest of them, where there is one
abbrev pub IsLastClearedIn : List MemberView → ℕ → Option ℕ → Type 0
IsLastClearedIn members n None = (events : ℕ) → ClearedIn members n events → ⊥
IsLastClearedIn members n (Some events) = ClearedIn members n events × ((other : ℕ) → ClearedIn members n other → other ≤ events)

-- the greatest of all, and else these
abbrev pub IsLastClearedOr : ℕ → List MemberView → ℕ → Type 0
IsLastClearedOr default members events =
    IsLastClearedIn members (length members) (Some events)
    ⊎ (IsLastClearedIn members (length members) None × (events ≡ default))

-- all members in sync are one
abbrev pub IsAloneIn : List MemberView → Type 0
IsAloneIn members = (j k : ℕ) (m n : MemberView) → slice_get members j ≡ Some m → is_in_sync m.state ≡ true
    → slice_get members k ≡ Some n → is_in_sync n.state ≡ true → j ≡ k
