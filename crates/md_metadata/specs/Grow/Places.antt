-- Where the bitmap comes: at the first page of 4 KiB after the superblock where each member has room for it (this project's own).
use Rattle.std.specs.Prelude.{◌≡◌, ℕ, ◌+◌, ◌*◌, ◌<◌, ◌≤◌, List, slice_get, Some, pos}
use Rattle.std.specs.Int.{div_ceil}
use Rattle.md_bitmap.specs.Sectors.{bitmap_sectors}
use Rattle.md_super.specs.declared.superblock.Superblock.{Superblock}
use Rattle.md_members.specs.declared.info.MemberInfo.{MemberInfo}
use Rattle.md_members.specs.Areas.{IsApartFromLog}

-- the sectors of the whole pages that hold a bitmap of so many chunks
abbrev pub reserved_for : ℕ → ℕ
reserved_for chunks = 8 * div_ceil (bitmap_sectors chunks) 8

-- the first sector of a page, counted from the superblock's end
abbrev pub page_at : ℕ → ℕ
page_at page = 16 + 8 * page

-- a member has room for so many sectors from this one on: before its data, and beside its bad block log
pub record HasRoomAt (start sectors : ℕ) (v : Superblock) : Type 0 where
  pub before_data : start + sectors ≤ v.data_offset
  pub beside_log : IsApartFromLog v (record { start = pos start; sectors = sectors })

-- each member has
abbrev pub HaveRoomAt : ℕ → ℕ → List MemberInfo → Type 0
HaveRoomAt start sectors infos =
    (k : ℕ) (info : MemberInfo) → slice_get infos k ≡ Some info → HasRoomAt start sectors info.superblock

-- none of the first 4096 pages, which are 16 MiB, begins room on each member
abbrev pub NoPlace : ℕ → List MemberInfo → Type 0
NoPlace sectors infos = (page : ℕ) → page < 4096 → HaveRoomAt (page_at page) sectors infos → ⊥

-- the first of them that does begins at this sector
pub record IsFirstPlace (sectors : ℕ) (infos : List MemberInfo) (start : ℕ) : Type 0 where
  pub page : ℕ
  pub few : page < 4096
  pub is : start ≡ page_at page
  pub room : HaveRoomAt start sectors infos
  pub first : (before : ℕ) → before < page → HaveRoomAt (page_at before) sectors infos → ⊥
