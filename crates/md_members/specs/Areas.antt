-- Where the parts of a member stand on its device. Offsets count from the superblock (md_p.h), and may lead before the
-- device's first sector.
use Rattle.std.specs.Prelude.{◌≡◌, ◌⊎◌, ℕ, ◌+◌, ◌<◌, ◌≤◌, ◌^◌, ◌==◌, Bool, true, not, bit_and, ℤ, pos, negsuc, ◌+ℤ◌, ◌≤ℤ◌}
use Rattle.md_super.specs.declared.superblock.Superblock.{Superblock}
use Rattle.md_super.specs.Log.{has_bad_block_log}
pub use Rattle.md_bitmap.specs.Sectors.{bitmap_sectors}
use Rattle.md_members.specs.declared.area.Area.{Area}

-- the first sector after an area
abbrev pub end_of_area : Area → ℤ
end_of_area a = a.start +ℤ pos a.sectors

-- the area lies on a device of so many sectors
pub record IsWithin (sectors : ℕ) (a : Area) : Type 0 where
  pub from : pos 0 ≤ℤ a.start
  pub to : end_of_area a ≤ℤ pos sectors

-- two areas have no sector in common
abbrev pub AreApart : Area → Area → Type 0
AreApart a b = (end_of_area a ≤ℤ b.start) ⊎ (end_of_area b ≤ℤ a.start)

-- an area whose end is a small number
pub record IsSmall (a : Area) : Type 0 where
  pub low : negsuc (2 ^ 32) ≤ℤ a.start
  pub high : a.start ≤ℤ pos (2 ^ 54)
  pub short : a.sectors ≤ 2 ^ 54

-- an area at an offset from the superblock
abbrev pub from_super : ℤ → ℕ → Area
from_super offset sectors = record { start = pos 8 +ℤ offset; sectors = sectors }

abbrev pub super_area : Area
super_area = from_super (pos 0) 8

abbrev pub data_area : Superblock → Area
data_area v = record { start = pos v.data_offset; sectors = v.data_size }

abbrev pub log_area : Superblock → Area
log_area v = from_super v.bblog_offset v.bblog_size

-- the bitmap, where it takes so many sectors
abbrev pub bitmap_area : Superblock → ℕ → Area
bitmap_area v sectors = from_super v.bitmap_offset sectors

-- There is a bitmap: the feature map has BITMAP_OFFSET.
abbrev pub has_bitmap : Superblock → Bool
has_bitmap v = not (bit_and v.feature_map 1 == 0)

-- The log has entries: the feature map has BAD_BLOCKS.
abbrev pub has_bad_blocks : Superblock → Bool
has_bad_blocks v = not (bit_and v.feature_map 8 == 0)

-- the log, where there is one, is short, on the device and apart from the superblock and the data
pub record LogIsPlaced (sectors : ℕ) (v : Superblock) : Type 0 where
  pub short : v.bblog_size ≤ 8
  pub within : IsWithin sectors (log_area v)
  pub from_super : AreApart super_area (log_area v)
  pub from_data : AreApart (data_area v) (log_area v)

-- An area has no sector in common with the log, where there is one.
abbrev pub IsApartFromLog : Superblock → Area → Type 0
IsApartFromLog v a = has_bad_block_log v ≡ true → AreApart (log_area v) a

-- The bitmap, where it takes so many sectors, is on the device and apart from the superblock, the data and
-- the log.
pub record BitmapIsPlaced (sectors : ℕ) (v : Superblock) (width : ℕ) : Type 0 where
  pub within : IsWithin sectors (bitmap_area v width)
  pub from_super : AreApart super_area (bitmap_area v width)
  pub from_data : AreApart (data_area v) (bitmap_area v width)
  pub from_log : IsApartFromLog v (bitmap_area v width)

-- the areas of a member of a device of so many sectors, whose bitmap takes so many
pub record AreAreasPlaced (sectors : ℕ) (v : Superblock) (width : ℕ) : Type 0 where
  pub some_size : 0 < v.size
  pub data_holds : v.size ≤ v.data_size
  pub data_within : v.data_offset + v.data_size ≤ sectors
  pub data_apart : AreApart super_area (data_area v)
  pub log : has_bad_block_log v ≡ true → LogIsPlaced sectors v
  pub bitmap : has_bitmap v ≡ true → BitmapIsPlaced sectors v width
