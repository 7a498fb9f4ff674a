-- Where the parts of a new member stand on its device, in sectors (this project's own): the superblock at 8, the bitmap at
-- 16, the bad block log at 2032, the data from 2048 on.
use Rattle.std.specs.Prelude.{◌≡◌, ◌<◌, ◌≤◌, pos}
use Rattle.md_super.specs.declared.superblock.Superblock.{Superblock}
use Rattle.md_bitmap.specs.declared.header.BitmapHeader.{BitmapHeader}
use Rattle.md_bitmap.specs.Marks.{Bitmap}
use Rattle.md_bitmap.specs.Sound.{chunk_count}

-- the superblock names these places, and lists no bad blocks
pub record HasNewPlaces (v : Superblock) : Type 0 where
  pub feature_map : v.feature_map ≡ 1
  pub bitmap_offset : v.bitmap_offset ≡ pos 8
  pub bblog_offset : v.bblog_offset ≡ pos 2024
  pub bblog_shift : v.bblog_shift ≡ 0
  pub bblog_size : v.bblog_size ≡ 8
  pub data_offset : v.data_offset ≡ 2048
  pub some_size : 0 < v.size
  pub data_holds : v.size ≤ v.data_size

-- a new member's parts fit one another: its bitmap has a bit for each chunk of the array
pub record IsNew (v : Superblock) (h : BitmapHeader) (m : Bitmap) : Type 0 where
  pub places : HasNewPlaces v
  pub sync_size : h.sync_size ≡ v.size
  pub chunks : m.chunks ≡ chunk_count h.sync_size h.chunksize
