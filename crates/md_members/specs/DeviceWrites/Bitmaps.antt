-- The writes that store a bitmap.
use Rattle.std.specs.Prelude.{ℕ, ◌+◌, ◌-◌, ◌*◌, List, [], ◌∷◌, ◌++◌, map, drop, min, reverse}
use Rattle.std.specs.Int.{div_ceil}
use Rattle.std.specs.List.{range_with_len}
use Rattle.md_bitmap.specs.declared.header.BitmapHeader.{BitmapHeader}
use Rattle.md_bitmap.specs.Marks.{Bitmap, padded}
use Rattle.md_bitmap.specs.Sectors.{bitmap_bytes, bitmap_sector}
use Rattle.md_members.specs.DeviceWrites.Writes.{Write}

-- sector i of a bitmap, after the sector where the bitmap starts
abbrev pub bitmap_write : ℕ → BitmapHeader → Bitmap → ℕ → Write
bitmap_write start h m i = record { sector = start + i; bytes = bitmap_sector h m i }

-- so many sectors from the one numbered `first` on, by one write
abbrev pub sectors_write : ℕ → BitmapHeader → Bitmap → ℕ → ℕ → Write
sectors_write start h m first count = record { sector = start + first; bytes = padded (512 * count) (drop (512 * first) (bitmap_bytes h m)) }

-- The sectors after the first go in runs of 128, which are 64 KiB. Of a bitmap of n sectors run k has so many, the last run
-- perhaps fewer.
abbrev pub run_sectors : ℕ → ℕ → ℕ
run_sectors n k = min 128 (n - (1 + 128 * k))

abbrev pub runs_of : ℕ → ℕ
runs_of n = div_ceil (n - 1) 128

abbrev pub bitmap_run : ℕ → BitmapHeader → Bitmap → ℕ → ℕ → Write
bitmap_run start h m n k = sectors_write start h m (1 + 128 * k) (run_sectors n k)

-- the first of the runs, the last one first
abbrev pub bitmap_runs : ℕ → BitmapHeader → Bitmap → ℕ → ℕ → List Write
bitmap_runs start h m n runs = map (bitmap_run start h m n) (reverse (range_with_len 0 runs))

-- A bitmap of n sectors: all its runs, and then its first sector alone. So the header is written last.
abbrev pub bitmap_writes : ℕ → BitmapHeader → Bitmap → ℕ → List Write
bitmap_writes start h m n = bitmap_runs start h m n (runs_of n) ++ bitmap_write start h m 0 ∷ []
