-- A bitmap in sectors of 512 bytes, as it stands on a device (md-bitmap.h).
use Rattle.std.specs.Prelude.{ℕ, ◌+◌, ◌*◌, List, ◌++◌, drop}
use Rattle.std.specs.Int.{div_ceil}
use Rattle.md_bitmap.specs.declared.header.BitmapHeader.{BitmapHeader}
use Rattle.md_bitmap.specs.Header.{header_bytes}
use Rattle.md_bitmap.specs.Marks.{Bitmap, padded}

-- the least number of sectors that holds a header of 256 bytes and a bit for each chunk
abbrev pub bitmap_sectors : ℕ → ℕ
bitmap_sectors chunks = div_ceil (256 + div_ceil chunks 8) 512

-- the header's bytes, and the bits after them
abbrev pub bitmap_bytes : BitmapHeader → Bitmap → List ℕ
bitmap_bytes h m = header_bytes h ++ m.bytes

-- sector i, with zeros where the bits end
abbrev pub bitmap_sector : BitmapHeader → Bitmap → ℕ → List ℕ
bitmap_sector h m i = padded 512 (drop (512 * i) (bitmap_bytes h m))
