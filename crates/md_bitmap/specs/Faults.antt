-- Why bytes are no header of a bitmap, and in which order that is found.
use Rattle.std.specs.Prelude.{◌≢◌, ℕ, ◌<◌, ◌==◌, ◌&&◌, nat_le, List, [], ◌∷◌, Option}
use Rattle.std.specs.Int.{is_power_of_two}
use Rattle.md_format.specs.Fields.{number_at}
use Rattle.md_format.specs.FirstFault.{NoneBefore, check, first_fault}
use Rattle.md_bitmap.specs.Sound.{IsChunkSize, chunk_count}
use Rattle.md_bitmap.specs.declared.fault.BitmapFault.{BitmapFault}
use Rattle.md_bitmap.specs.declared.fault.BitmapFault.TheVariants.{Magic, Version, ChunkSize, TooManyChunks}

-- the fault stands in the bytes
abbrev pub BitmapFaultStands : List ℕ → BitmapFault → Type 0
BitmapFaultStands bytes Magic = number_at 4 0 bytes ≢ 0x6d746962
BitmapFaultStands bytes Version = number_at 4 4 bytes ≢ 4
BitmapFaultStands bytes ChunkSize = IsChunkSize (number_at 4 52 bytes) → ⊥
BitmapFaultStands bytes TooManyChunks = 1048576 < chunk_count (number_at 8 40 bytes) (number_at 4 52 bytes)

-- the place of a fault in the order in which they are looked for
abbrev pub bitmap_fault_place : BitmapFault → ℕ
bitmap_fault_place Magic = 1
bitmap_fault_place Version = 2
bitmap_fault_place ChunkSize = 3
bitmap_fault_place TooManyChunks = 4

-- no fault stands
abbrev pub NoneStands : List ℕ → Type 0
NoneStands bytes = NoneBefore (BitmapFaultStands bytes) bitmap_fault_place 5

-- the first fault, found by tests
unfoldable pub bitmap_fault_of : List ℕ → Option BitmapFault
bitmap_fault_of bytes =
    first_fault (
    check (number_at 4 0 bytes == 0x6d746962) Magic
    ∷ check (number_at 4 4 bytes == 4) Version
    ∷ check (is_power_of_two (number_at 4 52 bytes) && nat_le 512 (number_at 4 52 bytes)) ChunkSize
    ∷ check (nat_le (chunk_count (number_at 8 40 bytes) (number_at 4 52 bytes)) 1048576) TooManyChunks
    ∷ [])
