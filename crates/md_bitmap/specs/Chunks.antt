-- The chunks of an array, each covered by one bit of its bitmap (md-bitmap.c). Sizes and places are in sectors.
use Rattle.std.specs.Prelude.{ℕ, ◌+◌, ◌*◌, ◌<◌, ◌≤◌}
use Rattle.std.specs.Int.{div_ceil}

-- what the chunks of an array keep
pub record IsChunking (width size : ℕ) : Type 0 where
  pub some_sectors : 0 < width
  pub few_chunks : div_ceil size width ≤ 1048576

-- chunk c of chunks of so many sectors, in an array of this size, has the sector
pub record InChunk (width size c sector : ℕ) : Type 0 where
  pub from : c * width ≤ sector
  pub below : sector < (c + 1) * width
  pub within : sector < size
