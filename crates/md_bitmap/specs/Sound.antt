-- What md-bitmap.c demands of the numbers of a bitmap's header.
use Rattle.std.specs.Prelude.{◌≤◌, ◌*◌, ℕ, IsTrue}
use Rattle.std.specs.Int.{div_ceil, is_power_of_two}

-- a chunk's bytes: a power of two, and at least a sector
pub record IsChunkSize (bytes : ℕ) : Type 0 where
  pub power : IsTrue (is_power_of_two bytes)
  pub least : 512 ≤ bytes

-- how many chunks of so many bytes cover so many sectors
abbrev pub chunk_count : ℕ → ℕ → ℕ
chunk_count sync_size chunksize = div_ceil (sync_size * 512) chunksize

-- what every header keeps
pub record IsSoundHeader (sync_size chunksize : ℕ) : Type 0 where
  pub chunk_size : IsChunkSize chunksize
  pub few_chunks : chunk_count sync_size chunksize ≤ 1048576
