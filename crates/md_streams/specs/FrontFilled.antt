-- The front of a buffer is filled.
use Rattle.std.specs.Prelude.{◌≡◌, ℕ, ◌<◌, ◌≤◌, true, List, length, take}
use Rattle.std.specs.Io.KnownBytes.{Consumes, IsAtEnd}
use Rattle.md_streams.specs.declared.source.Source.{Ghosts as Sources}
use Rattle.md_streams.specs.Source.{Gives}

-- The source gave so many bytes, which stand at the front of the buffer: fewer than there is room for only at its end.
pub record FillsFrontOf {I : Type 0} (i : Sources I) (old new : I) (buf : List ℕ) (n : ℕ) : Type 0 where
  pub few : n ≤ length buf
  pub gives : Gives i.remaining i.failed old new (take n buf)
  pub end : n < length buf → IsAtEnd (i.remaining new)

-- Bytes came, so many at most, and then a call failed that took none.
pub record FailsAfter {I : Type 0} (i : Sources I) (most : ℕ) (old new : I) : Type 0 where
  pub bytes : List ℕ
  pub few : length bytes ≤ most
  pub taken : Consumes (i.remaining old) (i.remaining new) bytes
  pub has_failed : i.failed new ≡ true
