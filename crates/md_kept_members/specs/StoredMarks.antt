-- The marks that are kept of a member once a sector of its bitmap is stored.
use Rattle.std.specs.Prelude.{◌≡◌, ℕ, cond, ◌&&◌, eqb, nat_lt}
use Rattle.md_model.specs.Sectors.{block_of}
use Rattle.md_bitmap.specs.Marks.{Bitmap, is_set}

-- The marks of the sector's chunks are those of memory, the others are as before.
pub record HasStored (marks old : Bitmap) (block : ℕ) (new : Bitmap) : Type 0 where
  pub chunks : new.chunks ≡ old.chunks
  pub bits : (c : ℕ) → is_set new.bytes c ≡ cond (eqb (block_of c) block && nat_lt c old.chunks) (is_set marks.bytes c) (is_set old.bytes c)
