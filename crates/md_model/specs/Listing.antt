-- The list of a member in sync grows in memory, and then its log is stored (rdev_set_badblocks and super_1_sync in the kernel's md
-- driver; that the log is stored before the superblock, each by a write of its own, is this project's own). What members in sync agree on is
-- said of what their devices list: a list in memory that has more says less.
use Rattle.std.specs.Prelude.{◌≡◌, ℕ, Bool, true, ◌&&◌, ◌||◌, eqb, nat_lt}
use Rattle.md_model.specs.Sectors.{Geometry, chunk_of, put}
use Rattle.md_model.specs.Worlds.{World, IsInSync}

-- note_bad_sectors: these sectors of the array are listed too, in memory alone
abbrev pub noted_bad : Geometry → World → ℕ → (ℕ → Bool) → World
noted_bad g w k more = record w { bad = put k (λ s. w.bad k s || (nat_lt s g.size && more s)) w.bad }

-- note_bad: they are those of a chunk
abbrev pub of_chunk : Geometry → ℕ → ℕ → Bool
of_chunk g c s = eqb (chunk_of g s) c

pub record MayNoteBad (w : World) (k : ℕ) : Type 0 where
  pub in_sync : IsInSync w k
  pub resynced : w.resynced ≡ true

-- store_log: the log is stored, and the superblock is due. Where the feature map has no BAD_BLOCKS the log is
-- not read yet: the list is the one before.
abbrev pub log_stored : World → ℕ → (ℕ → Bool) → World
log_stored w k listed = record w { stored = put k (record (w.stored k) { listed = listed }) w.stored; due = put k true w.due }
