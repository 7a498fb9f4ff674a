-- The bad block log that a superblock names.
use Rattle.std.specs.Prelude.{Bool, not, ◌&&◌, ◌==◌, pos}
use Rattle.std.specs.Ordering.{int_eq}
use Rattle.md_super.specs.declared.superblock.Superblock.{Superblock}

-- there is one: neither its size nor its offset is 0
abbrev pub has_bad_block_log : Superblock → Bool
has_bad_block_log v = not (v.bblog_size == 0) && not (int_eq v.bblog_offset (pos 0))
