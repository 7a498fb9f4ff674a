-- The write of a member's superblock.
use Rattle.std.specs.Prelude.{◌≡◌, ℕ, length}
use Rattle.md_super.specs.declared.superblock.Superblock.{Superblock}
use Rattle.md_super.specs.Encoding.{super_bytes}
use Rattle.md_super.specs.Faults.{NoSuperFault}
use Rattle.md_super.specs.Format.{IsSuper}
use Rattle.md_super.specs.Merge.{merged}
use Rattle.md_members.specs.DeviceWrites.Writes.{Write}
use Rattle.md_kept_members.specs.View.{MemberView}

-- the array's fields and the member's own, at sector 8
abbrev pub own_write : Superblock → Superblock → Write
own_write shared own = record { sector = 8; bytes = super_bytes (merged shared own) }

abbrev pub write_of : Superblock → MemberView → Write
write_of shared m = own_write shared m.superblock

-- a reader of the bytes that are written for a superblock finds its fields in them, and no fault
pub record IsReadable (v : Superblock) : Type 0 where
  pub size : length (super_bytes v) ≡ 4096
  pub sum : ℕ  -- the checksum in them
  pub fields : IsSuper (super_bytes v) (record v { sb_csum = sum })
  pub sound : NoSuperFault (super_bytes v)
