-- Devices that belong to an array, by their own superblocks.
use Rattle.std.specs.Prelude.{◌≡◌, true}
use Rattle.md_super.specs.declared.superblock.Superblock.{Superblock}
use Rattle.md_assembly.specs.States.{is_in_sync, state_of}

-- the device is of the array, and in sync there
pub record IsForgotten (freshest own : Superblock) : Type 0 where
  pub set : own.set_uuid ≡ freshest.set_uuid
  pub in_sync : is_in_sync (state_of freshest own) ≡ true
