-- A mirror as contracts see it: its devices, and what it keeps in memory of the array.
use Rattle.std.specs.Prelude.{ℕ, Bool, List}
use Rattle.md_model.specs.Sectors.{Geometry}
use Rattle.md_device.specs.declared.device.Device.{Ghosts}
use Rattle.md_device.specs.declared.fault_list.Fault.{Fault}
use Rattle.md_super.specs.declared.superblock.Superblock.{Superblock}
use Rattle.md_bitmap.specs.declared.chunks.Chunks.{Chunks}
use Rattle.md_bitmap.specs.Marks.{Bitmap}
use Rattle.md_inflight.specs.Inflight.{InflightList}
use Rattle.md_inflight.specs.declared.requests.extent.Extent.{Extent}
use Rattle.md_kept_members.specs.View.{MemberView}

-- a device: what stands on it, whether it does what it answers, which of its calls have failed and how many, and what crashes
-- within its calls might have left
pub record Disk : Type 0 where
  pub content : List ℕ
  pub honest : Bool
  pub faults : List Fault
  pub failures : ℕ
  pub crashes : List (List ℕ)

abbrev pub disk_of : {D : Type 0} → Ghosts D → D → Disk
disk_of g d = record { content = g.content d; honest = g.honest d; faults = g.faults d; failures = g.failures d; crashes = g.crashes d }

-- a disk is its own view
abbrev pub of_disks : Ghosts Disk
of_disks = record { content = λ d. d.content; honest = λ d. d.honest; faults = λ d. d.faults; failures = λ d. d.failures; crashes = λ d. d.crashes }

-- all that is kept in memory
pub record ArrayView : Type 0 where
  pub members : List MemberView
  pub shared : Superblock  -- the array's fields
  pub chunks : Chunks
  pub marks : Bitmap  -- those in memory
  pub events_cleared : ℕ
  pub resynced : Bool  -- members in sync agree, but where requests are in flight
  pub halted : Bool  -- a failure can't be recorded: no call does anything any more
  pub requests : InflightList Extent  -- those in flight

-- what never changes
abbrev pub geometry_of : ArrayView → Geometry
geometry_of a = record { raid_disks = a.shared.raid_disks; width = a.chunks.sectors; size = a.chunks.size }

-- the devices stand in the order of the members
pub record MirrorView : Type 0 where
  pub disks : List Disk
  pub array : ArrayView
