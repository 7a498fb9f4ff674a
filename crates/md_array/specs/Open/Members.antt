-- Devices are read as members, one after another.
use Rattle.std.specs.Prelude.{◌≡◌, ◌≢◌, ℕ, ◌^◌, ◌<◌, ◌≤◌, List, length, slice_get, Some}
use Rattle.md_members.specs.declared.fault.MemberFault.{MemberFault}
use Rattle.md_members.specs.declared.fault.MemberFault.TheVariants as member_fault
use Rattle.md_members.specs.declared.fault.MemberFault.TheVariants.{NoMemory as NoMemoryOfMember}
use Rattle.md_members.specs.declared.info.MemberInfo.{MemberInfo}
use Rattle.md_members.specs.Members as members
use Rattle.md_members.specs.Reading.{CallFails}
use Rattle.md_device.specs.declared.fault_list.Fault.{Fault}
use Rattle.md_state.specs.View.{Disk, of_disks}
use Rattle.md_state.specs.DiskWrites.{AtDevice}
use Rattle.md_array.specs.declared.fault.OpenFault.{OpenFault}
use Rattle.md_array.specs.declared.fault.OpenFault.TheVariants.{Member, NoMemory}

-- each device was read as a member
pub record AreRead (disks : List Disk) (infos : List MemberInfo) : Type 0 where
  pub as_many : length infos ≡ length disks
  pub each : (k : ℕ) (d : Disk) (info : MemberInfo) → slice_get disks k ≡ Some d → slice_get infos k ≡ Some info → members.IsReadMember d.content d.honest info
  pub short : (k : ℕ) (d : Disk) → slice_get disks k ≡ Some d → members.sectors_of_device d.content ≤ 2 ^ 54  -- as long as any device

-- a call of device k failed that has P
abbrev pub CallFailsAt : List Disk → List Disk → ℕ → (Fault → Type 0) → Type 0
CallFailsAt before after k P = AtDevice k before after (λ d e. CallFails of_disks d e P)

-- device k is not read as a member for this reason, and all before it are. At `ReadFault` a read failed of its superblock, its
-- bitmap or its log.
pub record RefusesDeviceRead (before after : List Disk) (k : ℕ) (fault : MemberFault) : Type 0 where
  pub disk : Disk
  pub is : slice_get before k ≡ Some disk
  pub refused : members.RefusesMember disk.content disk.honest (CallFailsAt before after k) fault
  pub memory : fault ≢ member_fault.NoMemory
  pub earlier : (j : ℕ) (d : Disk) → j < k → slice_get before j ≡ Some d → (info : MemberInfo) × members.IsReadMember d.content d.honest info

-- the fault of opening, where device k is not read as a member for this reason
abbrev pub open_fault_of : ℕ → MemberFault → OpenFault
open_fault_of k NoMemoryOfMember = NoMemory
open_fault_of k fault = Member k fault

-- why reading them all ends
abbrev pub RefusesReading : List Disk → List Disk → OpenFault → Type 0
RefusesReading before after (Member k fault) = RefusesDeviceRead before after k fault
RefusesReading before after NoMemory = Unit {0}
RefusesReading before after _ = ⊥
