-- A device that left is taken back: it is read as a member, and then its superblock is written.
use Rattle.std.specs.Prelude.{◌≡◌, ◌≢◌, ◌⊎◌, ℕ, ◌^◌, ◌<◌, ◌≤◌, true, false, [], ◌∷◌, ◌++◌, length, slice_get, ⊤, Some, Result, MatchResult}
use Rattle.md_members.specs.declared.fault.MemberFault.{MemberFault}
use Rattle.md_members.specs.declared.fault.MemberFault.TheVariants as member_fault
use Rattle.md_members.specs.declared.info.MemberInfo.{MemberInfo}
use Rattle.md_members.specs.Members as members
use Rattle.md_members.specs.Reading.{CallFails}
use Rattle.md_super.specs.Merge.{merged}
use Rattle.md_model.specs.Devices.{Super}
use Rattle.md_model.specs.Events.{Event}
use Rattle.md_kept_members.specs.TakingBack.{IsKeptTakenBack, own_role}
use Rattle.md_kept_members.specs.View.{MemberView}
use Rattle.md_faults.specs.declared.re_add_fault.ReAddFault.{ReAddFault}
use Rattle.md_faults.specs.declared.re_add_fault.ReAddFault.TheVariants.{Halted, Member, Full, NotReAddable, NoRole, EventsFull, WriteFault, NoMemory}
use Rattle.md_kept_members.specs.Membership.Joining.{joined_shared}
use Rattle.md_kept_members.specs.OnDevices.Superblocks.{IsReadable, write_of}
use Rattle.md_state.specs.DeviceChanges.{IsLeftAlone, StaysHonest}
use Rattle.md_state.specs.DiskWrites.{IsFailed, IsWritten}
use Rattle.md_state.specs.Members.{IsMember}
use Rattle.md_state.specs.Steps.ReAdd.{IsOffsetBack, MayReAdd, RefusesToTakeBack, TakesBack}
use Rattle.md_state.specs.Trying.{Refuses}
use Rattle.md_state.specs.View.{Disk, MirrorView, of_disks}
use Rattle.md_array.specs.Events.{Happens}
use Rattle.md_array.specs.Steps.Record.{super_write}
use Rattle.md_array.specs.Worlds.{block_on, stored_of, super_in, super_of}

-- nothing was written on a device, but some of its reads may have failed
abbrev pub IsOnlyRead : Disk → Disk → Type 0
IsOnlyRead before after = IsLeftAlone before after × StaysHonest before after

-- The superblock of the device, as the reading left it, was written once, as the mirror keeps it, and the device stands last.
pub record RecordsLast (k : ℕ) (device : Disk) (info : MemberInfo) (old new : MirrorView) : Type 0 where
  pub last : k ≡ length old.array.members
  pub short : members.sectors_of_device device.content ≤ 2 ^ 54  -- as long as any device
  pub takes : TakesBack info old.array new.array
  pub readable : IsReadable (merged new.array.shared takes.member.superblock)  -- no condition: so it is of every superblock that is kept
  pub now : Disk
  pub written : IsWritten 0 (super_write new.array takes.member) (device ∷ []) (now ∷ [])
  pub disks : new.disks ≡ old.disks ++ now ∷ []

-- A device was read as a member that may be taken back, and was.
pub record ReAdds (k : ℕ) (device : Disk) (old new : MirrorView) : Type 0 where
  pub running : old.array.halted ≡ false
  pub info : MemberInfo
  pub read : members.IsReadMember device.content device.honest info
  pub after_reading : Disk
  pub only_read : IsOnlyRead device after_reading
  pub unfailing : after_reading.failures ≡ device.failures  -- no read is tried again
  pub recorded : RecordsLast k after_reading info old new

-- the write of its superblock fails, and the mirror is as before
pub record FailsToRecordLast (device handed_back : Disk) (info : MemberInfo) (old new : MirrorView) : Type 0 where
  pub unchanged : new ≡ old
  pub member : MemberView
  pub offset : ℕ
  pub offset_is : IsOffsetBack old.array info offset
  pub taken : IsKeptTakenBack offset info member
  pub failed : IsFailed 0 (write_of (joined_shared old.array.shared old.array.members member.superblock.dev_number (own_role info.superblock)) member) (device ∷ []) (handed_back ∷ [])

abbrev pub RefusesToRecordLast : Disk → Disk → MemberInfo → MirrorView → MirrorView → ReAddFault → Type 0
RefusesToRecordLast device handed_back info old new WriteFault = FailsToRecordLast device handed_back info old new
RefusesToRecordLast device handed_back info old new NoMemory = (new ≡ old) × (handed_back ≡ device)
RefusesToRecordLast device handed_back info old new _ = ⊥

pub record FailsToReAdd (device handed_back : Disk) (old new : MirrorView) : Type 0 where
  pub running : old.array.halted ≡ false
  pub info : MemberInfo
  pub read : members.IsReadMember device.content device.honest info
  pub may : MayReAdd old.array info
  pub after_reading : Disk
  pub only_read : IsOnlyRead device after_reading
  pub unfailing : after_reading.failures ≡ device.failures
  pub fails : FailsToRecordLast after_reading handed_back info old new

-- the answer where a device is not read as a member
abbrev pub unread_as : MemberFault → ReAddFault
unread_as member_fault.NoMemory = NoMemory
unread_as fault = Member fault

-- A device is not taken back, as it is not read as a member.
pub record RefusesDevice (device handed_back : Disk) (old new : MirrorView) (fault : MemberFault) : Type 0 where
  pub running : old.array.halted ≡ false
  pub unchanged : new ≡ old
  pub only_read : IsOnlyRead device handed_back
  pub unfailing : fault ≢ member_fault.ReadFault → handed_back.failures ≡ device.failures
  pub refused : members.RefusesMember device.content device.honest (CallFails of_disks device handed_back) fault
  pub memory : fault ≢ member_fault.NoMemory

-- A device was read as a member that may not be taken back.
pub record RefusesInfo (device handed_back : Disk) (old new : MirrorView) (fault : ReAddFault) : Type 0 where
  pub running : old.array.halted ≡ false
  pub unchanged : new ≡ old
  pub only_read : IsOnlyRead device handed_back
  pub unfailing : handed_back.failures ≡ device.failures
  pub info : MemberInfo
  pub read : members.IsReadMember device.content device.honest info
  pub refused : RefusesToTakeBack old.array info fault

-- A device is read as a member that may be taken back.
abbrev pub MayComeBack : Disk → MirrorView → Type 0
MayComeBack device old = (info : MemberInfo) × members.IsReadMember device.content device.honest info × MayReAdd old.array info

-- Nothing is written: there was no memory to read it, or it may come back. That memory was short is not said.
pub record LacksMemoryToReAdd (device handed_back : Disk) (old new : MirrorView) : Type 0 where
  pub running : old.array.halted ≡ false
  pub unchanged : new ≡ old
  pub only_read : IsOnlyRead device handed_back
  pub unfailing : handed_back.failures ≡ device.failures
  pub reason : members.RefusesMember device.content device.honest (CallFails of_disks device handed_back) member_fault.NoMemory ⊎ MayComeBack device old

-- The fault, and what it says of the device that is handed back.
abbrev pub RefusesReAdd : Disk → Disk → MirrorView → MirrorView → ReAddFault → Type 0
RefusesReAdd device handed_back old new Halted = Refuses old new (old.array.halted ≡ true) × (handed_back ≡ device)
RefusesReAdd device handed_back old new (Member fault) = RefusesDevice device handed_back old new fault
RefusesReAdd device handed_back old new Full = RefusesInfo device handed_back old new Full
RefusesReAdd device handed_back old new NotReAddable = RefusesInfo device handed_back old new NotReAddable
RefusesReAdd device handed_back old new NoRole = RefusesInfo device handed_back old new NoRole
RefusesReAdd device handed_back old new EventsFull = RefusesInfo device handed_back old new EventsFull
RefusesReAdd device handed_back old new WriteFault = FailsToReAdd device handed_back old new
RefusesReAdd device handed_back old new NoMemory = LacksMemoryToReAdd device handed_back old new

-- the event of the model: what the device had, and has, is by the fields that are kept of it
abbrev pub re_add_event : (k : ℕ) (device : Disk) (old new : MirrorView) → ReAdds k device old new → Event
re_add_event k device old new r =
    let m : MemberView = r.recorded.takes.member in
    Event.ReAdd (super_of r.info.superblock) m.offset (stored_of new.array m device.content) (stored_of new.array m r.recorded.now.content)

-- By the event the device comes in as it was read, with its superblock written and nothing else changed. What is said of its bytes is
-- said of one that does what it answers.
pub record ComesBackReAdded (k : ℕ) (device : Disk) (old new : MirrorView) : Type 0 where
  pub own : Super
  pub was : super_in (block_on device.content) ≡ Some own
  pub member : MemberView
  pub at : IsMember new.array k member
  pub now : Disk
  pub is : slice_get new.disks k ≡ Some now
  pub happens : Happens old (Event.ReAdd own member.offset (stored_of new.array member device.content) (stored_of new.array member now.content)) new

abbrev pub ReAddHappens : Disk → MirrorView → MirrorView → {E : Type 0} → Result ℕ E → Type 0
ReAddHappens device old new result = MatchResult result (λ k. device.honest ≡ true → ComesBackReAdded k device old new) (λ _. ⊤)
