-- A new device comes in as a spare: it is laid out, and stands last.
use Rattle.std.specs.Prelude.{◌≡◌, ℕ, ◌^◌, ◌≤◌, true, [], ◌∷◌, ◌++◌, length, slice_get, ⊤, Some, Result, MatchResult}
use Rattle.md_create.specs.declared.params.NewMember.{NewMember}
use Rattle.md_create.specs.Layout.{IsHalfLaidOut, IsLaidOutAs, KeepsOthers, writes_of}
use Rattle.md_create.specs.ReadBack.{IsReadBack}
use Rattle.md_members.specs.Members.{sectors_of_device}
use Rattle.md_model.specs.Events.{Event}
use Rattle.md_members.specs.DeviceWrites.Writes.{DoesWrites, FailsInWrites}
use Rattle.md_kept_members.specs.Spares.{kept_spare}
use Rattle.md_kept_members.specs.View.{MemberView}
use Rattle.md_faults.specs.declared.add_fault.AddFault.{AddFault}
use Rattle.md_faults.specs.declared.add_fault.AddFault.TheVariants.{Halted, TooSmall, Full, EventsFull, WriteFault, NoMemory}
use Rattle.md_state.specs.Steps.Add.{IsSpareOf, MayAdd, RefusesToAdd, added}
use Rattle.md_state.specs.DeviceChanges.{LeavesOn}
use Rattle.md_state.specs.Members.{IsMember}
use Rattle.md_state.specs.View.{Disk, MirrorView, of_disks}
use Rattle.md_array.specs.Events.{Happens}
use Rattle.md_array.specs.Worlds.{stored_of}

-- A device was laid out with this number, and stands last. No other device was used.
pub record LaysOutLast (k : ℕ) (device : Disk) (number : ℕ) (old new : MirrorView) : Type 0 where
  pub last : k ≡ length old.array.members
  pub short : sectors_of_device device.content ≤ 2 ^ 54  -- as long as any device
  pub laid : NewMember
  pub spare : IsSpareOf old.array number (sectors_of_device device.content) laid
  pub readable : IsReadBack laid.superblock  -- no condition: so it is of every superblock that is laid out
  pub now : Disk
  pub writes : DoesWrites of_disks (writes_of laid) device now
  pub outside : KeepsOthers laid device.content now.content
  pub laid_out : device.honest ≡ true → IsLaidOutAs device.content laid now.content
  pub within : device.honest ≡ true → LeavesOn (IsHalfLaidOut device.content laid) device now
  pub array : new.array ≡ added old.array laid
  pub disks : new.disks ≡ old.disks ++ now ∷ []

-- the device may come in, and did
pub record Adds (k : ℕ) (device : Disk) (old new : MirrorView) : Type 0 where
  pub number : ℕ
  pub may : MayAdd old.array (sectors_of_device device.content) number
  pub comes : LaysOutLast k device number old new

-- A write by which the device was to be laid out failed, and none was made after it. The mirror is as before.
pub record FailsToLayOut (device given : Disk) (number : ℕ) (old new : MirrorView) : Type 0 where
  pub unchanged : new ≡ old
  pub laid : NewMember
  pub spare : IsSpareOf old.array number (sectors_of_device device.content) laid
  pub writes : FailsInWrites of_disks (writes_of laid) device given
  pub outside : KeepsOthers laid device.content given.content

abbrev pub RefusesToLayOut : Disk → Disk → ℕ → MirrorView → MirrorView → AddFault → Type 0
RefusesToLayOut device given number old new WriteFault = FailsToLayOut device given number old new
RefusesToLayOut device given number old new NoMemory = (new ≡ old) × (given ≡ device)
RefusesToLayOut device given number old new _ = ⊥

-- the device is handed back as it was given, and is not written
pub record RefusesUnwritten (device given : Disk) (old new : MirrorView) (fault : AddFault) : Type 0 where
  pub unchanged : new ≡ old
  pub untouched : given ≡ device
  pub refused : RefusesToAdd old.array (sectors_of_device device.content) fault

pub record FailsToAdd (device given : Disk) (old new : MirrorView) : Type 0 where
  pub number : ℕ
  pub may : MayAdd old.array (sectors_of_device device.content) number
  pub fails : FailsToLayOut device given number old new

-- Nothing is written. That memory was short is not said.
pub record LacksMemoryToAdd (device given : Disk) (old new : MirrorView) : Type 0 where
  pub unchanged : new ≡ old
  pub untouched : given ≡ device
  pub number : ℕ
  pub may : MayAdd old.array (sectors_of_device device.content) number

abbrev pub RefusesAdd : Disk → Disk → MirrorView → MirrorView → AddFault → Type 0
RefusesAdd device given old new Halted = RefusesUnwritten device given old new Halted
RefusesAdd device given old new TooSmall = RefusesUnwritten device given old new TooSmall
RefusesAdd device given old new Full = RefusesUnwritten device given old new Full
RefusesAdd device given old new EventsFull = RefusesUnwritten device given old new EventsFull
RefusesAdd device given old new WriteFault = FailsToAdd device given old new
RefusesAdd device given old new NoMemory = LacksMemoryToAdd device given old new

-- what is kept of it
abbrev pub kept_of : NewMember → MemberView
kept_of laid = kept_spare laid.superblock laid.header laid.marks

-- the event of the model: what the device holds is by the fields that are kept of it
abbrev pub add_event : (k : ℕ) (device : Disk) (old new : MirrorView) → Adds k device old new → Event
add_event k device old new r = Event.Add r.number (stored_of new.array (kept_of r.comes.laid) r.comes.now.content)

-- By the event the device comes in as it was laid out. What is said of its bytes is said of one that does what it answers.
pub record ComesIn (k : ℕ) (old new : MirrorView) : Type 0 where
  pub number : ℕ
  pub member : MemberView
  pub at : IsMember new.array k member
  pub now : Disk
  pub is : slice_get new.disks k ≡ Some now
  pub happens : Happens old (Event.Add number (stored_of new.array member now.content)) new

abbrev pub AddHappens : Disk → MirrorView → MirrorView → {E : Type 0} → Result ℕ E → Type 0
AddHappens device old new result = MatchResult result (λ k. device.honest ≡ true → ComesIn k old new) (λ _. ⊤)
