-- A device that left is taken back in its former role (super_1_validate and hot_add_disk in the kernel's md driver, which let it by
-- events_cleared; the other conditions and their order are this project's own).
use Rattle.std.specs.Prelude.{◌≡◌, ◌⊎◌, ℕ, ◌≤◌, ◌<◌, true, false, Some}
use Rattle.md_super.specs.declared.superblock.Superblock.{Superblock}
use Rattle.md_bitmap.specs.declared.header.BitmapHeader.{BitmapHeader}
use Rattle.md_bitmap.specs.Marks.{Bitmap, is_set}
use Rattle.md_members.specs.Members.{IsAccepted}
use Rattle.md_members.specs.declared.info.MemberInfo.{MemberInfo}
use Rattle.md_assembly.specs.States.{is_stale, state_of}
use Rattle.md_kept_members.specs.TakingBack.{IsKeptTakenBack, own_role}
use Rattle.md_kept_members.specs.View.{MemberView}
use Rattle.md_faults.specs.declared.re_add_fault.ReAddFault.{ReAddFault}
use Rattle.md_faults.specs.declared.re_add_fault.ReAddFault.TheVariants.{Halted, Member, Full, NotReAddable, NoRole, EventsFull, WriteFault, NoMemory}
use Rattle.md_kept_members.specs.Membership.FormerMember.{IsOfArray, LeftItsRole, has_newcomer}
use Rattle.md_kept_members.specs.Membership.Roles.{is_taken}
use Rattle.md_state.specs.Steps.NoteJoined.{HasMostMembers, joined}
use Rattle.md_state.specs.Steps.Rise.{HasSpentEvents}
use Rattle.md_state.specs.View.{ArrayView}

-- A device left when the array had no more events than now, and marks were last cleared no later than that.
pub record LeftInTime (a : ArrayView) (v : Superblock) : Type 0 where
  pub late : a.events_cleared ≤ v.events
  pub no_newer : v.events ≤ a.shared.events

-- A device is of this array, has a bitmap, left its role, and left in time.
pub record IsReAddable (a : ArrayView) (info : MemberInfo) : Type 0 where
  pub header : BitmapHeader
  pub has_header : info.header ≡ Some header
  pub of_array : IsOfArray a.shared a.chunks.sectors info.superblock header
  pub role : LeftItsRole a.shared a.members info.superblock
  pub in_time : LeftInTime a info.superblock

-- A device may be taken back.
pub record MayReAdd (a : ArrayView) (info : MemberInfo) : Type 0 where
  pub room : HasMostMembers a → ⊥
  pub fits : IsReAddable a info
  pub free : is_taken a.members (own_role info.superblock) ≡ false
  pub unspent : HasSpentEvents a → ⊥

-- Nothing tells that marks were cleared on the device alone since it left, or in the array without it. (events_cleared of md-bitmap.h is the
-- count at which the array was last full, when marks are cleared. The kernel's recovery of another device clears marks and leaves it.)
pub record HasNoOtherClearing (a : ArrayView) (v : Superblock) (h : BitmapHeader) : Type 0 where
  pub cleared : h.events_cleared ≤ a.events_cleared  -- less where the array's count was stored after the device left
  pub no_copy : is_stale (state_of a.shared v) ≡ false  -- the array has not gone on with it: it is no older copy of its device
  -- No device has come in that may have had its role, and has failed or is not here. By its superblock each member in sync is in its role, too
  -- (`knows_members` in md_model).
  pub no_newcomer : has_newcomer a.shared v ≡ false

-- A device's bitmap is accepted, and each chunk that it marks is marked in the array. Marks were not cleared
-- on one of the two alone. So nothing tells that the device was written to alone since it left.
pub record HasNoOtherMarks (a : ArrayView) (info : MemberInfo) : Type 0 where
  pub header : BitmapHeader
  pub has_header : info.header ≡ Some header
  pub accepted : IsAccepted info.superblock header
  pub cleared : HasNoOtherClearing a info.superblock header
  pub marks : Bitmap
  pub has_marks : info.marks ≡ Some marks
  pub among : (c : ℕ) → c < a.marks.chunks → is_set marks.bytes c ≡ true → is_set a.marks.bytes c ≡ true

-- A device that has no other marks lacks the marked chunks alone: its offset is the array's size. One that
-- was used elsewhere since it left lacks every chunk: its offset is 0.
abbrev pub IsOffsetBack : ArrayView → MemberInfo → ℕ → Type 0
IsOffsetBack a info offset = (HasNoOtherMarks a info × (offset ≡ a.chunks.size)) ⊎ ((HasNoOtherMarks a info → ⊥) × (offset ≡ 0))

-- the array with it
pub record TakesBack (info : MemberInfo) (old new : ArrayView) : Type 0 where
  pub may : MayReAdd old info
  pub member : MemberView
  pub offset : ℕ
  pub offset_is : IsOffsetBack old info offset
  pub taken : IsKeptTakenBack offset info member
  pub array : new ≡ joined old member (own_role info.superblock)

-- no role is free for it
pub record HasNoFreeRole (a : ArrayView) (info : MemberInfo) : Type 0 where
  pub room : HasMostMembers a → ⊥
  pub fits : IsReAddable a info
  pub taken : is_taken a.members (own_role info.superblock) ≡ true

-- the count has to rise, and can't
pub record CannotCountReAdd (a : ArrayView) (info : MemberInfo) : Type 0 where
  pub room : HasMostMembers a → ⊥
  pub fits : IsReAddable a info
  pub free : is_taken a.members (own_role info.superblock) ≡ false
  pub spent : HasSpentEvents a

-- why a device that was read is refused, before anything is written
abbrev pub RefusesToTakeBack : ArrayView → MemberInfo → ReAddFault → Type 0
RefusesToTakeBack a info Full = HasMostMembers a
RefusesToTakeBack a info NotReAddable = (HasMostMembers a → ⊥) × (IsReAddable a info → ⊥)
RefusesToTakeBack a info NoRole = HasNoFreeRole a info
RefusesToTakeBack a info EventsFull = CannotCountReAdd a info
RefusesToTakeBack a info Halted = ⊥
RefusesToTakeBack a info (Member fault) = ⊥
RefusesToTakeBack a info WriteFault = ⊥
RefusesToTakeBack a info NoMemory = ⊥
