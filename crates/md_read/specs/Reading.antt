-- Sectors of the array are read from its members (read_balance and raid1_read_request of raid1.c in the kernel's md driver). As there,
-- write-mostly members come last; else which member is read is this project's own.
use Rattle.std.specs.Prelude.{◌≡◌, ◌⊎◌, ⊤, ℕ, ◌+◌, ◌*◌, ◌-◌, ◌/◌, ◌%◌, ◌<◌, ◌≤◌, ◌&&◌, nat_le, Bool, true, false, List, [], ◌∷◌, ◌++◌, length, take, Option}
use Rattle.std.specs.List.{concat}
use Rattle.md_badblocks.specs.declared.run.Run.{Run}
use Rattle.md_device.specs.Device.{held}
use Rattle.md_device.specs.declared.fault_list.Fault.{Fault}
use Rattle.md_device.specs.Failing.{SomeNewFault, failed_read}
use Rattle.md_model.specs.Content.{Content, HoldsAtRest}
use Rattle.md_model.specs.Worlds.{IsQuiet, Request}
use Rattle.md_kept_members.specs.OwnFields.{is_write_mostly}
use Rattle.md_kept_members.specs.View.{MemberView}
use Rattle.md_assembly.specs.States.{is_in_sync_as}
use Rattle.md_state.specs.Steps.Begin.{IsInRange, IsOutOfRange}
use Rattle.md_state.specs.Steps.CopyData.{Lists}
use Rattle.md_state.specs.DiskWrites.{AtDevice}
use Rattle.md_state.specs.Members.{AllInSync, IsInSync, IsMember}
use Rattle.md_state.specs.Steps.ReadData.{HoldsData}
use Rattle.md_state.specs.Requests.{AreInFlight}
use Rattle.md_state.specs.Rests.{Rests}
use Rattle.md_state.specs.View.{ArrayView, MirrorView, geometry_of}
use Rattle.md_state.specs.Trying.{Refuses, RefusesHalted}
use Rattle.md_array.specs.Worlds.{AreHonest, world_of}
use Rattle.md_read.specs.declared.fault.UnreadFault.{UnreadFault}
use Rattle.md_read.specs.declared.fault.UnreadFault.TheVariants.{Halted, NotResynced, OutOfRange, Unreadable}
use Rattle.md_read.specs.declared.roles.Answer.{Answer}
use Rattle.md_read.specs.declared.roles.Answer.TheVariants as answer

pub record IsInRole (a : ArrayView) (role k : ℕ) : Type 0 where
  pub member : MemberView
  pub at : IsMember a k member
  pub in_sync : is_in_sync_as role member.state ≡ true

abbrev pub HasRole : ArrayView → ℕ → Type 0
HasRole a role = (k : ℕ) × IsInRole a role k

-- a read of these sectors of the array on the device of this member, and of no others
abbrev pub IsReadOfMember : MemberView → ℕ → ℕ → Fault → Type 0
IsReadOfMember m sector sectors f = f ≡ failed_read (m.superblock.data_offset + sector) (512 * sectors)

-- A read of member k's device failed, which was of these sectors of the array.
abbrev pub HasReadFailed : ℕ → ℕ → ℕ → MirrorView → MirrorView → Type 0
HasReadFailed k sector sectors old new =
    AtDevice k old.disks new.disks (λ d e. (d.honest ≡ true → d.failures < e.failures)
    × ((m : MemberView) → IsMember old.array k m → SomeNewFault d.faults e.faults (IsReadOfMember m sector sectors)))

-- Of the calls of member k's device one failed, and no other: the read of these sectors of the array.
abbrev pub FailsThisReadAlone : ℕ → ℕ → ℕ → MirrorView → MirrorView → Type 0
FailsThisReadAlone k sector sectors old new =
    AtDevice k old.disks new.disks (λ d e. (m : MemberView) → IsMember old.array k m
    → e.faults ≡ d.faults ++ failed_read (m.superblock.data_offset + sector) (512 * sectors) ∷ [])

-- Member k, which is m, did not give the sector s when it was asked for so many sectors from another on: it lists s, or their read failed.
abbrev pub HasNotGiven : ℕ → MemberView → ℕ → ℕ → ℕ → MirrorView → MirrorView → Type 0
HasNotGiven k m s sector sectors old new = Lists m s ⊎ HasReadFailed k sector sectors old new

-- No member in sync gave the sector s when these were asked for.
abbrev pub NoneGivesOf : ℕ → ℕ → ℕ → MirrorView → MirrorView → Type 0
NoneGivesOf s sector sectors old new = (k : ℕ) (m : MemberView) → IsInSync old.array k m → HasNotGiven k m s sector sectors old new

-- No member in sync gave the sector: each lists it, or a read of it alone failed.
abbrev pub NoneGives : ℕ → MirrorView → MirrorView → Type 0
NoneGives s old new = NoneGivesOf s s 1 old new

-- The order of reading, by whether members are write-mostly, and by role: those that are not come first, and in each group the lowest role.
abbrev pub IsAskedBefore : Bool → ℕ → Bool → ℕ → Type 0
IsAskedBefore false earlier true role = ⊤
IsAskedBefore true earlier false role = ⊥
IsAskedBefore false earlier false role = earlier < role
IsAskedBefore true earlier true role = earlier < role

-- both are in sync, and the one comes before the other in the order of reading
pub record IsBefore (m n : MemberView) : Type 0 where
  pub role : ℕ
  pub other : ℕ
  pub in_sync : is_in_sync_as role m.state ≡ true
  pub other_in_sync : is_in_sync_as other n.state ≡ true
  pub asked_before : IsAskedBefore (is_write_mostly m.superblock) role (is_write_mostly n.superblock) other

-- ---- sectors that were given
-- The member in the role gave these sectors, and lists none of them.
pub record GivesIn (role sector : ℕ) (bytes : List ℕ) (old new : MirrorView) : Type 0 where
  pub from : ℕ
  pub is : IsInRole old.array role from
  pub unlisted : (s : ℕ) → sector ≤ s → s < sector + length bytes / 512 → Lists is.member s → ⊥
  pub holds : HoldsData old from sector bytes

-- A run of sectors was given by the member in a role, which lists none of them. While the run was asked for,
-- no member before it in the order of reading gave any of them.
pub record GivesRun (sector : ℕ) (run : List ℕ) (old new : MirrorView) : Type 0 where
  pub rests : Rests old new
  pub whole : length run % 512 ≡ 0
  pub role : ℕ
  pub gives : GivesIn role sector run old new
  pub earlier : (k : ℕ) (m : MemberView) → IsMember old.array k m → IsBefore m gives.is.member
      → (s : ℕ) → sector ≤ s → s < sector + length run / 512 → HasNotGiven k m s sector (length run / 512) old new

-- Runs one after another: a read that failed for one of them is none that failed for another.
abbrev pub GivesInTurn : ℕ → List (List ℕ) → MirrorView → MirrorView → Type 0
GivesInTurn sector [] old new = Rests old new
GivesInTurn sector (run ∷ runs) old new =
    (mid : MirrorView) × GivesRun sector run old mid × GivesInTurn (sector + length run / 512) runs mid new

-- These bytes were given, run by run.
pub record GivesSectors (sector : ℕ) (bytes : List ℕ) (old new : MirrorView) : Type 0 where
  pub runs : List (List ℕ)
  pub joined : bytes ≡ concat runs
  pub in_turn : GivesInTurn sector runs old new

-- ---- what a read gives
pub record MayReadAt (a : ArrayView) (sector sectors : ℕ) : Type 0 where
  pub running : a.halted ≡ false
  pub range : IsInRange a sector sectors
  pub resynced : a.resynced ≡ true

-- Where devices do what they answer, and the members in sync hold a content at rest, these are its bytes in each sector that no
-- request in flight touches.
abbrev pub AreOfContent : ℕ → List ℕ → MirrorView → Type 0
AreOfContent sector bytes v =
    AreHonest v.disks → (requests : ℕ → Option Request) → AreInFlight v.array requests → (a : Content) → HoldsAtRest (geometry_of v.array) a (world_of v requests)
    → (i : ℕ) → i < length bytes / 512 → IsQuiet (world_of v requests) (sector + i) → held bytes i 512 ≡ a (sector + i)

pub record Reads (sector : ℕ) (bytes : List ℕ) (old new : MirrorView) : Type 0 where
  pub may : MayReadAt old.array sector (length bytes / 512)
  pub rests : Rests old new
  pub given : GivesSectors sector bytes old new
  pub content : AreOfContent sector bytes old

-- The sectors before s were given, and their bytes stand in their place. From then on no member in sync gave s.
pub record IsUnreadable (sector s : ℕ) (bytes : List ℕ) (old new : MirrorView) : Type 0 where
  pub rests : Rests old new
  pub from : sector ≤ s
  pub below : s < sector + length bytes / 512
  pub mid : MirrorView
  pub earlier : GivesSectors sector (take (512 * (s - sector)) bytes) old mid
  pub later : Rests mid new
  pub none : NoneGives s mid new

pub record IsUnreadUnresynced (a : ArrayView) (sector sectors : ℕ) : Type 0 where
  pub running : a.halted ≡ false
  pub range : IsInRange a sector sectors
  pub not_yet : a.resynced ≡ false

abbrev pub RefusesRead : ℕ → List ℕ → MirrorView → MirrorView → UnreadFault → Type 0
RefusesRead sector bytes old new Halted = RefusesHalted old new
RefusesRead sector bytes old new OutOfRange = Refuses old new (IsOutOfRange old.array sector (length bytes / 512))
RefusesRead sector bytes old new NotResynced = Refuses old new (IsUnreadUnresynced old.array sector (length bytes / 512))
RefusesRead sector bytes old new (Unreadable s) = MayReadAt old.array sector (length bytes / 512) × IsUnreadable sector s bytes old new

-- Where the sectors are refused before a device is read, the buffer stays as it was.
abbrev pub LeavesBuffer : List ℕ → List ℕ → UnreadFault → Type 0
LeavesBuffer was bytes (Unreadable s) = ⊤
LeavesBuffer was bytes fault = bytes ≡ was

-- ---- one role
-- the run has so many sectors from this one on
abbrev pub has_all : ℕ → ℕ → Run → Bool
has_all start len run = nat_le run.start start && (nat_le len run.len && nat_le (start - run.start) (run.len - len))

-- Members are asked in two groups: those that are not write-mostly, and those that are.
-- whoever of the group is in sync in the role did not give the sector s when these were asked for
abbrev pub NotGivenIn : Bool → ℕ → ℕ → ℕ → ℕ → MirrorView → MirrorView → Type 0
NotGivenIn mostly role s sector sectors old new =
    (k : ℕ) (m : MemberView) → IsMember old.array k m → is_in_sync_as role m.state ≡ true → is_write_mostly m.superblock ≡ mostly → HasNotGiven k m s sector sectors old new

-- whoever of the group is in sync in the role lists the sector
abbrev pub ListedIn : Bool → ℕ → ℕ → ArrayView → Type 0
ListedIn mostly role s a =
    (k : ℕ) (m : MemberView) → IsMember a k m → is_in_sync_as role m.state ≡ true → is_write_mostly m.superblock ≡ mostly → Lists m s

-- the member in the role gave these sectors, and is of the group
pub record GivesInGroup (mostly : Bool) (role sector : ℕ) (bytes : List ℕ) (old new : MirrorView) : Type 0 where
  pub gives : GivesIn role sector bytes old new
  pub flag : is_write_mostly gives.is.member.superblock ≡ mostly

-- A member in sync lists one of these sectors, and not all. So it is not asked for all of them, and of fewer it may give some.
pub record IsListedInPart (sector sectors : ℕ) (a : ArrayView) : Type 0 where
  pub index : ℕ
  pub member : MemberView
  pub in_sync : IsInSync a index member
  pub listed : ℕ
  pub lists : Lists member listed
  pub from : sector ≤ listed
  pub below : listed < sector + sectors
  pub not_all : ((s : ℕ) → sector ≤ s → s < sector + sectors → Lists member s) → ⊥

-- The member in the role is of the group and lists none of these sectors. A read of them failed, and no other call of its device besides: of
-- reads that went well nothing is said.
pub record FailsIn (mostly : Bool) (role sector sectors : ℕ) (old new : MirrorView) : Type 0 where
  pub from : ℕ
  pub is : IsInRole old.array role from
  pub flag : is_write_mostly is.member.superblock ≡ mostly
  pub unlisted : (s : ℕ) → sector ≤ s → s < sector + sectors → Lists is.member s → ⊥
  pub alone : FailsThisReadAlone from sector sectors old new

abbrev pub TriesRole : Bool → ℕ → ℕ → List ℕ → List ℕ → MirrorView → MirrorView → Answer → Type 0
TriesRole mostly role sector was bytes old new answer.All = Rests old new × GivesInGroup mostly role sector bytes old new
TriesRole mostly role sector was bytes old new answer.Nothing = Rests old new × ((s : ℕ) → sector ≤ s → s < sector + length was / 512 → ListedIn mostly role s old.array)
TriesRole mostly role sector was bytes old new answer.Failed =
    Rests old new × ((s : ℕ) → sector ≤ s → s < sector + length was / 512 → NotGivenIn mostly role s sector (length was / 512) old new)
    × FailsIn mostly role sector (length was / 512) old new
TriesRole mostly role sector was bytes old new answer.Perhaps = Rests old new × (1 < length was / 512) × IsListedInPart sector (length was / 512) old.array

-- ---- one group
-- None of the members in sync of a group, those that are write-mostly or the others, gave any of these
-- sectors.
abbrev pub NoneOfGroupGives : Bool → ℕ → ℕ → MirrorView → MirrorView → Type 0
NoneOfGroupGives mostly sector sectors old new =
    (s : ℕ) → sector ≤ s → s < sector + sectors
    → (k : ℕ) (m : MemberView) → IsInSync old.array k m → is_write_mostly m.superblock ≡ mostly → HasNotGiven k m s sector sectors old new

-- All members in sync of a group, those that are write-mostly or the others, list all of these sectors.
abbrev pub AllOfGroupList : Bool → ℕ → ℕ → ArrayView → Type 0
AllOfGroupList mostly sector sectors a =
    (s : ℕ) → sector ≤ s → s < sector + sectors
    → (k : ℕ) (m : MemberView) → IsInSync a k m → is_write_mostly m.superblock ≡ mostly → Lists m s

-- A member in sync that is write-mostly or not, as it is asked, gave these sectors, and none of a lower role
-- did.
pub record GivesFirst (mostly : Bool) (sector : ℕ) (bytes : List ℕ) (old new : MirrorView) : Type 0 where
  pub role : ℕ
  pub given : GivesInGroup mostly role sector bytes old new
  pub lowest : (lower : ℕ) → lower < role → (s : ℕ) → sector ≤ s → s < sector + length bytes / 512 → NotGivenIn mostly lower s sector (length bytes / 512) old new

abbrev pub TriesGroup : Bool → ℕ → List ℕ → List ℕ → MirrorView → MirrorView → Answer → Type 0
TriesGroup mostly sector was bytes old new answer.All = Rests old new × GivesFirst mostly sector bytes old new
TriesGroup mostly sector was bytes old new answer.Nothing = Rests old new × AllOfGroupList mostly sector (length was / 512) old.array
TriesGroup mostly sector was bytes old new answer.Failed = Rests old new × NoneOfGroupGives mostly sector (length was / 512) old new
TriesGroup mostly sector was bytes old new answer.Perhaps = Rests old new × (1 < length was / 512) × IsListedInPart sector (length was / 512) old.array

-- none of the sectors was given
abbrev pub gives_none : Answer → Bool
gives_none answer.All = false
gives_none answer.Nothing = true
gives_none answer.Failed = true
gives_none answer.Perhaps = false

-- all members in sync that were asked list them: no read failed
abbrev pub all_listed : Answer → Bool
all_listed answer.All = false
all_listed answer.Nothing = true
all_listed answer.Failed = false
all_listed answer.Perhaps = false

-- ---- a run of sectors
-- Why fewer of these sectors may be given: a member in sync lists a part of them, or none gave them, of which each was asked that does not
-- list them. So where no list meets a run, no part of it is asked of a member before the others were asked for the whole.
abbrev pub MayGiveFewer : ℕ → ℕ → MirrorView → MirrorView → Type 0
MayGiveFewer sector sectors old new = IsListedInPart sector sectors old.array ⊎ ((s : ℕ) → sector ≤ s → s < sector + sectors → NoneGivesOf s sector sectors old new)

-- Only of one sector alone a failed read says that nobody gives it: of several that were read at once some may be given yet.
abbrev pub TriesRoles : ℕ → List ℕ → List ℕ → MirrorView → MirrorView → Answer → Type 0
TriesRoles sector was bytes old new answer.All = GivesRun sector bytes old new
TriesRoles sector was bytes old new answer.Nothing = Rests old new × ((s : ℕ) → sector ≤ s → s < sector + length was / 512 → AllInSync old.array (λ m. Lists m s))
TriesRoles sector was bytes old new answer.Failed = Rests old new × (length was / 512 ≡ 1) × NoneGives sector old new
TriesRoles sector was bytes old new answer.Perhaps = Rests old new × (1 < length was / 512) × MayGiveFewer sector (length was / 512) old new

-- Fewer than all of the sectors are asked for only where more of them could not be given as a whole: up to twice as many, and one.
pub record IsCutFrom (sector sectors all : ℕ) (old new : MirrorView) : Type 0 where
  pub more : ℕ
  pub above : sectors < more
  pub half : more ≤ 2 * sectors + 1
  pub within : more ≤ all
  pub why : MayGiveFewer sector more old new

-- so many of the sectors were given, as one run
pub record GivesFirstRun (sector : ℕ) (was bytes : List ℕ) (old new : MirrorView) (sectors : ℕ) : Type 0 where
  pub some : 0 < sectors
  pub few : sectors ≤ length was / 512
  pub given : GivesRun sector (take (512 * sectors) bytes) old new
  pub cut : (sectors ≡ length was / 512) ⊎ IsCutFrom sector sectors (length was / 512) old new

-- no member in sync gave the first of them
pub record GivesNoFront (sector : ℕ) (old new : MirrorView) : Type 0 where
  pub rests : Rests old new
  pub none : NoneGives sector old new

abbrev pub IsGivenUpTo : ℕ → List ℕ → UnreadFault → MirrorView → MirrorView → Type 0
IsGivenUpTo sector bytes (Unreadable s) old new = IsUnreadable sector s bytes old new
IsGivenUpTo sector bytes fault old new = ⊥
