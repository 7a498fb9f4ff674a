-- One opening of a mirror's devices after another: runs, each but the last ended by a crash, and what the next mirror is made of.
use Rattle.std.specs.Prelude.{◌≡◌, ◌⊎◌, ℕ, ◌+◌, ◌*◌, ◌<◌, ◌≤◌, true, false, List, [], ◌∷◌, length, Option, slice_get, Some, None}
use Rattle.md_model.specs.Sectors.{Geometry, chunk_of}
use Rattle.md_model.specs.Devices.{Super, is_marked}
use Rattle.md_model.specs.Events.{Event}
use Rattle.md_model.specs.Fits.{HasOneView}
use Rattle.md_model.specs.Content.{Content, BecomesAtOpening, Holds}
use Rattle.md_model.specs.Runs.{History}
use Rattle.md_model.specs.Crashes.{IsFit}
use Rattle.md_device.specs.Splice.{SameOutside}
use Rattle.md_super.specs.declared.superblock.Superblock.{Superblock}
use Rattle.md_members.specs.Areas.{bitmap_sectors}
use Rattle.md_assembly.specs.States.{is_in_sync, state_of}
use Rattle.md_kept_members.specs.View.{MemberView}
use Rattle.md_kept_members.specs.OnDevices.Storing.{sector_from_super}
use Rattle.md_state.specs.View.{ArrayView, Disk, MirrorView, geometry_of}
use Rattle.md_state.specs.Members.{IsInSync, IsMember}
use Rattle.md_state.specs.Missing.{is_rebuilt}
use Rattle.md_array.specs.Open.Opened.{IsArrayOf, IsOpenedFrom}
use Rattle.md_array.specs.ReadAsKept.{AreReadAsKept, HasWidth, IsSuperOn, chunk_size_on}
use Rattle.md_array.specs.Worlds.{AreHonest, none_in_flight, stored_of, super_of, world_of}
use Rattle.md_laws.specs.HalfOpened.{IsHalfOpened}
use Rattle.md_laws.specs.Left.{IsLeftByCrash, IsLeftWriting}
use Rattle.md_laws.specs.Runs.{IsStart, MirrorRun, MirrorRunTellsEnrolments, MirrorRunWith, Moment, history_of, opened_as}

-- A device is as it was left; but openings within which a crash came may have written its bitmap. Then no chunk lost its
-- mark, and the header has the chunk size that it had.
pub record IsAsLeft (a : ArrayView) (m : MemberView) (left now : List ℕ) : Type 0 where
  pub outside : SameOutside (512 * sector_from_super m.superblock.bitmap_offset) (512 * bitmap_sectors m.stored.chunks) left now
  pub chunk_size : chunk_size_on m.superblock now ≡ chunk_size_on m.superblock left
  pub marks : (s : ℕ) → s < a.chunks.size → is_marked (stored_of a m now) (chunk_of (geometry_of a) s) ≡ false → is_marked (stored_of a m left) (chunk_of (geometry_of a) s) ≡ false

-- device k of those that were left is device j of these
pub record IsFoundAgain (a : ArrayView) (left now : List Disk) (k j : ℕ) : Type 0 where
  pub member : MemberView
  pub is_member : IsMember a k member
  pub disk_left : Disk
  pub at_left : slice_get left k ≡ Some disk_left
  pub disk_now : Disk
  pub at_now : slice_get now j ≡ Some disk_now
  pub as_left : IsAsLeft a member disk_left.content disk_now.content

-- a member that was in sync at the crash is there
pub record IsThereInSync (t : Moment) (at : ℕ → Option ℕ) : Type 0 where
  pub device : ℕ
  pub member : MemberView
  pub in_sync : IsInSync t.mirror.array device member
  pub place : ℕ
  pub there : at device ≡ Some place

-- The header of a member's bitmap tells of chunks as wide as the array's. That of a spare or recovering one is not asked where a member that
-- was in sync is there: a write of it may have failed, and an opening reads chunks as wide on all of its members.
abbrev pub IsAsWide : (t : Moment) (before : List Disk) (at : ℕ → Option ℕ) (device place : ℕ) → Type 0
IsAsWide t before at device place =
    ((m : MemberView) → IsMember t.mirror.array device m → is_rebuilt m.state ≡ false)
    ⊎ (IsThereInSync t at
    ⊎ ((m : MemberView) (d : Disk) → IsMember t.mirror.array device m → slice_get before place ≡ Some d → HasWidth t.mirror.array.chunks.sectors m.superblock d.content))

-- One of the devices that were left is there, and its superblock has recorded the last failure.
pub record HasRecorded (t : Moment) (before : List Disk) (at : ℕ → Option ℕ) : Type 0 where
  pub device : ℕ
  pub place : ℕ
  pub there : at device ≡ Some place
  pub recorded : (d : Disk) (v : Superblock) → slice_get before place ≡ Some d → IsSuperOn d.content v → t.failed_at ≤ v.events
  pub wide : IsAsWide t before at device place

-- Among these are some of the devices that were left, in any order, and one of those has recorded the last failure. None of them is of a
-- member whose superblock was spoiled, or whose log had a shift and was stored while its superblock tells of that shift still.
pub record AreFoundAgain (t : Moment) (before : List Disk) : Type 0 where
  pub left : List Disk
  pub is_left : IsLeftByCrash t left
  pub honest : AreHonest before
  pub from : ℕ → Option ℕ  -- which of those that were left each is, if it is one
  pub at : ℕ → Option ℕ  -- and where each of those is now, if it is there
  pub found : (j k : ℕ) → from j ≡ Some k → at k ≡ Some j
  pub again : (k j : ℕ) → at k ≡ Some j → IsFoundAgain t.mirror.array left before k j
  pub unspoiled : (k j : ℕ) → at k ≡ Some j → t.spoiled k ≡ false
  pub readable : (k j : ℕ) → at k ≡ Some j → t.misread k ≡ false
  pub recorded : HasRecorded t before at

-- A device that the opening before left out, as a member of the next mirror: its events are not above the array's there, and no member
-- had its number since.
pub record IsFurther (opened : MirrorView) (t : Moment) (m : MemberView) : Type 0 where
  pub no_newer : m.superblock.events ≤ opened.array.shared.events
  pub away : t.away m.superblock.dev_number ≡ true

-- Each device that is not one of those that were left is a further one.
abbrev pub AreFurther : (opened : MirrorView) (t : Moment) (before : List Disk) → AreFoundAgain t before → MirrorView → Type 0
AreFurther opened t before devices next = (j : ℕ) (m : MemberView) → IsMember next.array j m → devices.from j ≡ None → IsFurther opened t m

-- Data was let through since that opening: a write of it was done, or failed, or the crash came within one.
abbrev pub WasLetThrough : Moment → List Disk → Type 0
WasLetThrough t left = (t.tried ≡ true) ⊎ IsLeftWriting t left

-- The superblock of an opening calls the device out of sync: faulty, spare, recovering, or stale.
abbrev pub IsCalledOut : MirrorView → MemberView → Type 0
IsCalledOut opened m = is_in_sync (state_of opened.array.shared m.superblock) ≡ false

-- Why a further device is not found in sync: data was let through, and a member that was in sync is there; or the superblock of the
-- opening before calls it out of sync (`every_run`, clause `finds_out`).
abbrev pub IsShutOut : (opened : MirrorView) (t : Moment) (before : List Disk) → AreFoundAgain t before → MemberView → Type 0
IsShutOut opened t before devices m = (WasLetThrough t devices.left × IsThereInSync t devices.at) ⊎ IsCalledOut opened m

-- The next mirror is made of such devices and of further ones, and its superblock is fit. Of a further one that is not shut out it is
-- asked that the mirror does not have it in sync: with one that it has, another life begins (`laws::returning_devices`).
pub record IsReopened (opened : MirrorView) (t : Moment) (next : MirrorView) : Type 0 where
  pub before : List Disk
  pub devices : AreFoundAgain t before
  pub others : AreFurther opened t before devices next
  pub opens : IsOpenedFrom before next
  pub fit : IsFit (super_of opened.array.shared) (super_of next.array.shared) t.failed_at
  pub out : (j : ℕ) (m : MemberView) → IsMember next.array j m → devices.from j ≡ None → IsShutOut opened t before devices m ⊎ (is_in_sync m.state ≡ false)

-- A mirror's life: events, a crash and an opening, events again, and so on. The last opening gave the mirror final.
abbrev pub MirrorLife : MirrorView → List Event → List (List Event) → MirrorView → Moment → Type 0
MirrorLife m es [] final last = (final ≡ m) × MirrorRun (opened_as m) es last
MirrorLife m es (more ∷ rest) final last =
    (t : Moment) × (next : MirrorView) × MirrorRun (opened_as m) es t × IsReopened m t next × MirrorLife next more rest final last

-- A statement of the array, the superblock of the last opening and the past since then holds at each moment
-- of each life.
abbrev pub AtEachMoment : (Geometry → Super → History → Type 0) → Type 0
AtEachMoment Holds =
    (before : List Disk) (m : MirrorView) → IsStart before m
    → (es : List Event) (rest : List (List Event)) (final : MirrorView) (last : Moment) → MirrorLife m es rest final last
    → Holds (geometry_of m.array) (super_of final.array.shared) (history_of last)

-- A mirror's life with the array's content. An opening may change the content where each member that is found
-- in sync has the chunk's mark, and nowhere else.
abbrev pub MirrorLifeWith : MirrorView → Content → List Event → List (List Event) → MirrorView → Moment → Content → Type 0
MirrorLifeWith m a es [] final last b = (final ≡ m) × MirrorRunWith (opened_as m) a es last b
MirrorLifeWith m a es (more ∷ rest) final last b =
    (t : Moment) × (next : MirrorView) × (c d : Content)
    × MirrorRunWith (opened_as m) a es t c × IsReopened m t next × BecomesAtOpening (geometry_of next.array) (world_of next none_in_flight) c d
    × MirrorLifeWith next d more rest final last b

-- At each enrolment of a life it is told of the content that the new member holds it in the chunks that it
-- did not lack.
abbrev pub MirrorLifeTellsEnrolments : (m : MirrorView) (a : Content) (es : List Event) (rest : List (List Event)) (final : MirrorView) (last : Moment)
    → MirrorLife m es rest final last → Type 0
MirrorLifeTellsEnrolments m a es [] final last life = MirrorRunTellsEnrolments (opened_as m) a es last life.1
MirrorLifeTellsEnrolments m a es (more ∷ rest) final last life =
    MirrorRunTellsEnrolments (opened_as m) a es life.0 life.2
    × ((b c : Content) → MirrorRunWith (opened_as m) a es life.0 b → BecomesAtOpening (geometry_of life.1.array) (world_of life.1 none_in_flight) b c
    → MirrorLifeTellsEnrolments life.1 c more rest final last life.4)

-- A content that the members in sync hold at the first opening goes along every life at whose enrolments it is told, whatever other members
-- that recover hold. (`ContentGoesAlong` in Recovering.antt asks nothing at enrolments, but tells of recovering members at openings.)
abbrev pub ContentGoesAlongTold : Type 0
ContentGoesAlongTold =
    (before : List Disk) (m : MirrorView) (a : Content) → IsStart before m → Holds (geometry_of m.array) a (world_of m none_in_flight)
    → (es : List Event) (rest : List (List Event)) (final : MirrorView) (last : Moment) (life : MirrorLife m es rest final last)
    → MirrorLifeTellsEnrolments m a es rest final last life → (b : Content) × MirrorLifeWith m a es rest final last b

-- The members in sync hold the content at each moment of a life that it goes along.
abbrev pub KeepsContent : Type 0
KeepsContent =
    (before : List Disk) (m : MirrorView) (a : Content) → IsStart before m → Holds (geometry_of m.array) a (world_of m none_in_flight)
    → (es : List Event) (rest : List (List Event)) (final : MirrorView) (last : Moment) (b : Content) → MirrorLifeWith m a es rest final last b
    → Holds (geometry_of m.array) b (world_of last.mirror last.requests)

-- At each moment of each life an opening would read of the devices what the mirror keeps of them, but of those it may misread; and
-- the array has the chunks and the roles of the first opening.
abbrev pub IsReadAsKeptInLives : Type 0
IsReadAsKeptInLives =
    (before : List Disk) (m : MirrorView) → IsStart before m
    → (es : List Event) (rest : List (List Event)) (final : MirrorView) (last : Moment) → MirrorLife m es rest final last
    → AreReadAsKept last.mirror last.failed_at last.misread

-- An opening misreads no member in sync whose superblock is stored as it is kept.
abbrev pub ReadsRecorded : Type 0
ReadsRecorded =
    (before : List Disk) (m : MirrorView) → IsStart before m
    → (es : List Event) (rest : List (List Event)) (final : MirrorView) (last : Moment) → MirrorLife m es rest final last
    → (k : ℕ) (n : MemberView) → IsInSync last.mirror.array k n → n.due ≡ false → last.misread k ≡ false

abbrev pub KeepsGeometry : Type 0
KeepsGeometry =
    (before : List Disk) (m : MirrorView) → IsStart before m
    → (es : List Event) (rest : List (List Event)) (final : MirrorView) (last : Moment) → MirrorLife m es rest final last
    → geometry_of last.mirror.array ≡ geometry_of m.array

-- A member in sync of the mirror that is opened of what a crash left was in sync at the crash, on the same device.
abbrev pub FindsInSync : Type 0
FindsInSync =
    (before : List Disk) (m : MirrorView) → IsStart before m
    → (es : List Event) (rest : List (List Event)) (final : MirrorView) (last : Moment) → MirrorLife m es rest final last
    → (next : MirrorView) (again : IsReopened final last next)
    → (k : ℕ) (n : MemberView) → IsInSync next.array k n → (i : ℕ) × (again.devices.from k ≡ Some i) × (o : MemberView) × IsInSync last.mirror.array i o

-- each member in sync that is there has recorded all but the last change, as the next opening reads it
abbrev pub FoundHaveRecorded : (t : Moment) (next : MirrorView) (before : List Disk) → AreFoundAgain t before → Type 0
FoundHaveRecorded t next before devices =
    (k j : ℕ) (o : MemberView) → IsInSync t.mirror.array k o → devices.at k ≡ Some j
    → (n : MemberView) → IsMember next.array j n → t.mirror.array.shared.events ≤ n.superblock.events + 1

-- Where that is so, each member that was in sync at the crash, and is there, is a member in sync of the mirror that is opened: so
-- these are exactly its members in sync.
abbrev pub FindsAll : Type 0
FindsAll =
    (before : List Disk) (m : MirrorView) → IsStart before m
    → (es : List Event) (rest : List (List Event)) (final : MirrorView) (last : Moment) → MirrorLife m es rest final last
    → (next : MirrorView) (again : IsReopened final last next) → FoundHaveRecorded last next again.before again.devices
    → (k j : ℕ) (o : MemberView) → IsInSync last.mirror.array k o → again.devices.at k ≡ Some j → (n : MemberView) × IsInSync next.array j n

-- A further device that is shut out is not a member in sync of the mirror that is opened, whatever others are.
abbrev pub FindsOut : Type 0
FindsOut =
    (before : List Disk) (m : MirrorView) → IsStart before m
    → (es : List Event) (rest : List (List Event)) (final : MirrorView) (last : Moment) → MirrorLife m es rest final last
    → (found : List Disk) (next : MirrorView) (devices : AreFoundAgain last found) → AreFurther final last found devices next → IsOpenedFrom found next
    → IsFit (super_of final.array.shared) (super_of next.array.shared) last.failed_at
    → (j : ℕ) (n : MemberView) → IsMember next.array j n → devices.from j ≡ None → IsShutOut final last found devices n → is_in_sync n.state ≡ false

-- each of these devices was left
abbrev pub AreAllLeft : (t : Moment) (before : List Disk) → AreFoundAgain t before → Type 0
AreAllLeft t before devices = (j : ℕ) → j < length before → (k : ℕ) × (devices.from j ≡ Some k)

-- The next superblock is fit where it is as new as the one of the opening before and has recorded the last failure, if no two
-- superblocks of that opening were as new and told of other roles.
abbrev pub FitsWhenThere : Type 0
FitsWhenThere =
    (before : List Disk) (m : MirrorView) → IsStart before m → HasOneView (super_of m.array.shared) (world_of m none_in_flight).stored
    → (es : List Event) (t : Moment) → MirrorRun (opened_as m) es t
    → (found : List Disk) (next : MirrorView) (devices : AreFoundAgain t found) → AreAllLeft t found devices → IsOpenedFrom found next
    → m.array.shared.events ≤ next.array.shared.events
    → IsFit (super_of m.array.shared) (super_of next.array.shared) t.failed_at

-- An interrupted open of such devices, with any others beside them, leaves each of them as it was left.
abbrev pub StaysAsLeft : Type 0
StaysAsLeft =
    (before : List Disk) (m : MirrorView) → IsStart before m
    → (es : List Event) (rest : List (List Event)) (final : MirrorView) (last : Moment) → MirrorLife m es rest final last
    → (found : List Disk) (a : ArrayView) (devices : AreFoundAgain last found) → IsArrayOf found a
    → (left : List (List ℕ)) → IsHalfOpened a found left
    → (k j : ℕ) (at : devices.at k ≡ Some j) (c : List ℕ) → slice_get left j ≡ Some c
    → IsAsLeft last.mirror.array (devices.again k j at).member (devices.again k j at).disk_left.content c
