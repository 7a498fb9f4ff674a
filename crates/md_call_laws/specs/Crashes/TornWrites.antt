-- What the next opening finds where a crash left other bytes in a write that halted the mirror: neither what stood there nor what was written.
use Rattle.std.specs.Prelude.{◌≡◌, ◌⊎◌, ℕ, ◌<◌, true, false, List, slice_get, Some, None}
use Rattle.md_assembly.specs.States.{is_in_sync}
use Rattle.md_kept_members.specs.View.{MemberView}
use Rattle.md_model.specs.Content.{Content, BecomesAtOpening, Holds}
use Rattle.md_model.specs.Events.{Event}
use Rattle.md_model.specs.Sectors.{chunk_of}
use Rattle.md_model.specs.Crashes.{IsFit}
use Rattle.md_model.specs.Worlds as worlds
use Rattle.md_model.specs.Worlds.{IsQuiet}
use Rattle.md_state.specs.Steps.CopyData.{HaltsCopying}
use Rattle.md_state.specs.Members.{IsInSync, IsMember}
use Rattle.md_state.specs.Steps.StoreMarks.{HaltsStoringMarks}
use Rattle.md_state.specs.View.{Disk, MirrorView, geometry_of}
use Rattle.md_array.specs.Steps.StoreLog.{HaltsStoringLog}
use Rattle.md_array.specs.Open.Opened.{IsOpenedFrom}
use Rattle.md_array.specs.ReadAsKept.{HasWidth}
use Rattle.md_array.specs.Worlds.{none_in_flight, super_of, world_of}
use Rattle.md_laws.specs.Left.{contents_of}
use Rattle.md_laws.specs.Lives.{AreFoundAgain, MirrorLife, MirrorLifeWith}
use Rattle.md_laws.specs.Runs.{IsStart, Moment}
use Rattle.md_call_laws.specs.Crashes.Departed.{NoneIsNewer}
use Rattle.md_call_laws.specs.Crashes.HaltedCalls.{IsLeftSince}

-- The mirror of a moment, halted, over devices that a crash left.
abbrev pub halted_over : Moment → List Disk → Moment
halted_over t disks = record t { mirror = record { disks = disks; array = record t.mirror.array { halted = true } } }

-- An opening after a crash that left these: of some of them, in any order, and perhaps of further devices, which are no newer than the array was at
-- the opening before, and of which none is found in sync. Its superblock is fit. (So it is of each opening of a life: `IsReopened`.)
pub record IsOpenedAfter (opened : MirrorView) (t : Moment) (left : List Disk) (next : MirrorView) : Type 0 where
  pub found : List Disk
  pub devices : AreFoundAgain (halted_over t left) found
  pub of_these : contents_of devices.left ≡ contents_of left
  pub others : NoneIsNewer opened (halted_over t left) found devices next
  pub opens : IsOpenedFrom found next
  pub fit : IsFit (super_of opened.array.shared) (super_of next.array.shared) t.failed_at
  pub out : (j : ℕ) (m : MemberView) → IsMember next.array j m → devices.from j ≡ None → is_in_sync m.state ≡ false

-- An opening after a crash begins another life: the stored marks cover what the members in sync differ in.
-- Each of these was in sync before the crash, on the same device.
pub record BeginsAfter (opened : MirrorView) (t : Moment) (left : List Disk) (next : MirrorView) (again : IsOpenedAfter opened t left next) : Type 0 where
  pub start : IsStart again.found next
  pub among : (k : ℕ) (n : MemberView) → IsInSync next.array k n → (i : ℕ) × (again.devices.from k ≡ Some i) × (o : MemberView) × IsInSync t.mirror.array i o

-- A statement holds of what a crash left at a moment of a life, and of each opening after that.
abbrev pub OfOpenings : ((t : Moment) (left : List Disk) → Type 0)
    → ((opened : MirrorView) (t : Moment) (left : List Disk) (next : MirrorView) → IsOpenedAfter opened t left next → Type 0) → Type 0
OfOpenings Leaves Finds =
    (before : List Disk) (m : MirrorView) → IsStart before m
    → (es : List Event) (rest : List (List Event)) (final : MirrorView) (t : Moment) → MirrorLife m es rest final t
    → (left : List Disk) → Leaves t left → (next : MirrorView) (again : IsOpenedAfter final t left next) → Finds final t left next again

-- A statement holds of what a crash left at a moment of a life, of the content that the life has there, and of
-- each opening after that.
abbrev pub OfOpeningsWith : ((t : Moment) (left : List Disk) → Type 0) → (Moment → Content → MirrorView → Type 0) → Type 0
OfOpeningsWith Leaves Finds =
    (before : List Disk) (m : MirrorView) (a : Content) → IsStart before m → Holds (geometry_of m.array) a (world_of m none_in_flight)
    → (es : List Event) (rest : List (List Event)) (final : MirrorView) (t : Moment) (b : Content) → MirrorLifeWith m a es rest final t b
    → (left : List Disk) → Leaves t left → (next : MirrorView) → IsOpenedAfter final t left next → Finds t b next

-- ---- a copy
-- A copy to member k halted the mirror, and the crash came within that, or after it: any bytes may stand in the write's range.
pub record IsLeftByCopy (t : Moment) (left : List Disk) : Type 0 where
  pub on : ℕ
  pub sector : ℕ
  pub sectors : ℕ
  pub new : MirrorView
  pub call : HaltsCopying on sector sectors t.mirror new
  pub since : IsLeftSince t.mirror.disks new.disks left

-- Each sector's chunk is marked on each member in sync, so the marks cover what differs there; and the content becomes what it may become at any opening:
-- it is the same in each chunk of which one of the members in sync has no mark.
abbrev pub StartsAfterCopy : Type 0
StartsAfterCopy = OfOpenings IsLeftByCopy BeginsAfter

abbrev pub ContentAfterCopy : Type 0
ContentAfterCopy =
    OfOpeningsWith IsLeftByCopy (λ t b next. ((c : Content) × BecomesAtOpening (geometry_of next.array) (world_of next none_in_flight) b c))

-- ---- marks, of a member that is alone in sync
-- A sector of the bitmap of member k was stored, no other member was in sync, and the write halted the mirror. The crash may have left any bits
-- there. Of the header it is asked that it tells of chunks as wide as before, where an opening accepts the device at all.
pub record IsLeftByLoneMarks (t : Moment) (left : List Disk) : Type 0 where
  pub on : ℕ
  pub block : ℕ
  pub new : MirrorView
  pub call : HaltsStoringMarks on block t.mirror new
  pub alone : (j : ℕ) (m : MemberView) → IsInSync t.mirror.array j m → j ≡ on
  pub since : IsLeftSince t.mirror.disks new.disks left
  pub header : (d : Disk) → slice_get left on ≡ Some d → HasWidth t.mirror.array.chunks.sectors call.member.superblock d.content

-- A member that was alone in sync is so after the crash, too, so that nothing differs. The content stays what
-- it was in each sector that no request touched, and that the member held: of a resynced array in each of
-- these, else in each whose chunk had no mark in memory. But marks may be lost: of devices that left before,
-- and come back by `re_add` later, nothing is said.
abbrev pub StartsAfterLoneMarks : Type 0
StartsAfterLoneMarks = OfOpenings IsLeftByLoneMarks BeginsAfter

abbrev pub ContentAfterLoneMarks : Type 0
ContentAfterLoneMarks =
    OfOpeningsWith IsLeftByLoneMarks (λ t b next.
    ((c : Content) × Holds (geometry_of next.array) c (world_of next none_in_flight)
    × ((s : ℕ) → s < t.mirror.array.chunks.size → IsQuiet (world_of t.mirror t.requests) s
    → (t.mirror.array.resynced ≡ true) ⊎ ((world_of t.mirror t.requests).marks (chunk_of (geometry_of t.mirror.array) s) ≡ false) → c s ≡ b s)))

-- ---- a log, of a member that is alone in sync
-- The log of a member that was alone in sync was stored, and the write halted the mirror. The crash may have
-- left any entries there.
pub record IsLeftByLoneLog (t : Moment) (left : List Disk) : Type 0 where
  pub on : ℕ
  pub new : MirrorView
  pub call : HaltsStoringLog on t.mirror new
  pub alone : (j : ℕ) (m : MemberView) → IsInSync t.mirror.array j m → j ≡ on
  pub since : IsLeftSince t.mirror.disks new.disks left

abbrev pub StartsAfterLoneLog : Type 0
StartsAfterLoneLog = OfOpenings IsLeftByLoneLog BeginsAfter

-- The content stays likewise in each sector that the member did not list: of one that it did, and that the log which is read then lacks, nothing
-- is said.
abbrev pub ContentAfterLoneLog : Type 0
ContentAfterLoneLog =
    OfOpeningsWith IsLeftByLoneLog (λ t b next.
    ((c : Content) × Holds (geometry_of next.array) c (world_of next none_in_flight)
    × ((s : ℕ) → s < t.mirror.array.chunks.size → IsQuiet (world_of t.mirror t.requests) s
    → (t.mirror.array.resynced ≡ true) ⊎ ((world_of t.mirror t.requests).marks (chunk_of (geometry_of t.mirror.array) s) ≡ false)
    → ((k : ℕ) → worlds.IsInSync (world_of t.mirror t.requests) k → ((world_of t.mirror t.requests).stored k).listed s ≡ false) → c s ≡ b s)))
