-- What a crash leaves within and after a write that halts a whole call, where that write was left done or not done: each kind of write in one place.
use Rattle.std.specs.Prelude.{◌≡◌, ◌⊎◌, ℕ, ◌+◌, ◌%◌, Bool, List, [], ◌∷◌, ◌++◌, Option, length, None}
use Rattle.md_model.specs.Events.{Event, MemberPart}
use Rattle.md_state.specs.Requests.{AreInFlight, among}
use Rattle.md_state.specs.View.{Disk, MirrorView}
use Rattle.md_array.specs.InTurn.{AllLeftWhole, HaltsAt, Leads, Requests}
use Rattle.md_laws.specs.HaltedWrites.{IsDoneOrNot, IsLeftInSectors}
use Rattle.md_laws.specs.Left.{IsLeftByCrash, contents_of}
use Rattle.md_laws.specs.Runs.{MirrorRun, Moment}
use Rattle.md_laws.specs.CallCrashes.{HaveWholeSectors, AtMoments, IsCrashOf, LeavesSuperWhole}
use Rattle.md_laws.specs.CopyCrashes.{copies_at}
use Rattle.md_laws.specs.CrashesWithin.{MayAllBeLeft}
use Rattle.md_metadata.specs.Stopping.{HaltsStop}
use Rattle.md_resync.specs.Resyncing.{HaltsResync, HaltsUntold}
use Rattle.md_resync.specs.Telling.{AfterTelling}
use Rattle.md_write.specs.WriteCrashes.{begun_events}
use Rattle.md_write.specs.Writing.{HaltsWrite}

-- What a crash might have left since devices were the first of these, and until they were the second: within a call, or after it.
abbrev pub IsLeftSince : (before after left : List Disk) → Type 0
IsLeftSince before after left = MayAllBeLeft before after (contents_of left) ⊎ (contents_of left ≡ contents_of after)

-- ---- what is asked
-- What is asked of a crash within a write that halted the mirror, and after it, by the kind of the write. Of a
-- superblock it is that the old one, the new one or none was left. Of a sector of a bitmap and of a log it is
-- that the write was left done or not done. Of a copy it is that each sector was left as it was or as written.
-- Of data that are written nothing is asked.
abbrev pub IsLeftByHalt : (failing : Event) (old new : MirrorView) (requests : Requests) → HaltsAt old requests failing new → List Disk → Type 0
IsLeftByHalt (Event.WriteFails k MemberPart.Superblock) old new requests h left = LeavesSuperWhole k old left
IsLeftByHalt (Event.WriteFails k (MemberPart.RequestData n)) old new requests h left = Unit {0}
IsLeftByHalt (Event.WriteFails k (MemberPart.BitmapSector b)) old new requests h left = IsDoneOrNot k h.write old.disks (contents_of left)
IsLeftByHalt (Event.WriteFails k MemberPart.Log) old new requests h left = IsDoneOrNot k h.write old.disks (contents_of left)
IsLeftByHalt (Event.WriteFails k (MemberPart.CopiedSectors s n)) old new requests h left =
    IsLeftInSectors k (h.copy.may.target.superblock.data_offset + s) h.bytes old.disks (contents_of left)
IsLeftByHalt e old new requests h left = ⊥

-- ---- what is said
-- The events that stand in place of the write that halted the mirror: the step done; of a copy, some of its
-- sectors.
abbrev pub IsInstead : Event → List Event → Type 0
IsInstead (Event.WriteFails k (MemberPart.BitmapSector b)) es = es ≡ Event.StoreMarks k b ∷ []
IsInstead (Event.WriteFails k MemberPart.Log) es = (listed : ℕ → Bool) × (es ≡ Event.StoreLog k listed ∷ [])
IsInstead (Event.WriteFails k (MemberPart.CopiedSectors s n)) es = (from : ℕ) × (sectors : List ℕ) × (es ≡ copies_at from k sectors)
IsInstead e es = ⊥

-- These events lead on, and then such as stand in place of the write. A crash after them leaves this.
pub record IsCrashInstead (es : List Event) (failing : Event) (t : Moment) (left : List Disk) : Type 0 where
  pub instead : List Event
  pub is_instead : IsInstead failing instead
  pub at : Moment
  pub run : MirrorRun t (es ++ instead) at
  pub is_left : IsLeftByCrash at left

-- What is left is a crash of a run: of these events, or of these and such as stand in place of the write after
-- them. The laws over lives speak of such a crash.
abbrev pub IsCrashAtHalt : List Event → Event → Moment → List Disk → Type 0
IsCrashAtHalt es failing t left = IsCrashOf es t left ⊎ IsCrashInstead es failing t left

-- At any moment of a life a call does these events, and then a write fails that halts the mirror.
abbrev pub CrashesAtEachHalt : Type 0
CrashesAtEachHalt =
    AtMoments (λ t.
    ((es : List Event) (previous : Option Event) (mid : MirrorView) (between : Requests) (leads : Leads previous t.mirror t.requests es mid between)
    → AllLeftWhole es previous t.mirror t.requests (λ m r. (m ≡ mid) × (r ≡ between)) leads
    → (failing : Event) (new : MirrorView) (halts : HaltsAt mid between failing new) → HaveWholeSectors (es ++ failing ∷ []) t.requests
    → (left : List Disk) → IsLeftSince mid.disks new.disks left → IsLeftByHalt failing mid new between halts left → IsCrashAtHalt es failing t left))

-- A crash within a `write` that halts the mirror, or after it, is one of a run.
abbrev pub CrashesAtHaltedWrite : Type 0
CrashesAtHaltedWrite =
    AtMoments (λ t.
    ((sector : ℕ) (bytes : List ℕ) (new : MirrorView) → length bytes % 512 ≡ 0 → (h : HaltsWrite sector bytes t.mirror new) (in_flight : AreInFlight t.mirror.array t.requests)
    → AllLeftWhole (begun_events h) None t.mirror t.requests (λ m r. (m ≡ h.mid) × (r ≡ among h.last t.requests)) (h.happens None t.requests in_flight)
    → (left : List Disk) → IsLeftSince h.mid.disks new.disks left
    → IsLeftByHalt h.failing h.mid new (among h.last t.requests) (h.halts t.requests) left → IsCrashAtHalt (begun_events h) h.failing t left))

-- A crash within the call `stop` that halts the mirror, or after it, is one of a run.
abbrev pub CrashesAtHaltedStop : Type 0
CrashesAtHaltedStop =
    AtMoments (λ t.
    ((new : MirrorView) (h : HaltsStop t.mirror new) (in_flight : AreInFlight t.mirror.array t.requests)
    → AllLeftWhole h.goes.events None t.mirror t.requests (λ m r. (m ≡ h.halts.mid) × (r ≡ t.requests)) (h.goes.leads None t.requests in_flight)
    → (left : List Disk) → IsLeftSince h.halts.mid.disks new.disks left
    → IsLeftByHalt h.halts.failing h.halts.mid new t.requests (h.halts.halts t.requests) left → IsCrashAtHalt h.goes.events h.halts.failing t left))

-- A crash within a `resync` that halts the mirror, or after it, is one of a run: where a write failed by which recovering members are told of.
abbrev pub CrashesAtUntoldResync : Type 0
CrashesAtUntoldResync =
    AtMoments (λ t.
    ((new : MirrorView) (h : HaltsUntold t.mirror new) (in_flight : AreInFlight t.mirror.array t.requests)
    → AllLeftWhole h.halts.halts.goes.events None t.mirror t.requests (λ m r. (m ≡ h.halts.halts.mid) × (r ≡ t.requests)) (h.halts.halts.goes.leads None t.requests in_flight)
    → (left : List Disk) → IsLeftSince h.halts.halts.mid.disks new.disks left
    → IsLeftByHalt h.halts.halts.failing h.halts.halts.mid new t.requests (h.halts.halts.halts t.requests) left → IsCrashAtHalt h.halts.halts.goes.events h.halts.halts.failing t left))

-- A crash within a `resync` that halts the mirror once recovering members are told of, or after it, is one of a run.
abbrev pub CrashesAtHaltedResync : Type 0
CrashesAtHaltedResync =
    AtMoments (λ t.
    ((new : MirrorView) (h : AfterTelling HaltsResync t.mirror new)
    → (left : List Disk) → IsLeftSince h.then.mid.disks new.disks left
    → IsLeftByHalt h.then.failing h.then.mid new t.requests (h.then.halts t.requests) left → IsCrashAtHalt (h.tells.goes.events ++ h.then.goes.events) h.then.failing t left))
