-- What a crash leaves within a whole call that is a list of events: it comes within one of them, from the mirror before that event to the one
-- after it, of which the step's own contract says what may be left.
use Rattle.std.specs.Prelude.{◌≡◌, ◌⊎◌, ℕ, ◌+◌, List, [], ◌∷◌, ◌++◌, drop, length, slice_get, Option, Some}
use Rattle.std.proofs.Common.{inl, inr}
use Rattle.md_kept_members.specs.View.{MemberView}
use Rattle.md_model.specs.Events.{Event, MemberPart}
use Rattle.md_model.specs.Worlds.{Request}
use Rattle.md_state.specs.DiskWrites.{AtDevice}
use Rattle.md_state.specs.Members.{IsMember}
use Rattle.md_state.specs.View.{Disk, MirrorView}
use Rattle.md_array.specs.Events.{IsOldNewOrNone}
use Rattle.md_array.specs.InTurn.{AllLeftWhole, AllOf, HaltsAt, InTurn, Leads, LeftWhole, Requests}
use Rattle.md_array.specs.Steps.Record.{super_write}
use Rattle.md_array.specs.Worlds.{AreHonest, block_on}
use Rattle.md_laws.specs.Left.{IsLeftByCrash, contents_of}
use Rattle.md_laws.specs.Lives.{MirrorLife}
use Rattle.md_laws.specs.Runs.{IsStart, MirrorRun, Moment}
use Rattle.md_laws.specs.ReadAfterCrashes.{EndsInFirstSector}
use Rattle.md_laws.specs.CrashesWithin.{DiffersInFirst, MayAllBeLeft, MayBeLeft}

-- A statement holds at each moment of each life.
abbrev pub AtMoments : (Moment → Type 0) → Type 0
AtMoments Holds =
    (before : List Disk) (m : MirrorView) → IsStart before m
    → (es : List Event) (rest : List (List Event)) (final : MirrorView) (t : Moment) → MirrorLife m es rest final t → Holds t

-- ---- where the crash came
-- The superblock of member k that was being stored was left as it was, as it is written, or as one that can't
-- be decoded.
abbrev pub LeavesSuperWhole : ℕ → MirrorView → List Disk → Type 0
LeavesSuperWhole k old left = (m : MemberView) → IsMember old.array k m → AtDevice k old.disks left (IsOldNewOrNone (super_write old.array m).bytes)

-- The superblock that stands on member k and the one that is written both end within the first sector, as
-- those of at most 128 roles do.
pub record AreSupersShort (k : ℕ) (old : MirrorView) : Type 0 where
  pub stands : (d : Disk) → slice_get old.disks k ≡ Some d → EndsInFirstSector (block_on d.content)
  pub comes : (m : MemberView) → IsMember old.array k m → EndsInFirstSector (super_write old.array m).bytes

-- The crash came before an event, or after it.
abbrev pub IsBesideEvent : Event → MirrorView → MirrorView → List Disk → Type 0
IsBesideEvent e old new left = (contents_of left ≡ contents_of old.disks) ⊎ (LeftWhole old e new × (contents_of left ≡ contents_of new.disks))

-- What is asked of what a crash left within one of these events. Of a superblock what `crashes_at_steps` asks; of a log that is stored, that it
-- changes in its first sector alone. Of the steps of a write, a `stop` and a resync nothing else is asked, whether they are done or fail. But the
-- sectors of a copy are an event each: within one the crash is told by the write that copies them all (`CopyCrashes`). Where a device comes,
-- comes back or leaves, and where a member that is rebuilt tells of it, the crash is told by the call (`crashes_at_steps`, `Left`): here only
-- before it and after it.
abbrev pub IsLeftWhole : Event → MirrorView → MirrorView → List Disk → Type 0
IsLeftWhole (Event.Record k) old new left = LeavesSuperWhole k old left ⊎ AreSupersShort k old
IsLeftWhole (Event.WriteFails k MemberPart.Superblock) old new left = LeavesSuperWhole k old left
IsLeftWhole (Event.RecordTargetFails k) old new left = LeavesSuperWhole k old left
IsLeftWhole (Event.StoreLog k listed) old new left = (m : MemberView) → IsMember old.array k m → (d : Disk) → slice_get old.disks k ≡ Some d → DiffersInFirst m d.content
IsLeftWhole (Event.Copy from k s) old new left = IsBesideEvent (Event.Copy from k s) old new left
IsLeftWhole (Event.Remove k) old new left = IsBesideEvent (Event.Remove k) old new left
IsLeftWhole (Event.Add number device) old new left = IsBesideEvent (Event.Add number device) old new left
IsLeftWhole (Event.ReAdd own offset device after) old new left = IsBesideEvent (Event.ReAdd own offset device after) old new left
IsLeftWhole (Event.SpoilTarget k) old new left = IsBesideEvent (Event.SpoilTarget k) old new left
IsLeftWhole (Event.Enrol k role listed) old new left = IsBesideEvent (Event.Enrol k role listed) old new left
IsLeftWhole (Event.Admit k role listed) old new left = IsBesideEvent (Event.Admit k role listed) old new left
IsLeftWhole (Event.Checkpoint k sure listed) old new left = IsBesideEvent (Event.Checkpoint k sure listed) old new left
IsLeftWhole e old new left = Unit {0}

-- The crash came within one of the events that lead on.
abbrev pub CrashesIn : (es : List Event) (previous : Option Event) (old : MirrorView) (before : Requests) (Then : MirrorView → Requests → Type 0)
    → InTurn previous old before es Then → List Disk → Type 0
CrashesIn [] previous old before Then t left = ⊥
CrashesIn (e ∷ es) previous old before Then t left =
    (MayAllBeLeft old.disks t.0.disks (contents_of left) × IsLeftWhole e old t.0 left) ⊎ CrashesIn es (Some e) t.0 t.1 Then t.5 left

-- What is asked of the events before a crash is what is asked of each event of a call (`AllLeftWhole`). Of
-- the others nothing is asked.
abbrev pub LeftWholeUntil : (es : List Event) (previous : Option Event) (old : MirrorView) (before : Requests) (Then : MirrorView → Requests → Type 0)
    (t : InTurn previous old before es Then) (left : List Disk) → CrashesIn es previous old before Then t left → Type 0
LeftWholeUntil [] previous old before Then t left stop = ⊥
LeftWholeUntil (e ∷ es) previous old before Then t left (inl here) = Unit {0}
LeftWholeUntil (e ∷ es) previous old before Then t left (inr later) = LeftWhole old e t.0 × LeftWholeUntil es (Some e) t.0 t.1 Then t.5 left later

-- ---- requests
-- A request is of whole sectors: it has no bytes past its last one.
abbrev pub HasWholeSectors : Request → Type 0
HasWholeSectors r = r.bytes (r.start + r.sectors) ≡ []

abbrev pub BeginsWhole : Event → Type 0
BeginsWhole (Event.Begin n r) = HasWholeSectors r
BeginsWhole e = Unit {0}

-- These events write the request's bytes.
abbrev pub IsWrittenBy : ℕ → List Event → Type 0
IsWrittenBy n [] = ⊥
IsWrittenBy n (Event.WriteMember m k ∷ es) = (m ≡ n) ⊎ IsWrittenBy n es
IsWrittenBy n (Event.WriteFails k (MemberPart.RequestData m) ∷ es) = (m ≡ n) ⊎ IsWrittenBy n es
IsWrittenBy n (e ∷ es) = IsWrittenBy n es

-- Each request that is in flight and whose bytes these events write is of whole sectors. Each request that
-- they begin is, too, as `begin` asks of its caller.
pub record HaveWholeSectors (es : List Event) (requests : Requests) : Type 0 where
  pub in_flight : (n : ℕ) (r : Request) → IsWrittenBy n es → requests n ≡ Some r → HasWholeSectors r
  pub begun : AllOf BeginsWhole es

-- ---- what it leaves
-- What is left is a crash of a run: the first of these events lead from this moment to one at which a crash
-- leaves it. The laws over lives speak of such a crash. (Where a write failed in the last of them, it may have
-- left other bytes in its range than at its end.)
pub record IsCrashOf (es : List Event) (t : Moment) (left : List Disk) : Type 0 where
  pub done : List Event
  pub rest : List Event
  pub order : es ≡ done ++ rest
  pub at : Moment
  pub run : MirrorRun t done at
  pub is_left : IsLeftByCrash at left

-- At any moment of a life a call does these events, and a crash comes within one of them.
abbrev pub CrashesAtSteps : Type 0
CrashesAtSteps =
    AtMoments (λ t.
    ((es : List Event) (previous : Option Event) (new : MirrorView) (after : Requests) (leads : Leads previous t.mirror t.requests es new after) → HaveWholeSectors es t.requests
    → (left : List Disk) (stop : CrashesIn es previous t.mirror t.requests (λ m r. (m ≡ new) × (r ≡ after)) leads left)
    → LeftWholeUntil es previous t.mirror t.requests (λ m r. (m ≡ new) × (r ≡ after)) leads left stop → IsCrashOf es t left))

-- What is asked within a write that halted the mirror. Of one of marks, of a copy or of a log nothing is said here once it began
-- (`HaltedWrites` speaks of one that was left done or not done).
abbrev pub IsLeftHalting : Event → MirrorView → List Disk → Type 0
IsLeftHalting (Event.WriteFails k MemberPart.Superblock) old left = LeavesSuperWhole k old left
IsLeftHalting (Event.WriteFails k (MemberPart.RequestData n)) old left = Unit {0}
IsLeftHalting e old left = contents_of left ≡ contents_of old.disks

-- At any moment of a life a call does these events, and then a write fails that halts the mirror. The crash
-- comes after the events, before that write or within it.
abbrev pub CrashesAtHalts : Type 0
CrashesAtHalts =
    AtMoments (λ t.
    ((es : List Event) (previous : Option Event) (mid : MirrorView) (between : Requests) (leads : Leads previous t.mirror t.requests es mid between)
    → AllLeftWhole es previous t.mirror t.requests (λ m r. (m ≡ mid) × (r ≡ between)) leads
    → (failing : Event) (new : MirrorView) → HaltsAt mid between failing new → HaveWholeSectors (es ++ failing ∷ []) t.requests
    → (left : List Disk) → MayAllBeLeft mid.disks new.disks (contents_of left) → IsLeftHalting failing mid left → IsCrashOf es t left))

-- ---- each crash of which a device tells
-- The devices stand where they stood, and each tells of the crashes, at the steps of a write, of a `stop` and of
-- a resync. Of a copy the write of a run of sectors tells.
abbrev pub IsToldOf : Event → Type 0
IsToldOf (Event.Copy from k s) = ⊥
IsToldOf (Event.Remove k) = ⊥
IsToldOf (Event.Add number device) = ⊥
IsToldOf (Event.ReAdd own offset device after) = ⊥
IsToldOf (Event.SpoilTarget k) = ⊥
IsToldOf (Event.Enrol k role listed) = ⊥
IsToldOf e = Unit {0}

-- Within one of these events a crash might have left this on device k.
abbrev pub IsLeftInOne : (es : List Event) (previous : Option Event) (old : MirrorView) (before : Requests) (Then : MirrorView → Requests → Type 0)
    → InTurn previous old before es Then → ℕ → List ℕ → Type 0
IsLeftInOne [] previous old before Then t k c = ⊥
IsLeftInOne (e ∷ es) previous old before Then t k c = AtDevice k old.disks t.0.disks (λ d x. MayBeLeft d x c) ⊎ IsLeftInOne es (Some e) t.0 t.1 Then t.5 k c

-- Whatever a device tells, after such a call, that a crash since before it might have left there, a crash within one of its events might have left.
abbrev pub CrashesAreTold : Type 0
CrashesAreTold =
    (es : List Event) (previous : Option Event) (old new : MirrorView) (before after : Requests) (leads : Leads previous old before es new after) → AllOf IsToldOf es
    → AreHonest old.disks → AllLeftWhole es previous old before (λ m r. (m ≡ new) × (r ≡ after)) leads
    → (k i : ℕ) (d x : Disk) (c : List ℕ) → slice_get old.disks k ≡ Some d → slice_get new.disks k ≡ Some x → slice_get (drop (length d.crashes) x.crashes) i ≡ Some c
    → IsLeftInOne es previous old before (λ m r. (m ≡ new) × (r ≡ after)) leads k c
