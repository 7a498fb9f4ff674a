-- What a crash leaves of a mirror's devices: it comes between two calls or within one, of which its own contract says what may be
-- left (`MayAllBeLeft`).
use Rattle.std.specs.Prelude.{◌≡◌, ◌⊎◌, ℕ, ◌%◌, ◌<◌, Bool, true, false, List, [], ◌∷◌, ◌++◌, length, map, Option, slice_get, Some, None}
use Rattle.std.proofs.Common.{inl, inr}
use Rattle.md_assembly.specs.States.{is_recorded}
use Rattle.md_bitmap.specs.Marks.{Bitmap}
use Rattle.md_members.specs.Areas.{bitmap_sectors}
use Rattle.md_model.specs.Worlds.{Request}
use Rattle.md_inflight.specs.Requests.Pending.{PendingView}
use Rattle.md_kept_members.specs.View.{MemberView}
use Rattle.md_state.specs.View.{Disk, MirrorView}
use Rattle.md_state.specs.DiskWrites.{AtDevice}
use Rattle.md_state.specs.Members.{IsMember}
use Rattle.md_state.specs.Requests.{among}
use Rattle.md_state.specs.Steps.StoreMarks.{StoresMarkSector}
use Rattle.md_state.specs.Steps.WriteMember.{FailsToWrite, HaltsWritingTo, WritesTo}
use Rattle.md_array.specs.Steps.Admit.{Admits, FailsToAdmit}
use Rattle.md_array.specs.Steps.Checkpoint.{Checkpoints, FailsToCheckpoint}
use Rattle.md_array.specs.Events.{IsOldNewOrNone}
use Rattle.md_array.specs.Consistency.{IsConsistent}
use Rattle.md_array.specs.Steps.Enrol.{Enrols, MayEnrolSectors}
use Rattle.md_array.specs.Steps.EnrolEvents.{Prepares}
use Rattle.md_array.specs.Steps.Fill.{Fills}
use Rattle.md_array.specs.ReadAsKept.{AreReadAsKept}
use Rattle.md_array.specs.Steps.ReAdd.{ReAdds}
use Rattle.md_array.specs.Steps.Record.{FailsToRecord, HaltsRecording, Records, super_write}
use Rattle.md_array.specs.Steps.RecordTarget.{LeavesUnrecorded}
use Rattle.md_array.specs.Worlds.{AreHonest, block_on, super_in}
use Rattle.md_laws.specs.Runs.{Moment}
use Rattle.md_laws.specs.ReadAfterCrashes.{EndsInFirstSector, ReadsAs, AdmitsOrCheckpoints}
use Rattle.md_laws.specs.CrashesWithin.{MayAllBeLeft}

-- Of devices that were left what stands on them counts, and no more.
abbrev pub contents_of : List Disk → List (List ℕ)
contents_of disks = map (λ d. d.content) disks

-- What is left within a call that leads from the mirror at t to the next one.
abbrev pub IsLeftWithin : Moment → MirrorView → List Disk → Type 0
IsLeftWithin t next left = MayAllBeLeft t.mirror.disks next.disks (contents_of left)

-- What is left within `write_member`, whatever comes of the write.
pub record IsLeftWriting (t : Moment) (left : List Disk) : Type 0 where
  pub request : PendingView
  pub others : ℕ → Option Request
  pub in_flight : t.requests ≡ among request others
  pub whole : length request.bytes % 512 ≡ 0  -- of whole sectors, as `begin` asks
  pub on : ℕ
  pub next : MirrorView
  pub then : PendingView  -- the request after it
  pub call : WritesTo on t.mirror next request then ⊎ (FailsToWrite on t.mirror next request then ⊎ HaltsWritingTo on t.mirror next request then)
  pub within : IsLeftWithin t next left

-- What is left within `record` or `record_target`, whatever comes of the write, where it left the old
-- superblock, the new one or none: a premise on such crashes.
pub record IsLeftRecording (t : Moment) (left : List Disk) : Type 0 where
  pub on : ℕ
  pub next : MirrorView
  pub call : Records on t.mirror next ⊎ (FailsToRecord on t.mirror next ⊎ (HaltsRecording on t.mirror next ⊎ LeavesUnrecorded on t.mirror next))
  pub within : IsLeftWithin t next left
  pub super : (m : MemberView) → IsMember t.mirror.array on m → AtDevice on t.mirror.disks left (IsOldNewOrNone (super_write t.mirror.array m).bytes)

-- What is left within `record`, without the premise that the superblock is the old one, the new one or none.
-- The write is done, and both superblocks, the one that stands there and the one that is written, end within
-- the first sector.
pub record IsLeftRecordingShort (t : Moment) (left : List Disk) : Type 0 where
  pub on : ℕ
  pub next : MirrorView
  pub call : Records on t.mirror next
  pub within : IsLeftWithin t next left
  pub old : (d : Disk) → slice_get t.mirror.disks on ≡ Some d → EndsInFirstSector (block_on d.content)
  pub new : EndsInFirstSector (super_write t.mirror.array call.member).bytes

-- What is left within `store_marks`, where its write is done. One that fails is a failure that awaits its
-- record.
pub record IsLeftStoring (t : Moment) (left : List Disk) : Type 0 where
  pub on : ℕ
  pub block : ℕ
  pub inside : block < bitmap_sectors t.mirror.array.marks.chunks
  pub next : MirrorView
  pub call : StoresMarkSector on block t.mirror next
  pub within : IsLeftWithin t next left

-- What is left while the devices are lent to a rebuild of one member, which writes its data in chunks that it
-- lacks. The rebuild's contract says what the devices are when they come back, and what a crash leaves until
-- then.
pub record IsLeftFilling (t : Moment) (left : List Disk) : Type 0 where
  pub on : ℕ
  pub next : MirrorView
  pub call : Fills on t.mirror next
  pub within : IsLeftWithin t next left

-- What is left while the bitmap and the log of a member are stored, before its superblock.
pub record IsLeftPreparing (t : Moment) (left : List Disk) : Type 0 where
  pub on : ℕ
  pub next : MirrorView
  pub call : Prepares on t.mirror next
  pub within : IsLeftWithin t next left

-- What is left within `enrol`, as long as the superblock of the member stands as before: its bitmap and its
-- log are being stored.
pub record IsLeftEnrolling (t : Moment) (left : List Disk) : Type 0 where
  pub on : ℕ
  pub copied : ℕ → Bool
  pub lost : ℕ → Bool
  pub may : MayEnrolSectors on copied lost t.mirror
  pub next : MirrorView
  pub call : Enrols on copied lost t.mirror next
  pub within : IsLeftWithin t next left
  pub super : AtDevice on t.mirror.disks left (λ d e. block_on e.content ≡ block_on d.content)

-- What is left within the `re_add` after which t is, where the superblock of the device that it takes back
-- reads as after the call.
pub record IsLeftTakingBack (t : Moment) (left : List Disk) : Type 0 where
  pub on : ℕ
  pub device : Disk
  pub before : MirrorView
  pub call : ReAdds on device before t.mirror
  pub honest : device.honest ≡ true
  pub within : MayAllBeLeft (before.disks ++ device ∷ []) t.mirror.disks (contents_of left)
  pub reads : AtDevice (length before.disks) t.mirror.disks left (λ now e. ReadsAs (block_on e.content) (block_on now.content))

-- What is left within the `enrol` after which t is, where the superblock of the member stands as after the
-- call. Before the call an opening would have read there what was kept of it (`every_run`, clause
-- `read_as_kept`): of one whose superblock was spoiled, the new one may have stood there from the first.
pub record IsLeftEnrolled (t : Moment) (left : List Disk) : Type 0 where
  pub on : ℕ
  pub copied : ℕ → Bool
  pub lost : ℕ → Bool
  pub before : MirrorView
  pub sound : IsConsistent before
  pub honest : AreHonest before.disks
  pub failed_at : ℕ
  pub spoiled : ℕ → Bool
  pub read : AreReadAsKept before failed_at spoiled
  pub unspoiled : spoiled on ≡ false
  pub call : Enrols on copied lost before t.mirror
  pub within : MayAllBeLeft before.disks t.mirror.disks (contents_of left)
  pub super : AtDevice on t.mirror.disks left (λ now e. block_on e.content ≡ block_on now.content)

-- the calls by which a member that is rebuilt tells of it: `admit` and `checkpoint`, whatever comes of the write
abbrev pub IsTargetCall : ℕ → MirrorView → MirrorView → Type 0
IsTargetCall k old new = Admits k old new ⊎ (FailsToAdmit k old new ⊎ ((copied : Bitmap) × (Checkpoints k copied old new ⊎ FailsToCheckpoint k copied old new)))

-- What is left within `admit` of a spare or `checkpoint` of a recovering member, done or failed, where its
-- superblock reads as before, or none is read.
pub record IsLeftTargeting (t : Moment) (left : List Disk) : Type 0 where
  pub on : ℕ
  pub next : MirrorView
  pub call : IsTargetCall on t.mirror next
  pub recorded : (m : MemberView) → IsMember t.mirror.array on m → is_recorded m.state ≡ true
  pub within : IsLeftWithin t next left
  pub super : AtDevice on t.mirror.disks left (λ d e. ReadsAs (block_on e.content) (block_on d.content) ⊎ (super_in (block_on e.content) ≡ None))

-- What is left within the `admit` or `checkpoint` after which t is, where the member's superblock reads as
-- after the call.
pub record IsLeftTargeted (t : Moment) (left : List Disk) : Type 0 where
  pub on : ℕ
  pub before : MirrorView
  pub call : AdmitsOrCheckpoints on before t.mirror
  pub honest : AreHonest before.disks
  pub within : MayAllBeLeft before.disks t.mirror.disks (contents_of left)
  pub reads : AtDevice on t.mirror.disks left (λ now e. ReadsAs (block_on e.content) (block_on now.content))

-- What a crash leaves at t, or within a call from t. A call that is refused, and one that only changes memory (`begin`, `finish`,
-- `clear_idle`, `make_clean`, `note_resynced`, `fail`), leave what was there (`crashes_at_steps`); so does `remove`, and after it the
-- device that it handed back is none of these. So do `re_add` and `add`, and until they are done the device that comes in or comes
-- back is none of these. A crash within them that leaves it as it is after the call is one at the moment after the event, and so is
-- one that leaves a device that comes back with a superblock that reads as after it. One within a call by which a member that is rebuilt
-- tells of it, and that left some other superblock, is one after `SpoilTarget` (`crashes_at_steps`, clauses `as_spoiled`,
-- `enrol_as_spoiled` and `failed_enrol_as_spoiled`).
abbrev pub IsLeftByCrash : Moment → List Disk → Type 0
IsLeftByCrash t left =
    (contents_of left ≡ contents_of t.mirror.disks)
    ⊎ (IsLeftStoring t left
    ⊎ (IsLeftWriting t left
    ⊎ (IsLeftRecording t left
    ⊎ (IsLeftRecordingShort t left ⊎ (IsLeftTakingBack t left ⊎ (IsLeftFilling t left ⊎ (IsLeftPreparing t left ⊎ (IsLeftEnrolling t left
    ⊎ (IsLeftEnrolled t left ⊎ (IsLeftTargeting t left ⊎ IsLeftTargeted t left))))))))))

-- The bitmap and the log of member k were being stored, before its superblock.
abbrev pub IsStoringOwn : (t : Moment) (left : List Disk) → IsLeftByCrash t left → ℕ → Type 0
IsStoringOwn t left (inr (inr (inr (inr (inr (inr (inr (inl l)))))))) k = l.on ≡ k
IsStoringOwn t left (inr (inr (inr (inr (inr (inr (inr (inr (inl l))))))))) k = l.on ≡ k
IsStoringOwn t left is k = ⊥
