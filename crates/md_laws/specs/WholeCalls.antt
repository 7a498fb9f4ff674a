-- What is done by a call that is a list of events.
use Rattle.std.specs.Prelude.{Bool, ◌≡◌, ℕ, true, List, [], ◌∷◌, ◌++◌, Option}
use Rattle.md_assembly.specs.States.{is_in_sync, is_recovering, is_spare}
use Rattle.md_badblocks.specs.Runs.{IsCanonical}
use Rattle.md_bitmap.specs.Marks.{Bitmap}
use Rattle.md_kept_members.specs.View.{MemberView}
use Rattle.md_model.specs.Events.{Event, MemberPart}
use Rattle.md_state.specs.Steps.Fail.{FailsMember}
use Rattle.md_state.specs.Members.{IsMember}
use Rattle.md_state.specs.Steps.Remove.{Removes}
use Rattle.md_state.specs.Requests.{AreInFlight}
use Rattle.md_state.specs.View.{Disk, MirrorView}
use Rattle.md_array.specs.Steps.Add.{Adds, add_event}
use Rattle.md_array.specs.Steps.Admit.{Admits, FailsToAdmit, admit_event}
use Rattle.md_array.specs.Steps.Checkpoint.{Checkpoints, FailsToCheckpoint, checkpoint_event}
use Rattle.md_array.specs.Consistency.{IsConsistent}
use Rattle.md_array.specs.Steps.Enrol.{Enrols, FailsToEnrol, MayEnrolSectors}
use Rattle.md_array.specs.Steps.EnrolEvents.{FailsAtSuper, Prepares, enrol_event}
use Rattle.md_array.specs.Events.{listed_on}
use Rattle.md_array.specs.Steps.Fill.{Fills}
use Rattle.md_array.specs.InTurn.{AllLeftWhole, Leads, Requests}
use Rattle.md_array.specs.Steps.StoreLog.{FailsToStoreLog, StoresLog}
use Rattle.md_array.specs.Steps.NoteBad.{AreBelowListLimit, AreSectorsOf, NotesSectors}
use Rattle.md_array.specs.Steps.ReAdd.{ReAdds, re_add_event}
use Rattle.md_array.specs.Steps.RecordTarget.{FailsOnTarget}
use Rattle.md_array.specs.Spoiling.{SpoilsTarget}
use Rattle.md_array.specs.Worlds.{AreHonest}
use Rattle.md_laws.specs.Runs.{MirrorRun, Moment}

-- From any moment of a mirror a call that is a list of events is a run, and ends where the call says. The
-- laws over runs speak of it, and of a crash within one of its events.
abbrev pub CallsAreRuns : Type 0
CallsAreRuns =
    (es : List Event) (previous : Option Event) (t : Moment) (new : MirrorView) (after : Requests) (leads : Leads previous t.mirror t.requests es new after)
    → AreHonest t.mirror.disks → AllLeftWhole es previous t.mirror t.requests (λ m r. (m ≡ new) × (r ≡ after)) leads
    → (last : Moment) × MirrorRun t es last × ((last.mirror ≡ new) × (last.requests ≡ after))

-- A run after a run is a run.
abbrev pub RunsGoOn : Type 0
RunsGoOn = (es fs : List Event) (t mid last : Moment) → MirrorRun t es mid → MirrorRun mid fs last → MirrorRun t (es ++ fs) last

-- `fail` and `remove` are lists of one event each, whatever their devices are.
abbrev pub FailIsACall : Type 0
FailIsACall =
    (k : ℕ) (old new : MirrorView) → IsConsistent old → FailsMember k old new
    → (previous : Option Event) (requests : Requests) → AreInFlight old.array requests → Leads previous old requests (Event.Fail k ∷ []) new requests

abbrev pub RemoveIsACall : Type 0
RemoveIsACall =
    (k : ℕ) (disk : Disk) (old new : MirrorView) → IsConsistent old → Removes k disk old new
    → (previous : Option Event) (requests : Requests) → AreInFlight old.array requests → Leads previous old requests (Event.Remove k ∷ []) new requests

-- `add` is a list of one event, where the new device does what it answers.
abbrev pub AddIsACall : Type 0
AddIsACall =
    (k : ℕ) (device : Disk) (old new : MirrorView) → IsConsistent old → device.honest ≡ true → (r : Adds k device old new)
    → (previous : Option Event) (requests : Requests) → AreInFlight old.array requests
    → Leads previous old requests (add_event k device old new r ∷ []) new requests

-- `re_add` is a list of one event, where the device that it takes back does what it answers.
abbrev pub ReAddIsACall : Type 0
ReAddIsACall =
    (k : ℕ) (device : Disk) (old new : MirrorView) → IsConsistent old → device.honest ≡ true → (r : ReAdds k device old new)
    → (previous : Option Event) (requests : Requests) → AreInFlight old.array requests
    → Leads previous old requests (re_add_event k device old new r ∷ []) new requests

-- Data that a rebuild gives to one member while the devices are lent is an event.
abbrev pub FillIsACall : Type 0
FillIsACall =
    (k : ℕ) (old new : MirrorView) → IsConsistent old → Fills k old new
    → (previous : Option Event) (requests : Requests) → AreInFlight old.array requests → Leads previous old requests (Event.Fill k ∷ []) new requests

-- A failed write of the superblock of a member that is rebuilt is an event.
abbrev pub TargetFailureIsACall : Type 0
TargetFailureIsACall =
    (k : ℕ) (old new : MirrorView) → IsConsistent old → FailsOnTarget k old new
    → (previous : Option Event) (requests : Requests) → AreInFlight old.array requests → Leads previous old requests (Event.RecordTargetFails k ∷ []) new requests

-- The bitmap and the log of a member that is rebuilt are stored, in part or whole, by one event.
abbrev pub PrepareIsACall : Type 0
PrepareIsACall =
    (k : ℕ) (old new : MirrorView) → IsConsistent old → Prepares k old new
    → (previous : Option Event) (requests : Requests) → AreInFlight old.array requests → Leads previous old requests (Event.Prepare k ∷ []) new requests

-- `enrol` is two events: the member is prepared, and then it comes into sync. The second is an event of the
-- model where some content is held: by the members in sync, and by the new one in the chunks that it did not
-- lack.
abbrev pub EnrolIsACall : Type 0
EnrolIsACall =
    (k : ℕ) (copied lost : ℕ → Bool) (old new : MirrorView) → IsConsistent old → IsConsistent new → MayEnrolSectors k copied lost old
    → (r : Enrols k copied lost old new)
    → (previous : Option Event) (requests : Requests) → AreInFlight old.array requests
    → Leads previous old requests (Event.Prepare k ∷ enrol_event r ∷ []) new requests

-- An `enrol` of which the write of the superblock fails is two events: the member is prepared and spoiled,
-- whatever that write left.
abbrev pub FailedEnrolIsACall : Type 0
FailedEnrolIsACall =
    (k : ℕ) (copied lost : ℕ → Bool) (old new : MirrorView) → IsConsistent old → MayEnrolSectors k copied lost old
    → (f : FailsToEnrol k copied lost old new) → FailsAtSuper f
    → (previous : Option Event) (requests : Requests) → AreInFlight old.array requests
    → Leads previous old requests (Event.Prepare k ∷ Event.SpoilTarget k ∷ []) new requests

-- Any failed write of its superblock spoils a member that is rebuilt, that of a record too.
abbrev pub SpoilIsACall : Type 0
SpoilIsACall =
    (k : ℕ) (old new : MirrorView) → IsConsistent old → SpoilsTarget k old new
    → (previous : Option Event) (requests : Requests) → AreInFlight old.array requests → Leads previous old requests (Event.SpoilTarget k ∷ []) new requests

-- `admit` of a spare is one event.
abbrev pub AdmitIsACall : Type 0
AdmitIsACall =
    (k : ℕ) (old new : MirrorView) → IsConsistent old → (r : Admits k old new) → is_spare r.may.member.state ≡ true
    → (previous : Option Event) (requests : Requests) → AreInFlight old.array requests → Leads previous old requests (admit_event r ∷ []) new requests

-- An `admit` of a spare that fails is one event, which spoils the spare.
abbrev pub FailedAdmitIsACall : Type 0
FailedAdmitIsACall =
    (k : ℕ) (old new : MirrorView) → IsConsistent old → (f : FailsToAdmit k old new) → is_spare f.may.member.state ≡ true
    → (previous : Option Event) (requests : Requests) → AreInFlight old.array requests → Leads previous old requests (Event.SpoilTarget k ∷ []) new requests

-- `checkpoint` is one event of the model where some content is held by the members in sync.
abbrev pub CheckpointIsACall : Type 0
CheckpointIsACall =
    (k : ℕ) (copied : Bitmap) (old new : MirrorView) → IsConsistent old → (r : Checkpoints k copied old new)
    → (previous : Option Event) (requests : Requests) → AreInFlight old.array requests → Leads previous old requests (checkpoint_event r ∷ []) new requests

-- A `checkpoint` of a recovering member that fails is an event in any case.
abbrev pub FailedCheckpointIsACall : Type 0
FailedCheckpointIsACall =
    (k : ℕ) (copied : Bitmap) (old new : MirrorView) → IsConsistent old → (f : FailsToCheckpoint k copied old new) → is_recovering f.member.state ≡ true
    → (previous : Option Event) (requests : Requests) → AreInFlight old.array requests → Leads previous old requests (Event.SpoilTarget k ∷ []) new requests

-- A list of bad blocks grows in memory by one event, of a member in sync of a resynced array.
abbrev pub NoteBadIsACall : Type 0
NoteBadIsACall =
    (k : ℕ) (more : ℕ → Bool) (old new : MirrorView) → IsConsistent old → NotesSectors k more old new → ((m : MemberView) → IsMember old.array k m → is_in_sync m.state ≡ true)
    → old.array.resynced ≡ true → AreSectorsOf old more → AreBelowListLimit k more old
    → (previous : Option Event) (requests : Requests) → AreInFlight old.array requests → Leads previous old requests (Event.NoteBad k more ∷ []) new requests

-- A log is stored by one event.
abbrev pub StoreLogIsACall : Type 0
StoreLogIsACall =
    (k : ℕ) (old new : MirrorView) → IsConsistent old → (r : StoresLog k old new) → IsCanonical r.member.bad
    → (previous : Option Event) (requests : Requests) → AreInFlight old.array requests → Leads previous old requests (Event.StoreLog k (listed_on new k) ∷ []) new requests

-- A failed write of a log is one event.
abbrev pub StoreLogFailureIsACall : Type 0
StoreLogFailureIsACall =
    (k : ℕ) (old new : MirrorView) → IsConsistent old → FailsToStoreLog k old new
    → (previous : Option Event) (requests : Requests) → AreInFlight old.array requests → Leads previous old requests (Event.WriteFails k MemberPart.Log ∷ []) new requests
