-- A spare is admitted: its superblock puts it in a role, where it is recovering (this project's own order: before any other superblock
-- tells of that role).
use Rattle.std.specs.Prelude.{◌≡◌, ◌⊎◌, ⊤, ℕ, None, Result, MatchResult}
use Rattle.md_faults.specs.declared.admit_fault.AdmitFault.{AdmitFault}
use Rattle.md_faults.specs.declared.admit_fault.AdmitFault.TheVariants.{Halted, NoRole, EventsFull, TargetFault, NoMemory}
use Rattle.md_kept_members.specs.TakingBack.{admitted_member}
use Rattle.md_model.specs.Events.{Event}
use Rattle.md_kept_members.specs.OnDevices.Superblocks.{IsReadable}
use Rattle.md_state.specs.Steps.Admit.{MayAdmit, RefusesToAdmit, admitted}
use Rattle.md_state.specs.DiskWrites.{AtDevice, IsFailed, IsWritten}
use Rattle.md_state.specs.Trying.{Refuses}
use Rattle.md_state.specs.View.{Disk, MirrorView}
use Rattle.md_super.specs.Merge.{merged}
use Rattle.md_array.specs.Events.{Happens, listed_on}
use Rattle.md_array.specs.Steps.Record.{super_write}
use Rattle.md_array.specs.Worlds.{block_on, super_in}

-- A spare is admitted: its superblock was written, once.
pub record Admits (k : ℕ) (old new : MirrorView) : Type 0 where
  pub role : ℕ
  pub may : MayAdmit k old.array role
  pub array : new.array ≡ admitted old.array k may.member role
  pub readable : IsReadable (merged new.array.shared (admitted_member role may.member).superblock)  -- no condition: so it is of every superblock that is kept
  pub disks : IsWritten k (super_write new.array (admitted_member role may.member)) old.disks new.disks

-- The write of the superblock by which a spare was to be admitted failed, and in memory all is as before.
pub record FailsToAdmit (k : ℕ) (old new : MirrorView) : Type 0 where
  pub role : ℕ
  pub may : MayAdmit k old.array role
  pub array : new.array ≡ old.array
  pub readable : IsReadable (merged (admitted old.array k may.member role).shared (admitted_member role may.member).superblock)
  pub disks : IsFailed k (super_write (admitted old.array k may.member role) (admitted_member role may.member)) old.disks new.disks

abbrev pub RefusesAdmit : ℕ → MirrorView → MirrorView → AdmitFault → Type 0
RefusesAdmit k old new Halted = Refuses old new (RefusesToAdmit k old.array Halted)
RefusesAdmit k old new NoRole = Refuses old new (RefusesToAdmit k old.array NoRole)
RefusesAdmit k old new EventsFull = Refuses old new (RefusesToAdmit k old.array EventsFull)
RefusesAdmit k old new TargetFault = FailsToAdmit k old new
RefusesAdmit k old new NoMemory = Refuses old new ((role : ℕ) × MayAdmit k old.array role)

-- ---- the event
abbrev pub admit_event : {k : ℕ} {old new : MirrorView} → Admits k old new → Event
admit_event {k} {old} {new} r = Event.Admit k r.role (listed_on new k)

-- An `admit` was done by this event.
pub record DidAdmit (e : Event) (old new : MirrorView) : Type 0 where
  pub index : ℕ
  pub admits : Admits index old new
  pub event : e ≡ admit_event admits

-- A superblock's write that failed left the old superblock, or one that can't be decoded: then the next opening may find the device
-- again. Whatever it left, the member is spoiled (`SpoilTarget`), and the next opening has to leave it out.
abbrev pub IsOldOrNone : Disk → Disk → Type 0
IsOldOrNone d e = (block_on e.content ≡ block_on d.content) ⊎ (super_in (block_on e.content) ≡ None)

abbrev pub FailsOnTargetAlone : ℕ → MirrorView → MirrorView → Type 0
FailsOnTargetAlone k old new = AtDevice k old.disks new.disks IsOldOrNone → Happens old (Event.RecordTargetFails k) new

abbrev pub FailsAsTarget : ℕ → MirrorView → MirrorView → Type 0
FailsAsTarget k old new = FailsOnTargetAlone k old new × Happens old (Event.SpoilTarget k) new

abbrev pub IfAdmitFailed : Type 0 → AdmitFault → Type 0
IfAdmitFailed P TargetFault = P
IfAdmitFailed P _ = ⊤

abbrev pub AdmitHappens : ℕ → MirrorView → MirrorView → {T : Type 0} → Result T AdmitFault → Type 0
AdmitHappens k old new result =
    MatchResult result (λ _. (role : ℕ) × Happens old (Event.Admit k role (listed_on new k)) new) (IfAdmitFailed (FailsAsTarget k old new))
