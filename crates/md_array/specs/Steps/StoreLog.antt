-- The list of a member in sync is stored in its log.
use Rattle.std.specs.Prelude.{◌≡◌, ◌⊎◌, ⊤, [], ◌∷◌, ℕ, false, List, set, Result, MatchResult}
use Rattle.md_model.specs.Events.{Event, MemberPart}
use Rattle.md_badblocks.specs.Runs.{IsCanonical}
use Rattle.md_members.specs.DeviceWrites.Writes.{Write}
use Rattle.md_kept_members.specs.Enrolling.{HasRoomFor}
use Rattle.md_kept_members.specs.View.{MemberView}
use Rattle.md_faults.specs.declared.step_fault.StoreFault.{StoreFault}
use Rattle.md_faults.specs.declared.step_fault.StoreFault.TheVariants.{Halted, NotActive, MemberFailed}
use Rattle.md_kept_members.specs.OnDevices.Storing.{log_writes}
use Rattle.md_state.specs.DiskWrites.{IsWritten}
use Rattle.md_state.specs.Members.{IsInSync}
use Rattle.md_state.specs.Steps.StoreLog.{logged}
use Rattle.md_state.specs.Trying.{FailsWriting, HaltsWriting, RefusesHalted}
use Rattle.md_state.specs.View.{Disk, MirrorView}
use Rattle.md_array.specs.Events.{Happens, listed_on}

-- these writes were done on device k, of which there is one at most
abbrev pub AreWritten : ℕ → List Write → List Disk → List Disk → Type 0
AreWritten k [] before after = after ≡ before
AreWritten k (w ∷ ws) before after = (ws ≡ []) × IsWritten k w before after

pub record StoresLog (k : ℕ) (old new : MirrorView) : Type 0 where
  pub running : old.array.halted ≡ false
  pub member : MemberView
  pub in_sync : IsInSync old.array k member
  pub room : HasRoomFor member.superblock member.bad
  pub array : new.array ≡ record old.array { members = set old.array.members k (logged member) }
  pub disks : AreWritten k (log_writes member.superblock member.bad) old.disks new.disks

-- A write by which member k's log was to be stored failed, and the member is faulty, or the mirror halted.
pub record FailsToStoreLog (k : ℕ) (old new : MirrorView) : Type 0 where
  pub running : old.array.halted ≡ false
  pub member : MemberView
  pub in_sync : IsInSync old.array k member
  pub room : HasRoomFor member.superblock member.bad
  pub write : Write
  pub among : log_writes member.superblock member.bad ≡ write ∷ []
  pub fails : FailsWriting k write old new

pub record HaltsStoringLog (k : ℕ) (old new : MirrorView) : Type 0 where
  pub running : old.array.halted ≡ false
  pub member : MemberView
  pub in_sync : IsInSync old.array k member
  pub canonical : IsCanonical member.bad
  pub room : HasRoomFor member.superblock member.bad
  pub write : Write
  pub among : log_writes member.superblock member.bad ≡ write ∷ []
  pub halts : HaltsWriting k write old new

abbrev pub RefusesStoreLog : ℕ → MirrorView → MirrorView → StoreFault → Type 0
RefusesStoreLog k old new Halted = RefusesHalted old new ⊎ HaltsStoringLog k old new
RefusesStoreLog k old new NotActive = ⊥
RefusesStoreLog k old new (MemberFailed j) = (j ≡ k) × FailsToStoreLog k old new

abbrev pub IfLogFailed : Type 0 → StoreFault → Type 0
IfLogFailed P (MemberFailed j) = P
IfLogFailed P _ = ⊤

abbrev pub StoreLogHappens : ℕ → MirrorView → MirrorView → {T : Type 0} → Result T StoreFault → Type 0
StoreLogHappens k old new result =
    MatchResult result (λ _. Happens old (Event.StoreLog k (listed_on new k)) new) (IfLogFailed (Happens old (Event.WriteFails k MemberPart.Log) new))
