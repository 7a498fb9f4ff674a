-- A member that is being rebuilt gets data, while its device is lent (this project's own).
use Rattle.std.specs.Prelude.{◌≡◌, ℕ, true}
use Rattle.md_assembly.specs.States.{is_recovering}
use Rattle.md_kept_members.specs.View.{MemberView}
use Rattle.md_model.specs.Events.{Event}
use Rattle.md_state.specs.Steps.MakeClean.{IsIdle}
use Rattle.md_state.specs.Members.{IsMember}
use Rattle.md_state.specs.Missing.{is_rebuilt}
use Rattle.md_state.specs.View.{ArrayView, MirrorView}
use Rattle.md_array.specs.Events.{Happens, IsChangedAlone, IsSameBesideUnsaid}
use Rattle.md_array.specs.Steps.NoteResynced.{AreNoted}

-- A member may be rebuilt while nothing is in flight.
pub record MayRebuild (k : ℕ) (a : ArrayView) : Type 0 where
  pub idle : IsIdle a
  pub member : MemberView
  pub at : IsMember a k member
  pub rebuilt : is_rebuilt member.state ≡ true

-- Data changed in chunks that member k lacks, in any way, and nothing else did. The other devices may have been read. A recovering member
-- may lack a chunk by its mark alone: so each member in sync has the marks of memory stored by then, or an opening without the one that has
-- it would not know. No chunk changed of which its superblock says that it has it.
pub record Fills (k : ℕ) (old new : MirrorView) : Type 0 where
  pub may : MayRebuild k old.array
  pub noted : is_recovering may.member.state ≡ true → AreNoted old.array
  pub array : new.array ≡ old.array
  pub disks : IsChangedAlone k (IsSameBesideUnsaid old.array may.member) old.disks new.disks

-- lend, where of the devices no other one was written until they were back
abbrev pub FillHappens : MirrorView → Type 0
FillHappens old = (k : ℕ) (new : MirrorView) → Fills k old new → Happens old (Event.Fill k) new
