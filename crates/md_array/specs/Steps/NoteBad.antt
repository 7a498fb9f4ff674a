-- The list of a member in sync grows, in memory alone.
use Rattle.std.specs.Prelude.{◌≡◌, ⊤, ◌+◌, ◌^◌, ◌<◌, ℕ, Bool, true, false, ◌&&◌, nat_lt, Result, MatchResult}
use Rattle.md_model.specs.Events.{Event}
use Rattle.md_model.specs.Listing.{of_chunk}
use Rattle.md_badblocks.specs.Runs.{IsBad}
use Rattle.md_badblocks.specs.declared.run.Run.{Run}
use Rattle.md_kept_members.specs.SectorLists.{in_chunk, in_runs}
use Rattle.md_kept_members.specs.View.{MemberView}
use Rattle.md_faults.specs.declared.note_fault.NoteFault.{NoteFault}
use Rattle.md_state.specs.Members.{IsMember}
use Rattle.md_state.specs.Steps.NoteBad.{ListsMore, NotesMore, WhyMoreUnlisted, WhyUnlisted}
use Rattle.md_state.specs.Trying.{Refuses}
use Rattle.md_state.specs.View.{MirrorView, geometry_of}
use Rattle.md_array.specs.Events.{Happens}

-- ---- any sectors of the array
pub record NotesSectors (k : ℕ) (more : ℕ → Bool) (old new : MirrorView) : Type 0 where
  pub disks : new.disks ≡ old.disks
  pub notes : NotesMore k more old.array new.array

abbrev pub RefusesSectors : ℕ → (ℕ → Bool) → MirrorView → MirrorView → NoteFault → Type 0
RefusesSectors k more old new fault = Refuses old new (WhyMoreUnlisted k more old.array fault)

-- No list has sectors from 2^54 on, and no device: so all these sectors are listed then.
abbrev pub AreBelowListLimit : ℕ → (ℕ → Bool) → MirrorView → Type 0
AreBelowListLimit k more v = (m : MemberView) → IsMember v.array k m → (s : ℕ) → more s ≡ true → m.superblock.data_offset + s < 2 ^ 54

-- Each is a sector of the array.
abbrev pub AreSectorsOf : MirrorView → (ℕ → Bool) → Type 0
AreSectorsOf v more = (s : ℕ) → more s ≡ true → s < v.array.chunks.size

-- What a list says past the end of the array is no matter of the model.
abbrev pub within : MirrorView → (ℕ → Bool) → ℕ → Bool
within v more s = nat_lt s v.array.chunks.size && more s

abbrev pub NoteSectorsHappens : ℕ → (ℕ → Bool) → MirrorView → MirrorView → {T E : Type 0} → Result T E → Type 0
NoteSectorsHappens k more old new result = MatchResult result (λ _. Happens old (Event.NoteBad k more) new) (λ _. ⊤)

-- ---- sectors that are known not to be on a device, as a map says of a copy
-- Nothing is stored, and the log needs no room for them.
pub record RegardsSectors (k : ℕ) (more : ℕ → Bool) (old new : MirrorView) : Type 0 where
  pub disks : new.disks ≡ old.disks
  pub lists : ListsMore k more old.array new.array

-- What regards sectors as bad is the event of sectors that are noted, where these may be.
abbrev pub RegardHappens : ℕ → (ℕ → Bool) → MirrorView → MirrorView → {T E : Type 0} → Result T E → Type 0
RegardHappens k more old new result =
    old.array.halted ≡ false → old.array.resynced ≡ true → AreSectorsOf old more → NoteSectorsHappens k more old new result

-- ---- those of a chunk
abbrev pub NotesChunk : ℕ → ℕ → MirrorView → MirrorView → Type 0
NotesChunk k chunk old new = NotesSectors k (in_chunk old.array.chunks chunk) old new

abbrev pub RefusesChunk : ℕ → ℕ → MirrorView → MirrorView → NoteFault → Type 0
RefusesChunk k chunk old new fault = Refuses old new (WhyUnlisted k chunk old.array fault)

abbrev pub IsBelowListLimit : ℕ → ℕ → MirrorView → Type 0
IsBelowListLimit k chunk v = AreBelowListLimit k (in_chunk v.array.chunks chunk) v

abbrev pub NoteHappens : ℕ → ℕ → MirrorView → MirrorView → {T E : Type 0} → Result T E → Type 0
NoteHappens k chunk old new result = NoteSectorsHappens k (of_chunk (geometry_of old.array) chunk) old new result
