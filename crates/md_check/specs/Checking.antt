-- The members of a mirror are compared: what comes of it, and why it is refused.
use Rattle.std.specs.Prelude.{◌≡◌, ℕ, ◌<◌, ◌↔◌, true, false, List, slice_get}
use Rattle.std.specs.List.{All}
use Rattle.md_bitmap.specs.Marks.{Bitmap, is_set}
use Rattle.md_bitmap.specs.Chunks.{InChunk}
use Rattle.md_streams.specs.declared.gate.Gate.{Ghosts}
use Rattle.md_collect.specs.Workers.Gates.{IsTold}
use Rattle.md_assembly.specs.States.{is_in_sync, is_in_sync_as}
use Rattle.md_kept_members.specs.View.{MemberView}
use Rattle.md_state.specs.DeviceChanges.{EachPair}
use Rattle.md_state.specs.DiskWrites.{AtDevice}
use Rattle.md_state.specs.Steps.CopyData.{Lists}
use Rattle.md_state.specs.Steps.MakeClean.{HasInFlight, IsIdle}
use Rattle.md_state.specs.Members.{IsAlone, IsInSync, IsMember}
use Rattle.md_state.specs.Rests.{Rests}
use Rattle.md_state.specs.Trying.{Refuses, RefusesHalted}
use Rattle.md_state.specs.View.{ArrayView, Disk, MirrorView, of_disks}
use Rattle.md_array.specs.Worlds.{AreHonest}
use Rattle.md_check.specs.declared.fault.CheckFault.{CheckFault}
use Rattle.md_check.specs.declared.fault.CheckFault.TheVariants.{Halted, InFlight, NoMemory, ReadFault}
use Rattle.md_collect.specs.declared.found.Comparison.{Comparison}
use Rattle.md_collect.specs.declared.found.Pair.{Pair}
use Rattle.md_check.specs.Differences.{KeepsPairs}
use Rattle.md_check.specs.Mismatches.{CountsMismatches, Mismatches, MismatchesBetween}
use Rattle.md_check.specs.Pairs.{pair_names, pairs_in_sync}
use Rattle.md_check.specs.Readings.{FailsUnlisted}

-- Of members that are not in sync no device was used, and none at all where one member is in sync.
pub record UsesInSync (old new : MirrorView) : Type 0 where
  pub others : (k : ℕ) (m : MemberView) → IsMember old.array k m → is_in_sync m.state ≡ false → slice_get new.disks k ≡ slice_get old.disks k
  pub alone : IsAlone old.array → new ≡ old

-- The set is that of the chunks of the mirror before in which two differ. Nothing was written, nothing was in flight, and no
-- read failed.
pub record FindsMismatches (old new : MirrorView) (set : Bitmap) : Type 0 where
  pub idle : IsIdle old.array
  pub rests : Rests old new
  pub uses : UsesInSync old new
  pub unfailing : EachPair (λ _ d e. e.failures ≡ d.failures) old.disks new.disks
  pub chunks : set.chunks ≡ old.array.marks.chunks
  pub bits : AreHonest old.disks → (c : ℕ) → (is_set set.bytes c ≡ true) ↔ Mismatches old.disks old.array c

-- the pair's chunks are those in which its two members differ
abbrev pub AreBetween : List Disk → ArrayView → Pair → Type 0
AreBetween disks a pair =
    (c : ℕ) → (is_set pair.chunks.bytes c ≡ true) ↔ MismatchesBetween disks a pair.one pair.other c

-- The count is that of the mirror before. Nothing was written, nothing was in flight, and no read failed.
pub record Checks (old new : MirrorView) (count : ℕ) : Type 0 where
  pub idle : IsIdle old.array
  pub rests : Rests old new
  pub uses : UsesInSync old new
  pub unfailing : EachPair (λ _ d e. e.failures ≡ d.failures) old.disks new.disks
  pub counts : AreHonest old.disks → CountsMismatches old.disks old.array count

-- The chunks in which some two members differ are found, and each two members in sync, rising, with the chunks in
-- which these two do: by what the mirror had before.
pub record ComparesMembers (old new : MirrorView) (found : Comparison) : Type 0 where
  pub finds : FindsMismatches old new found.chunks
  pub pairs : pair_names found.pairs.items ≡ pairs_in_sync old.array
  pub sized : All (λ pair. pair.chunks.chunks ≡ old.array.marks.chunks) found.pairs.items
  pub between : AreHonest old.disks → All (λ pair. AreBetween old.disks old.array pair) found.pairs.items

-- of the same pairs, the chunks in which members differ, of which none were found before
pub record FindsOfPairs (before after : Comparison) (old new : MirrorView) : Type 0 where
  pub kept : KeepsPairs before after
  pub rests : Rests old new
  pub uses : UsesInSync old new
  pub unfailing : EachPair (λ _ d e. e.failures ≡ d.failures) old.disks new.disks
  pub bits : AreHonest old.disks
      → (c : ℕ) → (is_set after.chunks.bytes c ≡ true) ↔ Mismatches old.disks old.array c
  pub between : AreHonest old.disks → All (λ pair. AreBetween old.disks old.array pair) after.pairs.items

-- the chunk has a sector that the member does not list
pub record HasUnlistedSector (a : ArrayView) (m : MemberView) (c : ℕ) : Type 0 where
  pub sector : ℕ
  pub inside : InChunk a.chunks.sectors a.chunks.size c sector
  pub unlisted : Lists m sector → ⊥

-- Where two members are in sync, the gate was told of the read of each chunk of each of them, in the member's role; of a chunk
-- of which the member lists each sector nothing is said.
abbrev pub IsToldOfMembers : {G : Type 0} → Ghosts G → G → ArrayView → Type 0
IsToldOfMembers t gate a =
    (IsAlone a → ⊥) → (k role c : ℕ) (m : MemberView) → IsMember a k m → is_in_sync_as role m.state ≡ true
    → HasUnlistedSector a m c → IsTold t gate role c

-- Member j is in sync, and the first whose device counts one failure more or several: a read of nothing but bytes of this chunk
-- failed, and of no sector that it lists.
pub record FailsChecking (old new : MirrorView) (j c : ℕ) : Type 0 where
  pub idle : IsIdle old.array
  pub rests : Rests old new
  pub uses : UsesInSync old new
  pub member : MemberView
  pub in_sync : IsInSync old.array j member
  pub sector : ℕ
  pub inside : InChunk old.array.chunks.sectors old.array.chunks.size c sector
  pub unlisted : Lists member sector → ⊥
  pub failed : AtDevice j old.disks new.disks (λ d e. d.honest ≡ true → d.failures < e.failures)
  pub there : AtDevice j old.disks new.disks (λ d e. FailsUnlisted of_disks d e member.superblock.data_offset old.array.chunks (Lists member) c)
  pub earlier : EachPair (λ k d e. k < j → e.failures ≡ d.failures) old.disks new.disks

abbrev pub RefusesCheck : MirrorView → MirrorView → CheckFault → Type 0
RefusesCheck old new Halted = RefusesHalted old new
RefusesCheck old new (InFlight number) = Refuses old new (HasInFlight number old.array)
RefusesCheck old new (ReadFault j c) = FailsChecking old new j c
RefusesCheck old new NoMemory = Refuses old new (IsIdle old.array)
