-- The passes of a rebuild in an array as a mirror keeps it in memory.
use Rattle.std.specs.Prelude.{◌≡◌, ◌≢◌, ◌⊎◌, ◌↔◌, ℕ, ◌*◌, ◌^◌, ◌<◌, true, false, List, [], ◌∷◌, ◌++◌, length, Contains, count_by}
use Rattle.std.specs.Int.{div_ceil}
use Rattle.md_badblocks.specs.Runs.{IsBad}
use Rattle.md_bitmap.specs.declared.chunks.Chunks.{Chunks}
use Rattle.md_bitmap.specs.Marks.{Bitmap, is_set}
use Rattle.md_assembly.specs.States.{is_in_sync, is_in_sync_as}
use Rattle.md_cert.specs.declared.slots.Slot.{Slot}
use Rattle.md_kept_members.specs.Enrolling.{IsOfChunk}
use Rattle.md_kept_members.specs.View.{MemberView}
use Rattle.md_pass.specs.Copied.{AreJoined, AreUncopied, failed_slots}
use Rattle.md_state.specs.Members.{IsMember, IsPermitted, IsServed}
use Rattle.md_state.specs.Steps.NoteBad.{NotesBad}
use Rattle.md_state.specs.View.{ArrayView}
use Rattle.md_copy.specs.PassLaws.Passes.{AddsPass, AreAllPasses, ArePasses, LeadsToPasses, IsCopiedIn, IsPassOf, PassView, ServesAtMost, slots_of_pass}

-- the chunk is of the array, and the member in sync in the role lists no sector of it
abbrev pub ServesAs : ArrayView → ℕ → ℕ → Type 0
ServesAs a chunk role = (role < 32) × (chunk < div_ceil a.chunks.size a.chunks.sectors) × IsServed a chunk role

-- A plan may have it read in the role: in that of a write-mostly member only where no other serves it. So a later table may have roles of
-- write-mostly members that an earlier one had not, once the others list the chunk.
abbrev pub MayServe : ArrayView → ℕ → ℕ → Type 0
MayServe a chunk role = (role < 32) × (chunk < div_ceil a.chunks.size a.chunks.sectors) × IsPermitted a chunk role

-- a slot that failed is the member's, and has this sector of its device
pub record IsOfFailed (chunks : Chunks) (failed : List Slot) (m : MemberView) (sector : ℕ) : Type 0 where
  pub slot : Slot
  pub there : Contains failed slot
  pub own : is_in_sync_as slot.source m.state ≡ true
  pub of_chunk : IsOfChunk chunks m.superblock.data_offset slot.chunk sector

-- A member before and after: it lists the chunks of its slots that failed too. Its state, where its data start and whether it is write-mostly are
-- as before.
pub record ListsOwn (chunks : Chunks) (failed : List Slot) (m n : MemberView) : Type 0 where
  pub state : n.state ≡ m.state
  pub offset : n.superblock.data_offset ≡ m.superblock.data_offset
  pub flags : n.superblock.devflags ≡ m.superblock.devflags
  pub bad : (sector : ℕ) → IsBad n.bad sector ↔ (IsBad m.bad sector ⊎ IsOfFailed chunks failed m sector)

-- The chunk of each slot that failed came to its source's list, and no list grew otherwise. Records may be due or stored meanwhile, and a target's
-- offset may rise.
pub record ListsFailed (failed : List Slot) (old new : ArrayView) : Type 0 where
  pub chunks : new.chunks ≡ old.chunks
  pub marks : new.marks ≡ old.marks
  pub as_many : length new.members ≡ length old.members
  pub before : (k : ℕ) (n : MemberView) → IsMember new k n → (m : MemberView) × IsMember old k m × ListsOwn old.chunks failed m n
  pub after : (k : ℕ) (m : MemberView) → IsMember old k m → (n : MemberView) × IsMember new k n × ListsOwn old.chunks failed m n

abbrev pub ArrayPasses : List PassView → ArrayView → List ℕ → ArrayView → Type 0
ArrayPasses = ArePasses ServesAs MayServe ListsFailed

abbrev pub AreAllArrayPasses : List PassView → ArrayView → List ℕ → ArrayView → Type 0
AreAllArrayPasses = AreAllPasses ServesAs MayServe ListsFailed

abbrev pub ArrayGoesOn : List PassView → ArrayView → List ℕ → ArrayView → List ℕ → Type 0
ArrayGoesOn = LeadsToPasses ServesAs MayServe ListsFailed

abbrev pub IsArrayPass : ArrayView → List ℕ → PassView → Type 0
IsArrayPass = IsPassOf ServesAs MayServe ListsFailed

abbrev pub AddsArrayPass : List PassView → ArrayView → List ℕ → ArrayView → List ℕ → PassView → ArrayView → Type 0
AddsArrayPass = AddsPass ServesAs MayServe ListsFailed

-- ---- all passes together
abbrev pub PassesEnd : Type 0
PassesEnd = (passes : List PassView) (a end : ArrayView) (chunks : List ℕ) → ArrayPasses passes a chunks end → AreAllArrayPasses passes a chunks end

-- before the first pass, after one of which slots failed, and after the last
pub record PassesGoOn : Type 0 where
  pub begin : (a : ArrayView) (chunks : List ℕ) → ArrayGoesOn [] a chunks a chunks
  pub step : (passes : List PassView) (a b c : ArrayView) (chunks left : List ℕ) (p : PassView) → ArrayGoesOn passes a chunks b left → IsArrayPass b left p → p.failed ≢ []
      → ListsFailed p.failed b c → AddsArrayPass passes a chunks b left p c
  pub last : (passes : List PassView) (a b : ArrayView) (chunks left : List ℕ) (p : PassView) → ArrayGoesOn passes a chunks b left → IsArrayPass b left p → p.failed ≡ []
      → ArrayPasses (passes ++ p ∷ []) a chunks b

-- ---- the chunks that were copied
-- the slots of a pass that failed are those whose chunks were not copied by its end
abbrev pub IsFailedOf : PassView → Bitmap → Type 0
IsFailedOf p copied = p.failed ≡ failed_slots (slots_of_pass p) copied

-- the set has the chunks that the passes copied
abbrev pub AreCopiedBy : List PassView → Bitmap → Type 0
AreCopiedBy passes copied = (c : ℕ) → (is_set copied.bytes c ≡ true) ↔ IsCopiedIn passes c

-- the chunks of the array, each counted for each member in sync
abbrev pub most_failures : ArrayView → ℕ
most_failures a = count_by (λ m. is_in_sync m.state) a.members * div_ceil a.chunks.size a.chunks.sectors

pub record CopiesAdd : Type 0 where
  pub none : (copied : Bitmap) → ((c : ℕ) → is_set copied.bytes c ≡ false) → AreCopiedBy [] copied
  pub more : (passes : List PassView) (p : PassView) (old new : Bitmap) → AreCopiedBy passes old → AreJoined (slots_of_pass p) old new → IsFailedOf p new
      → AreUncopied (slots_of_pass p) old → AreCopiedBy (passes ++ p ∷ []) new
  pub most : (a : ArrayView) → ServesAtMost ServesAs MayServe ListsFailed a (most_failures a)

-- ---- how lists grow
-- member k is the one in sync in the role
pub record IsSourceInRole (a : ArrayView) (k role : ℕ) : Type 0 where
  pub member : MemberView
  pub at : IsMember a k member
  pub in_sync : is_in_sync_as role member.state ≡ true
  pub alone : (j : ℕ) (n : MemberView) → IsMember a j n → is_in_sync_as role n.state ≡ true → j ≡ k

-- a list can have each sector of the chunk on member k
abbrev pub IsListable : ArrayView → ℕ → ℕ → Type 0
IsListable a k chunk = (m : MemberView) → IsMember a k m → (sector : ℕ) → IsOfChunk a.chunks m.superblock.data_offset chunk sector → sector < 2 ^ 54

pub record ListsAdd : Type 0 where
  pub none : (a : ArrayView) → ListsFailed [] a a
  pub more : (first second : List Slot) (a b c : ArrayView) → ListsFailed first a b → ListsFailed second b c → ListsFailed (first ++ second) a c
  pub one : (k : ℕ) (slot : Slot) (a b : ArrayView) → NotesBad k slot.chunk a b → IsSourceInRole a k slot.source → IsListable a k slot.chunk → ListsFailed (slot ∷ []) a b
