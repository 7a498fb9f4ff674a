-- What an opening would read of the members' devices is what the mirror keeps of them.
use Rattle.std.specs.Prelude.{◌≡◌, ◌⊎◌, ℕ, ◌/◌, ◌<◌, ◌≤◌, Bool, true, false, not, ◌==◌, ◌||◌, List, slice_get, Some}
use Rattle.md_model.specs.Events.{Event}
use Rattle.md_model.specs.Runs.{spoiled_after}
use Rattle.md_model.specs.Sectors.{put}
use Rattle.md_model.specs.Worlds.{World}
use Rattle.md_format.specs.Fields.{number_at}
use Rattle.md_super.specs.declared.superblock.Superblock.{Superblock}
use Rattle.md_super.specs.Faults.{NoSuperFault}
use Rattle.md_super.specs.Format.{IsSuper}
use Rattle.md_members.specs.Members.{reads_log}
use Rattle.md_kept_members.specs.View.{MemberView}
use Rattle.md_assembly.specs.States.{is_recorded}
use Rattle.md_kept_members.specs.OnDevices.Storing.{sector_from_super}
use Rattle.md_state.specs.Members.{IsMember}
use Rattle.md_state.specs.Missing.{is_rebuilt}
use Rattle.md_state.specs.View.{Disk, ArrayView, MirrorView}
use Rattle.md_array.specs.Worlds.{at_member, block_on, header_on, is_listed}

-- this superblock is read on a device
pub record IsSuperOn (content : List ℕ) (v : Superblock) : Type 0 where
  pub fields : IsSuper (block_on content) v
  pub sound : NoSuperFault (block_on content)

-- A superblock is of the array, and no newer. It places a member's parts where the own fields that are kept
-- do, and its log lists the same sectors, by the same shift where it is read.
pub record IsOwnSuper (shared own : Superblock) (content : List ℕ) (v : Superblock) : Type 0 where
  pub set_uuid : v.set_uuid ≡ shared.set_uuid
  pub size : v.size ≡ shared.size
  pub raid_disks : v.raid_disks ≡ shared.raid_disks
  pub data_offset : v.data_offset ≡ own.data_offset
  pub bitmap_offset : v.bitmap_offset ≡ own.bitmap_offset
  pub bblog_size : v.bblog_size ≡ own.bblog_size
  pub bblog_offset : v.bblog_offset ≡ own.bblog_offset
  pub bblog_shift : reads_log v ≡ true → v.bblog_shift ≡ own.bblog_shift
  pub listed : (sector : ℕ) → is_listed v content sector ≡ is_listed own content sector
  pub no_newer : v.events ≤ shared.events

-- Any superblock that is read of this content is of the array, no newer, and places the member's parts as it
-- is kept.
abbrev pub HasOwnSuper : Superblock → Superblock → List ℕ → Type 0
HasOwnSuper shared own content = (v : Superblock) → IsSuperOn content v → IsOwnSuper shared own content v

-- the chunk size in the header of a member's bitmap, in bytes
abbrev pub chunk_size_on : Superblock → List ℕ → ℕ
chunk_size_on own content = number_at 4 52 (header_on content (sector_from_super own.bitmap_offset))

-- The bitmap's header on a device tells of chunks of so many sectors.
abbrev pub HasWidth : ℕ → Superblock → List ℕ → Type 0
HasWidth sectors own content = chunk_size_on own content / 512 ≡ sectors

-- any superblock that is read there is from before this count
abbrev pub IsFromBefore : ℕ → List ℕ → Type 0
IsFromBefore count content = (v : Superblock) → IsSuperOn content v → v.events < count

-- A member that failed since the opening may have any header. So may one that is rebuilt, as a write of its bitmap's first sector may have
-- failed: an opening reads chunks as wide on all of its members. A spoiled one, of which a write of its superblock failed, may have any
-- superblock.
pub record IsReadAsKept (a : ArrayView) (m : MemberView) (failed_at : ℕ) (is_spoiled : Bool) (content : List ℕ) : Type 0 where
  pub super : is_spoiled ≡ false → HasOwnSuper a.shared m.superblock content
  pub header : is_rebuilt m.state ≡ false
      → HasWidth a.chunks.sectors m.superblock content ⊎ ((is_recorded m.state ≡ false) × (is_spoiled ≡ false → IsFromBefore failed_at content))

-- failed_at is the count after the last failure, or 0; spoiled tells, by the index, which members are, or may be
-- misread for another reason (`misread_after`)
abbrev pub AreReadAsKept : MirrorView → ℕ → (ℕ → Bool) → Type 0
AreReadAsKept v failed_at spoiled =
    (k : ℕ) (d : Disk) (m : MemberView) → slice_get v.disks k ≡ Some d → IsMember v.array k m → IsReadAsKept v.array m failed_at (spoiled k) d.content

-- The log that member k's own fields name is in units of two sectors or more.
abbrev pub has_shift : ArrayView → ℕ → Bool
has_shift a k = at_member a k false (λ m. not (m.superblock.bblog_shift == 0))

-- Of which members an opening may read something else than is kept, after an event: of those that are spoiled, and of one whose log was read
-- with a shift and is stored. It is stored without one, and the superblock that says so comes after it: between the two an opening reads the
-- new log by the shift before, so that it finds other sectors listed than those of the member's list.
abbrev pub misread_after : Event → ArrayView → World → (ℕ → Bool) → ℕ → Bool
misread_after (Event.StoreLog k listed) a w before = put k (has_shift a k || before k) before
misread_after e a w before = spoiled_after e w before
