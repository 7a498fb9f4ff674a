-- What each member gets, and why none gets anything (the superblock's fields are those of md_p.h, the bitmap's those of md-bitmap.h;
-- which values they get is this project's own).
use Rattle.std.specs.Prelude.{◌≡◌, ◌⊎◌, ℕ, ◌+◌, ◌-◌, ◌^◌, ◌==◌, ◌||◌, Bool, true, false, not, min, bit_or, List, map, length, position, replicate, Option, Some, None, is_none, is_some, slice_get, if◌then◌else◌, pos, refl}
use Rattle.std.specs.List.{list_any}
use Rattle.std.proofs.Common.{◌∙◌}
use Rattle.std.proofs.lemmas.Nat.{and_or_apart}
use Rattle.md_super.specs.declared.superblock.Superblock.{Superblock}
use Rattle.md_super.specs.Profile.{unsupported_features}
use Rattle.md_bitmap.specs.declared.header.BitmapHeader.{BitmapHeader}
use Rattle.md_bitmap.specs.Marks.{Bitmap}
use Rattle.md_bitmap.specs.Sound.{IsSoundHeader, chunk_count}
use Rattle.md_members.specs.declared.info.MemberInfo.{MemberInfo}
use Rattle.md_assembly.specs.declared.fault.AssembleFault.TheVariants as assemble_fault
use Rattle.md_assembly.specs.Assembled.{DecidesRoles, superblocks}
use Rattle.md_assembly.specs.Faults.{IsFirstAssembleFault, NoAssembleFault}
use Rattle.md_assembly.specs.States.{is_in_sync, states_by}
use Rattle.md_create.specs.Values.{HasFirstMarks}
use Rattle.md_metadata.specs.declared.bitmap_grow.fault.GrowFault.{GrowFault}
use Rattle.md_metadata.specs.declared.bitmap_grow.fault.GrowFault.TheVariants.{BadChunk, NoRoom, Assemble, HasBitmap, NotInSync, NoMemory}
use Rattle.md_metadata.specs.declared.bitmap_grow.growth.Growth.{Growth}
use Rattle.md_metadata.specs.Grow.Places.{IsFirstPlace, NoPlace, reserved_for}

pub with_bitmap-supported : (map : ℕ) → unsupported_features map ≡ 0 → unsupported_features (bit_or map 1) ≡ 0
with_bitmap-supported map none = and_or_apart 0xffff_fff4 map 1 refl ∙ none

-- the superblock names a bitmap that starts at this sector, which it counts from its own
abbrev pub with_place : ℕ → Superblock → Superblock
with_place start v = record v {
  feature_map = bit_or v.feature_map 1;
  bitmap_offset = pos (start - 8);
  in_profile = record {
    features = with_bitmap-supported v.feature_map v.in_profile.features;
    level_is = v.in_profile.level_is;
    some_disks = v.in_profile.some_disks;
    few_disks = v.in_profile.few_disks;
    super_offset_is = v.in_profile.super_offset_is;
  };
}

-- a member with a bitmap there, as assembly sees it
abbrev pub with_bitmap : BitmapHeader → ℕ → MemberInfo → MemberInfo
with_bitmap h start info = record info { superblock = with_place start info.superblock; header = Some h }

-- the array was stopped: its resync_offset is all ones
abbrev pub is_clean : Superblock → Bool
is_clean v = v.resync_offset == 2 ^ 64 - 1

-- the member has a bitmap, as one has where a run before was stopped
abbrev pub has_header : MemberInfo → Bool
has_header info = is_some info.header

abbrev pub lacks_header : MemberInfo → Bool
lacks_header info = is_none info.header

-- a member whose superblock is not as new as the freshest
abbrev pub is_behind : ℕ → MemberInfo → Bool
is_behind events info = not (info.superblock.events == events)

-- The event count that all get. It rises by one, but where some member would be two behind if the next writes are not made: there
-- one is behind already, or has the risen count of a run that was stopped.
abbrev pub events_after : Bool → List MemberInfo → ℕ → ℕ
events_after had infos events =
    if had || list_any (is_behind events) infos then events else min (events + 1) (2 ^ 64 - 1)

-- the header of each member's bitmap
pub record IsGrownHeader (chunk_bytes reserved : ℕ) (shared : Superblock) (h : BitmapHeader) : Type 0 where
  pub uuid : h.uuid ≡ shared.set_uuid
  pub events : h.events ≡ shared.events
  pub events_cleared : h.events_cleared ≡ shared.events
  pub sync_size : h.sync_size ≡ shared.size
  pub state : h.state ≡ 0
  pub chunksize : h.chunksize ≡ chunk_bytes
  pub daemon_sleep : h.daemon_sleep ≡ 5
  pub write_behind : h.write_behind ≡ 0
  pub sectors_reserved : h.sectors_reserved ≡ reserved
  pub nodes : h.nodes ≡ 0
  pub cluster_name : h.cluster_name ≡ replicate 64 0

-- the chunks of the first member's array
pub record HasChunks (infos : List MemberInfo) (chunk_bytes chunks : ℕ) : Type 0 where
  pub first : MemberInfo
  pub is_first : slice_get infos 0 ≡ Some first
  pub sound : IsSoundHeader first.superblock.size chunk_bytes
  pub count : chunks ≡ chunk_count first.superblock.size chunk_bytes

-- the index of the first member that is not in sync
abbrev pub first_not_in_sync : Superblock → List MemberInfo → Option ℕ
first_not_in_sync v members = position (λ s. not (is_in_sync s)) (states_by v (superblocks members))

-- these make an array, and the superblock of this one decides
pub record MakeArray (members : List MemberInfo) (index : ℕ) (v : Superblock) : Type 0 where
  pub sound : NoAssembleFault members
  pub freshest : DecidesRoles (superblocks members) index v

-- why these are not all in sync in an array to which some bitmap is lacking
abbrev pub RefusesInSync : List MemberInfo → Bool → GrowFault → Type 0
RefusesInSync members some_lack (Assemble f) = IsFirstAssembleFault members f
RefusesInSync members some_lack HasBitmap = some_lack ≡ false
RefusesInSync members some_lack (NotInSync k) = (index : ℕ) × (v : Superblock) × MakeArray members index v × (first_not_in_sync v members ≡ Some k)
RefusesInSync members some_lack NoMemory = Unit {0}
RefusesInSync members some_lack _ = ⊥

-- all are in sync, and some lacks a bitmap
pub record AreInSync (members : List MemberInfo) (some_lack : Bool) (index : ℕ) (v : Superblock) : Type 0 where
  pub array : MakeArray members index v
  pub some : some_lack ≡ true
  pub in_sync : first_not_in_sync v members ≡ None

-- What the members get beside their own fields, where this superblock decides: no chunk is marked where the array was stopped clean, else
-- all are.
pub record IsMade (had : Bool) (members : List MemberInfo) (chunk_bytes chunks : ℕ) (v shared : Superblock) (h : BitmapHeader) (m : Bitmap) : Type 0 where
  pub shared_is : shared ≡ record v { events = events_after had members v.events }
  pub header : IsGrownHeader chunk_bytes (reserved_for chunks) shared h
  pub marks : HasFirstMarks (is_clean v) chunks m

-- The members get this: they are what was read, with a bitmap at one place, and an array in which each is in sync.
pub record IsGrowth (infos : List MemberInfo) (chunk_bytes : ℕ) (g : Growth) : Type 0 where
  pub chunks : ℕ
  pub has_chunks : HasChunks infos chunk_bytes chunks
  pub place : IsFirstPlace (reserved_for chunks) infos g.start
  pub first_header : BitmapHeader
  pub are : g.members.items ≡ map (with_bitmap first_header g.start) infos
  pub index : ℕ
  pub freshest : Superblock
  pub array : AreInSync g.members.items (list_any lacks_header infos) index freshest
  pub made : IsMade (list_any has_header infos) g.members.items chunk_bytes chunks freshest g.shared g.header g.marks

-- with some bitmap of chunks of so many bytes the members are refused as an array
abbrev pub RefusedAsArray : List MemberInfo → ℕ → GrowFault → Type 0
RefusedAsArray infos chunk_bytes fault =
    (header : BitmapHeader) × (start : ℕ) × (header.chunksize ≡ chunk_bytes) × RefusesInSync (map (with_bitmap header start) infos) (list_any lacks_header infos) fault

-- why there is no place for a bitmap
abbrev pub RefusesBitmapPlace : List MemberInfo → ℕ → GrowFault → Type 0
RefusesBitmapPlace infos chunk_bytes BadChunk = (first : MemberInfo) × (slice_get infos 0 ≡ Some first) × (IsSoundHeader first.superblock.size chunk_bytes → ⊥)
RefusesBitmapPlace infos chunk_bytes NoRoom = (chunks : ℕ) × HasChunks infos chunk_bytes chunks × NoPlace (reserved_for chunks) infos
RefusesBitmapPlace infos chunk_bytes (Assemble f) = (length infos ≡ 0) × (f ≡ assemble_fault.Empty)
RefusesBitmapPlace infos chunk_bytes _ = ⊥

-- why none gets anything
abbrev pub RefusesGrowth : List MemberInfo → ℕ → GrowFault → Type 0
RefusesGrowth infos chunk_bytes fault = RefusesBitmapPlace infos chunk_bytes fault ⊎ RefusedAsArray infos chunk_bytes fault
