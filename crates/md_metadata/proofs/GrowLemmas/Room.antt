-- What the members have that get a bitmap.
use Rattle.std.proofs.Common.{◌≡◌, ℕ, ◌+◌, ◌*◌, ◌<◌, ◌≤◌, List, length, map, ap, sym, ◌∙◌, arith, subst, get_or}
use Rattle.std.specs.Prelude.{slice_get, Some}
use Rattle.std.proofs.lemmas.List.{length-map}
use Rattle.std.proofs.lemmas.Option.{same_Some, slice_get_within}
use Rattle.md_super.specs.declared.superblock.Superblock.{Superblock}
use Rattle.md_bitmap.specs.declared.header.BitmapHeader.{BitmapHeader}
use Rattle.md_bitmap.specs.Sound.{IsSoundHeader}
use Rattle.md_bitmap.specs.Sectors.{bitmap_sectors}
use Rattle.md_members.specs.declared.info.MemberInfo.{MemberInfo}
use Rattle.md_assembly.specs.Assembled.{DecidesRoles, superblocks}
use Rattle.md_assembly.specs.Faults.{NoAssembleFault}
use Rattle.md_assembly.proofs.Indices.{got_within}
use Rattle.md_state.specs.View.{Disk}
use Rattle.md_array.proofs.General.Indices.{at_map, got_in_map}
use Rattle.md_array.proofs.Openings.DevicesInTurn.{same_place}
use Rattle.md_array.proofs.Openings.Sound.{sizes_same}
use Rattle.md_metadata.specs.declared.bitmap_grow.growth.Growth.{Growth}
use Rattle.md_metadata.specs.Grow.Growth.{HasChunks, with_bitmap}
use Rattle.md_metadata.specs.Grow.Growing.{FitGrowth, FindsGrowth}
use Rattle.md_metadata.specs.Grow.Places.{IsFirstPlace, reserved_for}

-- the array has few chunks, and a member
module _ (infos : List MemberInfo) (chunk_bytes chunks : ℕ) (has : HasChunks infos chunk_bytes chunks) where
  pub some_members : 0 < length infos
  some_members = slice_get_within infos 0 has.first has.is_first

  pub few_chunks : chunks ≤ 1048576
  few_chunks = omega (arith, has.count, has.sound.few_chunks)

  pub sound_first : (v : Superblock) → slice_get (superblocks infos) 0 ≡ Some v → IsSoundHeader v.size chunk_bytes
  sound_first v at =
      let there : slice_get (superblocks infos) 0 ≡ Some has.first.superblock = got_in_map (λ (m : MemberInfo). m.superblock) infos 0 has.first has.is_first in
      subst (λ (w : Superblock). IsSoundHeader w.size chunk_bytes) (same_Some has.first.superblock v (sym there ∙ at)) has.sound

  module _ (members : List MemberInfo) (header : BitmapHeader) (start : ℕ) (are : members ≡ map (with_bitmap header start) infos) where
    pub freshest_within : (index : ℕ) (v : Superblock) → DecidesRoles (superblocks members) index v → index < length members
    freshest_within index v decides = omega (arith, slice_get_within (superblocks members) index v decides.listed, length-map members (λ (m : MemberInfo). m.superblock))

    -- any superblock of theirs has the first's size
    pub first_size : NoAssembleFault members → (index : ℕ) (v : Superblock) → slice_get (superblocks members) index ≡ Some v → v.size ≡ has.first.superblock.size
    first_size sound index v at =
        let found = at_map (λ (m : MemberInfo). m.superblock) members index v at in
        let first : slice_get members 0 ≡ Some (with_bitmap header start has.first) =
        subst (λ (ms : List MemberInfo). slice_get ms 0 ≡ Some (with_bitmap header start has.first)) (sym are) (got_in_map (with_bitmap header start) infos 0 has.first has.is_first) in
        ap (λ (w : Superblock). w.size) found.2 ∙ sizes_same members sound index 0 found.0 (with_bitmap header start has.first) found.1 first

    pub sound_size : NoAssembleFault members → (index : ℕ) (v : Superblock) → slice_get (superblocks members) index ≡ Some v → IsSoundHeader v.size chunk_bytes
    sound_size sound index v at = subst (λ (n : ℕ). IsSoundHeader n chunk_bytes) (sym (first_size sound index v at)) has.sound

-- the place is near, and after the superblock
pub near : (sectors : ℕ) (infos : List MemberInfo) (start : ℕ) → IsFirstPlace sectors infos start → start ≤ 65536
near sectors infos start place = omega (arith, place.is, place.few)

pub after_super : (sectors : ℕ) (infos : List MemberInfo) (start : ℕ) → IsFirstPlace sectors infos start → 16 ≤ start
after_super sectors infos start place = omega (arith, place.is)

pub reserved_holds : (chunks : ℕ) → bitmap_sectors chunks ≤ reserved_for chunks
reserved_holds chunks = omega arith

-- each device has room for the bitmap
module _ (chunk_bytes : ℕ) (before seen : List Disk) (g : Growth) (found : FindsGrowth chunk_bytes before seen g) where
  chunks_are : g.marks.chunks ≡ found.growth.chunks
  chunks_are = found.growth.made.marks.chunks_are

  as_many : length seen ≡ length g.members.items
  as_many =
      found.untouched.same.as_many ∙ sym found.read.as_many ∙ sym (length-map found.infos (with_bitmap found.growth.first_header g.start))
      ∙ ap length (sym found.growth.are)

  room : (k : ℕ) (d : Disk) → slice_get seen k ≡ Some d → 512 * (g.start + bitmap_sectors g.marks.chunks) ≤ length d.content
  room k d at =
      let was = same_place before seen k d found.untouched.same.as_many at d in
      let a = get_or before k d in
      let within : k < length found.infos = omega (arith, slice_get_within before k a was, found.read.as_many) in
      let info = got_within found.infos k within in
      let read = found.read.each k a info.0 was info.1 in
      let free = found.growth.place.room k info.0 info.1 in
      let same : length d.content ≡ length a.content = ap length (found.untouched.content k a d was at) in
      let holds : bitmap_sectors g.marks.chunks ≤ reserved_for found.growth.chunks = subst (λ (n : ℕ). bitmap_sectors n ≤ reserved_for found.growth.chunks) (sym chunks_are) (reserved_holds found.growth.chunks) in
      omega (arith, same, read.placed.data_within, free.before_data, holds)

  pub have_room : FitGrowth g seen
  have_room = record {
    few = omega (arith, chunks_are, few_chunks found.infos chunk_bytes found.growth.chunks found.growth.has_chunks);
    after_super = after_super (reserved_for found.growth.chunks) found.infos g.start found.growth.place;
    as_many = as_many;
    room = room;
  }
