-- Devices that were lent and have come back: the mirror is consistent again, and an opening reads what is kept.
use Rattle.std.proofs.Common.{◌≡◌, ℕ, ◌+◌, ◌*◌, ◌/◌, ◌<◌, ◌≤◌, ◌⊎◌, inl, inr, true, false, List, slice_get, Some, pos, refl, sym, ap, ◌∙◌, subst, arith, Bool}
use Rattle.std.specs.Int.{div_ceil}
use Rattle.std.proofs.Math.Nat.{add-mul, mul-le-mul_right}
use Rattle.std.proofs.lemmas.Grind.{div_ceil_times}
use Rattle.std.proofs.lemmas.Int.{ints}
use Rattle.std.proofs.lemmas.Option.{slice_get_within}
use Rattle.md_device.specs.Splice.{part}
use Rattle.md_format.specs.Fields.{number_at}
use Rattle.md_super.specs.declared.superblock.Superblock.{Superblock}
use Rattle.md_bitmap.specs.declared.chunks.Chunks.{Chunks}
use Rattle.md_badblocks.specs.Runs.{IsBad}
use Rattle.md_members.specs.declared.area.Area.{Area}
use Rattle.md_members.specs.Areas.{AreApart, bitmap_area, bitmap_sectors, data_area, log_area, super_area}
use Rattle.md_assembly.specs.declared.state.MemberState.{MemberState}
use Rattle.md_assembly.specs.declared.state.MemberState.TheVariants.{InSync, Recovering, Stale, Spare, Faulty}
use Rattle.md_assembly.specs.States.{is_in_sync}
use Rattle.md_assembly.proofs.Indices.{got_within}
use Rattle.md_kept_members.specs.View.{MemberView}
use Rattle.md_kept_members.specs.OnDevices.Storing.{sector_from_super}
use Rattle.md_kept_members.proofs.OnDeviceLemmas.Beside.{apart_either_way, sector_at_is}
use Rattle.md_state.specs.Missing.{is_rebuilt}
use Rattle.md_state.specs.View.{ArrayView, Disk, MirrorView}
use Rattle.md_array.specs.Consistency.{HasPlaces, HasSuper, IsConsistent}
use Rattle.md_array.specs.Steps.Lend.{AreBack, ComesBackFromLoan, IsBesideChunk}
use Rattle.md_array.specs.ReadAsKept.{AreReadAsKept, IsReadAsKept}
use Rattle.md_array.specs.Worlds.{block_on, header_on, is_listed, is_listed_next, super_in}
use Rattle.md_array.proofs.StepLemmas.OneMember.{fits_like, like_itself}
use Rattle.md_array.proofs.Worlds.Listed.{IsLogKept}
use Rattle.md_array.proofs.Worlds.PartsApart.{HasParts, parts_of}
use Rattle.md_array.proofs.Worlds.ReadAsKept as read_as_kept

-- ---- beside the data lies beside each chunk
chunk_starts_inside : (size width c : ℕ) → 0 < width → c < div_ceil size width → c * width ≤ size
chunk_starts_inside size width c wide low =
    let bounds = div_ceil_times size width wide in
    let expand : (c + 1) * width ≡ c * width + 1 * width = add-mul c 1 width in
    let next : c + 1 ≤ div_ceil size width = omega arith in
    let up : (c + 1) * width ≤ div_ceil size width * width = mul-le-mul_right width next in
    omega (arith, bounds.1)

beside_data : (chunks : Chunks) (offset at n c : ℕ) → c * chunks.sectors ≤ chunks.size → (at + n ≤ 512 * offset) ⊎ (512 * (offset + chunks.size) ≤ at) → IsBesideChunk chunks offset at n c
beside_data chunks offset at n c inside (inl before) = inl (omega arith)
beside_data chunks offset at n c inside (inr behind) = inr (omega arith)

-- an area that is apart from the data
apart_from_data : (v : Superblock) (a : Area) (start size : ℕ) → a.start ≡ pos start → size ≤ v.data_size → AreApart (data_area v) a
    → (512 * (start + a.sectors) ≤ 512 * v.data_offset) ⊎ (512 * (v.data_offset + size) ≤ 512 * start)
apart_from_data v a start size at holds (inl before) = inr (omega (arith, ints))
apart_from_data v a start size at holds (inr behind) = inl (omega (arith, ints))

within_either : (from to at n low high : ℕ) → from ≤ at → at + n ≤ to → (to ≤ low) ⊎ (high ≤ from) → (at + n ≤ low) ⊎ (high ≤ at)
within_either from to at n low high a b (inl before) = inl (omega arith)
within_either from to at n low high a b (inr behind) = inr (omega arith)

-- ---- a device that comes back
pub unrebuilt : (s : MemberState) → is_in_sync s ≡ true → is_rebuilt s ≡ false
unrebuilt (InSync role) h = refl
unrebuilt (Recovering role) h = absurd cc
unrebuilt (Stale role) h = absurd cc
unrebuilt Spare h = absurd cc
unrebuilt Faulty h = absurd cc

pub same_super : (m : MemberView) (d e : Disk) → e.content ≡ d.content → HasSuper m d → HasSuper m e
same_super m d e same has = record {
  super = has.super;
  is = ap (λ (c : List ℕ). super_in (block_on c)) same ∙ has.is;
  number = has.number;
  recovering = has.recovering;
  places = subst (λ (c : List ℕ). HasPlaces m (block_on c)) (sym same) has.places;
  listed = λ s. subst (λ (c : List ℕ). is_listed m.superblock c s ≡ true → is_listed_next m.superblock c s ≡ true) (sym same) (has.listed s);
  known = λ s. subst (λ (c : List ℕ). is_listed_next m.superblock c s ≡ true → IsBad m.bad s) (sym same) (has.known s);
}

module _ (old : MirrorView) (sound : IsConsistent old) where
  abbrev a : ArrayView
  a = old.array

  module _ (m : MemberView) (d e : Disk) (back : ComesBackFromLoan a m d e) (has : HasParts a m d.content) where
    -- bytes that lie beside the data are as they were
    pub beside : (at n : ℕ) → (at + n ≤ 512 * m.superblock.data_offset) ⊎ (512 * (m.superblock.data_offset + a.chunks.size) ≤ at) → part e.content at n ≡ part d.content at n
    beside at n out = back.beside at n (λ c low missing.
        beside_data a.chunks m.superblock.data_offset at n c
        (chunk_starts_inside a.chunks.size a.chunks.sectors c sound.chunks.wide (subst (λ (x : ℕ). c < x) sound.chunks.count low)) out)

    holds : a.chunks.size ≤ m.superblock.data_size
    holds = subst (λ (x : ℕ). x ≤ m.superblock.data_size) has.size has.placed.data_holds

    pub in_area : (x : Area) (start : ℕ) → x.start ≡ pos start → AreApart (data_area m.superblock) x → (at n : ℕ) → 512 * start ≤ at → at + n ≤ 512 * (start + x.sectors)
        → part e.content at n ≡ part d.content at n
    in_area x start is apart at n from to = beside at n
        (within_either (512 * start) (512 * (start + x.sectors)) at n (512 * m.superblock.data_offset) (512 * (m.superblock.data_offset + a.chunks.size)) from to
        (apart_from_data m.superblock x start a.chunks.size is holds apart))

    pub block_back : block_on e.content ≡ block_on d.content
    block_back = in_area super_area 8 refl (apart_either_way super_area (data_area m.superblock) has.placed.data_apart) 4096 4096 (omega arith) (omega arith)

    pub log_back : IsLogKept m.superblock d.content e.content
    log_back there =
        let log = has.placed.log there in
        in_area (log_area m.superblock) (sector_from_super m.superblock.bblog_offset) (sector_at_is (log_area m.superblock).start log.within.from) log.from_data
        (512 * sector_from_super m.superblock.bblog_offset) (512 * m.superblock.bblog_size) (omega arith) (omega arith)

    pub header_back : header_on e.content (sector_from_super m.superblock.bitmap_offset) ≡ header_on d.content (sector_from_super m.superblock.bitmap_offset)
    header_back =
        let width : ℕ = bitmap_sectors m.stored.chunks in
        let some = div_ceil_times (256 + div_ceil m.stored.chunks 8) 512 (omega arith) in
        let start : ℕ = sector_from_super m.superblock.bitmap_offset in
        in_area (bitmap_area m.superblock width) start (sector_at_is (bitmap_area m.superblock width).start has.bitmap.within.from) has.bitmap.from_data (512 * start) 256 (omega arith) (omega (arith, some.0))

    pub read_back : (failed_at : ℕ) (is_spoiled : Bool) → IsReadAsKept a m failed_at is_spoiled d.content → IsReadAsKept a m failed_at is_spoiled e.content
    read_back failed_at is_spoiled = read_as_kept.stays a m failed_at is_spoiled d.content e.content block_back log_back
        (λ width. ap (λ (h : List ℕ). number_at 4 52 h / 512) header_back ∙ width)

  module _ (new : MirrorView) (b : AreBack old new) where
    was : (k : ℕ) (e : Disk) → slice_get new.disks k ≡ Some e → (d : Disk) × (slice_get old.disks k ≡ Some d)
    was k e at =
        let low = slice_get_within new.disks k e at in
        let many = b.as_many in
        got_within old.disks k (omega arith)

    -- with the array as it was
    abbrev now : MirrorView
    now = record old { disks = new.disks }

    now_is : now ≡ new
    now_is = ap (λ (x : ArrayView). record new { array = x }) (sym b.array)

    now_is_consistent : IsConsistent now
    now_is_consistent = record {
      fits = record {
        as_many = b.as_many ∙ sound.fits.as_many;
        each = λ k e m at_disk at_member.
            let d = was k e at_disk in
            fits_like a a m m d.0 e refl (like_itself m) (b.each k d.0 e m d.1 at_disk at_member).size (sound.fits.each k d.0 m d.1 at_member);
      };
      roles = sound.roles;
      chunks = sound.chunks;
      inside = sound.inside;
      supers = λ running k e m at_disk at_member in_sync honest.
          let d = was k e at_disk in
          let back = b.each k d.0 e m d.1 at_disk at_member in
          same_super m d.0 e (back.others (unrebuilt m.state in_sync)) (sound.supers running k d.0 m d.1 at_member in_sync (sym back.stays.honest ∙ honest));
    }

    pub back_is_consistent : IsConsistent new
    back_is_consistent = subst IsConsistent now_is now_is_consistent

    pub back_is_read : (failed_at : ℕ) (spoiled : ℕ → Bool) → AreReadAsKept old failed_at spoiled → AreReadAsKept new failed_at spoiled
    back_is_read failed_at spoiled are = subst (λ (v : MirrorView). AreReadAsKept v failed_at spoiled) now_is
        (λ k e m at_disk at_member.
        let d = was k e at_disk in
        read_back m d.0 e (b.each k d.0 e m d.1 at_disk at_member) (parts_of old sound k d.0 m d.1 at_member) failed_at (spoiled k) (are k d.0 m d.1 at_member))
