-- What stands apart from an area of a device stays when the area is written, a member's data too.
use Rattle.std.proofs.Common.{◌≡◌, ℕ, ◌+◌, ◌*◌, ◌≤◌, ◌⊎◌, inl, inr, true, List, ℤ, pos, negsuc, ◌+ℤ◌, ◌≤ℤ◌, refl, sym, ◌∙◌, arith}
use Rattle.std.proofs.lemmas.Int.{ints}
use Rattle.md_device.specs.Splice.{part, SameOutside}
use Rattle.md_device.proofs.Splices.{part_before, part_after}
use Rattle.md_super.specs.Log.{has_bad_block_log}
use Rattle.md_members.specs.declared.area.Area.{Area}
use Rattle.md_members.specs.Areas.{AreApart, AreAreasPlaced, bitmap_area, bitmap_sectors, data_area, has_bitmap, log_area, super_area}
use Rattle.md_members.specs.Reading.{BitmapStartsAt}
use Rattle.md_kept_members.specs.View.{MemberView}
use Rattle.md_kept_members.specs.OnDevices.Storing.{KeepsDataOn, sector_at, sector_from_super}

pub sector_at_is : (z : ℤ) → pos 0 ≤ℤ z → z ≡ pos (sector_at z)
sector_at_is (pos n) h = refl
sector_at_is (negsuc n) h = absurd (omega (arith, ints))

pub apart_either_way : (a b : Area) → AreApart a b → AreApart b a
apart_either_way a b (inl before) = inr before
apart_either_way a b (inr behind) = inl behind

pub apart : (p q : ℤ) (s start m n : ℕ) → p ≡ pos s → q ≡ pos start → ((p +ℤ pos m) ≤ℤ q) ⊎ ((q +ℤ pos n) ≤ℤ p) → (s + m ≤ start) ⊎ (start + n ≤ s)
apart p q s start m n e f (inl h) = inl (omega (arith, ints))
apart p q s start m n e f (inr h) = inr (omega (arith, ints))

-- an area is written, from this sector on
pub stays : (written : Area) (start : ℕ) → written.start ≡ pos start → (old new : List ℕ) → SameOutside (512 * start) (512 * written.sectors) old new
    → (a : Area) (s : ℕ) → a.start ≡ pos s → AreApart a written → (i m : ℕ) → 512 * s ≤ i → i + m ≤ 512 * (s + a.sectors) → part new i m ≡ part old i m
stays written start at old new same a s e h i m from to =
    elim (apart a.start written.start s start a.sectors written.sectors e at h) [
      | inl before ↦ part_before same i m (omega arith)
      | inr behind ↦ part_after same i m (omega arith)
    ]

-- ---- a member's data
data_beside : (n : MemberView) (old new : List ℕ) (area : Area) (start : ℕ) → area.start ≡ pos start → AreApart (data_area n.superblock) area
    → SameOutside (512 * start) (512 * area.sectors) old new → KeepsDataOn n old new
data_beside n old new area start at apart same i m from to =
    stays area start at old new same (data_area n.superblock) n.superblock.data_offset refl apart i m from to

pub data_then : (n : MemberView) (old mid new : List ℕ) → KeepsDataOn n old mid → KeepsDataOn n mid new → KeepsDataOn n old new
data_then n old mid new first second i m from to = second i m from to ∙ first i m from to

module _ (n : MemberView) (old new : List ℕ) (sectors : ℕ) (placed : AreAreasPlaced sectors n.superblock (bitmap_sectors n.stored.chunks)) where
  pub data_beside_bitmap : has_bitmap n.superblock ≡ true → (start : ℕ) → BitmapStartsAt n.superblock start
      → SameOutside (512 * start) (512 * bitmap_sectors n.stored.chunks) old new → KeepsDataOn n old new
  data_beside_bitmap has start starts =
      data_beside n old new (bitmap_area n.superblock (bitmap_sectors n.stored.chunks)) start (sym starts) (placed.bitmap has).from_data

  pub data_beside_super : SameOutside (512 * 8) 4096 old new → KeepsDataOn n old new
  data_beside_super = data_beside n old new super_area 8 refl (apart_either_way super_area (data_area n.superblock) placed.data_apart)

  pub data_beside_log : has_bad_block_log n.superblock ≡ true → SameOutside (512 * sector_from_super n.superblock.bblog_offset) (512 * n.superblock.bblog_size) old new → KeepsDataOn n old new
  data_beside_log there =
      let log = placed.log there in
      data_beside n old new (log_area n.superblock) (sector_from_super n.superblock.bblog_offset) (sector_at_is (log_area n.superblock).start log.within.from) log.from_data
