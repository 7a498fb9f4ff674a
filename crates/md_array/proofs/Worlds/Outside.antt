-- What stands apart from an area of a device stays when the area is written: the superblock, the data, the log and the bitmap.
use Rattle.std.proofs.Common.{◌≡◌, ℕ, ◌+◌, ◌*◌, ◌/◌, ◌<◌, ◌≤◌, ◌⊎◌, inl, inr, List, drop, slice_index, pos, ◌≤ℤ◌, refl, sym, ap, ◌∙◌, arith, get_or-drop}
use Rattle.std.proofs.lemmas.Int.{ints}
use Rattle.md_device.specs.Splice.{part, SameOutside}
use Rattle.md_device.proofs.Splices.{part_before, part_after, slice_index-part}
use Rattle.md_super.specs.declared.superblock.Superblock.{Superblock}
use Rattle.md_bitmap.specs.Marks.{is_set}
use Rattle.md_members.specs.declared.area.Area.{Area}
use Rattle.md_members.specs.Areas.{AreApart, end_of_area, super_area, data_area, log_area}
use Rattle.md_members.specs.Reading.{BitmapStartsAt}
use Rattle.md_kept_members.specs.OnDevices.Storing.{sector_from_super, sector_at}
use Rattle.md_kept_members.proofs.OnDeviceLemmas.Beside.{apart, sector_at_is, stays}
use Rattle.md_array.specs.Worlds.{block_on, header_on}
use Rattle.md_array.proofs.Worlds.Writes.{is_set-same}

-- a sector where the bitmap starts is the one that the world takes
pub starts_at : (v : Superblock) (start : ℕ) → BitmapStartsAt v start → sector_from_super v.bitmap_offset ≡ start
starts_at v start at = ap sector_at (sym at)

-- what lies in an area is apart from what the area is apart from
pub record LiesIn (outer inner : Area) : Type 0 where
  pub from : outer.start ≤ℤ inner.start
  pub to : end_of_area inner ≤ℤ end_of_area outer

pub apart_from_part : (a outer inner : Area) → LiesIn outer inner → AreApart a outer → AreApart a inner
apart_from_part a outer inner i (inl before) = let from = i.from in inl (omega (arith, ints))
apart_from_part a outer inner i (inr behind) = let to = i.to in inr (omega (arith, ints))

-- one byte
pub byte_of_part : (p : ℕ) (old new : List ℕ) → part new p 1 ≡ part old p 1 → slice_index new p ≡ slice_index old p
byte_of_part p old new same =
    let whole : p + 0 ≡ p = omega arith in
    let one : (xs : List ℕ) → slice_index (part xs p 1) 0 ≡ slice_index xs p = λ xs. slice_index-part xs p 1 0 (omega arith) ∙ ap (slice_index xs) whole in
    sym (one new) ∙ ap (λ (xs : List ℕ). slice_index xs 0) same ∙ one old

-- one outside of what may differ
pub byte_stays : (at n p : ℕ) (old new : List ℕ) → SameOutside at n old new → (p < at) ⊎ (at + n ≤ p) → slice_index new p ≡ slice_index old p
byte_stays at n p old new same where_is =
    byte_of_part p old new (elim where_is [
      | inl before ↦ part_before same p 1 (omega arith)
      | inr behind ↦ part_after same p 1 (omega arith)
    ])

-- the area that is written, from this sector on
module _ (written : Area) (start : ℕ) (at : written.start ≡ pos start) (old new : List ℕ) (same : SameOutside (512 * start) (512 * written.sectors) old new) where
  beside : (a : Area) (s : ℕ) → a.start ≡ pos s → AreApart a written → (i m : ℕ) → 512 * s ≤ i → i + m ≤ 512 * (s + a.sectors) → part new i m ≡ part old i m
  beside = stays written start at old new same

  pub block_stays : AreApart super_area written → block_on new ≡ block_on old
  block_stays h = beside super_area 8 refl h 4096 4096 (omega arith) (omega arith)

  module _ (v : Superblock) where
    pub data_stays : AreApart (data_area v) written → v.size ≤ v.data_size → (s : ℕ) → s < v.size
        → part new (512 * (v.data_offset + s)) 512 ≡ part old (512 * (v.data_offset + s)) 512
    data_stays h holds s below = beside (data_area v) v.data_offset refl h (512 * (v.data_offset + s)) 512 (omega arith) (omega arith)

    pub log_stays : AreApart (log_area v) written → pos 0 ≤ℤ (log_area v).start
        → part new (512 * sector_from_super v.bblog_offset) (512 * v.bblog_size) ≡ part old (512 * sector_from_super v.bblog_offset) (512 * v.bblog_size)
    log_stays h from =
        beside (log_area v) (sector_from_super v.bblog_offset) (sector_at_is (log_area v).start from) h
        (512 * sector_from_super v.bblog_offset) (512 * v.bblog_size) (omega arith) (omega arith)

  -- of a bitmap in the area a from a sector on
  module _ (a : Area) (first : ℕ) (from : a.start ≡ pos first) (h : AreApart a written) where
    pub header_stays : 0 < a.sectors → header_on new first ≡ header_on old first
    header_stays some = beside a first from h (512 * first) 256 (omega arith) (omega arith)

    pub bit_stays : (c : ℕ) → 256 + c / 8 < 512 * a.sectors → is_set (drop (512 * first + 256) new) c ≡ is_set (drop (512 * first + 256) old) c
    bit_stays c within = is_set-same (drop (512 * first + 256) new) (drop (512 * first + 256) old) c
        (get_or-drop (512 * first + 256) new (c / 8) 0
        ∙ byte_stays (512 * start) (512 * written.sectors) (512 * first + 256 + c / 8) old new same
        (elim (apart a.start written.start first start a.sectors written.sectors from at h) [ inl before ↦ inl (omega arith) | inr behind ↦ inr (omega arith) ])
        ∙ sym (get_or-drop (512 * first + 256) old (c / 8) 0))
